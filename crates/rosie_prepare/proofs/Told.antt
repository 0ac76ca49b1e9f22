-- Lines that are told.
use Rattle.std.proofs.Common.{◌≡◌, ℕ, List, sym, ◌∙◌, ap, subst}
use Rattle.std.specs.Prelude.{IfOk, Option, Some, Result, Ok, Err}
use Rattle.rosie_prepare.specs.Lines.{Line, rule_line}
use Rattle.rpl_names.specs.Roots.{Packages}

module _ {X E : Type 0} (bytes : X → List ℕ) (r : Result X E) where
  -- the same rule with the same text has the same line
  pub line_with :
      (p : Packages) (rule other : Option ℕ) (text same : List ℕ) → rule ≡ other → text ≡ same
      → IfOk r (λ x. bytes x ≡ rule_line p rule text) → IfOk r (λ x. bytes x ≡ rule_line p other same)
  line_with p rule other text same alike e h =
      subst (λ t. IfOk r (λ x. bytes x ≡ rule_line p other t)) e
      (subst (λ s. IfOk r (λ x. bytes x ≡ rule_line p s text)) alike h)

-- a line that is due
pub line_due :
    {X E : Type 0} (bytes : X → List ℕ) (r : Result X E) (due : Option Line) (line : Line) → due ≡ Some line
    → IfOk r (λ x. bytes x ≡ line) → IfOk r (λ x. due ≡ Some (bytes x))
line_due bytes (Ok x) due line e h = e ∙ ap Some (sym h)
line_due bytes (Err x) due line e h = tt
