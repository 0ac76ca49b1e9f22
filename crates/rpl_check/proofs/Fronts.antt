-- What the parts of a sequence or a choice call, one after the other.
use Rattle.std.proofs.Common.{◌≡◌, ℕ, ◌+◌, ◌<◌, ◌≤◌, List, length, drop, get_or, refl, sym, ap, ◌∙◌}
use Rattle.std.proofs.Math.Bool.{or-false}
use Rattle.std.proofs.lemmas.List.{drop_all}
use Rattle.std.specs.Prelude.{Bool, true, false, ◌||◌, ◌&&◌}
use Rattle.rpl_core.specs.declared.peg.Peg.{Peg}
use Rattle.rpl_core.specs.View.{core_of, cores}
use Rattle.rpl_compile_laws.specs.Static.{may_be_empty, any_may_be_empty}
use Rattle.rpl_facts.specs.Facts.{calls_here, front_calls_here, any_calls_here}
use Rattle.rpl_core.proofs.Walk.{drop_here}

module _ (m : ℕ → Bool) (ps : List Peg) (k : ℕ) where
  module _ (p : Peg) (lt : k < length ps) (is : p ≡ get_or ps k p) where
    pub front_on : may_be_empty m (core_of p) ≡ true → (t : ℕ)
        → (calls_here m (core_of p) t || front_calls_here m (cores (drop (k + 1) ps)) t)
        ≡ front_calls_here m (cores (drop k ps)) t
    front_on e t = sym (ap (λ l. front_calls_here m (cores l) t) (drop_here ps k p lt is)
        ∙ ap (λ b. calls_here m (core_of p) t || (b && front_calls_here m (cores (drop (k + 1) ps)) t)) e)

    pub front_stops : may_be_empty m (core_of p) ≡ false → (t : ℕ)
        → calls_here m (core_of p) t ≡ front_calls_here m (cores (drop k ps)) t
    front_stops e t = sym (ap (λ l. front_calls_here m (cores l) t) (drop_here ps k p lt is)
        ∙ ap (λ b. calls_here m (core_of p) t || (b && front_calls_here m (cores (drop (k + 1) ps)) t)) e
        ∙ or-false (calls_here m (core_of p) t))

    pub any_on : (t : ℕ) → (calls_here m (core_of p) t || any_calls_here m (cores (drop (k + 1) ps)) t)
        ≡ any_calls_here m (cores (drop k ps)) t
    any_on t = sym (ap (λ l. any_calls_here m (cores l) t) (drop_here ps k p lt is))

    pub any_empty : (whole any now next : Bool) → whole ≡ (any || any_may_be_empty m (cores (drop k ps)))
        → now ≡ may_be_empty m (core_of p) → next ≡ (any || now)
        → whole ≡ (next || any_may_be_empty m (cores (drop (k + 1) ps)))
    any_empty whole any now next e f g =
        let rest = any_may_be_empty m (cores (drop (k + 1) ps)) in
        e ∙ ap (λ l. any || any_may_be_empty m (cores l)) (drop_here ps k p lt is)
        ∙ ap (λ b. any || (b || rest)) (sym f) ∙ assoc any now rest ∙ ap (λ b. b || rest) (sym g)
      where
        assoc : (a b c : Bool) → (a || (b || c)) ≡ ((a || b) || c)
        assoc true b c = refl
        assoc false b c = refl

  pub front_over : length ps ≤ k → (t : ℕ) → false ≡ front_calls_here m (cores (drop k ps)) t
  front_over le t = sym (ap (λ l. front_calls_here m (cores l) t) (drop_all k ps le))

  pub any_over : length ps ≤ k → (t : ℕ) → false ≡ any_calls_here m (cores (drop k ps)) t
  any_over le t = sym (ap (λ l. any_calls_here m (cores l) t) (drop_all k ps le))
