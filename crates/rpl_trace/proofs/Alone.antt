-- A choice of one part is that part.
use Rattle.std.proofs.Common.{◌≡◌, ◌≢◌, ℕ, suc, ◌<◌, List, [], ◌∷◌, length, Option, Some, None, refl, sym, ap, subst}
use Rattle.std.proofs.Common.{◌∙◌, arith}
use Rattle.std.specs.Prelude.{false, MatchOption, slice_get}
use Rattle.std.specs.Option.{option_copied}
use Rattle.std.specs.Borrow.{Bor}
use Rattle.rpl_core.specs.Core as C
use Rattle.rpl_core.specs.Core.{Core, NoMore}
use Rattle.rpl_core.specs.View.{core_of, cores}
use Rattle.rpl_core.specs.declared.peg.Peg.{Peg}
use Rattle.rpl_trace.specs.inside.Levels.{AreAlike, is_alone}

pub same : (p : Core) → AreAlike p p
same p = record { outcome = λ n R t i. refl; made = λ n R t i. refl }

pub then_alike : (p q r : Core) → AreAlike p q → AreAlike q r → AreAlike p r
then_alike p q r a b = record {
  outcome = λ n R t i. a.outcome n R t i ∙ b.outcome n R t i;
  made = λ n R t i. a.made n R t i ∙ b.made n R t i;
}

pub only_alike : (p q : Core) → p ≡ C.Choice (C.Then q NoMore) → AreAlike p q
only_alike p q e =
    let P : Core → Type 0 = λ x. AreAlike x q in
    subst P (sym e) (record { outcome = λ n R t i. refl; made = λ n R t i. refl })

-- how often a choice of one part stands in another
abbrev pub nested : Core → ℕ
nested (C.Choice (C.Then q NoMore)) = suc (nested q)
nested _ = 0

pub nested_less : (p q : Core) → p ≡ C.Choice (C.Then q NoMore) → nested q < nested p
nested_less p q e = let h = ap nested e in omega arith

pub found_only : (ps : List Peg) (r : Option (Bor Peg)) → length ps ≡ 1 → option_copied r ≡ slice_get ps 0
    → MatchOption r (is_alone (C.Choice (cores ps)) ≡ false) (λ p. C.Choice (cores ps)
    ≡ C.Choice (C.Then (core_of p.now) NoMore))
found_only [] r le e = absurd (omega arith)
found_only (p ∷ []) None le e = absurd (cc)
found_only (p ∷ []) (Some q) le e = let s : q.now ≡ p = cc in ap (λ x. C.Choice (C.Then (core_of x) NoMore)) (sym s)
found_only (p ∷ q ∷ ps) r le e = absurd (omega arith)

pub not_alone : (ps : List Peg) → length ps ≢ 1 → is_alone (C.Choice (cores ps)) ≡ false
not_alone [] ne = refl
not_alone (p ∷ []) ne = absurd (ne (omega arith))
not_alone (p ∷ q ∷ ps) ne = refl
