-- A rule that calls only rules of lower ranks, where no call of its block is of a higher one, is on no ring.
use Rattle.std.proofs.Common.{◌≡◌, ℕ, suc, ◌-◌, ◌<◌, ◌≤◌, List, length, refl, sym, ap, ◌∙◌, subst, ⊎_elim, arith}
use Rattle.std.proofs.lemmas.Bool.{cases_lt}
use Rattle.std.proofs.lemmas.Bool.Decides.{nat_tests}
use Rattle.std.specs.Prelude.{Bool, true, false, ◌&&◌, if◌then◌else◌, nat_lt, slice_index_or, slice_set}
use Rattle.rpl_core.specs.Core.{Core}
use Rattle.rpl_core.proofs.Bools.{both, paired}
use Rattle.rpl_facts.specs.Facts.{calls_at}
use Rattle.rpl_check.specs.inside.Ranks.{Falls, rank_of}
use Rattle.rpl_facts.specs.Groups.{CallsBefore}
use Rattle.rpl_check.specs.inside.Reach.{Reach}
use Rattle.rpl_check.specs.inside.Search.{AreClean}
use Rattle.rpl_check.proofs.Following.{called_before}
use Rattle.rpl_facts.proofs.Settling.{set_cases}

lt_of : (a b : ℕ) → nat_lt a b ≡ true → a < b
lt_of a b e = grind (arith, nat_tests)

lt_on : (a b : ℕ) → a < b → nat_lt a b ≡ true
lt_on a b l = grind (arith, nat_tests)

lt_off : (a b : ℕ) → b ≤ a → nat_lt a b ≡ false
lt_off a b l = grind (arith, nat_tests)

rank_before : (a : ℕ) (ranks : List ℕ) (t : ℕ) → t < a → rank_of a ranks t ≡ 0
rank_before a ranks t l = ap (λ b. if b then 0 else suc (slice_index_or ranks (t - a) 0)) (lt_on t a l)

pub rank_in : (a : ℕ) (ranks : List ℕ) (t : ℕ) → a ≤ t → rank_of a ranks t ≡ suc (slice_index_or ranks (t - a) 0)
rank_in a ranks t l = ap (λ b. if b then 0 else suc (slice_index_or ranks (t - a) 0)) (lt_off t a l)

module _ (R : List Core) (m : ℕ → Bool) (a e : ℕ) (ranks : List ℕ) (early : CallsBefore R a) (calls :
    CallsBefore R e) (falls : Falls R m a e ranks) where
  -- one such rule
  alone : (reach : ℕ → ℕ → Bool) → Reach R m reach → (r : ℕ) → a ≤ r → r < e
      → ((t : ℕ) → calls_at m R r t ≡ true → rank_of a ranks t < rank_of a ranks r) → reach r r ≡ false
  alone reach all r from to low = go (reach r r) refl
    where
      rank : ℕ → ℕ
      rank = rank_of a ranks

      below : ℕ → Bool
      below t = nat_lt t e && nat_lt (rank t) (rank r)

      in_set : (t : ℕ) → t < e → rank t < rank r → below t ≡ true
      in_set t l k = paired (nat_lt t e) (nat_lt (rank t) (rank r)) (lt_on t e l) (lt_on (rank t) (rank r) k)

      first : (t : ℕ) → calls_at m R r t ≡ true → below t ≡ true
      first t c = in_set t (called_before R m e r t calls to c) (low t c)

      further : (q t : ℕ) → below q ≡ true → calls_at m R q t ≡ true → below t ≡ true
      further q t x c =
          let y = both (nat_lt q e) (nat_lt (rank q) (rank r)) x in
          let l = lt_of q e y.0 in
          let k = lt_of (rank q) (rank r) y.1 in
          in_set t (called_before R m e q t calls l c) (⊎_elim (λ z. let n =
          rank_before a ranks t (called_before R m a q t early z c) in let s = rank_in a ranks r from in
          omega (arith, n, s)) (λ z. let f = falls q t z l c in omega (arith, f, k)) (cases_lt q a))

      go : (b : Bool) → reach r r ≡ b → b ≡ false
      go false x = refl
      go true x = absurd (let y =
          both (nat_lt r e) (nat_lt (rank r) (rank r)) ((all r).least below (record {
            first = first;
            further = further;
          })
          r x) in let l = lt_of (rank r) (rank r) y.1 in omega arith)

  -- it may be marked
  pub clean_alone : (n : ℕ) (clean : List Bool) → a ≤ n → n < e → n - a < length clean
      → ((t : ℕ) → calls_at m R n t ≡ true → rank_of a ranks t < rank_of a ranks n) → AreClean R m a clean
      → AreClean R m a (slice_set clean (n - a) true)
  clean_alone n clean from to fit low old reach all r ar on =
      ⊎_elim (λ x. subst (λ y. reach y y ≡ false) (omega (arith, x.0)) (alone reach all n from to low))
      (λ x. old reach all r ar (sym x.1 ∙ on)) (set_cases clean (n - a) (r - a) fit)
