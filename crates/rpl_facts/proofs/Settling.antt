-- How the rounds over a block go on, and what they come to.
use Rattle.std.proofs.Common.{◌≡◌, ℕ, ◌+◌, ◌-◌, ◌<◌, ◌≤◌, List, length, replicate, zero, suc, refl, sym, ◌∙◌, subst}
use Rattle.std.proofs.Common.{⊎_elim, inl, inr, arith}
use Rattle.std.proofs.lemmas.Bool.{cases_lt, cases_eq}
use Rattle.std.proofs.lemmas.List.{get_or-set_same, get_or-set_other, length-set}
use Rattle.std.specs.Prelude.{Bool, true, false, slice_get, slice_set, ◌≢◌, ◌⊎◌}
use Rattle.rpl_core.specs.Core.{Core}
use Rattle.rpl_core.specs.Programs.{calls}
use Rattle.rpl_facts.specs.declared.facts.Fact as F
use Rattle.rpl_facts.specs.declared.facts.Fact.TheVariants as V
use Rattle.rpl_facts.specs.Facts.{Solves, passes}
use Rattle.rpl_core.specs.Marks.{marked, count}
use Rattle.rpl_facts.specs.Tests.{test_of}
use Rattle.rpl_facts.specs.inside.Rounds.{IsUnder, IsSettled, Grows, AreKnown}
use Rattle.rpl_facts.specs.Groups.{CallsBefore}
use Rattle.rpl_core.proofs.Counts.{count_lt, count_le, count_all_le}
use Rattle.rpl_facts.proofs.Least.{empty_grows, halt_grows}
use Rattle.rpl_facts.proofs.Tests.{passing, pass_at}

pub test_grows : (fact : F.Fact) (m k : ℕ → Bool) (e : Core) → ((r : ℕ) → calls e r ≡ true → m r ≡ true → k r ≡ true)
    → test_of fact m e ≡ true → test_of fact k e ≡ true
test_grows V.MayBeEmpty m k e up = empty_grows m k e up
test_grows V.MayHalt m k e up = halt_grows m k e up

-- a list of marks that are all false marks no rule
pub no_marks : (n r : ℕ) → marked (replicate n false) r ≡ false
no_marks zero r = refl
no_marks (suc n) zero = refl
no_marks (suc n) (suc r) = no_marks n r

-- a mark that is set
abbrev pub SetCases : List Bool → ℕ → ℕ → Type 0
SetCases now r q = ((q ≡ r) × (marked (slice_set now r true) q ≡ true))
    ⊎ ((q ≢ r) × (marked (slice_set now r true) q ≡ marked now q))

-- where the rule r is marked, another rule is marked just as before
pub set_cases : (now : List Bool) (r q : ℕ) → r < length now → SetCases now r q
set_cases now r q lt =
    ⊎_elim (λ e. inl (
      e,
      subst (λ x. marked (slice_set now r true) x ≡ true) (sym e)
          (get_or-set_same now r true false lt),
    )) (λ ne. inr (ne, get_or-set_other now r q true false ne)) (cases_eq q r)

pub set_keeps : (now : List Bool) (r q : ℕ) → r < length now → marked now q ≡ true
    → marked (slice_set now r true) q ≡ true
set_keeps now r q lt e = ⊎_elim (λ x. x.1) (λ x. x.1 ∙ e) (set_cases now r q lt)

-- a round over the rules from a on that has come from b down to the rule r
pub record RoundTo (fact : F.Fact) (T : List Core) (a r b : ℕ) (old now : List Bool) (any : Bool) : Type 0 where
  pub grows : Grows a old now
  pub under : IsUnder (test_of fact) T (marked now)
  pub quiet : any ≡ false → (now ≡ old) × IsSettled (test_of fact) T (marked now) r b
  pub found : any ≡ true → count (marked old) (length old) < count (marked now) (length old)

pub round_begins : (fact : F.Fact) (T : List Core) (a b : ℕ) (old : List Bool) → IsUnder (test_of fact) T (marked old)
    → RoundTo fact T a b b old old false
round_begins fact T a b old u = record {
  grows = record { long = refl; more = λ r e. e; before = λ r lt. refl };
  under = u;
  quiet = λ e. (refl, λ r ge lt. absurd (omega arith));
  found = λ e. absurd (cc);
}

-- a rule that passes is marked
pub hit_grows : (a r : ℕ) (old now : List Bool) → a ≤ r → r < length now → Grows a old now
    → Grows a old (slice_set now r true)
hit_grows a r old now le fit g = record {
  long = length-set now r true ∙ g.long;
  more = λ q e. set_keeps now r q fit (g.more q e);
  before = λ q l. before q l (set_cases now r q fit);
}
  where
    before : (q : ℕ) → q < a → SetCases now r q → marked (slice_set now r true) q ≡ marked old q
    before q l s = ⊎_elim (λ x. absurd (let e = x.0 in omega arith)) (λ x. x.1 ∙ g.before q l) s

pub hit_under : (fact : F.Fact) (T : List Core) (r : ℕ) (now : List Bool) → r < length now
    → passes (test_of fact (marked now)) (slice_get T r) ≡ true → IsUnder (test_of fact) T (marked now)
    → IsUnder (test_of fact) T (marked (slice_set now r true))
hit_under fact T r now fit on u = λ k s q e. under k s q e (set_cases now r q fit)
  where
    under : (k : ℕ → Bool) → Solves (test_of fact) T k → (q : ℕ) → marked (slice_set now r true) q ≡ true
        → SetCases now r q → k q ≡ true
    under k s q e cs =
        let x = passing (test_of fact (marked now)) T r on in
        let up = test_grows fact (marked now) k x.0 (λ i c1 m. u k s i m) x.2 in
        let here = s r (pass_at (test_of fact k) T r x.0 x.1 up) in
        ⊎_elim (λ y. subst (λ z. k z ≡ true) (sym y.0) here) (λ y. u k s q (sym y.1 ∙ e)) cs

pub round_hits : (fact : F.Fact) (T : List Core) (a n r b : ℕ) (old now : List Bool) (c : Bool) → a ≤ r → r < length now
    → marked now r ≡ false → passes (test_of fact (marked now)) (slice_get T r) ≡ true → RoundTo fact T a n b old now c
    → RoundTo fact T a r b old (slice_set now r true) true
round_hits fact T a n r b old now c le fit off on h = record {
  grows = hit_grows a r old now le fit h.grows;
  under = hit_under fact T r now fit on h.under;
  quiet = λ e. absurd (cc);
  found = λ e. found;
}
  where
    found : count (marked old) (length old) < count (marked (slice_set now r true)) (length old)
    found =
        let le1 = count_le (marked old) (marked now) (length old) h.grows.more in
        let lt1 = count_lt (marked now) (marked (slice_set now r true)) (length old) r (λ q. set_keeps now r q fit)
        (omega (arith, h.grows.long)) off (get_or-set_same now r true false fit) in
        omega arith

pub round_misses : (fact : F.Fact) (T : List Core) (a r b : ℕ) (old now : List Bool) (c : Bool)
    → (passes (test_of fact (marked now)) (slice_get T r) ≡ true → marked now r ≡ true)
    → RoundTo fact T a (r + 1) b old now c → RoundTo fact T a r b old now c
round_misses fact T a r b old now c off h = record {
  grows = h.grows;
  under = h.under;
  quiet = λ e. ((h.quiet e).0, λ q ge lt on. each (h.quiet e).1 q ge on (cases_lt r q) lt);
  found = h.found;
}
  where
    each : IsSettled (test_of fact) T (marked now) (r + 1) b → (q : ℕ) → r ≤ q
        → passes (test_of fact (marked now)) (slice_get T q) ≡ true → (r < q) ⊎ (q ≤ r) → q < b → marked now q ≡ true
    each s q ge on cs lt = ⊎_elim (λ l. s q (omega arith) lt on) (λ l. let z : r ≡ q = omega arith in
        subst (λ x. passes (test_of fact (marked now)) (slice_get T x) ≡ true → marked now x ≡ true) z off on) cs

-- a block whose last round marked nothing
pub known_end : (fact : F.Fact) (T : List Core) (a b : ℕ) (first last : List Bool) → a ≤ b
    → AreKnown (test_of fact) T first a → Grows a first last → IsUnder (test_of fact) T (marked last)
    → IsSettled (test_of fact) T (marked last) a b → CallsBefore T a → AreKnown (test_of fact) T last b
known_end fact T a b first last le k g u s early = record {
  long = g.long ∙ k.long;
  under = u;
  settled = λ r z lt on. each r on lt (cases_lt r a);
}
  where
    each : (r : ℕ) → passes (test_of fact (marked last)) (slice_get T r) ≡ true → r < b → (r < a) ⊎ (a ≤ r)
        → marked last r ≡ true
    each r on lt cs =
        ⊎_elim (λ l. let x = passing (test_of fact (marked last)) T r on in
        let back = test_grows fact (marked last) (marked first) x.0 (λ i c e. sym (g.before i (early r i x.0 l x.1 c))
        ∙ e) x.2 in
        g.more r (k.settled r (omega arith) l (pass_at (test_of fact (marked first)) T r x.0 x.1 back)))
        (λ l. s r l lt on) cs

pub grows_on : (a : ℕ) (x y z : List Bool) → Grows a x y → Grows a y z → Grows a x z
grows_on a x y z g h = record {
  long = h.long ∙ g.long;
  more = λ r e. h.more r (g.more r e);
  before = λ r l. h.before r l ∙ g.before r l;
}

pub grows_none : (a : ℕ) (x : List Bool) → Grows a x x
grows_none a x = record { long = refl; more = λ r e. e; before = λ r l. refl }

pub room_less : (x y : List Bool) → length y ≡ length x → count (marked x) (length x) < count (marked y) (length x)
    → length y - count (marked y) (length y) < length x - count (marked x) (length x)
room_less x y e lt = let h = count_all_le (marked y) (length x) in rw e (omega arith)
