-- The calls of a rule all of whose calls before a character are in a set.
use Rattle.std.proofs.Common.{◌≡◌, ℕ, ◌-◌, ◌<◌, ◌≤◌, List, length, Option, Some, None, refl, sym, ap, ◌∙◌, subst}
use Rattle.std.proofs.Common.{⊎_elim, inl, inr, arith}
use Rattle.std.proofs.lemmas.Option.{slice_get-map}
use Rattle.std.specs.Prelude.{Bool, true, false, ◌||◌, ◌&&◌, not, ◌⊎◌, ◌≢◌, is_some, slice_get, slice_set, option_map}
use Rattle.rpl_core.specs.Core.{Core, Set, Seq, Choice, Many, Not, And, Behind, Call, Capture, Note, Start, End, Halt}
use Rattle.rpl_core.specs.Core.{Cores, NoMore, Then}
use Rattle.rpl_core.specs.Table.{bodies_of}
use Rattle.rpl_core.specs.View.{core_of}
use Rattle.rpl_core.specs.declared.rules.Rule.{Rule}
use Rattle.rpl_compile_laws.specs.Static.{may_be_empty}
use Rattle.rpl_facts.specs.Facts.{calls_here, front_calls_here, any_calls_here, calls_at, passes}
use Rattle.rpl_core.specs.Marks.{marked}
use Rattle.rpl_check.specs.inside.Search.{marked_from}
use Rattle.rpl_facts.specs.Groups.{CallsBefore}
use Rattle.rpl_check.specs.inside.Search.{AreClean, calls_within, front_calls_within, each_calls_within, within_or_none}
use Rattle.rpl_check.proofs.Following.{no_self, from_cases}
use Rattle.rpl_facts.proofs.Settling.{set_cases}
use Rattle.rpl_core.proofs.Bools.{clash, either, both, eq_of, eq_self, left, paired, right}

after : (a b : Bool) → (not a || b) ≡ true → a ≡ true → b ≡ true
after true b e f = e
after false b e f = absurd (cc)

module _ (m w : ℕ → Bool) (t : ℕ) where
  mutual
    pub within_called : (e : Core) → calls_within m w e ≡ true → calls_here m e t ≡ true → w t ≡ true
    within_called (Set s) i c = absurd (cc)
    within_called (Seq ps) i c = front_called ps i c
    within_called (Choice ps) i c = each_called ps i c
    within_called (Many p) i c = within_called p i c
    within_called (Not p) i c = within_called p i c
    within_called (And p) i c = within_called p i c
    within_called (Behind a b p) i c = within_called p i c
    within_called (Call r) i c = subst (λ x. w x ≡ true) (eq_of r t c) i
    within_called (Capture x p) i c = within_called p i c
    within_called (Note x) i c = absurd (cc)
    within_called Start i c = absurd (cc)
    within_called End i c = absurd (cc)
    within_called Halt i c = absurd (cc)

    front_called : (ps : Cores) → front_calls_within m w ps ≡ true → front_calls_here m ps t ≡ true → w t ≡ true
    front_called NoMore i c = absurd (cc)
    front_called (Then p ps) i c =
        let x = both (calls_within m w p) (not (may_be_empty m p) || front_calls_within m w ps) i in
        either (calls_here m p t) (may_be_empty m p && front_calls_here m ps t) (within_called p x.0) (λ y. let z =
        both (may_be_empty m p) (front_calls_here m ps t) y in
        front_called ps (after (may_be_empty m p) (front_calls_within m w ps) x.1 z.0) z.1) c

    each_called : (ps : Cores) → each_calls_within m w ps ≡ true → any_calls_here m ps t ≡ true → w t ≡ true
    each_called NoMore i c = absurd (cc)
    each_called (Then p ps) i c =
        let x = both (calls_within m w p) (each_calls_within m w ps) i in
        either (calls_here m p t) (any_calls_here m ps t) (within_called p x.0) (each_called ps x.1) c

some_within : (a b : Bool) → is_some (within_or_none a b) ≡ true → a ≡ true
some_within true b e = refl
some_within false b e = absurd (cc)

-- the calls of a rule whose front is within
pub rule_within : (rules : List Rule) (m w : ℕ → Bool) (k : ℕ) (rule : Rule) (o : Option Bool)
    → Some rule ≡ slice_get rules k
    → o ≡ within_or_none (calls_within m w (core_of rule.body)) (may_be_empty m (core_of rule.body)) → is_some o ≡ true
    → (t : ℕ) → calls_at m (bodies_of rules) k t ≡ true → w t ≡ true
rule_within rules m w k rule o is e some t c =
    let p = core_of rule.body in
    let body : slice_get (bodies_of rules) k ≡ Some p = slice_get-map (λ (r : Rule). core_of r.body) rules k
    ∙ sym (ap (option_map (λ (r : Rule). core_of r.body)) is) in
    within_called m w t p (some_within (calls_within m w p) (may_be_empty m p) (sym (ap is_some e) ∙ some))
    (sym (ap (passes (λ x. calls_here m x t)) body) ∙ c)

-- no rule calls nothing
pub no_rule_calls : {X : Type 0} (rules : List Rule) (m : ℕ → Bool) (k t : ℕ) → None ≡ slice_get rules k
    → calls_at m (bodies_of rules) k t ≡ true → X
no_rule_calls rules m k t is c =
    let body : slice_get (bodies_of rules) k ≡ None = slice_get-map (λ (r : Rule). core_of r.body) rules k
    ∙ sym (ap (option_map (λ (r : Rule). core_of r.body)) is) in
    clash (calls_at m (bodies_of rules) k t) c (ap (passes (λ x. calls_here m x t)) body)

-- one more
pub clean_more : (R : List Core) (m : ℕ → Bool) (a n : ℕ) (clean : List Bool) → CallsBefore R a → a ≤ n
    → n - a < length clean → marked clean (n - a) ≡ false
    → ((t : ℕ) → calls_at m R n t ≡ true → marked_from a clean t ≡ true) → AreClean R m a clean
    → AreClean R m a (slice_set clean (n - a) true)
clean_more R m a n clean early le fit off calls old reach all r ar on =
    ⊎_elim (λ x. same (omega (arith, x.0))) (λ x. old reach all r ar (sym x.1 ∙ on))
    (set_cases clean (n - a) (r - a) fit)
  where
    away : (t : ℕ) → calls_at m R n t ≡ true → (t < a) ⊎ ((t ≢ n) × (reach t t ≡ false))
    away t c =
        ⊎_elim (λ l. inl l) (λ x. inr (
          λ z. clash (marked clean (t - a)) x.1 (ap (λ y. marked clean (y - a)) z ∙ off),
          old reach all t x.0 x.1,
        )) (from_cases a clean t (calls t c))

    same : r ≡ n → reach r r ≡ false
    same z = subst (λ x. reach x x ≡ false) (sym z) (no_self R m reach all a n early le away)

-- where a front isn't within, a call is outside
outside : (a b : Bool) → (a && b) ≡ false → (a ≡ false) ⊎ ((a ≡ true) × (b ≡ false))
outside true b e = inr (refl, e)
outside false b e = inl refl

or_not : (a b : Bool) → (not a || b) ≡ false → (a ≡ true) × (b ≡ false)
or_not true b e = (refl, e)
or_not false b e = absurd (cc)

module _ (m w : ℕ → Bool) where
  mutual
    pub missed : (e : Core) → calls_within m w e ≡ false → (t : ℕ) × (calls_here m e t ≡ true) × (w t ≡ false)
    missed (Set s) i = absurd (cc)
    missed (Seq ps) i = front_missed ps i
    missed (Choice ps) i = each_missed ps i
    missed (Many p) i = missed p i
    missed (Not p) i = missed p i
    missed (And p) i = missed p i
    missed (Behind a b p) i = missed p i
    missed (Call r) i = (r, eq_self r, i)
    missed (Capture x p) i = missed p i
    missed (Note x) i = absurd (cc)
    missed Start i = absurd (cc)
    missed End i = absurd (cc)
    missed Halt i = absurd (cc)

    front_missed : (ps : Cores) → front_calls_within m w ps ≡ false → (t : ℕ) × (front_calls_here m ps t ≡ true)
        × (w t ≡ false)
    front_missed NoMore i = absurd (cc)
    front_missed (Then p ps) i =
        ⊎_elim (λ off. let x = missed p off in
        (x.0, left (calls_here m p x.0) (may_be_empty m p && front_calls_here m ps x.0) x.1, x.2))
        (λ y. let z = or_not (may_be_empty m p) (front_calls_within m w ps) y.1 in
        let x = front_missed ps z.1 in (
          x.0,
          right (calls_here m p x.0) (may_be_empty m p && front_calls_here m ps x.0)
              (paired (may_be_empty m p) (front_calls_here m ps x.0) z.0 x.1),
          x.2,
        ))
        (outside (calls_within m w p) (not (may_be_empty m p) || front_calls_within m w ps) i)

    each_missed : (ps : Cores) → each_calls_within m w ps ≡ false → (t : ℕ) × (any_calls_here m ps t ≡ true)
        × (w t ≡ false)
    each_missed NoMore i = absurd (cc)
    each_missed (Then p ps) i =
        ⊎_elim (λ off. let x = missed p off in (x.0, left (calls_here m p x.0) (any_calls_here m ps x.0) x.1, x.2))
        (λ y. let x = each_missed ps y.1 in (x.0, right (calls_here m p x.0) (any_calls_here m ps x.0) x.1, x.2))
        (outside (calls_within m w p) (each_calls_within m w ps) i)

none_within : (a b : Bool) → is_some (within_or_none a b) ≡ false → a ≡ false
none_within true b e = absurd (cc)
none_within false b e = refl

-- a call of a rule whose front isn't within
pub rule_missed : (rules : List Rule) (m w : ℕ → Bool) (k : ℕ) (rule : Rule) (o : Option Bool)
    → Some rule ≡ slice_get rules k
    → o ≡ within_or_none (calls_within m w (core_of rule.body)) (may_be_empty m (core_of rule.body)) → is_some o ≡ false
    → (t : ℕ) × (calls_at m (bodies_of rules) k t ≡ true) × (w t ≡ false)
rule_missed rules m w k rule o is e none =
    let p = core_of rule.body in
    let body : slice_get (bodies_of rules) k ≡ Some p = slice_get-map (λ (r : Rule). core_of r.body) rules k
    ∙ sym (ap (option_map (λ (r : Rule). core_of r.body)) is) in
    let x = missed m w p (none_within (calls_within m w p) (may_be_empty m p) (sym (ap is_some e) ∙ none)) in
    (x.0, ap (passes (λ y. calls_here m y x.0)) body ∙ x.1, x.2)
