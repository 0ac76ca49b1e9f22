-- The first fault of rules, and of blocks, one after the other.
use Rattle.std.proofs.Common.{◌≡◌, ℕ, zero, suc, ◌+◌, ◌-◌, ◌<◌, ◌≤◌, List, [], ◌∷◌, length, Option, Some, None, refl}
use Rattle.std.proofs.Common.{sym, ap, ◌∙◌, subst, ⊎_elim, inl, inr, arith}
use Rattle.std.proofs.lemmas.Bool.{cases_lt}
use Rattle.std.specs.Prelude.{Bool, true, false, if◌then◌else◌, slice_get, ◌⊎◌}
use Rattle.std.specs.Option.{option_or}
use Rattle.rpl_core.specs.Core.{Core}
use Rattle.rpl_check.specs.Answers.{IsDue}
use Rattle.rpl_facts.specs.Facts.{calls_at, calls_here}
use Rattle.rpl_core.specs.Order.{joins_next}
use Rattle.rpl_check.specs.Faults.{Fault, first_from}
use Rattle.rpl_check.specs.Blocks.{selves, recursion_of, fault_from}
use Rattle.rpl_core.specs.Order.{IsInOrder, block_at}
use Rattle.rpl_facts.specs.Groups.{IsGroup}
use Rattle.rpl_facts.specs.Groups.{CallsBefore}
use Rattle.rpl_check.specs.inside.Reach.{Reach}
use Rattle.rpl_check.proofs.Following.{no_self}
use Rattle.rpl_facts.proofs.Least.{here_called}
use Rattle.rpl_facts.proofs.Ordering.{last_ends}
use Rattle.rpl_check.proofs.Selves.{minus_step}
use Rattle.rpl_core.proofs.Bools.{clash}
use Rattle.rpl_facts.proofs.Tests.{passing}

-- if the first of two faults is absent, both are absent
pub or_none : {A : Type 0} (a b : Option A) → option_or a b ≡ None → (a ≡ None) × (b ≡ None)
or_none (Some x) b e = absurd (cc)
or_none None b e = (refl, e)

-- the next number
pub first_step : (f : ℕ → Option Fault) (k e : ℕ) → k < e
    → first_from f k (e - k) ≡ option_or (f k) (first_from f (k + 1) (e - (k + 1)))
first_step f k e lt = ap (first_from f k) (minus_step k e lt)

pub first_miss : (f : ℕ → Option Fault) (k e : ℕ) → k < e → f k ≡ None
    → first_from f k (e - k) ≡ first_from f (k + 1) (e - (k + 1))
first_miss f k e lt none = first_step f k e lt ∙ ap (λ o. option_or o (first_from f (k + 1) (e - (k + 1)))) none

-- what is due first is due
pub due_first : (whole a b x : Option Fault) → whole ≡ option_or a b → IsDue a x → IsDue whole x
due_first whole a b None e h = tt
due_first whole a b (Some f) e h = e ∙ ap (λ o. option_or o b) h

pub none_first : (whole a b : Option Fault) → whole ≡ option_or a b → a ≡ None → whole ≡ b
none_first whole a b e h = e ∙ ap (λ o. option_or o b) h

-- the other way: where there is none, each number is free of it
pub first_none : (f : ℕ → Option Fault) (k n : ℕ) → first_from f k n ≡ None → (r : ℕ) → k ≤ r → r < k + n → f r ≡ None
first_none f k zero e r le lt = absurd (omega arith)
first_none f k (suc n) e r le lt =
    let h = or_none (f k) (first_from f (k + 1) n) e in
    let rest = first_none f (k + 1) n h.1 r in
    ⊎_elim (λ l. let z : k ≡ r = omega arith in subst (λ x. f x ≡ None) z h.0) (λ l. rest (omega arith) (omega arith))
    (cases_lt r (k + 1))

if_list : (b : Bool) (r : ℕ) (l : List ℕ) → (if b then r ∷ l else l) ≡ [] → (b ≡ false) × (l ≡ [])
if_list true r l e = absurd (cc)
if_list false r l e = (refl, e)

pub selves_none : (reach : ℕ → ℕ → Bool) (k n : ℕ) → selves reach k n ≡ [] → (r : ℕ) → k ≤ r → r < k + n
    → reach r r ≡ false
selves_none reach k zero e r le lt = absurd (omega arith)
selves_none reach k (suc n) e r le lt =
    let h = if_list (reach k k) k (selves reach (k + 1) n) e in
    let rest = selves_none reach (k + 1) n h.1 r in
    ⊎_elim (λ l. let z : k ≡ r = omega arith in
    subst (λ x. reach x x ≡ false) z h.0) (λ l. rest (omega arith) (omega arith)) (cases_lt r (k + 1))

-- a rule outside blocks doesn't reach itself
pub alone : (R : List Core) (blocks : List (Option ℕ)) (m : ℕ → Bool) (reach : ℕ → ℕ → Bool) (r e : ℕ)
    → IsInOrder R blocks → CallsBefore R r → block_at (slice_get blocks r) ≡ None → e - r ≡ 1 → Reach R m reach
    → recursion_of (selves reach r (e - r)) ≡ None
alone R blocks m reach r e o early out one all = ap (λ n. recursion_of (selves reach r n)) one
    ∙ ap (λ b. recursion_of (if b then r ∷ [] else [])) off
  where
    before : (t : ℕ) → calls_at m R r t ≡ true → t < r
    before t c =
        let x = passing (λ p. calls_here m p t) R r c in
        ⊎_elim (λ l. l) (λ k. let z : None ≡ Some k.0 = sym out ∙ k.1 in
        absurd (cc)) (o.earlier r t x.0 x.1 (here_called m t x.0 x.2))

    off : reach r r ≡ false
    off = no_self R m reach all r r early (omega arith) (λ t c. inl (before t c))

-- blocks, and rules outside them
pub group_joins : (f : ℕ → ℕ → Option Fault) (bs : List (Option ℕ)) (a k e : ℕ) → k < e → joins_next bs k ≡ true
    → fault_from f bs a k (e - k) ≡ fault_from f bs a (k + 1) (e - (k + 1))
group_joins f bs a k e lt j =
    ap (fault_from f bs a k) (minus_step k e lt)
    ∙ ap (λ b. if b then fault_from f bs a (k + 1) (e - (k + 1))
    else option_or (f a (k + 1)) (fault_from f bs (k + 1) (k + 1) (e - (k + 1)))) j

pub group_ends : (f : ℕ → ℕ → Option Fault) (bs : List (Option ℕ)) (a k e : ℕ) → k < e → joins_next bs k ≡ false
    → fault_from f bs a k (e - k) ≡ option_or (f a (k + 1)) (fault_from f bs (k + 1) (k + 1) (e - (k + 1)))
group_ends f bs a k e lt j =
    ap (fault_from f bs a k) (minus_step k e lt)
    ∙ ap (λ b. if b then fault_from f bs a (k + 1) (e - (k + 1))
    else option_or (f a (k + 1)) (fault_from f bs (k + 1) (k + 1) (e - (k + 1)))) j

-- a whole group
pub group_first : (f : ℕ → ℕ → Option Fault) (bs : List (Option ℕ)) (a b e : ℕ) → IsGroup bs a b → b ≤ e
    → fault_from f bs a a (e - a) ≡ option_or (f a b) (fault_from f bs b b (e - b))
group_first f bs a b e g le = let lt = g.some in walk (b - 1 - a) a (omega arith) (omega arith)
  where
    walk : (n k : ℕ) → k + n + 1 ≡ b → a ≤ k
        → fault_from f bs a k (e - k) ≡ option_or (f a b) (fault_from f bs b b (e - b))
    walk zero k z ge =
        let here : b - 1 ≡ k = omega arith in
        let next : k + 1 ≡ b = omega arith in
        group_ends f bs a k e (omega arith) (subst (λ x. joins_next bs x ≡ false) here g.ends)
        ∙ ap (λ x. option_or (f a x) (fault_from f bs x x (e - x))) next
    walk (suc n) k z ge = group_joins f bs a k e (omega arith) (g.joined k ge (omega arith))
        ∙ walk n (k + 1) (omega arith) (omega arith)

pub groups_done : (f : ℕ → ℕ → Option Fault) (bs : List (Option ℕ)) (a k e : ℕ) → e ≤ k
    → fault_from f bs a k (e - k) ≡ None
groups_done f bs a k e le = let z : e - k ≡ 0 = omega arith in ap (fault_from f bs a k) z

-- each rule is in a group, and where the whole has no fault its group has none
pub group_of : (f : ℕ → ℕ → Option Fault) (bs : List (Option ℕ)) (a k n : ℕ) → k + n ≡ length bs → a ≤ k
    → (a ≡ k) ⊎ (0 < n) → fault_from f bs a k n ≡ None → (r : ℕ) → a ≤ r → r < k + n → (x : ℕ) × (y : ℕ) × (x ≤ r)
    × (r < y) × (f x y ≡ None)
group_of f bs a k zero e le some h r ra rk = absurd (⊎_elim (λ z. omega arith) (λ z. omega arith) some)
group_of f bs a k (suc n) e le some h r ra rk =
    go (joins_next bs k) refl h (λ s x. group_of f bs a (k + 1) n (omega arith) (omega arith) s x r ra (omega arith))
    (λ x l. group_of f bs (k + 1) (k + 1) n (omega arith) (omega arith) (inl refl) x r l (omega arith))
  where
    go : (b : Bool) → joins_next bs k ≡ b
        → (if b then fault_from f bs a (k + 1) n else option_or (f a (k + 1)) (fault_from f bs (k + 1) (k + 1) n))
        ≡ None
        → ((a ≡ k + 1) ⊎ (0 < n) → fault_from f bs a (k + 1) n ≡ None → (x : ℕ) × (y : ℕ) × (x ≤ r) × (r < y)
        × (f x y ≡ None)) → (fault_from f bs (k + 1) (k + 1) n ≡ None → k + 1 ≤ r → (x : ℕ) × (y : ℕ) × (x ≤ r)
        × (r < y)
        × (f x y ≡ None)) → (x : ℕ) × (y : ℕ) × (x ≤ r) × (r < y) × (f x y ≡ None)
    go true j h on off = on (inr (more n refl)) h
      where
        more : (n0 : ℕ) → n ≡ n0 → 0 < n
        more zero z = clash (joins_next bs k) j (last_ends bs k (omega arith))
        more (suc n0) z = omega arith
    go false j h on off =
        let p = or_none (f a (k + 1)) (fault_from f bs (k + 1) (k + 1) n) h in
        ⊎_elim (λ l. (a, k + 1, ra, l, p.0)) (λ l. off p.1 l) (cases_lt r (k + 1))
