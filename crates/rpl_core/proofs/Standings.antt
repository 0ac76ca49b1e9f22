-- The tests of a table's order say what they are to say.
use Rattle.std.proofs.Common.{◌≡◌, ℕ, zero, suc, ◌+◌, ◌-◌, ◌<◌, ◌≤◌, List, length, Option, Some, None, refl, sym, ap}
use Rattle.std.proofs.Common.{◌∙◌, subst, ⊎_elim, inl, inr, arith}
use Rattle.std.proofs.lemmas.Bool.{cases_lt}
use Rattle.std.proofs.lemmas.Bool.Decides.{nat_tests}
use Rattle.std.proofs.lemmas.Option.{slice_get_within}
use Rattle.std.specs.Prelude.{Bool, true, false, ◌||◌, ◌&&◌, ◌⊎◌, not, nat_lt, slice_get}
use Rattle.rpl_core.specs.Core.{Core, Set, Seq, Choice, Many, Not, And, Behind, Call, Capture, Note, Start, End, Halt}
use Rattle.rpl_core.specs.Core.{Cores, NoMore, Then}
use Rattle.rpl_core.specs.Programs.{calls, calls_any}
use Rattle.rpl_core.specs.Order.{same_block, joins_next}
use Rattle.rpl_core.specs.Order.{IsInOrder, AreTogether, block_at}
use Rattle.rpl_core.specs.inside.Standing.{calls_only, all_call_only, body_calls_only, may_call, has_mate, is_new}
use Rattle.rpl_core.specs.inside.Standing.{is_split, stands, AreBelow}
use Rattle.rpl_core.proofs.Bools.{either, left, right, both, paired, not_on, not_off, eq_self, eq_of}

-- two rules with one and the same block stand in the same block
pub same_of : (x y : Option ℕ) (b : ℕ) → x ≡ Some b → y ≡ Some b → same_block x y ≡ true
same_of None y b e f = absurd (cc)
same_of (Some c) None b e f = absurd (cc)
same_of (Some c) (Some d) b e f = let x : c ≡ b = cc in let y : d ≡ b = cc in grind arith

module _ (test : ℕ → Bool) where
  mutual
    pub only_sound : (p : Core) → calls_only test p ≡ true → (r : ℕ) → calls p r ≡ true → test r ≡ true
    only_sound (Set s) e r c = absurd (cc)
    only_sound (Seq ps) e r c = all_sound ps e r c
    only_sound (Choice ps) e r c = all_sound ps e r c
    only_sound (Many p) e r c = only_sound p e r c
    only_sound (Not p) e r c = only_sound p e r c
    only_sound (And p) e r c = only_sound p e r c
    only_sound (Behind l n p) e r c = only_sound p e r c
    only_sound (Call q) e r c = subst (λ x. test x ≡ true) (eq_of q r c) e
    only_sound (Capture x p) e r c = only_sound p e r c
    only_sound (Note x) e r c = absurd (cc)
    only_sound Start e r c = absurd (cc)
    only_sound End e r c = absurd (cc)
    only_sound Halt e r c = absurd (cc)

    all_sound : (ps : Cores) → all_call_only test ps ≡ true → (r : ℕ) → calls_any ps r ≡ true → test r ≡ true
    all_sound NoMore e r c = absurd (cc)
    all_sound (Then p ps) e r c = let a = both (calls_only test p) (all_call_only test ps) e in
        either (calls p r) (calls_any ps r) (only_sound p a.0 r) (all_sound ps a.1 r) c

  mutual
    pub only_whole : (p : Core) → ((r : ℕ) → calls p r ≡ true → test r ≡ true) → calls_only test p ≡ true
    only_whole (Set s) h = refl
    only_whole (Seq ps) h = all_whole ps h
    only_whole (Choice ps) h = all_whole ps h
    only_whole (Many p) h = only_whole p h
    only_whole (Not p) h = only_whole p h
    only_whole (And p) h = only_whole p h
    only_whole (Behind l n p) h = only_whole p h
    only_whole (Call q) h = h q (eq_self q)
    only_whole (Capture x p) h = only_whole p h
    only_whole (Note x) h = refl
    only_whole Start h = refl
    only_whole End h = refl
    only_whole Halt h = refl

    all_whole : (ps : Cores) → ((r : ℕ) → calls_any ps r ≡ true → test r ≡ true) → all_call_only test ps ≡ true
    all_whole NoMore h = refl
    all_whole (Then p ps) h =
        paired (calls_only test p) (all_call_only test ps)
        (only_whole p (λ r c. h r (left (calls p r) (calls_any ps r) c)))
        (all_whole ps (λ r c. h r (right (calls p r) (calls_any ps r) c)))

pub within_sound : (n : ℕ) (p : Core) → calls_only (λ r. nat_lt r n) p ≡ true → (r : ℕ) → calls p r ≡ true → r < n
within_sound n p e r c = let x = only_sound (λ r. nat_lt r n) p e r c in grind (arith, nat_tests)

pub within_whole : (n : ℕ) (p : Core) → ((r : ℕ) → calls p r ≡ true → r < n) → calls_only (λ r. nat_lt r n) p ≡ true
within_whole n p h = only_whole (λ r. nat_lt r n) p (λ r c. let x = h r c in grind (arith, nat_tests))

body_only : (test : ℕ → Bool) (o : Option Core) (p : Core) → o ≡ Some p → body_calls_only test o ≡ true
    → calls_only test p ≡ true
body_only test o p is e = sym (ap (body_calls_only test) is) ∙ e

-- a rule outside blocks has no mate
pub no_mate : (blocks : List (Option ℕ)) (k n : ℕ) → block_at (slice_get blocks k) ≡ None → has_mate blocks k n ≡ false
no_mate blocks k zero e = refl
no_mate blocks k (suc n) e = ap (λ x. same_block x (block_at (slice_get blocks n)) || has_mate blocks k n) e
    ∙ no_mate blocks k n e

-- a rule whose block isn't below a number that is above those of the first n rules has no mate among them
new_block : (blocks : List (Option ℕ)) (k n next b : ℕ) → AreBelow blocks n next
    → block_at (slice_get blocks k) ≡ Some b → next ≤ b → has_mate blocks k n ≡ false
new_block blocks k zero next b below is le = refl
new_block blocks k (suc n) next b below is le =
    ap (λ x. same_block x (block_at (slice_get blocks n)) || has_mate blocks k n) is
    ∙ ap (λ x. x || has_mate blocks k n) (other (block_at (slice_get blocks n)) refl)
    ∙ new_block blocks k n next b (λ r c lt. below r c (omega arith)) is le
  where
    other : (o : Option ℕ) → block_at (slice_get blocks n) ≡ o → same_block (Some b) o ≡ false
    other None e = refl
    other (Some c) e = let lt = below n c (omega arith) e in grind (arith, nat_tests)

pub new_mate : (blocks : List (Option ℕ)) (k next : ℕ) (o : Option ℕ) → AreBelow blocks k next
    → block_at (slice_get blocks k) ≡ o → is_new next o ≡ true → has_mate blocks k k ≡ false
new_mate blocks k next None below is e = no_mate blocks k k is
new_mate blocks k next (Some b) below is e =
    new_block blocks k k next b below is (let le : next ≤ b = grind (arith, nat_tests) in le)

-- rules that are in one block
together : (x y : Option ℕ) → same_block x y ≡ true → (b : ℕ) × (x ≡ Some b) × (y ≡ Some b)
together None y e = absurd (cc)
together (Some b) None e = absurd (cc)
together (Some b) (Some c) e = (b, refl, ap Some (sym (eq_of b c e)))

same_some : (b c : ℕ) (x : Option ℕ) → x ≡ Some b → x ≡ Some c → c ≡ b
same_some b c x e f = let h : Some b ≡ Some c = sym e ∙ f in cc

module _ (blocks : List (Option ℕ)) where
  mate_of : (k n r b : ℕ) → r < n → block_at (slice_get blocks k) ≡ Some b → block_at (slice_get blocks r) ≡ Some b
      → has_mate blocks k n ≡ true
  mate_of k zero r b lt e f = absurd (omega arith)
  mate_of k (suc n) r b lt e f =
      ⊎_elim (λ l. right (same_block (block_at (slice_get blocks k)) (block_at (slice_get blocks n)))
      (has_mate blocks k n) (mate_of k n r b l e f))
      (λ g. let z : r ≡ n = omega arith in
      left (same_block (block_at (slice_get blocks k)) (block_at (slice_get blocks n))) (has_mate blocks k n)
      (same_of (block_at (slice_get blocks k)) (block_at (slice_get blocks n)) b e
      (subst (λ x. block_at (slice_get blocks x) ≡ Some b) z f)))
      (cases_lt r n)

  mate_found : (k n : ℕ) → has_mate blocks k n ≡ true → (r : ℕ) × (r < n) × AreTogether blocks k r
  mate_found k zero e = absurd (cc)
  mate_found k (suc n) e =
      either (same_block (block_at (slice_get blocks k)) (block_at (slice_get blocks n))) (has_mate blocks k n)
      (λ x. let t = together (block_at (slice_get blocks k)) (block_at (slice_get blocks n)) x in
      (n, omega arith, t)) (λ x. let m = mate_found k n x in (m.0, omega (arith, m.1), m.2)) e

  in_table : (k b : ℕ) → block_at (slice_get blocks k) ≡ Some b → k < length blocks
  in_table k b e = go (slice_get blocks k) refl e
    where
      go : (o : Option (Option ℕ)) → slice_get blocks k ≡ o → block_at o ≡ Some b → k < length blocks
      go None is e = absurd (cc)
      go (Some x) is e = slice_get_within blocks k x is

  pub order_of : (R : List Core) → ((k : ℕ) → k < length blocks → stands R blocks k ≡ true) → length R ≡ length blocks
      → IsInOrder R blocks
  order_of R each long = record {
    side_by_side = λ r s q b rs sq er eq. side (q - s) r s q b (omega arith) rs er eq;
    earlier = λ r s p is c. early r s p is c;
  }
    where
      parts : (k : ℕ) → k < length blocks → (body_calls_only (may_call blocks k) (slice_get R k) ≡ true)
          × (is_split blocks k ≡ false)
      parts k lt = let x =
          both (body_calls_only (may_call blocks k) (slice_get R k)) (not (is_split blocks k)) (each k lt) in
          (x.0, not_on (is_split blocks k) x.1)

      early : (r s : ℕ) (p : Core) → slice_get R r ≡ Some p → calls p s ≡ true → (s < r) ⊎ AreTogether blocks r s
      early r s p is c =
          let x = parts r (omega (arith, long, slice_get_within R r p is)) in
          either (nat_lt s r) (same_block (block_at (slice_get blocks r)) (block_at (slice_get blocks s)))
          (λ e. inl (lt_of s r e))
          (λ e. inr (together (block_at (slice_get blocks r)) (block_at (slice_get blocks s)) e))
          (only_sound (may_call blocks r) p (body_only (may_call blocks r) (slice_get R r) p is x.0) s c)
        where
          lt_of : (a b : ℕ) → nat_lt a b ≡ true → a < b
          lt_of a b e = grind (arith, nat_tests)

      side : (d r s q b : ℕ) → s + d ≡ q → r ≤ s → block_at (slice_get blocks r) ≡ Some b
          → block_at (slice_get blocks q) ≡ Some b → block_at (slice_get blocks s) ≡ Some b
      side zero r s q b e le er eq = let z : q ≡ s = omega arith in
          subst (λ x. block_at (slice_get blocks x) ≡ Some b) z eq
      side (suc d) r s q b e le er eq =
          let next = side d r (s + 1) q b (omega arith) (omega arith) er eq in
          let mate = mate_of (s + 1) (s + 1) r b (omega arith) next er in
          let x = parts (s + 1) (in_table (s + 1) b next) in
          let z : s + 1 - 1 ≡ s = omega arith in
          let j : joins_next blocks s ≡ true = ap (joins_next blocks) (sym z)
          ∙ joined (has_mate blocks (s + 1) (s + 1)) (joins_next blocks (s + 1 - 1)) x.1 mate in
          let t = together (block_at (slice_get blocks s)) (block_at (slice_get blocks (s + 1))) j in
          t.1 ∙ ap Some (same_some b t.0 (block_at (slice_get blocks (s + 1))) next t.2)
        where
          joined : (a b : Bool) → (a && not b) ≡ false → a ≡ true → b ≡ true
          joined true b e f = not_off b e
          joined false b e f = absurd (cc)

  pub order_stands : (R : List Core) → IsInOrder R blocks → (k : ℕ) → stands R blocks k ≡ true
  order_stands R o k =
      paired (body_calls_only (may_call blocks k) (slice_get R k)) (not (is_split blocks k)) (body (slice_get R k) refl)
      (ap not (whole (has_mate blocks k k) refl))
    where
      lt_on : (a b : ℕ) → a < b → nat_lt a b ≡ true
      lt_on a b l = grind (arith, nat_tests)

      body : (x : Option Core) → slice_get R k ≡ x → body_calls_only (may_call blocks k) x ≡ true
      body None is = refl
      body (Some p) is = only_whole (may_call blocks k) p
          (λ s c. ⊎_elim (λ l. left (nat_lt s k)
          (same_block (block_at (slice_get blocks k)) (block_at (slice_get blocks s))) (lt_on s k l))
          (λ t. right (nat_lt s k) (same_block (block_at (slice_get blocks k)) (block_at (slice_get blocks s)))
          (same_of (block_at (slice_get blocks k)) (block_at (slice_get blocks s)) t.0 t.1 t.2)) (o.earlier k s p is c))

      whole : (b : Bool) → has_mate blocks k k ≡ b → (b && not (joins_next blocks (k - 1))) ≡ false
      whole false e = refl
      whole true e =
          let m = mate_found k k e in
          let before = o.side_by_side m.0 (k - 1) k m.2.0 (omega (arith, m.1)) (omega arith) m.2.2 m.2.1 in
          let z : k - 1 + 1 ≡ k = omega (arith, m.1) in
          ap not (same_of (block_at (slice_get blocks (k - 1))) (block_at (slice_get blocks (k - 1 + 1))) m.2.0 before
          (subst (λ x. block_at (slice_get blocks x) ≡ Some m.2.0) (sym z) m.2.1))
