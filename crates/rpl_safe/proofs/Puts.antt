-- What the search has found stays forced.
use Rattle.std.proofs.Common.{◌≡◌, ℕ, zero, suc, ◌+◌, ◌<◌, ◌≤◌, List, [], ◌∷◌, ◌++◌, length, set, Option, Some, None}
use Rattle.std.proofs.Common.{refl, sym, ap, ◌∙◌, subst, arith, inl, inr, ⊎_elim, length-set, length-append}
use Rattle.std.proofs.Common.{get_or-set_same, get_or-set_other}
use Rattle.std.proofs.lemmas.Bool.{cases_eq}
use Rattle.std.proofs.lemmas.Option.{slice_get_past}
use Rattle.std.specs.Prelude.{◌⊎◌, slice_get}
use Rattle.rpl_core.specs.Instr.{Instr}
use Rattle.rpl_safe.specs.Safe.{Shape, Shapes, given_by, IsKept}
use Rattle.rpl_safe.specs.declared.marks.Mark.{Mark}
use Rattle.rpl_safe.specs.declared.finding.MarkSearch.{MarkSearch}
use Rattle.rpl_safe.specs.inside.Marks.{Marks, marks_at, Has, Clashes, Is, unmarked, Known, Waits}
use Rattle.rpl_safe.proofs.Stacks.{Extends, is_grow, is_same, is_one, same_some}

-- one mark more
pub unmarked_less : (ms : List (Option Mark)) (b : ℕ) (k : Mark) → b < length ms → marks_at ms b ≡ None
    → suc (unmarked (set ms b (Some k))) ≡ unmarked ms
unmarked_less [] b k lt e = absurd (omega (arith, lt))
unmarked_less (None ∷ ms) zero k lt e = refl
unmarked_less (Some m ∷ ms) zero k lt e = absurd (cc)
unmarked_less (None ∷ ms) (suc b) k lt e = ap suc (unmarked_less ms b k (omega (arith, lt)) e)
unmarked_less (Some m ∷ ms) (suc b) k lt e = unmarked_less ms b k (omega (arith, lt)) e

-- what has a mark is in the list
pub marked_inside : (ms : List (Option Mark)) (a : ℕ) (m : Mark) → marks_at ms a ≡ Some m → a < length ms
marked_inside [] a m e = absurd (cc)
marked_inside (o ∷ ms) zero m e = omega arith
marked_inside (o ∷ ms) (suc a) m e = let h = marked_inside ms a m e in omega (arith, h)

module _ (ms : List (Option Mark)) (b : ℕ) (k : Mark) (lt : b < length ms) (unset : marks_at ms b ≡ None) where
  now_there : marks_at (set ms b (Some k)) b ≡ Some k
  now_there = get_or-set_same ms b (Some k) None lt

  grows : Extends (marks_at ms) (marks_at (set ms b (Some k)))
  grows a m e = ⊎_elim (λ same. let z : None ≡ Some m = sym unset ∙ ap (marks_at ms) (sym same) ∙ e in
      absurd (cc)) (λ ne. get_or-set_other ms b a (Some k) None ne ∙ e) (cases_eq a b)

  pub whence : (a : ℕ) (m : Mark) → marks_at (set ms b (Some k)) a ≡ Some m → ((a ≡ b) × (k ≡ m))
      ⊎ (marks_at ms a ≡ Some m)
  whence a m e = ⊎_elim (λ same. inl (
    same,
    same_some k m (sym now_there ∙ ap (marks_at (set ms b (Some k))) (sym same)
        ∙ e),
  )) (λ ne. inr (sym (get_or-set_other ms b a (Some k) None ne) ∙ e)) (cases_eq a b)

module _ (code : List Instr) where
  -- one mark more, which is forced too
  known_put : (ms : List (Option Mark)) (b : ℕ) (k : Mark) (s : Shape) → b < length ms → marks_at ms b ≡ None
      → Known code ms → Is (marks_at ms) k s → ((shapes : Shapes) → IsKept code shapes → shapes b ≡ Some s)
      → k.trees + unmarked ms ≤ length ms → Known code (set ms b (Some k))
  known_put ms b k s lt unset h is all room =
      record {
        long = length-set ms b (Some k) ∙ h.long;
        start = grows ms b k lt unset 0 _ h.start;
        lists = lists;
        forced = forced;
        room = rooms;
      }
    where
      new : Marks
      new = marks_at (set ms b (Some k))

      lists : (a : ℕ) (m : Mark) → marks_at (set ms b (Some k)) a ≡ Some m → (r : Shape)
          × Is (marks_at (set ms b (Some k))) m r
      lists a m e = ⊎_elim
          (λ x. (
            s,
            is_grow (marks_at ms) (marks_at (set ms b (Some k))) (grows ms b k lt unset) m s
                (subst (λ y. Is (marks_at ms) y s) x.1 is),
          ))
          (λ old. let l = h.lists a m old in
          (l.0, is_grow (marks_at ms) (marks_at (set ms b (Some k))) (grows ms b k lt unset) m l.0 l.1))
          (whence ms b k lt unset a m e)

      forced : (shapes : Shapes) → IsKept code shapes → (a : ℕ) (m : Mark) (r : Shape)
          → marks_at (set ms b (Some k)) a ≡ Some m → Is (marks_at (set ms b (Some k))) m r → shapes a ≡ Some r
      forced shapes kept a m r e ir = ⊎_elim
          (λ x.
          let mine = is_grow (marks_at ms) (marks_at (set ms b (Some k))) (grows ms b k lt unset) m s
          (subst (λ y. Is (marks_at ms) y s) x.1 is) in
          ap shapes x.0 ∙ all shapes kept ∙ ap Some (is_same (marks_at (set ms b (Some k))) m s r mine ir))
          (λ old.
          let l = h.lists a m old in
          let mine = is_grow (marks_at ms) (marks_at (set ms b (Some k))) (grows ms b k lt unset) m l.0 l.1 in
          h.forced shapes kept a m l.0 old l.1 ∙ ap Some (is_same (marks_at (set ms b (Some k))) m l.0 r mine ir))
          (whence ms b k lt unset a m e)

      rooms : (a : ℕ) (m : Mark) → marks_at (set ms b (Some k)) a ≡ Some m
          → m.trees + unmarked (set ms b (Some k)) < length (set ms b (Some k))
      rooms a m e =
          let less = unmarked_less ms b k lt unset in
          let len = length-set ms b (Some k) in
          ⊎_elim
          (λ x. let t : k.trees ≡ m.trees = ap (λ (y : Mark). y.trees) x.1 in omega (arith, less, len, room, t))
          (λ old. let r = h.room a m old in omega (arith, less, len, r))
          (whence ms b k lt unset a m e)

  -- where it clashes there is no way
  pub clash : (s : MarkSearch) (b : ℕ) (k : Mark) (r : Shape) → Known code s.marks.items
      → Is (marks_at s.marks.items) k r → ((shapes : Shapes) → IsKept code shapes → shapes b ≡ Some r) → Clashes b k s
      → (shapes : Shapes) → IsKept code shapes → ⊥
  clash s b k r h is all (inl far) shapes kept =
      let x = kept.goes_on b r (all shapes kept) in
      let none : slice_get code b ≡ None = slice_get_past code b (omega (arith, h.long, far)) in
      let z : None ≡ Some x.0 = sym (ap (λ o. given_by o b r) none) ∙ x.1 in
      absurd (cc)
  clash s b k r h is all (inr c) shapes kept =
      let l = h.lists b c.0 c.1 in
      let same : l.0 ≡ r = same_some l.0 r (sym (h.forced shapes kept b c.0 l.0 c.1 l.1) ∙ all shapes kept) in
      absurd (c.2 (is_one (marks_at s.marks.items) c.0 k r (subst (Is (marks_at s.marks.items) c.0) same l.1) is))

-- what is in a longer list
waits_front : (xs : List ℕ) (b a : ℕ) → Waits xs a → Waits (xs ++ b ∷ []) a
waits_front [] b a h = absurd h
waits_front (x ∷ xs) b a (inl h) = inl h
waits_front (x ∷ xs) b a (inr h) = inr (waits_front xs b a h)

pub waits_end : (xs : List ℕ) (b : ℕ) → Waits (xs ++ b ∷ []) b
waits_end [] b = inl refl
waits_end (x ∷ xs) b = inr (waits_end xs b)

pub waits_which : (xs : List ℕ) (b a : ℕ) → Waits (xs ++ b ∷ []) a → Waits xs a ⊎ (b ≡ a)
waits_which [] b a (inl h) = inr h
waits_which [] b a (inr h) = absurd h
waits_which (x ∷ xs) b a (inl h) = inl (inl h)
waits_which (x ∷ xs) b a (inr h) = ⊎_elim (λ w. inl (inr w)) (λ e. inr e) (waits_which xs b a h)

-- what a search has become that put some marks
pub record Grown (old new : MarkSearch) : Type 0 where
  pub ext : Extends (marks_at old.marks.items) (marks_at new.marks.items)
  pub waits : (a : ℕ) → Waits old.waiting.items a → Waits new.waiting.items a
  pub fresh : (a : ℕ) (m : Mark) → marks_at new.marks.items a ≡ Some m → (marks_at old.marks.items a ≡ Some m)
      ⊎ Waits new.waiting.items a
  pub known : (a : ℕ) → Waits new.waiting.items a → Waits old.waiting.items a
      ⊎ ((m : Mark) × (marks_at new.marks.items a ≡ Some m))
  pub left : length new.waiting.items + unmarked new.marks.items ≡ length old.waiting.items + unmarked old.marks.items

pub same_search : (old new : MarkSearch) → new.marks.items ≡ old.marks.items → new.waiting.items ≡ old.waiting.items
    → Grown old new
same_search old new e w = record {
  ext = λ a m h. ap (λ l. marks_at l a) e ∙ h;
  waits = λ a h. subst (λ l. Waits l a) (sym w) h;
  fresh = λ a m h. inl (sym (ap (λ l. marks_at l a) e) ∙ h);
  known = λ a h. inl (subst (λ l. Waits l a) w h);
  left = omega (arith, ap length w, ap unmarked e);
}

pub grown_on : (a b c : MarkSearch) → Grown a b → Grown b c → Grown a c
grown_on a b c g h = record {
  ext = λ x m e. h.ext x m (g.ext x m e);
  waits = λ x w. h.waits x (g.waits x w);
  fresh = λ x m e. ⊎_elim (λ old. ⊎_elim (λ o. inl o) (λ w. inr (h.waits x w)) (g.fresh x m old)) (λ w. inr w)
      (h.fresh x m e);
  known = λ x w. ⊎_elim (λ v. ⊎_elim (λ u. inl u) (λ m. inr (m.0, h.ext x m.0 m.1)) (g.known x v)) (λ m. inr m)
      (h.known x w);
  left = omega (arith, g.left, h.left);
}

pub grown_has : (old new : MarkSearch) (b : ℕ) (k : Mark) → Has b k old new → Grown old new
grown_has old new b k (inr h) = same_search old new h.1 h.2
grown_has old new b k (inl h) = record {
  ext = λ a m e. ap (λ l. marks_at l a) h.2 ∙ grows old.marks.items b k h.0 h.1 a m e;
  waits = λ a w. subst (λ l. Waits l a) (sym h.3) (waits_front old.waiting.items b a w);
  fresh = λ a m e. ⊎_elim
      (λ x. inr (subst (λ l. Waits l a) (sym h.3)
      (subst (Waits (old.waiting.items ++ b ∷ [])) (sym x.0) (waits_end old.waiting.items b)))) (λ o. inl o)
      (whence old.marks.items b k h.0 h.1 a m (sym (ap (λ l. marks_at l a) h.2) ∙ e));
  known = λ a w. ⊎_elim (λ v. inl v) (λ e. inr (
    k,
    ap (λ l. marks_at l a) h.2
        ∙ ap (marks_at (set old.marks.items b (Some k))) (sym e) ∙ now_there old.marks.items b k h.0 h.1,
  ))
      (waits_which old.waiting.items b a (subst (λ l. Waits l a) h.3 w));
  left = omega (
    arith,
    unmarked_less old.marks.items b k h.0 h.1,
    ap unmarked h.2,
    ap length h.3,
    length-append old.waiting.items (b ∷ []),
  );
}

pub has_there : (old new : MarkSearch) (b : ℕ) (k : Mark) → Has b k old new → marks_at new.marks.items b ≡ Some k
has_there old new b k (inl h) = ap (λ l. marks_at l b) h.2 ∙ now_there old.marks.items b k h.0 h.1
has_there old new b k (inr h) = ap (λ l. marks_at l b) h.1 ∙ h.0

pub has_fewer : (old new : MarkSearch) (b : ℕ) (k : Mark) → Has b k old new
    → (unmarked new.marks.items ≤ unmarked old.marks.items) × (length new.marks.items ≡ length old.marks.items)
has_fewer old new b k (inl h) = (
  let e = unmarked_less old.marks.items b k h.0 h.1 in
      omega (arith, e, ap unmarked h.2),
  ap length h.2 ∙ length-set old.marks.items b (Some k),
)
has_fewer old new b k (inr h) = (omega (arith, ap unmarked h.1), ap length h.1)

pub has_known : (code : List Instr) (old new : MarkSearch) (b : ℕ) (k : Mark) (s : Shape) → Known code old.marks.items
    → Is (marks_at old.marks.items) k s → ((shapes : Shapes) → IsKept code shapes → shapes b ≡ Some s)
    → k.trees + unmarked old.marks.items ≤ length old.marks.items → Has b k old new → Known code new.marks.items
has_known code old new b k s h is all room (inl x) =
    subst (Known code) (sym x.2) (known_put code old.marks.items b k s x.0 x.1 h is all room)
has_known code old new b k s h is all room (inr x) = subst (Known code) (sym x.1) h
