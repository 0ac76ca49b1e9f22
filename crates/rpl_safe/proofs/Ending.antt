-- The beginning and the end of the search.
use Rattle.std.proofs.Common.{◌≡◌, ℕ, ◌+◌, ◌<◌, List, [], ◌∷◌, ◌++◌, length, replicate, Option, Some, None, refl, sym}
use Rattle.std.proofs.Common.{ap, ◌∙◌, subst, arith, inl, inr, ⊎_elim, length-set}
use Rattle.std.proofs.lemmas.List.{length-replicate}
use Rattle.std.specs.Prelude.{◌⊎◌, slice_get}
use Rattle.rpl_core.specs.Instr.{Instr}
use Rattle.rpl_safe.specs.Safe.{Shape, Shapes, Given, fresh, next, given_by, next_in, AreIn, IsKept}
use Rattle.rpl_safe.specs.declared.marks.Mark.{Mark}
use Rattle.rpl_safe.specs.declared.finding.MarkSearch.{MarkSearch}
use Rattle.rpl_safe.specs.inside.Marks.{marks_at, MarksGiven, mark_by, Has, AreMarked, Is, unmarked, Known, Waits}
use Rattle.rpl_safe.specs.inside.Marks.{Follows, Found}
use Rattle.rpl_safe.proofs.Stacks.{is_same, Related, related_is, same_some}
use Rattle.rpl_safe.proofs.Puts.{has_there, unmarked_less, whence, waits_end, waits_which}
use Rattle.rpl_safe.proofs.Looking.{none_marked, unmarked_all}

-- the first mark
pub found_first : (code : List Instr) (s t : MarkSearch) (n : ℕ) → 0 < n → n ≡ length code
    → s.marks.items ≡ replicate n None → s.waiting.items ≡ [] → Has 0 (record { frame = 0; last = None; trees = 0 }) s t
    → Found code t
found_first code s t n lt len empty none (inr h) =
    let first : Mark = record { frame = 0; last = None; trees = 0 } in
    let z : None ≡ Some first = sym (none_marked n 0) ∙ ap (λ l. marks_at l 0) (sym empty) ∙ h.0 in
    absurd (cc)
found_first code s t n lt len empty none (inl h) = record { known = known; waiting = waiting; done = done }
  where
    first : Mark
    first = record { frame = 0; last = None; trees = 0 }

    only_there : (a : ℕ) (m : Mark) → marks_at t.marks.items a ≡ Some m
        → (a ≡ 0) × (record { frame = 0; last = None; trees = 0 } ≡ m)
    only_there a m e =
        ⊎_elim (λ x. x) (λ old. let z : None ≡ Some m = sym (none_marked n a) ∙ ap (λ l. marks_at l a) (sym empty)
        ∙ old in absurd (cc))
        (whence s.marks.items 0 (record { frame = 0; last = None; trees = 0 }) h.0 h.1 a m
        (sym (ap (λ l. marks_at l a) h.2) ∙ e))

    known : Known code t.marks.items
    known = record {
      long = ap length h.2 ∙ length-set s.marks.items 0 (Some (record { frame = 0; last = None; trees = 0 }))
          ∙ ap length empty ∙ length-replicate n None ∙ len;
      start = has_there s t 0 (record { frame = 0; last = None; trees = 0 }) (inl h);
      lists = λ a m e. (
        fresh 0,
        subst (λ y. Is (marks_at t.marks.items) y (fresh 0)) (only_there a m e).1
            (record { frame = refl; trees = refl; entries = refl }),
      );
      forced = λ shapes kept a m s e is.
          let x = only_there a m e in
          let mine : Is (marks_at t.marks.items) m (fresh 0) =
          subst (λ y. Is (marks_at t.marks.items) y (fresh 0)) x.1 (record {
            frame = refl;
            trees = refl;
            entries = refl;
          }) in
          ap shapes x.0 ∙ kept.start ∙ ap Some (is_same (marks_at t.marks.items) m (fresh 0) s mine is);
      room = λ a m e.
          let x = only_there a m e in
          let trees : 0 ≡ m.trees = ap (λ (y : Mark). y.trees) x.1 in
          let less = unmarked_less s.marks.items 0 (record { frame = 0; last = None; trees = 0 }) h.0 h.1 in
          let nothing : Option Mark = None in
          omega (
            arith,
            trees,
            less,
            ap unmarked h.2,
            ap length h.2,
            length-set s.marks.items 0 (Some (record { frame = 0; last = None; trees = 0 })),
            ap unmarked empty,
            unmarked_all n,
            ap length empty,
            length-replicate n nothing,
          );
    }

    waiting : (a : ℕ) → Waits t.waiting.items a → (m : Mark) × (marks_at t.marks.items a ≡ Some m)
    waiting a w = ⊎_elim (λ v. absurd (subst (λ l. Waits l a) none v))
        (λ e. (
          record { frame = 0; last = None; trees = 0 },
          ap (marks_at t.marks.items) (sym e)
              ∙ has_there s t 0 (record { frame = 0; last = None; trees = 0 }) (inl h),
        ))
        (waits_which s.waiting.items 0 a (subst (λ l. Waits l a) h.3 w))

    done : (a : ℕ) (m : Mark) → marks_at t.marks.items a ≡ Some m → Waits t.waiting.items a
        ⊎ Follows code (marks_at t.marks.items) a m
    done a m e = inl (subst (λ l. Waits l a) (sym h.3)
        (subst (Waits (s.waiting.items ++ 0 ∷ [])) (sym (only_there a m e).0) (waits_end s.waiting.items 0)))

-- the shapes that the marks stand for
module _ (code : List Instr) (ms : List (Option Mark)) (h : Known code ms) where
  shape_at : (a : ℕ) (o : Option Mark) → marks_at ms a ≡ o → Option Shape
  shape_at a None e = None
  shape_at a (Some m) e = Some (h.lists a m e).0

  pub least : Shapes
  least a = shape_at a (marks_at ms a) refl

  at_mark : (a : ℕ) (m : Mark) (s : Shape) (o : Option Mark) (e : marks_at ms a ≡ o) → o ≡ Some m → Is (marks_at ms) m s
      → shape_at a o e ≡ Some s
  unfolding shape_at
  at_mark a m s None e q is = absurd (cc)
  at_mark a m s (Some k) e q is =
      let same : k ≡ m = same_some k m q in
      let l = h.lists a k e in
      ap Some (is_same (marks_at ms) m l.0 s (subst (λ y. Is (marks_at ms) y l.0) same l.1) is)

  pub least_there : (a : ℕ) (m : Mark) (s : Shape) → marks_at ms a ≡ Some m → Is (marks_at ms) m s → least a ≡ Some s
  unfolding least
  least_there a m s e is = at_mark a m s (marks_at ms a) refl e is

  of_mark : (a : ℕ) (s : Shape) (o : Option Mark) (e : marks_at ms a ≡ o) → shape_at a o e ≡ Some s
      → (m : Mark) × (marks_at ms a ≡ Some m) × Is (marks_at ms) m s
  unfolding shape_at
  of_mark a s None e q = absurd (cc)
  of_mark a s (Some k) e q = let l = h.lists a k e in (k, e, subst (Is (marks_at ms) k) (same_some l.0 s q) l.1)

  pub least_of : (a : ℕ) (s : Shape) → least a ≡ Some s → (m : Mark) × (marks_at ms a ≡ Some m) × Is (marks_at ms) m s
  unfolding least
  least_of a s e = of_mark a s (marks_at ms a) refl e

  -- where all follows, they are kept
  pub least_kept : ((a : ℕ) (m : Mark) → marks_at ms a ≡ Some m → Follows code (marks_at ms) a m) → IsKept code least
  least_kept all = record {
    start =
        least_there 0 (record { frame = 0; last = None; trees = 0 }) (fresh 0) h.start (record {
          frame = refl;
          trees = refl;
          entries = refl;
        });
    goes_on = goes_on;
  }
    where
      given_least : (n : ℕ) (gs : MarksGiven) (o : Option Given) → Related n (marks_at ms) (Some gs) o
          → AreMarked (marks_at ms) gs → (g : Given) × (o ≡ Some g) × AreIn least g
      given_least n [] o r k = ([], r, tt)
      given_least n (x ∷ []) o r k = ((x.0, r.0) ∷ [], r.1, (least_there x.0 x.1 r.0 k.0 r.2, tt))
      given_least n (x ∷ y ∷ []) o r k = (
        (x.0, r.0) ∷ (y.0, r.1) ∷ [],
        r.2,
        (
          least_there x.0 x.1 r.0 k.0 (r.4 (marks_at ms) (λ a m e. e) k.1.0),
          (least_there y.0 y.1 r.1 k.1.0 r.3, tt),
        ),
      )
      given_least n (x ∷ y ∷ z ∷ gs) o r k = absurd r

      by_instr : (o : Option Instr) (a : ℕ) (m : Mark) (s : Shape) (gs : MarksGiven) → marks_at ms a ≡ Some m
          → Is (marks_at ms) m s → mark_by (marks_at ms) o a m ≡ Some gs → AreMarked (marks_at ms) gs → (g : Given)
          × (given_by o a s ≡ Some g) × AreIn least g
      by_instr None a m s gs e is by k = absurd (cc)
      by_instr (Some i) a m s gs e is by k =
          let r = related_is (marks_at ms) (length ms) (λ b x q. let w = h.room b x q in
          omega (arith, w)) m s is (let w = h.room a m e in omega (arith, w)) i a in
          given_least (length ms) gs (next i a s) (subst (λ x. Related (length ms) (marks_at ms) x (next i a s)) by r) k

      goes_on : (a : ℕ) (s : Shape) → least a ≡ Some s → (given : Given) × (next_in code a s ≡ Some given)
          × AreIn least given
      goes_on a s e =
          let m = least_of a s e in
          let f = all a m.0 m.1 in
          by_instr (slice_get code a) a m.0 s f.0 m.1 m.2 f.1 f.2
