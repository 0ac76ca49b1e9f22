-- One address is looked at.
use Rattle.std.proofs.Common.{◌≡◌, ℕ, zero, suc, ◌+◌, ◌-◌, List, [], ◌∷◌, ◌++◌, length, replicate, Option, Some, None}
use Rattle.std.proofs.Common.{refl, sym, ap, ◌∙◌, subst, arith, inl, inr, ⊎_elim}
use Rattle.std.specs.Prelude.{◌⊎◌, true, false, slice_get}
use Rattle.rpl_core.specs.Instr.{Instr}
use Rattle.rpl_core.specs.Instr as I
use Rattle.rpl_safe.specs.Safe.{Shape, Shapes, Given, fresh, next, given_by, AreIn, IsKept}
use Rattle.rpl_safe.specs.declared.marks.Mark.{Mark}
use Rattle.rpl_safe.specs.declared.finding.MarkSearch.{MarkSearch}
use Rattle.rpl_safe.specs.inside.Marks.{Marks, marks_at, last_of, MarksGiven, with_last, next_mark, mark_by, Has}
use Rattle.rpl_safe.specs.inside.Marks.{Places, PlacesAll, AreMarked, Is, unmarked, Known, Waits, Follows, Found}
use Rattle.rpl_safe.proofs.Stacks.{Extends, Related, related_is, same_some}
use Rattle.rpl_safe.proofs.Puts.{clash, Grown, grown_on, grown_has, same_search, has_known, has_there, has_fewer}
use Rattle.rpl_safe.proofs.Puts.{waits_which}

-- what an instruction gives of the marks it gives of more of them
last_grow : (f g : Marks) → Extends f g → (go : Mark → Option MarksGiven) (o : Option ℕ) (x : MarksGiven)
    → with_last (last_of f o) go ≡ Some x → with_last (last_of g o) go ≡ Some x
last_grow f g ext go None x e = e
last_grow f g ext go (Some a) x e = there (f a) refl e
  where
    there : (o : Option Mark) → f a ≡ o → with_last o go ≡ Some x → with_last (g a) go ≡ Some x
    there None q e = absurd (cc)
    there (Some k) q e = ap (λ p. with_last p go) (ext a k q) ∙ e

next_grow : (f g : Marks) → Extends f g → (i : Instr) (a : ℕ) (m : Mark) (x : MarksGiven) → next_mark f i a m ≡ Some x
    → next_mark g i a m ≡ Some x
next_grow f g ext (I.Commit l) a m x e = last_grow f g ext _ m.last x e
next_grow f g ext (I.PartialCommit l) a m x e = last_grow f g ext _ m.last x e
next_grow f g ext (I.BackCommit l) a m x e = last_grow f g ext _ m.last x e
next_grow f g ext (I.Meet l) a m x e = last_grow f g ext _ m.last x e
next_grow f g ext I.FailTwice a m x e = last_grow f g ext _ m.last x e
next_grow f g ext (I.Set k) a m x e = e
next_grow f g ext I.Start a m x e = e
next_grow f g ext I.End a m x e = e
next_grow f g ext (I.Choice l) a m x e = e
next_grow f g ext I.Fail a m x e = e
next_grow f g ext (I.Back k) a m x e = e
next_grow f g ext (I.Call zero) a m x e = e
next_grow f g ext (I.Call (suc l)) a m x e = e
next_grow f g ext I.Return a m x e = e
next_grow f g ext (I.Open c) a m x e = e
next_grow f g ext I.Close a m x e = e
next_grow f g ext (I.Note k) a m x e = e
next_grow f g ext I.Finish a m x e = e
next_grow f g ext (I.TestSet l k) a m x e = e
next_grow f g ext (I.Span k) a m x e = e
next_grow f g ext I.Halt a m x e = e

by_grow : (f g : Marks) → Extends f g → (o : Option Instr) (a : ℕ) (m : Mark) (x : MarksGiven)
    → mark_by f o a m ≡ Some x → mark_by g o a m ≡ Some x
by_grow f g ext None a m x e = e
by_grow f g ext (Some i) a m x e = next_grow f g ext i a m x e

marked_grow : (f g : Marks) → Extends f g → (x : MarksGiven) → AreMarked f x → AreMarked g x
marked_grow f g ext [] h = h
marked_grow f g ext (y ∷ x) h = (ext y.0 y.1 h.0, marked_grow f g ext x h.1)

follows_grow : (code : List Instr) (f g : Marks) → Extends f g → (a : ℕ) (m : Mark) → Follows code f a m
    → Follows code g a m
follows_grow code f g ext a m h = (h.0, by_grow f g ext (slice_get code a) a m h.0 h.1, marked_grow f g ext h.0 h.2)

-- what is known of an address that is looked at
module _ (code : List Instr) (s : MarkSearch) (h : Known code s.marks.items) (a : ℕ) (m : Mark) (i : Instr) (is_m :
    marks_at s.marks.items a ≡ Some m) (is_i : slice_get code a ≡ Some i) where
  abbrev sh : Shape
  sh = (h.lists a m is_m).0

  is : Is (marks_at s.marks.items) m sh
  is = (h.lists a m is_m).1

  abbrev bound : ℕ
  bound = length s.marks.items

  -- the bound on trees, less the marks that are left
  rel : (n : ℕ) → n + unmarked s.marks.items ≡ bound
      → Related n (marks_at s.marks.items) (next_mark (marks_at s.marks.items) i a m) (next i a sh)
  rel n e = related_is (marks_at s.marks.items) n (λ b k q. let r = h.room b k q in
      omega (arith, r, e)) m sh is (let r = h.room a m is_m in omega (arith, r, e)) i a

  -- what each way to give shapes has to give
  given_there : (g : Given) → next i a sh ≡ Some g → (shapes : Shapes) → IsKept code shapes → AreIn shapes g
  given_there g e shapes kept =
      let x = kept.goes_on a sh (h.forced shapes kept a m sh is_m is) in
      let same : x.0 ≡ g = same_some x.0 g (sym x.1 ∙ ap (λ o. given_by o a sh) is_i ∙ e) in
      subst (AreIn shapes) same x.2

  refused_none : next i a sh ≡ None → (shapes : Shapes) → IsKept code shapes → ⊥
  refused_none e shapes kept =
      let x = kept.goes_on a sh (h.forced shapes kept a m sh is_m is) in
      let z : None ≡ Some x.0 = sym e ∙ sym (ap (λ o. given_by o a sh) is_i) ∙ x.1 in
      absurd (cc)

  -- the second of two marks is put, before the first
  second : (n : ℕ) → n + unmarked s.marks.items ≡ bound → (x y : ℕ × Mark) (mid1 mid2 : MarkSearch)
      → (r : Related n (marks_at s.marks.items) (Some (x ∷ y ∷ [])) (next i a sh)) → Places [] s mid1 true
      → Has y.0 y.1 mid1 mid2 → Known code mid2.marks.items
  second n e x y mid1 mid2 r start has =
      let k1 = subst (Known code) (sym start.0) h in
      let fewer = ap unmarked start.0 in
      let long = ap length start.0 in
      has_known code mid1 mid2 y.0 y.1 r.1 k1 (subst (λ l. Is (marks_at l) y.1 r.1) (sym start.0) r.3)
      (λ shapes kept. (given_there ((x.0, r.0) ∷ (y.0, r.1) ∷ []) r.2 shapes kept).1.0)
      (omega (arith, e, r.6, fewer, long)) has

  -- the marks are put
  placed : (n : ℕ) → n + unmarked s.marks.items ≡ bound → (gs : MarksGiven) (t : MarkSearch)
      → Related n (marks_at s.marks.items) (Some gs) (next i a sh) → Places gs s t true → Known code t.marks.items
      × Grown s t × AreMarked (marks_at t.marks.items) gs
  placed n e [] t r p = (subst (Known code) (sym p.0) h, same_search s t p.0 p.1, tt)
  placed n e (x ∷ []) t r p =
      let mid = p.0 in
      let start = p.1 in
      let k1 = subst (Known code) (sym start.0) h in
      let fewer = ap unmarked start.0 in
      let long = ap length start.0 in
      let known = has_known code mid t x.0 x.1 r.0 k1 (subst (λ l. Is (marks_at l) x.1 r.0) (sym start.0) r.2)
      (λ shapes kept. (given_there ((x.0, r.0) ∷ []) r.1 shapes kept).0) (omega (arith, e, r.3, fewer, long)) p.2 in (
        known,
        grown_on s mid t (same_search s mid start.0 start.1) (grown_has mid t x.0 x.1 p.2),
        (has_there mid t x.0 x.1 p.2, tt),
      )
  placed n e (x ∷ y ∷ []) t r (mid2, (mid1, start, has), p) =
      let fewer = ap unmarked start.0 in
      let long = ap length start.0 in
      let g2 = grown_on s mid1 mid2 (same_search s mid1 start.0 start.1) (grown_has mid1 mid2 y.0 y.1 has) in
      let f2 = has_fewer mid1 mid2 y.0 y.1 has in
      let there = has_there mid1 mid2 y.0 y.1 has in
      let k3 = has_known code mid2 t x.0 x.1 r.0 (second n e x y mid1 mid2 r start has)
      (r.4 (marks_at mid2.marks.items) g2.ext there)
      (λ shapes kept. (given_there ((x.0, r.0) ∷ (y.0, r.1) ∷ []) r.2 shapes kept).0)
      (omega (arith, e, r.5, fewer, long, f2.0, f2.1)) p in
      let g3 = grown_has mid2 t x.0 x.1 p in
      (k3, grown_on s mid2 t g2 g3, (has_there mid2 t x.0 x.1 p, (g3.ext y.0 y.1 there, tt)))
  placed n e (x ∷ y ∷ z ∷ gs) t r p = absurd r

  -- or one can't be
  not_placed : (n : ℕ) → n + unmarked s.marks.items ≡ bound → (gs : MarksGiven) (t : MarkSearch)
      → Related n (marks_at s.marks.items) (Some gs) (next i a sh) → Places gs s t false → (shapes : Shapes)
      → IsKept code shapes → ⊥
  not_placed n e [] t r p shapes kept = absurd p
  not_placed n e (x ∷ []) t r (inl p) shapes kept = absurd p.1
  not_placed n e (x ∷ []) t r (inr p) shapes kept =
      let start = p.1 in
      let k1 = subst (Known code) (sym start.0) h in
      clash code p.0 x.0 x.1 r.0 k1 (subst (λ l. Is (marks_at l) x.1 r.0) (sym start.0) r.2)
      (λ sh1 kept1. (given_there ((x.0, r.0) ∷ []) r.1 sh1 kept1).0) p.2 shapes kept
  not_placed n e (x ∷ y ∷ []) t r (inl (mid, inl p)) shapes kept = absurd p.1
  not_placed n e (x ∷ y ∷ []) t r (inl (mid, inr p)) shapes kept =
      let start = p.1 in
      let k1 = subst (Known code) (sym start.0) h in
      clash code p.0 y.0 y.1 r.1 k1 (subst (λ l. Is (marks_at l) y.1 r.1) (sym start.0) r.3)
      (λ sh1 kept1. (given_there ((x.0, r.0) ∷ (y.0, r.1) ∷ []) r.2 sh1 kept1).1.0) p.2 shapes kept
  not_placed n e (x ∷ y ∷ []) t r (inr (mid2, (mid1, start, has), p)) shapes kept =
      let g2 = grown_on s mid1 mid2 (same_search s mid1 start.0 start.1) (grown_has mid1 mid2 y.0 y.1 has) in
      let there = has_there mid1 mid2 y.0 y.1 has in
      clash code mid2 x.0 x.1 r.0 (second n e x y mid1 mid2 r start has) (r.4 (marks_at mid2.marks.items) g2.ext there)
      (λ sh1 kept1. (given_there ((x.0, r.0) ∷ (y.0, r.1) ∷ []) r.2 sh1 kept1).0) p shapes kept
  not_placed n e (x ∷ y ∷ z ∷ gs) t r p shapes kept = absurd r

  trees_left : (n : ℕ) × (n + unmarked s.marks.items ≡ bound)
  trees_left = let r = h.room a m is_m in (length s.marks.items - unmarked s.marks.items, omega (arith, r))

  pub all_placed : (o : Option MarksGiven) (t : MarkSearch) → o ≡ next_mark (marks_at s.marks.items) i a m
      → PlacesAll o s t true → Known code t.marks.items × Grown s t × Follows code (marks_at t.marks.items) a m
  all_placed None t q p = absurd (cc)
  all_placed (Some gs) t q p =
      let n = trees_left in
      let r = subst (λ x. Related n.0 (marks_at s.marks.items) x (next i a sh)) (sym q) (rel n.0 n.1) in
      let k = placed n.0 n.1 gs t r p in (
        k.0,
        k.1,
        (
          gs,
          ap (λ x. mark_by (marks_at t.marks.items) x a m) is_i
              ∙ next_grow (marks_at s.marks.items) (marks_at t.marks.items) k.1.ext i a m gs (sym q),
          k.2,
        ),
      )

  pub none_placed : (o : Option MarksGiven) (t : MarkSearch) → o ≡ next_mark (marks_at s.marks.items) i a m
      → PlacesAll o s t false → (shapes : Shapes) → IsKept code shapes → ⊥
  none_placed None t q p =
      refused_none (let n = trees_left in
      subst (λ x. Related n.0 (marks_at s.marks.items) x (next i a sh)) (sym q) (rel n.0 n.1))
  none_placed (Some gs) t q p =
      let n = trees_left in
      not_placed n.0 n.1 gs t (subst (λ x. Related n.0 (marks_at s.marks.items) x (next i a sh)) (sym q) (rel n.0 n.1))
      p

-- one address that waited is looked at
pub found_next : (code : List Instr) (s0 s t : MarkSearch) (a : ℕ) (m : Mark) → Found code s0
    → s0.waiting.items ≡ s.waiting.items ++ a ∷ [] → s.marks.items ≡ s0.marks.items → marks_at s.marks.items a ≡ Some m
    → Known code t.marks.items × Grown s t × Follows code (marks_at t.marks.items) a m → Found code t
found_next code s0 s t a m f rest same is k =
    record { known = k.0; waiting = waiting; done = done }
  where
    waiting : (b : ℕ) → Waits t.waiting.items b → (x : Mark) × (marks_at t.marks.items b ≡ Some x)
    waiting b w = ⊎_elim
        (λ v. let old = f.waiting b (subst (λ l. Waits l b) (sym rest) (front s.waiting.items v)) in
        (old.0, k.1.ext b old.0 (ap (λ l. marks_at l b) same ∙ old.1)))
        (λ x. x)
        (k.1.known b w)
      where
        front : (xs : List ℕ) → Waits xs b → Waits (xs ++ a ∷ []) b
        front [] h = absurd h
        front (x ∷ xs) (inl h) = inl h
        front (x ∷ xs) (inr h) = inr (front xs h)

    done : (b : ℕ) (x : Mark) → marks_at t.marks.items b ≡ Some x → Waits t.waiting.items b
        ⊎ Follows code (marks_at t.marks.items) b x
    done b x e = ⊎_elim
        (λ old. ⊎_elim
        (λ w. ⊎_elim (λ v. inl (k.1.waits b v)) (λ here. inr (looked here))
        (waits_which s.waiting.items a b (subst (λ l. Waits l b) rest w)))
        (λ fl. inr (follows_grow code (marks_at s0.marks.items) (marks_at t.marks.items)
        (λ c y q. k.1.ext c y (ap (λ l. marks_at l c) same ∙ q)) b x fl))
        (f.done b x (sym (ap (λ l. marks_at l b) same) ∙ old)))
        (λ w. inl w)
        (k.1.fresh b x e)
      where
        looked : a ≡ b → Follows code (marks_at t.marks.items) b x
        looked here =
            let mine : m ≡ x = same_some m x (sym (k.1.ext a m is) ∙ ap (marks_at t.marks.items) here ∙ e) in
            subst (λ c. Follows code (marks_at t.marks.items) c x) here
            (subst (Follows code (marks_at t.marks.items) a) mine k.2)

-- where nothing has a mark
pub none_marked : (n a : ℕ) → marks_at (replicate n None) a ≡ None
none_marked zero a = refl
none_marked (suc n) zero = refl
none_marked (suc n) (suc a) = none_marked n a

pub unmarked_all : (n : ℕ) → unmarked (replicate n None) ≡ n
unmarked_all zero = refl
unmarked_all (suc n) = ap suc (unmarked_all n)
