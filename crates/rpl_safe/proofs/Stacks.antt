-- Marks and the shapes that they stand for.
use Rattle.std.proofs.Common.{◌≡◌, ℕ, zero, suc, ◌+◌, ◌≤◌, List, [], ◌∷◌, Option, Some, None, refl, sym, ap, ◌∙◌, subst}
use Rattle.std.proofs.Common.{arith}
use Rattle.std.specs.Prelude.{Bool, true, false, ◌&&◌, nat_eq, if◌then◌else◌}
use Rattle.rpl_core.specs.Instr.{Instr}
use Rattle.rpl_core.specs.Instr as I
use Rattle.rpl_safe.specs.Safe.{Left, Shape, Given, fresh, on_left, only, one_less, is_done, onward, next}
use Rattle.rpl_safe.specs.Safe as S
use Rattle.rpl_safe.specs.declared.marks.Mark.{Mark}
use Rattle.rpl_safe.specs.inside.Marks.{Marks, last_of, MarksGiven, with_last, is_none, is_done_mark, to, next_mark}
use Rattle.rpl_safe.specs.inside.Marks.{Stacked, Is}

-- what is marked in the first is marked so in the second
abbrev pub Extends : Marks → Marks → Type 0
Extends f g = (a : ℕ) (m : Mark) → f a ≡ Some m → g a ≡ Some m

pub stacked_grow : (f g : Marks) → Extends f g → (o : Option ℕ) (es : List Left) → Stacked f o es → Stacked g o es
stacked_grow f g ext o [] h = h
stacked_grow f g ext o (e ∷ es) h = (h.0, h.1, ext e.address h.1 h.2, h.3, stacked_grow f g ext h.1.last es h.4)

pub is_grow : (f g : Marks) → Extends f g → (m : Mark) (s : Shape) → Is f m s → Is g m s
is_grow f g ext m s h = record {
  frame = h.frame;
  trees = h.trees;
  entries = stacked_grow f g ext m.last s.entries h.entries;
}

abbrev left_of : ℕ → ℕ → Left
left_of a c = record { address = a; trees = c }

left_eq : (a b : Left) → a.address ≡ b.address → a.trees ≡ b.trees → a ≡ b
left_eq a b p q = let x : left_of a.address a.trees ≡ left_of b.address b.trees = cc (p, q) in x

abbrev pub shape_of : ℕ → List Left → ℕ → Shape
shape_of f es c = record { frame = f; entries = es; trees = c }

abbrev mark_of : ℕ → Option ℕ → ℕ → Mark
mark_of f o c = record { frame = f; last = o; trees = c }

-- equal options have equal values
pub same_some : {A : Type 0} (x y : A) → Some x ≡ Some y → x ≡ y
same_some x y e = cc

-- a list is that of one mark alone, and a mark that of one list
pub stacked_same : (f : Marks) (o p : Option ℕ) (es ds : List Left) → o ≡ p → Stacked f o es → Stacked f p ds → es ≡ ds
stacked_same f o p [] [] q h k = refl
stacked_same f o p [] (d ∷ ds) q h k = let z : None ≡ Some d.address = sym h ∙ q ∙ k.0 in absurd (cc)
stacked_same f o p (e ∷ es) [] q h k = let z : Some e.address ≡ None = sym h.0 ∙ q ∙ k in absurd (cc)
stacked_same f o p (e ∷ es) (d ∷ ds) q h k =
    let at : e.address ≡ d.address = same_some e.address d.address (sym h.0 ∙ q ∙ k.0) in
    let m : h.1 ≡ k.1 = same_some h.1 k.1 (sym h.2 ∙ ap f at ∙ k.2) in
    let t : e.trees ≡ d.trees = sym h.3 ∙ ap (λ (x : Mark). x.trees) m ∙ k.3 in
    let first = left_eq e d at t in
    let rest = stacked_same f h.1.last k.1.last es ds (ap (λ (x : Mark). x.last) m) h.4 k.4 in
    cc (first, rest)

stacked_last : (f : Marks) (o p : Option ℕ) (es ds : List Left) → es ≡ ds → Stacked f o es → Stacked f p ds → o ≡ p
stacked_last f o p [] [] q h k = h ∙ sym k
stacked_last f o p [] (d ∷ ds) q h k = absurd (cc)
stacked_last f o p (e ∷ es) [] q h k = absurd (cc)
stacked_last f o p (e ∷ es) (d ∷ ds) q h k =
    let first : e ≡ d = cc in
    h.0 ∙ ap (λ (x : Left). Some x.address) first ∙ sym k.0

pub is_same : (f : Marks) (m : Mark) (s r : Shape) → Is f m s → Is f m r → s ≡ r
is_same f m s r h k =
    let e = stacked_same f m.last m.last s.entries r.entries refl h.entries k.entries in
    let x : shape_of s.frame s.entries s.trees ≡ shape_of r.frame r.entries r.trees =
    cc (sym h.frame ∙ k.frame, e, sym h.trees ∙ k.trees) in
    x

pub is_one : (f : Marks) (m k : Mark) (s : Shape) → Is f m s → Is f k s → m ≡ k
is_one f m k s h j =
    let o = stacked_last f m.last k.last s.entries s.entries refl h.entries j.entries in
    let x : mark_of m.frame m.last m.trees ≡ mark_of k.frame k.last k.trees =
    cc (h.frame ∙ sym j.frame, o, h.trees ∙ sym j.trees) in
    x

-- What an instruction gives of marks and of shapes goes together: the same addresses, and at each a mark for the shape.
-- Of two, the second stands in the first's list, or nowhere there. No mark has more trees than n.
abbrev pub Related : ℕ → Marks → Option MarksGiven → Option Given → Type 0
Related n f None o = o ≡ None
Related n f (Some []) o = o ≡ Some []
Related n f (Some (x ∷ [])) o = (s : Shape) × (o ≡ Some ((x.0, s) ∷ [])) × Is f x.1 s × (x.1.trees ≤ n)
Related n f (Some (x ∷ y ∷ [])) o =
    (s : Shape) × (r : Shape) × (o ≡ Some ((x.0, s) ∷ (y.0, r) ∷ [])) × Is f y.1 r
    × ((g : Marks) → Extends f g → g y.0 ≡ Some y.1 → Is g x.1 s) × (x.1.trees ≤ n) × (y.1.trees ≤ n)
Related n f (Some (x ∷ y ∷ z ∷ gs)) o = ⊥

module _ (f : Marks) (n : ℕ) (low : (a : ℕ) (m : Mark) → f a ≡ Some m → suc m.trees ≤ n) (m : Mark) (es :
    List Left) (st : Stacked f m.last es) (here : suc m.trees ≤ n) where
  s : Shape
  s = shape_of m.frame es m.trees

  abbrev me : Is f m (shape_of m.frame es m.trees)
  me = record { frame = refl; trees = refl; entries = st }

  one : (a : ℕ) → Related n f (to a m) (S.to a (shape_of m.frame es m.trees))
  one a = (shape_of m.frame es m.trees, refl, me, omega (arith, here))

  -- what asks for the last entry
  last_related : (go : Mark → Option MarksGiven) (og : Left → List Left → Option Given) (ds : List Left) (o : Option ℕ)
      → Stacked f o ds → ((k : Mark) (e : Left) (rest : List Left) → f e.address ≡ Some k → k.trees ≡ e.trees
      → Stacked f k.last rest → Related n f (go k) (og e rest))
      → Related n f (with_last (last_of f o) go) (on_left ds og)
  last_related go og [] o h each = subst (λ x. Related n f (with_last (last_of f x) go) None) (sym h) refl
  last_related go og (e ∷ rest) o h each =
      subst (λ x. Related n f (with_last (last_of f x) go) (og e rest)) (sym h.0)
      (subst (λ x. Related n f (with_last x go) (og e rest)) (sym h.2) (each h.1 e rest h.2 h.3 h.4))

  done_same : (ds : List Left) (o : Option ℕ) (c : ℕ) → Stacked f o ds
      → (nat_eq c 0 && is_none o) ≡ is_done (shape_of m.frame ds c)
  done_same [] o c h = ap (λ x. nat_eq c 0 && is_none x) h ∙ right (nat_eq c 0)
    where
      right : (b : Bool) → (b && true) ≡ b
      right true = refl
      right false = refl
  done_same (e ∷ rest) o c h = ap (λ x. nat_eq c 0 && is_none x) h.0 ∙ never (nat_eq c 0)
    where
      never : (b : Bool) → (b && false) ≡ false
      never true = refl
      never false = refl

  ends : (b : Bool) → Related n f (only b []) (only b [])
  ends true = refl
  ends false = refl

  branch : (b : Bool) (x y : Option MarksGiven) (u v : Option Given) → Related n f x u → Related n f y v
      → Related n f (if b then x else y) (if b then u else v)
  branch true x y u v h k = h
  branch false x y u v h k = k

  ends_same : Related n f (only (is_done_mark m) []) (only (is_done (shape_of m.frame es m.trees)) [])
  ends_same = subst (λ b. Related n f (only (is_done_mark m) []) (only b [])) (done_same es m.last m.trees st)
      (ends (is_done_mark m))

  pub related : (i : Instr) (a : ℕ) → Related n f (next_mark f i a m) (next i a (shape_of m.frame es m.trees))
  related (I.Set k) a = one (a + 1)
  related I.Start a = one (a + 1)
  related I.End a = one (a + 1)
  related (I.Back k) a = one (a + 1)
  related (I.Note x) a = one (a + 1)
  related (I.Span k) a = one (a + 1)
  related (I.TestSet l k) a = (
    shape_of m.frame es m.trees,
    shape_of m.frame es m.trees,
    refl,
    me,
    (λ g ext e. is_grow f g ext m _ me),
    omega (arith, here),
    omega (arith, here),
  )
  related (I.Choice l) a = (
    shape_of m.frame (left_of l m.trees ∷ es) m.trees,
    shape_of m.frame es m.trees,
    refl,
    me,
    (λ g ext e. record { frame = refl; trees = refl; entries = (refl, m, e, refl, stacked_grow f g ext m.last es st) }),
    omega (arith, here),
    omega (arith, here),
  )
  related (I.Commit l) a =
      last_related _ _ es m.last st (λ k e rest at t h. (
        shape_of m.frame rest m.trees,
        refl,
        record {
          frame = refl;
          trees = refl;
          entries = h;
        },
        omega (arith, here),
      ))
  related (I.PartialCommit l) a =
      last_related _ _ es m.last st (λ k e rest at t h. partial (nat_eq k.trees m.trees) (nat_eq e.trees m.trees)
      (ap (λ x. nat_eq x m.trees) t))
    where
      partial : (b c : Bool) → b ≡ c
          → Related n f (only b ((l, m) ∷ [])) (only c ((l, shape_of m.frame es m.trees) ∷ []))
      partial true true e = (shape_of m.frame es m.trees, refl, me, omega (arith, here))
      partial true false e = absurd (cc)
      partial false true e = absurd (cc)
      partial false false e = refl
  related (I.BackCommit l) a =
      last_related _ _ es m.last st (λ k e rest at t h. (
        shape_of m.frame rest e.trees,
        refl,
        record {
          frame = refl;
          trees = t;
          entries = h;
        },
        omega (arith, low e.address k at),
      ))
  related (I.Meet l) a =
      last_related _ _ es m.last st (λ k e rest at t h. (
        shape_of m.frame rest e.trees,
        refl,
        record {
          frame = refl;
          trees = t;
          entries = h;
        },
        omega (arith, low e.address k at),
      ))
  related I.FailTwice a = last_related _ _ es m.last st (λ k e rest at t h. refl)
  related I.Fail a = refl
  related I.Halt a = refl
  related (I.Call zero) a = refl
  related (I.Call (suc l)) a = (
    fresh (suc l),
    shape_of m.frame es m.trees,
    refl,
    me,
    (λ g ext e. record {
      frame = refl;
      trees = refl;
      entries = refl;
    }),
    omega arith,
    omega (arith, here),
  )
  related I.Return a =
      branch (nat_eq m.frame 0) None (only (is_done_mark m) []) None (only (is_done (shape_of m.frame es m.trees)) [])
      refl ends_same
  related (I.Open c) a =
      (shape_of m.frame es (suc m.trees), refl, record { frame = refl; trees = refl; entries = st }, here)
  related I.Close a = less m.trees (λ c lt. lt) here
    where
      less : (c : ℕ) → ((d : ℕ) → d ≤ c → d ≤ c) → suc c ≤ n
          → Related n f (one_less c (λ d. to (a + 1) (record m { trees = d })))
          (one_less c (λ d. onward a (shape_of m.frame es d)))
      less zero q le = refl
      less (suc c) q le =
          (shape_of m.frame es c, refl, record { frame = refl; trees = refl; entries = st }, omega (arith, le))
  related I.Finish a =
      branch (nat_eq m.frame 0) (only (is_done_mark m) []) None (only (is_done (shape_of m.frame es m.trees)) []) None
      ends_same refl

pub related_is : (f : Marks) (n : ℕ) → ((a : ℕ) (m : Mark) → f a ≡ Some m → suc m.trees ≤ n) → (m : Mark) (s : Shape)
    → Is f m s → suc m.trees ≤ n → (i : Instr) (a : ℕ) → Related n f (next_mark f i a m) (next i a s)
related_is f n low m s h here i a =
    let x : shape_of m.frame s.entries m.trees ≡ shape_of s.frame s.entries s.trees = cc (h.frame, h.trees) in
    subst (λ r. Related n f (next_mark f i a m) (next i a r)) x (related f n low m s.entries h.entries here i a)
