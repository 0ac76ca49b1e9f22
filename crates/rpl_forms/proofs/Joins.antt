-- Some cores before others.
use Rattle.std.proofs.Common.{◌≡◌, ℕ, zero, suc, ◌+◌, ◌<◌, ◌≤◌, List, [], ◌∷◌, ◌++◌, length, get_or, refl, sym, ap, ◌∙◌}
use Rattle.std.proofs.Common.{arith}
use Rattle.std.specs.Prelude.{◌≢◌, Some, None, slice_get}
use Rattle.rpl_core.specs.Core.{Core, Set, Seq, Many, Cores, NoMore, Then}
use Rattle.rpl_macro.specs.Casings.{set_in, single}
use Rattle.rpl_macro.specs.declared.casing.Casing.{Casing}
use Rattle.rpl_core.specs.declared.peg.Peg.{Peg}
use Rattle.rpl_core.specs.View.{core_of, cores}
use Rattle.rpl_forms.specs.Forms.{joined, copies, seq_of, sets, endless}
use Rattle.rpl_forms.specs.Inlining.{Inners, inlined, inlined_all}
use Rattle.rpl_forms.specs.Sizes.{deep, most_deep}

-- joining no cores to a list changes nothing
pub joined_none : (ps : Cores) → joined ps NoMore ≡ ps
joined_none NoMore = refl
joined_none (Then p ps) = ap (Then p) (joined_none ps)

-- three lists of cores, one after the other, are the same list however they are joined
pub joined_assoc : (ps qs rs : Cores) → joined (joined ps qs) rs ≡ joined ps (joined qs rs)
joined_assoc NoMore qs rs = refl
joined_assoc (Then p ps) qs rs = ap (Then p) (joined_assoc ps qs rs)

-- one pattern more at the end
pub cores_last : (xs : List Peg) (p : Peg) → cores (xs ++ p ∷ []) ≡ joined (cores xs) (Then (core_of p) NoMore)
cores_last [] p = refl
cores_last (x ∷ xs) p = ap (Then (core_of x)) (cores_last xs p)

pub inlined_joined : (I : Inners) (ps qs : Cores)
    → inlined_all I (joined ps qs) ≡ joined (inlined_all I ps) (inlined_all I qs)
inlined_joined I NoMore qs = refl
inlined_joined I (Then p ps) qs = ap (Then (inlined I p)) (inlined_joined I ps qs)

pub inlined_more : (I : Inners) (xs ys : List Peg) (p q : Peg) → cores xs ≡ inlined_all I (cores ys)
    → core_of p ≡ inlined I (core_of q) → cores (xs ++ p ∷ []) ≡ inlined_all I (cores (ys ++ q ∷ []))
inlined_more I xs ys p q e f =
    cores_last xs p ∙ ap (λ ps. joined ps (Then (core_of p) NoMore)) e
    ∙ ap (λ r. joined (inlined_all I (cores ys)) (Then r NoMore)) f
    ∙ sym (inlined_joined I (cores ys) (Then (core_of q) NoMore)) ∙ ap (inlined_all I) (sym (cores_last ys q))

-- copies before others
pub copies_joined : (n : ℕ) (p : Core) (ps : Cores) → copies n p ps ≡ joined (copies n p NoMore) ps
copies_joined zero p ps = refl
copies_joined (suc n) p ps = ap (Then p) (copies_joined n p ps)

-- one copy more
pub copies_more : (n : ℕ) (p : Core) → copies (n + 1) p NoMore ≡ joined (copies n p NoMore) (Then p NoMore)
copies_more n p = let e : n + 1 ≡ suc n = omega arith in ap (λ k. copies k p NoMore) e ∙ front n p where
  front : (n : ℕ) (p : Core) → Then p (copies n p NoMore) ≡ joined (copies n p NoMore) (Then p NoMore)
  front zero p = refl
  front (suc n) p = ap (Then p) (front n p)

-- a part is no deeper than all
pub part_deep : (ps : List Peg) (k : ℕ) (p : Peg) → k < length ps → p ≡ get_or ps k p
    → deep (core_of p) ≤ most_deep (cores ps)
part_deep [] k p lt is = absurd (omega arith)
part_deep (q ∷ ps) zero p lt is = let d = ap (λ x. deep (core_of x)) is in omega (arith, d)
part_deep (q ∷ ps) (suc k) p lt is = let h = part_deep ps k p (omega arith) is in omega (arith, h)

-- what was added to nothing
pub two_more : (a b d x y : Cores) → a ≡ NoMore → b ≡ joined a x → d ≡ joined b y → d ≡ joined x y
two_more a b d x y e f g = g ∙ ap (λ z. joined z y) (f ∙ ap (λ z. joined z x) e)

pub group_none : (ps : List Peg) → length ps ≢ 1 → seq_of (cores ps) ≡ Seq (cores ps)
group_none [] h = refl
group_none (p ∷ []) h = absurd (h refl)
group_none (p ∷ q ∷ ps) h = refl

pub group_one : (ps : List Peg) (p : Peg) → length ps ≡ 1 → slice_get ps 0 ≡ Some p → seq_of (cores ps) ≡ core_of p
group_one [] p h e = absurd cc
group_one (q ∷ []) p h e = let same : q ≡ p = cc in ap core_of same
group_one (q ∷ r ∷ ps) p h e = absurd (omega (arith, h))

pub none_of_one : (ps : List Peg) → length ps ≡ 1 → slice_get ps 0 ≡ None → ⊥
none_of_one [] h e = omega (arith, h)
none_of_one (q ∷ ps) h e = cc

pub sets_more : (c : Casing) (t : List ℕ) (x : ℕ)
    → sets c (t ++ x ∷ []) ≡ joined (sets c t) (Then (Set (set_in c (single x))) NoMore)
sets_more c [] x = refl
sets_more c (y ∷ t) x = ap (Then (Set (set_in c (single y)))) (sets_more c t x)

pub endless_joined : (p : Core) (n : ℕ) → n ≢ 0 → Seq (joined (copies n p NoMore) (Then (Many p) NoMore)) ≡ endless p n
endless_joined p zero h = absurd (h refl)
endless_joined p (suc n) h = ap (λ x. Seq (Then p x)) (sym (copies_joined n p (Then (Many p) NoMore)))
