-- Steps of the counting.
use Rattle.std.proofs.Common.{◌≡◌, ◌≢◌, ℕ, zero, suc, ◌+◌, ◌-◌, ◌*◌, ◌<◌, ◌≤◌, List, [], ◌∷◌, length, refl, ap, ◌∙◌}
use Rattle.std.proofs.Common.{subst, arith, inl, inr}
use Rattle.std.specs.Prelude.{Bool, true, false, min, max}
use Rattle.std.proofs.lemmas.Bool.{cases_order}
use Rattle.rpl_core.specs.Core.{Core, Seq, Many, Capture, Cores, NoMore, Then}
use Rattle.rpl_macro.specs.declared.casing.Casing.{Casing}
use Rattle.rpl_forms.specs.Counting.{CountsAll, Adds, seen, seen_all}
use Rattle.rpl_forms.specs.Forms.{pair, or_nothing, copies, sets, text_core, endless, cooked_endless, cooked_turns}
use Rattle.rpl_forms.specs.Forms.{cooked_bounded, passed, found, kept, mark_name}
use Rattle.rpl_forms.specs.Inlining.{Inners}
use Rattle.rpl_forms.specs.Sizes.{nodes, all_nodes, deep, most_deep}
use Rattle.rpl_forms.specs.declared.size.Count.{Count}
use Rattle.rpl_syntax.specs.declared.expr.Mark.TheVariants.{Hit, Skip}

-- ---- copies

pub copies_nodes : (n : ℕ) (p : Core) (ps : Cores) → all_nodes (copies n p ps) ≡ n * nodes p + all_nodes ps
copies_nodes zero p ps = omega arith
copies_nodes (suc n) p ps = let e = copies_nodes n p ps in omega arith

pub copies_deep : (n : ℕ) (p : Core) (ps : Cores) → n ≢ 0 → most_deep (copies n p ps) ≡ max (deep p) (most_deep ps)
copies_deep zero p ps h = absurd (h refl)
copies_deep (suc zero) p ps h = refl
copies_deep (suc (suc n)) p ps h = let e = copies_deep (suc n) p ps (omega arith) in omega arith

grows : (k x : ℕ) → x ≤ suc k * x
grows k x = omega arith

-- a capped product and sum
capped_small : (k x r : ℕ) → x ≤ 65537 → min 65537 (suc k * min 65537 x + min 65537 r) ≡ min 65537 (suc k * x + r)
capped_small k x r le =
    let e : min 65537 x ≡ x = omega arith in
    ap (λ m. min 65537 (suc k * m + min 65537 r)) e ∙ omega arith

capped_large : (k x r : ℕ) → 65537 ≤ x → min 65537 (suc k * min 65537 x + min 65537 r) ≡ min 65537 (suc k * x + r)
capped_large k x r ge =
    let e : min 65537 x ≡ 65537 = omega arith in
    let g = grows k x in
    let f = grows k 65537 in
    ap (λ m. min 65537 (suc k * m + min 65537 r)) e ∙ omega (arith, f, g)

pub capped_times : (n x r : ℕ) → n ≢ 0 → min 65537 (n * min 65537 x + min 65537 r) ≡ min 65537 (n * x + r)
capped_times zero x r h = absurd (h refl)
capped_times (suc k) x r h = elim (cases_order x 65537) [
  | inl e ↦ capped_small k x r (omega arith)
  | inr (inl lt) ↦ capped_small k x r (omega arith)
  | inr (inr gt) ↦ capped_large k x r (omega arith)
]

-- ---- texts

sets_nodes : (c : Casing) (t : List ℕ) → all_nodes (sets c t) ≡ length t
sets_nodes c [] = refl
sets_nodes c (x ∷ t) = let e = sets_nodes c t in omega arith

sets_deep : (c : Casing) (t : List ℕ) → most_deep (sets c t) ≤ 1
sets_deep c [] = omega arith
sets_deep c (x ∷ t) = let e = sets_deep c t in omega arith

pub text_nodes : (c : Casing) (t : List ℕ) → 2 ≤ length t → nodes (text_core c t) ≡ 1 + length t
text_nodes c [] h = absurd (omega arith)
text_nodes c (x ∷ []) h = absurd (omega arith)
text_nodes c (x ∷ y ∷ t) h = let e = sets_nodes c t in omega arith

pub text_deep : (c : Casing) (t : List ℕ) → 2 ≤ length t → deep (text_core c t) ≡ 2
text_deep c [] h = absurd (omega arith)
text_deep c (x ∷ []) h = absurd (omega arith)
text_deep c (x ∷ y ∷ t) h = let e = sets_deep c t in omega arith

pub short_nodes : (c : Casing) (t : List ℕ) → length t < 2 → nodes (text_core c t) ≡ 1
short_nodes c [] h = refl
short_nodes c (x ∷ []) h = refl
short_nodes c (x ∷ y ∷ t) h = absurd (omega arith)

pub short_deep : (c : Casing) (t : List ℕ) → length t < 2 → deep (text_core c t) ≡ 1
short_deep c [] h = refl
short_deep c (x ∷ []) h = refl
short_deep c (x ∷ y ∷ t) h = absurd (omega arith)

-- ---- repetitions

pub endless_more : (p : Core) (n : ℕ) → n ≢ 0 → endless p n ≡ Seq (Then p (copies (n - 1) p (Then (Many p) NoMore)))
endless_more p zero h = absurd (h refl)
endless_more p (suc n) h = let e : suc n - 1 ≡ n = omega arith in rw e refl

pub cooked_more : (b p : Core) (n : ℕ) → n ≢ 0
    → cooked_endless b p n ≡ Seq (Then p (copies (n - 1) (pair b p) (Then (Many (pair b p)) NoMore)))
cooked_more b p zero h = absurd (h refl)
cooked_more b p (suc n) h = let e : suc n - 1 ≡ n = omega arith in rw e refl

pub bounded_some : (b p : Core) (n m : ℕ) → 0 < n → cooked_bounded b p n m ≡ cooked_turns b p (n - 1) (m - n)
bounded_some b p zero m h = absurd (omega arith)
bounded_some b p (suc n) m h = let e : suc n - 1 ≡ n = omega arith in rw e refl

pub bounded_none : (b p : Core) (m : ℕ) → m ≢ 0 → cooked_bounded b p 0 m ≡ or_nothing (cooked_turns b p 0 (m - 1))
bounded_none b p zero h = absurd (h refl)
bounded_none b p (suc m) h = let e : suc m - 1 ≡ m = omega arith in rw e refl

-- ---- searches

pub seen_found : (b : Bool) (I : Inners) (p : Core)
    → seen b I (found p) ≡ pair (passed (seen b I p)) (seen b I (Capture (mark_name Hit) p))
seen_found true I p = refl
seen_found false I p = refl

pub seen_kept : (b : Bool) (I : Inners) (p : Core)
    → seen b I (kept p) ≡ pair (seen b I (Capture (mark_name Skip) (passed p))) (seen b I (Capture (mark_name Hit) p))
seen_kept true I p = refl
seen_kept false I p = refl

pub seen_passed : (b : Bool) (I : Inners) (p : Core) → seen b I (passed p) ≡ passed (seen b I p)
seen_passed true I p = refl
seen_passed false I p = refl

-- ---- parts

-- no cores, as they are seen in a look-behind or outside one, are no cores
pub seen_nothing : (b : Bool) (I : Inners) → seen_all b I NoMore ≡ NoMore
seen_nothing true I = refl
seen_nothing false I = refl

-- if no cores are left, the count is that of all cores
pub adds_done : (n : Count) (rest whole : Cores) → rest ≡ NoMore → Adds n rest whole → CountsAll n whole
adds_done n rest whole e h =
    let a = subst (λ r. Adds n r whole) e h in
    record {
      size_is = let x = a.size_is in let y = n.few in omega arith;
      depth_is = let x = a.depth_is in
          let y = n.flat in omega arith;
    }
