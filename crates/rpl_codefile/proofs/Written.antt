-- The spelling of a program, and what it tells of the bytes.
use Rattle.std.proofs.Common.{◌≡◌, ℕ, zero, suc, ◌+◌, ◌<◌, ◌≤◌, List, [], ◌∷◌, ◌++◌, length, take, map, Some, sym, ap}
use Rattle.std.proofs.Common.{◌∙◌, subst, arith}
use Rattle.std.proofs.lemmas.List.{length-map}
use Rattle.std.specs.Prelude.{slice_get, IfOk, OnOk, Result, Ok, Err}
use Rattle.std.specs.List.{list_all}
use Rattle.regex_class.specs.Ranges.{Range}
use Rattle.rpl_core.specs.Instr.{Instr}
use Rattle.rpl_core.specs.Numbers.{instr_of, AreInRange}
use Rattle.rpl_core.specs.Program.{code_of, sets_of, labels_of, instructions}
use Rattle.rpl_core.specs.declared.instr.Instr as R
use Rattle.rpl_core.specs.declared.program.Program.{Program}
use Rattle.rpl_intern.specs.Uses.{Keeps, KeepsOnce, sets_in, labels_in}
use Rattle.rpl_intern.specs.Written.{Says, Adds, shown}
use Rattle.rpl_intern.specs.declared.draft.Draft.{Draft}
use Rattle.rpl_intern.proofs.Adding.{adds_then, as_list}
use Rattle.rpl_codefile.specs.Spelling.{spelling, FitsFile, Spells}
use Rattle.rpl_codefile.specs.Spelling.{file_of}
use Rattle.rpl_codefile.proofs.Making.{keeps_few, sets_few, texts_few}
use Rattle.rpl_codefile.proofs.Copies.{target, all_shown, all_range, all_targets}

-- one instruction more of a code
map_more : {A B : Type 0} (f : A → B) (xs : List A) (i : ℕ) (x : A) → slice_get xs i ≡ Some x
    → map f (take i xs) ++ f x ∷ [] ≡ map f (take (i + 1) xs)
map_more f [] i x e = absurd (cc)
map_more f (y ∷ xs) zero x e = let z : x ≡ y = cc in ap (λ w. f w ∷ []) z
map_more f (y ∷ xs) (suc i) x e =
    let m : suc (i + 1) ≡ suc i + 1 = omega arith in
    ap (λ l. f y ∷ l) (map_more f xs i x e) ∙ ap (λ k. map f (take k (y ∷ xs))) m

pub adds_more : (p q r : Draft) (f : R.Instr → Instr) (xs : List R.Instr) (i : ℕ) (x : R.Instr)
    → slice_get xs i ≡ Some x → Adds p q (map f (take i xs)) → Adds q r (f x ∷ []) → Adds p r (map f (take (i + 1) xs))
adds_more p q r f xs i x e a b =
    as_list p r (map f (take i xs) ++ f x ∷ []) (map f (take (i + 1) xs)) (map_more f xs i x e)
    (adds_then p q r (map f (take i xs)) (f x ∷ []) a b)

-- a draft of a program's code is a file that says it
pub written : (p : Program) (old new : Draft) (c : List R.Instr) (s : List (List Range)) (t : List (List ℕ)) (bytes :
    List ℕ) → old.code ≡ [] → old.sets ≡ [] → old.labels ≡ [] → Adds old new (instructions p) → c ≡ new.code
    → s ≡ new.sets → t ≡ new.labels → 0 < length (code_of p) → length (code_of p) ≤ 1048576
    → AreInRange (code_of p) (sets_of p) (labels_of p) → FitsFile (file_of c s t) → bytes ≡ spelling (file_of c s t)
    → Spells (instructions p) bytes
written p old new c s t bytes no_code no_sets no_texts adds is_c is_s is_t some limit range fits e =
    record {
      file = file_of c s t;
      is_file = record {
        some = omega (arith, long, some);
        limit = omega (arith, long, limit);
        in_range = in_range_new;
        sets = once_sets;
        texts = once_texts;
        fits = fits;
      };
      code_is = sym said;
      bytes_are = e;
    }
  where
    is : List Instr
    is = instructions p

    shown_all : map (shown s t) c ≡ map Some (instructions p)
    shown_all =
        let nothing : Says old [] = ap (map (shown old.sets old.labels)) no_code in
        let all : map (shown new.sets new.labels) new.code ≡ map Some (instructions p) = adds.code [] nothing in
        ap (λ x. map (shown x t) c) is_s ∙ ap (λ x. map (shown new.sets x) c) is_t
        ∙ ap (map (shown new.sets new.labels)) is_c ∙ all

    said : map (instr_of s t) c ≡ instructions p
    said = all_shown s t c (instructions p) shown_all

    long : length c ≡ length (code_of p)
    long = sym (length-map c (instr_of s t)) ∙ ap length said
        ∙ length-map (code_of p) (instr_of (sets_of p) (labels_of p))

    in_range_new : AreInRange c s t
    in_range_new =
        let had = all_targets (sets_of p) (labels_of p) (length (code_of p)) (length (sets_of p)) (length (labels_of p))
        (code_of p) range in
        all_range s t (length c) c (instructions p) shown_all (ap (λ n. list_all (target n) (instructions p)) long
        ∙ had)

    once_sets : KeepsOnce (sets_in (map (instr_of s t) c)) s
    once_sets =
        let k = subst (λ o. Keeps o (sets_in (instructions p)) new.sets) no_sets adds.sets in
        subst (λ x. KeepsOnce (sets_in x) s) (sym said) (subst (λ x. KeepsOnce (sets_in (instructions p)) x) (sym is_s)
        k)

    once_texts : KeepsOnce (labels_in (map (instr_of s t) c)) t
    once_texts =
        let k = subst (λ o. Keeps o (labels_in (instructions p)) new.labels) no_texts adds.labels in
        subst (λ x. KeepsOnce (labels_in x) t) (sym said)
        (subst (λ x. KeepsOnce (labels_in (instructions p)) x) (sym is_t) k)

pub all_written : {E : Type 0} (p : Program) (old new : Draft) (c : List R.Instr) (s : List (List Range)) (t :
    List (List ℕ)) (r : Result (List ℕ) E) → old.code ≡ [] → old.sets ≡ [] → old.labels ≡ []
    → Adds old new (instructions p) → c ≡ new.code → s ≡ new.sets → t ≡ new.labels → 0 < length (code_of p)
    → length (code_of p) ≤ 1048576 → AreInRange (code_of p) (sets_of p) (labels_of p)
    → OnOk r (FitsFile (file_of c s t))
    → IfOk r (λ v. v ≡ spelling (file_of c s t)) → IfOk r (λ v. Spells (instructions p) v)
all_written p old new c s t (Ok v) a b d adds e f g some limit range fits bytes =
    written p old new c s t v a b d adds e f g some limit range fits bytes
all_written p old new c s t (Err x) a b d adds e f g some limit range fits bytes = tt

-- a draft of a program's code has no more instructions, sets and texts than that
pub draft_few : (p : Program) (old new : Draft) → old.code ≡ [] → old.sets ≡ [] → old.labels ≡ []
    → Adds old new (instructions p) → length (code_of p) ≤ 1048576 → (length new.code ≤ 1048576)
    × ((length new.sets ≤ 1048576) × (length new.labels ≤ 1048576))
draft_few p old new no_code no_sets no_texts adds limit =
    let is = instructions p in
    let long : length is ≡ length (code_of p) = length-map (code_of p) (instr_of (sets_of p) (labels_of p)) in (
      omega (arith, adds.long, ap length no_code, long, limit),
      (
        omega (arith, keeps_few old.sets (sets_in is) new.sets adds.sets, ap length no_sets, sets_few is, long, limit),
        omega (
          arith,
          keeps_few old.labels (labels_in is) new.labels adds.labels,
          ap length no_texts,
          texts_few is,
          long,
          limit,
        ),
      ),
    )
