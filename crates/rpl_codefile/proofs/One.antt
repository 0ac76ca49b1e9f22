-- A code has one spelling.
use Rattle.std.proofs.Common.{◌≡◌, ℕ, List, [], ◌∷◌, length, Some, refl, sym, ap, ◌∙◌, subst, map}
use Rattle.std.proofs.lemmas.Bool.{and_parts, ltb-true}
use Rattle.std.proofs.lemmas.List.{length-map}
use Rattle.std.specs.Prelude.{true, nat_lt, slice_index_or}
use Rattle.std.specs.List.{list_all}
use Rattle.regex_class.specs.Ranges.{Range}
use Rattle.rpl_core.specs.Numbers.{instr_of, in_range}
use Rattle.rpl_core.specs.declared.instr.Instr as R
use Rattle.rpl_core.specs.declared.instr.Instr.TheVariants as V
use Rattle.rpl_intern.specs.Uses.{KeepsOnce, sets_in, labels_in}
use Rattle.rpl_codefile.specs.Spelling.{File, says, spelling}
use Rattle.rpl_codefile.specs.Laws.{OneSpelling}
use Rattle.rpl_codefile.specs.inside.Tables.{Apart}
use Rattle.rpl_codefile.proofs.Once.{get_there, keeps_apart, none_apart, keeps_same}

module _ (S : List (List Range)) (T : List (List ℕ)) (apart_sets : Apart S) (apart_texts : Apart T) (n : ℕ) where
  one_set : (s r : ℕ) → nat_lt s (length S) ≡ true → nat_lt r (length S) ≡ true
      → slice_index_or S s [] ≡ slice_index_or S r [] → s ≡ r
  one_set s r p q e = apart_sets s r (slice_index_or S r []) (get_there S s [] (ltb-true s (length S) p)
      ∙ ap Some e) (get_there S r [] (ltb-true r (length S) q))

  one_text : (s r : ℕ) → nat_lt s (length T) ≡ true → nat_lt r (length T) ≡ true
      → slice_index_or T s [] ≡ slice_index_or T r [] → s ≡ r
  one_text s r p q e = apart_texts s r (slice_index_or T r []) (get_there T s [] (ltb-true s (length T) p)
      ∙ ap Some e) (get_there T r [] (ltb-true r (length T) q))

  -- an instruction has one way to be said with numbers
  same_instr : (i j : R.Instr) → in_range n (length S) (length T) i ≡ true → in_range n (length S) (length T) j ≡ true
      → instr_of S T i ≡ instr_of S T j → i ≡ j
  same_instr (V.Set l) (V.Set m) p q e = let z : slice_index_or S l [] ≡ slice_index_or S m [] = cc in
      ap V.Set (one_set l m p q z)
  same_instr (V.Set l) _ p q e = absurd (cc)
  same_instr V.Start V.Start p q e = refl
  same_instr V.Start _ p q e = absurd (cc)
  same_instr V.End V.End p q e = refl
  same_instr V.End _ p q e = absurd (cc)
  same_instr (V.Choice l) (V.Choice m) p q e = let z : l ≡ m = cc in ap V.Choice z
  same_instr (V.Choice l) _ p q e = absurd (cc)
  same_instr (V.Commit l) (V.Commit m) p q e = let z : l ≡ m = cc in ap V.Commit z
  same_instr (V.Commit l) _ p q e = absurd (cc)
  same_instr V.FailTwice V.FailTwice p q e = refl
  same_instr V.FailTwice _ p q e = absurd (cc)
  same_instr (V.BackCommit l) (V.BackCommit m) p q e = let z : l ≡ m = cc in ap V.BackCommit z
  same_instr (V.BackCommit l) _ p q e = absurd (cc)
  same_instr V.Fail V.Fail p q e = refl
  same_instr V.Fail _ p q e = absurd (cc)
  same_instr (V.Back l) (V.Back m) p q e = let z : l ≡ m = cc in ap V.Back z
  same_instr (V.Back l) _ p q e = absurd (cc)
  same_instr (V.Meet l) (V.Meet m) p q e = let z : l ≡ m = cc in ap V.Meet z
  same_instr (V.Meet l) _ p q e = absurd (cc)
  same_instr (V.Call l) (V.Call m) p q e = let z : l ≡ m = cc in ap V.Call z
  same_instr (V.Call l) _ p q e = absurd (cc)
  same_instr V.Return V.Return p q e = refl
  same_instr V.Return _ p q e = absurd (cc)
  same_instr (V.Open l) (V.Open m) p q e = let z : slice_index_or T l [] ≡ slice_index_or T m [] = cc in
      ap V.Open (one_text l m p q z)
  same_instr (V.Open l) _ p q e = absurd (cc)
  same_instr V.Close V.Close p q e = refl
  same_instr V.Close _ p q e = absurd (cc)
  same_instr (V.Note l) (V.Note m) p q e = let z : slice_index_or T l [] ≡ slice_index_or T m [] = cc in
      ap V.Note (one_text l m p q z)
  same_instr (V.Note l) _ p q e = absurd (cc)
  same_instr V.Finish V.Finish p q e = refl
  same_instr V.Finish _ p q e = absurd (cc)
  same_instr (V.PartialCommit l) (V.PartialCommit m) p q e = let z : l ≡ m = cc in ap V.PartialCommit z
  same_instr (V.PartialCommit l) _ p q e = absurd (cc)
  same_instr (V.Span l) (V.Span m) p q e = let z : slice_index_or S l [] ≡ slice_index_or S m [] = cc in
      ap V.Span (one_set l m p q z)
  same_instr (V.Span l) _ p q e = absurd (cc)
  same_instr (V.TestSet l s) (V.TestSet m r) p q e = let y : l ≡ m = cc in
      let z : slice_index_or S s [] ≡ slice_index_or S r [] = cc in
      cc (
        y,
        one_set s r (and_parts (nat_lt l n) (nat_lt s (length S)) p).1
            (and_parts (nat_lt m n) (nat_lt r (length S)) q).1 z,
      )
  same_instr (V.TestSet l s) _ p q e = absurd (cc)
  same_instr V.Halt V.Halt p q e = refl
  same_instr V.Halt _ p q e = absurd (cc)

  same_code : (a b : List R.Instr) → list_all (in_range n (length S) (length T)) a ≡ true
      → list_all (in_range n (length S) (length T)) b ≡ true → map (instr_of S T) a ≡ map (instr_of S T) b → a ≡ b
  same_code [] [] p q e = refl
  same_code [] (j ∷ b) p q e = absurd (cc)
  same_code (i ∷ a) [] p q e = absurd (cc)
  same_code (i ∷ a) (j ∷ b) p q e =
      let x = and_parts (in_range n (length S) (length T) i) (list_all (in_range n (length S) (length T)) a) p in
      let y = and_parts (in_range n (length S) (length T) j) (list_all (in_range n (length S) (length T)) b) q in
      let head : instr_of S T i ≡ instr_of S T j = cc in
      let tail : map (instr_of S T) a ≡ map (instr_of S T) b = cc in
      cc (same_instr i j x.0 y.0 head, same_code a b x.1 y.1 tail)

abbrev file_of : List R.Instr → List (List Range) → List (List ℕ) → File
file_of c s t = record { code = c; sets = s; texts = t }

-- the law
pub one_spelling_holds : OneSpelling
one_spelling_holds code a b x y =
    let f = x.file in
    let g = y.file in
    let sets : f.sets ≡ g.sets =
    keeps_same [] (sets_in code) f.sets g.sets (subst (λ c. KeepsOnce (sets_in c) f.sets) (sym x.code_is)
    x.is_file.sets) (subst (λ c. KeepsOnce (sets_in c) g.sets) (sym y.code_is) y.is_file.sets) in
    let texts : f.texts ≡ g.texts =
    keeps_same [] (labels_in code) f.texts g.texts (subst (λ c. KeepsOnce (labels_in c) f.texts) (sym x.code_is)
    x.is_file.texts) (subst (λ c. KeepsOnce (labels_in c) g.texts) (sym y.code_is) y.is_file.texts) in
    let said : map (instr_of f.sets f.texts) f.code ≡ map (instr_of f.sets f.texts) g.code = sym x.code_is ∙ y.code_is
    ∙ sym (ap (λ s. map (instr_of s g.texts) g.code) sets) ∙ sym (ap (λ t. map (instr_of f.sets t) g.code) texts) in
    let long : length f.code ≡ length g.code = sym (length-map f.code (instr_of f.sets f.texts)) ∙ ap length said
    ∙ length-map g.code (instr_of f.sets f.texts) in
    let range : list_all (in_range (length f.code) (length f.sets) (length f.texts)) g.code ≡ true =
    ap (λ m. list_all (in_range m (length f.sets) (length f.texts)) g.code) long
    ∙ ap (λ s. list_all (in_range (length g.code) (length s) (length f.texts)) g.code) sets
    ∙ ap (λ t. list_all (in_range (length g.code) (length g.sets) (length t)) g.code) texts ∙ y.is_file.in_range in
    let codes = same_code f.sets f.texts (keeps_apart [] (sets_in (says f)) f.sets none_apart x.is_file.sets)
    (keeps_apart [] (labels_in (says f)) f.texts none_apart x.is_file.texts) (length f.code) f.code g.code
    x.is_file.in_range range said in
    let files : file_of f.code f.sets f.texts ≡ file_of g.code g.sets g.texts = cc (codes, sets, texts) in
    x.bytes_are ∙ (let z : f ≡ g = files in ap spelling z) ∙ sym y.bytes_are
