-- Code with other numbers.
use Rattle.std.proofs.Common.{◌≡◌, ℕ, List, [], ◌∷◌, length, map, Option, Some, None, refl, ap, ◌∙◌}
use Rattle.std.proofs.lemmas.Bool.{and_parts, and_from, lt-ltb}
use Rattle.std.proofs.lemmas.Option.{slice_get_within}
use Rattle.std.specs.Prelude.{Bool, true, nat_lt, slice_get, slice_index_or, option_map}
use Rattle.std.specs.List.{list_all}
use Rattle.regex_class.specs.Ranges.{Range}
use Rattle.rpl_core.specs.Instr.{Instr}
use Rattle.rpl_core.specs.Instr as I
use Rattle.rpl_core.specs.Numbers.{instr_of, in_range}
use Rattle.rpl_core.specs.declared.instr.Instr as R
use Rattle.rpl_core.specs.declared.instr.Instr.TheVariants as V
use Rattle.rpl_intern.specs.Written.{shown}
use Rattle.rpl_codefile.proofs.Once.{read_any}

-- the address of an instruction is below n
abbrev pub target : ℕ → Instr → Bool
target n (I.Choice l) = nat_lt l n
target n (I.Commit l) = nat_lt l n
target n (I.BackCommit l) = nat_lt l n
target n (I.Meet l) = nat_lt l n
target n (I.Call l) = nat_lt l n
target n (I.PartialCommit l) = nat_lt l n
target n (I.TestSet l s) = nat_lt l n
target n _ = true

same_some : {A : Type 0} (x y : A) → Some x ≡ Some y → x ≡ y
same_some x y e = cc

-- what a table gave
gave : {A : Type 0} (xs : List A) (k : ℕ) (f : A → Instr) (j : Instr) (o : Option A) → slice_get xs k ≡ o
    → option_map f o ≡ Some j → (x : A) × (slice_get xs k ≡ Some x) × (f x ≡ j)
gave xs k f j None q e = absurd (cc)
gave xs k f j (Some x) q e = (x, q, same_some (f x) j e)

with_set : (S : List (List Range)) (k : ℕ) (f : List Range → Instr) (j : Instr) → option_map f (slice_get S k) ≡ Some j
    → f (slice_index_or S k []) ≡ j
with_set S k f j e = let g = gave S k f j (slice_get S k) refl e in ap f (read_any S k g.0 [] g.1) ∙ g.2

with_text : (T : List (List ℕ)) (k : ℕ) (f : List ℕ → Instr) (j : Instr) → option_map f (slice_get T k) ≡ Some j
    → f (slice_index_or T k []) ≡ j
with_text T k f j e = let g = gave T k f j (slice_get T k) refl e in ap f (read_any T k g.0 [] g.1) ∙ g.2

set_range : (S : List (List Range)) (k : ℕ) (f : List Range → Instr) (j : Instr) → option_map f (slice_get S k) ≡ Some j
    → nat_lt k (length S) ≡ true
set_range S k f j e = let g = gave S k f j (slice_get S k) refl e in lt-ltb k (length S) (slice_get_within S k g.0 g.1)

text_range : (T : List (List ℕ)) (k : ℕ) (f : List ℕ → Instr) (j : Instr) → option_map f (slice_get T k) ≡ Some j
    → nat_lt k (length T) ≡ true
text_range T k f j e = let g = gave T k f j (slice_get T k) refl e in lt-ltb k (length T) (slice_get_within T k g.0 g.1)

test_target : (S : List (List Range)) (n l k : ℕ) (j : Instr) → option_map (I.TestSet l) (slice_get S k) ≡ Some j
    → target n j ≡ true → nat_lt l n ≡ true
test_target S n l k j e t = let g = gave S k (I.TestSet l) j (slice_get S k) refl e in ap (target n) g.2 ∙ t

-- an instruction that a table shows
pub shown_is : (S : List (List Range)) (T : List (List ℕ)) (i : R.Instr) (j : Instr) → shown S T i ≡ Some j
    → instr_of S T i ≡ j
shown_is S T (V.Set k) j e = with_set S k I.Set j e
shown_is S T V.Start j e = same_some I.Start j e
shown_is S T V.End j e = same_some I.End j e
shown_is S T (V.Choice l) j e = same_some (I.Choice l) j e
shown_is S T (V.Commit l) j e = same_some (I.Commit l) j e
shown_is S T V.FailTwice j e = same_some I.FailTwice j e
shown_is S T (V.BackCommit l) j e = same_some (I.BackCommit l) j e
shown_is S T V.Fail j e = same_some I.Fail j e
shown_is S T (V.Back l) j e = same_some (I.Back l) j e
shown_is S T (V.Meet l) j e = same_some (I.Meet l) j e
shown_is S T (V.Call l) j e = same_some (I.Call l) j e
shown_is S T V.Return j e = same_some I.Return j e
shown_is S T (V.Open k) j e = with_text T k I.Open j e
shown_is S T V.Close j e = same_some I.Close j e
shown_is S T (V.Note k) j e = with_text T k I.Note j e
shown_is S T V.Finish j e = same_some I.Finish j e
shown_is S T (V.PartialCommit l) j e = same_some (I.PartialCommit l) j e
shown_is S T (V.Span k) j e = with_set S k I.Span j e
shown_is S T (V.TestSet l k) j e = with_set S k (I.TestSet l) j e
shown_is S T V.Halt j e = same_some I.Halt j e

pub shown_range : (S : List (List Range)) (T : List (List ℕ)) (n : ℕ) (i : R.Instr) (j : Instr) → shown S T i ≡ Some j
    → target n j ≡ true → in_range n (length S) (length T) i ≡ true
shown_range S T n (V.Set k) j e t = set_range S k I.Set j e
shown_range S T n V.Start j e t = refl
shown_range S T n V.End j e t = refl
shown_range S T n (V.Choice l) j e t = ap (target n) (same_some (I.Choice l) j e) ∙ t
shown_range S T n (V.Commit l) j e t = ap (target n) (same_some (I.Commit l) j e) ∙ t
shown_range S T n V.FailTwice j e t = refl
shown_range S T n (V.BackCommit l) j e t = ap (target n) (same_some (I.BackCommit l) j e) ∙ t
shown_range S T n V.Fail j e t = refl
shown_range S T n (V.Back l) j e t = refl
shown_range S T n (V.Meet l) j e t = ap (target n) (same_some (I.Meet l) j e) ∙ t
shown_range S T n (V.Call l) j e t = ap (target n) (same_some (I.Call l) j e) ∙ t
shown_range S T n V.Return j e t = refl
shown_range S T n (V.Open k) j e t = text_range T k I.Open j e
shown_range S T n V.Close j e t = refl
shown_range S T n (V.Note k) j e t = text_range T k I.Note j e
shown_range S T n V.Finish j e t = refl
shown_range S T n (V.PartialCommit l) j e t = ap (target n) (same_some (I.PartialCommit l) j e) ∙ t
shown_range S T n (V.Span k) j e t = set_range S k I.Span j e
shown_range S T n (V.TestSet l k) j e t =
    and_from (nat_lt l n) (nat_lt k (length S)) (test_target S n l k j e t) (set_range S k (I.TestSet l) j e)
shown_range S T n V.Halt j e t = refl

pub had_target : (S : List (List Range)) (T : List (List ℕ)) (n s x : ℕ) (i : R.Instr) → in_range n s x i ≡ true
    → target n (instr_of S T i) ≡ true
had_target S T n s x (V.Set k) e = refl
had_target S T n s x V.Start e = refl
had_target S T n s x V.End e = refl
had_target S T n s x (V.Choice l) e = e
had_target S T n s x (V.Commit l) e = e
had_target S T n s x V.FailTwice e = refl
had_target S T n s x (V.BackCommit l) e = e
had_target S T n s x V.Fail e = refl
had_target S T n s x (V.Back k) e = refl
had_target S T n s x (V.Meet l) e = e
had_target S T n s x (V.Call l) e = e
had_target S T n s x V.Return e = refl
had_target S T n s x (V.Open k) e = refl
had_target S T n s x V.Close e = refl
had_target S T n s x (V.Note k) e = refl
had_target S T n s x V.Finish e = refl
had_target S T n s x (V.PartialCommit l) e = e
had_target S T n s x (V.Span k) e = refl
had_target S T n s x (V.TestSet l k) e = (and_parts (nat_lt l n) (nat_lt k s) e).0
had_target S T n s x V.Halt e = refl

-- all of them
pub all_shown : (S : List (List Range)) (T : List (List ℕ)) (code : List R.Instr) (is : List Instr)
    → map (shown S T) code ≡ map Some is → map (instr_of S T) code ≡ is
all_shown S T [] [] e = refl
all_shown S T [] (j ∷ is) e = absurd (cc)
all_shown S T (i ∷ code) [] e = absurd (cc)
all_shown S T (i ∷ code) (j ∷ is) e =
    let first : shown S T i ≡ Some j = cc in
    let rest : map (shown S T) code ≡ map Some is = cc in
    cc (shown_is S T i j first, all_shown S T code is rest)

pub all_range : (S : List (List Range)) (T : List (List ℕ)) (n : ℕ) (code : List R.Instr) (is : List Instr)
    → map (shown S T) code ≡ map Some is → list_all (target n) is ≡ true
    → list_all (in_range n (length S) (length T)) code ≡ true
all_range S T n [] [] e h = refl
all_range S T n [] (j ∷ is) e h = absurd (cc)
all_range S T n (i ∷ code) [] e h = absurd (cc)
all_range S T n (i ∷ code) (j ∷ is) e h =
    let first : shown S T i ≡ Some j = cc in
    let rest : map (shown S T) code ≡ map Some is = cc in
    let p = and_parts (target n j) (list_all (target n) is) h in
    and_from (in_range n (length S) (length T) i) (list_all (in_range n (length S) (length T)) code)
    (shown_range S T n i j first p.0) (all_range S T n code is rest p.1)

pub all_targets : (S : List (List Range)) (T : List (List ℕ)) (n s x : ℕ) (code : List R.Instr)
    → list_all (in_range n s x) code ≡ true → list_all (target n) (map (instr_of S T) code) ≡ true
all_targets S T n s x [] h = refl
all_targets S T n s x (i ∷ code) h =
    let p = and_parts (in_range n s x i) (list_all (in_range n s x) code) h in
    and_from (target n (instr_of S T i)) (list_all (target n) (map (instr_of S T) code)) (had_target S T n s x i p.0)
    (all_targets S T n s x code p.1)
