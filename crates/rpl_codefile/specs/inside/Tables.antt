-- When the tables of a file are those of its code, found without a search for each use: the numbers come for the
-- first time in their order, and nothing stands twice in a table.
use Rattle.std.specs.Prelude.{◌≡◌, ℕ, suc, ◌<◌, ◌≤◌, List, [], ◌∷◌, length, Option, Some, None, slice_get}
use Rattle.std.specs.Prelude.{nat_eq, nat_lt, if◌then◌else◌}
use Rattle.rpl_core.specs.Programs.{max_code_length}
use Rattle.rpl_text.specs.Options.{◌>>=◌}
use Rattle.regex_class.specs.Ranges.{Range}
use Rattle.rpl_core.specs.Numbers.{AreInRange}
use Rattle.rpl_core.specs.declared.instr.Instr as R
use Rattle.rpl_core.specs.declared.instr.Instr.TheVariants as V
use Rattle.rpl_intern.specs.Uses.{KeepsOnce, labels_in, sets_in}
use Rattle.rpl_codefile.specs.Spelling.{file_of, says}
use Rattle.rpl_codefile.specs.declared.tables.Table.{Table}
use Rattle.rpl_codefile.specs.declared.tables.Table.TheVariants as T

-- no two of them are the same
abbrev pub Apart : {A : Type 0} → List A → Type 0
Apart xs = (i j : ℕ) (x : _) → slice_get xs i ≡ Some x → slice_get xs j ≡ Some x → i ≡ j

-- the number of the set that an instruction names
abbrev pub set_number : R.Instr → Option ℕ
set_number (V.Set k) = Some k
set_number (V.Span k) = Some k
set_number (V.TestSet l k) = Some k
set_number _ = None

-- the number of the text
abbrev pub text_number : R.Instr → Option ℕ
text_number (V.Open k) = Some k
text_number (V.Note k) = Some k
text_number _ = None

abbrev pub number_in : Table → R.Instr → Option ℕ
number_in T.Sets = set_number
number_in T.Texts = text_number

-- how many numbers have come, with this one; none may come before all below it have
abbrev pub with_next : ℕ → Option ℕ → Option ℕ
with_next came None = Some came
with_next came (Some k) = if nat_lt k came then Some came else (if nat_eq k came then Some (suc came) else None)

-- how many have come when all instructions have, where so many came before
abbrev pub come : (R.Instr → Option ℕ) → ℕ → List R.Instr → Option ℕ
come number came [] = Some came
come number came (i ∷ is) = with_next came (number i) >>= λ more. come number more is

-- the code has a length that is allowed, and uses each entry of its tables, for the first time in their order
pub record IsOrdered (code : List R.Instr) (sets : List (List Range)) (texts : List (List ℕ)) : Type 0 where
  pub some : 0 < length code
  pub limit : length code ≤ max_code_length
  pub in_range : AreInRange code sets texts
  pub sets_come : come (number_in T.Sets) 0 code ≡ Some (length sets)
  pub texts_come : come (number_in T.Texts) 0 code ≡ Some (length texts)

-- the parts are those of a file, whatever bytes their numbers take
pub record AreParts (code : List R.Instr) (sets : List (List Range)) (texts : List (List ℕ)) : Type 0 where
  pub some : 0 < length code
  pub limit : length code ≤ max_code_length
  pub in_range : AreInRange code sets texts
  pub once_sets : KeepsOnce (sets_in (says (file_of code sets texts))) sets
  pub once_texts : KeepsOnce (labels_in (says (file_of code sets texts))) texts
