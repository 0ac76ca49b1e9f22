-- The columns without a mark, one after the other.
use Rattle.std.proofs.Common.{◌≡◌, ℕ, suc, Bool, true, false, ◌+◌, ◌<◌, ◌≤◌, List, [], ◌∷◌, ◌++◌, length, get_or, drop}
use Rattle.std.proofs.Common.{refl, sym, ap, ◌∙◌, arith, append_assoc, append-nil, min, inl, inr}
use Rattle.std.proofs.lemmas.Bool.{cases_lt}
use Rattle.std.proofs.Math.Seq.{drop-cons}
use Rattle.std.proofs.lemmas.List.{drop_all, drop-drop}
use Rattle.rpl_columns.specs.declared.column.Column.{Column}
use Rattle.rosie_columns_cli.specs.Absent.{absent_line, absent_text}
use Rattle.rosie_columns_cli.specs.inside.Marks.{unfound}

unfound_next : (cs : List Column) (marks : List Bool) (i : ℕ) (c : Column) (d : Bool) → i < length cs → i < length marks
    → c ≡ get_or cs i c
    → unfound (drop i cs) (drop i marks) ≡ unfound (c ∷ drop (i + 1) cs) (get_or marks i d ∷ drop (i + 1) marks)
unfound_next cs marks i c d lt lm is =
    let one : i + 1 ≡ suc i = omega arith in
    rw one (ap (λ x. unfound x (drop i marks)) (drop-cons cs i c lt)
    ∙ ap (λ x. unfound (get_or cs i c ∷ drop (suc i) cs) x) (drop-cons marks i d lm)
    ∙ ap (λ x. unfound (x ∷ drop (suc i) cs) (get_or marks i d ∷ drop (suc i) marks)) (sym is))

-- a column with a mark, and one without
marked_first : (cs : List Column) (marks : List Bool) → unfound cs (true ∷ marks) ≡ unfound (drop 1 cs) marks
marked_first [] marks = refl
marked_first (c ∷ cs) marks = refl

pub marked_next : (cs : List Column) (marks : List Bool) (i : ℕ) (d : Bool) → i < length marks → get_or marks i d ≡ true
    → unfound (drop i cs) (drop i marks) ≡ unfound (drop (i + 1) cs) (drop (i + 1) marks)
marked_next cs marks i d lm mark =
    let one : i + 1 ≡ suc i = omega arith in
    let tail : drop 1 (drop i cs) ≡ drop (i + 1) cs = drop-drop 1 i cs ∙ ap (λ n. drop n cs) (omega arith) in
    ap (unfound (drop i cs)) (drop-cons marks i d lm ∙ ap (λ m. m ∷ drop (suc i) marks) mark)
    ∙ marked_first (drop i cs) (drop (suc i) marks)
    ∙ ap (λ x. unfound x (drop (suc i) marks)) tail
    ∙ ap (λ n. unfound (drop (i + 1) cs) (drop n marks)) (sym one)

pub bare_next : (cs : List Column) (marks : List Bool) (i : ℕ) (c : Column) (d : Bool) → i < length cs
    → i < length marks → c ≡ get_or cs i c → get_or marks i d ≡ false
    → unfound (drop i cs) (drop i marks) ≡ c ∷ unfound (drop (i + 1) cs) (drop (i + 1) marks)
bare_next cs marks i c d lt lm is mark =
    unfound_next cs marks i c d lt lm is ∙ ap (λ m. unfound (c ∷ drop (i + 1) cs) (m ∷ drop (i + 1) marks)) mark

no_marks : (cs : List Column) → unfound cs [] ≡ []
no_marks [] = refl
no_marks (c ∷ cs) = refl

pub unfound_end : (cs : List Column) (marks : List Bool) (i : ℕ) → min (length marks) (length cs) ≤ i
    → unfound (drop i cs) (drop i marks) ≡ []
unfound_end cs marks i le =
    elim (cases_lt i (length cs)) [
      | inl lt ↦ ap (unfound (drop i cs)) (drop_all i marks (omega (arith, le, lt))) ∙ no_marks (drop i cs)
      | inr ge ↦ ap (λ x. unfound x (drop i marks)) (drop_all i cs ge)
    ]

text_first : (c : Column) (cs : List Column) → absent_text (c ∷ cs) ≡ absent_line c ++ absent_text cs
unfolding absent_text
text_first c cs = refl

text_none : absent_text [] ≡ []
unfolding absent_text
text_none = refl

-- a line more, and none
pub text_on : (out out' whole : List ℕ) (c : Column) (left cs : List Column) → left ≡ c ∷ cs
    → out' ≡ out ++ absent_line c → out ++ absent_text left ≡ whole → out' ++ absent_text cs ≡ whole
text_on out out' whole c left cs is more h =
    ap (λ o. o ++ absent_text cs) more ∙ append_assoc out (absent_line c) (absent_text cs)
    ∙ sym (ap (λ l. out ++ absent_text l) is ∙ ap (λ t. out ++ t) (text_first c cs)) ∙ h

pub text_end : (out whole : List ℕ) (left : List Column) → left ≡ [] → out ++ absent_text left ≡ whole → out ≡ whole
text_end out whole left none h =
    sym (append-nil out) ∙ sym (ap (λ l. out ++ absent_text l) none ∙ ap (λ t. out ++ t) text_none) ∙ h

-- three texts one after the other
pub three_parts : (out a out1 b b' out2 d : List ℕ) → out1 ≡ out ++ a → out2 ≡ out1 ++ b → b ≡ b'
    → out2 ++ d ≡ out ++ (a ++ (b' ++ d))
three_parts out a out1 b b' out2 d one two same =
    ap (λ o. o ++ d) (two ∙ ap (λ x. out1 ++ x) same ∙ ap (λ o. o ++ b') one)
    ∙ append_assoc (out ++ a) b' d ∙ append_assoc out a (b' ++ d)
