-- The whole table, as that of the statements after the built-in rules.
use Rattle.std.proofs.Common.{◌≡◌, ◌≢◌, ℕ, zero, suc, List, [], ◌∷◌, ◌++◌, length, Some, None, sym, ap}
use Rattle.std.proofs.Common.{◌∙◌, arith}
use Rattle.std.specs.Prelude.{Bool, true, false, codes}
use Rattle.std.proofs.lemmas.List.{length-map}
use Rattle.rpl_core.specs.Core.{Core}
use Rattle.rpl_core.specs.Table.{IsNew, names_of}
use Rattle.rpl_core.specs.declared.rules.Rule.{Rule}
use Rattle.rpl_expand.specs.Faults.{table_fault}
use Rattle.rpl_forms.specs.Rows.{Row, inners_from, inners_of, row_at, rows_of}
use Rattle.rpl_names.specs.Targets.{halt_by}
use Rattle.rpl_expand.specs.Table.{Statement, built_in, rows, table}

pub whole_table : (rs : List Rule) (halt : List ℕ) (ss : List Statement) → rows_of rs ≡ built_in halt
    → rows_of rs ++ rows (inners_of rs) ss ≡ table halt ss
whole_table rs halt ss e = ap (λ l. l ++ rows (inners_from [] l) ss) e

pub two_rules : (rs : List Rule) (halt : List ℕ) → rows_of rs ≡ built_in halt → length rs ≡ 2
two_rules rs halt e = sym (length-map rs row_at) ∙ ap length e

-- neither of the built-in rules is too large
pub whole_fault : (rs : List Rule) (halt : List ℕ) (ss : List Statement) → rows_of rs ≡ built_in halt
    → table_fault 2 (rows (inners_of rs) ss) ≡ table_fault 0 (table halt ss)
whole_fault rs halt ss e = ap (λ l. table_fault 2 (rows (inners_from [] l) ss)) e

-- the built-in `halt` has another name than the boundary
pub apart : (b : Bool) → halt_by b ≢ codes "~"
apart true e = let long : 6 ≡ 1 = ap length e in absurd (omega (arith, long))
apart false e = let long : 4 ≡ 1 = ap length e in absurd (omega (arith, long))

some_inj : {A : Type 0} (a b : A) → Some a ≡ Some b → a ≡ b
some_inj a b e = cc

pub new_second : (x y : List ℕ) → x ≢ y → IsNew x (y ∷ [])
new_second x y h zero e = h (sym (some_inj y x e))
new_second x y h (suc i) e = cc

-- a row outside blocks
abbrev pub row : List ℕ → Core → Row
row n p = record { name = n; block = None; body = p }

pub row_same : (n m : List ℕ) (p q : Core) → n ≡ m → p ≡ q → row n p ≡ row m q
row_same n m p q e f = ap (λ x. row x p) e ∙ ap (row m) f

-- two rules that were added to none
pub two_rows : (l0 l1 l2 : List Rule) (a b : Rule) (x y : Row) → l0 ≡ [] → l1 ≡ l0 ++ a ∷ [] → l2 ≡ l1 ++ b ∷ []
    → row_at a ≡ x → row_at b ≡ y → rows_of l2 ≡ x ∷ y ∷ []
two_rows l0 l1 l2 a b x y e f g h i =
    ap rows_of (g ∙ ap (λ l. l ++ b ∷ []) (f ∙ ap (λ l. l ++ a ∷ []) e))
    ∙ ap (λ r. r ∷ row_at b ∷ []) h ∙ ap (λ r. x ∷ r ∷ []) i

pub one_name : (l0 l1 : List Rule) (a : Rule) → l0 ≡ [] → l1 ≡ l0 ++ a ∷ [] → names_of l1 ≡ a.name ∷ []
one_name l0 l1 a e f = ap names_of (f ∙ ap (λ l. l ++ a ∷ []) e)
