-- What the tables answer, as lists of ranges.
use Rattle.std.proofs.Common.{◌≡◌, ℕ, List, [], ◌∷◌, refl, sym, ap, ◌∙◌, subst}
use Rattle.std.specs.Prelude.{Bool, ◌||◌, Option, Some, None, Ok, Err}
use Rattle.std.specs.Option.{option_map}
use Rattle.rpl_unicode.specs.Faults.{IsClass}
use Rattle.rpl_unicode.specs.declared.fault.ClassFault.TheVariants.{UnknownClass}
use Rattle.regex_class.specs.Ranges.{Range, in_range, in_ranges}
use Rattle.unicode.specs.Rows as table
use Rattle.rpl_unicode.specs.Ranges.{IsListOf}
use Rattle.rpl_unicode.proofs.Cutting.{char_below}

-- the tables read ranges as `regex_class` does
in_table : (rs : List Range) (c : ℕ) → in_ranges rs c ≡ table.in_ranges rs c
unfolding in_ranges in_range table.in_ranges
in_table [] c = refl
in_table (r ∷ rs) c = ap (λ b. in_range r c || b) (in_table rs c)

-- the characters of a table's ranges are those that pass its test
pub table_list : (p : ℕ → Bool) (rs s : List Range) → table.HasExactly rs p → IsListOf (in_ranges rs) s → IsListOf p s
table_list p rs s h l = record {
  normal = l.normal;
  members = λ c e. l.members c e ∙ (in_table rs c ∙ h c (char_below c e));
}

-- a name stands for a set, or for none
pub set_found : {X : Type 0} (f : X → ℕ → Bool) (o : Option X) (set : X) (s : List Range) → o ≡ Some set
    → IsListOf (f set) s → IsClass (option_map f o) (Ok s)
set_found f o set s e l = subst (λ x. IsClass (option_map f x) (Ok s)) (sym e) l

pub set_missing : {X : Type 0} (f : X → ℕ → Bool) (o : Option X) → o ≡ None
    → IsClass (option_map f o) (Err UnknownClass)
set_missing f o e = subst (λ x. IsClass (option_map f x) (Err UnknownClass)) (sym e) (λ _. refl)
