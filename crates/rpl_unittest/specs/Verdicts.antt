-- Whether what was found on a text is what a unit test says. Texts, names and the places of trees count bytes here.
use Rattle.std.specs.Prelude.{ℕ, ◌==◌, Bool, false, not, ◌&&◌, ◌||◌, nat_eq, List, [], ◌∷◌, ◌++◌, length, Option, Some}
use Rattle.std.specs.Prelude.{None, codes}
use Rattle.std.specs.List.{list_any}
use Rattle.std.specs.Option.{option_map_or}
use Rattle.std.specs.Str.{encode_utf8_all, bytes_eq}
use Rattle.rpl_core.specs.Forest.{Forest, NoTree, Tree, Noted}
use Rattle.rpl_tree.specs.Trees.{below_root}
use Rattle.rpl_unittest.specs.declared.test.Verb.{Verb}
use Rattle.rpl_unittest.specs.declared.test.Verb.TheVariants.{Accepts, Rejects, Includes, Excludes}

-- the bytes have no dot
abbrev pub is_plain : List ℕ → Bool
is_plain part = not (list_any (λ b. b == 46) part)

-- the type of a node is the part, or, where the part has no dot, the part of this package
abbrev pub is_type : (prefix part label : List ℕ) → Bool
is_type prefix part label = bytes_eq label part || (is_plain part && bytes_eq label (prefix ++ 46 ∷ part))

-- some tree, at any depth, has a type that passes; that of a note is `message`
abbrev pub has_type : (List ℕ → Bool) → Forest → Bool
has_type p NoTree = false
has_type p (Tree label start end below behind) = p (encode_utf8_all label) || (has_type p below || has_type p behind)
has_type p (Noted text place behind) = p (codes "message") || has_type p behind

-- where the first tree, which is the root, ends
abbrev pub end_of_root : Forest → ℕ
end_of_root NoTree = 0
end_of_root (Tree label start end below behind) = end
end_of_root (Noted text place behind) = place

-- the text is matched to its end
abbrev pub is_whole : (text : List ℕ) → Option Forest → Bool
is_whole text None = false
is_whole text (Some f) = nat_eq (end_of_root f) (length text)

-- it is matched, and some node below the root is the part, or none is
abbrev pub includes : (prefix part : List ℕ) → Option Forest → Bool
includes prefix part None = false
includes prefix part (Some f) = has_type (is_type prefix part) (below_root f)

abbrev pub excludes : (prefix part : List ℕ) → Option Forest → Bool
excludes prefix part None = false
excludes prefix part (Some f) = not (has_type (is_type prefix part) (below_root f))

-- the test is met; where nothing was matched there are no trees
abbrev pub is_met : Verb → (prefix part text : List ℕ) → Option Forest → Bool
is_met Accepts prefix part text found = is_whole text found
is_met Rejects prefix part text found = not (is_whole text found)
is_met Includes prefix part text found = includes prefix part found
is_met Excludes prefix part text found = excludes prefix part found

-- the bytes of a part, where there is one
abbrev pub part_of : Option (List ℕ) → List ℕ
part_of part = option_map_or encode_utf8_all part []
