-- What some options set is what they set one after the other.
use Rattle.std.proofs.Common.{◌≡◌, List, [], ◌∷◌, ◌++◌, Option, Some, None, refl, sym, ap, ◌∙◌, append_assoc, arith}
use Rattle.std.specs.Prelude.{◌||◌, if◌then◌else◌}
use Rattle.std.specs.Option.{option_or}
use Rattle.std.proofs.lemmas.Bool.Decides.{nat_tests}
use Rattle.std.proofs.lemmas.List.{append-nil}
use Rattle.rosie_words.specs.declared.table.OptionName.{OptionName}
use Rattle.rosie_words.specs.declared.table.OptionName.TheVariants as O
use Rattle.rosie_words.specs.Table.{Word, same_option}
use Rattle.rosie_words.specs.Roles.{Given, given}
use Rattle.rosie_words.specs.Options.{is_given, last, root, roots, values_of}
use Rattle.rosie_words.specs.OptionValues.{put}
use Rattle.rosie_words.specs.Taken.{put_all}

roots_more : (gs : List Given) (g : Given) → roots (gs ++ g ∷ []) ≡ roots gs ++ root g.option g.value
roots_more [] g = grind arith
roots_more (x ∷ xs) g =
    rw (roots_more xs g) (sym (append_assoc (root x.option x.value) (roots xs) (root g.option g.value)))

is_given_more : (o : OptionName) (gs : List Given) (g : Given)
    → is_given o (gs ++ g ∷ []) ≡ (same_option o g.option || is_given o gs)
is_given_more o [] g = refl
is_given_more o (x ∷ xs) g = rw (is_given_more o xs g) (grind (arith, nat_tests))

option_or_assoc : (a b c : Option Word) → option_or (option_or a b) c ≡ option_or a (option_or b c)
option_or_assoc None b c = refl
option_or_assoc (Some x) b c = refl

option_or_None : (a : Option Word) → option_or a None ≡ a
option_or_None None = refl
option_or_None (Some x) = refl

abbrev here : OptionName → Given → Option Word
here o g = if same_option o g.option then Some g.value else None

last_more : (o : OptionName) (gs : List Given) (g : Given) → last o (gs ++ g ∷ []) ≡ option_or (here o g) (last o gs)
last_more o [] g = sym (option_or_None _)
last_more o (x ∷ xs) g = rw (last_more o xs g) (option_or_assoc (here o g) (last o xs) (here o x))

put_more : (gs : List Given) (o : OptionName) (w v : Word) → values_of (gs ++ given o w v ∷ []) ≡ put o v (values_of gs)
put_more gs O.File w v = simp (roots_more, is_given_more, last_more)
put_more gs O.Rpl w v = simp (roots_more, is_given_more, last_more)
put_more gs O.LibPath w v = simp (roots_more, is_given_more, last_more, append-nil)
put_more gs O.Output w v = simp (roots_more, is_given_more, last_more, append-nil)
put_more gs O.WholeFile w v = simp (roots_more, is_given_more, last_more, append-nil)
put_more gs O.All w v = simp (roots_more, is_given_more, last_more, append-nil)
put_more gs O.FixedStrings w v = simp (roots_more, is_given_more, last_more, append-nil)
put_more gs O.Budget w v = simp (roots_more, is_given_more, last_more, append-nil)
put_more gs O.Steps w v = simp (roots_more, is_given_more, last_more, append-nil)
put_more gs O.Code w v = simp (roots_more, is_given_more, last_more, append-nil)
put_more gs O.Limit w v = simp (roots_more, is_given_more, last_more, append-nil)
put_more gs O.CodeFile w v = simp (roots_more, is_given_more, last_more, append-nil)

-- the options of hs, and then those of gs
pub put_all_is : (hs gs : List Given) → put_all gs (values_of hs) ≡ values_of (hs ++ gs)
put_all_is hs [] = ap values_of (sym (append-nil hs))
put_all_is hs (g ∷ gs) =
    ap (put_all gs) (sym (put_more hs g.option g.word g.value)) ∙ put_all_is (hs ++ g ∷ []) gs
    ∙ ap values_of (append_assoc hs (g ∷ []) gs)
