-- A walk over the words: what has been taken in, and what is left.
use Rattle.std.proofs.Common.{◌≡◌, ℕ, Bool, true, false, List, [], ◌∷◌, ◌++◌, map, drop, get_or, length, ◌<◌, ◌≤◌, suc}
use Rattle.std.proofs.Common.{subst, Option, Some, None, Result, Ok, Err, refl, sym, ap, ◌∙◌, append_assoc}
use Rattle.std.specs.Prelude.{find, is_some, not, ◌||◌, if◌then◌else◌, chars, String, string_bytes}
use Rattle.std.proofs.Math.Seq.{drop-cons}
use Rattle.std.proofs.Math.ListN.{drop_of_length-le}
use Rattle.std.specs.Option.{option_map, option_or}
use Rattle.std.proofs.lemmas.List.{append-nil}
use Rattle.rosie_words.specs.declared.command.What.{What}
use Rattle.rosie_words.specs.declared.fault.UsageFault.{UsageFault}
use Rattle.rosie_words.specs.declared.reading.Reader.{Reader}
use Rattle.rosie_words.specs.declared.option_values.OptionValues.{OptionValues}
use Rattle.rosie_words.specs.declared.table.CommandName.{CommandName}
use Rattle.rosie_words.specs.declared.table.OptionName.TheVariants as O
use Rattle.rosie_words.specs.Table.{Word, same_option, command_named}
use Rattle.rosie_words.specs.Roles.{Free, Given, role, next, fault, option_in, argument_in}
use Rattle.rosie_words.specs.Reading.{words_of, first_fault, options, arguments, with_options, by_stray, by_name}
use Rattle.rosie_words.specs.Reading.{chosen, unless, reading}
use Rattle.rosie_words.specs.Options.{is_given, last, is_for, values_of, stray}
use Rattle.rosie_words.specs.Arguments.{what}
use Rattle.rosie_words.specs.OptionValues.{put}
use Rattle.rosie_words.specs.Seen.{front_of, text}
use Rattle.rosie_words.specs.Taken.{Named, seen, name_of, word_of, stray_word, from_what, from_stray, from_name}
use Rattle.rosie_words.specs.Taken.{chosen_from, finished, put_all, Starts, Takes}
use Rattle.rosie_words.proofs.Lookups.{put_all_is}

pub record Stands (all rest : List Word) (r : Reader) : Type 0 where
  pub sound : first_fault (front_of r.front) rest ≡ first_fault Free all
  pub values : put_all (options (front_of r.front) rest) r.values ≡ put_all (options Free all) (values_of [])
  pub options : map seen r.options.items ++ map name_of (options (front_of r.front) rest)
      ≡ map name_of (options Free all)
  pub arguments : map text r.arguments.items ++ arguments (front_of r.front) rest ≡ arguments Free all

pub starts : (all : List Word) (r : Reader) → Starts r → Stands all all r
starts all r s = record {
  sound = rw s.front refl;
  values = rw (s.front, s.values) refl;
  options = rw (s.front, s.options) refl;
  arguments = rw (s.front, s.arguments) refl;
}

put_all_append : (gs hs : List Given) (s : OptionValues) → put_all (gs ++ hs) s ≡ put_all hs (put_all gs s)
put_all_append [] hs s = refl
put_all_append (g ∷ gs) hs s = put_all_append gs hs (put g.option g.value s)

map_append : (gs hs : List Given) → map name_of (gs ++ hs) ≡ map name_of gs ++ map name_of hs
map_append [] hs = refl
map_append (g ∷ gs) hs = ap (λ ns. name_of g ∷ ns) (map_append gs hs)

pub takes : (all rest : List Word) (w : Word) (old new : Reader) → Takes old new w → Stands all (w ∷ rest) old
    → Stands all rest new
takes all rest w old new t s =
    let f = front_of old.front in
    let n = next f (role f w) w in
    let g = option_in (role f w) w in
    record {
      sound = rw t.front ((sym (ap (λ o. option_or o (first_fault n rest)) t.sound)) ∙ s.sound);
      values = rw (t.front, t.values) (sym (put_all_append g (options n rest) old.values) ∙ s.values);
      options = rw (t.front, t.options) (append_assoc (map seen old.options.items) (map name_of g)
          (map name_of (options n rest))
          ∙ ap (λ ns. map seen old.options.items ++ ns) (sym (map_append g (options n rest))) ∙ s.options);
      arguments = rw (t.front, t.arguments) (append_assoc (map text old.arguments.items) (argument_in (role f w) w)
          (arguments n rest) ∙ s.arguments);
    }

fails : (all rest : List Word) (w : Word) (r : Reader) (e : UsageFault) → fault (role (front_of r.front) w) w ≡ Some e
    → Stands all (w ∷ rest) r → first_fault Free all ≡ Some e
fails all rest w r e h s = sym s.sound
    ∙ ap (λ o. option_or o (first_fault (next (front_of r.front) (role (front_of r.front) w) w) rest)) h

pub fault_is : (all rest : List Word) (w : Word) (r : Reader) (e : UsageFault)
    → fault (role (front_of r.front) w) w ≡ Some e → Stands all (w ∷ rest) r → reading all ≡ Err e
unfolding reading
fault_is all rest w r e h s =
    ap (λ o. unless o (chosen (options Free all) (arguments Free all))) (fails all rest w r e h s)

has_code_more : (o : Option Word) (b i : Bool) (v : Word) → is_some (option_map chars o) ≡ i
    → is_some (option_map chars (option_or o (if b then Some v else None))) ≡ (b || i)
has_code_more None true i v e = refl
has_code_more None false i v e = e
has_code_more (Some x) true i v e = refl
has_code_more (Some x) false i v e = e

has_code : (gs : List Given) → is_some (option_map chars (last O.CodeFile gs)) ≡ is_given O.CodeFile gs
has_code [] = refl
has_code (g ∷ gs) =
    has_code_more (last O.CodeFile gs) (same_option O.CodeFile g.option) (is_given O.CodeFile gs) g.value (has_code gs)

abbrev word_in : Option Given → Option Word
word_in None = None
word_in (Some g) = Some g.word

stray_more : (b : Bool) (g : Given) (x : Option Named) (y : Option Given) → word_of x ≡ word_in y
    → word_of (if b then Some (name_of g) else x) ≡ word_in (if b then Some g else y)
stray_more true g x y e = refl
stray_more false g x y e = e

stray_is : (c : CommandName) (code : Bool) (gs : List Given)
    → stray_word c code (map name_of gs) ≡ word_in (stray c code gs)
stray_is c code [] = refl
stray_is c code (g ∷ gs) =
    stray_more (not (is_for c code g.option)) g (find (λ n. not (is_for c code n.option)) (map name_of gs))
    (stray c code gs) (stray_is c code gs)

what_is : (gs : List Given) (c : CommandName) (r : Result What UsageFault)
    → from_what (values_of gs) c r ≡ with_options c gs r
what_is gs c (Ok w) = refl
what_is gs c (Err e) = refl

found_is : (gs : List Given) (c : CommandName) (ws : List Word) (o : Option Given)
    → from_stray (values_of gs) c ws (word_in o) ≡ by_stray c gs ws o
found_is gs c ws None = rw (has_code gs) (what_is gs c (what c (is_given O.CodeFile gs) ws))
found_is gs c ws (Some g) = refl

named_is : (gs : List Given) (w : Word) (ws : List Word) (o : Option CommandName)
    → from_name (values_of gs) (map name_of gs) w ws o ≡ by_name o w gs ws
named_is gs w ws None = refl
named_is gs w ws (Some c) =
    ap (from_stray (values_of gs) c ws) (stray_is c (is_some (option_map chars (last O.CodeFile gs))) gs)
    ∙ rw (has_code gs) (found_is gs c ws (stray c (is_given O.CodeFile gs) gs))

chosen_is : (gs : List Given) (ws : List Word) → chosen_from (values_of gs) (map name_of gs) ws ≡ chosen gs ws
chosen_is gs [] = refl
chosen_is gs (w ∷ ws) = named_is gs w ws (command_named w)

pub ends : (all : List Word) (r : Reader) → Stands all [] r → finished r ≡ reading all
unfolding reading
ends all r s =
    let e : r.values ≡ values_of (options Free all) = s.values ∙ put_all_is [] (options Free all) in
    let o : map seen r.options.items ≡ map name_of (options Free all) = sym (append-nil _) ∙ s.options in
    let a : map text r.arguments.items ≡ arguments Free all = sym (append-nil _) ∙ s.arguments in
    rw (s.sound, e, o, a) (ap (unless (first_fault Free all)) (chosen_is (options Free all) (arguments Free all)))

pub at_end : {Z : Type 0} (ws : List (String Z)) (i : ℕ) (r : Reader) → length ws ≤ i
    → Stands (words_of ws) (words_of (drop i ws)) r → finished r ≡ reading (words_of ws)
at_end ws i r le s =
    ends (words_of ws) r (subst (λ vs. Stands (words_of ws) (words_of vs) r) (drop_of_length-le ws le) s)

pub at_fault : {Z : Type 0} (ws : List (String Z)) (i : ℕ) (w : String Z) (r : Reader) (e : UsageFault) → i < length ws
    → w ≡ get_or ws i w → fault (role (front_of r.front) (string_bytes w)) (string_bytes w) ≡ Some e
    → Stands (words_of ws) (words_of (drop i ws)) r → reading (words_of ws) ≡ Err e
at_fault ws i w r e lt is h s =
    let d : drop i ws ≡ w ∷ drop (suc i) ws = drop-cons ws i w lt ∙ ap (λ x. x ∷ drop (suc i) ws) (sym is) in
    fault_is (words_of ws) (words_of (drop (suc i) ws)) (string_bytes w) r e h
    (subst (λ vs. Stands (words_of ws) (words_of vs) r) d s)
