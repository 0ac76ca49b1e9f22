-- The pattern that `compile` is asked for is of characters where the words are.
use Rattle.std.proofs.Common.{arith, ◌≡◌, List, [], ◌∷◌, ◌++◌}
use Rattle.std.specs.Prelude.{Bool, true, Option, Some, None, Result, Ok, Err, IfOk, IsUtf8}
use Rattle.std.specs.List.{All, AllByRecursion}
use Rattle.std.specs.Str.{all_scalars}
use Rattle.std.proofs.lemmas.List.Elements.{recursion_from_All}
use Rattle.std.proofs.lemmas.Str.{scalars-chars}
use Rattle.rosie_words.specs.Arguments.{what}
use Rattle.rosie_words.specs.Reading.{arguments, by_name, by_stray, chosen, first_fault, options, reading, unless}
use Rattle.rosie_words.specs.Reading.{with_options}
use Rattle.rosie_words.specs.Roles.{Front, Free, Given, Role, Argument, EndOfOptions, Unknown, Plain, Unexpected, Full}
use Rattle.rosie_words.specs.Roles.{Waiting, Value, argument_in, next, role}
use Rattle.rosie_words.specs.Table.{Word, command_named}
use Rattle.rosie_words.specs.declared.command.Command.{Command}
use Rattle.rosie_words.specs.declared.command.What.{What}
use Rattle.rosie_words.specs.declared.command.What.TheVariants as W
use Rattle.rosie_words.specs.declared.fault.UsageFault.{UsageFault}
use Rattle.rosie_cli.specs.Laws.{HasCharacters, CompilesCharacters}
use Rattle.rosie_cli.specs.Words.{command_line, or_refusal}

abbrev AreUtf8 : List Word → Type 0
AreUtf8 ws = AllByRecursion IsUtf8 ws

-- ---- arguments

argument_utf8 : (r : Role) (w : Word) (ws : List Word) → IsUtf8 w → AreUtf8 ws → AreUtf8 (argument_in r w ++ ws)
argument_utf8 Argument w ws h k = (h, k)
argument_utf8 EndOfOptions w ws h k = k
argument_utf8 Unknown w ws h k = k
argument_utf8 (Plain o) w ws h k = k
argument_utf8 Unexpected w ws h k = k
argument_utf8 (Full o v) w ws h k = k
argument_utf8 (Waiting o) w ws h k = k
argument_utf8 (Value o n) w ws h k = k

arguments_utf8 : (front : Front) (ws : List Word) → AreUtf8 ws → AreUtf8 (arguments front ws)
arguments_utf8 front [] h = tt
arguments_utf8 front (w ∷ ws) h =
    let r = role front w in
    argument_utf8 r w (arguments (next front r w) ws) h.0 (arguments_utf8 (next front r w) ws h.1)

-- ---- the command

abbrev has_characters : What → Bool
has_characters (W.Compile pattern) = all_scalars pattern
has_characters _ = true

it_has : (w : What) → has_characters w ≡ true → HasCharacters w
it_has (W.Compile pattern) h = h
it_has _ h = tt

-- it has, or there is none
abbrev has : Result What UsageFault → Bool
has (Ok w) = has_characters w
has (Err e) = true

what_has : (c : _) (has_code : Bool) (ws : List Word) → AreUtf8 ws → has (what c has_code ws) ≡ true
what_has c has_code [] h = grind arith
what_has c has_code (w ∷ []) h = let k = scalars-chars w h.0 in grind arith
what_has c has_code (w ∷ x ∷ []) h = grind arith
what_has c has_code (w ∷ x ∷ y ∷ ws) h = grind arith

abbrev CommandHas : Result Command UsageFault → Type 0
CommandHas r = IfOk r (λ c. HasCharacters c.what)

with_options_has : (c : _) (gs : List Given) (r : Result What UsageFault) → has r ≡ true
    → CommandHas (with_options c gs r)
with_options_has c gs (Ok w) h = it_has w h
with_options_has c gs (Err e) h = tt

by_stray_has : (c : _) (gs : List Given) (ws : List Word) (o : Option Given) → AreUtf8 ws
    → CommandHas (by_stray c gs ws o)
by_stray_has c gs ws None h = with_options_has c gs _ (what_has c _ ws h)
by_stray_has c gs ws (Some g) h = tt

by_name_has : (o : _) (w : Word) (gs : List Given) (ws : List Word) → AreUtf8 ws → CommandHas (by_name o w gs ws)
by_name_has None w gs ws h = tt
by_name_has (Some c) w gs ws h = by_stray_has c gs ws _ h

chosen_has : (gs : List Given) (ws : List Word) → AreUtf8 ws → CommandHas (chosen gs ws)
chosen_has gs [] h = tt
chosen_has gs (w ∷ ws) h = by_name_has (command_named w) w gs ws h.1

unless_has : (o : Option UsageFault) (r : Result Command UsageFault) → CommandHas r → CommandHas (unless o r)
unless_has None r h = h
unless_has (Some e) r h = tt

reading_has : (ws : List Word) → AreUtf8 ws → CommandHas (reading ws)
unfolding reading
reading_has ws h =
    unless_has (first_fault Free ws) (chosen (options Free ws) (arguments Free ws))
    (chosen_has (options Free ws) (arguments Free ws) (arguments_utf8 Free ws h))

read_has : (r : Result Command UsageFault) → CommandHas r → CompilesCharacters (or_refusal r)
read_has (Err e) h = tt
read_has (Ok c) h = h

pub words_have : (ws : List Word) → All IsUtf8 ws → CompilesCharacters (command_line ws)
unfolding command_line
words_have ws h = read_has (reading ws) (reading_has ws (recursion_from_All IsUtf8 ws h))
