-- No reading is out of memory.
use Rattle.std.proofs.Common.{◌≢◌, ℕ, Bool, true, false, List, [], ◌∷◌, Option, Some, None, Result, Ok, Err}
use Rattle.std.specs.Prelude.{if◌then◌else◌, chars}
use Rattle.std.specs.Option.{option_or}
use Rattle.rosie_words.specs.declared.command.What.{What}
use Rattle.rosie_words.specs.declared.command.Command.{Command}
use Rattle.rosie_words.specs.declared.fault.UsageFault.{UsageFault}
use Rattle.rosie_words.specs.declared.fault.UsageFault.TheVariants as E
use Rattle.rosie_words.specs.declared.table.CommandName.{CommandName}
use Rattle.rosie_words.specs.declared.table.CommandName.TheVariants as C
use Rattle.rosie_words.specs.declared.table.OptionName.TheVariants as O
use Rattle.rosie_words.specs.Table.{Word, row, command_named}
use Rattle.rosie_words.specs.Values.{accepts, number_in}
use Rattle.rosie_words.specs.Roles as roles
use Rattle.rosie_words.specs.Roles.{Front, Free, Role, Given, role, next, fault, end_fault}
use Rattle.rosie_words.specs.Options.{is_given, stray}
use Rattle.rosie_words.specs.Arguments.{none, only, pattern_inputs_of, sample, sampled, command_of, what}
use Rattle.rosie_words.specs.Reading.{first_fault, options, arguments, with_options, by_stray, by_name, chosen, unless}
use Rattle.rosie_words.specs.Reading.{reading}

value_by : (b : Bool) (v : Word) → (if b then None else Some (E.BadValue (chars v))) ≢ Some E.NoMemory
value_by true v = λ e. cc
value_by false v = λ e. cc

fault_lacks : (r : Role) (w : Word) → fault r w ≢ Some E.NoMemory
fault_lacks roles.EndOfOptions w = λ e. cc
fault_lacks roles.Argument w = λ e. cc
fault_lacks roles.Unknown w = λ e. cc
fault_lacks (roles.Plain o) w = λ e. cc
fault_lacks roles.Unexpected w = λ e. cc
fault_lacks (roles.Full o v) w = value_by (accepts (row o).value v) v
fault_lacks (roles.Waiting o) w = λ e. cc
fault_lacks (roles.Value o n) w = value_by (accepts (row o).value w) w

end_lacks : (f : Front) → end_fault f ≢ Some E.NoMemory
end_lacks roles.Free = λ e. cc
end_lacks (roles.Owed o n) = λ e. cc
end_lacks roles.Ended = λ e. cc

or_lacks : (a b : Option UsageFault) → a ≢ Some E.NoMemory → b ≢ Some E.NoMemory → option_or a b ≢ Some E.NoMemory
or_lacks None b p q = q
or_lacks (Some x) b p q = p

first_lacks : (f : Front) (ws : List Word) → first_fault f ws ≢ Some E.NoMemory
first_lacks f [] = end_lacks f
first_lacks f (w ∷ ws) =
    or_lacks (fault (role f w) w) (first_fault (next f (role f w) w) ws) (fault_lacks (role f w) w)
    (first_lacks (next f (role f w) w) ws)

none_lacks : (ws : List Word) → none ws ≢ Err E.NoMemory
none_lacks [] = λ e. cc
none_lacks (x ∷ ws) = λ e. cc

only_lacks : (ws : List Word) → only ws ≢ Err E.NoMemory
only_lacks [] = λ e. cc
only_lacks (x ∷ []) = λ e. cc
only_lacks (x ∷ y ∷ ws) = λ e. cc

search_lacks : (ws : List Word) → pattern_inputs_of ws ≢ Err E.NoMemory
search_lacks [] = λ e. cc
search_lacks (x ∷ ws) = λ e. cc

sampled_lacks : (x y : Word) (s n : Option ℕ) → sampled x y s n ≢ Err E.NoMemory
sampled_lacks x y None n = λ e. cc
sampled_lacks x y (Some s) None = λ e. cc
sampled_lacks x y (Some s) (Some n) = λ e. cc

sample_lacks : (ws : List Word) → sample ws ≢ Err E.NoMemory
sample_lacks [] = λ e. cc
sample_lacks (x ∷ []) = λ e. cc
sample_lacks (x ∷ y ∷ []) = sampled_lacks x y (number_in 0 2147483647 x) (number_in 0 1000000 y)
sample_lacks (x ∷ y ∷ z ∷ ws) = λ e. cc

made_lacks : {A : Type 0} (f : A → What) (r : Result A UsageFault) → r ≢ Err E.NoMemory
    → command_of f r ≢ Err E.NoMemory
made_lacks f (Ok x) p = λ e. cc
made_lacks f (Err x) p = λ e. p (cc)

what_lacks : (c : CommandName) (code : Bool) (ws : List Word) → what c code ws ≢ Err E.NoMemory
what_lacks C.Match true ws = λ e. cc
what_lacks C.Match false ws = made_lacks _ (pattern_inputs_of ws) (search_lacks ws)
what_lacks C.Grep code ws = made_lacks _ (pattern_inputs_of ws) (search_lacks ws)
what_lacks C.Trace code ws = made_lacks _ (pattern_inputs_of ws) (search_lacks ws)
what_lacks C.Test code ws = made_lacks _ (only ws) (only_lacks ws)
what_lacks C.List code ws = made_lacks _ (none ws) (none_lacks ws)
what_lacks C.Expand code ws = made_lacks _ (only ws) (only_lacks ws)
what_lacks C.Sample code ws = sample_lacks ws
what_lacks C.Repl code ws = made_lacks _ (none ws) (none_lacks ws)
what_lacks C.Compile code ws = made_lacks _ (only ws) (only_lacks ws)
what_lacks C.Class code ws = made_lacks _ (only ws) (only_lacks ws)

with_lacks : (c : CommandName) (gs : List Given) (r : Result What UsageFault) → r ≢ Err E.NoMemory
    → with_options c gs r ≢ Err E.NoMemory
with_lacks c gs (Ok w) p = λ e. cc
with_lacks c gs (Err x) p = λ e. p (cc)

stray_lacks : (c : CommandName) (gs : List Given) (ws : List Word) (o : Option Given)
    → by_stray c gs ws o ≢ Err E.NoMemory
stray_lacks c gs ws None =
    with_lacks c gs (what c (is_given O.CodeFile gs) ws) (what_lacks c (is_given O.CodeFile gs) ws)
stray_lacks c gs ws (Some g) = λ e. cc

name_lacks : (o : Option CommandName) (w : Word) (gs : List Given) (ws : List Word) → by_name o w gs ws ≢ Err E.NoMemory
name_lacks None w gs ws = λ e. cc
name_lacks (Some c) w gs ws = stray_lacks c gs ws (stray c (is_given O.CodeFile gs) gs)

chosen_lacks : (gs : List Given) (ws : List Word) → chosen gs ws ≢ Err E.NoMemory
chosen_lacks gs [] = λ e. cc
chosen_lacks gs (w ∷ ws) = name_lacks (command_named w) w gs ws

unless_lacks : (o : Option UsageFault) (r : Result Command UsageFault) → o ≢ Some E.NoMemory → r ≢ Err E.NoMemory
    → unless o r ≢ Err E.NoMemory
unless_lacks None r p q = q
unless_lacks (Some x) r p q = λ e. p (cc)

pub reading_lacks : (ws : List Word) → reading ws ≢ Err E.NoMemory
unfolding reading
reading_lacks ws = unless_lacks (first_fault Free ws) (chosen (options Free ws) (arguments Free ws))
    (first_lacks Free ws) (chosen_lacks (options Free ws) (arguments Free ws))
