-- The set of a bracket that is a list of characters. `[` is 91, `]` 93, `-` 45.
use Rattle.std.specs.Prelude.{ℕ, Bool, true, false, not, ◌&&◌, ◌||◌, nat_eq, nat_le, if◌then◌else◌, List, []}
use Rattle.std.specs.Prelude.{◌∷◌, Result, Ok, Err}
use Rattle.regex_class.specs.Ranges.{Range}
use Rattle.rpl_classes.specs.Norm.{norm}
use Rattle.rpl_classes.specs.Symbols.{Placed, first, place, rest, is_plain, begins}
use Rattle.rpl_classes.specs.declared.fault.SetFault.{SetFault}
use Rattle.rpl_classes.specs.declared.fault.SetFault.TheVariants.{BadRange, BadSet}
use Rattle.rpl_classes.specs.declared.symbols.Symbol.{Symbol}
use Rattle.rpl_classes.specs.declared.symbols.Symbol.TheVariants.{Plain, Escaped, End}

-- some ranges and the symbols after what they were read from, or the first fault
abbrev pub Reading : Type 0
Reading = Result (List Range × List Placed) SetFault

-- reads on after what was read
abbrev pub and_then : Reading → (List Range → List Placed → Reading) → Reading
and_then (Ok (a, s)) f = f a s
and_then (Err e) f = Err e

-- what was read, changed
abbrev pub changed : (List Range → List Range) → Reading → Reading
changed f (Ok (a, s)) = Ok (f a, s)
changed f (Err e) = Err e

-- a list may hold it: any character but an unescaped `[` or `]`
abbrev pub is_member : Symbol → Bool
is_member (Plain c) = not (nat_eq c 91 || nat_eq c 93)
is_member (Escaped c) = true
is_member End = false

abbrev pub char_of : Symbol → ℕ
char_of (Plain c) = c
char_of (Escaped c) = c
char_of End = 0

-- the list is x-y and nothing else
abbrev pub is_range : List Placed → Bool
is_range s =
    is_member (first s)
    && (begins 45 (rest s) && (is_member (first (rest (rest s))) && begins 93 (rest (rest (rest s)))))

-- the range of such a list, whose ends may not fall
abbrev pub range_list : List Placed → Reading
range_list s =
    let low = char_of (first s) in
    let high = char_of (first (rest (rest s))) in
    if nat_le low high then Ok ((low, high) ∷ [], rest (rest (rest (rest s)))) else Err (BadRange (place (rest s)))

-- any other list, from a symbol on: each character is itself, and `-` too where it is first or last
unfoldable pub each : Bool → List Placed → Reading
each is_first [] = Err (BadSet 0)
each is_first (x ∷ s) =
    if is_plain 93 x.1 then (if is_first then Err (BadSet x.0) else Ok ([], s))
    else (if not (is_member x.1) then Err (BadSet x.0)
    else (if is_plain 45 x.1 && (not is_first && not (begins 93 s)) then Err (BadRange x.0)
    else changed (λ a. (char_of x.1, char_of x.1) ∷ a) (each false s)))

abbrev pub list : List Placed → Reading
list s = changed norm (if is_range s then range_list s else each true s)
