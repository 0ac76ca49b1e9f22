-- The set of a bracket: a class, a compound of brackets, or a list. `[` is 91, `]` 93, `^` 94, `:` 58, `-` 45, `&` 38.
-- A definition whose parts call one another takes the reader of the inner part, and a number that bounds how many there
-- are. `Laws` says the same without a number, and that any number that is large enough gives the same.
use Rattle.std.specs.Prelude.{ℕ, zero, suc, Bool, true, false, ◌&&◌, ◌||◌, nat_eq, if◌then◌else◌, List, []}
use Rattle.std.specs.Prelude.{◌∷◌, ◌++◌, Option, Some, None, Result, Ok, Err}
use Rattle.regex_class.specs.Ranges.{Range}
use Rattle.rpl_classes.specs.Norm.{norm}
use Rattle.rpl_classes.specs.Algebra.{both, others, without}
use Rattle.rpl_classes.specs.Classes.{is_alnum, set_named}
use Rattle.rpl_classes.specs.Symbols.{Placed, symbols_from, size, first, place, rest, begins, past_blanks}
use Rattle.rpl_classes.specs.Lists.{Reading, and_then, changed, char_of, list}
use Rattle.rpl_classes.specs.declared.fault.SetFault.{SetFault}
use Rattle.rpl_classes.specs.declared.fault.SetFault.TheVariants.{UnknownClass, BadSet}
use Rattle.rpl_classes.specs.declared.symbols.Symbol.{Symbol}
use Rattle.rpl_classes.specs.declared.symbols.Symbol.TheVariants.{Plain, Escaped, End}

-- ---- classes

-- a letter, a digit or `_`
abbrev pub is_word : Symbol → Bool
is_word (Plain c) = is_alnum c || nat_eq c 95
is_word (Escaped c) = false
is_word End = false

-- the longest name at the front, and what stands after it
unfoldable pub word : List Placed → List ℕ
word [] = []
word (x ∷ s) = if is_word x.1 then char_of x.1 ∷ word s else []

unfoldable pub past_word : List Placed → List Placed
past_word [] = []
past_word (x ∷ s) = if is_word x.1 then past_word s else x ∷ s

-- a name, `:` and `]`
abbrev pub is_name : List Placed → Bool
is_name s = is_word (first s) && (begins 58 (past_word s) && begins 93 (rest (past_word s)))

-- after the `[` the whole bracket is `:name:]` or `:^name:]`
abbrev pub is_class : List Placed → Bool
is_class s = begins 58 s && (if begins 94 (rest s) then is_name (rest (rest s)) else is_name (rest s))

-- the class with the name at the front, in the bracket at the place p
abbrev pub named : ℕ → Option (List Range) → List Placed → Reading
named p None s = Err (UnknownClass p)
named p (Some a) s = Ok (a, s)

abbrev pub name : ℕ → List Placed → Reading
name p s = named p (set_named (word s)) (rest (rest (past_word s)))

abbrev pub class : ℕ → List Placed → Reading
class p s = if begins 94 (rest s) then changed others (name p (rest (rest s))) else name p (rest s)

-- ---- compounds, with b the reader of a bracket, and at most n members

-- further brackets side by side, after those that have the ranges a: the union of all of them
unfoldable pub more : (List Placed → Reading) → ℕ → List Range → List Placed → Reading
more b zero a s = Ok (norm a, s)
more b (suc n) a s =
    if begins 91 (past_blanks s) then and_then (b (past_blanks s)) (λ c r. more b n (a ++ c) r)
    else Ok (norm a, s)

-- brackets side by side are a union
abbrev pub union : (List Placed → Reading) → ℕ → List Placed → Reading
union b n s = and_then (b (past_blanks s)) (more b n)

-- unions joined by operators, from left to right: `&&` keeps what is in both, `--` takes away
unfoldable pub joined : (List Placed → Reading) → ℕ → List Range → List Placed → Reading
joined b zero a s = Err (BadSet (place (past_blanks s)))
joined b (suc n) a s =
    let r = past_blanks s in
    if begins 93 r then Ok (a, rest r)
    else (if begins 38 r && begins 38 (rest r)
    then and_then (union b n (rest (rest r))) (λ c q. joined b n (both a c) q)
    else (if begins 45 r && begins 45 (rest r)
    then and_then (union b n (rest (rest r))) (λ c q. joined b n (without a c) q)
    else Err (BadSet (place r))))

abbrev pub compound : (List Placed → Reading) → ℕ → List Placed → Reading
compound b n s = and_then (union b n s) (joined b n)

-- ---- brackets

-- what stands after a bracket's `[` and `^`: a compound where the first symbol but blanks is `[`, else a list
abbrev pub body : (List Placed → Reading) → ℕ → List Placed → Reading
body b n s = if begins 91 (past_blanks s) then compound b n s else list s

-- what stands after the `[` of the place p, as a set
abbrev pub inside : (List Placed → Reading) → ℕ → ℕ → List Placed → Reading
inside b n p s =
    if is_class s then class p s
    else (if begins 94 s then changed others (body b n (rest s)) else body b n s)

-- a bracket at the front, with at most n brackets in one another
unfoldable pub bracket : ℕ → List Placed → Reading
bracket zero s = Err (BadSet (place s))
bracket (suc n) s = if begins 91 s then inside (bracket n) n (place s) (rest s) else Err (BadSet (place s))

-- ---- the whole text

-- a set, and whether its complement is meant
abbrev pub marked : Bool → Reading → Result (List Range × Bool) SetFault
marked negated (Ok (a, s)) = Ok (a, negated)
marked negated (Err e) = Err e

-- as `inside`, with the mark for the `^` of the outermost bracket
abbrev pub outermost : ℕ → ℕ → List Placed → Result (List Range × Bool) SetFault
outermost n p s =
    if is_class s then marked false (class p s)
    else (if begins 94 s then marked true (body (bracket n) n (rest s)) else marked false (body (bracket n) n s))

-- the set and the mark of a text that is a bracket, or its first fault
abbrev pub bracket_of : List ℕ → Result (List Range × Bool) SetFault
bracket_of t =
    let s = symbols_from t 0 in
    if begins 91 s then outermost (suc (size t)) (place s) (rest s) else Err (BadSet (place s))
