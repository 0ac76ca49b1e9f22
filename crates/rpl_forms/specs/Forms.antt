-- The cores of the forms of expressions, of the cores of their parts.
use Rattle.std.specs.Prelude.{ℕ, zero, suc, ◌-◌, Bool, true, false, ◌||◌, List, [], ◌∷◌, Option, Some, None}
use Rattle.std.specs.Prelude.{if◌then◌else◌, codes, min}
use Rattle.regex_class.specs.Ranges.{Range}
use Rattle.rpl_classes.specs.Algebra.{others}
use Rattle.rpl_core.specs.Core.{Core, Set, Seq, Choice, Many, Not, Behind, Call, Capture, Note, Cores, NoMore, Then}
use Rattle.rpl_core.specs.Lengths.{has_call, has_repetition, greatest, least}
use Rattle.rpl_macro.specs.Sets.{set_in, single, under_ci, under_uci}
use Rattle.rpl_macro.specs.declared.casing.Casing.{Casing}
use Rattle.rpl_macro.specs.declared.kind.Macro.{Macro}
use Rattle.rpl_macro.specs.declared.kind.Macro.TheVariants.{Find, FindAll, KeepTo, Ci, Uci, Message, Error}
use Rattle.rpl_syntax.specs.declared.expr.Mark.{Mark}
use Rattle.rpl_syntax.specs.declared.expr.Mark.TheVariants.{Hit, Skip}

-- succeeds, and takes nothing
abbrev pub empty : Core
empty = Seq NoMore

abbrev pub pair : Core → Core → Core
pair p q = Seq (Then p (Then q NoMore))

abbrev pub or_nothing : Core → Core
or_nothing p = Choice (Then p (Then empty NoMore))

-- p so many times, before the rest
abbrev pub copies : ℕ → Core → Cores → Cores
copies zero p rest = rest
copies (suc n) p rest = Then p (copies n p rest)

-- some cores before others
abbrev pub joined : Cores → Cores → Cores
joined NoMore rest = rest
joined (Then p ps) rest = Then p (joined ps rest)

-- a group of one item is that item
abbrev pub seq_of : Cores → Core
seq_of NoMore = Seq NoMore
seq_of (Then p NoMore) = p
seq_of (Then p (Then q ps)) = Seq (Then p (Then q ps))

-- the characters of a text in a casing, each a set
abbrev pub sets : Casing → List ℕ → Cores
sets c [] = NoMore
sets c (x ∷ xs) = Then (Set (set_in c (single x))) (sets c xs)

abbrev pub text_core : Casing → List ℕ → Core
text_core c t = seq_of (sets c t)

-- a class: the complement comes after the casing
abbrev pub signed : Bool → List Range → List Range
signed true s = others s
signed false s = s

-- all characters
abbrev pub any : List Range
any = (0, 0xd7ff) ∷ (0xe000, 0x10_ffff) ∷ []

-- an item of a cooked group before others: the boundary b after it, unless it is a prefix
abbrev pub spaced_by : (prefix : Bool) → Core → Core → Cores → Cores
spaced_by prefix b p NoMore = Then p NoMore
spaced_by true b p (Then q ps) = Then p (Then q ps)
spaced_by false b p (Then q ps) = Then p (Then b (Then q ps))

-- n times and more
abbrev pub endless : Core → ℕ → Core
endless p zero = Many p
endless p (suc n) = Seq (Then p (copies n p (Then (Many p) NoMore)))

-- from n to m times, or n times and more
abbrev pub repeat : Core → ℕ → Option ℕ → Core
repeat p n None = endless p n
repeat p n (Some m) = Seq (copies n p (copies (m - n) (or_nothing p) NoMore))

-- a cooked group n times and more, with the boundary b between its turns
abbrev pub cooked_endless : Core → Core → ℕ → Core
cooked_endless b p zero = or_nothing (pair p (Many (pair b p)))
cooked_endless b p (suc n) = Seq (Then p (copies n (pair b p) (Then (Many (pair b p)) NoMore)))

-- one turn, n further ones, and up to m more
abbrev pub cooked_turns : Core → Core → ℕ → ℕ → Core
cooked_turns b p n m = Seq (Then p (copies n (pair b p) (copies m (or_nothing (pair b p)) NoMore)))

abbrev pub cooked_bounded : Core → Core → ℕ → ℕ → Core
cooked_bounded b p zero zero = empty
cooked_bounded b p zero (suc m) = or_nothing (cooked_turns b p 0 m)
cooked_bounded b p (suc n) m = cooked_turns b p n (m - suc n)

abbrev pub cooked_repeat : Core → Core → ℕ → Option ℕ → Core
cooked_repeat b p n None = cooked_endless b p n
cooked_repeat b p n (Some m) = cooked_bounded b p n m

abbrev pub repeated : (cooked : Bool) → Core → Core → ℕ → Option ℕ → Core
repeated true b p l m = cooked_repeat b p l m
repeated false b p l m = repeat p l m

-- The look-behind at a body: its least and greatest length, the greatest stopping at 256, or none where a call or a
-- repetition is in it. The least stops at 65,536, which is as many characters as a core of the allowed size can ask
-- for, as `least_within_nodes` of `rpl_expand` says.
abbrev pub behind : Core → Core
behind p =
    if has_call p || has_repetition p then Behind 0 0 p else Behind (min 65536 (least p)) (min 256 (greatest p)) p

-- the type of the tree of a mark
abbrev pub mark_name : Mark → List ℕ
mark_name Hit = codes "find.*"
mark_name Skip = codes "find.<search>"

-- the characters that a search for p passes over
abbrev pub passed : Core → Core
passed p = Many (pair (Not p) (Set any))

abbrev pub found : Core → Core
found p = pair (passed p) (Capture (mark_name Hit) p)

abbrev pub kept : Core → Core
kept p = pair (Capture (mark_name Skip) (passed p)) (Capture (mark_name Hit) p)

-- the built-in rule `halt` is the second of each table
abbrev pub halt_rule : ℕ
halt_rule = 1

-- a macro of an argument with this core, or of this text
abbrev pub macro_core : Option Macro → List ℕ → Core → Core
macro_core (Some Find) t p = found p
macro_core (Some FindAll) t p = endless (found p) 1
macro_core (Some KeepTo) t p = kept p
macro_core (Some Message) t p = Note t
macro_core (Some Error) t p = pair (Note t) (Call halt_rule)
macro_core _ t p = p

-- the casing under a macro
abbrev pub casing_under : Option Macro → Casing → Casing
casing_under (Some Ci) c = under_ci c
casing_under (Some Uci) c = under_uci c
casing_under _ c = c
