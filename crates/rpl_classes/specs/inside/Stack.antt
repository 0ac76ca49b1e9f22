-- What the stack of open compounds says of the bracket that is being read.
use Rattle.std.specs.Prelude.{◌≡◌, ◌≢◌, ℕ, ◌<◌, ◌≤◌, Bool, if◌then◌else◌, List, [], ◌∷◌, ◌++◌, Option, Some}
use Rattle.std.specs.Prelude.{None, Result, Ok, Err}
use Rattle.regex_class.specs.Ranges.{Range}
use Rattle.rpl_text.specs.Places.{IsPlace}
use Rattle.rpl_classes.specs.Algebra.{others, without}
use Rattle.rpl_classes.specs.Symbols.{Placed, symbols_from}
use Rattle.rpl_classes.specs.Lists.{Reading, and_then, changed}
use Rattle.rpl_classes.specs.Laws.{reading, further, joins}
use Rattle.rpl_classes.specs.inside.Operators.{applied}
use Rattle.rpl_classes.specs.declared.fault.SetFault.{SetFault}
use Rattle.rpl_classes.specs.declared.fault.SetFault.TheVariants.{NoMemory}
use Rattle.rpl_classes.specs.declared.brackets.Begun.{Begun}
use Rattle.rpl_classes.specs.declared.brackets.Begun.TheVariants.{Whole, Compound}
use Rattle.rpl_classes.specs.declared.compounds.Left.{Left}
use Rattle.rpl_classes.specs.declared.compounds.Before.{Before}
use Rattle.rpl_classes.specs.declared.compounds.Open.{Open}
use Rattle.rpl_classes.specs.declared.compounds.Step.{Step}
use Rattle.rpl_classes.specs.declared.compounds.Step.TheVariants.{Member, Closed}
use Rattle.rpl_classes.specs.declared.compounds.Next.{Next}
use Rattle.rpl_classes.specs.declared.compounds.Next.TheVariants.{Bracket, End}

-- a reading, or its complement
abbrev pub signed : Bool → Reading → Reading
signed negated r = if negated then changed others r else r

-- a compound whose first member is at the place q
abbrev pub opened : List ℕ → ℕ → Reading
opened t q = and_then (and_then (reading (symbols_from t q)) further) joins

-- what begins reads as r: it is whole, or a compound; it reaches the place p and beyond
abbrev pub Begins : List ℕ → ℕ → Reading → Result Begun SetFault → Type 0
Begins t p r (Ok (Whole a q)) = (r ≡ Ok (a, symbols_from t q)) × IsPlace t q × (p < q)
Begins t p r (Ok (Compound negated q)) = (r ≡ signed negated (opened t q)) × IsPlace t q × (p ≤ q)
Begins t p r (Err e) = e ≢ NoMemory → r ≡ Err e

-- a compound has this mark
abbrev pub IsMarked : Bool → Begun → Type 0
IsMarked negated (Whole a q) = Unit {0}
IsMarked negated (Compound mark q) = mark ≡ negated

-- what is left of the ranges that were kept
abbrev pub left_set : Left → List Range
left_set l = without l.kept l.taken

-- a union joined with what stands before it
abbrev pub joined_by : Option Before → List Range → List Range
joined_by None a = a
joined_by (Some b) a = applied b.operator (left_set b.left) a

-- an open compound whose next member reads as r
abbrev pub framed : Open → Reading → Reading
framed o r =
    signed o.negated
    (and_then (and_then r (λ c s. further (o.union ++ c) s)) (λ a s. joins (joined_by o.before a) s))

-- the whole, where the next member of the last of the open compounds reads as r
abbrev pub resume : List Open → Reading → Reading
resume [] r = r
resume (o ∷ os) r = framed o (resume os r)

-- one step of a compound that reads as r: its next member is at q, or it is closed
abbrev pub Steps : List ℕ → ℕ → Reading → Result Step SetFault → Type 0
Steps t p r (Ok (Member o q)) = (r ≡ framed o (reading (symbols_from t q))) × IsPlace t q × (p ≤ q)
Steps t p r (Ok (Closed a q)) = (r ≡ Ok (a, symbols_from t q)) × IsPlace t q × (p < q)
Steps t p r (Err e) = e ≢ NoMemory → r ≡ Err e

-- what follows a member of the last compound: another bracket at q, or nothing, and the whole is the set
abbrev pub GoesBehind : List ℕ → ℕ → Reading → List Open → Result Next SetFault → Type 0
GoesBehind t p r os (Ok (Bracket q)) = (r ≡ resume os (reading (symbols_from t q))) × IsPlace t q × (p ≤ q)
GoesBehind t p r os (Ok (End a)) = (s : List Placed) × (r ≡ Ok (a, s))
GoesBehind t p r os (Err e) = e ≢ NoMemory → r ≡ Err e

-- what was read is the set, or the fault; or memory ran out
abbrev pub GivesSet : List ℕ → Reading → Result (List Range) SetFault → Type 0
GivesSet t r (Ok a) = (s : List Placed) × (r ≡ Ok (a, s))
GivesSet t r (Err e) = e ≢ NoMemory → r ≡ Err e
