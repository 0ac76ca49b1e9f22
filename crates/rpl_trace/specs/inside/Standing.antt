-- What has been made of a trace while its evaluations are still under way.
use Rattle.std.specs.Prelude.{ℕ, List, [], ◌∷◌}
use Rattle.rpl_text.specs.Places.{index}
use Rattle.rpl_trace.specs.Evaluations.{Kind, Ending, Evaluations, NoneLeft, One, joined}
use Rattle.rpl_trace.specs.Kinds.{kind_seen}
use Rattle.rpl_trace.specs.inside.Seen.{end_seen}
use Rattle.rpl_trace.specs.declared.event.Event.{Event}
use Rattle.rpl_trace.specs.declared.event.Event.TheVariants as V

-- No evaluation is under way, or one is, inside others: with what it is of, where it began, and the evaluations that
-- ended inside it. `Broken` is where more ended than began.
pub data Standing : Type 0 where
  Whole : (done : Evaluations) → Standing
  Inside : (outer : Standing) (kind : Kind) (start : ℕ) (done : Evaluations) → Standing
  Broken : Standing

-- more evaluations have ended there
abbrev pub add : Standing → Evaluations → Standing
add (Whole f) g = Whole (joined f g)
add (Inside s k i f) g = Inside s k i (joined f g)
add Broken g = Broken

-- the innermost one under way begins, ends, or vanishes from around those inside it
abbrev pub began : Kind → ℕ → Standing → Standing
began k i s = Inside s k i NoneLeft

abbrev pub ended : Ending → Standing → Standing
ended e (Whole f) = Broken
ended e (Inside s k i f) = add s (One k i e f NoneLeft)
ended e Broken = Broken

abbrev pub vanished : Standing → Standing
vanished (Whole f) = Broken
vanished (Inside s k i f) = add s f
vanished Broken = Broken

abbrev pub after : List ℕ → Event → Standing → Standing
after t (V.Begins k p) s = began (kind_seen k) (index t p) s
after t (V.Ends e) s = ended (end_seen t e) s
after t V.Vanishes s = vanished s

-- what the events come to, the last of which is the first of the list
abbrev pub standing : List ℕ → List Event → Standing
standing t [] = Whole NoneLeft
standing t (x ∷ xs) = after t x (standing t xs)
