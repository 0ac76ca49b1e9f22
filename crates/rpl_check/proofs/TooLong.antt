-- In a body that calls nothing and repeats nothing, a bad look-behind is too long.
use Rattle.std.proofs.Common.{◌≡◌, Option, Some, None, refl, ap, ◌∙◌}
use Rattle.std.specs.Prelude.{Bool, true, false, ◌||◌, nat_lt, if◌then◌else◌}
use Rattle.std.specs.Option.{option_or}
use Rattle.rpl_core.specs.Core.{Core, Set, Seq, Choice, Many, Not, And, Behind, Call, Capture, Note, Start, End, Halt}
use Rattle.rpl_core.specs.Core.{Cores, NoMore, Then}
use Rattle.rpl_core.specs.Lengths.{has_call, any_has_call, has_repetition, any_has_repetition, greatest}
use Rattle.rpl_check.specs.Causes.{Cause, Recursive, Repetition, TooLong, cause_of, first_cause, first_cause_in}
use Rattle.rpl_check.specs.inside.Behinds.{has_long_behind, any_has_long_behind}
use Rattle.rpl_core.proofs.Bools.{neither}

-- what a length makes wrong
abbrev pub long_cause : Bool → Option Cause
long_cause b = if b then Some TooLong else None

-- what is wrong, where these are the answers to a call, a repetition and a length
abbrev cause_by : (a b c : Bool) → Option Cause
cause_by a b c = if a then Some Recursive else (if b then Some Repetition else long_cause c)

long_or : (a b : Bool) → option_or (long_cause a) (long_cause b) ≡ long_cause (a || b)
long_or true b = refl
long_or false b = refl

abbrev own : Core → Bool
own p = nat_lt 255 (greatest p)

own_cause : (p : Core) → has_call p ≡ false → has_repetition p ≡ false → cause_of p ≡ long_cause (own p)
own_cause p c d = ap (λ a. cause_by a (has_repetition p) (own p)) c ∙ ap (λ b. cause_by false b (own p)) d

mutual
  pub only_long : (p : Core) → has_call p ≡ false → has_repetition p ≡ false
      → first_cause p ≡ long_cause (has_long_behind p)
  only_long (Set s) c d = refl
  only_long (Seq ps) c d = all_only_long ps c d
  only_long (Choice ps) c d = all_only_long ps c d
  only_long (Many p) c d = absurd (cc)
  only_long (Not p) c d = only_long p c d
  only_long (And p) c d = only_long p c d
  only_long (Behind l n p) c d = ap (λ x. option_or x (first_cause p)) (own_cause p c d)
      ∙ ap (option_or (long_cause (own p))) (only_long p c d) ∙ long_or (own p) (has_long_behind p)
  only_long (Call r) c d = absurd (cc)
  only_long (Capture x p) c d = only_long p c d
  only_long (Note x) c d = refl
  only_long Start c d = refl
  only_long End c d = refl
  only_long Halt c d = refl

  all_only_long : (ps : Cores) → any_has_call ps ≡ false → any_has_repetition ps ≡ false
      → first_cause_in ps ≡ long_cause (any_has_long_behind ps)
  all_only_long NoMore c d = refl
  all_only_long (Then p ps) c d =
      let x = neither (has_call p) (any_has_call ps) c in
      let y = neither (has_repetition p) (any_has_repetition ps) d in
      ap (λ o. option_or o (first_cause_in ps)) (only_long p x.0 y.0)
      ∙ ap (option_or (long_cause (has_long_behind p))) (all_only_long ps x.1 y.1)
      ∙ long_or (has_long_behind p) (any_has_long_behind ps)
