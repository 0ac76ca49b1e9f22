use Rattle.std.proofs.Common.{◌≡◌, ◌∙◌, ap, sym}
use Rattle.std.specs.Prelude.{true, false, ◌||◌, nat_lt}
use Rattle.rpl_core.specs.Core.{Behind}
use Rattle.rpl_core.specs.Lengths.{greatest}
use Rattle.rpl_core.specs.View.{core_of}
use Rattle.rpl_core.proofs.Bools.{clash, left, right}
use Rattle.rpl_check.specs.inside.Behinds.{has_long_behind}
use Rattle.rpl_check.proofs.TooLong.{long_cause, only_long}
use Rattle.rpl_check.proofs.behinds.behind_cause.Goals as goal
use Rattle.rpl_check.proofs.behinds.behind_cause.Goals.{then-is_too_long, else-is_too_long}

pub returns-then-has_long_behind : goal.returns-then-has_long_behind
returns-then-has_long_behind c =
    let p = core_of c.args.body.now in
    let on : has_long_behind (Behind 0 0 p) ≡ true = elim c.if-is_too_long.branch [
      | then-is_too_long w ↦ left (nat_lt 255 (greatest p)) (has_long_behind p) (sym c.is_too_long.ensures
          ∙ w.if-is_too_long.true)
      | else-is_too_long w ↦ right (nat_lt 255 (greatest p)) (has_long_behind p) (sym w.has_long_behind.ensures
          ∙ sym w.value-is ∙ c.if-has_long_behind.true)
    ] in
    sym (only_long (Behind 0 0 p) (sym c.has_call.ensures ∙ c.if-has_call.false) (sym c.has_repetition.ensures
    ∙ c.if-has_repetition.false) ∙ ap long_cause on)

pub returns-else-has_long_behind : goal.returns-else-has_long_behind
returns-else-has_long_behind c =
    let p = core_of c.args.body.now in
    let off : has_long_behind (Behind 0 0 p) ≡ false = elim c.if-is_too_long.branch [
      | then-is_too_long w ↦
          clash c.if-is_too_long.value (w.value-is ∙ w.if-is_too_long.true) c.if-has_long_behind.false
      | else-is_too_long w ↦ ap (λ b. b || has_long_behind p) (sym c.is_too_long.ensures ∙ w.if-is_too_long.false)
          ∙ sym w.has_long_behind.ensures ∙ sym w.value-is ∙ c.if-has_long_behind.false
    ] in
    sym (only_long (Behind 0 0 p) (sym c.has_call.ensures ∙ c.if-has_call.false) (sym c.has_repetition.ensures
    ∙ c.if-has_repetition.false) ∙ ap long_cause off)
