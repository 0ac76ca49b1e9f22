use Rattle.std.proofs.Common.{◌∙◌, ap, sym}
use Rattle.rosie_run.specs.declared.mark.Mark.{Mark}
use Rattle.rosie_session.specs.Replay.{out_or_no}
use Rattle.rosie_session.proofs.Turns.{out_kept}
use Rattle.rosie_session.proofs.turn.told.Goals as goal

pub returns-in_ok-no-in-Miss : goal.returns-in_ok-no-in-Miss
returns-in_ok-no-in-Miss c =
    c.in_ok-no-in-Miss.ensures ∙ ap (λ (m : Mark). out_or_no m c.args.text.now) (sym c.in-Miss.is)

pub returns-in_ok-same-in_default : goal.returns-in_ok-same-in_default
returns-in_ok-same-in_default c =
    c.in_ok-same-in_default.ensures ∙ sym (out_kept c.args.mark c.args.text.now c.in_default.not-Miss)
