use Rattle.std.proofs.Common.{sym, ap, ◌∙◌}
use Rattle.rpl_core.specs.Core as C
use Rattle.rpl_core.specs.View.{cores}
use Rattle.rpl_forms.proofs.Seen.{seen_note_inside, seen_note_outside}
use Rattle.rpl_forms.proofs.make.note.Goals as goal

pub returns-then-in_lookbehind : goal.returns-then-in_lookbehind
returns-then-in_lookbehind c =
    λ I. c.seq.ensures ∙ ap (λ ps. C.Seq (cores ps)) c.new.ensures
    ∙ sym (seen_note_inside c.args.in_lookbehind I c.args.text.now c.if-in_lookbehind.true)

pub returns : goal.returns
returns c =
    λ I. ap C.Note c.in_ok-copy.ensures
    ∙ sym (seen_note_outside c.args.in_lookbehind I c.args.text.now c.if-in_lookbehind.false)
