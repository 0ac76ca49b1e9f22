use Rattle.std.proofs.Common.{◌∙◌, sym}
use Rattle.rpl_text.specs.Seen.{text_of}
use Rattle.rpl_text.proofs.Walks.{next_is}
use Rattle.rpl_trace.proofs.Walks.{char_ends}
use Rattle.rpl_trace.proofs.endings.one_char.Goals as goal

pub returns-then-has-clause-end : goal.returns-then-has-clause-end
returns-then-has-clause-end c =
    let n = next_is (text_of c.args.text) c.args.place c.in-Some.c c.in-Some.next (sym c.in-Some.is ∙ c.step.ensures) in
    char_ends (text_of c.args.text) c.args.place c.in-Some.c c.in-Some.next c.args.set.now n (sym c.has.ensures
    ∙ c.if-has.true)

pub returns-then-has-clause-stands : goal.returns-then-has-clause-stands
returns-then-has-clause-stands c =
    (next_is (text_of c.args.text) c.args.place c.in-Some.c c.in-Some.next (sym c.in-Some.is ∙ c.step.ensures)).place
