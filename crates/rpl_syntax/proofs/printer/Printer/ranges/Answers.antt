use Rattle.std.proofs.Common.{◌++◌, take, get_or, sym, ap, ◌∙◌}
use Rattle.std.proofs.lemmas.List.{take_more}
use Rattle.rpl_syntax.specs.Printed.{ranges_text, range_text}
use Rattle.rpl_syntax.proofs.Grown.{then, ranges_more}
use Rattle.rpl_syntax.proofs.printer.Printer.ranges.Goals as goal

pub loop-range-preserved : goal.loop-range-preserved
loop-range-preserved c =
    let all = c.args.ranges.now in
    let i = c.loop-range.range-index in
    let r = get_or all i (0, 0) in
    then c.args.self.now c.loop-range.self c.range.new.self (ranges_text (take i all)) (range_text r.0 r.1)
    c.loop-range.invariant c.in_ok-range.ensures
    ∙ ap (λ x. c.args.self.now ++ x) (sym (ranges_more (take i all) r)
    ∙ ap ranges_text (sym (take_more all i (0, 0) c.loop-range-test.true)))
