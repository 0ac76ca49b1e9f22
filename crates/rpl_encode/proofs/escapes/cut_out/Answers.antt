use Rattle.rpl_encode.proofs.Escaping.{in_order, cut_out}
use Rattle.rpl_encode.proofs.escapes.cut_out.Goals as goal

pub slice_bounds-result-count : goal.slice_bounds-result-count
slice_bounds-result-count c =
    (in_order c.args.line.now c.args.string.now c.args.places.now c.requires.kept c.args.start c.args.end
    c.requires.within.0 c.requires.within.1).0

pub slice_bounds-result-start : goal.slice_bounds-result-start
slice_bounds-result-start c =
    (in_order c.args.line.now c.args.string.now c.args.places.now c.requires.kept c.args.start c.args.end
    c.requires.within.0 c.requires.within.1).0

pub slice_bounds-result-end : goal.slice_bounds-result-end
slice_bounds-result-end c =
    (in_order c.args.line.now c.args.string.now c.args.places.now c.requires.kept c.args.start c.args.end
    c.requires.within.0 c.requires.within.1).1

pub returns : goal.returns
returns c = cut_out c.args.line.now c.args.string.now c.args.places.now c.requires.kept c.args.start c.args.end
    c.requires.within.0 c.requires.within.1
