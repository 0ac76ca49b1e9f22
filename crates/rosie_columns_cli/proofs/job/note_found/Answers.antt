use Rattle.std.proofs.Common.{◌<◌, ◌+◌, arith, length, map, sym, ◌∙◌, List, Bool, ap}
use Rattle.rpl_columns.specs.Nodes.{seen}
use Rattle.rosie_columns_cli.proofs.Marks.{given_next, kept_next, noted_end, so_far}
use Rattle.rosie_columns_cli.proofs.job.note_found.Goals as goal
use Rattle.rosie_columns_cli.proofs.job.note_found.Goals.{then-not-found-index, else-not-found-index}

pub loop-index-preserved : goal.loop-index-preserved
loop-index-preserved c =
    let cs = c.args.columns.now in
    let marks = c.loop-index.found in
    let nodes = map (seen c.args.tree.line.now) c.args.tree.nodes.now in
    let i = c.loop-index.index in
    let count = c.min-count.ensures in
    let below = c.loop-index-test.true in
    let same = c.loop-index.auto.found in
    let lt : i < length cs = omega (arith, count, below) in
    let lm : i < length marks = omega (arith, count, below, same) in
    elim c.if-not-found-index.branch [
      | then-not-found-index w ↦
          ap (λ (m : List Bool). so_far nodes cs m (i + 1)) w.found-is
          ∙ given_next nodes cs marks i w.index-columns-index.result _ w.occurs.result lt lm w.index-columns-index.is
          w.if-not-found-index.true w.occurs.ensures
          ∙ c.loop-index.invariant
      | else-not-found-index w ↦
          ap (λ (m : List Bool). so_far nodes cs m (i + 1)) w.found-is
          ∙ kept_next nodes cs marks i _ lm w.if-not-found-index.false
          ∙ c.loop-index.invariant
    ]

pub returns : goal.returns
returns c =
    let cs = c.args.columns.now in
    let marks = c.loop-index.found in
    let nodes = map (seen c.args.tree.line.now) c.args.tree.nodes.now in
    let count = c.min-count.ensures in
    let past = c.loop-index-test.false in
    let same = c.loop-index.auto.found in
    sym (noted_end nodes cs marks c.loop-index.index (omega (arith, count, past, same))) ∙ c.loop-index.invariant
