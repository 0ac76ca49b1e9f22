use Rattle.std.proofs.Common.{◌<◌, ◌+◌, ◌++◌, arith, ap, sym, ◌∙◌, drop, length, Vec, Global, ℕ, List}
use Rattle.rosie_columns_cli.specs.Absent.{absent_text}
use Rattle.rosie_columns_cli.specs.inside.Marks.{unfound}
use Rattle.rosie_columns_cli.proofs.Absent.{bare_next, marked_next, text_end, text_on, unfound_end}
use Rattle.rosie_columns_cli.proofs.job.absent_lines.Goals as goal
use Rattle.rosie_columns_cli.proofs.job.absent_lines.Goals.{then-not-found-index+in_ok-push_absent}
use Rattle.rosie_columns_cli.proofs.job.absent_lines.Goals.{else-not-found-index}

pub loop-index-preserved : goal.loop-index-preserved
loop-index-preserved c =
    let cs = c.args.columns.now in
    let marks = c.args.found.now in
    let i = c.loop-index.index in
    let count = c.min-count.ensures in
    let below = c.loop-index-test.true in
    let lt : i < length cs = omega (arith, count, below) in
    let lm : i < length marks = omega (arith, count, below) in
    let whole = absent_text (unfound cs marks) in
    let more = unfound (drop (i + 1) cs) (drop (i + 1) marks) in
    elim c.if-not-found-index.branch [
      | then-not-found-index+in_ok-push_absent w ↦
          let column = w.index-columns-index.result in
          text_on c.loop-index.text.items c.if-not-found-index.text.items whole column
          (unfound (drop i cs) (drop i marks)) more
          (bare_next cs marks i column _ lt lm w.index-columns-index.is w.if-not-found-index.true)
          (ap (λ (v : Vec ℕ Global). v.items) w.text-is ∙ w.in_ok-push_absent.ensures) c.loop-index.invariant
      | else-not-found-index w ↦
          ap (λ (o : List ℕ). o ++ absent_text more) (ap (λ (v : Vec ℕ Global). v.items) w.text-is)
          ∙ ap (λ l. c.loop-index.text.items ++ absent_text l)
          (sym (marked_next cs marks i _ lm w.if-not-found-index.false))
          ∙ c.loop-index.invariant
    ]

pub returns : goal.returns
returns c =
    let cs = c.args.columns.now in
    let marks = c.args.found.now in
    let i = c.loop-index.index in
    let count = c.min-count.ensures in
    let past = c.loop-index-test.false in
    text_end c.loop-index.text.items (absent_text (unfound cs marks)) (unfound (drop i cs) (drop i marks))
    (unfound_end cs marks i (omega (arith, count, past))) c.loop-index.invariant
