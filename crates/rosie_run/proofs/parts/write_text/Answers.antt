use Rattle.std.proofs.Common.{◌++◌, drop, length, subst, sym, arith}
use Rattle.rosie_run.specs.Parts.{IsParted}
use Rattle.rosie_run.proofs.Parted.{parted, text_breaks, text_tally, text_wrote}
use Rattle.rosie_run.proofs.parts.write_text.Goals as goal

pub returns-in-Ok-clause-runs : goal.returns-in-Ok-clause-runs
returns-in-Ok-clause-runs g c =
    let text = g.T.TextSource.left c.args.text in
    let ps = parted (length text) text (omega arith) in
    let runs = c.in-Ok.ensures.runs ps.0
    (subst (λ bytes. IsParted (drop 0 bytes ++ text) ps.0) (sym c.new.ensures.bytes) ps.1) in (
      text_wrote _ text ps.0 ps.1 _ _ runs.0,
      text_tally text ps.0 ps.1 c.in-Ok.tally c.with.result runs.1 c.with.ensures,
    )

pub returns-clause-runs : goal.returns-clause-runs
returns-clause-runs g c =
    let text = g.T.TextSource.left c.args.text in
    let ps = parted (length text) text (omega arith) in
    let runs = c.in-Err.ensures.runs ps.0
    (subst (λ bytes. IsParted (drop 0 bytes ++ text) ps.0) (sym c.new.ensures.bytes) ps.1) in
    text_breaks _ text ps.0 ps.1 _ _ c.in-Err.ended _ runs
