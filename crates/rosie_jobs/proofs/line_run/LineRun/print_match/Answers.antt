use Rattle.std.proofs.Common.{ap, ◌∙◌}
use Rattle.std.proofs.lemmas.Result.{IfOk-weaker}
use Rattle.std.specs.Prelude.{chars}
use Rattle.rpl_core.specs.Captures.{all_named}
use Rattle.rpl_encode.specs.Print.{placed}
use Rattle.rpl_tree.specs.Trees.{label_in}
use Rattle.rpl_text.specs.Places.{at}
use Rattle.rosie_jobs.proofs.OneLine.{trees_same}
use Rattle.rosie_jobs.proofs.line_run.LineRun.print_match.Goals as goal

pub returns-clause-printed : goal.returns-clause-printed
returns-clause-printed c =
    let t = chars c.args.line.now in
    let texts = c.args.self.now.fronts in
    IfOk-weaker c.print_match.result _ _ (λ fits printed f caught. printed (placed (at t) f)
    (λ needs. ap (all_named (label_in texts)) c.captures-2.ensures
    ∙ trees_same t texts c.args.self.now.scratch.captures f (caught needs).1 (caught needs).0)) c.print_match.ensures
