use Rattle.std.proofs.Common.{◌≢◌, length, sym, ◌∙◌, arith}
use Rattle.std.proofs.lemmas.Bool.Decides.{nat_tests}
use Rattle.rpl_syntax.proofs.Rows.{join_of_more}
use Rattle.rpl_syntax.proofs.build.join.Goals as goal

pub returns : goal.returns
returns c =
    let h : length c.args.items.items.items ≢ 1 = grind (arith, nat_tests) in
    c.wrap.ensures ∙ sym (join_of_more c.args.raw c.args.items.items.items h)
