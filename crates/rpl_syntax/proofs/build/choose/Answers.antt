use Rattle.std.proofs.Common.{◌≢◌, length, sym, ◌∙◌, arith}
use Rattle.std.proofs.lemmas.Bool.Decides.{nat_tests}
use Rattle.rpl_syntax.proofs.Rows.{choice_of_more, choice_view}
use Rattle.rpl_syntax.proofs.build.choose.Goals as goal

pub returns : goal.returns
returns c =
    let h : length c.args.parts.items.items ≢ 1 = grind (arith, nat_tests) in
    choice_view c.args.parts ∙ sym (choice_of_more c.args.parts.items.items h)
