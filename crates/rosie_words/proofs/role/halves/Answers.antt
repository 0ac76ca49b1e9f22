use Rattle.std.proofs.Common.{arith}
use Rattle.rosie_words.specs.Roles.{is_equals}
use Rattle.rosie_words.proofs.Equals.{list_any_absent}
use Rattle.rosie_words.proofs.role.halves.Goals as goal

pub returns-in-None-clause-value : goal.returns-in-None-clause-value
returns-in-None-clause-value c =
    let e = c.in-None.ensures.byte in
    let h = list_any_absent is_equals c.args.word.now in
    grind arith
