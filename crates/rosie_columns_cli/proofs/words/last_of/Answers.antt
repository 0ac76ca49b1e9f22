use Rattle.std.proofs.Common.{sym, ◌∙◌}
use Rattle.rosie_columns_cli.proofs.Reading.{last_is, last_none}
use Rattle.rosie_columns_cli.proofs.words.last_of.Goals as goal

pub returns-in-Some : goal.returns-in-Some
returns-in-Some c =
    let item = c.in-Some.ensures.item in
    c.as_str.ensures.value ∙ sym (last_is c.args.words.now c.in-Some.word.now _ item.3.0 item.1)

pub returns-in-None : goal.returns-in-None
returns-in-None c = sym (last_none c.args.words.now c.in-None.ensures.item.3)
