use Rattle.rosie_words.specs.Reading.{words_of}
use Rattle.rosie_cli.proofs.Asking.{command_as, fault_as}
use Rattle.rosie_cli.proofs.command_line.read_command.Goals as goal

pub returns-in-Ok : goal.returns-in-Ok
returns-in-Ok c = command_as c.in-Ok.command (words_of c.args.words.now) c.in-Ok.ensures.ok

pub returns-in_ok-usage_text-in-Err : goal.returns-in_ok-usage_text-in-Err
returns-in_ok-usage_text-in-Err c =
    fault_as c.in-Err.fault (words_of c.args.words.now) _ (c.in-Err.ensures.fault c.in_ok-usage_text-in-Err.ensures.0)
    c.in_ok-usage_text-in-Err.ensures.1
