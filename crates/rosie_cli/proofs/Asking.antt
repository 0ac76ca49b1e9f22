-- What the words ask for, from what the code read.
use Rattle.std.proofs.Common.{ℕ, ◌≡◌, List, ◌++◌, sym, ◌∙◌, ap}
use Rattle.std.specs.Prelude.{Ok, Err}
use Rattle.rosie_words.specs.Printed.{fault_line, usage}
use Rattle.rosie_words.specs.Reading.{reading}
use Rattle.rosie_words.specs.Table.{Word}
use Rattle.rosie_words.specs.declared.command.Command.{Command}
use Rattle.rosie_words.specs.declared.fault.UsageFault.{UsageFault}
use Rattle.rosie_cli.specs.Words as W

pub command_as : (c : Command) (ws : List Word) → reading ws ≡ Ok c → W.Do c ≡ W.command_line ws
unfolding W.command_line
command_as c ws r = sym (ap W.or_refusal r)

pub fault_as : (e : UsageFault) (ws : List Word) (text : List ℕ) → reading ws ≡ Err e → text ≡ fault_line e ++ usage
    → W.Refuse text ≡ W.command_line ws
unfolding W.command_line
fault_as e ws text r h = ap W.Refuse h ∙ sym (ap W.or_refusal r)
