-- What the words ask for, as the code has it.
use Rattle.std.specs.Prelude.{string_bytes}
use Rattle.rosie_cli.specs.Words as W
use Rattle.rosie_cli.specs.declared.command_line.CommandLine.{CommandLine}
use Rattle.rosie_cli.specs.declared.command_line.CommandLine.TheVariants.{Refuse, Do}

abbrev pub command_line_seen : CommandLine → W.CommandLine
command_line_seen (Refuse text) = W.Refuse (string_bytes text)
command_line_seen (Do command) = W.Do command
