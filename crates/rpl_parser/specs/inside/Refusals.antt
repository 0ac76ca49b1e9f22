-- The fault of a text whose tokens are refused.
use Rattle.std.specs.Prelude.{ℕ}
use Rattle.rpl_parser.specs.declared.fault.ParseFault.{ParseFault}
use Rattle.rpl_parser.specs.declared.fault.ParseKind.TheVariants.{NoMemory, Syntax as NoSyntax}
use Rattle.rpl_parser.specs.declared.refusal.Refusal.{Refusal}
use Rattle.rpl_parser.specs.declared.refusal.Refusal.TheVariants.{Memory, Syntax}

abbrev pub fault_at : Refusal → (place : ℕ) → ParseFault
fault_at Memory place = record { at = 0; kind = NoMemory }
fault_at Syntax place = record { at = place; kind = NoSyntax }
