use Rattle.rpl_parser.proofs.Modules.{module_again, module_sound, reading_unique, module_reads, fault_again}
use Rattle.rpl_parser.proofs.Modules.{fault_sound, module_or_fault}
use Rattle.rpl_parser.proofs.laws.one_module.Goals as goal

pub returns : goal.returns
returns c = record {
  either = module_or_fault;
  only = reading_unique;
  reads = module_reads;
  read = module_again;
  spelled = module_sound;
  refused = fault_again;
  faulty = fault_sound;
}
