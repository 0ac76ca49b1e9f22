use Rattle.rpl_expand.proofs.Reprinted.{braces_keep, patterns_keep, printing_keeps}
use Rattle.rpl_expand.proofs.laws.printing_keeps_cores.Goals as goal

pub returns-clause-braces : goal.returns-clause-braces
returns-clause-braces c = braces_keep

pub returns-clause-read : goal.returns-clause-read
returns-clause-read c = printing_keeps

pub returns-clause-pattern : goal.returns-clause-pattern
returns-clause-pattern c = patterns_keep
