use Rattle.rpl_core.specs.Core.{Call}
use Rattle.rpl_expand.specs.Expansion.{core, is_cooked}
use Rattle.rpl_expand.proofs.Still.{turns}
use Rattle.rpl_expand.proofs.laws.exactly_turns.Goals as goal

pub returns : goal.returns
returns c = λ k s p n h. turns (is_cooked p) (Call s.boundary) (core k s p) n h
