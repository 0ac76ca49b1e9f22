use Rattle.std.proofs.Common.{refl}
use Rattle.rpl_intern.proofs.Adding.{adds_plain}
use Rattle.rpl_intern.proofs.draft.Draft.put.Goals as goal

pub returns-clause-adds : goal.returns-clause-adds
returns-clause-adds c = adds_plain c.args.self.now _ c.args.instr c.in_ok-push.ensures.ok refl refl
