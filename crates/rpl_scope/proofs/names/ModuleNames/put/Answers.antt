use Rattle.std.proofs.Common.{ap, ◌∙◌}
use Rattle.rpl_scope.specs.Packages.{first_of}
use Rattle.rpl_scope.specs.inside.Held.{held}
use Rattle.rpl_scope.proofs.SharedNames.{none_last, put_apart}
use Rattle.rpl_scope.proofs.names.ModuleNames.put.Goals as goal

pub put-requires : goal.put-requires
put-requires c = none_last c.args.name.now (held c.self.inside.shared.items) c.self.inside.own
    (ap (first_of c.args.name.now) c.self.view_is ∙ c.requires)

pub invariant_of-self : goal.invariant_of-self
invariant_of-self c =
    let kept = put_apart c.put.result (held c.self.inside.shared.items) c.self.inside.own c.put.new.self c.args.name.now
    c.args.entry c.self.invariant.apart
    (ap (first_of c.args.name.now) c.self.view_is ∙ c.requires) c.put.ensures.ok c.put.ensures.err in
    record { apart = kept; few = c.self.invariant.few }
