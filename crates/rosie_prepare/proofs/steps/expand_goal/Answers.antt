use Rattle.std.proofs.Common.{None}
use Rattle.std.proofs.Math.Logic.{∥∥₁_elim, ∥∥₁_map}
use Rattle.std.proofs.Props.{props}
use Rattle.rpl_core.specs.Listed.{bodies_in, rules_of}
use Rattle.rpl_core.specs.View.{core_of}
use Rattle.rpl_expand.proofs.Loaded.{scopes_are_over, trees_are_made}
use Rattle.rpl_expand.proofs.Merely.{root_out}
use Rattle.rpl_names.specs.Sets.{set_seen}
use Rattle.rosie_prepare.proofs.steps.expand_goal.Goals as goal

pub returns-in-Ok-clause-calls : goal.returns-in-Ok-clause-calls
returns-in-Ok-clause-calls c = λ r h.
    let p = set_seen c.args.packages.now in
    let rs = rules_of c.args.rules.now in
    ∥∥₁_elim c.args.packages.now.built (Prim.hlevel props) (λ b.
    c.in-Ok.ensures.calls (scopes_are_over p b rs None c.requires) r h)

pub returns-in-Ok-clause-root : goal.returns-in-Ok-clause-root
returns-in-Ok-clause-root c =
    let p = set_seen c.args.packages.now in
    let rs = rules_of c.args.rules.now in
    root_out (bodies_in c.args.rules.now) (core_of c.in-Ok.goal) (∥∥₁_map c.args.packages.now.built (λ b.
    c.in-Ok.ensures.root (trees_are_made p b rs None c.requires)))
