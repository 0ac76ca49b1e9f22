use Rattle.std.proofs.Common.{map}
use Rattle.std.proofs.Math.Logic.{∥∥₁_map}
use Rattle.rpl_core.specs.Listed.{blocks_in, bodies_in}
use Rattle.rpl_expand.specs.Sets.{table_of}
use Rattle.rpl_expand.proofs.Loaded.{loaded_is_bound, table_is_distinct}
use Rattle.rpl_expand.proofs.Merely.{distinct_out, order_out}
use Rattle.rpl_names.specs.Sets.{set_seen}
use Rattle.rosie_prepare.proofs.steps.expand_rules.Goals as goal

pub expand-requires : goal.expand-requires
expand-requires c =
    let p = set_seen c.args.packages.now in
    distinct_out (map (λ r. r.name) (table_of p)) (∥∥₁_map c.args.packages.now.built (λ b. table_is_distinct p b))

pub returns-in-Ok-clause-order : goal.returns-in-Ok-clause-order
returns-in-Ok-clause-order c =
    let p = set_seen c.args.packages.now in
    order_out (bodies_in c.in-Ok.rules) (blocks_in c.in-Ok.rules)
    (∥∥₁_map c.args.packages.now.built (λ b. c.in-Ok.ensures.order (loaded_is_bound p b)))
