use Rattle.std.proofs.Common.{refl, sym, ap₂, ◌∙◌}
use Rattle.rpl_scope.specs.Imports.{numbered}
use Rattle.rpl_scope.specs.Seen.{module_seen, rules_seen}
use Rattle.rpl_scope.specs.Taken.{taken_names}
use Rattle.rpl_scope.proofs.SharedNames.{all_shared}
use Rattle.rpl_scope.proofs.imports.share_names.Goals as goal

pub returns-then-are_taken_names-clause-all : goal.returns-then-are_taken_names-clause-all
returns-then-are_taken_names-clause-all c =
    let pairs = sym c.deref.ensures ∙ c.if-are_taken_names.ensures.taken refl
    ∙ ap₂ (λ n rs. taken_names n c.args.owner (numbered 0 (rules_seen rs))) c.rules_so_far.ensures
    c.deref-in-Some.ensures.value in
    all_shared c.args.owner (module_seen c.args.own.now) c.in-Some.names.now.value c.join.new.self
    (numbered 0 (rules_seen c.args.from.now.rules.items)) c.join.result pairs c.join.ensures.ok c.join.ensures.apart
