use Rattle.std.proofs.Common.{◌∙◌, sym, ap}
use Rattle.std.specs.Prelude.{nat_lt, length}
use Rattle.rpl_core.specs.Listed.{rules_of}
use Rattle.rpl_core.specs.View.{core_of}
use Rattle.rpl_core.specs.inside.Standing.{calls_only}
use Rattle.rpl_core.proofs.Standings.{within_sound, within_whole}
use Rattle.rpl_core.proofs.order.calls_are_rules.Goals as goal

pub returns : goal.returns
returns c =
    let n = length (rules_of c.args.rules.now) in
    let p = core_of c.args.peg.now in
    let same = c.calls_within.ensures ∙ ap (λ k. calls_only (λ r. nat_lt r k) p) c.len.ensures.count in
    (λ t. within_sound n p (sym same ∙ t), λ h. same ∙ within_whole n p h)
