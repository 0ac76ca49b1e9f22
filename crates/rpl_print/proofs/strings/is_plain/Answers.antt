use Rattle.std.proofs.Common.{◌&&◌, ap, sym, ◌∙◌}
use Rattle.rpl_print.specs.Quoted.{is_plain}
use Rattle.rpl_print.proofs.Plain.{quoted_plain, next_chunk, split}
use Rattle.rpl_print.proofs.strings.is_plain.Goals as goal

pub loop-rest-preserved : goal.loop-rest-preserved
loop-rest-preserved c =
    ap (λ b. (c.loop-rest.is_all && b) && is_plain c.split_at.result.1.now) c.are_plain-is_all.ensures
    ∙ next_chunk c.loop-rest.is_all c.loop-rest.rest.now c.split_at.result.0.now c.split_at.result.1.now c.args.text.now
    (split c.loop-rest.rest.now _ _ 32 c.split_at.ensures.front c.split_at.ensures.back) c.loop-rest.invariant

pub returns-clause-itself : goal.returns-clause-itself
returns-clause-itself c =
    λ yes. quoted_plain c.args.text.now (sym (ap (λ b. c.loop-rest.is_all && b) c.is_plain_short.ensures
    ∙ c.loop-rest.invariant) ∙ yes)
