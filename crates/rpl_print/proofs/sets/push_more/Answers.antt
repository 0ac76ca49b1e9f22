use Rattle.rpl_print.proofs.Behind.{same_before, added_before, then_before}
use Rattle.rpl_print.proofs.sets.push_more.Goals as goal

pub returns-in_err-push-clause-stays : goal.returns-in_err-push-clause-stays
returns-in_err-push-clause-stays c =
    then_before _ _ _ c.loop-range.invariant.stays (same_before _ _ c.in_err-push.ensures.bytes)

pub returns-in_err-push_range-clause-stays : goal.returns-in_err-push_range-clause-stays
returns-in_err-push_range-clause-stays c =
    then_before _ _ _ c.loop-range.invariant.stays (then_before _ _ _ (added_before _ _ _ c.in_ok-push.ensures.bytes)
    c.push_range.ensures.stays)
