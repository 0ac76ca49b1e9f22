use Rattle.std.proofs.Common.{Ok, subst, arith}
use Rattle.std.specs.Prelude.{chars, nat_eq}
use Rattle.rpl_classes.specs.inside.Scanned.{StepsList}
use Rattle.rpl_classes.proofs.Steps.{place_le}
use Rattle.rpl_classes.proofs.lists.each_at.Goals as goal

pub loop-ranges-smaller : goal.loop-ranges-smaller
loop-ranges-smaller c =
    let h = subst (λ m. StepsList (chars c.args.text.now) c.loop-ranges.at (nat_eq c.loop-ranges.at c.args.place)
    (Ok (m, c.in_ok-member.next))) c.in-Some.is c.in_ok-member.ensures in
    omega (arith, place_le c.args.text.now c.in_ok-member.next c.utf8.text h.1, h.2)
