use Rattle.std.proofs.Common.{subst}
use Rattle.rpl_core.specs.Core.{Then}
use Rattle.rpl_forms.specs.Counting.{Adds}
use Rattle.rpl_expand.specs.inside.Items.{between}
use Rattle.rpl_expand.proofs.measure.add_item.Goals as goal

pub returns-then-alone : goal.returns-then-alone
returns-then-alone c = λ p b rest whole f g h.
    c.add-with_item.ensures p rest whole f
    (subst (λ a. Adds c.args.sum (Then p (between a b rest)) whole) c.if-alone.true h)

pub returns : goal.returns
returns c = λ p b rest whole f g h.
    c.add.ensures b rest whole g (c.add-with_item.ensures p (Then b rest) whole f
    (subst (λ a. Adds c.args.sum (Then p (between a b rest)) whole) c.if-alone.false h))
