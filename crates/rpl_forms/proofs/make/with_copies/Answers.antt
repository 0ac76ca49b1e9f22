use Rattle.std.proofs.Common.{ap}
use Rattle.rpl_core.specs.Core as C
use Rattle.rpl_core.specs.View.{core_of, cores, listed}
use Rattle.rpl_forms.specs.Forms as F
use Rattle.rpl_forms.proofs.Joins.{two_more}
use Rattle.rpl_forms.proofs.make.with_copies.Goals as goal

pub returns : goal.returns
returns c =
    two_more (cores (listed c.new-parts.result)) _ _ (C.Then (core_of c.args.first) C.NoMore)
    (F.copies c.args.number (core_of c.args.next.now) C.NoMore) (ap cores c.new-parts.ensures) c.in_ok-append.ensures
    c.in_ok-append_copies.ensures
