use Rattle.std.proofs.Common.{sym, ap, ◌∙◌, subst}
use Rattle.std.specs.Prelude.{false, Ok}
use Rattle.rpl_safe.specs.inside.Marks.{PutsAll, PlacesAll, given_of}
use Rattle.rpl_safe.proofs.Placing.{one_puts, both_put, second_clashes}
use Rattle.rpl_safe.proofs.finding.MarkSearch.put_all.Goals as goal

pub returns-in-To : goal.returns-in-To
returns-in-To c = subst (λ x. PutsAll (given_of x) c.args.self.now c.put.new.self c.put.result) (sym c.in-To.is)
    (one_puts c.in-To.address c.in-To.mark c.args.self.now c.put.new.self c.put.result c.put.ensures)

pub returns-then-not-branch : goal.returns-then-not-branch
returns-then-not-branch c =
    subst (λ x. PlacesAll (given_of x) c.args.self.now c.put-in-ToBoth.new.self false) (sym c.in-ToBoth.is)
    (second_clashes c.in-ToBoth.address c.in-ToBoth.other c.in-ToBoth.mark c.in-ToBoth.other_mark c.args.self.now
    c.put-in-ToBoth.new.self c.put-in-ToBoth.result (c.in_ok-put-in-ToBoth.was
    ∙ ap Ok c.if-not-branch.true) c.put-in-ToBoth.ensures)

pub returns-else-not-branch : goal.returns-else-not-branch
returns-else-not-branch c =
    subst (λ x. PutsAll (given_of x) c.args.self.now c.put-in-ToBoth-2.new.self c.put-in-ToBoth-2.result)
    (sym c.in-ToBoth.is)
    (both_put c.in-ToBoth.address c.in-ToBoth.other c.in-ToBoth.mark c.in-ToBoth.other_mark c.args.self.now
    c.put-in-ToBoth.new.self c.put-in-ToBoth-2.new.self c.put-in-ToBoth.result c.put-in-ToBoth-2.result
    (c.in_ok-put-in-ToBoth.was ∙ ap Ok c.if-not-branch.false) c.put-in-ToBoth.ensures c.put-in-ToBoth-2.ensures)
