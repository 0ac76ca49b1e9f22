use Rattle.std.proofs.Common.{◌∙◌, sym, arith, refl}
use Rattle.std.proofs.lemmas.List.{get_or_read}
use Rattle.std.specs.Prelude.{false}
use Rattle.rpl_check.proofs.Finding.{finds_one}
use Rattle.rpl_check.proofs.recursion.BlockSearch.find.Goals as goal

pub returns-in_ok-push : goal.returns-in_ok-push
returns-in_ok-push c =
    let marks = c.args.self.now.marks.items in
    finds_one c.args.self.now _ c.args.rule (omega arith) (omega arith)
    (sym (get_or_read marks _ _ (omega arith) c.index.ensures false)
    ∙ c.if-not-index.true) refl refl c.in_ok-push.ensures.items
