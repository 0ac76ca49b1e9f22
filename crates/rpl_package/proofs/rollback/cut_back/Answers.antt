use Rattle.std.proofs.Common.{sym, ap, ◌∙◌}
use Rattle.std.proofs.lemmas.List.{take-map}
use Rattle.rpl_scope.specs.Seen.{module_seen, modules_seen}
use Rattle.rpl_package.specs.inside.Kept.{with_shortened}
use Rattle.rpl_package.proofs.Placing.{stock_is}
use Rattle.rpl_package.proofs.rollback.cut_back.Goals as goal

pub returns-clause-stock : goal.returns-clause-stock
returns-clause-stock c =
    let k = c.args.marks in
    let i = c.args.top in
    let ms = c.args.stock.now.modules.items in
    stock_is _ _ _ _ _ _
    (c.shorten.ensures ∙ ap (λ l. with_shortened i k.prefixes (modules_seen l)) c.truncate.ensures.items
    ∙ ap (with_shortened i k.prefixes) (sym (take-map module_seen k.modules ms)))
    c.truncate-2.ensures c.truncate-3.ensures
