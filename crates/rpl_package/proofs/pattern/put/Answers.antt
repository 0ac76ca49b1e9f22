use Rattle.std.proofs.Common.{arith, ◌<◌, length, refl, ap, sym, subst, ◌∙◌}
use Rattle.std.specs.Prelude.{Ok, slice_set}
use Rattle.rpl_scope.specs.Faults.{StopIs, ◌>>=◌}
use Rattle.rpl_scope.specs.Imports.{add_prefix}
use Rattle.rpl_scope.specs.Seen.{module_seen, modules_seen}
use Rattle.rpl_scope.proofs.Stops.{stops}
use Rattle.rpl_names.specs.Patterns.{put_by, with_module}
use Rattle.rpl_names.specs.Stocks.{stock_seen}
use Rattle.rpl_names.proofs.Numbering.{nth_seen}
use Rattle.rpl_package.proofs.Placing.{seen_set, seen_none, stock, extends, cuts_put, cuts_is, replaced_same}
use Rattle.rpl_package.proofs.pattern.put.Goals as goal

pub returns-in-Ok-clause-gives : goal.returns-in-Ok-clause-gives
returns-in-Ok-clause-gives c =
    let S = stock_seen c.args.stock.now in
    let ms = c.args.stock.now.modules.items in
    let i = c.args.top in
    let lt : i < length ms = omega (arith, c.in-Some.ensures.variant.0 refl, c.args.stock.now.modules.ok.0) in
    let there = nth_seen ms i c.in-Some.own.now lt c.in-Some.ensures.value in
    ap (put_by c.args.importer.file.now c.args.import.now c.args.number i S) there
    ∙ ap (λ r. r >>= λ n. Ok (with_module S i n)) c.in-Ok.ensures.gives
    ∙ ap (λ l. Ok (stock l S.paths S.labels)) (sym (seen_set ms i c.add_prefix.new.own))

pub returns-in-Ok-clause-kept : goal.returns-in-Ok-clause-kept
returns-in-Ok-clause-kept c = λ a h.
    let S = stock_seen c.args.stock.now in
    let ms = c.args.stock.now.modules.items in
    let i = c.args.top in
    let e = c.args.import.now in
    let lt : i < length ms = omega (arith, c.in-Some.ensures.variant.0 refl, c.args.stock.now.modules.ok.0) in
    let m0 = module_seen c.in-Some.own.now in
    let m1 = module_seen c.add_prefix.new.own in
    let there = nth_seen ms i c.in-Some.own.now lt c.in-Some.ensures.value in
    cuts_is i a (with_module S i m1) _
    (cuts_put i a S m0 m1 h there (extends c.args.importer.file.now e.at e.path c.args.number m0 m1
    c.in-Ok.ensures.gives))
    (ap (λ l. stock l S.paths S.labels) (seen_set ms i c.add_prefix.new.own))

pub returns-in-Err-clause-gives : goal.returns-in-Err-clause-gives
returns-in-Err-clause-gives c =
    let S = stock_seen c.args.stock.now in
    let ms = c.args.stock.now.modules.items in
    let i = c.args.top in
    let lt : i < length ms = omega (arith, c.in-Some.ensures.variant.0 refl, c.args.stock.now.modules.ok.0) in
    let m0 = module_seen c.in-Some.own.now in
    let there = nth_seen ms i c.in-Some.own.now lt c.in-Some.ensures.value in
    subst (λ x. StopIs c.in-Err.stop (put_by c.args.importer.file.now c.args.import.now c.args.number i S x))
    (sym there)
    (stops c.in-Err.stop (add_prefix c.args.importer.file.now c.args.import.now.at c.args.import.now.path c.args.number
    m0) (λ n. Ok (with_module S i n)) c.in-Err.ensures.gives)

pub returns-in-Err-clause-kept : goal.returns-in-Err-clause-kept
returns-in-Err-clause-kept c = λ a h.
    let S = stock_seen c.args.stock.now in
    let ms = c.args.stock.now.modules.items in
    let i = c.args.top in
    let lt : i < length ms = omega (arith, c.in-Some.ensures.variant.0 refl, c.args.stock.now.modules.ok.0) in
    let there = nth_seen ms i c.in-Some.own.now lt c.in-Some.ensures.value in
    cuts_is i a S _ h
    (ap (λ l. stock l S.paths S.labels) (seen_set ms i c.add_prefix.new.own
    ∙ ap (slice_set (modules_seen ms) i) c.in-Err.ensures.kept ∙ replaced_same (modules_seen ms) i _ there))

pub returns-in-None-clause-gives : goal.returns-in-None-clause-gives
returns-in-None-clause-gives c =
    let S = stock_seen c.args.stock.now in
    let ms = c.args.stock.now.modules.items in
    let o = c.args.stock.now.modules.ok.0 in
    ap (put_by c.args.importer.file.now c.args.import.now c.args.number c.args.top S)
    (seen_none ms c.args.top (λ lt. absurd (let e = c.in-None.ensures.variant.1 (omega (arith, lt, o)) in cc)))
