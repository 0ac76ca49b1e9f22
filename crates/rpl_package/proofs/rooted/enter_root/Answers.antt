use Rattle.std.proofs.Common.{◌+◌, ◌≤◌, ◌∷◌, [], ap, arith, length, sym}
use Rattle.std.proofs.lemmas.Bool.Decides.{nat_tests}
use Rattle.std.proofs.lemmas.List.{length-map}
use Rattle.std.specs.Prelude.{Ok, None}
use Rattle.rpl_syntax.specs.Modules.{said}
use Rattle.rpl_package.specs.Asking.{at_once}
use Rattle.rpl_names.specs.Loading.{world, walk, checks}
use Rattle.rpl_names.specs.Roots.{root_text, top_head}
use Rattle.rpl_names.specs.Stocks.{state_seen}
use Rattle.rpl_scope.specs.Seen.{module_seen}
use Rattle.rpl_package.proofs.Outcomes.{comes_lead, made_of, passed_on, same, may_lead, may_then, told_lead, told_then}
use Rattle.rpl_package.proofs.Rooting.{root_full}
use Rattle.rpl_package.proofs.rooted.enter_root.Goals as goal

pub returns-in_err-load_text-in-None-clause-gives : goal.returns-in_err-load_text-in-None-clause-gives
returns-in_err-load_text-in-None-clause-gives g c = λ told.
    let W = world (g.F.Source.tree c.args.files.now) c.args.importer.folders.now in
    let f = c.args.importer.file.now in
    let m = said c.args.text.now in
    let s0 = state_seen c.args.state.now.stock c.args.state.now.own in
    let s = c.in_err-load_text-in-None.field-0.0 in
    let K = g.F.Source.tells in
    let text = checks W (walk W 1024) (top_head ∷ []) f m s0 in
    let led = same _ _ (sym (ap (λ n. root_text W f m n s0) c.in-None.is)) in
    let moved = same _ _ (ap (λ h. checks W (walk W 1024) h f m s0) c.requires.held) in
    let front = told_then K text (λ u. at_once (Ok (None, u))) (told_lead K _ _ led told) in
    passed_on _ c.from_residual.result s _ c.from_residual.ensures.1
    (may_lead s _ _ led
    (may_then s text (λ u. at_once (Ok (None, u)))
    (may_lead s _ _ moved (c.in_err-load_text-in-None.ensures.gives (told_lead K _ _ moved front)))))

pub returns-in_ok-load_text-in-None-clause-gives : goal.returns-in_ok-load_text-in-None-clause-gives
returns-in_ok-load_text-in-None-clause-gives g c = λ told.
    let W = world (g.F.Source.tree c.args.files.now) c.args.importer.folders.now in
    let f = c.args.importer.file.now in
    let m = said c.args.text.now in
    let s0 = state_seen c.args.state.now.stock c.args.state.now.own in
    let K = g.F.Source.tells in
    let led = same _ _ (sym (ap (λ n. root_text W f m n s0) c.in-None.is)) in
    let moved = same _ _ (ap (λ h. checks W (walk W 1024) h f m s0) c.requires.held) in
    let front = told_then K (checks W (walk W 1024) (top_head ∷ []) f m s0) (λ u. at_once (Ok (None, u)))
    (told_lead K _ _ led told) in
    comes_lead _ _ _ led (made_of _ (checks W (walk W 1024) (top_head ∷ []) f m s0) (λ u. (None, u))
    (comes_lead _ _ _ moved (c.in_ok-load_text-in-None.ensures.gives (told_lead K _ _ moved front))))

pub returns-then-len-ge-MAX_MODULES-clause-gives : goal.returns-then-len-ge-MAX_MODULES-clause-gives
returns-then-len-ge-MAX_MODULES-clause-gives g c = λ told.
    let W = world (g.F.Source.tree c.args.files.now) c.args.importer.folders.now in
    let s0 = state_seen c.args.state.now.stock c.args.state.now.own in
    let count = length-map c.args.state.now.stock.modules.items module_seen in
    let full : 1024 ≤ length s0.stock.modules + 1 =
    omega (arith, count, c.len.ensures, c.if-len-ge-MAX_MODULES.true) in
    root_full W c.args.importer.file.now (said c.args.text.now) c.in-Some.name _ s0 c.fault_at.result c.in-Some.is
    (grind (arith, nat_tests, full)) c.fault_at.ensures
