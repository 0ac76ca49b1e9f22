use Rattle.std.proofs.Common.{◌≡◌, ap}
use Rattle.std.specs.Prelude.{Ok}
use Rattle.rpl_syntax.specs.Modules.{said}
use Rattle.rpl_names.specs.Loading.{world}
use Rattle.rpl_names.specs.Roots.{root_text}
use Rattle.rpl_names.specs.Stocks.{state_seen}
use Rattle.rpl_names.specs.Texts.{module_text}
use Rattle.rpl_package.proofs.Outcomes.{passed_on, same, told_lead, walks_lead}
use Rattle.rpl_package.proofs.Rooting.{file_failed, file_led, file_missing, file_unread, root_tells}
use Rattle.rpl_package.proofs.rooted.enter_file.Goals as goal

pub returns-clause-gives : goal.returns-clause-gives
returns-clause-gives g c = λ told.
    let ds = c.args.folders.now in
    let W = world (g.F.Source.tree c.args.files.now) ds in
    let p = c.args.path.now in
    let s0 = state_seen c.args.state.now.stock c.args.state.now.own in
    let K = g.F.Source.tells in
    let found = rw c.in-Some.is at c.in_ok-read.ensures.found (root_tells K W p s0 told) in
    let m = said c.in_ok-said.said in
    let read : module_text p found.0 ≡ Ok m = c.in_ok-said.ensures.gives found.0 found.2 in
    let led = file_led W p s0 found.0 m found.1 read c.read_in.ensures.asked in
    let moved = same _ _ (ap (λ U. root_text (world U ds) p m m.name s0) c.read_in.ensures.files.tree) in
    walks_lead _ _ c.enter_root.result _ _ led
    (walks_lead _ _ c.enter_root.result _ _ moved
    (c.enter_root.ensures.gives (told_lead K _ _ moved (told_lead K _ _ led told))))

pub returns-in_err-read-clause-gives : goal.returns-in_err-read-clause-gives
returns-in_err-read-clause-gives g c = λ told.
    let W = world (g.F.Source.tree c.args.files.now) c.args.folders.now in
    let s = c.in_err-read.field-0.0 in
    passed_on _ c.from_residual.result s _ c.from_residual.ensures.1
    (file_failed W c.args.path.now (state_seen c.args.state.now.stock c.args.state.now.own) s
    c.in_err-read.ensures.quiet c.in_err-read.ensures.asks c.read_in.ensures.asked)

pub returns-in_err-said-clause-gives : goal.returns-in_err-said-clause-gives
returns-in_err-said-clause-gives g c = λ told.
    let W = world (g.F.Source.tree c.args.files.now) c.args.folders.now in
    let p = c.args.path.now in
    let s0 = state_seen c.args.state.now.stock c.args.state.now.own in
    let found = rw c.in-Some.is at c.in_ok-read.ensures.found (root_tells g.F.Source.tells W p s0 told) in
    let s = c.in_err-said.field-0.0 in
    passed_on _ c.from_residual-in_err-said.result s _ c.from_residual-in_err-said.ensures.1
    (file_unread W p s0 found.0 s found.1 (c.in_err-said.ensures.gives found.0 found.2) c.read_in.ensures.asked)

pub returns-in_default-clause-gives : goal.returns-in_default-clause-gives
returns-in_default-clause-gives g c = λ told.
    let W = world (g.F.Source.tree c.args.files.now) c.args.folders.now in
    let p = c.args.path.now in
    let s0 = state_seen c.args.state.now.stock c.args.state.now.own in
    let none = rw c.in_default.is at c.in_ok-read.ensures.found (root_tells g.F.Source.tells W p s0 told) in
    file_missing W p s0 c.fault_at.result none c.fault_at.ensures c.read_in.ensures.asked
