use Rattle.std.specs.Prelude.{encode_utf8_all}
use Rattle.rpl_syntax.specs.Modules.{said}
use Rattle.rpl_package.specs.Asking.{at_once}
use Rattle.rpl_names.specs.Loading.{world}
use Rattle.rpl_names.specs.Roots.{root_text}
use Rattle.rpl_names.specs.Stocks.{state_seen}
use Rattle.rpl_names.specs.Texts.{module_text}
use Rattle.rpl_package.proofs.Outcomes.{may, may_then, passed_on, then_follows, there, told_lead}
use Rattle.rpl_package.proofs.Outcomes.{walks_lead}
use Rattle.rpl_package.proofs.rooted.enter_given.Goals as goal

pub returns-in_err-said-clause-gives : goal.returns-in_err-said-clause-gives
returns-in_err-said-clause-gives g c = λ told.
    let W = world (g.F.Source.tree c.args.files.now) c.args.importer.folders.now in
    let s0 = state_seen c.args.state.now.stock c.args.state.now.own in
    let r = module_text c.args.importer.file.now (encode_utf8_all c.args.text.now) in
    let s = c.in_err-said.field-0.0 in
    passed_on _ c.from_residual.result s _ c.from_residual.ensures.1
    (may_then s (at_once r) (λ t. root_text W c.args.importer.file.now t t.name s0)
    (may s r c.in_err-said.ensures.gives))

pub returns-clause-gives : goal.returns-clause-gives
returns-clause-gives g c = λ told.
    let W = world (g.F.Source.tree c.args.files.now) c.args.importer.folders.now in
    let s0 = state_seen c.args.state.now.stock c.args.state.now.own in
    let r = module_text c.args.importer.file.now (encode_utf8_all c.args.text.now) in
    let led = then_follows (at_once r) (said c.in_ok-said.said) (λ t. root_text W c.args.importer.file.now t t.name s0)
    (there _ r c.in_ok-said.ensures.gives) in
    walks_lead _ _ c.enter_root.result _ _ led (c.enter_root.ensures.gives (told_lead g.F.Source.tells _ _ led told))
