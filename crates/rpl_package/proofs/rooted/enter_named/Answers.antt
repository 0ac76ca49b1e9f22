use Rattle.std.proofs.Common.{◌∷◌, [], None, ap, sym, subst, ◌∙◌}
use Rattle.std.specs.Prelude.{Some, is_some}
use Rattle.rpl_syntax.specs.Modules.{said}
use Rattle.rpl_scope.specs.Packages.{first_of}
use Rattle.rpl_names.specs.Built.{Makes}
use Rattle.rpl_names.specs.Loading.{world}
use Rattle.rpl_names.specs.Roots.{top_head}
use Rattle.rpl_names.specs.Stocks.{state_seen, stock_seen}
use Rattle.rpl_names.proofs.Building.{none_of, roots_on}
use Rattle.rpl_scope.specs.declared.fault.Stop.TheVariants.{Memory}
use Rattle.rpl_package.proofs.Outcomes.{comes_as, out_first, out_last, passed_on, passed_out}
use Rattle.rpl_package.proofs.Rooting.{named_stops, named_taken}
use Rattle.rpl_names.proofs.Within.{taken_within}
use Rattle.rpl_package.proofs.rooted.enter_named.Goals as goal

pub returns-in_err-number-clause-gives : goal.returns-in_err-number-clause-gives
returns-in_err-number-clause-gives g c = λ told.
    let W = world (g.F.Source.tree c.args.files.now) c.args.importer.folders.now in
    let s0 = state_seen c.args.state.now.stock c.args.state.now.own in
    let free = ap is_some (sym c.get.ensures) ∙ sym c.is_some.ensures ∙ c.if-is_some.false in
    let s = c.in_err-number.field-0.0 in
    passed_on _ c.from_residual-in_err-number.result s _ c.from_residual-in_err-number.ensures.1
    (named_stops g.F.Source.tells W c.args.importer.file.now (said c.args.text.now) c.args.name.now s0
    c.args.state.now.stock.held.items c.in_ok-label.label free c.requires.held c.in_ok-label.ensures told s
    c.in_err-number.ensures.gives)

pub returns-clause-gives : goal.returns-clause-gives
returns-clause-gives g c = λ told.
    let W = world (g.F.Source.tree c.args.files.now) c.args.importer.folders.now in
    let s0 = state_seen c.args.state.now.stock c.args.state.now.own in
    let free = ap is_some (sym c.get.ensures) ∙ sym c.is_some.ensures ∙ c.if-is_some.false in
    let n = c.in_ok-number.number in
    let S = stock_seen c.load_own.new.stock in
    comes_as _ _ _ (ap (λ o. (Some n, record { stock = S; own = o })) (sym c.in_ok-put_prefix.ensures.ok))
    (named_taken g.F.Source.tells W c.args.importer.file.now (said c.args.text.now) c.args.name.now s0
    c.args.state.now.stock.held.items c.in_ok-label.label free c.requires.held c.in_ok-label.ensures told n S
    c.in_ok-number.ensures.gives)

pub returns-clause-built : goal.returns-clause-built
returns-clause-built g c =
    let q = c.args.name.now in
    let s0 = state_seen c.args.state.now.stock c.args.state.now.own in
    let made = c.in_ok-number.ensures.built in
    let u = made.0 in
    let free = ap is_some (sym c.get.ensures) ∙ sym c.is_some.ensures ∙ c.if-is_some.false in
    let makes = subst (λ l. Makes (top_head ∷ []) None l s0.stock u) c.in_ok-label.ensures
    (subst (λ h. Makes h None c.in_ok-label.label s0.stock u) c.requires.held made.1) in
    roots_on (top_head ∷ []) s0 u (state_seen c.load_own.new.stock c.put_prefix.new.own) (said c.args.text.now) q
    c.in_ok-number.number c.requires.said c.requires.name
    (none_of (first_of q.name s0.own.prefixes) free) makes (ap (λ r. r.0) made.2) (ap (λ r. r.1) made.2)
    c.in_ok-put_prefix.ensures.ok

pub returns-clause-within : goal.returns-clause-within
returns-clause-within g c =
    let made = c.in_ok-number.ensures.built in
    taken_within c.load_own.new.stock made.0 c.in_ok-number.number made.2

pub returns-in_err-label-clause-gives : goal.returns-in_err-label-clause-gives
returns-in_err-label-clause-gives g c = λ told.
    passed_on _ c.from_residual-in_err-label.result Memory _ c.from_residual-in_err-label.ensures.1 (out_first _)

pub returns-in_err-put_prefix-clause-gives : goal.returns-in_err-put_prefix-clause-gives
returns-in_err-put_prefix-clause-gives g c = λ told.
    let W = world (g.F.Source.tree c.args.files.now) c.args.importer.folders.now in
    let s0 = state_seen c.args.state.now.stock c.args.state.now.own in
    let free = ap is_some (sym c.get.ensures) ∙ sym c.is_some.ensures ∙ c.if-is_some.false in
    passed_out _ c.from_residual-in_err-put_prefix.result c.in_err-put_prefix.field-0.0 _
    c.from_residual-in_err-put_prefix.ensures.1 c.in_err-put_prefix.ensures.err
    (out_last _ _ (named_taken g.F.Source.tells W c.args.importer.file.now (said c.args.text.now) c.args.name.now s0
    c.args.state.now.stock.held.items c.in_ok-label.label free c.requires.held c.in_ok-label.ensures told
    c.in_ok-number.number (stock_seen c.load_own.new.stock) c.in_ok-number.ensures.gives))
