use Rattle.std.proofs.Common.{[], ap, sym}
use Rattle.std.specs.Prelude.{Ok}
use Rattle.rpl_package.specs.Asking.{at_once}
use Rattle.rpl_names.specs.Loading.{world}
use Rattle.rpl_package.proofs.Leaving.{passed}
use Rattle.rpl_names.specs.Roots.{begun, finish_set, load_roots}
use Rattle.rpl_package.proofs.Outcomes.{comes_lead, made_of, passed_on, same, may_lead, may_then, told_lead, told_then}
use Rattle.rpl_package.proofs.Outcomes.{walks_last}
use Rattle.rpl_package.proofs.loading.load_set.Goals as goal

pub returns-in_err-into-clause-files : goal.returns-in_err-into-clause-files
returns-in_err-into-clause-files g c =
    passed g.F.Source c.from_residual-in_err-into.result c.in_err-into.field-0.0 _ _
    c.from_residual-in_err-into.ensures.1 c.in_err-into.ensures.files

pub returns-in_err-into-clause-gives : goal.returns-in_err-into-clause-gives
returns-in_err-into-clause-gives g c = λ told.
    let W = world (g.F.Source.tree c.args.files.now) c.args.folders.now in
    let rs = c.args.roots.now in
    let s = c.in_err-into.field-0.0 in
    let led = same _ _ (ap (λ x. load_roots W rs (record { roots = []; state = x })) c.in_ok-state.ensures.state) in
    let front = told_then g.F.Source.tells (load_roots W rs begun) (λ x. at_once (Ok (finish_set x))) told in
    passed_on _ c.from_residual-in_err-into.result s _ c.from_residual-in_err-into.ensures.1
    (may_then s (load_roots W rs begun) (λ x. at_once (Ok (finish_set x)))
    (may_lead s _ _ led (c.in_err-into.ensures.gives (told_lead g.F.Source.tells _ _ led front))))

pub returns-clause-gives : goal.returns-clause-gives
returns-clause-gives g c = λ told.
    let W = world (g.F.Source.tree c.args.files.now) c.args.folders.now in
    let rs = c.args.roots.now in
    let led = same _ _ (ap (λ x. load_roots W rs (record { roots = []; state = x })) c.in_ok-state.ensures.state) in
    let front = told_then g.F.Source.tells (load_roots W rs begun) (λ x. at_once (Ok (finish_set x))) told in
    let made = comes_lead _ _ _ led (c.in_ok-into.ensures.gives (told_lead g.F.Source.tells _ _ led front)) in
    walks_last _ c.finish_set.result _ _ c.finish_set.ensures.memory (made_of _ (load_roots W rs begun) finish_set made)
    (λ s is. sym (rw is at c.finish_set.ensures.ok))
