use Rattle.std.proofs.Common.{◌≡◌, Option, Some, None, refl, sym, ap, subst, ◌∙◌}
use Rattle.std.specs.Prelude.{slice_get, IfOk}
use Rattle.std.specs.Option.{option_copied, option_map}
use Rattle.std.proofs.lemmas.Option.{slice_get-map}
use Rattle.std.proofs.lemmas.Result.{IfOk-weaker}
use Rattle.rpl_core.specs.Core.{Core}
use Rattle.rpl_core.specs.Listed.{rules_of}
use Rattle.rpl_core.specs.Table.{bodies_of}
use Rattle.rpl_core.specs.View.{core_of}
use Rattle.rpl_core.specs.declared.rules.Rule.{Rule}
use Rattle.rpl_trace.specs.inside.Steps.{Calls, state_of}
use Rattle.rpl_trace.proofs.tracer.Tracer.call.Goals as goal

pub returns-in-Some : goal.returns-in-Some
returns-in-Some c =
    let table = rules_of c.args.rules.now in
    let body = c.in-Some.rule.now.body in
    let found : slice_get (bodies_of table) c.args.rule ≡ Some (core_of body) =
    slice_get-map (λ (r : Rule). core_of r.body) table c.args.rule
    ∙ ap (option_map (λ (r : Rule). core_of r.body)) (sym c.get.ensures ∙ ap option_copied c.in-Some.is) in
    let P : Option Core → Type 0 =
    λ o. IfOk c.within.result (λ e. Calls o c.args.place (state_of c.args.self.now) e (state_of c.within.new.self)) in
    subst P (sym found) (IfOk-weaker c.within.result _ _ (λ e h. (_, refl, h.0, h.1)) c.within.ensures)

pub returns-in-None : goal.returns-in-None
returns-in-None c =
    let table = rules_of c.args.rules.now in
    let none : slice_get (bodies_of table) c.args.rule ≡ None =
    slice_get-map (λ (r : Rule). core_of r.body) table c.args.rule
    ∙ ap (option_map (λ (r : Rule). core_of r.body)) (sym c.get.ensures ∙ ap option_copied c.in-None.is) in
    let P : Option Core → Type 0 =
    λ o. IfOk c.close.result (λ e. Calls o c.args.place (state_of c.args.self.now) e (state_of c.close.new.self)) in
    subst P (sym none) (IfOk-weaker c.close.result _ _ (λ e h. (h.0, h.1)) c.close.ensures)
