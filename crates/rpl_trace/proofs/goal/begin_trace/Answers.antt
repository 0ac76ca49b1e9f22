use Rattle.std.proofs.Common.{ℕ, List, ap, ◌∙◌, arith}
use Rattle.rpl_check.specs.Goal.{peg_of}
use Rattle.rpl_core.specs.Listed.{rules_of}
use Rattle.rpl_core.specs.Outcome.{outcome, work_of}
use Rattle.rpl_core.specs.Table.{bodies_of, names_of}
use Rattle.rpl_core.specs.View.{core_of}
use Rattle.rpl_core.specs.declared.rules.Rule.{Rule}
use Rattle.rpl_text.specs.Seen.{text_of}
use Rattle.rpl_trace.specs.Evaluations.{Evaluations, ending}
use Rattle.rpl_trace.specs.Printed.{printed}
use Rattle.rpl_trace.specs.Traces.{ending_place}
use Rattle.rpl_trace.specs.inside.Lines.{Row, rows_text}
use Rattle.rpl_trace.specs.declared.event.End.TheVariants as E
use Rattle.rpl_trace.specs.inside.Steps.{Comes, state_of}
use Rattle.rpl_trace.proofs.Rows.{lines_same, rows_printed}
use Rattle.rpl_trace.proofs.States.{stands_more}
use Rattle.rpl_trace.proofs.Whole.{Goal, own, own_made, goal_at, started, first_place, fresh_stands, limit_is}
use Rattle.rpl_trace.proofs.Whole.{memory_alone, too_long}
use Rattle.rpl_trace.proofs.goal.begin_trace.Goals.{After-drop-tracer-2}
use Rattle.rpl_trace.proofs.goal.begin_trace.Goals as goal

pub finish-requires-clause-start : goal.finish-requires-clause-start
finish-requires-clause-start c = first_place (text_of c.args.text)

pub finish-requires-clause-stands : goal.finish-requires-clause-stands
finish-requires-clause-stands c =
    let t = text_of c.args.text in
    stands_more t (state_of c.new-tracer.result) (state_of c.push.new.self) _ c.in_ok-push.ensures tt
    (fresh_stands t c.args.limit (state_of c.new-tracer.result) c.new-tracer.ensures)

pub returns-in_err-push-clause-refused : goal.returns-in_err-push-clause-refused
returns-in_err-push-clause-refused c = memory_alone _ c.from_residual.result c.from_residual.ensures.1

pub returns-in_err-lines-clause-refused : goal.returns-in_err-lines-clause-refused
returns-in_err-lines-clause-refused c =
    memory_alone _ c.from_residual-in_err-lines.result c.from_residual-in_err-lines.ensures.1

pub returns-in_err-end-clause-refused : goal.returns-in_err-end-clause-refused
returns-in_err-end-clause-refused c =
    let cs = c.args.checked.now in
    let R = bodies_of cs in
    let g = core_of (peg_of c.args.goal.now) in
    let t = text_of c.args.text in
    let q = goal_at R g t (c.requires t) in
    let o = ending (own R g t) in
    let f = own_made R g t in
    let starts = started (rules_of c.rules-rules.result.now) cs c.peg.result (peg_of c.args.goal.now) t c.args.limit
    (state_of c.new-tracer.result) (state_of c.push.new.self) c.rules-rules.ensures c.peg.ensures c.new-tracer.ensures
    c.in_ok-push.ensures q in
    too_long (bodies_of (rules_of c.rules-rules.result.now)) t o f (state_of c.push.new.self) c.args.limit
    (work_of (outcome R g t)) c.in_err-end.field-0.0 c.from_residual-in_err-end.result
    (limit_is _ c.args.limit (state_of c.new-tracer.result) (state_of c.push.new.self) c.new-tracer.ensures
    c.in_ok-push.ensures) q.work starts c.in_err-end.ensures.refused c.from_residual-in_err-end.ensures.1

-- the goal's own evaluations, which the tracer made
goal_here : (c : After-drop-tracer-2)
    → Goal (bodies_of c.args.checked.now) (core_of (peg_of c.args.goal.now)) (text_of c.args.text)
goal_here c = goal_at (bodies_of c.args.checked.now) (core_of (peg_of c.args.goal.now)) (text_of c.args.text)
    (c.requires (text_of c.args.text))

abbrev evaluated : After-drop-tracer-2 → Evaluations
evaluated c = own_made (bodies_of c.args.checked.now) (core_of (peg_of c.args.goal.now)) (text_of c.args.text)

starts : (c : After-drop-tracer-2)
    → Comes (bodies_of (rules_of c.rules-rules.result.now)) (text_of c.args.text)
    (ending (own (bodies_of c.args.checked.now) (core_of (peg_of c.args.goal.now)) (text_of c.args.text))) (evaluated c)
    (state_of c.push.new.self) (E.At 0)
starts c = started (rules_of c.rules-rules.result.now) c.args.checked.now c.peg.result (peg_of c.args.goal.now)
    (text_of c.args.text) c.args.limit (state_of c.new-tracer.result) (state_of c.push.new.self) c.rules-rules.ensures
    c.peg.ensures c.new-tracer.ensures c.in_ok-push.ensures (goal_here c)

pub returns-clause-printed : goal.returns-clause-printed
returns-clause-printed c =
    let cs = c.args.checked.now in
    let t = text_of c.args.text in
    let q = goal_here c in
    let f = evaluated c in
    let done = c.in_ok-end.ensures.done _ f (starts c) in
    let stands = c.in_ok-end.ensures.stands in
    let N : List Rule → List ℕ = λ rs. printed (names_of rs) t 0 f in
    let names = names_of (rules_of c.rules-rules.result.now) in
    c.new.ensures ∙ lines_same names t _ (c.in_ok-lines.ensures.stand t f stands.0.events done.made)
    ∙ ap (λ (xs : List Row). rows_text names t xs) (c.in_ok-lines.ensures.rows t f stands.0.events done.made)
    ∙ rows_printed names t 0 f ∙ ap N c.rules-rules.ensures ∙ ap (printed (names_of cs) t 0) q.made

pub returns-clause-end : goal.returns-clause-end
returns-clause-end c =
    let t = text_of c.args.text in
    let q = goal_here c in
    let done = c.in_ok-end.ensures.done _ (evaluated c) (starts c) in
    c.place_of.ensures t c.in_ok-end.ensures.stands.1 ∙ ap (ending_place t) done.ending ∙ q.place

pub returns-clause-within : goal.returns-clause-within
returns-clause-within c =
    let q = goal_here c in
    let done = c.in_ok-end.ensures.done _ (evaluated c) (starts c) in
    let stands = c.in_ok-end.ensures.stands in
    let limit = limit_is _ c.args.limit (state_of c.new-tracer.result) (state_of c.push.new.self) c.new-tracer.ensures
    c.in_ok-push.ensures in
    omega (arith, q.work, done.spent, stands.0.within, c.in_ok-end.ensures.limit, limit)
