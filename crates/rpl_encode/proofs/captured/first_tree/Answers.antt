use Rattle.std.proofs.Common.{◌∷◌, Option, Some, None, ap, ◌∙◌}
use Rattle.std.specs.Prelude.{IfNone}
use Rattle.rpl_encode.proofs.FirstTrees.{first_begin, first_note, none_at_end, none_at_finish, none_unended}
use Rattle.rpl_encode.proofs.captured.first_tree.Goals as goal

if_none : {A P : Type 0} (r : Option A) → P → IfNone r P
if_none None p = p
if_none (Some x) p = tt

pub returns-in_err-first-clause-none : goal.returns-in_err-first-clause-none
returns-in_err-first-clause-none c =
    if_none c.from_residual.result (none_at_end c.args.captures.now c.in_err-first.ensures.none)

pub returns-in_err-end-in-Begin-clause-none : goal.returns-in_err-end-in-Begin-clause-none
returns-in_err-end-in-Begin-clause-none c =
    let rest = c.in_ok-first.rest.now in
    if_none c.from_residual-in_err-end-in-Begin.result
    (none_unended c.args.captures.now rest c.in-Begin.label c.in-Begin.place
    (c.in_ok-first.ensures.some ∙ ap (λ x. x ∷ rest) c.in-Begin.is) c.in_err-end-in-Begin.ensures.none)

pub returns-in_ok-end-in-Begin-clause-some : goal.returns-in_ok-end-in-Begin-clause-some
returns-in_ok-end-in-Begin-clause-some c =
    let rest = c.in_ok-first.rest.now in
    first_begin c.args.captures.now rest c.in_ok-end-in-Begin.after.now c.in-Begin.label c.in-Begin.place
    c.in_ok-end-in-Begin.end (c.in_ok-first.ensures.some ∙ ap (λ x. x ∷ rest) c.in-Begin.is)
    c.in_ok-end-in-Begin.ensures.some

pub returns-in-Finish-clause-none : goal.returns-in-Finish-clause-none
returns-in-Finish-clause-none c =
    let rest = c.in_ok-first.rest.now in
    none_at_finish c.args.captures.now rest c.in-Finish.place
    (c.in_ok-first.ensures.some ∙ ap (λ x. x ∷ rest) c.in-Finish.is)

pub returns-in-Note-clause-some : goal.returns-in-Note-clause-some
returns-in-Note-clause-some c =
    let rest = c.in_ok-first.rest.now in
    first_note c.args.captures.now rest c.in-Note.text c.in-Note.place
    (c.in_ok-first.ensures.some ∙ ap (λ x. x ∷ rest) c.in-Note.is)
