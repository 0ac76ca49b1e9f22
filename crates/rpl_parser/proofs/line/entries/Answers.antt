use Rattle.std.proofs.Common.{◌≡◌, ◌+◌, ◌-◌, suc, length, Some, sym, ap, subst, ◌∙◌, arith}
use Rattle.rpl_parser.specs.inside.Gives.{Gives}
use Rattle.rpl_parser.specs.Lines.{entries_of, all_of}
use Rattle.rpl_parser.proofs.Entries.{with_front, front_none, entries_step, entries_last}
use Rattle.rpl_parser.proofs.line.entries.Goals as goal

pub loop-init : goal.loop-init
loop-init c =
    let ts = c.args.tokens.now in
    let e : length ts + 1 - 0 ≡ suc (length ts) = omega arith in
    subst (λ f. with_front f (entries_of (length ts + 1 - 0) ts) ≡ entries_of (suc (length ts)) ts)
    (sym c.new-entries.ensures)
    (front_none (entries_of (length ts + 1 - 0) ts) ∙ ap (λ n. entries_of n ts) e)

pub loop-preserved : goal.loop-preserved
loop-preserved c =
    let ts = c.args.tokens.now in
    let n = length ts + 1 - c.loop.counter in
    let m = length ts + 1 - (c.loop.counter + 1) in
    let e : n ≡ suc m = omega arith in
    let next = c.in_ok-next.next in
    let k = c.in_ok-next.ensures ∙ ap (λ z. Some (next, z)) c.in-Some.ensures.some in
    subst (λ f. with_front f (entries_of m c.in-Some.others.now) ≡ entries_of (suc (length ts)) ts)
    (sym c.in_ok-push.ensures.ok)
    (sym (entries_step c.loop.entries n m c.loop.rest.now c.in-Some.others.now next e k) ∙ c.loop.invariant)

pub returns-in-None : goal.returns-in-None
returns-in-None c =
    let ts = c.args.tokens.now in
    let n = length ts + 1 - c.loop.counter in
    let m = length ts + 1 - (c.loop.counter + 1) in
    let e : n ≡ suc m = omega arith in
    let after = c.in_ok-next.after.now in
    let last = entries_last c.loop.entries n m c.loop.rest.now after c.in_ok-next.next e c.in_ok-next.ensures
    c.in-None.ensures.none in
    subst (λ o. Gives (λ x. x) c.ended.result o) (ap (λ f. all_of f after) c.in_ok-push.ensures.ok
    ∙ (sym last ∙ c.loop.invariant)) c.ended.ensures
