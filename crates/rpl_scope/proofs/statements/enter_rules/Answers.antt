use Rattle.std.proofs.Common.{sym, subst, ap, ◌∙◌, true, false}
use Rattle.rpl_syntax.specs.Modules as S
use Rattle.rpl_scope.specs.Faults.{StopIs, Gives}
use Rattle.rpl_scope.specs.Seen.{module_seen}
use Rattle.rpl_scope.specs.Statements.{block_rules, rules_of, enter, enter_all}
use Rattle.rpl_scope.proofs.Stops.{passed_on, stops}
use Rattle.rpl_scope.proofs.Turns.{turn_append, then_gives}
use Rattle.rpl_scope.proofs.statements.enter_rules.Goals as goal

pub returns-in_err-enter_half-in-Block : goal.returns-in_err-enter_half-in-Block
returns-in_err-enter_half-in-Block c =
    let k = c.args.text.number in
    let n = c.args.start in
    let f = c.args.text.file.now in
    let m = module_seen c.args.own.now in
    let H = block_rules k n true (S.rules_of c.in-Block.hidden) in
    let V = block_rules k n false (S.rules_of c.in-Block.visible) in
    let s = c.in_err-enter_half-in-Block.field-0.0 in
    let stop = subst (λ bs. StopIs s (enter_all f (block_rules k n true (S.rules_of bs)) m)) c.as_slice.ensures
    c.in_err-enter_half-in-Block.ensures in
    passed_on _ c.from_residual-in_err-enter_half-in-Block.result c.in_err-enter_half-in-Block.field-0.0 _
    c.from_residual-in_err-enter_half-in-Block.ensures.1
    (subst (λ i. StopIs s (enter_all f (rules_of k n (S.entry_of i)) m)) (sym c.in-Block.is)
    (subst (StopIs s) (sym (turn_append (enter f) H V m)) (stops s (enter_all f H m) (enter_all f V) stop)))

pub returns-in_ok-enter_half-in-Block : goal.returns-in_ok-enter_half-in-Block
returns-in_ok-enter_half-in-Block c =
    let k = c.args.text.number in
    let n = c.args.start in
    let f = c.args.text.file.now in
    let m = module_seen c.args.own.now in
    let m1 = module_seen c.enter_half.new.own in
    let H = block_rules k n true (S.rules_of c.in-Block.hidden) in
    let V = block_rules k n false (S.rules_of c.in-Block.visible) in
    let given = Gives (λ _. module_seen c.enter_half-in-Block.new.own) c.enter_half-in-Block.result in
    let first = ap (λ bs. enter_all f (block_rules k n true (S.rules_of bs)) m) (sym c.as_slice.ensures)
    ∙ c.in_ok-enter_half-in-Block.ensures in
    let second = subst (λ bs. given (enter_all f (block_rules k n false (S.rules_of bs)) m1))
    c.as_slice-in-Block.ensures c.enter_half-in-Block.ensures in
    subst (λ i. given (enter_all f (rules_of k n (S.entry_of i)) m)) (sym c.in-Block.is)
    (subst given (sym (turn_append (enter f) H V m)) (then_gives _ c.enter_half-in-Block.result (enter_all f H m) m1
    (enter_all f V) first second))
