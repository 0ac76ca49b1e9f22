use Rattle.std.proofs.Common.{◌≡◌, ◌++◌, map, ap, sym, subst, ◌∙◌}
use Rattle.rpl_scope.specs.Bodies.{names_fault, macros_fault}
use Rattle.rpl_scope.specs.Faults.{StopIs, Gives, unless}
use Rattle.rpl_scope.specs.Seen.{module_seen, modules_seen, use_seen}
use Rattle.rpl_scope.specs.Statements.{names_of, uses_of}
use Rattle.rpl_scope.proofs.Checking.{both}
use Rattle.rpl_scope.proofs.Halves.{names_append, uses_append}
use Rattle.rpl_scope.proofs.Stops.{passed_on, stops}
use Rattle.rpl_scope.proofs.Turns.{then_gives}
use Rattle.rpl_syntax.specs.Modules as S
use Rattle.rpl_scope.proofs.statements.check_bodies.Goals as goal

pub returns-in_err-check_names : goal.returns-in_err-check_names
returns-in_err-check_names c =
    let H = S.rules_of c.args.hidden.now in
    let V = S.rules_of c.args.visible.now in
    let got : map (λ q. q.now) c.deref.result.now ≡ names_of (H ++ V) =
    ap (map (λ q. q.now)) c.deref.ensures.value ∙ c.in_ok-gather_names-2.ensures
    ∙ ap (λ x. x ++ names_of V) (c.in_ok-gather_names.ensures
    ∙ ap (λ x. map (λ q. q.now) x ++ names_of H) c.new-names.ensures.items) ∙ sym (names_append H V) in
    let check = names_fault c.args.file.now (modules_seen c.args.scope.modules.now) (module_seen c.args.scope.own.now)
    c.args.scope.start in
    let rest = macros_fault c.args.file.now (uses_of (H ++ V)) in
    let stop = subst (λ x. StopIs c.in_err-check_names.field-0.0 (unless (check x) (tt {0}))) got
    c.in_err-check_names.ensures in
    passed_on _ c.from_residual-in_err-check_names.result c.in_err-check_names.field-0.0 _
    c.from_residual-in_err-check_names.ensures.1
    (subst (StopIs c.in_err-check_names.field-0.0) (sym (both (check (names_of (H ++ V))) rest))
    (stops c.in_err-check_names.field-0.0 (unless (check (names_of (H ++ V))) (tt {0})) (λ _. unless rest (tt {0}))
    stop))

pub returns : goal.returns
returns c =
    let H = S.rules_of c.args.hidden.now in
    let V = S.rules_of c.args.visible.now in
    let got : map (λ q. q.now) c.deref.result.now ≡ names_of (H ++ V) =
    ap (map (λ q. q.now)) c.deref.ensures.value ∙ c.in_ok-gather_names-2.ensures
    ∙ ap (λ x. x ++ names_of V) (c.in_ok-gather_names.ensures
    ∙ ap (λ x. map (λ q. q.now) x ++ names_of H) c.new-names.ensures.items) ∙ sym (names_append H V) in
    let used : map use_seen c.deref-2.result.now ≡ uses_of (H ++ V) =
    ap (map use_seen) c.deref-2.ensures.value ∙ c.in_ok-gather_uses-2.ensures
    ∙ ap (λ x. x ++ uses_of V) (c.in_ok-gather_uses.ensures
    ∙ ap (λ x. map use_seen x ++ uses_of H) c.new-uses.ensures.items) ∙ sym (uses_append H V) in
    let check = names_fault c.args.file.now (modules_seen c.args.scope.modules.now) (module_seen c.args.scope.own.now)
    c.args.scope.start in
    let see = λ (x : Unit {0}). tt {0} in
    let rest = macros_fault c.args.file.now in
    let last = subst (λ x. Gives see c.check_macros.result (unless (rest x) (tt {0}))) used c.check_macros.ensures in
    subst (Gives see c.check_macros.result) (sym (both (check (names_of (H ++ V))) (rest (uses_of (H ++ V)))))
    (then_gives see c.check_macros.result (unless (check (names_of (H ++ V))) (tt {0})) (tt {0})
    (λ _. unless (rest (uses_of (H ++ V))) (tt {0}))
    (ap (λ x. unless (check x) (tt {0})) (sym got) ∙ c.in_ok-check_names.ensures) last)
