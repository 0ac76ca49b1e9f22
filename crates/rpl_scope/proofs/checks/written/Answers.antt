use Rattle.std.proofs.Common.{◌++◌, ◌∷◌, [], ap, ap₂, sym, subst, ◌∙◌, ◌≡◌}
use Rattle.std.specs.Prelude.{IfOk, chars}
use Rattle.rpl_scope.specs.Bodies.{written}
use Rattle.rpl_scope.proofs.Characters.{dotted}
use Rattle.rpl_scope.proofs.checks.written.Goals as goal

pub returns-in_ok-push_str-in-Some : goal.returns-in_ok-push_str-in-Some
unfolding lib.Utf8.encode
returns-in_ok-push_str-in-Some c =
    let p = c.as_str.result.now in
    let n = c.as_str-in-Some.result.now in
    let bytes : c.deref.result.now ≡ (p ++ 46 ∷ []) ++ n = c.deref.ensures ∙ c.in_ok-push_str-in-Some.ensures.bytes
    ∙ ap (λ x. x ++ n) (c.in_ok-push-in-Some.ensures.bytes ∙ ap (λ x. x ++ 46 ∷ []) c.in_ok-text-in-Some.ensures.ok)
    in
    subst (λ x. IfOk c.from_str-in-Some.result (λ text. text ≡ x))
    (ap chars bytes ∙ dotted p n c.as_str.utf8 ∙ ap₂ (λ x y. x ++ 46 ∷ y) c.as_str.ensures c.as_str-in-Some.ensures
    ∙ sym (ap (λ x. written x c.args.name.now.name) c.in-Some.is))
    c.from_str-in-Some.ensures
