use Rattle.std.proofs.Common.{◌++◌, ◌∷◌, ap, ap₂, subst, ◌∙◌, ◌≡◌}
use Rattle.std.specs.Prelude.{IfOk, chars, codes}
use Rattle.rpl_scope.proofs.Characters.{placed}
use Rattle.rpl_package.proofs.locate.file_in.Goals as goal

pub returns : goal.returns
returns c =
    let d = c.as_str.result.now in
    let p = c.as_str-2.result.now in
    let bytes : c.deref.result.now ≡ ((d ++ codes "/") ++ p) ++ codes ".rpl" =
    c.deref.ensures ∙ c.in_ok-push_str-3.ensures.bytes
    ∙ ap (λ x. x ++ codes ".rpl") (c.in_ok-push_str-2.ensures.bytes
    ∙ ap (λ x. x ++ p) (c.in_ok-push_str.ensures.bytes ∙ ap (λ x. x ++ codes "/") c.in_ok-text.ensures.ok)) in
    subst (λ x. IfOk c.from_str-2.result (λ file. file ≡ x))
    (ap chars bytes ∙ placed d p c.as_str.utf8 c.as_str-2.utf8
    ∙ ap₂ (λ x y. x ++ 47 ∷ (y ++ codes ".rpl")) c.as_str.ensures c.as_str-2.ensures)
    c.from_str-2.ensures
