use Rattle.std.proofs.Common.{rules, ◌≡◌, ◌++◌, ◌∷◌, [], ap, ap₂, sym, subst, ◌∙◌}
use Rattle.std.specs.Prelude.{IfOk, chars, codes, if◌then◌else◌}
use Rattle.std.proofs.lemmas.Str.{chars-IsAscii}
use Rattle.rpl_scope.proofs.Characters.{dotted, named_mark}
use Rattle.rpl_scope.proofs.Scopes.{empty, full}
use Rattle.rpl_names.specs.Tables.{full_name}
use Rattle.rpl_names.proofs.Rows.{named_fully}
use Rattle.rpl_names.proofs.table.full_name.Goals as goal

pub returns-then-eq : goal.returns-then-eq
returns-then-eq c =
    let label = c.args.label.now in
    let name = c.args.name.now in
    let none = empty c.as_str.result.now label c.as_str.ensures (sym c.is_empty.ensures ∙ c.if-is_empty.true) in
    let mark = sym (named_mark c.as_str-then-is_empty.result.now name c.as_str-then-is_empty.utf8
    c.as_str-then-is_empty.ensures) ∙ sym c.eq.ensures ∙ c.if-eq.true in
    subst (λ x. IfOk c.from_str.result (λ full. full ≡ x))
    (chars-IsAscii (codes "*.~") (search rules) ∙ sym (ap (λ b. if b then codes "*.~" else name) mark)
    ∙ sym (ap (λ l. full_name l name) none)) c.from_str.ensures

pub returns-then-is_empty : goal.returns-then-is_empty
returns-then-is_empty c =
    let label = c.args.label.now in
    let name = c.args.name.now in
    let none = empty c.as_str.result.now label c.as_str.ensures (sym c.is_empty.ensures ∙ c.if-is_empty.true) in
    let mark = sym (named_mark c.as_str-then-is_empty.result.now name c.as_str-then-is_empty.utf8
    c.as_str-then-is_empty.ensures) ∙ sym c.eq.ensures ∙ c.if-eq.false in
    subst (λ x. IfOk c.copy.result (λ full. full ≡ x))
    (sym (ap (λ b. if b then codes "*.~" else name) mark) ∙ sym (ap (λ l. full_name l name) none)) c.copy.ensures

pub returns : goal.returns
unfolding lib.Utf8.encode
returns c =
    let label = c.args.label.now in
    let p = c.as_str-2.result.now in
    let n = c.as_str-3.result.now in
    let some = full c.as_str.result.now label c.as_str.utf8 c.as_str.ensures (sym c.is_empty.ensures
    ∙ c.if-is_empty.false) in
    let bytes : c.deref.result.now ≡ (p ++ 46 ∷ []) ++ n = c.deref.ensures ∙ c.in_ok-push_str.ensures.bytes
    ∙ ap (λ x. x ++ n) (c.in_ok-push.ensures.bytes ∙ ap (λ x. x ++ 46 ∷ []) c.in_ok-text.ensures.ok) in
    subst (λ x. IfOk c.from_str-3.result (λ full. full ≡ x))
    (ap chars bytes ∙ dotted p n c.as_str-2.utf8 ∙ ap₂ (λ x y. x ++ 46 ∷ y) c.as_str-2.ensures c.as_str-3.ensures
    ∙ sym (named_fully label c.args.name.now some))
    c.from_str-3.ensures
