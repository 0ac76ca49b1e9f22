use Rattle.rpl_lexer.proofs.Decoding.{pushed}
use Rattle.std.proofs.Common.{◌≡◌, [], ◌∷◌, ◌++◌, ap, sym, ◌∙◌, subst, true, false, arith}
use Rattle.std.specs.Prelude.{chars, nat_eq, if◌then◌else◌, IfOk}
use Rattle.std.specs.String.{string_bytes}
use Rattle.std.proofs.lemmas.Bool.Decides.{nat_tests}
use Rattle.std.proofs.lemmas.Iterator.{YieldsList-from_chars}
use Rattle.std.proofs.lemmas.Iterator.Consumers.{YieldsList-end}
use Rattle.std.proofs.lemmas.List.{map-id}
use Rattle.std.proofs.lemmas.Str.{chars-nil, IsUtf8-string_bytes}
use Rattle.rpl_scope.specs.Imports.{last_part}
use Rattle.rpl_scope.proofs.Paths.{last_more}
use Rattle.rpl_scope.proofs.imports.last_part.Goals as goal

pub loop-c-init : goal.loop-c-init
loop-c-init c = ap chars c.new-last.ensures.bytes ∙ chars-nil

pub loop-c-preserved-then-c-eq47 : goal.loop-c-preserved-then-c-eq47
loop-c-preserved-then-c-eq47 c =
    let slash : nat_eq c.in-Some.c 47 ≡ true = grind (arith, nat_tests) in
    ap chars c.clear.ensures.bytes ∙ chars-nil
    ∙ sym (last_more [] c.loop-c.yielded c.in-Some.c
    ∙ ap (λ b. if b then [] else last_part [] c.loop-c.yielded ++ c.in-Some.c ∷ []) slash)

pub loop-c-preserved : goal.loop-c-preserved
loop-c-preserved c =
    let other : nat_eq c.in-Some.c 47 ≡ false = grind (arith, nat_tests) in
    pushed (string_bytes c.loop-c.last) (string_bytes c.push.new.self) c.in-Some.c (IsUtf8-string_bytes c.loop-c.last)
    (IsUtf8-string_bytes c.push.new.self) c.in_ok-push.ensures.bytes
    ∙ ap (λ x. x ++ c.in-Some.c ∷ []) c.loop-c.invariant
    ∙ sym (last_more [] c.loop-c.yielded c.in-Some.c
    ∙ ap (λ b. if b then [] else last_part [] c.loop-c.yielded ++ c.in-Some.c ∷ []) other)

pub returns : goal.returns
returns c =
    let t = YieldsList-end (YieldsList-from_chars c.as_str.result.now c.as_str.utf8 cc) c.loop-c.yielded _
    c.loop-c.yielded_by _ _ c.in-None.is c.next.ensures.steps in
    subst (λ x. IfOk c.from_str.result (λ last. last ≡ x))
    (ap chars c.deref.ensures ∙ c.loop-c.invariant ∙ ap (last_part []) (sym (map-id c.loop-c.yielded) ∙ t.0
    ∙ c.as_str.ensures)) c.from_str.ensures
