use Rattle.std.proofs.Common.{sym, ap, subst, arith, length, refl, [], ◌∷◌}
use Rattle.std.specs.Prelude.{true}
use Rattle.rpl_core.specs.Code as C
use Rattle.rpl_core.specs.Instr as I
use Rattle.rpl_core.specs.Listed.{rules_of}
use Rattle.rpl_core.specs.View.{core_of}
use Rattle.rpl_codegen.specs.inside.Laid.{body_len, rule_code, rule_nodes}
use Rattle.rpl_codegen.specs.inside.Taken.{left}
use Rattle.rpl_intern.specs.Written.{Adds}
use Rattle.rpl_codegen.specs.inside.Written.{address_of}
use Rattle.rpl_intern.proofs.Adding.{adds_then, adds_none}
use Rattle.rpl_codegen.proofs.Lengths.{code_length}
use Rattle.rpl_core.proofs.Search.{body_is, none_there}
use Rattle.rpl_codegen.proofs.Taking.{as_begins, as_taken, takes_none}
use Rattle.rpl_codegen.proofs.whole.emit_rule.Goals as goal

pub emit-requires-clause-room : goal.emit-requires-clause-room
emit-requires-clause-room c =
    let is = body_is (rules_of c.args.rules.now) c.args.number c.in-Some.rule.now c.in-Some.ensures in
    omega (arith, ap body_len is, c.requires.room)

pub put-requires : goal.put-requires
put-requires c =
    let rule = c.in-Some.rule.now in
    let is = body_is (rules_of c.args.rules.now) c.args.number rule c.in-Some.ensures in
    let e = c.in_ok-emit.ensures.code in
    record {
      room = omega (
        arith,
        ap body_len is,
        c.requires.room,
        e.long,
        code_length (address_of c.args.layout.now) (core_of rule.body) (length c.args.draft.now.code),
      );
      plain = refl;
    }

pub returns-in_ok-put-clause-code : goal.returns-in_ok-put-clause-code
returns-in_ok-put-clause-code c =
    let rule = c.in-Some.rule.now in
    let at = address_of c.args.layout.now in
    let d = c.args.draft.now in
    let d1 = c.put.new.self in
    let n = length d.code in
    let is = body_is (rules_of c.args.rules.now) c.args.number rule c.in-Some.ensures in
    subst (λ o. Adds d d1 (rule_code true at o n)) (sym is)
    (adds_then d c.emit.new.draft d1 (C.code at (core_of rule.body) n) (I.Return ∷ []) c.in_ok-emit.ensures.code
    c.in_ok-put.ensures.adds)

pub returns-in_default-clause-code : goal.returns-in_default-clause-code
returns-in_default-clause-code c =
    let at = address_of c.args.layout.now in
    let d = c.args.draft.now in
    let is = none_there (rules_of c.args.rules.now) c.args.number c.in_default.ensures in
    subst (λ o. Adds d d (rule_code true at o (length d.code))) (sym is) (adds_none d)

pub emit-requires-clause-nodes : goal.emit-requires-clause-nodes
emit-requires-clause-nodes c =
    let is = body_is (rules_of c.args.rules.now) c.args.number c.in-Some.rule.now c.in-Some.ensures in
    as_begins (left c.args.nodes.now) _ _ (ap (rule_nodes true) is) c.requires.nodes

pub returns-in_ok-put-clause-nodes : goal.returns-in_ok-put-clause-nodes
returns-in_ok-put-clause-nodes c =
    let is = body_is (rules_of c.args.rules.now) c.args.number c.in-Some.rule.now c.in-Some.ensures in
    as_taken c.args.nodes.now c.emit.new.nodes _ _ (sym (ap (rule_nodes true) is)) c.in_ok-emit.ensures.nodes

pub returns-in_default-clause-nodes : goal.returns-in_default-clause-nodes
returns-in_default-clause-nodes c =
    let is = none_there (rules_of c.args.rules.now) c.args.number c.in_default.ensures in
    let s = c.args.nodes.now in
    as_taken s s _ _ (sym (ap (rule_nodes true) is)) (takes_none s)
