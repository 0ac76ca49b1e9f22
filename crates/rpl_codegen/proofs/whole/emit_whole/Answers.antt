use Rattle.std.proofs.Common.{ap, arith, length, refl}
use Rattle.std.proofs.lemmas.Result.{on_ok_weaker}
use Rattle.rpl_core.specs.Listed.{rules_of}
use Rattle.rpl_core.specs.Table.{bodies_of}
use Rattle.rpl_core.specs.View.{core_of}
use Rattle.rpl_codegen.specs.inside.Laid.{bodies_nodes}
use Rattle.rpl_core.specs.Marked.{has}
use Rattle.rpl_codegen.specs.inside.Nodes.{nodes_in}
use Rattle.rpl_codegen.specs.inside.Taken.{left}
use Rattle.rpl_codegen.specs.inside.Written.{address_of}
use Rattle.rpl_codegen.proofs.Finish.{compiled}
use Rattle.rpl_codegen.proofs.Lengths.{code_length}
use Rattle.rpl_codegen.proofs.Taking.{begins_all, begins_behind, begins_front}
use Rattle.rpl_codegen.proofs.whole.emit_whole.Goals as goal

pub emit-requires-clause-nodes : goal.emit-requires-clause-nodes
emit-requires-clause-nodes c =
    let bodies = bodies_nodes (has c.args.reached.numbers.now) (bodies_of (rules_of c.args.reached.rules.now)) 0 in
    begins_front (left c.args.nodes.now) (nodes_in (core_of c.args.goal.now)) bodies (begins_all _ _ c.requires.nodes)

pub put-requires : goal.put-requires
put-requires c =
    let e = c.in_ok-emit.ensures.code in
    record {
      room = omega (
        arith,
        c.requires.layout.whole,
        c.requires.room,
        e.long,
        ap length c.requires.empty,
        code_length (address_of c.args.layout.now) (core_of c.args.goal.now) (length c.args.draft.now.code),
      );
      plain = refl;
    }

pub emit_rules-requires-clause-room : goal.emit_rules-requires-clause-room
emit_rules-requires-clause-room c =
    let e = c.in_ok-emit.ensures.code in
    let f = c.in_ok-put.ensures.adds in
    omega (
      arith,
      c.requires.layout.whole,
      c.requires.room,
      e.long,
      f.long,
      ap length c.requires.empty,
      code_length (address_of c.args.layout.now) (core_of c.args.goal.now) (length c.args.draft.now.code),
    )

pub emit_rules-requires-clause-nodes : goal.emit_rules-requires-clause-nodes
emit_rules-requires-clause-nodes c =
    let bodies = bodies_nodes (has c.args.reached.numbers.now) (bodies_of (rules_of c.args.reached.rules.now)) 0 in
    begins_behind c.args.nodes.now c.emit.new.nodes (nodes_in (core_of c.args.goal.now)) bodies
    c.in_ok-emit.ensures.nodes (begins_all _ _ c.requires.nodes)

pub returns : goal.returns
returns c =
    let bs = c.args.reached.numbers.now in
    on_ok_weaker c.emit_rules.result (compiled c.args.draft.now c.emit.new.draft c.put.new.self c.emit_rules.new.draft
    c.args.layout.now bs bs bs (bodies_of (rules_of c.args.reached.rules.now)) (core_of c.args.goal.now) refl refl
    c.requires.layout c.requires.room c.requires.empty c.in_ok-emit.ensures.code c.in_ok-put.ensures.adds)
    c.emit_rules.ensures
