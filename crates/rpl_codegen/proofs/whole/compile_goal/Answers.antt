use Rattle.std.proofs.Common.{◌≡◌, List, sym, ap, arith, refl}
use Rattle.rpl_core.specs.Instr.{Instr}
use Rattle.rpl_core.specs.Listed.{rules_of}
use Rattle.rpl_core.specs.Program.{instructions}
use Rattle.rpl_core.specs.Programs.{program}
use Rattle.rpl_core.specs.Table.{bodies_of}
use Rattle.rpl_core.specs.View.{core_of}
use Rattle.rpl_core.specs.Marked.{has}
use Rattle.rpl_intern.specs.Uses.{sets_in, labels_in}
use Rattle.rpl_intern.specs.Written.{Adds}
use Rattle.rpl_codegen.proofs.Finish.{finished, is_code, program_means, kept}
use Rattle.rpl_codegen.proofs.Jumps.{program_length}
use Rattle.rpl_codegen.proofs.whole.compile_goal.Goals.{After-drop-reached-2}
use Rattle.rpl_codegen.proofs.whole.compile_goal.Goals as goal

pub returns-then-size-gt-MAX_CODE-clause-too_long : goal.returns-then-size-gt-MAX_CODE-clause-too_long
returns-then-size-gt-MAX_CODE-clause-too_long c =
    let R = bodies_of (rules_of c.args.rules.now) in
    let g = core_of c.args.goal.now in
    let bs = c.in_ok-reached.reached in
    let m = has bs in
    let out = c.in_ok-layout.ensures.layout in
    λ e. (
      program m R g,
      is_code bs R g (program m R g) c.in_ok-reached.ensures refl,
      omega (arith, out.whole, program_length m R g, c.size.ensures, c.if-size-gt-MAX_CODE.true),
    )

pub program_of-requires : goal.program_of-requires
program_of-requires c =
    let R = bodies_of (rules_of c.args.rules.now) in
    let g = core_of c.args.goal.now in
    let d = c.new-draft.result in
    let d1 = c.emit_whole.new.draft in
    let adds = c.in_ok-emit_whole.ensures in
    (finished d d1 c.in_ok-reached.reached R g c.requires c.in_ok-reached.ensures c.new-draft.ensures.code adds).1

-- the program of the goal, and that the draft holds it
abbrev goal_code : After-drop-reached-2 → List Instr
goal_code c = program (has c.in_ok-reached.reached) (bodies_of (rules_of c.args.rules.now)) (core_of c.args.goal.now)

written : (c : After-drop-reached-2) → Adds c.new-draft.result c.emit_whole.new.draft (goal_code c)
written c = c.in_ok-emit_whole.ensures

means : (c : After-drop-reached-2) → instructions c.in_ok-program_of.field-0 ≡ goal_code c
means c =
    let d = c.emit_whole.new.draft in
    let e = c.in_ok-program_of.ensures in
    let is = finished c.new-draft.result d c.in_ok-reached.reached (bodies_of (rules_of c.args.rules.now))
    (core_of c.args.goal.now) c.requires c.in_ok-reached.ensures c.new-draft.ensures.code (written c) in
    program_means c.in_ok-program_of.field-0 d.code d.sets d.labels (goal_code c) e.code e.sets e.labels is.0

pub returns-clause-code : goal.returns-clause-code
returns-clause-code c =
    is_code c.in_ok-reached.reached (bodies_of (rules_of c.args.rules.now)) (core_of c.args.goal.now) _
    c.in_ok-reached.ensures (means c)

pub returns-clause-sets : goal.returns-clause-sets
returns-clause-sets c =
    let e = c.in_ok-program_of.ensures in
    let a = written c in
    kept (sets_in (goal_code c)) _ c.new-draft.result.sets c.emit_whole.new.draft.sets c.in_ok-program_of.field-0.sets
    (ap sets_in (sym (means c))) c.new-draft.ensures.sets (sym e.sets) a.sets

pub returns-clause-labels : goal.returns-clause-labels
returns-clause-labels c =
    let e = c.in_ok-program_of.ensures in
    let a = written c in
    kept (labels_in (goal_code c)) _ c.new-draft.result.labels c.emit_whole.new.draft.labels
    c.in_ok-program_of.field-0.labels (ap labels_in (sym (means c))) c.new-draft.ensures.labels (sym e.labels)
    a.labels
