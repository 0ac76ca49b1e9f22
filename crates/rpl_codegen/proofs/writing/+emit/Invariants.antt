use Rattle.std.proofs.Common.{◌≡◌, ℕ, ◌+◌, ◌-◌, ◌*◌, ◌≤◌, length, drop}
use Rattle.rpl_core.specs.Code as C
use Rattle.rpl_core.specs.View.{core_of, cores, listed}
use Rattle.rpl_core.specs.declared.peg.Peg.TheViews as V
use Rattle.rpl_intern.specs.declared.draft.Draft.{Draft}
use Rattle.rpl_codegen.specs.inside.Sizes.{len, len_all, len_first}
use Rattle.rpl_codegen.specs.inside.Nodes.{choice_nodes, inner_nodes, parts_nodes, behind_nodes, nodes_in}
use Rattle.rpl_codegen.specs.inside.Taken.{Begins, Takes, left}
use Rattle.rpl_codegen.specs.declared.size.Nodes.{Nodes}
use Rattle.rpl_intern.specs.Written.{Adds}
use Rattle.rpl_codegen.specs.inside.Written.{address_of}
use Rattle.rpl_codegen.proofs.Weights.{weight}
use Rattle.rpl_codegen.proofs.writing.+emit.Given as goal

abbrev pub invariant-emit_all-loop-parts : goal.invariant-emit_all-loop-parts
invariant-emit_all-loop-parts l =
    (k : ℕ) × (k ≤ length (listed l.row.parts.now))
    × (l.row.end ≡ length l.draft.code + len_all (cores (drop k (listed l.row.parts.now))))
    × ((x : Draft) → Adds l.draft x (C.code_all (address_of l.layout) (cores (drop k (listed l.row.parts.now)))
    (length l.draft.code))
    → Adds l.fn.draft x (C.code (address_of l.layout) (core_of (V.Seq l.row.parts.now)) (length l.fn.draft.code)))
    × Begins (left l.nodes) (parts_nodes k (cores (drop k (listed l.row.parts.now))))
    × ((x : Nodes) → Takes l.nodes x (parts_nodes k (cores (drop k (listed l.row.parts.now))))
    → Takes l.fn.nodes x (inner_nodes (core_of (V.Seq l.row.parts.now))))

abbrev pub decreases-emit_all-loop-parts : goal.decreases-emit_all-loop-parts
decreases-emit_all-loop-parts l = l.row.end - length l.draft.code

abbrev pub invariant-emit_first-loop-number : goal.invariant-emit_first-loop-number
invariant-emit_first-loop-number l =
    (l.row.end ≡ length l.draft.code + len_first (cores (drop l.number (listed l.row.parts.now))))
    × ((x : Draft) → Adds l.draft x (C.code_first (address_of l.layout) (cores (drop l.number (listed l.row.parts.now)))
    (length l.draft.code))
    → Adds l.fn.draft x (C.code (address_of l.layout) (core_of (V.Choice l.row.parts.now)) (length l.fn.draft.code)))
    × Begins (left l.nodes) (choice_nodes (cores (drop l.number (listed l.row.parts.now))))
    × ((x : Nodes) → Takes l.nodes x (choice_nodes (cores (drop l.number (listed l.row.parts.now))))
    → Takes l.fn.nodes x (inner_nodes (core_of (V.Choice l.row.parts.now))))

abbrev pub invariant-emit_behind-loop-back : goal.invariant-emit_behind-loop-back
invariant-emit_behind-loop-back l =
    (length l.draft.code + ((l.look.most + 1 - l.back) * (len (core_of l.look.body.now) + 3) + 1) ≤ 1048576)
    × ((x : Draft) → Adds l.draft x (C.lengths_code (C.code (address_of l.layout) (core_of l.look.body.now)) l.look.end
    (l.look.most + 1 - l.back) l.back (length l.draft.code))
    → Adds l.fn.draft x (C.lengths_code (C.code (address_of l.layout) (core_of l.look.body.now)) l.look.end
    (l.look.most + 1 - l.look.least) l.look.least (length l.fn.draft.code)))
    × Takes l.fn.nodes l.nodes (behind_nodes (l.back - l.look.least) (nodes_in (core_of l.look.body.now)))
    × (l.back ≤ l.look.least + (l.look.most + 1 - l.look.least))

abbrev pub decreases-emit : goal.decreases-emit
decreases-emit l = weight (core_of l.peg.now) + 2

abbrev pub decreases-emit_inner : goal.decreases-emit_inner
decreases-emit_inner l = weight (core_of l.peg.now) + 1

abbrev pub decreases-emit_all : goal.decreases-emit_all
decreases-emit_all l = weight (core_of (V.Seq l.row.parts.now))

abbrev pub decreases-emit_first : goal.decreases-emit_first
decreases-emit_first l = weight (core_of (V.Choice l.row.parts.now))

abbrev pub decreases-emit_tried : goal.decreases-emit_tried
decreases-emit_tried l = weight (core_of l.part.now) + 3

abbrev pub decreases-emit_many : goal.decreases-emit_many
decreases-emit_many l = weight (core_of l.body.now) + 3

abbrev pub decreases-emit_not : goal.decreases-emit_not
decreases-emit_not l = weight (core_of l.body.now) + 3

abbrev pub decreases-emit_and : goal.decreases-emit_and
decreases-emit_and l = weight (core_of l.body.now) + 3

abbrev pub decreases-emit_behind : goal.decreases-emit_behind
decreases-emit_behind l = weight (core_of l.look.body.now) + 4

abbrev pub decreases-emit_length : goal.decreases-emit_length
decreases-emit_length l = weight (core_of l.look.body.now) + 3

abbrev pub decreases-emit_capture : goal.decreases-emit_capture
decreases-emit_capture l = weight (core_of l.body.now) + 3
