use Rattle.std.proofs.Common.{◌≡◌, ◌<◌, ◌≤◌, ◌+◌, ◌-◌, length, drop, true}
use Rattle.rpl_core.specs.Listed.{rules_of}
use Rattle.rpl_core.specs.Programs.{bodies}
use Rattle.rpl_core.specs.Table.{bodies_of}
use Rattle.rpl_intern.specs.declared.draft.Draft.{Draft}
use Rattle.rpl_codegen.specs.inside.Laid.{bodies_len, bodies_nodes}
use Rattle.rpl_core.specs.Marked.{has}
use Rattle.rpl_codegen.specs.inside.Taken.{Begins, left}
use Rattle.rpl_intern.specs.Written.{Adds}
use Rattle.rpl_codegen.specs.inside.Written.{address_of}
use Rattle.rpl_codegen.proofs.whole.emit_rules.Given as goal

-- the rest of the code comes from the next reached rule on
abbrev pub invariant-loop-number : goal.invariant-loop-number
invariant-loop-number l =
    record {
      within : l.number ≤ length (rules_of l.rules);
      here : l.number < length (rules_of l.rules) → has l.reached l.number ≡ true;
      room : length l.draft.code + bodies_len (has l.reached) (drop l.number (bodies_of (rules_of l.rules))) l.number
          ≤ 1048576;
      rest : (x : Draft) → Adds l.draft x
          (bodies (has l.reached) (address_of l.layout) (drop l.number (bodies_of (rules_of l.rules))) l.number
          (length l.draft.code))
          → Adds l.fn.draft x (bodies (has l.reached) (address_of l.layout) (bodies_of (rules_of l.rules)) 0
          (length l.fn.draft.code));
      nodes : Begins (left l.nodes) (bodies_nodes (has l.reached) (drop l.number (bodies_of (rules_of l.rules)))
          l.number);
    }

abbrev pub decreases-loop-number : goal.decreases-loop-number
decreases-loop-number l = length (rules_of l.rules) - l.number
