use Rattle.std.proofs.Common.{◌≡◌, ℕ, ◌+◌, ◌-◌, ◌++◌, ◌<◌, ◌≤◌, drop, length, min, true}
use Rattle.std.specs.List.{All}
use Rattle.rpl_core.specs.Listed.{rules_of}
use Rattle.rpl_core.specs.Programs.{place_of}
use Rattle.rpl_core.specs.Table.{bodies_of}
use Rattle.rpl_core.specs.View.{core_of}
use Rattle.rpl_codegen.specs.inside.Laid.{bodies_nodes}
use Rattle.rpl_codegen.specs.inside.Starts.{start_from}
use Rattle.rpl_core.specs.Marked.{has}
use Rattle.rpl_codegen.specs.inside.Sizes.{len}
use Rattle.rpl_codegen.specs.inside.Nodes.{nodes_in}
use Rattle.rpl_codegen.proofs.layout.Layout.new.Given as goal

-- the starts of all reached rules so far are listed, and the next comes at the next reached rule
abbrev pub invariant-loop-number : goal.invariant-loop-number
invariant-loop-number l =
    let place : ℕ → ℕ = place_of (has l.reached) (bodies_of (rules_of l.rules)) 0 (len (core_of l.goal) + 1) in
    record {
      next : l.next ≡ min 1048577 (place l.number);
      within : l.number ≤ length (rules_of l.rules);
      here : l.number < length (rules_of l.rules) → has l.reached l.number ≡ true;
      before : (r : ℕ) → r ≤ l.number → start_from l.starts.list.items r l.next ≡ min 1048577 (place r);
      past : (r e : ℕ) → l.number ≤ r → start_from l.starts.list.items r e ≡ e;
      below : All (λ s. s.rule < l.number) l.starts.list.items;
      nodes : l.measured.nodes.items ++ bodies_nodes (has l.reached) (drop l.number (bodies_of (rules_of l.rules)))
          l.number
          ≡ l.fn.measured.nodes.items
          ++ (nodes_in (core_of l.goal) ++ bodies_nodes (has l.reached) (bodies_of (rules_of l.rules)) 0);
    }

abbrev pub decreases-loop-number : goal.decreases-loop-number
decreases-loop-number l = length (rules_of l.rules) - l.number
