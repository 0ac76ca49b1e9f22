use Rattle.std.proofs.Common.{◌≡◌, take, length}
use Rattle.rpl_core.specs.Listed.{rules_of}
use Rattle.rpl_forms.specs.Counting.{KnowsInners}
use Rattle.rpl_forms.specs.Rows.{inners_of}
use Rattle.rpl_forms.proofs.inner.inners.Given as goal

abbrev pub invariant-loop-number : goal.invariant-loop-number
invariant-loop-number l = record {
  knows : KnowsInners l.known.items (take l.number (inners_of (rules_of l.rules)));
  as_many : length l.known.items ≡ l.number;
}
