-- The facts that are determined for every rule of a table.
use Rattle.std.specs.Prelude.{ℕ, Bool}
use Rattle.rpl_core.specs.Core.{Core}
use Rattle.rpl_compile_laws.specs.Static.{may_be_empty, may_halt}
use Rattle.rpl_facts.specs.declared.facts.Fact as F
use Rattle.rpl_facts.specs.declared.facts.Fact.TheVariants as V

-- the test of a fact
abbrev pub test_of : F.Fact → (ℕ → Bool) → Core → Bool
test_of V.MayBeEmpty = may_be_empty
test_of V.MayHalt = may_halt
