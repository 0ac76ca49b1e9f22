use Rattle.std.proofs.Common.{◌≡◌, ◌∷◌, ◌++◌, take}
use Rattle.std.specs.Prelude.{Some, flat_map, string_bytes}
use Rattle.rosie_prepare.specs.Lines.{rule_name}
use Rattle.rpl_names.specs.Sets.{set_seen}
use Rattle.rosie_prepare.proofs.rules.push_names.Given as goal

abbrev pub invariant-loop-rule : goal.invariant-loop-rule
invariant-loop-rule l =
    string_bytes l.out
    ≡ string_bytes l.fn.out ++ flat_map (λ s. 32 ∷ rule_name (set_seen l.packages) (Some s)) (take l.rule-index l.rules)
