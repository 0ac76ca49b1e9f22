-- How contracts see a module.
use Rattle.std.specs.Prelude.{List, [], ◌∷◌}
use Rattle.rpl_syntax.specs.View.{expr_of}
use Rattle.rpl_syntax.specs.declared.module.Binding.{Binding}
use Rattle.rpl_syntax.specs.declared.module.Item.{Item}
use Rattle.rpl_syntax.specs.declared.module.Item.TheVariants as I
use Rattle.rpl_syntax.specs.declared.module.Module.{Module}
pub use Rattle.rpl_syntax.specs.Parsed.{Rule, Entry, One, Block, ParsedModule}

-- what they stand for
abbrev pub rule_of : Binding → Rule
rule_of b = record { name = b.name; at = b.at; local = b.local; alias = b.alias; body = expr_of b.body }

abbrev pub rules_of : List Binding → List Rule
rules_of [] = []
rules_of (b ∷ bs) = rule_of b ∷ rules_of bs

abbrev pub entry_of : Item → Entry
entry_of (I.Binding b) = One (rule_of b)
entry_of (I.Block hidden visible) = Block (rules_of hidden) (rules_of visible)

abbrev pub entries_of : List Item → List Entry
entries_of [] = []
entries_of (i ∷ is) = entry_of i ∷ entries_of is

abbrev pub said : Module → ParsedModule
said m = record { name = m.package; imports = m.imports; items = entries_of m.items }
