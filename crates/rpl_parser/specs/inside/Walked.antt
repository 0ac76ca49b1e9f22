-- What the parser's walk over statements stands for.
use Rattle.std.specs.Prelude.{[], ◌∷◌, ◌++◌}
use Rattle.rpl_syntax.specs.Modules.{Rule, entries_of, rules_of}
use Rattle.rpl_parser.specs.Walks as W
use Rattle.rpl_parser.specs.declared.walk.Walk.{Walk}

abbrev pub walk_of : Walk → W.Walk
walk_of w = record {
  stage = w.stage;
  version = w.version;
  name = w.name;
  imports = w.imports;
  items = entries_of w.items;
  hidden = rules_of w.hidden;
  rules = rules_of w.rules;
}

-- after one more rule of a block
abbrev pub inside : W.Walk → Rule → W.Walk
inside w r = record w { rules = w.rules ++ r ∷ [] }
