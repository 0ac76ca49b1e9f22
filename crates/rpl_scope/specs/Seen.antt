-- How contracts see a module at work.
use Rattle.std.specs.Prelude.{List, map}
use Rattle.rpl_syntax.specs.View.{expr_of}
use Rattle.rpl_scope.specs.Bodies as B
use Rattle.rpl_scope.specs.declared.bodies.Use.{Use}
use Rattle.rpl_scope.specs.Packages as P
use Rattle.rpl_scope.specs.declared.module.Module.{Module}
use Rattle.rpl_scope.specs.declared.module.Rule.{Rule}

abbrev pub rule_seen : Rule → P.Rule
rule_seen r =
    record {
      name = r.name;
      text = r.text;
      at = r.at;
      start = r.start;
      since = r.since;
      local = r.local;
      alias = r.alias;
      hidden = r.hidden;
      body = expr_of r.body;
    }

abbrev pub rules_seen : List Rule → List P.Rule
rules_seen rs = map rule_seen rs

abbrev pub module_seen : Module → P.Module
module_seen m =
    record {
      path = m.path;
      label = m.label;
      texts = m.texts.items;
      rules = rules_seen m.rules.items;
      prefixes = m.prefixes;
      names = m.names;
    }

abbrev pub modules_seen : List Module → List P.Module
modules_seen ms = map module_seen ms

abbrev pub use_seen : Use → B.Use
use_seen u = record { name = u.name.now; arg = expr_of u.arg.now }
