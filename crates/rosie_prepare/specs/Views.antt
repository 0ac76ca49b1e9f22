-- How contracts see what is wanted, and what is prepared.
use Rattle.rosie_prepare.specs.Prepared as P
use Rattle.rosie_prepare.specs.declared.prepared.Prepared.{Prepared}
use Rattle.rosie_prepare.specs.declared.pattern_request.PatternRequest.{PatternRequest}
use Rattle.rpl_check.specs.Goal.{peg_of}
use Rattle.rpl_core.specs.View.{core_of}
use Rattle.rpl_forms.specs.Rows.{rows_of}
use Rattle.rpl_names.specs.Sets.{set_seen}
use Rattle.rpl_syntax.specs.View.{expr_of}

abbrev pub request_seen : PatternRequest → P.PatternRequest
request_seen w = record {
  roots = w.roots.now;
  folders = w.folders.now;
  text = w.goal.text.now;
  fixed = w.goal.fixed;
  find = w.goal.find;
}

abbrev pub ready_seen : Prepared → P.Ready
ready_seen p = record {
  packages = set_seen p.packages;
  expr = expr_of p.expr;
  rules = rows_of p.rules;
  goal = core_of (peg_of p.goal);
}
