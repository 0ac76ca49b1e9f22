use Rattle.std.proofs.Common.{arith, ap, sym}
use Rattle.std.proofs.lemmas.List.{length-map}
use Rattle.rpl_scope.specs.Seen.{rule_seen}
use Rattle.rpl_names.specs.Targets as T
use Rattle.rpl_names.proofs.Numbering.{nth_seen, seen_past}
use Rattle.rpl_names.proofs.resolve.rule_count.Goals as goal

pub returns-in-None : goal.returns-in-None
returns-in-None c = sym (ap T.size_of (seen_past c.args.modules.now c.args.number c.in-None.ensures.lookup.3))

pub returns-in-Some : goal.returns-in-Some
returns-in-Some c =
    let ms = c.args.modules.now in
    let own = c.in-Some.own.now in
    let there = ap T.size_of (nth_seen ms c.args.number own c.in-Some.ensures.lookup.3.0 c.in-Some.ensures.lookup.1) in
    let count = c.len.ensures in
    let kept = own.rules.ok.0 in
    let seen = length-map own.rules.items rule_seen in
    omega (arith, there, count, kept, seen)
