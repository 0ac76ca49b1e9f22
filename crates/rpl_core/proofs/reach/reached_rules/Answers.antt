use Rattle.std.proofs.Common.{◌∙◌, [], ◌∷◌, ap, refl, length, length-append, arith}
use Rattle.std.proofs.lemmas.List.{nil_from_length, length-map}
use Rattle.std.specs.BTreeMap.{is_at}
use Rattle.std.specs.List.{list_any}
use Rattle.std.specs.Ordering.{nat_cmp}
use Rattle.std.specs.Prelude.{false}
use Rattle.rpl_core.specs.Listed.{rules_of}
use Rattle.rpl_core.specs.Programs.{calls, by_rule}
use Rattle.rpl_core.specs.Table.{bodies_of}
use Rattle.rpl_core.specs.View.{core_of}
use Rattle.rpl_core.specs.declared.reach.RuleSearch.{RuleSearch}
use Rattle.rpl_core.specs.declared.rules.Rule.{Rule}
use Rattle.rpl_core.proofs.RuleFinds.{finds_none}
use Rattle.rpl_core.proofs.Search.{few, search_begins, search_goes_on, search_ends, body_at, body_is}
use Rattle.rpl_core.proofs.Search.{no_body}
use Rattle.rpl_core.proofs.reach.reached_rules.Goals as goal

pub loop-number-init : goal.loop-number-init
loop-number-init c =
    let rules = rules_of c.args.rules.now in
    search_begins (bodies_of rules) (core_of c.args.goal.now) _ c.find_calls.new.search c.new.ensures.ordered
    (λ r. ap (λ l. list_any (is_at (nat_cmp r)) l) c.new.ensures.empty) c.new-2.ensures.items
    c.in_ok-find_calls.ensures

pub loop-number-preserved-in-Continue-branch-2 : goal.loop-number-preserved-in-Continue-branch-2
loop-number-preserved-in-Continue-branch-2 c =
    let rules = rules_of c.args.rules.now in
    let R = bodies_of rules in
    let q = c.in-Some.number in
    let rule = c.in-Some-get.rule.now in
    let p = core_of rule.body in
    search_goes_on R (core_of c.args.goal.now) c.loop-number.search
    (record { found = c.loop-number.search.found; waiting = c.pop.new.self }) c.find_calls-in-Some-get.new.search q
    (calls p) c.loop-number.invariant c.in-Some.ensures.items refl
    (λ r reached e. by_rule q r p reached (body_is rules q rule c.in-Some-get.ensures) e)
    (λ r body is e. ap (λ x. calls x r) (body_at rules q rule body c.in-Some-get.ensures is) ∙ e)
    c.in_ok-find_calls-2.ensures

pub loop-number-preserved : goal.loop-number-preserved
loop-number-preserved c =
    let rules = rules_of c.args.rules.now in
    let q = c.in-Some.number in
    let s : RuleSearch = record { found = c.loop-number.search.found; waiting = c.pop.new.self } in
    search_goes_on (bodies_of rules) (core_of c.args.goal.now) c.loop-number.search s s q (λ r. false)
    c.loop-number.invariant c.in-Some.ensures.items refl (λ r reached e. absurd (cc))
    (λ r p is e. absurd (no_body rules q p c.in_default-get.ensures is)) (finds_none s)

pub returns : goal.returns
returns c =
    search_ends (bodies_of (rules_of c.args.rules.now)) (core_of c.args.goal.now) c.loop-number.search c.requires
    c.loop-number.invariant
    (nil_from_length c.loop-number.search.waiting.items
    (let a = c.in_default.ensures.cases.0 in omega (arith, c.loop-number.search.waiting.ok.0)))

pub loop-number-smaller-in-Continue-branch-2 : goal.loop-number-smaller-in-Continue-branch-2
loop-number-smaller-in-Continue-branch-2 c =
    let rules = rules_of c.args.rules.now in
    let R = bodies_of rules in
    let q = c.in-Some.number in
    let rule = c.in-Some-get.rule.now in
    let p = core_of rule.body in
    let m = c.in_ok-find_calls-2.ensures in
    let new = search_goes_on R (core_of c.args.goal.now) c.loop-number.search
    (record { found = c.loop-number.search.found; waiting = c.pop.new.self }) c.find_calls-in-Some-get.new.search q
    (calls p) c.loop-number.invariant c.in-Some.ensures.items refl
    (λ r reached e. by_rule q r p reached (body_is rules q rule c.in-Some-get.ensures) e)
    (λ r body is e. ap (λ x. calls x r) (body_at rules q rule body c.in-Some-get.ensures is) ∙ e) m in
    let one = ap length c.in-Some.ensures.items in
    omega (
      arith,
      few R (core_of c.args.goal.now) c.find_calls-in-Some-get.new.search c.requires new,
      few R (core_of c.args.goal.now) c.loop-number.search c.requires c.loop-number.invariant,
      m.left,
      one,
      length-append c.pop.new.self.items (q ∷ []),
      length-map rules (λ (r : Rule). core_of r.body),
    )
