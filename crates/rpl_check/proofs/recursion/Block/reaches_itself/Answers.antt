use Rattle.std.proofs.Common.{◌-◌, ◌∙◌, ap, length, arith, refl}
use Rattle.std.proofs.lemmas.List.{get_or_read, nil_from_length, length-replicate}
use Rattle.std.specs.Prelude.{false}
use Rattle.rpl_core.specs.Marks.{marked}
use Rattle.rpl_check.specs.declared.recursion.BlockSearch.{BlockSearch}
use Rattle.rpl_check.proofs.Following.{follow_begins, follow_on}
use Rattle.rpl_check.proofs.Rings.{itself_is}
use Rattle.rpl_facts.proofs.Settling.{no_marks}
use Rattle.rpl_check.specs.inside.Within.{table_of, empty_in}
use Rattle.rpl_check.proofs.recursion.Block.reaches_itself.Goals as goal

pub loop-next-init : goal.loop-next-init
loop-next-init c =
    let R = table_of c.args.self.now in
    let n = c.args.self.now.end - c.args.self.now.start in
    let items = c.in_ok-vec.ensures.items_if_clones_equal (λ y e. e) in
    follow_begins R (empty_in c.args.self.now) c.args.number c.args.self.now.start n _ c.find_calls_of.new.search refl
    (ap length items ∙ length-replicate n false) (λ t. ap (λ l. marked l t) items
    ∙ no_marks n t) c.new.ensures.items c.in_ok-find_calls_of.ensures

pub loop-next-preserved : goal.loop-next-preserved
loop-next-preserved c =
    let R = table_of c.args.self.now in
    let m = empty_in c.args.self.now in
    let a = c.args.self.now.start in
    let n = c.args.self.now.end - a in
    let s1 : BlockSearch = record {
      start = c.loop-next.search.start;
      marks = c.loop-next.search.marks;
      waiting = c.pop.new.self;
    } in
    follow_on R m c.args.number a n c.loop-next.search s1 c.find_calls_of-in-Some.new.search c.in-Some.next
    c.loop-next.invariant c.in-Some.ensures.items refl refl c.in_ok-find_calls_of-2.ensures

pub returns : goal.returns
returns c = λ reach all.
    itself_is (table_of c.args.self.now) (empty_in c.args.self.now) c.args.number c.args.self.now.start
    c.args.self.now.end c.loop-next.search c.index.result.now c.requires.within.0 c.requires.within.1
    c.requires.block.earlier c.requires.block.calls (nil_from_length c.loop-next.search.waiting.items (let z =
    c.in_default.ensures.cases.0 in omega (arith, c.loop-next.search.waiting.ok.0))) c.loop-next.invariant
    (get_or_read c.loop-next.search.marks.items _ _ (omega (arith, c.loop-next.invariant.long)) c.index.ensures false)
    reach all
