use Rattle.std.proofs.Common.{◌≡◌, ◌<◌, ◌≤◌, ◌∙◌, get_or, length, sym, ap, subst, ltb, ltb-true, arith, rules}
use Rattle.std.proofs.lemmas.List.Sorted.{IsPartitionPoint-from_clause, IsPartitionedBy-ltb}
use Rattle.std.specs.List.Sorted.{IsPartitionedBy}
use Rattle.std.specs.Prelude.{true, false}
use Rattle.rpl_codegen.specs.inside.Starts.{start_from}
use Rattle.rpl_codegen.specs.declared.starts.Start.{Start}
use Rattle.rpl_codegen.proofs.Starting.{at_first, at_none}
use Rattle.rpl_codegen.proofs.starts.Starts.find.Goals as goal

pub returns-in-Some : goal.returns-in-Some
returns-in-Some c =
    let rule = c.args.rule in
    let same = c.deref.ensures.value in
    let same2 = c.deref-2.ensures.value in
    let parted = subst (IsPartitionedBy (λ (s : Start). ltb s.rule rule)) (sym same)
    (IsPartitionedBy-ltb (λ (s : Start). s.rule) c.args.self.now.list.items rule c.args.self.now.rising) in
    let point = IsPartitionPoint-from_clause (λ (s : Start). ltb s.rule rule) _ _
    c.partition_point-place.ensures.partitioned parted (λ a r q k. search rules) in
    let x = c.in-Some.start.now in
    let i = c.partition_point-place.result in
    let swap = same2 ∙ sym same in
    let fits : i < length c.deref.result.now =
    subst (λ l. i < length l) swap (ltb-true _ _ (sym c.in-Some.ensures.lookup.0)) in
    let is : x ≡ get_or c.deref.result.now i x = subst (λ l. x ≡ get_or l i x) swap c.in-Some.ensures.lookup.1 in
    let off = subst (λ (y : Start). ltb y.rule rule ≡ false) (sym is) (point.1 i x (omega arith) fits) in
    sym (ap (λ l. start_from l rule c.args.end) (sym same)
    ∙ at_first c.deref.result.now i rule c.args.end x fits is (λ k lt. point.0 k x (omega arith) lt) off)

pub returns-in-None : goal.returns-in-None
returns-in-None c =
    let rule = c.args.rule in
    let same = c.deref.ensures.value in
    let parted = subst (IsPartitionedBy (λ (s : Start). ltb s.rule rule)) (sym same)
    (IsPartitionedBy-ltb (λ (s : Start). s.rule) c.args.self.now.list.items rule c.args.self.now.rising) in
    let point = IsPartitionPoint-from_clause (λ (s : Start). ltb s.rule rule) _ _
    c.partition_point-place.ensures.partitioned parted (λ a r q k. search rules) in
    let d : Start = record { rule = 0; address = 0 } in
    let i = c.partition_point-place.result in
    let past : length c.deref.result.now ≤ i = subst (λ l. length l ≤ i) (c.deref-2.ensures.value
    ∙ sym same) c.in-None.ensures.lookup.3 in
    sym (at_none c.args.self.now.list.items rule c.args.end d
    (λ k lt. subst (λ l. ltb (get_or l k d).rule rule ≡ true) same (point.0 k d (omega arith) (let e =
    ap length same in omega (arith, past, lt, e)))))
