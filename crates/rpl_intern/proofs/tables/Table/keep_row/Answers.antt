use Rattle.std.proofs.Common.{◌∙◌, inl, sym, subst}
use Rattle.std.specs.List.{Contains}
use Rattle.std.specs.Prelude.{map}
use Rattle.rpl_intern.proofs.Adding.{held}
use Rattle.rpl_intern.proofs.Numbering.{added_at, added_keeps, not_there}
use Rattle.rpl_intern.proofs.tables.Table.keep_row.Goals as goal

pub add-requires-clause-is_new : goal.add-requires-clause-is_new
add-requires-clause-is_new g c h =
    not_there g.T.Ord.cmp (map (λ v. v.items) c.self.inside.rows.items) c.self.inside.numbers c.args.row
    c.self.invariant.1
    (sym c.get.ensures.value ∙ sym c.copied.ensures ∙ c.in-None.is)
    (subst (λ l. Contains l c.args.row.items) (sym c.self.view_is) h)

pub returns-in-Some-clause-number : goal.returns-in-Some-clause-number
returns-in-Some-clause-number g c =
    (c.self.invariant.1 c.args.row c.in-Some.number).0 (sym c.get.ensures.value ∙ sym c.copied.ensures ∙ c.in-Some.is)

pub returns-in-Some-clause-kept : goal.returns-in-Some-clause-kept
returns-in-Some-clause-kept g c =
    let rows = map (λ v. v.items) c.self.inside.rows.items in
    let there = (c.self.invariant.1 c.args.row c.in-Some.number).0 (sym c.get.ensures.value ∙ sym c.copied.ensures
    ∙ c.in-Some.is) in
    inl (
      subst (λ l. Contains l c.args.row.items) c.self.view_is (held rows c.in-Some.number c.args.row.items there),
      c.self.view_is,
    )

pub returns-in-None-clause-kept : goal.returns-in-None-clause-kept
returns-in-None-clause-kept g c =
    let absent : Contains c.args.self.now c.args.row.items → ⊥ =
    λ h. not_there g.T.Ord.cmp (map (λ v. v.items) c.self.inside.rows.items) c.self.inside.numbers c.args.row
    c.self.invariant.1
    (sym c.get.ensures.value ∙ sym c.copied.ensures ∙ c.in-None.is)
    (subst (λ l. Contains l c.args.row.items) (sym c.self.view_is) h) in
    added_keeps c.add.result c.args.self.now _ c.args.row.items absent c.add.ensures.added

pub returns-in-None-clause-number : goal.returns-in-None-clause-number
returns-in-None-clause-number g c =
    added_at c.add.result c.args.self.now _ c.args.row.items c.add.ensures.added c.add.ensures.number
