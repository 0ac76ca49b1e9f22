use Rattle.std.proofs.Common.{◌≡◌, [], ◌∷◌, ◌++◌, Some, arith, length, ap, sym, subst, ◌∙◌}
use Rattle.std.specs.BTreeMap.{Updates}
use Rattle.std.specs.List.{All, Contains}
use Rattle.std.specs.Prelude.{map}
use Rattle.std.proofs.lemmas.List.{length-map, map-append}
use Rattle.rpl_intern.specs.inside.Numbers.{IsNumbered, row_cmp}
use Rattle.rpl_intern.proofs.Numbering.{all_more, exact_rows, one_more}
use Rattle.rpl_intern.proofs.tables.Table.add.Goals as goal

pub invariant_of-self-2 : goal.invariant_of-self-2
invariant_of-self-2 g c =
    let vs = c.self.inside.rows.items in
    let rows = map (λ v. v.items) vs in
    let x = c.args.row.items in
    let now = map (λ v. v.items) c.push_reserved.new.self.items in
    let same : now ≡ rows ++ x ∷ [] =
    ap (map (λ v. v.items)) (c.push_reserved.ensures.items ∙ ap (λ l. l ++ c.args.row ∷ []) c.reserve.ensures.items)
    ∙ map-append (λ v. v.items) vs (c.args.row ∷ []) in
    let number : c.len-number.result ≡ length rows =
    omega (arith, c.len-number.ensures, c.self.inside.rows.ok, length-map vs (λ v. v.items)) in
    let key = c.in_ok-from_slice.field-0 in
    let updates = subst (λ n. Updates (row_cmp g.T.Ord.cmp) c.self.inside.numbers c.insert.new.self key (Some n)) number
    c.in_ok-insert.ensures.updates in
    let exact = exact_rows _ g.T.Ord.cmp g.met.T.Piece.decides g.met.T.Ord.matches_eq in (
      subst (All g.T.Piece.is_row) (sym same) (all_more g.T.Piece.is_row rows x c.self.invariant.0 c.requires.is_row),
      subst (λ l. IsNumbered g.T.Ord.cmp l c.insert.new.self) (sym same)
          (one_more g.T.Ord.cmp exact rows c.self.inside.numbers c.insert.new.self key x
          (c.in_ok-from_slice.ensures.items
          ∙ c.deref.ensures.value) (λ h. c.requires.is_new (subst (λ l. Contains l x) c.self.view_is h))
          c.self.invariant.1 updates),
    )
