use Rattle.std.proofs.Common.{◌≡◌, [], ◌∷◌, ◌++◌, ap, refl, subst, ◌∙◌}
use Rattle.std.specs.List.{All}
use Rattle.std.specs.Prelude.{map}
use Rattle.std.proofs.lemmas.List.{map-append}
use Rattle.rpl_intern.specs.inside.Numbers.{IsNumbered}
use Rattle.rpl_intern.proofs.Numbering.{all_front, exact_rows, one_less}
use Rattle.rpl_intern.proofs.tables.Table.remove_last.Goals as goal

pub invariant_of-self : goal.invariant_of-self
invariant_of-self g c =
    let left = c.pop.new.self.items in
    let rows = map (λ v. v.items) left in
    let x = c.in-Some.row.items in
    let same : map (λ v. v.items) c.self.inside.rows.items ≡ rows ++ x ∷ [] =
    ap (map (λ v. v.items)) c.in-Some.ensures.items ∙ map-append (λ v. v.items) left (c.in-Some.row ∷ []) in
    let exact = exact_rows _ g.T.Ord.cmp g.met.T.Piece.decides g.met.T.Ord.matches_eq in (
      all_front g.T.Piece.is_row rows x (subst (All g.T.Piece.is_row) same c.self.invariant.0),
      one_less g.T.Ord.cmp exact rows c.self.inside.numbers c.remove.new.self c.in-Some.row x refl
          (subst (λ l. IsNumbered g.T.Ord.cmp l c.self.inside.numbers) same c.self.invariant.1)
          c.remove.ensures.updates,
    )
