use Rattle.std.proofs.Common.{◌-◌, Some, length, sym, ap, subst, ◌∙◌}
use Rattle.std.specs.List.{IsDistinct}
use Rattle.std.specs.Map.{keys_of}
use Rattle.std.specs.Str.{bytes_eq}
use Rattle.std.specs.Prelude.{slice_get}
use Rattle.rpl_scope.specs.inside.Held.{held}
use Rattle.rpl_scope.proofs.SharedNames.{at_first, nth_first, nth_past}
use Rattle.rpl_scope.proofs.names.ModuleNames.at.Goals as goal

pub returns-in-Some : goal.returns-in-Some
returns-in-Some c =
    let i = c.args.number in
    let ts = c.self.inside.shared.items in
    let is = sym (nth_first (held ts) c.self.inside.own i _
    (ap (λ l. slice_get (held l) i) (sym c.as_slice-tables.ensures.value) ∙ sym c.in-Some.ensures))
    ∙ ap (λ l. slice_get l i) c.self.view_is in
    record {
      is = is;
      first = at_first (Some c.in-Some.pair) c.args.self.now i
          (subst (λ l. IsDistinct bytes_eq (keys_of l)) c.self.view_is c.self.invariant.apart) is;
    }

pub returns-in-None : goal.returns-in-None
returns-in-None c =
    let i = c.args.number in
    let ts = c.self.inside.shared.items in
    let own = c.self.inside.own in
    let is =
    c.at.ensures.is ∙ ap (λ k. slice_get own (i - k)) (c.count_in.ensures
    ∙ ap (λ l. length (held l)) c.as_slice-tables.ensures.value)
    ∙ sym (nth_past (held ts) own i (ap (λ l. slice_get (held l) i) (sym c.as_slice-tables.ensures.value)
    ∙ sym c.in-None.ensures)) ∙ ap (λ l. slice_get l i) c.self.view_is in
    record {
      is = is;
      first = at_first c.at.result c.args.self.now i (subst (λ l. IsDistinct bytes_eq (keys_of l)) c.self.view_is
          c.self.invariant.apart) is;
    }
