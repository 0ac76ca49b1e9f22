use Rattle.std.proofs.Common.{◌≡◌, Some, length, refl, sym, ap, ap₂, ◌∙◌}
use Rattle.std.specs.Prelude.{slice_get}
use Rattle.std.proofs.lemmas.Option.{slice_get_past, slice_get_read}
use Rattle.rpl_scope.specs.Packages.{first_of}
use Rattle.rpl_scope.proofs.Maps.{at_place, nth_is}
use Rattle.rpl_scope.proofs.named.Named.at.Goals as goal

pub returns-in-Some : goal.returns-in-Some
returns-in-Some g c =
    let ps = c.self.inside.pairs.items in
    let p = c.in-Some.field-0.now in
    let l = c.in-Some.ensures.lookup in
    let read = slice_get_read c.deref.result.now (length c.deref.result.now) c.args.number p refl l.3.0 l.1 in
    let here : slice_get ps c.args.number ≡ Some p = ap (λ xs. slice_get xs c.args.number) (sym c.deref.ensures.value)
    ∙ read in
    record {
      is = ap (λ s. Some (s, p.1)) c.as_str.ensures ∙ sym here ∙ sym (nth_is ps c.args.number)
          ∙ ap (λ xs. slice_get xs c.args.number) c.self.view_is;
      first = ap₂ first_of c.as_str.ensures (sym c.self.view_is)
          ∙ at_place ps c.args.number p c.self.invariant.apart here;
    }

pub returns-in-None : goal.returns-in-None
returns-in-None g c =
    let past = slice_get_past c.deref.result.now c.args.number c.in-None.ensures.lookup.3 in
    record {
      is = sym past ∙ ap (λ ps. slice_get ps c.args.number) c.deref.ensures.value
          ∙ sym (nth_is c.self.inside.pairs.items c.args.number) ∙ ap (λ l. slice_get l c.args.number) c.self.view_is;
      first = tt;
    }
