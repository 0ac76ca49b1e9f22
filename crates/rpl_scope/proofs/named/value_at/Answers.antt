use Rattle.std.proofs.Common.{length, refl, sym, true, false, ap, ◌∙◌}
use Rattle.std.specs.Prelude.{chars}
use Rattle.std.proofs.lemmas.Option.{slice_get_past, slice_get_read}
use Rattle.rpl_scope.specs.inside.Numbers.{value_at, value_if}
use Rattle.rpl_scope.proofs.Maps.{compared, value_of}
use Rattle.rpl_scope.proofs.named.value_at.Goals as goal
use Rattle.rpl_scope.proofs.named.value_at.Goals.{in_default-get-via-in-Some-get+else-eq}
use Rattle.rpl_scope.proofs.named.value_at.Goals.{in_default-get-via-in_default-get}

pub returns-in-Some-get : goal.returns-in-Some-get
returns-in-Some-get g c =
    let n = c.args.name.now in
    let ps = c.args.pairs.now in
    let p = c.in-Some-get.field-0.now in
    let l = c.in-Some-get.ensures.lookup in
    let here = slice_get_read ps (length ps) c.in-Some.number p refl l.3.0 l.1 in
    sym (value_of (chars n) c.args.number c.in-Some.number p ps c.in-Some.is here true
    (compared n c.as_str.result.now p.0 c.eq.result true c.utf8.name c.as_str.utf8 c.as_str.ensures c.eq.ensures
    c.if-eq.true))

pub returns-in_default-get : goal.returns-in_default-get
returns-in_default-get g c =
    let n = c.args.name.now in
    let ps = c.args.pairs.now in
    let i = c.in-Some.number in
    elim c.in_default-get.branch [
      | in_default-get-via-in-Some-get+else-eq w ↦
          (let p = w.in-Some-get.field-0.now in
          let l = w.in-Some-get.ensures.lookup in
          let here = slice_get_read ps (length ps) i p refl l.3.0 l.1 in
          sym (value_of (chars n) c.args.number i p ps c.in-Some.is here false
          (compared n w.as_str.result.now p.0 w.eq.result false c.utf8.name w.as_str.utf8 w.as_str.ensures w.eq.ensures
          w.if-eq.false)))
      | in_default-get-via-in_default-get w ↦ sym (ap (λ x. value_at (chars n) x ps) c.in-Some.is
          ∙ ap (value_if (chars n)) (slice_get_past ps i w.in_default-get.ensures.lookup.3))
    ]
