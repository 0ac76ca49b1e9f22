use Rattle.std.proofs.Common.{◌∙◌, refl, sym, arith}
use Rattle.std.specs.Prelude.{chars}
use Rattle.rpl_classes.specs.Symbols.{is_blank}
use Rattle.rpl_classes.proofs.Steps.{taken, place_le, blanks_taken, blanks_stop}
use Rattle.rpl_classes.proofs.symbols.skip_blanks.Goals as goal

pub returns-then-not-is_blank : goal.returns-then-not-is_blank
returns-then-not-is_blank c =
    let i = c.loop-place.invariant in
    record {
      left = i.left ∙ blanks_stop _ _ _ _ (sym c.if-not-is_blank.ensures) c.symbol_at-symbol.ensures;
      next = i.here;
      forward = i.forward;
    }

pub loop-place-smaller : goal.loop-place-smaller
loop-place-smaller c =
    let k = taken (chars c.args.text.now) _ _ _ is_blank refl (sym c.if-not-is_blank.ensures) c.symbol_at-symbol.ensures
    in
    omega (arith, place_le c.args.text.now c.symbol_at-symbol.result.1 c.utf8.text k.next, k.forward)

pub loop-place-preserved : goal.loop-place-preserved
loop-place-preserved c =
    let i = c.loop-place.invariant in
    let k = taken (chars c.args.text.now) _ _ _ is_blank refl (sym c.if-not-is_blank.ensures) c.symbol_at-symbol.ensures
    in
    record {
      here = k.next;
      forward = omega (arith, i.forward, k.forward);
      left = i.left
          ∙ blanks_taken _ _ _ _ (sym c.if-not-is_blank.ensures) k;
    }
