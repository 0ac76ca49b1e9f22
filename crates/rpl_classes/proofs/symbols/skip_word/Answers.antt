use Rattle.std.proofs.Common.{◌∙◌, refl, sym, arith}
use Rattle.std.specs.Prelude.{chars}
use Rattle.rpl_classes.specs.Brackets.{is_word}
use Rattle.rpl_classes.proofs.Steps.{taken, place_le, word_start, word_taken, word_stop, word_char, past_word_taken}
use Rattle.rpl_classes.proofs.Steps.{past_word_stop}
use Rattle.rpl_classes.proofs.symbols.skip_word.Goals as goal

pub loop-place-init : goal.loop-place-init
loop-place-init c = record {
  here = c.requires;
  forward = omega arith;
  order = omega arith;
  read = word_start (chars c.args.text.now) c.args.place;
  left = refl;
}

pub returns-then-not-is_word : goal.returns-then-not-is_word
returns-then-not-is_word c =
    let i = c.loop-place.invariant in
    record {
      word = word_stop (chars c.args.text.now) c.args.place c.loop-place.at _ _ (sym c.if-not-is_word.ensures)
          c.symbol_at-symbol.ensures i.read;
      past = record {
        left = i.left ∙ past_word_stop _ _ _ _ (sym c.if-not-is_word.ensures) c.symbol_at-symbol.ensures;
        next = i.here;
        forward = i.forward;
      };
    }

pub loop-place-smaller : goal.loop-place-smaller
loop-place-smaller c =
    let k = taken (chars c.args.text.now) _ _ _ is_word refl (sym c.if-not-is_word.ensures) c.symbol_at-symbol.ensures
    in
    omega (arith, place_le c.args.text.now c.symbol_at-symbol.result.1 c.utf8.text k.next, k.forward)

pub loop-place-preserved : goal.loop-place-preserved
loop-place-preserved c =
    let i = c.loop-place.invariant in
    let h = sym c.if-not-is_word.ensures in
    let k = taken (chars c.args.text.now) _ _ _ is_word refl h c.symbol_at-symbol.ensures in
    let w = word_char (chars c.args.text.now) c.loop-place.at c.symbol_at-symbol.result.1 c.symbol_at-symbol.result.0 h
    c.symbol_at-symbol.ensures.forward in
    record {
      here = k.next;
      forward = omega (arith, i.forward, k.forward);
      order = omega (arith, i.order, w.1);
      read = word_taken (chars c.args.text.now) c.args.place c.loop-place.at _ _ h i.order c.symbol_at-symbol.ensures k
          i.read;
      left = i.left ∙ past_word_taken _ _ _ _ h k;
    }
