use Rattle.std.proofs.Common.{◌≡◌, ◌∙◌, ◌-◌, ◌+◌, ◌*◌, ◌≤◌, suc, drop, sym, ap, arith}
use Rattle.std.specs.Char.{digit_value}
use Rattle.std.proofs.lemmas.Bool.{ltb-false}
use Rattle.rpl_text.specs.Escapes.{hex}
use Rattle.rpl_text.proofs.Hex.{hex_digit, hex_other, hex_end, hex_done, sixteen, below_word}
use Rattle.rpl_text.proofs.escapes.hex_number.Goals as goal

pub returns-in_err-byte-clause-value : goal.returns-in_err-byte-clause-value
returns-in_err-byte-clause-value c =
    let n : c.args.digits - c.loop-i.i ≡ suc (c.args.digits - (c.loop-i.i + 1)) = omega arith in
    c.from_residual.ensures
    ∙ sym (c.loop-i.invariant.reading ∙ hex_end _ _ _ _ _ n (ltb-false _ _ (sym c.in_err-byte.ensures.lookup.0)))

pub returns-in_err-number-clause-value : goal.returns-in_err-number-clause-value
returns-in_err-number-clause-value c =
    let n : c.args.digits - c.loop-i.i ≡ suc (c.args.digits - (c.loop-i.i + 1)) = omega arith in
    let d : 16 ≤ digit_value c.in_ok-byte.field-0.now = omega (arith, c.in_err-number.ensures.value) in
    let l = c.in_ok-byte.ensures.lookup in
    c.from_residual-in_err-number.ensures
    ∙ sym (c.loop-i.invariant.reading ∙ hex_other _ _ _ _ _ _ n l.3.0 (sym (l.3.1 0)) d)

pub overflow_add-number : goal.overflow_add-number
overflow_add-number c =
    let d = c.in_ok-number.ensures.value in
    omega (arith, sixteen c.loop-i.i, below_word c.loop-i.i, c.loop-i.invariant.small, d.0, d.1)

pub loop-i-preserved : goal.loop-i-preserved
loop-i-preserved c =
    let d = c.in_ok-number.ensures.value in
    let n : c.args.digits - c.loop-i.i ≡ suc (c.args.digits - (c.loop-i.i + 1)) = omega arith in
    let l = c.in_ok-byte.ensures.lookup in
    record {
      reading = c.loop-i.invariant.reading ∙ hex_digit _ _ _ _ _ _ n l.3.0 (sym (l.3.1 0)) d.0
          ∙ ap (λ v. hex (c.args.digits - (c.loop-i.i + 1)) v (drop (c.loop-i.i + 1) c.args.bytes.now))
          (ap (λ x. 16 * c.loop-i.number + x) (sym d.1));
      inside = omega (arith, l.3.0);
      small = omega (arith, sixteen c.loop-i.i, c.loop-i.invariant.small, d.0, d.1);
    }

pub returns-clause-value : goal.returns-clause-value
returns-clause-value c =
    let n : c.args.digits - c.loop-i.i ≡ 0 = omega arith in
    sym (c.loop-i.invariant.reading ∙ hex_done _ _ _ n)
