use Rattle.std.proofs.Common.{◌-◌, ◌/◌, arith, ap, sym, ◌∙◌, drop_of_length-le}
use Rattle.std.specs.Prelude.{drop, false}
use Rattle.std.specs.Fmt.{digits_onto}
use Rattle.rpl_print.proofs.Hexadecimal.{onto_last, onto_step, put_before, whole}
use Rattle.rpl_print.proofs.words.put_digits.Goals as goal

pub loop-start-init : goal.loop-start-init
loop-start-init c =
    record {
      place = omega arith;
      left = ap (digits_onto 64 16 false c.args.number) (drop_of_length-le c.args.room.now {i = 64} (omega arith))
          ∙ whole c.args.number;
    }

pub loop-start-preserved : goal.loop-start-preserved
loop-start-preserved c =
    let l = c.loop-start in
    let written = put_before l.room l.start c.digit_of.result _ c.loop-start-test.true (omega arith) c.digit_of.ensures
    in
    record {
      place = omega (arith, l.invariant.place);
      left = ap (digits_onto (l.start - 1) 16 false (l.rest / 16)) written
          ∙ sym (onto_step l.rest (drop l.start l.room) l.start c.loop-start-test.true c.if-rest-eq0.false)
          ∙ l.invariant.left;
    }

pub returns-then-rest-eq0 : goal.returns-then-rest-eq0
returns-then-rest-eq0 c =
    let l = c.loop-start in
    let written = put_before l.room l.start c.digit_of.result _ c.loop-start-test.true (omega arith) c.digit_of.ensures
    in
    record {
      place = omega (arith, l.invariant.place);
      digits = written ∙ sym (onto_last l.rest (drop l.start l.room) l.start c.loop-start-test.true c.if-rest-eq0.true)
          ∙ l.invariant.left;
    }
