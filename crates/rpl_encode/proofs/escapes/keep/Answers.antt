use Rattle.std.proofs.Common.{◌-◌, length, refl, arith}
use Rattle.rpl_encode.proofs.Escaping.{kept_none, kept_more, kept_all}
use Rattle.rpl_encode.proofs.escapes.keep.Goals as goal

pub loop-left-init : goal.loop-left-init
loop-left-init c = record {
  room = c.requires.string;
  kept = kept_none c.args.line.now c.args.string.now c.args.places.now (length c.args.line.now)
      (length c.args.string.now) refl refl c.requires.places;
}

pub loop-left-preserved : goal.loop-left-preserved
loop-left-preserved c =
    let l = c.loop-left in
    let w = c.write_escaped-at in
    record {
      room = omega (arith, l.invariant.room, w.ensures.start);
      kept = kept_more c.args.line.now l.string w.new.buffer l.places l.left (l.left - 1) l.at w.result l.invariant.kept
          (omega (arith, c.loop-left-test.true)) w.ensures.start.0 w.ensures.long w.ensures.written;
    }

pub returns : goal.returns
returns c = kept_all c.args.line.now c.loop-left.string c.loop-left.places c.loop-left.left c.loop-left.at
    c.loop-left.invariant.kept c.loop-left-test.false
