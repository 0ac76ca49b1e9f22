use Rattle.std.proofs.Common.{◌++◌, ◌∷◌, [], drop, sym, ap, ◌∙◌, arith, append_assoc}
use Rattle.std.specs.Prelude.{chars, string_bytes}
use Rattle.std.proofs.lemmas.Str.{IsUtf8-string_bytes}
use Rattle.rpl_text.specs.Places.{index}
use Rattle.rpl_lexer.specs.Payloads.{decoded}
use Rattle.rpl_lexer.proofs.Decoding.{place_le, place_zero, begun, pushed}
use Rattle.rpl_lexer.proofs.payload.decoded.Goals as goal

pub loop-c-init : goal.loop-c-init
loop-c-init c = record {
  here = place_zero (chars c.args.text.now);
  read = begun (string_bytes c.new-out.result) (chars c.args.text.now) c.new-out.ensures.bytes;
}

pub loop-c-smaller : goal.loop-c-smaller
loop-c-smaller c =
    let h = c.in-Some.ensures in
    omega (arith, place_le c.args.text.now c.in-Some.next c.utf8.text h.1, h.2)

pub loop-c-preserved : goal.loop-c-preserved
loop-c-preserved c =
    let t = chars c.args.text.now in
    let rest = decoded 0 (drop (index t c.in-Some.next) t) in
    let h = c.in-Some.ensures in
    let e = pushed (string_bytes c.loop-c.out) (string_bytes c.push.new.self) c.in-Some.c
    (IsUtf8-string_bytes c.loop-c.out) (IsUtf8-string_bytes c.push.new.self) c.in_ok-push.ensures.bytes in
    record {
      here = h.1;
      read = ap (λ x. x ++ rest) e ∙ append_assoc (chars (string_bytes c.loop-c.out)) (c.in-Some.c ∷ []) rest
          ∙ ap (λ x. chars (string_bytes c.loop-c.out) ++ x) (sym h.0) ∙ c.loop-c.invariant.read;
    }
