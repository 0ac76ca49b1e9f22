use Rattle.std.proofs.Common.{◌≡◌, ◌<◌, [], ◌∷◌, sym, ap₂, ◌∙◌, arith, rules}
use Rattle.json.specs.Print.{escape_byte, escape_letter}
use Rattle.rpl_encode.proofs.Escaping.{short, control, itself}
use Rattle.rpl_encode.proofs.escapes.write_escape.Goals as goal

pub returns-then-letter-gt0-clause-written : goal.returns-then-letter-gt0-clause-written
returns-then-letter-gt0-clause-written c =
    let some : 0 < escape_letter c.args.byte = omega (arith, c.short_escape-letter.ensures, c.if-letter-gt0.true) in
    rw (short c.args.byte some, ← c.short_escape-letter.ensures) (search rules)

pub returns-then-byte-lt32-clause-written : goal.returns-then-byte-lt32-clause-written
returns-then-byte-lt32-clause-written c =
    let none : escape_letter c.args.byte ≡ 0 = omega (arith, c.short_escape-letter.ensures, c.if-letter-gt0.false) in
    let written : 92 ∷ 117 ∷ 48 ∷ 48 ∷ c.digit.result ∷ c.digit-then-byte-lt32.result ∷ [] ≡ escape_byte c.args.byte =
    ap₂ (λ x y. 92 ∷ 117 ∷ 48 ∷ 48 ∷ x ∷ y ∷ []) c.digit.ensures c.digit-then-byte-lt32.ensures
    ∙ sym (control c.args.byte none c.if-byte-lt32.true) in
    rw (← written) (search rules)

pub returns-clause-written : goal.returns-clause-written
returns-clause-written c =
    let none : escape_letter c.args.byte ≡ 0 = omega (arith, c.short_escape-letter.ensures, c.if-letter-gt0.false) in
    rw (itself c.args.byte none c.if-byte-lt32.false) (search rules)
