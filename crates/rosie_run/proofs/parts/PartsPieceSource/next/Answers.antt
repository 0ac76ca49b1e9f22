use Rattle.std.proofs.Common.{◌≡◌, ◌<◌, ◌++◌, ◌∙◌, append_assoc, arith, drop, length, refl, string_bytes, sym}
use Rattle.std.proofs.lemmas.Bool.Decides.{nat_tests}
use Rattle.rosie_run.proofs.Parted.{gives_none, gives_part}
use Rattle.rosie_run.proofs.parts.PartsPieceSource.next.Goals as goal

pub returns-then-is_empty-clause-gives : goal.returns-then-is_empty-clause-gives
returns-then-is_empty-clause-gives g c = λ ps comes.
    let f = c.in_ok-fill.ensures in let z = c.fill.new.self in
    let bit = drop z.from (string_bytes z.bit) in let left = g.T.TextSource.left z.text in
    let none : length z.part.items ≡ 0 = grind (arith, nat_tests) in (
      gives_none z.part.items (bit ++ left) _ (sym (append_assoc z.part.items bit left) ∙ f.left) f.fits f.full ps comes
          none,
      refl,
    )

pub returns-clause-gives : goal.returns-clause-gives
returns-clause-gives g c = λ ps comes.
    let f = c.in_ok-fill.ensures in let z = c.fill.new.self in
    let bit = drop z.from (string_bytes z.bit) in let left = g.T.TextSource.left z.text in
    let some : 0 < length z.part.items = grind (arith, nat_tests) in
    gives_part z.part.items (bit ++ left) _ (sym (append_assoc z.part.items bit left) ∙ f.left) f.fits f.full ps _ comes
    some
