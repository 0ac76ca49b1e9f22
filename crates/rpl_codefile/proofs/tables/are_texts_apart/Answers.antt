use Rattle.std.proofs.Common.{length, refl, ◌∙◌, ap}
use Rattle.std.specs.Prelude.{chars, string_bytes}
use Rattle.std.proofs.lemmas.Bool.{false≢true}
use Rattle.std.proofs.lemmas.Option.{slice_get_read}
use Rattle.rpl_codefile.proofs.Knowing.{strings_cmp, known_before, next_known, same_strings, tied_strings}
use Rattle.rpl_codefile.proofs.tables.are_texts_apart.Goals as goal

pub returns-then-not-branch : goal.returns-then-not-branch
returns-then-not-branch c = (
  λ e. absurd (false≢true e),
  λ apart. absurd (known_before strings_cmp (λ s. chars (string_bytes s)) c.loop-text.known c.in_ok-from_str.field-0
      c.args.texts.now c.loop-text.text-index c.text-item.result c.in_ok-insert.field-0
      (slice_get_read c.args.texts.now (length c.args.texts.now) c.loop-text.text-index c.text-item.result refl
      c.loop-text-test.true c.text-item.is)
      (ap chars c.in_ok-from_str.ensures.ok ∙ c.as_str.ensures) c.in_ok-insert.ensures.added c.if-not-branch.true
      c.loop-text.invariant apart),
)

pub loop-text-preserved : goal.loop-text-preserved
loop-text-preserved c =
    next_known strings_cmp (λ s. chars (string_bytes s)) same_strings tied_strings c.loop-text.known c.insert.new.self
    c.in_ok-from_str.field-0 _ c.in_ok-insert.ensures.updates c.args.texts.now c.loop-text.text-index
    c.text-item.result c.in_ok-insert.field-0 refl
    (slice_get_read c.args.texts.now (length c.args.texts.now) c.loop-text.text-index c.text-item.result refl
    c.loop-text-test.true c.text-item.is)
    (ap chars c.in_ok-from_str.ensures.ok ∙ c.as_str.ensures) c.in_ok-insert.ensures.added c.if-not-branch.false
    c.loop-text.invariant
