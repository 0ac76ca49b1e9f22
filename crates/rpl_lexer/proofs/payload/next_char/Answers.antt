use Rattle.std.proofs.Common.{◌∙◌, Some, sym, ap, subst, arith}
use Rattle.std.specs.Prelude.{chars}
use Rattle.rpl_text.proofs.Escaped.{byte_stood}
use Rattle.rpl_lexer.specs.inside.Decoding.{Decodes}
use Rattle.rpl_text.proofs.Stepped.{stepped}
use Rattle.rpl_lexer.proofs.Decoding.{reads_end, reads_quote, reads_plain, reads_escape}
use Rattle.rpl_lexer.proofs.payload.next_char.Goals as goal

pub returns-in_err-c : goal.returns-in_err-c
returns-in_err-c c =
    subst (Decodes (chars c.args.text.now) c.args.place) (sym c.from_residual.ensures)
    (reads_end (chars c.args.text.now) c.args.place (sym c.in_err-c.was ∙ c.step_at.ensures))

pub returns-then-c-eq34 : goal.returns-then-c-eq34
returns-then-c-eq34 c =
    reads_quote (chars c.args.text.now) c.args.place c.in_ok-c.next c.requires
    (ap (λ x. Some (x, c.in_ok-c.next)) (sym c.if-c-eq34.true) ∙ sym c.in_ok-c.was ∙ c.step_at.ensures)

pub read_escape-requires : goal.read_escape-requires
read_escape-requires c =
    let s = stepped (chars c.args.text.now) c.args.place c.in_ok-c.c c.in_ok-c.next c.requires (sym c.in_ok-c.was
    ∙ c.step_at.ensures) in
    byte_stood c.args.text.now c.args.place 92 c.utf8.text c.requires (s.get ∙ ap Some c.if-c-eq92.true) (omega arith)

pub returns-then-c-eq92 : goal.returns-then-c-eq92
returns-then-c-eq92 c =
    reads_escape (chars c.args.text.now) c.args.place c.in_ok-c.next c.read_escape.result c.requires
    (ap (λ x. Some (x, c.in_ok-c.next)) (sym c.if-c-eq92.true) ∙ sym c.in_ok-c.was
    ∙ c.step_at.ensures) c.read_escape.ensures.chars

pub returns : goal.returns
returns c =
    reads_plain (chars c.args.text.now) c.args.place c.in_ok-c.c c.in_ok-c.next c.requires (sym c.in_ok-c.was
    ∙ c.step_at.ensures) c.if-c-eq34.false c.if-c-eq92.false
