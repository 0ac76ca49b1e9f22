use Rattle.std.proofs.Common.{◌∙◌, Some, sym, ap, arith}
use Rattle.std.specs.Prelude.{chars}
use Rattle.rpl_text.proofs.Stepped.{stepped}
use Rattle.rpl_classes.proofs.Scans.{scan_plain, scan_end, scan_bad, scan_escape}
use Rattle.rpl_text.proofs.Escaped.{byte_stood}
use Rattle.rpl_classes.proofs.symbols.symbol_at.Goals as goal

pub returns-in-None : goal.returns-in-None
returns-in-None c = scan_end _ _ c.requires c.in-None.ensures

pub returns-then-c-ne92 : goal.returns-then-c-ne92
returns-then-c-ne92 c = scan_plain _ _ _ _ c.requires c.in-Some.ensures c.if-c-ne92.true

pub read_escape-requires : goal.read_escape-requires
read_escape-requires c =
    let s = stepped (chars c.args.text.now) c.args.place c.in-Some.c c.in-Some.next c.requires c.in-Some.ensures in
    byte_stood c.args.text.now c.args.place 92 c.utf8.text c.requires (s.get ∙ ap Some c.if-c-ne92.false) (omega arith)

pub returns-in-Some-read_escape : goal.returns-in-Some-read_escape
returns-in-Some-read_escape c =
    scan_escape (chars c.args.text.now) c.args.place c.in-Some.next _ _ c.requires
    (ap (λ x. Some (x, c.in-Some.next)) (sym c.if-c-ne92.false)
    ∙ c.in-Some.ensures) c.in-Some-read_escape.ensures.chars

pub returns-in-None-read_escape : goal.returns-in-None-read_escape
returns-in-None-read_escape c =
    scan_bad (chars c.args.text.now) c.args.place c.in-Some.next c.requires
    (ap (λ x. Some (x, c.in-Some.next)) (sym c.if-c-ne92.false)
    ∙ c.in-Some.ensures) c.in-None-read_escape.ensures.chars
