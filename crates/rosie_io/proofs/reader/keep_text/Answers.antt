use Rattle.std.proofs.Common.{ap, sym, ◌∙◌}
use Rattle.std.specs.Str.{is_utf8}
use Rattle.std.proofs.lemmas.Str.{IsUtf8-from_is_utf8}
use Rattle.rosie_io.proofs.reader.keep_text.Goals as goal

pub returns-then-is_text-clause-utf8 : goal.returns-then-is_text-clause-utf8
returns-then-is_text-clause-utf8 c = IsUtf8-from_is_utf8 c.args.line.now.items (ap is_utf8 (sym c.deref-2.ensures.value)
    ∙ sym c.is_text.ensures ∙ c.if-is_text.true)
