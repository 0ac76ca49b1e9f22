use Rattle.std.proofs.Common.{◌≡◌, ◌++◌, ◌<◌, ◌^◌, length, sym, ◌∙◌, subst}
use Rattle.std.specs.Prelude.{OnOk}
use Rattle.std.proofs.lemmas.Str.{encodes-chars}
use Rattle.rpl_codefile.specs.Spelling.{counted}
use Rattle.rpl_codefile.proofs.Texts.{text_fits}
use Rattle.rpl_codefile.proofs.writing.put_text.Goals as goal

pub returns-clause-bytes : goal.returns-clause-bytes
returns-clause-bytes c =
    subst (λ b. OnOk c.put_bytes.result (c.put_bytes.new.out ≡ c.args.out.now ++ counted b)) (c.as_bytes.ensures.value
    ∙ sym (encodes-chars c.args.item.now c.utf8.item)) c.put_bytes.ensures.bytes

pub returns-clause-fits : goal.returns-clause-fits
returns-clause-fits c =
    text_fits c.put_bytes.result c.args.item.now c.utf8.item
    (subst (λ b. OnOk c.put_bytes.result (length b < 2 ^ 64)) c.as_bytes.ensures.value c.put_bytes.ensures.short)
