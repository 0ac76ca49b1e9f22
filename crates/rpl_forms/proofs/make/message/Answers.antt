use Rattle.std.proofs.Common.{sym, ap, ◌∙◌}
use Rattle.std.proofs.lemmas.Result.{IfOk-weaker}
use Rattle.rpl_core.specs.Core as C
use Rattle.rpl_forms.specs.Counting.{seen}
use Rattle.rpl_macro.proofs.Rows.{no_text}
use Rattle.rpl_forms.proofs.make.message.Goals as goal

pub returns-in_default : goal.returns-in_default
returns-in_default c =
    let none = c.empty.ensures ∙ sym (no_text c.args.arg.now c.in_default.not-Text) in
    IfOk-weaker c.note-in_default-2.result _ _ (λ q h. λ I. h I ∙ ap (λ t. seen c.args.in_lookbehind I (C.Note t)) none)
    c.note-in_default-2.ensures
