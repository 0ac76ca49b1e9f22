use Rattle.std.proofs.Common.{[], sym, ap, ◌∙◌}
use Rattle.std.specs.Prelude.{chars, option_map}
use Rattle.std.specs.Option.{option_copied}
use Rattle.std.proofs.lemmas.Str.{chars-nil}
use Rattle.rpl_core.specs.Program.{labels_of}
use Rattle.rpl_reference.proofs.Captures.{read_none}
use Rattle.rpl_reference.proofs.machine.text_of.Goals as goal

pub returns-in-None : goal.returns-in-None
returns-in-None c =
    let none =
    read_none (labels_of c.args.program.now) c.args.id [] (sym c.label.ensures
    ∙ ap (λ o. option_map chars (option_copied o)) c.in-None.is) in
    rw (none, ← chars-nil) c.from_str-in-None.ensures
