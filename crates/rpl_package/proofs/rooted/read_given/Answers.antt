use Rattle.std.proofs.Common.{ap, sym, subst, ◌∙◌}
use Rattle.std.specs.Prelude.{encode_utf8_all}
use Rattle.rpl_syntax.specs.Modules.{said}
use Rattle.rpl_scope.specs.Faults.{Gives}
use Rattle.rpl_names.specs.Texts.{module_text}
use Rattle.rpl_scope.proofs.Characters.{encoded}
use Rattle.rpl_package.proofs.rooted.read_given.Goals as goal

pub returns-clause-gives : goal.returns-clause-gives
returns-clause-gives c =
    let b = c.as_str-bytes.result.now in
    let same = sym (encoded b c.as_str-bytes.utf8) ∙ ap encode_utf8_all c.as_str-bytes.ensures in
    subst (Gives said c.read_text.result) (ap (module_text c.args.file.now) same) c.read_text.ensures.gives
