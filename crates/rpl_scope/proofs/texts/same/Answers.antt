use Rattle.std.proofs.Common.{◌∙◌, ap₂}
use Rattle.std.specs.Str.{bytes_eq}
use Rattle.rpl_scope.proofs.Characters.{same_chars}
use Rattle.rpl_scope.proofs.texts.same.Goals as goal

pub returns : goal.returns
returns c = c.eq.ensures ∙ same_chars c.as_str.result.now c.as_str-2.result.now c.as_str.utf8 c.as_str-2.utf8
    ∙ ap₂ bytes_eq c.as_str.ensures c.as_str-2.ensures
