use Rattle.std.proofs.Common.{◌≡◌, [], ◌∙◌, refl}
use Rattle.std.specs.Prelude.{codes}
use Rattle.rpl_macro.proofs.Names.{chars_low, encode_low}
use Rattle.rpl_macro.proofs.uses.halt.Goals as goal

pub returns : goal.returns
returns c =
    let word = codes "halt" in
    let name : c.in_ok-from_str.field-0 ≡ word = c.in_ok-from_str.ensures
    ∙ chars_low word (word, (refl, encode_low word refl)) refl in
    let prefix : c.empty.result ≡ [] = c.empty.ensures in
    rw (name, prefix) refl
