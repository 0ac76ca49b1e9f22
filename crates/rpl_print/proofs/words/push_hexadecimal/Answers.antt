use Rattle.std.proofs.Common.{arith, drop, subst, sym, ◌-◌, ◌∙◌}
use Rattle.std.proofs.lemmas.List.{length-drop, take_all}
use Rattle.std.specs.Str.{IsUtf8}
use Rattle.rpl_print.proofs.Hexadecimal.{digits_text}
use Rattle.rpl_print.proofs.words.push_hexadecimal.Goals as goal

pub from_utf8_unchecked-requires : goal.from_utf8_unchecked-requires
from_utf8_unchecked-requires c =
    let room = c.put_digits-start.new.room in
    let start = c.put_digits-start.result in
    let all = take_all (64 - start) (drop start room) (omega (arith, length-drop start room)) in
    subst IsUtf8 (sym (all ∙ c.put_digits-start.ensures.digits)) (digits_text c.args.number)
