use Rattle.std.proofs.Common.{◌≤◌, ◌<◌, length, sym, subst, refl, arith}
use Rattle.std.proofs.lemmas.Bool.Decides.{nat_tests}
use Rattle.rpl_syntax.specs.Modules.{said}
use Rattle.rpl_scope.specs.Faults.{Gives, StopIs}
use Rattle.rpl_names.specs.Texts.{max_text_bytes}
use Rattle.rpl_names.proofs.Building.{said_by}
use Rattle.rpl_package.proofs.Readings.{is_parsed, too_long}
use Rattle.rpl_scope.proofs.Stops.{told}
use Rattle.rpl_package.proofs.reading.read_text.Goals as goal

pub returns : goal.returns
returns c =
    let text = c.args.text.now in
    let short : length text ≤ max_text_bytes = grind (arith, nat_tests) in
    let same = is_parsed c.args.file.now text short c.utf8.text in
    let gives = subst (Gives said c.parse.result) same c.parse.ensures in
    record { gives = gives; said = said_by c.args.file.now text c.parse.result gives }

pub returns-then-text-gt-MAX_TEXT_BYTES-clause-gives : goal.returns-then-text-gt-MAX_TEXT_BYTES-clause-gives
returns-then-text-gt-MAX_TEXT_BYTES-clause-gives c =
    let text = c.args.text.now in
    let long : max_text_bytes < length text = grind (arith, nat_tests) in
    subst (StopIs c.fault_at.result) (sym (too_long c.args.file.now text long))
    (told _ c.fault_at.result _ c.fault_at.ensures refl)
