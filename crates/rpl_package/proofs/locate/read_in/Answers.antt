use Rattle.std.proofs.Common.{◌++◌, ◌∷◌, [], ap, sym, ◌∙◌, refl}
use Rattle.std.specs.Prelude.{encode_utf8_all, string_bytes}
use Rattle.rosie_io.specs.Opening.{file_of}
use Rattle.rpl_scope.proofs.Characters.{encoded}
use Rattle.rpl_package.proofs.Causes.{read_cause}
use Rattle.rpl_package.proofs.Locating.{stop_for}
use Rattle.rpl_package.proofs.locate.read_in.Goals as goal

pub returns-in-Ok-clause-found : goal.returns-in-Ok-clause-found
returns-in-Ok-clause-found g c = λ t.
    let path = sym (encoded c.as_str.result.now c.as_str.utf8) ∙ ap encode_utf8_all c.as_str.ensures in
    let there = ap (λ p. file_of p (g.F.Source.tree c.args.files.now)) (sym path) in
    let h = c.in-Ok.ensures.ok t in
    (string_bytes c.in-Ok.text, there ∙ h.0, (refl, h.1))

pub returns-in-Err-Missing-clause-found : goal.returns-in-Err-Missing-clause-found
returns-in-Err-Missing-clause-found g c = λ t.
    let path = sym (encoded c.as_str.result.now c.as_str.utf8) ∙ ap encode_utf8_all c.as_str.ensures in
    let there = ap (λ p. file_of p (g.F.Source.tree c.args.files.now)) (sym path) in
    let h = rw c.in-Err-Missing.field-0-is at c.in-Err-Missing.ensures.err t in
    there ∙ h

pub returns-in-Err-TooLong-clause-found : goal.returns-in-Err-TooLong-clause-found
returns-in-Err-TooLong-clause-found g c = λ t.
    let path = sym (encoded c.as_str.result.now c.as_str.utf8) ∙ ap encode_utf8_all c.as_str.ensures in
    let there = ap (λ p. file_of p (g.F.Source.tree c.args.files.now)) (sym path) in
    let h = rw c.in-Err-TooLong.field-0-is at c.in-Err-TooLong.ensures.err t in
    (h.0, there ∙ h.1, h.2)

pub returns-in-Err-NotText-clause-found : goal.returns-in-Err-NotText-clause-found
returns-in-Err-NotText-clause-found g c = λ t.
    let path = sym (encoded c.as_str.result.now c.as_str.utf8) ∙ ap encode_utf8_all c.as_str.ensures in
    let there = ap (λ p. file_of p (g.F.Source.tree c.args.files.now)) (sym path) in
    let h = rw c.in-Err-NotText.field-0-is at c.in-Err-NotText.ensures.err t in
    (h.0, there ∙ h.1, (h.2, h.3))

pub returns-in-Err-ReadFault-clause-files : goal.returns-in-Err-ReadFault-clause-files
returns-in-Err-ReadFault-clause-files g c =
    let h = rw c.in-Err-ReadFault.field-0-is at c.in-Err-ReadFault.ensures.cause in
    record {
      cause = read_cause c.fault_at.result _ _ _ _ _ c.fault_at.ensures refl h;
      taken = c.read_file.ensures.taken;
      tree = c.read_file.ensures.tree;
      closed = λ _. c.read_file.ensures.is_open;
    }

pub returns-in-Ok-clause-asked : goal.returns-in-Ok-clause-asked
returns-in-Ok-clause-asked g c =
    let path = sym (encoded c.as_str.result.now c.as_str.utf8) ∙ ap encode_utf8_all c.as_str.ensures in
    c.read_file.ensures.asked ∙ ap (λ p. g.F.Source.asked c.args.files.now ++ p ∷ []) path

pub returns-in-Err-Missing-clause-asked : goal.returns-in-Err-Missing-clause-asked
returns-in-Err-Missing-clause-asked g c =
    let path = sym (encoded c.as_str.result.now c.as_str.utf8) ∙ ap encode_utf8_all c.as_str.ensures in
    c.read_file.ensures.asked ∙ ap (λ p. g.F.Source.asked c.args.files.now ++ p ∷ []) path

pub returns-in-Err-TooLong-clause-asked : goal.returns-in-Err-TooLong-clause-asked
returns-in-Err-TooLong-clause-asked g c =
    let path = sym (encoded c.as_str.result.now c.as_str.utf8) ∙ ap encode_utf8_all c.as_str.ensures in
    c.read_file.ensures.asked ∙ ap (λ p. g.F.Source.asked c.args.files.now ++ p ∷ []) path

pub returns-in-Err-NotText-clause-asked : goal.returns-in-Err-NotText-clause-asked
returns-in-Err-NotText-clause-asked g c =
    let path = sym (encoded c.as_str.result.now c.as_str.utf8) ∙ ap encode_utf8_all c.as_str.ensures in
    c.read_file.ensures.asked ∙ ap (λ p. g.F.Source.asked c.args.files.now ++ p ∷ []) path

pub returns-in-Err-NoMemory-clause-asked : goal.returns-in-Err-NoMemory-clause-asked
returns-in-Err-NoMemory-clause-asked g c =
    let path = sym (encoded c.as_str.result.now c.as_str.utf8) ∙ ap encode_utf8_all c.as_str.ensures in
    c.read_file.ensures.asked ∙ ap (λ p. g.F.Source.asked c.args.files.now ++ p ∷ []) path

pub returns-in-Err-ReadFault-clause-asked : goal.returns-in-Err-ReadFault-clause-asked
returns-in-Err-ReadFault-clause-asked g c =
    let path = sym (encoded c.as_str.result.now c.as_str.utf8) ∙ ap encode_utf8_all c.as_str.ensures in
    c.read_file.ensures.asked ∙ ap (λ p. g.F.Source.asked c.args.files.now ++ p ∷ []) path

pub returns-in-Err-ReadFault-clause-asks : goal.returns-in-Err-ReadFault-clause-asks
returns-in-Err-ReadFault-clause-asks g c = stop_for c.fault_at.result _ c.fault_at.ensures
