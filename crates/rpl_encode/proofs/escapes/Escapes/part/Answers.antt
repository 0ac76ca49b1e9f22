use Rattle.std.proofs.Common.{◌≡◌, true, sym, subst, ap, ◌∙◌, rules}
use Rattle.std.specs.Prelude.{slice_range}
use Rattle.json.specs.Print.{escape}
use Rattle.rpl_print.specs.Quoted.{is_plain}
use Rattle.rpl_encode.specs.inside.Escapes.{AreBy}
use Rattle.rpl_encode.proofs.Escaping.{clamped, plain_part}
use Rattle.rpl_encode.proofs.escapes.Escapes.part.Goals as goal

pub returns-in-Plain : goal.returns-in-Plain
returns-in-Plain c =
    let line = c.args.line.now in
    let plain : is_plain line ≡ true =
    subst (λ k. AreBy line c.args.self.now.string.items c.args.self.now.places.items k) c.in-Plain.is c.requires in
    let same : c.part_of.result.now ≡ escape (slice_range line c.args.start c.args.end) =
    c.part_of.ensures ∙ sym (plain_part line c.args.start c.args.end plain) in
    search rules

pub returns-in-Kept : goal.returns-in-Kept
returns-in-Kept c =
    let line = c.args.line.now in
    let same : c.cut_out.result.now ≡ escape (slice_range line c.args.start c.args.end) =
    c.cut_out.ensures ∙ ap escape (clamped line c.args.start c.args.end c.min-start.result c.min-end.result
    c.min-end.ensures c.min-start.ensures) in
    search rules
