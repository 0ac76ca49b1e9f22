use Rattle.std.proofs.Common.{◌≡◌, sym, ap, ◌∙◌, rules}
use Rattle.std.specs.Prelude.{encode_utf8_all, string_bytes}
use Rattle.rpl_tree.specs.Trees.{label_in}
use Rattle.rpl_encode.proofs.Texts.{text_with}
use Rattle.rpl_encode.proofs.front.front_of.Goals as goal

pub returns-in-Some : goal.returns-in-Some
returns-in-Some c =
    let known = c.in-Some.known.now in
    let got = rw c.deref.ensures.value at c.in-Some.ensures.lookup in
    let text : encode_utf8_all (label_in c.args.fronts.now c.args.number) ≡ string_bytes known.label =
    ap (λ ts. encode_utf8_all (label_in ts c.args.number)) (sym c.fronts.view_is)
    ∙ text_with c.fronts.inside.list.items c.args.number known got.0 got.1 in
    rw text (search rules)
