use Rattle.std.proofs.Common.{◌≡◌, length, Some, ap, sym, ◌∙◌, ◌++◌, arith}
use Rattle.std.specs.Prelude.{encode_utf8}
use Rattle.rpl_text.proofs.Walks.{place_cut, step_some, step_none, next_end}
use Rattle.rpl_text.proofs.line.step_in.Goals as goal

pub range_from-requires : goal.range_from-requires
range_from-requires c = λ lt. place_cut _ _ c.utf8.line c.requires

pub returns-in-Some : goal.returns-in-Some
returns-in-Some c =
    let e = sym c.range_from.ensures.value ∙ sym c.chars-chars.ensures.rest ∙ c.in-Some.ensures.steps.0
    ∙ ap (λ t. encode_utf8 c.in-Some.c ++ t) (sym c.as_str.ensures) in
    let cut = place_cut c.args.line.now c.args.place c.utf8.line c.requires in
    ap (λ x. Some (c.in-Some.c, x)) (next_end c.args.line.now c.range_from.result.now c.as_str.result.now c.args.place
    c.in-Some.c cut.0 e)
    ∙ sym (step_some c.args.line.now c.as_str.result.now c.args.place c.in-Some.c c.utf8.line c.requires e)

pub returns-in-None : goal.returns-in-None
returns-in-None c =
    let cut = place_cut c.args.line.now c.args.place c.utf8.line c.requires in
    let none = c.in-None.ensures.steps.0 in
    let l : length c.range_from.result.now ≡ 0 = ap length (sym c.chars-chars.ensures.rest) ∙ none.0 in
    sym (step_none c.args.line.now c.args.place c.utf8.line c.requires (omega (arith, c.range_from.ensures.len, cut.0)))
