use Rattle.std.proofs.Common.{◌≡◌, ◌-◌, take, ap, sym, ◌∙◌, ◌++◌, arith}
use Rattle.std.specs.Prelude.{encode_utf8}
use Rattle.rpl_text.proofs.Walks.{place_cut, before_at}
use Rattle.rpl_text.proofs.line.before.Goals as goal

pub range-requires-clause-end_boundary : goal.range-requires-clause-end_boundary
range-requires-clause-end_boundary c = place_cut _ _ c.utf8.line c.requires.here

pub returns-in-Some : goal.returns-in-Some
returns-in-Some c =
    let n : c.args.place ≡ c.args.place - 0 = omega arith in
    let e = ap (λ k. take k c.args.line.now) n ∙ sym c.range.ensures.value ∙ sym c.chars-chars.ensures.rest
    ∙ c.in-Some.ensures.steps ∙ ap (λ t. t ++ encode_utf8 c.in-Some.field-0) (sym c.as_str.ensures) in
    before_at c.args.line.now c.as_str.result.now c.args.place c.in-Some.field-0 c.utf8.line c.as_str.utf8
    c.requires.here e
