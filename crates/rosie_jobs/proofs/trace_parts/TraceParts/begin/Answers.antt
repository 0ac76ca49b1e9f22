use Rattle.std.proofs.Common.{◌++◌, ◌∙◌, ap, refl, string_bytes}
use Rattle.std.specs.Prelude.{codes}
use Rattle.std.specs.Fmt.{decimal}
use Rattle.rpl_trace.specs.Left.{left_of}
use Rattle.rosie_jobs.specs.Tracing.{left_in, made_in}
use Rattle.rosie_jobs.proofs.TraceParts.{part_joined}
use Rattle.rosie_jobs.proofs.Traced.{four_texts}
use Rattle.rosie_jobs.proofs.trace_parts.TraceParts.begin.Goals as goal

pub returns : goal.returns
returns c =
    let p = c.fill.new.self in
    part_joined (made_in p) (left_in p) ∙ c.in_ok-fill.ensures.text
    ∙ four_texts (codes "line ") (decimal c.args.number) (codes "\n") (left_of c.args.lines) _ _
    (string_bytes c.push_str-2.new.self) _
    (c.in_ok-push_str.ensures.bytes ∙ ap (λ x. x ++ codes "line ") c.clear.ensures.made) c.in_ok-push_decimal.ensures.ok
    c.in_ok-push_str-2.ensures.bytes refl
