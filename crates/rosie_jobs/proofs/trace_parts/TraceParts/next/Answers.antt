use Rattle.std.proofs.Common.{◌++◌, ◌∙◌, ap, arith, refl, string_bytes}
use Rattle.std.specs.contracts.alloc.AllocError as AE
use Rattle.rosie_jobs.specs.Tracing.{left_if, left_in}
use Rattle.rosie_jobs.proofs.TraceParts.{gives_made, gives_more}
use Rattle.rosie_jobs.proofs.trace_parts.TraceParts.next.Goals as goal

pub returns-then-to-len : goal.returns-then-to-len
returns-then-to-len c =
    let p = c.args.self.now in
    gives_made p.from _ (string_bytes p.made) (left_in p) c.part.result.now c.part.ensures refl (omega arith)

pub returns : goal.returns
returns c =
    let p = c.args.self.now in let q = c.fill.new.self in
    gives_more p.from _ (string_bytes p.made) (left_in p) c.part.result.now c.part.ensures refl AE.the_row.Denot q.from
    c.len-2.result (string_bytes q.made) (left_in q) (omega arith) (omega (arith, c.len-2.ensures, q.made.bytes.ok.0))
    (c.in_ok-fill.ensures.text ∙ ap (λ x. x ++ left_in c.clear_made.new.self) c.clear_made.ensures.made
    ∙ ap left_if c.clear_made.ensures.lines)
    c.in_ok-fill.ensures.ends
