use Rattle.rosie_jobs.proofs.SampleShort.{on_ok, short_after}
use Rattle.rosie_jobs.proofs.sample.Sample.advance.Goals as goal

pub returns-clause-short : goal.returns-clause-short
returns-clause-short c =
    on_ok c.push_line.result _ _
    (short_after _ _ c.self.inside.number c.next-self-inside.result c.clear.ensures.bytes c.next-self-inside.ensures)
    c.push_line.ensures
