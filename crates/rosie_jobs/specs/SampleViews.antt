-- How contracts see the run of a sample.
use Rattle.std.specs.Prelude.{List}
use Rattle.rosie_jobs.specs.Jobs.{matcher_of}
use Rattle.rosie_jobs.specs.Makers.{makes_of}
use Rattle.rosie_run.specs.Report.{Piece}
use Rattle.rosie_jobs.specs.SampleCounts.{sample_pieces}
use Rattle.rosie_jobs.specs.declared.sample_run.SampleRun.{SampleRun}
use Rattle.rosie_jobs.specs.SampleRuns.{Sampled}

abbrev pub sampled_of : SampleRun → Sampled
sampled_of r = record { maker = matcher_of r.job; seed = r.sample.number; lines = r.lines }

-- the pieces that are written
abbrev pub report_of : SampleRun → List Piece
report_of r = sample_pieces (makes_of (matcher_of r.job)) r.sample.number r.lines
