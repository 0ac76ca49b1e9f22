-- The run over a sample, as contracts see it.
use Rattle.std.specs.Prelude.{ℕ}
use Rattle.rosie_jobs.specs.Makers.{Maker}

-- so many lines of the sample of a seed, and what makes a piece of each
pub record Sampled : Type 0 where
  pub maker : Maker
  pub seed : ℕ
  pub lines : ℕ
