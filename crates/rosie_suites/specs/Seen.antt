-- How contracts see a suite.
use Rattle.std.specs.Prelude.{List, map, encode_utf8_all}
use Rattle.rpl_core.specs.Table.{bodies_of}
use Rattle.rosie_suites.specs.Suites as S
use Rattle.rosie_suites.specs.Trials as T
use Rattle.rosie_suites.specs.Tried.{trial_of}
use Rattle.rosie_suites.specs.declared.suite.Suite.{Suite}

abbrev pub bench_of : Suite → T.Bench
bench_of s = record { file = encode_utf8_all s.file; prefix = encode_utf8_all s.prefix; budget = s.budget }

abbrev pub trials_of : Suite → List T.Trial
trials_of s = map (trial_of (bodies_of s.rules)) s.trials.items

abbrev pub suite_of : Suite → S.Suite
suite_of s = record { bench = bench_of s; trials = trials_of s }
