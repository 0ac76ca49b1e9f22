-- Where rules begin.
use Rattle.std.specs.Prelude.{ℕ, nat_lt, if◌then◌else◌, List, [], ◌∷◌}
use Rattle.rpl_codegen.specs.declared.starts.Start.{Start}

-- where the first of these rules begins that has at least this number, or the end
abbrev pub start_from : List Start → ℕ → ℕ → ℕ
start_from [] r end = end
start_from (s ∷ ss) r end = if nat_lt s.rule r then start_from ss r end else s.address
