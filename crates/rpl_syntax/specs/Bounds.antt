-- The numbers of bounds.
use Rattle.std.specs.Prelude.{ℕ, Option, Some, if◌then◌else◌}
use Rattle.std.specs.Option.{unwrap_or}
use Rattle.rpl_lexer.specs.declared.bounds.Bounds.{Bounds as Numbers}

-- `{n}` is n and n, `{n,m}` n and m, `{n,}` n and none; a first number that isn't there is 0
abbrev pub least_of : Numbers → ℕ
least_of b = unwrap_or b.least 0

abbrev pub most_of : Numbers → Option ℕ
most_of b = if b.comma then b.most else Some (least_of b)
