use Rattle.std.proofs.Common.{◌≡◌, ◌++◌, drop, string_bytes}
use Rattle.std.specs.List.{concat}
use Rattle.std.specs.Prelude.{map}
use Rattle.rosie_inspect.proofs.names.join.Given as goal

-- what is written, with the lines that are left, is the whole
abbrev pub invariant-loop-line : goal.invariant-loop-line
invariant-loop-line l =
    string_bytes l.text ++ concat (map (λ l. string_bytes l) (drop l.line-index l.lines))
    ≡ concat (map (λ l. string_bytes l) l.lines)
