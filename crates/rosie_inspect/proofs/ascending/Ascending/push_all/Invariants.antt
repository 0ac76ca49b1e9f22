use Rattle.std.proofs.Common.{ℕ, List, ◌++◌, take, string_bytes}
use Rattle.std.specs.Prelude.{map}
use Rattle.rosie_inspect.specs.Ascending.{AreWritten}
use Rattle.rosie_inspect.proofs.ascending.Ascending.push_all.Given as goal

abbrev pub invariant-loop-end : goal.invariant-loop-end
invariant-loop-end l =
    (done : List (List ℕ)) → AreWritten done (string_bytes l.fn.self.text) l.fn.self.last
    → AreWritten (done ++ map (λ e. l.front ++ string_bytes e) (take l.end-index l.ends)) (string_bytes l.self.text)
    l.self.last
