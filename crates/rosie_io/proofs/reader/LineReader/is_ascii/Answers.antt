use Rattle.std.proofs.Common.{subst}
use Rattle.std.specs.Prelude.{IsTrue, ◌↔◌}
use Rattle.std.specs.Str.{IsAscii}
use Rattle.rosie_io.specs.Reader.{Reader}
use Rattle.rosie_io.proofs.reader.LineReader.is_ascii.Goals as goal

pub returns : goal.returns
returns c = let P : Reader → Type 0 = λ r. IsTrue c.self.inside.is_ascii ↔ IsAscii r.text in
    subst P c.self.view_is c.self.invariant.4
