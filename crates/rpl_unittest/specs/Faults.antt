-- What a fault says of a text.
use Rattle.std.specs.Prelude.{ℕ, List, ⊤}
use Rattle.rpl_unittest.specs.Comments.{HasBad}
use Rattle.rpl_unittest.specs.declared.reader.TestFault.{TestFault}
use Rattle.rpl_unittest.specs.declared.reader.TestFault.TheVariants.{NoMemory, BadTest}

-- memory ran out, or the line is the first whose test comment has no reading
abbrev pub IsFault : List ℕ → TestFault → Type 0
IsFault text NoMemory = ⊤
IsFault text (BadTest k) = HasBad text k
