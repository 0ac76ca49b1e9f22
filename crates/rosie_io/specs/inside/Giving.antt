-- What a read gave.
use Rattle.std.specs.Prelude.{ℕ}
use Rattle.rosie_io.specs.declared.outside.ReadAnswer.{ReadAnswer}
use Rattle.rosie_io.specs.declared.outside.ReadAnswer.TheVariants.{Took, End, Failed}

-- how many bytes it gave
abbrev pub given : ReadAnswer → ℕ
given (Took n) = n
given End = 0
given Failed = 0
