use Rattle.std.proofs.lemmas.Str.{chars-nil}
use Rattle.std.proofs.Common.{arith}
use Rattle.rosie_words.proofs.what.what.Goals as goal

pub returns-then-has_code-clause-ok : goal.returns-then-has_code-clause-ok
returns-then-has_code-clause-ok c = let e = chars-nil in grind arith
