use Rattle.std.proofs.Common.{take}
use Rattle.std.specs.Prelude.{chars, string_bytes}
use Rattle.rpl_codefile.proofs.Knowing.{Knows, strings_cmp}
use Rattle.rpl_codefile.proofs.tables.are_texts_apart.Given as goal

abbrev pub invariant-loop-text : goal.invariant-loop-text
invariant-loop-text l = Knows strings_cmp (λ s. chars (string_bytes s)) l.known (take l.text-index l.texts)
