-- Imports that bring names without a prefix.
use Rattle.std.specs.Prelude.{Bool, true, false}
use Rattle.rpl_syntax.specs.declared.module.ImportAs.{ImportAs}
use Rattle.rpl_syntax.specs.declared.module.ImportAs.TheVariants.{Last, Named, Plain}

abbrev pub is_plain : ImportAs → Bool
is_plain Last = false
is_plain (Named p) = false
is_plain Plain = true
