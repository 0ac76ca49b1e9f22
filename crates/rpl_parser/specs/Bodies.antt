-- What is true of the body of each rule of a module: it has the form of a reading, and can be written.
use Rattle.std.specs.Prelude.{List, [], ◌∷◌}
use Rattle.rpl_syntax.specs.Expression.{Expr}
use Rattle.rpl_syntax.specs.Modules.{Rule, Entry, One, Block}
use Rattle.rpl_syntax.specs.Readable.{Good}
use Rattle.rpl_syntax.specs.Texts.{Writable}

abbrev pub Written : Expr → Type 0
Written x = Good x × Writable x

abbrev pub RulesWritten : List Rule → Type 0
RulesWritten [] = Unit {0}
RulesWritten (r ∷ rs) = Written r.body × RulesWritten rs

abbrev pub EntryWritten : Entry → Type 0
EntryWritten (One r) = Written r.body
EntryWritten (Block hidden visible) = RulesWritten hidden × RulesWritten visible

abbrev pub BodiesWritten : List Entry → Type 0
BodiesWritten [] = Unit {0}
BodiesWritten (e ∷ es) = EntryWritten e × BodiesWritten es
