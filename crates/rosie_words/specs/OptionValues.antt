-- What one more option sets: for the contracts of private functions.
use Rattle.std.specs.Prelude.{true, [], ◌∷◌, ◌++◌, Some, unwrap_or, chars, codes}
use Rattle.rosie_words.specs.declared.option_values.OptionValues.{OptionValues}
use Rattle.rosie_words.specs.declared.table.OptionName.{OptionName}
use Rattle.rosie_words.specs.declared.table.OptionName.TheVariants as O
use Rattle.rosie_words.specs.Table.{Word, row}
use Rattle.rosie_words.specs.Values.{path_of, style_named, number_of}
use Rattle.rosie_words.specs.Options.{root}

-- the settings with one more option
abbrev pub put : OptionName → Word → OptionValues → OptionValues
put O.File v s = record s { roots = s.roots ++ root O.File v }
put O.Rpl v s = record s { roots = s.roots ++ root O.Rpl v }
put O.LibPath v s = record s { folders = unwrap_or (path_of v) (chars (codes ".") ∷ []) }
put O.Output v s = record s { style = style_named v }
put O.WholeFile v s = record s { whole = true }
put O.All v s = record s { all = true }
put O.FixedStrings v s = record s { fixed = true }
put O.Budget v s = record s { budget = number_of (row O.Budget).value v }
put O.Steps v s = record s { steps = true }
put O.Code v s = record s { code = true }
put O.Limit v s = record s { limit = unwrap_or (number_of (row O.Limit).value v) 10000 }
put O.CodeFile v s = record s { code_file = Some (chars v) }
