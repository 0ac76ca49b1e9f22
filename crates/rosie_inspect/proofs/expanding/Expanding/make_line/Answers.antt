use Rattle.std.proofs.Common.{◌+◌, ◌++◌, refl, drop, arith, length-append}
use Rattle.std.specs.Prelude.{decimal}
use Rattle.rpl_core.specs.Listed.{rules_of}
use Rattle.rpl_core.specs.Table.{names_of}
use Rattle.rpl_core.specs.Program.{instructions}
use Rattle.rosie_inspect.specs.Listing.{code_line, lines}
use Rattle.rosie_inspect.proofs.Tokens.{turns_by}
use Rattle.rosie_inspect.proofs.expanding.Expanding.make_line.Goals as goal

pub returns : goal.returns
returns c =
    let s = c.args.self.now in let rs = rules_of s.rules.now in let bs = s.marks.now in let names = names_of rs in
    let program = c.args.program.now in let line = code_line program c.args.instr c.args.places.0 in
    let next = c.args.places.1 in let more = lines next (drop next (instructions program)) in
    turns_by (line ++ more) line more _ _ _ _ c.in_ok-push_line.ensures refl (c.in_ok-push_code.ensures rs bs)
    (omega (arith, length-append (decimal c.args.places.0)))
