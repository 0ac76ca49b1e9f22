use Rattle.std.proofs.Common.{◌<◌, ◌++◌, ◌∙◌, ap, arith, length, sym}
use Rattle.rpl_core.specs.Numbers.{instr_of}
use Rattle.rpl_core.specs.Program.{code_of, labels_of, sets_of}
use Rattle.rosie_inspect.specs.Items.{stack_text}
use Rattle.rosie_inspect.proofs.Tokens.{lines_at}
use Rattle.rosie_inspect.proofs.expanding.push_code.Goals as goal

pub returns : goal.returns
returns c = λ rs bs.
    let program = c.args.program.now in let a = c.args.address in
    let f = instr_of (sets_of program) (labels_of program) in
    let long = ap length c.code-code.ensures.same in
    let within : a < length (code_of program) = omega arith in
    (rw c.code-code.ensures.same at (c.in_ok-push_item.ensures rs bs))
    ∙ ap (λ x. x ++ stack_text rs bs c.args.todo.now.items) (sym (lines_at f (code_of program) a a _ within))
