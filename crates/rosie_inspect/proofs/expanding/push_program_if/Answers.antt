use Rattle.std.proofs.Common.{◌≡◌, ◌++◌, subst, sym}
use Rattle.std.specs.Prelude.{OnOk}
use Rattle.rosie_inspect.specs.Items.{stack_text}
use Rattle.rosie_inspect.specs.Listing.{code_text}
use Rattle.rosie_inspect.proofs.expanding.push_program_if.Goals as goal

pub returns-in-Some : goal.returns-in-Some
returns-in-Some c = λ rs bs.
    subst (λ o. OnOk c.push_code.result (stack_text rs bs c.push_code.new.todo.items
    ≡ code_text o ++ stack_text rs bs c.args.todo.now.items)) (sym c.in-Some.is) (c.push_code.ensures rs bs)
