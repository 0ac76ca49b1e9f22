use Rattle.std.proofs.Common.{◌++◌, ◌∙◌, ap, string_bytes}
use Rattle.rpl_core.specs.Listed.{rules_of}
use Rattle.rosie_inspect.specs.Items.{stack_text}
use Rattle.rosie_inspect.proofs.Tokens.{stack_push}
use Rattle.rosie_inspect.proofs.expanding.Expanding.push_next.Goals as goal

pub returns-in_ok-make-in-Some-clause-text : goal.returns-in_ok-make-in-Some-clause-text
returns-in_ok-make-in-Some-clause-text c =
    let s = c.args.self.now in let rs = rules_of s.rules.now in let bs = s.marks.now in
    let out = string_bytes c.args.out.now in
    ap (λ x. out ++ stack_text rs bs x) c.in-Some.ensures.items
    ∙ ap (λ x. out ++ x) (stack_push rs bs c.pop.new.self.items c.in-Some.item) ∙ c.in_ok-make-in-Some.ensures.0
