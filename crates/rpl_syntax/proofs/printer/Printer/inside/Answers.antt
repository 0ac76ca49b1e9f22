use Rattle.std.proofs.Common.{◌++◌, sym, ap, ◌∙◌}
use Rattle.std.proofs.lemmas.Iterator.{YieldsList-from_chars}
use Rattle.std.proofs.lemmas.Iterator.Consumers.{YieldsList-end}
use Rattle.std.proofs.lemmas.List.{map-id}
use Rattle.rpl_syntax.specs.Printed.{quoted, quoted_char}
use Rattle.rpl_syntax.proofs.Grown.{then, quoted_more}
use Rattle.rpl_syntax.proofs.printer.Printer.inside.Goals as goal

pub loop-c-preserved : goal.loop-c-preserved
loop-c-preserved c =
    then c.args.self.now c.loop-c.self c.quoted.new.self (quoted c.loop-c.yielded) (quoted_char c.in-Some.c)
    c.loop-c.invariant c.in_ok-quoted.ensures
    ∙ ap (λ x. c.args.self.now ++ x) (sym (quoted_more c.loop-c.yielded c.in-Some.c))

pub returns : goal.returns
returns c =
    let t = YieldsList-end (YieldsList-from_chars c.args.text.now c.utf8.text cc) c.loop-c.yielded _ c.loop-c.yielded_by
    _ _ c.in-None.is c.next.ensures.steps in
    c.loop-c.invariant ∙ ap (λ cs. c.args.self.now ++ quoted cs) (sym (map-id c.loop-c.yielded) ∙ t.0)
