use Rattle.std.proofs.Common.{◌≡◌, ap, subst}
use Rattle.std.specs.Prelude.{IfOk, string_bytes}
use Rattle.std.specs.Option.{option_map}
use Rattle.rosie_prepare.proofs.Told.{line_due}
use Rattle.rosie_prepare.specs.Lines.{behind_line, check_line, recursion_line}
use Rattle.rpl_check.specs.Answers.{fault_named}
use Rattle.rpl_names.specs.Sets.{set_seen}
use Rattle.rosie_prepare.proofs.rules.check_line.Goals as goal

pub returns-in-LookBehind : goal.returns-in-LookBehind
returns-in-LookBehind c =
    let p = set_seen c.args.packages.now in
    line_due string_bytes c.behind_line.result _ _
    (ap (λ f. option_map (check_line p) (fault_named f)) c.in-LookBehind.is)
    (subst (λ t. IfOk c.behind_line.result (λ line. string_bytes line ≡ behind_line p c.in-LookBehind.rule t))
    c.cause_text.ensures c.behind_line.ensures)

pub returns-in-LeftRecursion : goal.returns-in-LeftRecursion
returns-in-LeftRecursion c =
    let p = set_seen c.args.packages.now in
    line_due string_bytes c.recursion_line.result _ _
    (ap (λ f. option_map (check_line p) (fault_named f)) c.in-LeftRecursion.is)
    (subst (λ rs. IfOk c.recursion_line.result (λ line. string_bytes line ≡ recursion_line p rs))
    c.deref.ensures.value c.recursion_line.ensures)
