use Rattle.std.proofs.Common.{◌≡◌, sym, ap, ◌∙◌, subst}
use Rattle.std.specs.Prelude.{IfOk}
use Rattle.std.specs.Option.{option_copied}
use Rattle.rpl_core.specs.View.{core_of, listed}
use Rattle.rpl_forms.proofs.Joins.{group_none, group_one, none_of_one}
use Rattle.rpl_forms.proofs.make.group.Goals as goal

pub returns-then-len-ne1 : goal.returns-then-len-ne1
returns-then-len-ne1 c =
    c.seq.ensures ∙ sym (group_none (listed c.args.parts) (λ e. c.if-len-ne1.true (c.len.ensures ∙ e)))

pub returns-in-Some : goal.returns-in-Some
returns-in-Some c =
    let one = sym c.len.ensures ∙ c.if-len-ne1.false in
    let got = sym c.get.ensures ∙ ap option_copied c.in-Some.is in
    subst (λ q. IfOk c.copy.result (λ p. core_of p ≡ q))
    (sym (group_one (listed c.args.parts) c.in-Some.part.now one got)) c.copy.ensures

pub returns : goal.returns
returns c =
    let one = sym c.len.ensures ∙ c.if-len-ne1.false in
    absurd (none_of_one (listed c.args.parts) one (sym c.get.ensures ∙ ap option_copied c.in-None.is))
