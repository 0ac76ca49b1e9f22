use Rattle.std.proofs.Common.{sym, ◌∙◌}
use Rattle.rpl_core.specs.View.{core_of}
use Rattle.rpl_forms.proofs.Standing.{own_first, chain_first}
use Rattle.rpl_forms.proofs.inner.first_in_chain.Goals as goal

pub returns-in_default : goal.returns-in_default
returns-in_default c = λ I h long. own_first I (core_of c.args.body.now) _ long

pub returns-in-None : goal.returns-in-None
returns-in-None c = λ I h long. own_first I (core_of c.args.body.now) _ long

pub returns-in-Some-inner_of : goal.returns-in-Some-inner_of
returns-in-Some-inner_of c = λ I h long.
    chain_first c.args.known.now I (core_of c.args.body.now) c.in-Some.rule c.in-Some-inner_of.inner h
    (sym c.inner_of.ensures ∙ c.in-Some-inner_of.is) (c.in-Some.ensures I)
