use Rattle.rosie_cli.proofs.OnePlan as only
use Rattle.rosie_cli.proofs.SomePlan.{some_plan, words_have_plans}
use Rattle.rosie_cli.proofs.laws.one_plan.Goals as goal

pub returns-clause-only : goal.returns-clause-only
returns-clause-only c = only.one_plan

pub returns-clause-some : goal.returns-clause-some
returns-clause-some c = some_plan

pub returns-clause-words : goal.returns-clause-words
returns-clause-words c = words_have_plans
