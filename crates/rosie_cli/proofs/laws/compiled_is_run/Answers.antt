use Rattle.rosie_cli.proofs.Coded.{code_is_safe, compiled_runs, one_report}
use Rattle.rosie_cli.proofs.laws.compiled_is_run.Goals as goal

pub returns-clause-safe : goal.returns-clause-safe
returns-clause-safe c = code_is_safe

pub returns-clause-code : goal.returns-clause-code
returns-clause-code c = compiled_runs

pub returns-clause-reports : goal.returns-clause-reports
returns-clause-reports c = one_report
