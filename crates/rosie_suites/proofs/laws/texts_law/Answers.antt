use Rattle.rosie_suites.proofs.Texts.{tests_are_of_text}
use Rattle.rosie_suites.proofs.laws.texts_law.Goals as goal

pub returns : goal.returns
returns c = tests_are_of_text
