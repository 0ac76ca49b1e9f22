use Rattle.rpl_classes.proofs.Fuel.{brackets_law, union_law, operators_law, text_law}
use Rattle.rpl_classes.proofs.laws.reads_in_its_own_words.Goals as goal

pub returns : goal.returns
returns c = record { brackets = brackets_law; union = union_law; operators = operators_law; text = text_law }
