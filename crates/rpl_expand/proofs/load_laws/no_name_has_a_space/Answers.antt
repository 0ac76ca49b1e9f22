use Rattle.rpl_expand.proofs.Listing.{no_name_has_a_space}
use Rattle.rpl_expand.proofs.load_laws.no_name_has_a_space.Goals as goal

pub returns : goal.returns
returns c = no_name_has_a_space
