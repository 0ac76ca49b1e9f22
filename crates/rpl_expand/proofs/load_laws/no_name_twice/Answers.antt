use Rattle.rpl_expand.proofs.Listing.{no_name_twice}
use Rattle.rpl_expand.proofs.load_laws.no_name_twice.Goals as goal

pub returns : goal.returns
returns c = no_name_twice
