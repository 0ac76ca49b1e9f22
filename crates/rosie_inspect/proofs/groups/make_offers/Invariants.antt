use Rattle.rpl_names.specs.Sets.{set_seen}
use Rattle.rosie_inspect.specs.Groups.{HoldsOffers}
use Rattle.rosie_inspect.proofs.groups.make_offers.Given as goal

abbrev pub invariant-loop-group : goal.invariant-loop-group
invariant-loop-group l = HoldsOffers (set_seen l.packages) l.offers
