-- How contracts see a set of packages.
use Rattle.rpl_names.specs.Roots.{Packages}
use Rattle.rpl_names.specs.Stocks.{stock_seen}
use Rattle.rpl_names.specs.declared.set.PackageSet.{PackageSet}

abbrev pub set_seen : PackageSet → Packages
set_seen s = record { stock = stock_seen s.stock; top = s.top; roots = s.roots.items }
