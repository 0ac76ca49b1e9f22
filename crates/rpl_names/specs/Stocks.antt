-- How contracts see the modules that are loaded.
use Rattle.rpl_names.specs.Loading as L
use Rattle.rpl_names.specs.declared.stock.Stock.{Stock}
use Rattle.rpl_scope.specs.Seen.{modules_seen, module_seen}
use Rattle.rpl_scope.specs.declared.module.Module.{Module}

abbrev pub stock_seen : Stock → L.Stock
stock_seen s = record { modules = modules_seen s.modules.items; paths = s.paths; labels = s.labels }

abbrev pub state_seen : Stock → Module → L.State
state_seen s m = record { stock = stock_seen s; own = module_seen m }
