-- The paths and the package names, with those of one module more.
use Rattle.std.specs.Prelude.{length}
use Rattle.rpl_names.specs.Loading.{Stock, with_path}
use Rattle.rpl_scope.specs.Packages.{Module, added}

abbrev pub noted : Stock → Module → Stock
noted s m = record {
  modules = s.modules;
  paths = with_path m.path (length s.modules) s.paths;
  labels = added m.label (length s.modules) s.labels;
}
