-- How much a set of modules holds, and the way back to that.
use Rattle.std.specs.Prelude.{◌≡◌, ◌≤◌, ◌<◌, ℕ, length, take, Option, Some, None, slice_get}
use Rattle.rpl_package.specs.inside.Kept.{with_shortened}
use Rattle.rpl_names.specs.Loading.{Stock}
use Rattle.rpl_package.specs.declared.rollback.Marks.{Marks}
use Rattle.rpl_scope.specs.Packages.{Module}

abbrev pub prefixes_of : Option Module → ℕ
prefixes_of None = 0
prefixes_of (Some m) = length m.prefixes

abbrev pub marks_of : Stock → ℕ → Marks
marks_of s i = record {
  modules = length s.modules;
  paths = length s.paths;
  labels = length s.labels;
  prefixes = prefixes_of (slice_get s.modules i);
}

-- no more than that, and no more prefixes of the module i
abbrev pub cut_back : ℕ → Marks → Stock → Stock
cut_back i k s = record {
  modules = with_shortened i k.prefixes (take k.modules s.modules);
  paths = take k.paths s.paths;
  labels = take k.labels s.labels;
}

-- it is a with more after, and with more prefixes in the module i: cut back to what a held it is a
pub record CutsTo (i : ℕ) (a b : Stock) : Type 0 where
  pub modules : length a.modules ≤ length b.modules
  pub paths : length a.paths ≤ length b.paths
  pub labels : length a.labels ≤ length b.labels
  pub prefixes : prefixes_of (slice_get a.modules i) ≤ prefixes_of (slice_get b.modules i)
  pub inside : i < length a.modules
  pub back : cut_back i (marks_of a i) b ≡ a
