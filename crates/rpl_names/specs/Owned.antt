-- What packages say of their modules, of their roots, and of a name that a module binds itself.
use Rattle.std.specs.Prelude.{ℕ, cond, List, Option, Some, None, slice_get, unwrap_or}
use Rattle.std.specs.Result.{result_ok}
use Rattle.rpl_text.specs.Options.{◌>>=◌}
use Rattle.rpl_scope.specs.Packages.{Module, first_of}
use Rattle.rpl_scope.specs.declared.module.Entry.{Entry}
use Rattle.rpl_scope.specs.declared.module.Referent.{Referent}
use Rattle.rpl_scope.specs.declared.module.Referent.TheVariants.{Own}
use Rattle.rpl_names.specs.Roots.{Packages}
use Rattle.rpl_names.specs.Targets.{target_in}
use Rattle.rpl_names.specs.declared.targets.Target.{Target}

-- the module into which the k-th root was read
abbrev pub root_module : Packages → ℕ → Option ℕ
root_module p k = slice_get p.roots k >>= (λ o. Some (unwrap_or o p.top))

-- the package name of a module
abbrev pub package_name : Packages → ℕ → Option (List ℕ)
package_name p i = slice_get p.stock.modules i >>= (λ m. Some m.label)

abbrev pub own_rule : List Module → ℕ → Referent → Option Target
own_rule ms i (Own k) = result_ok (target_in ms i k)
own_rule ms i _ = None

-- a hidden rule isn't to be had
abbrev pub own_entry : List Module → ℕ → Entry → Option Target
own_entry ms i e = cond e.hidden None (own_rule ms i e.referent)

-- the target of a name that a statement of the module i binds
abbrev pub own : Packages → ℕ → List ℕ → Option Target
own p i n = slice_get p.stock.modules i >>= (λ m. first_of n m.names >>= (own_entry p.stock.modules i))
