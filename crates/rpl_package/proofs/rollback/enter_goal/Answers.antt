use Rattle.std.proofs.Common.{rules, ◌≡◌, ℕ, List, Option, length, ap, sym, subst, arith, ◌∙◌}
use Rattle.std.specs.Prelude.{Ok, codes}
use Rattle.std.proofs.lemmas.Bool.Decides.{nat_tests}
use Rattle.std.proofs.lemmas.List.{length-map}
use Rattle.std.proofs.lemmas.Str.{chars-IsAscii}
use Rattle.std.proofs.Math.Logic.{∥∥₁_map}
use Rattle.rpl_scope.specs.Seen.{module_seen, modules_seen}
use Rattle.rpl_names.specs.Built.{IsBuilt, packages}
use Rattle.rpl_package.specs.Asking.{at_once}
use Rattle.rpl_names.specs.Loading.{Stock, world}
use Rattle.rpl_names.specs.Patterns.{goal_entered, load_pattern}
use Rattle.rpl_names.specs.Roots.{Packages}
use Rattle.rpl_names.specs.Numbering.{IsTable}
use Rattle.rpl_names.specs.Sets.{set_seen}
use Rattle.rpl_names.specs.Stocks.{stock_seen}
use Rattle.rpl_package.specs.inside.Stopping.{MayStop}
use Rattle.rpl_package.proofs.Outcomes.{made_of, may_then, out_last, told_then}
use Rattle.rpl_package.proofs.Returning.{cut_home, same_inside, same_table, more_inside, more_within}
use Rattle.rpl_package.proofs.rollback.enter_goal.Goals as goal

pub enter_pattern-requires-clause-file : goal.enter_pattern-requires-clause-file
enter_pattern-requires-clause-file g c = c.in_ok-file.ensures ∙ chars-IsAscii (codes "(pattern)") (search rules)

abbrev pack : Stock → ℕ → List (Option ℕ) → Packages
pack s i rs = record { stock = s; top = i; roots = rs }

pub invariant_of-packages : goal.invariant_of-packages
invariant_of-packages g c =
    let loaded = c.args.packages.now in
    let back = cut_home loaded.top loaded.stock c.enter_pattern.new.stock c.cut_back.new.stock _ loaded.inside
    c.cut_back.ensures.stock c.marks_of-marks.ensures c.in-Err.ensures.kept in
    record {
      idle = c.cut_back.ensures.held;
      inside = same_inside loaded.top loaded.stock c.cut_back.new.stock loaded.inside back;
      within = λ i k. same_inside i loaded.stock c.cut_back.new.stock (loaded.within i k) back;
      told = subst (IsTable loaded.table) (sym (ap (λ s. s.modules) back)) loaded.told;
      built = subst (λ s. ∥ IsBuilt (packages s loaded.top loaded.roots.items) ∥₁) (sym back) loaded.built;
    }

pub invariant_of-packages-in-Err-table_of : goal.invariant_of-packages-in-Err-table_of
invariant_of-packages-in-Err-table_of g c =
    let loaded = c.args.packages.now in
    let now = c.cut_back-in-Err-table_of.new.stock in
    let back = cut_home loaded.top loaded.stock c.enter_pattern.new.stock now _ loaded.inside
    c.cut_back-in-Err-table_of.ensures.stock c.marks_of-marks.ensures c.in-Ok.ensures.kept in
    record {
      idle = c.cut_back-in-Err-table_of.ensures.held;
      inside = same_inside loaded.top loaded.stock now loaded.inside back;
      within = λ i k. same_inside i loaded.stock now (loaded.within i k) back;
      told = subst (IsTable loaded.table) (sym (ap (λ s. s.modules) back)) loaded.told;
      built = subst (λ s. ∥ IsBuilt (packages s loaded.top loaded.roots.items) ∥₁) (sym back) loaded.built;
    }

pub invariant_of-packages-then-len-marks : goal.invariant_of-packages-then-len-marks
invariant_of-packages-then-len-marks g c =
    let loaded = c.args.packages.now in
    let later = c.enter_pattern.new.stock in
    let k = ap (λ m. m.modules) c.marks_of-marks.ensures in
    let n = length-map loaded.stock.modules.items module_seen in
    let count : length later.modules.items ≡ length loaded.stock.modules.items =
    grind (arith, nat_tests, c.len.ensures, c.if-len-marks.true, k, n) in
    record {
      idle = c.in-Ok.ensures.held;
      inside = more_inside loaded.top loaded.stock later loaded.inside c.in-Ok.ensures.kept;
      within = λ i k. more_within loaded.top loaded.stock later loaded.inside c.in-Ok.ensures.kept i
          (loaded.within i k);
      told = same_table loaded.top loaded.stock later loaded.table loaded.inside c.in-Ok.ensures.kept count loaded.told;
      built = ∥∥₁_map loaded.built (c.in-Ok.ensures.built loaded.roots.items);
    }

pub invariant_of-packages-in-Ok-table_of : goal.invariant_of-packages-in-Ok-table_of
invariant_of-packages-in-Ok-table_of g c =
    let loaded = c.args.packages.now in
    record {
      idle = c.in-Ok.ensures.held;
      inside = more_inside loaded.top loaded.stock c.enter_pattern.new.stock loaded.inside c.in-Ok.ensures.kept;
      within = λ i k. more_within loaded.top loaded.stock c.enter_pattern.new.stock loaded.inside c.in-Ok.ensures.kept i
          (loaded.within i k);
      told = subst (λ l. IsTable c.in-Ok-table_of.table (modules_seen l)) c.deref.ensures.value
          c.in-Ok-table_of.ensures.ok;
      built = ∥∥₁_map loaded.built (c.in-Ok.ensures.built loaded.roots.items);
    }

pub returns-in-Err-clause-kept : goal.returns-in-Err-clause-kept
returns-in-Err-clause-kept g c =
    let loaded = c.args.packages.now in
    ap (λ s. pack s loaded.top loaded.roots.items)
    (cut_home loaded.top loaded.stock c.enter_pattern.new.stock c.cut_back.new.stock _ loaded.inside
    c.cut_back.ensures.stock c.marks_of-marks.ensures c.in-Err.ensures.kept)

pub returns-in-Err-table_of-clause-kept : goal.returns-in-Err-table_of-clause-kept
returns-in-Err-table_of-clause-kept g c =
    let loaded = c.args.packages.now in
    let now = c.cut_back-in-Err-table_of.new.stock in
    ap (λ s. pack s loaded.top loaded.roots.items)
    (cut_home loaded.top loaded.stock c.enter_pattern.new.stock now _ loaded.inside
    c.cut_back-in-Err-table_of.ensures.stock c.marks_of-marks.ensures c.in-Ok.ensures.kept)

pub returns-in-Err-clause-gives : goal.returns-in-Err-clause-gives
returns-in-Err-clause-gives g c = λ r h told.
    let loaded = c.args.packages.now in
    let entered = goal_entered (world (g.F.Source.tree c.args.files.now) c.args.folders.now) loaded.top
    (stock_seen loaded.stock) r in
    may_then c.in-Err.stop entered (λ t. at_once (Ok (t.0, pack t.1 loaded.top loaded.roots.items)))
    (c.in-Err.ensures.gives r h
    (told_then g.F.Source.tells entered (λ t. at_once (Ok (t.0, pack t.1 loaded.top loaded.roots.items))) told))

pub returns-clause-gives : goal.returns-clause-gives
returns-clause-gives g c = λ r h told.
    let loaded = c.args.packages.now in
    let entered = goal_entered (world (g.F.Source.tree c.args.files.now) c.args.folders.now) loaded.top
    (stock_seen loaded.stock) r in
    made_of _ entered (λ t. (t.0, pack t.1 loaded.top loaded.roots.items))
    (c.in-Ok.ensures.gives r h
    (told_then g.F.Source.tells entered (λ t. at_once (Ok (t.0, pack t.1 loaded.top loaded.roots.items))) told))

pub returns-in-Ok-clause-gives : goal.returns-in-Ok-clause-gives
returns-in-Ok-clause-gives g c = λ r h told.
    let loaded = c.args.packages.now in
    let entered = goal_entered (world (g.F.Source.tree c.args.files.now) c.args.folders.now) loaded.top
    (stock_seen loaded.stock) r in
    made_of _ entered (λ t. (t.0, pack t.1 loaded.top loaded.roots.items))
    (c.in-Ok.ensures.gives r h
    (told_then g.F.Source.tells entered (λ t. at_once (Ok (t.0, pack t.1 loaded.top loaded.roots.items))) told))

pub returns-in-Err-table_of-clause-gives : goal.returns-in-Err-table_of-clause-gives
returns-in-Err-table_of-clause-gives g c = λ r h told.
    let loaded = c.args.packages.now in
    let W = world (g.F.Source.tree c.args.files.now) c.args.folders.now in
    let entered = goal_entered W loaded.top (stock_seen loaded.stock) r in
    let made = made_of _ entered (λ t. (t.0, pack t.1 loaded.top loaded.roots.items))
    (c.in-Ok.ensures.gives r h
    (told_then g.F.Source.tells entered (λ t. at_once (Ok (t.0, pack t.1 loaded.top loaded.roots.items))) told)) in
    subst (λ s. MayStop (g.F.Source.asked c.args.files.now) (g.F.Source.asked c.enter_pattern.new.files) s
    (load_pattern W (set_seen loaded) r)) (sym c.in-Err-table_of.ensures.memory) (out_last _ _ made)
