use Rattle.std.proofs.Common.{ℕ, ◌-◌, inr, refl, ap, ap₂, sym, subst, ◌∙◌, arith}
use Rattle.std.specs.List.{All}
use Rattle.std.proofs.lemmas.List.{drop_all}
use Rattle.std.proofs.lemmas.List.Elements.{All-get_or}
use Rattle.rpl_syntax.specs.Modules.{said, entries_of}
use Rattle.rpl_scope.specs.Faults.{Gives, StopIs}
use Rattle.rpl_scope.specs.Imports.{take_in}
use Rattle.rpl_scope.specs.Statements.{statements}
use Rattle.rpl_scope.specs.Seen.{module_seen, modules_seen}
use Rattle.rpl_scope.specs.Taken.{HasAll}
use Rattle.rpl_scope.proofs.Checking.{front}
use Rattle.rpl_names.specs.Built.{Becomes, IsAsked, on, same as stays}
use Rattle.rpl_names.specs.Loading.{Stock, import_entry, is_loading, world, walk}
use Rattle.rpl_names.specs.Stocks.{stock_seen, state_seen}
use Rattle.rpl_names.proofs.Building.{asks_by, brings, texts_on}
use Rattle.rpl_package.proofs.Keeping.{keeps_same, keeps_trans}
use Rattle.rpl_package.proofs.Leaving.{after, still}
use Rattle.rpl_package.proofs.Beginning.{begins_on, held_back, inner_stops, inner_taken}
use Rattle.rpl_package.proofs.Outcomes.{gives_on, if_ok, passed_on, same, turn_done, walks_last}
use Rattle.rpl_package.proofs.Outcomes.{walks_lead}
use Rattle.rpl_package.proofs.Taking.{all_on, rest_left, take_stops, way_stops, way_told}
use Rattle.rpl_package.proofs.Walking.{entries_on, entries_stop, reach_cycle, told_file}
use Rattle.rpl_package.proofs.walk.+load.Goals as goal

pub load_import-returns-then-is_loading-clause-gives : goal.load_import-returns-then-is_loading-clause-gives
load_import-returns-then-is_loading-clause-gives g t c = λ told.
    let k = c.args.walker.now in
    let W = world (g.F.Source.tree c.args.files.now) k.importer.folders.now in
    let i = c.args.import.now in
    let loading = ap (is_loading i.path) (sym c.deref.ensures.value) ∙ sym c.is_loading.ensures
    ∙ c.if-is_loading.true in
    reach_cycle W (walk W k.depth) c.args.stock.now.held.items k.importer.file.now i (stock_seen c.args.stock.now)
    loading c.cycle_stop.result c.cycle_stop.ensures

pub load_import-open_import-requires : goal.load_import-open_import-requires
load_import-open_import-requires g t c = record {
  free = ap (is_loading c.args.import.now.path) (sym c.deref.ensures.value) ∙ sym c.is_loading.ensures
      ∙ c.if-is_loading.false;
  new = sym c.get.ensures ∙ c.in_default.is;
}

pub load_import-returns-in_err-read-clause-gives : goal.load_import-returns-in_err-read-clause-gives
load_import-returns-in_err-read-clause-gives g t c = λ told.
    let k = c.args.walker.now in
    let W = world (g.F.Source.tree c.args.files.now) k.importer.folders.now in
    let file = told_file g.F.Source.tells W (walk W k.depth) c.args.stock.now.held.items k.importer.file.now
    c.args.import.now (stock_seen c.args.stock.now)
    (ap (is_loading c.args.import.now.path) (sym c.deref.ensures.value) ∙ sym c.is_loading.ensures
    ∙ c.if-is_loading.false) (sym c.get.ensures ∙ c.in_default.is) told in
    passed_on _ c.from_residual.result c.in_err-read.field-0.0 _ c.from_residual.ensures.1
    (c.in_err-read.ensures.stops file)

pub load_import-returns-in_err-load_text-clause-gives : goal.load_import-returns-in_err-load_text-clause-gives
load_import-returns-in_err-load_text-clause-gives g t c = λ told.
    let k = c.args.walker.now in
    let stop = c.in_err-load_text.field-0.0 in
    let S = stock_seen c.open_import.new.stock in
    let K = g.F.Source.tells in
    let W = world (g.F.Source.tree c.args.files.now) k.importer.folders.now in
    let file = told_file K W (walk W k.depth) c.args.stock.now.held.items k.importer.file.now c.args.import.now
    (stock_seen c.args.stock.now) (ap (is_loading c.args.import.now.path) (sym c.deref.ensures.value)
    ∙ sym c.is_loading.ensures ∙ c.if-is_loading.false) (sym c.get.ensures ∙ c.in_default.is) told in
    passed_on _ c.from_residual-in_err-load_text.result stop _ c.from_residual-in_err-load_text.ensures.1
    (inner_stops (g.F.Source.tree c.args.files.now) (g.F.Source.tree c.open_import.new.files) k.importer.folders.now
    (k.depth - 1) c.open_import.new.stock.held.items
    (record { stock = S; own = module_seen c.in_ok-read.field-0.own.value }) (record {
      stock = S;
      own = module_seen c.deref_mut.result.now;
    }) c.in_ok-read.field-0.read.value c.deref-2.result.now
    c.deref-3.result.now _
    c.open_import.ensures.files.tree (ap (λ m. record { stock = S; own = module_seen m }) c.deref_mut.ensures.value)
    c.deref-2.ensures c.deref-3.ensures (c.in_ok-read.ensures.goes file) K told stop c.in_err-load_text.ensures.gives)

pub load_import-returns-clause-gives : goal.load_import-returns-clause-gives
load_import-returns-clause-gives g t c = λ told.
    let k = c.args.walker.now in
    let S = stock_seen c.open_import.new.stock in
    let K = g.F.Source.tells in
    let W = world (g.F.Source.tree c.args.files.now) k.importer.folders.now in
    let file = told_file K W (walk W k.depth) c.args.stock.now.held.items k.importer.file.now c.args.import.now
    (stock_seen c.args.stock.now) (ap (is_loading c.args.import.now.path) (sym c.deref.ensures.value)
    ∙ sym c.is_loading.ensures ∙ c.if-is_loading.false) (sym c.get.ensures ∙ c.in_default.is) told in
    walks_last _ c.close.result _ _ c.close.ensures.memory (inner_taken (g.F.Source.tree c.args.files.now)
    (g.F.Source.tree c.open_import.new.files) k.importer.folders.now (k.depth - 1) c.open_import.new.stock.held.items
    (record { stock = S; own = module_seen c.in_ok-read.field-0.own.value }) (record {
      stock = S;
      own = module_seen c.deref_mut.result.now;
    }) c.in_ok-read.field-0.read.value c.deref-2.result.now
    c.deref-3.result.now _
    c.open_import.ensures.files.tree (ap (λ m. record { stock = S; own = module_seen m }) c.deref_mut.ensures.value)
    c.deref-2.ensures c.deref-3.ensures (c.in_ok-read.ensures.goes file) K told _ c.in_ok-load_text.ensures.gives)
    (λ n is. sym (rw is at c.close.ensures.taken))

pub load_import-returns-clause-held : goal.load_import-returns-clause-held
load_import-returns-clause-held g t c =
    let b = c.in_ok-read.ensures.begins in
    if_ok c.close.result _ (λ n is. rw is at c.close.ensures.held
    ∙ held_back c.args.stock.now.held.items c.load_text.new.stock.held.items _ (c.in_ok-load_text.ensures.held
    ∙ b.held))

pub load_import-returns-clause-built : goal.load_import-returns-clause-built
load_import-returns-clause-built g t c =
    let o = c.in_ok-read.field-0 in
    let v = state_seen c.load_text.new.stock c.load_text.new.own in
    if_ok c.close.result _
    (λ n is. inr (
      v,
      begins_on c.args.stock.now.held.items c.args.import.now.path (stock_seen c.args.stock.now)
          (said o.read.value.text) c.open_import.new.stock.held.items (state_seen c.open_import.new.stock o.own.value) v
          c.in_ok-read.ensures.begins
          (subst (λ m. Becomes c.open_import.new.stock.held.items (record {
            stock = stock_seen c.open_import.new.stock;
            own = module_seen m;
          }) v) c.deref_mut.ensures.value c.in_ok-load_text.ensures.built),
      rw is at c.close.ensures.taken,
    ))

pub enter_imports-returns-in_err-number-clause-gives : goal.enter_imports-returns-in_err-number-clause-gives
enter_imports-returns-in_err-number-clause-gives g t c = λ told.
    let k = c.args.walker.now in
    let l = c.loop-import in
    let i = c.import-item.result in
    let o = state_seen l.stock l.own in
    let at = front c.args.imports.now l.import-index i c.loop-import-test.true c.import-item.is in
    let led = l.invariant.left told in
    let s = c.in_err-number.field-0.0 in
    passed_on _ c.from_residual.result s _ c.from_residual.ensures.1
    (way_stops k.importer.folders.now k.depth k.importer.file.now i o _ _ _ _ _ _ _ l.invariant.files.tree
    l.invariant.held at led s
    (c.in_err-number.ensures.gives (way_told k.importer.folders.now k.depth k.importer.file.now i o _ _ _ _ _ _ _
    l.invariant.files.tree l.invariant.held at led g.F.Source.tells told)))

pub enter_imports-returns-in_err-bring-clause-gives : goal.enter_imports-returns-in_err-bring-clause-gives
enter_imports-returns-in_err-bring-clause-gives g t c = λ told.
    let ds = c.args.walker.now.importer.folders.now in
    let f = c.args.walker.now.importer.file.now in
    let i = c.import-item.result in
    let s0 = state_seen c.loop-import.stock c.loop-import.own in
    let inv = c.loop-import.invariant in
    let d = c.args.walker.now.depth in
    let at = front c.args.imports.now c.loop-import.import-index i c.loop-import-test.true c.import-item.is in
    let way = way_told ds d f i s0 _ _ _ _ _ _ _ inv.files.tree inv.held at (inv.left told) g.F.Source.tells told in
    let n = c.in_ok-number.number in
    let s = c.in_err-bring.field-0.0 in
    passed_on _ c.from_residual-in_err-bring.result s _ c.from_residual-in_err-bring.ensures.1
    (take_stops ds d f i s0 _ _ _ _ _ _ _ inv.files.tree inv.held at (inv.left told) (
      n,
      stock_seen c.load_import.new.stock,
    ) (c.in_ok-number.ensures.gives way) s
    (subst (λ l. StopIs s (take_in f i n (modules_seen l) s0.own)) c.deref.ensures.value c.in_err-bring.ensures.gives))

pub enter_imports-bring-requires : goal.enter_imports-bring-requires
enter_imports-bring-requires g t c =
    let l = c.loop-import in
    record {
      there = subst (λ ms. All (HasAll (modules_seen ms) (module_seen l.own)) l.taken.items) (sym c.deref.ensures.value)
          (all_on (modules_seen l.stock.modules.items) (modules_seen c.load_import.new.stock.modules.items)
          (module_seen l.own) l.taken.items c.load_import.ensures.kept.modules.1 l.invariant.taken);
    }

pub enter_imports-loop-import-preserved : goal.enter_imports-loop-import-preserved
enter_imports-loop-import-preserved g t c =
    let ds = c.args.walker.now.importer.folders.now in
    let d = c.args.walker.now.depth in
    let hs = c.args.stock.now.held.items in
    let f = c.args.walker.now.importer.file.now in
    let is = c.args.imports.now in
    let k = c.loop-import.import-index in
    let i = c.import-item.result in
    let s0 = state_seen c.loop-import.stock c.loop-import.own in
    let inv = c.loop-import.invariant in
    let n = c.in_ok-number.number in
    let m = module_seen c.bring.new.own in
    let r : ℕ × Stock = (n, stock_seen c.load_import.new.stock) in
    let takes = ap (λ l. take_in f i n (modules_seen l) s0.own) (sym c.deref.ensures.value)
    ∙ c.in_ok-bring.ensures.gives in
    let asked = subst IsAsked (sym c.import-item.is)
    (All-get_or IsAsked is k i c.loop-import-test.true c.requires.asked) in
    record {
      files = after g.F.Source _ _ _ _ _ _ inv.files c.in_ok-number.ensures.files;
      held = c.in_ok-number.ensures.held ∙ inv.held;
      kept = keeps_trans _ _ _ inv.kept c.load_import.ensures.kept;
      built = on hs _ s0 _ inv.built (subst (λ h. Becomes h s0 (state_seen c.load_import.new.stock c.bring.new.own))
          inv.held (brings c.loop-import.stock.held.items f i s0 r m asked c.in_ok-number.ensures.built takes));
      taken = subst (λ l. All (HasAll (modules_seen l) m) c.bring.new.taken.items) c.deref.ensures.value
          c.in_ok-bring.ensures.there;
      left = λ told.
          let at = front is k i c.loop-import-test.true c.import-item.is in
          let way = way_told ds d f i s0 _ _ _ _ _ _ _ inv.files.tree inv.held at (inv.left told) g.F.Source.tells told
          in
          rest_left ds d f i s0 _ _ _ _ _ _ _ inv.files.tree inv.held at (inv.left told) r
          (c.in_ok-number.ensures.gives way) m takes;
    }

pub enter_imports-loop-import-init : goal.enter_imports-loop-import-init
enter_imports-loop-import-init g t c = record {
  files = still g.F.Source (tt {0}) c.args.files.now;
  held = refl;
  kept = keeps_same _ _ refl;
  built = stays _ _;
  taken = rw c.new-taken.ensures.items (λ k d lt. absurd (omega (arith, lt)));
  left = λ told. same _ _ refl;
}

pub enter_imports-load_import-requires : goal.enter_imports-load_import-requires
enter_imports-load_import-requires g t c = λ κs lives.
    let i = c.import-item.result in
    let asked = subst IsAsked (sym c.import-item.is) (All-get_or IsAsked c.args.imports.now c.loop-import.import-index i
    c.loop-import-test.true c.requires.asked) in
    (omega (arith, c.decreases), (lives, asked))

pub load_text-returns-in_err-enter_imports-clause-gives : goal.load_text-returns-in_err-enter_imports-clause-gives
load_text-returns-in_err-enter_imports-clause-gives g t c = λ told.
    let W = world (g.F.Source.tree c.args.files.now) c.args.walker.now.importer.folders.now in
    let s0 = state_seen c.args.stock.now c.args.own.now in
    let s = c.in_err-enter_imports.field-0.0 in
    passed_on _ c.from_residual-in_err-enter_imports.result s _ c.from_residual-in_err-enter_imports.ensures.1
    (entries_stop g.F.Source.tells W (walk W c.args.walker.now.depth) c.args.stock.now.held.items
    c.args.walker.now.importer.file.now (said c.args.text.now) s0 _ _ c.as_slice-imports.ensures
    c.in_ok-number.ensures.text told s c.in_err-enter_imports.ensures.gives)

pub load_text-returns-clause-built : goal.load_text-returns-clause-built
load_text-returns-clause-built g t c =
    let S = stock_seen c.args.stock.now in
    let f = c.args.walker.now.importer.file.now in
    let m = module_seen c.enter_items.new.own in
    let a = state_seen c.args.stock.now c.push_text.new.own in
    let b = state_seen c.enter_imports.new.stock c.enter_imports.new.own in
    if_ok c.enter_items.result _ (λ y is. texts_on c.args.stock.now.held.items f c.in_ok-number.number
    (state_seen c.args.stock.now c.args.own.now) a b (said c.args.text.now) m c.requires.said
    (ap (λ o. record { stock = S; own = o }) c.in_ok-number.ensures.text) c.in_ok-enter_imports.ensures.built
    (ap₂ (λ l is. statements f c.in_ok-number.number (modules_seen l) (entries_of is)
    (module_seen c.enter_imports.new.own)) (sym c.deref.ensures.value) (sym c.as_slice-items.ensures)
    ∙ rw is at c.enter_items.ensures))

pub load_text-enter_imports-requires : goal.load_text-enter_imports-requires
load_text-enter_imports-requires g t c = λ κs lives.
    (omega (arith, c.decreases), (lives, asks_by (said c.args.text.now) _ c.requires.said c.as_slice-imports.ensures))

pub load_text-returns-clause-gives : goal.load_text-returns-clause-gives
load_text-returns-clause-gives g t c = λ told.
    let W = world (g.F.Source.tree c.args.files.now) c.args.walker.now.importer.folders.now in
    let f = c.args.walker.now.importer.file.now in
    let x = said c.args.text.now in
    let s0 = state_seen c.args.stock.now c.args.own.now in
    let u = state_seen c.enter_imports.new.stock c.enter_imports.new.own in
    let led = entries_on g.F.Source.tells W (walk W c.args.walker.now.depth) c.args.stock.now.held.items f x s0 _ _
    c.as_slice-imports.ensures c.in_ok-number.ensures.text told u c.in_ok-enter_imports.ensures.gives in
    let alike = ap₂ (λ l is. statements f c.in_ok-number.number (modules_seen l) (entries_of is) u.own)
    c.deref.ensures.value c.as_slice-items.ensures
    ∙ ap (λ k. statements f k u.stock.modules x.items u.own) c.in_ok-number.ensures.number in
    walks_lead _ _ c.enter_items.result _ _ led
    (gives_on _ (λ y. module_seen c.enter_items.new.own) c.enter_items.result _
    (λ m. record { stock = u.stock; own = m })
    (subst (Gives (λ y. module_seen c.enter_items.new.own) c.enter_items.result) alike c.enter_items.ensures))

pub enter_imports-returns-clause-gives : goal.enter_imports-returns-clause-gives
enter_imports-returns-clause-gives g t c = λ told.
    let W = world (g.F.Source.tree c.args.files.now) c.args.walker.now.importer.folders.now in
    let l = c.loop-import in
    turn_done (import_entry W (walk W c.args.walker.now.depth) c.args.stock.now.held.items
    c.args.walker.now.importer.file.now) _ (state_seen l.stock l.own) _
    (drop_all l.import-index c.args.imports.now (omega (arith, c.loop-import-test.false))) (l.invariant.left told)
