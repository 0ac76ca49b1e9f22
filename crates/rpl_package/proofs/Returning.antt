-- The way back to what packages held.
use Rattle.std.proofs.Common.{arith, ◌≡◌, ◌<◌, ◌+◌, ◌++◌, ℕ, zero, suc, List, [], ◌∷◌, length, refl, sym, ap, ◌∙◌}
use Rattle.std.proofs.lemmas.List.{length-map, take_all}
use Rattle.std.specs.Prelude.{slice_get}
use Rattle.rpl_scope.specs.Packages.{Module}
use Rattle.rpl_scope.specs.Seen.{module_seen, modules_seen}
use Rattle.rpl_names.specs.Loading as L
use Rattle.rpl_names.specs.Tables.{begun_in, rows, rows_from, rows_of}
use Rattle.rpl_names.specs.Firsts.{firsts, firsts_from}
use Rattle.rpl_package.specs.inside.Kept.{with_shortened}
use Rattle.rpl_package.specs.inside.Marks.{CutsTo, cut_back, marks_of, prefixes_of}
use Rattle.rpl_names.specs.Numbering.{IsTable}
use Rattle.rpl_names.specs.Stocks.{stock_seen}
use Rattle.rpl_package.specs.declared.rollback.Marks.{Marks}
use Rattle.rpl_names.specs.declared.stock.Stock.{Stock}
use Rattle.rpl_names.specs.declared.table.Table.{Table}
use Rattle.rpl_package.proofs.Placing.{cuts_same}

-- ---- what a table says hangs on no prefix

rows_cut : (i k n b : ℕ) (ms : List Module) → rows_from n b (with_shortened i k ms) ≡ rows_from n b ms
rows_cut i k n b [] = refl
rows_cut zero k n b (m ∷ ms) = refl
rows_cut (suc i) k n b (m ∷ ms) =
    ap (λ l. rows_of m.label n 0 b m.rules ++ l) (rows_cut i k (n + 1) (begun_in b 0 m.rules) ms)

firsts_cut : (i k n : ℕ) (ms : List Module) → firsts_from n (with_shortened i k ms) ≡ firsts_from n ms
firsts_cut i k n [] = refl
firsts_cut zero k n (m ∷ ms) = refl
firsts_cut (suc i) k n (m ∷ ms) = ap (λ l. n ∷ l) (firsts_cut i k (n + length m.rules) ms)

-- ----

module _ (i : ℕ) (first : Stock) where
  begins : i < length first.modules.items → CutsTo i (stock_seen first) (stock_seen first)
  begins lt =
      let n = length-map first.modules.items module_seen in
      cuts_same i (stock_seen first) (omega (arith, lt, n))

  -- cut back to what the first held it is the first
  pub cut_home : (later now : Stock) (k : Marks) → i < length first.modules.items
      → stock_seen now ≡ cut_back i k (stock_seen later) → k ≡ marks_of (stock_seen first) i
      → ((a : L.Stock) → CutsTo i a (stock_seen first) → CutsTo i a (stock_seen later))
      → stock_seen now ≡ stock_seen first
  cut_home later now k lt cut marks kept =
      cut ∙ ap (λ x. cut_back i x (stock_seen later)) marks ∙ (kept (stock_seen first) (begins lt)).back

  pub same_inside : (now : Stock) → i < length first.modules.items → stock_seen now ≡ stock_seen first
      → i < length now.modules.items
  same_inside now lt back =
      let same = ap (λ s. length s.modules) back in
      let n0 = length-map first.modules.items module_seen in
      let n1 = length-map now.modules.items module_seen in
      omega (arith, lt, same, n0, n1)

  pub more_inside : (later : Stock) → i < length first.modules.items
      → ((a : L.Stock) → CutsTo i a (stock_seen first) → CutsTo i a (stock_seen later))
      → i < length later.modules.items
  more_inside later lt kept =
      let more = (kept (stock_seen first) (begins lt)).modules in
      let n0 = length-map first.modules.items module_seen in
      let n1 = length-map later.modules.items module_seen in
      omega (arith, lt, more, n0, n1)

  -- and so is what was inside besides
  pub more_within : (later : Stock) → i < length first.modules.items
      → ((a : L.Stock) → CutsTo i a (stock_seen first) → CutsTo i a (stock_seen later))
      → (j : ℕ) → j < length first.modules.items → j < length later.modules.items
  more_within later lt kept j within =
      let more = (kept (stock_seen first) (begins lt)).modules in
      let n0 = length-map first.modules.items module_seen in
      let n1 = length-map later.modules.items module_seen in
      omega (arith, within, more, n0, n1)

  -- a table stays where no module came
  pub same_table : (later : Stock) (t : Table) → i < length first.modules.items
      → ((a : L.Stock) → CutsTo i a (stock_seen first) → CutsTo i a (stock_seen later))
      → length later.modules.items ≡ length first.modules.items → IsTable t (modules_seen first.modules.items)
      → IsTable t (modules_seen later.modules.items)
  same_table later t lt kept count table =
      let a = modules_seen first.modules.items in
      let b = modules_seen later.modules.items in
      let k = prefixes_of (slice_get a i) in
      let n0 = length-map first.modules.items module_seen in
      let n1 = length-map later.modules.items module_seen in
      let all = take_all (length a) b (omega (arith, count, n0, n1)) in
      let back : with_shortened i k b ≡ a =
      ap (with_shortened i k) (sym all) ∙ ap (λ s. s.modules) (kept (stock_seen first) (begins lt)).back in
      record {
        rows = table.rows ∙ ap rows (sym back) ∙ rows_cut i k 0 0 b;
        firsts = table.firsts ∙ ap firsts (sym back) ∙ firsts_cut i k 2 b;
        few = table.few;
      }
