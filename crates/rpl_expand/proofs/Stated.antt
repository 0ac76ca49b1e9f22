-- In a set that is built the modules and the statements are as texts say them: the body of each is of the form of a
-- reading, and its texts, its classes and its full name fit.
use Rattle.std.proofs.Common.{◌≡◌, inl, inr, ℕ, zero, suc, ◌+◌, List, [], ◌∷◌, length, Option, Some, None, refl}
use Rattle.std.proofs.Common.{sym, subst, arith}
use Rattle.std.specs.Prelude.{Bool, true, false, Ok, codes, slice_get, slice_set}
use Rattle.std.specs.List.{AllByRecursion}
use Rattle.std.proofs.lemmas.List.Elements.{All-from_recursion}
use Rattle.rpl_text.specs.Options.{◌>>=◌}
use Rattle.rpl_expand.specs.Sets.{statement_at, statement_by, statements, statements_from, with_one}
use Rattle.rpl_expand.specs.Table.{Statement}
use Rattle.rpl_syntax.specs.Expression.{Expr}
use Rattle.rpl_syntax.specs.Readable.{Good}
use Rattle.rpl_syntax.specs.declared.module.Import.{Import}
use Rattle.rpl_scope.specs.Imports.{add_prefix, rules_at}
use Rattle.rpl_scope.specs.Packages.{Module, Rule, first_of}
use Rattle.rpl_names.specs.Loading.{Stock, State, finished, label_of}
use Rattle.rpl_names.specs.Patterns.{put_by, with_module}
use Rattle.rpl_names.specs.Roots.{Packages, begun, top_head}
use Rattle.rpl_names.specs.Tables.{rows, boundary_name, begun_at, begun_in, rows_from, rows_of}
use Rattle.rpl_names.specs.Targets.{Head, body, head, row_at, rule_at, rule_in, binds_halt, halt_by, head_by}
use Rattle.rpl_names.specs.Targets.{head_of}
use Rattle.rpl_names.specs.Texts.{max_text_bytes}
use Rattle.rpl_names.specs.declared.stock.Head.{Head as Loading}
use Rattle.rpl_names.specs.declared.table.Row.{Row as Place}
use Rattle.rpl_names.specs.Built.{Becomes, same, on, text, said, again, imported, rooted, opened, headed, IsBuilt}
use Rattle.rpl_names.specs.Built.{IsAsked, Reaches, by_roots, by_name, packages}
use Rattle.rpl_expand.proofs.Lists.{all_append}
use Rattle.rpl_expand.proofs.Steps.{both}
use Rattle.rpl_expand.proofs.FullNames.{IsUnbroken}
use Rattle.rpl_expand.proofs.Texts.{RuleGood, asked_brings, asked_path, plain_text, label_within}
use Rattle.rpl_expand.proofs.Under.{IsKept, all_unit, prefix_at, statements_in, taken_in}
use Rattle.rpl_expand.specs.Fitting.{FitsExpr, FitsName, FitsStatement, IsWithin}
use Rattle.rpl_expand.specs.LoadLaws.{StatementsFit}
use Rattle.rpl_expand.proofs.Fitting.{full_fits, known_fits}

-- ---- the rules of all modules are as texts say them

record ModuleGood (m : Module) : Type 0 where
  label : IsWithin max_text_bytes m.label
  rules : AllByRecursion RuleGood m.rules

good_kept : IsKept ModuleGood (λ k. Unit {0}) RuleGood
good_kept = record {
  rule = λ m r h g none. record { label = h.label; rules = all_append RuleGood m.rules (r ∷ []) h.rules (g, tt) };
  prefix = λ m k x h u new. record { label = h.label; rules = h.rules };
  name = λ m k x h d new. record { label = h.label; rules = h.rules };
}

record AreGood (s : State) : Type 0 where
  all : AllByRecursion ModuleGood s.stock.modules
  own : ModuleGood s.own

good_more : (u : State) → AreGood u → AllByRecursion ModuleGood (finished u.stock u.own).modules
good_more u h = all_append ModuleGood u.stock.modules (u.own ∷ []) h.all (h.own, tt)

starts : (s : Stock) (path : Option (List ℕ)) (label : List ℕ) → IsWithin max_text_bytes label
    → AllByRecursion ModuleGood s.modules → AreGood (opened s path label)
starts s path label n h = record { all = h; own = record { label = n; rules = tt } }

kept : (hs : List Loading) (s t : State) → Becomes hs s t → AreGood s → AreGood t
kept hs s t (same gs x) h = h
kept hs s t (on gs a b c f g) h = kept hs b t g (kept hs s b f h)
kept hs s t (text gs a f) h = record { all = h.all; own = record { label = h.own.label; rules = h.own.rules } }
kept hs s t (said gs a f k x m is e) h = record {
  all = h.all;
  own = statements_in ModuleGood (λ k. Unit {0}) RuleGood good_kept f k s.stock.modules x.items s.own m
      ((plain_text x is).good k) h.own e;
}
kept hs s t (again gs a f i j m asked k e) h = record {
  all = h.all;
  own = taken_in ModuleGood (λ k. Unit {0}) RuleGood good_kept f i j s.stock.modules s.own m
      (asked_brings i asked) (all_unit (rules_at (slice_get s.stock.modules j))) h.own e;
}
kept hs s t (imported gs a u f i x m asked is unheld b e) h =
    let l = label_of x.name i.path in
    let p : Option (List ℕ) = Some i.path in
    let n = length u.stock.modules in
    let ms = (finished u.stock u.own).modules in
    record {
      all = good_more u
          (kept (headed hs p l) (opened s.stock p l) u b (starts s.stock p l (label_within x i is asked) h.all));
      own = taken_in ModuleGood (λ k. Unit {0}) RuleGood good_kept f i n ms s.own m
          (asked_brings i asked) (all_unit (rules_at (slice_get ms n))) h.own e;
    }
kept hs s t (rooted gs a u x q is name fresh unheld b) h =
    let l = q.name in
    let title = ((plain_text x is).title q name).within in
    record {
      all = good_more u (kept (headed hs None l) (opened s.stock None l) u b (starts s.stock None l title h.all));
      own = record { label = h.own.label; rules = h.own.rules };
    }

reached : (i : Import) (s : Stock) (r : ℕ × Stock) → IsAsked i → AllByRecursion ModuleGood s.modules
    → Reaches [] i.path s r → AllByRecursion ModuleGood r.1.modules
reached i s r asked h (inl x) = subst (λ t. AllByRecursion ModuleGood t.modules) (sym x.1) h
reached i s r asked h (inr x) =
    let l = label_of x.1.text.name i.path in
    let p : Option (List ℕ) = Some i.path in
    let begins = starts s p l (label_within x.1.text i x.1.said asked) h in
    subst (λ z. AllByRecursion ModuleGood z.1.modules) (sym x.2)
    (good_more x.0 (kept (headed [] p l) (opened s p l) x.0 x.1.makes.comes begins))

replaced_good : (ms : List Module) (i : ℕ) (n : Module) → AllByRecursion ModuleGood ms → ModuleGood n
    → AllByRecursion ModuleGood (slice_set ms i n)
replaced_good [] i n h g = tt
replaced_good (m ∷ ms) zero n h g = (g, h.1)
replaced_good (m ∷ ms) (suc i) n h g = (h.0, replaced_good ms i n h.1 g)

-- it holds of what stands there, if anything does
abbrev IfAny : {A : Type 0} → (A → Type 0) → Option A → Type 0
IfAny P None = Unit {0}
IfAny P (Some x) = P x

nth_has : {A : Type 0} (P : A → Type 0) (xs : List A) (i : ℕ) → AllByRecursion P xs → IfAny P (slice_get xs i)
nth_has P [] i h = tt
nth_has P (x ∷ xs) zero h = h.0
nth_has P (x ∷ xs) (suc i) h = nth_has P xs i h.1

put_good : (f : List ℕ) (e : Import) (j i : ℕ) (s t : Stock) (o : Option Module) → IsUnbroken e.path
    → AllByRecursion ModuleGood s.modules → IfAny ModuleGood o → put_by f e j i s o ≡ Ok t
    → AllByRecursion ModuleGood t.modules
put_good f e j i s t None clear h g is = let k : s ≡ t = cc in subst (λ x. AllByRecursion ModuleGood x.modules) k h
put_good f e j i s t (Some m) clear h g is =
    let c = both (add_prefix f e.at e.path j m) (λ n. Ok (with_module s i n)) t is in
    let k : with_module s i c.0 ≡ t = (let q = c.2 in cc) in
    let own = prefix_at ModuleGood (λ k. Unit {0}) RuleGood good_kept f e.at e.path j m c.0 (first_of e.path m.prefixes)
    clear refl g c.1 in
    subst (λ x. AllByRecursion ModuleGood x.modules) k (replaced_good s.modules i c.0 h own)

set_good : (p : Packages) → IsBuilt p → AllByRecursion ModuleGood p.stock.modules
set_good p (by_roots s rs b) =
    let none : ModuleGood begun.state.own = record { label = (refl, omega arith); rules = tt } in
    good_more s (kept (top_head ∷ []) begun.state s b (record { all = tt; own = none }))
set_good p (by_name s t i rs f e r b asked k g) =
    let h = reached e s r asked (set_good (packages s i rs) b) k in
    put_good f e r.0 i r.1 t (slice_get r.1.modules i) (asked_path e asked) h (nth_has ModuleGood r.1.modules i h) g

-- ---- full names

abbrev PlaceFits : Place → Type 0
PlaceFits w = FitsName w.name

abbrev HeadFits : Head → Type 0
HeadFits h = FitsName h.name

rules_fit : (label : List ℕ) (i k b : ℕ) (rs : List Rule) → IsWithin max_text_bytes label → AllByRecursion RuleGood rs
    → AllByRecursion PlaceFits (rows_of label i k b rs)
rules_fit label i k b [] l h = tt
rules_fit label i k b (r ∷ rs) l h =
    (full_fits label r.name l h.0.name, rules_fit label i (k + 1) (begun_at b k r) rs l h.1)

places_fit : (i b : ℕ) (ms : List Module) → AllByRecursion ModuleGood ms → AllByRecursion PlaceFits (rows_from i b ms)
places_fit i b [] h = tt
places_fit i b (m ∷ ms) h =
    all_append PlaceFits (rows_of m.label i 0 b m.rules) (rows_from (i + 1) (begun_in b 0 m.rules) ms)
    (rules_fit m.label i 0 b m.rules h.0.label h.0.rules) (places_fit (i + 1) (begun_in b 0 m.rules) ms h.1)

-- ---- their statements

-- each body is of the form of a reading, and fits
abbrev BodyGood : Expr → Type 0
BodyGood e = Good e × FitsExpr e

pub record StatementGood (s : Statement) : Type 0 where
  pub form : Good s.body
  pub fits : FitsStatement s

module _ (p : Packages) (good : AllByRecursion ModuleGood p.stock.modules) where
  by_module : (k : ℕ) (o : Option Module) → IfAny ModuleGood o → IfAny RuleGood (o >>= (λ m. slice_get m.rules k))
  by_module k None h = tt
  by_module k (Some m) h = nth_has RuleGood m.rules k h.rules

  by_row : (o : Option Place) → IfAny RuleGood (o >>= (λ w. rule_in p.stock.modules w.from w.place))
  by_row None = tt
  by_row (Some w) =
      by_module w.place (slice_get p.stock.modules w.from) (nth_has ModuleGood p.stock.modules w.from good)

  by_rule : (o : Option Rule) → IfAny RuleGood o → IfAny BodyGood (o >>= (λ r. Some r.body))
  by_rule None h = tt
  by_rule (Some r) h = (h.form, h.fits)

  body_good : (n : ℕ) → IfAny BodyGood (body p n)
  body_good n = by_rule (rule_at p n) (by_row (row_at p n))

  by_home : (w : Place) (o : Option Rule) → FitsName w.name
      → IfAny HeadFits (o >>= (λ r. Some (head_of p w r)))
  by_home w None h = tt
  by_home w (Some r) h = h

  by_place : (o : Option Place) → IfAny PlaceFits o → IfAny HeadFits (head_by p o)
  by_place None h = tt
  by_place (Some w) h = by_home w (rule_in p.stock.modules w.from w.place) h

  halt_fits : (b : Bool) → FitsName (halt_by b)
  halt_fits true = known_fits (codes "*.halt") 6 refl refl (omega arith)
  halt_fits false = known_fits (codes "halt") 4 refl refl (omega arith)

  head_fits : (n : ℕ) → IfAny HeadFits (head p n)
  head_fits zero = known_fits boundary_name 1 refl refl (omega arith)
  head_fits (suc zero) = halt_fits (binds_halt p)
  head_fits (suc (suc n)) =
      by_place (slice_get (rows p.stock.modules) n)
      (nth_has PlaceFits (rows p.stock.modules) n (places_fit 0 0 p.stock.modules good))

  by_body : (n : ℕ) (h : Head) (o : Option Expr) → FitsName h.name → IfAny BodyGood o
      → IfAny StatementGood (o >>= (λ e. Some (statement_by p n h e)))
  by_body n h None f g = tt
  by_body n h (Some e) f g = record { form = g.0; fits = (f, g.1) }

  by_head : (n : ℕ) (o : Option Head) → IfAny HeadFits o
      → IfAny StatementGood (o >>= (λ h. body p n >>= (λ e. Some (statement_by p n h e))))
  by_head n None f = tt
  by_head n (Some h) f = by_body n h (body p n) f (body_good n)

  one_more : (o : Option Statement) (ss : List Statement) → IfAny StatementGood o → AllByRecursion StatementGood ss
      → AllByRecursion StatementGood (with_one o ss)
  one_more None ss h k = k
  one_more (Some s) ss h k = (h, k)

  from_good : (k n : ℕ) → AllByRecursion StatementGood (statements_from p k n)
  from_good k zero = tt
  from_good k (suc n) =
      one_more (statement_at p k) (statements_from p (k + 1) n) (by_head k (head p k) (head_fits k))
      (from_good (k + 1) n)

  all_good : AllByRecursion StatementGood (statements p)
  all_good = from_good 2 (length (rows p.stock.modules))

-- every statement of a set that is built
pub statements_good : (p : Packages) → IsBuilt p → AllByRecursion StatementGood (statements p)
statements_good p b = all_good p (set_good p b)

-- ---- they fit

each_fits : (ss : List Statement) → AllByRecursion StatementGood ss → AllByRecursion FitsStatement ss
each_fits [] h = tt
each_fits (s ∷ ss) h = (h.0.fits, each_fits ss h.1)

-- the name, the texts and the sets of each statement of a built set can be written
pub statements_fit : StatementsFit
statements_fit p b = All-from_recursion FitsStatement (statements p) (each_fits (statements p) (statements_good p b))
