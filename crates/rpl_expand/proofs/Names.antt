-- In a set that is built no two rules of a module have one name, no two modules one package name, and no two rules of
-- the table one full name.
use Rattle.std.proofs.Common.{arith, ◌≡◌, ◌≢◌, ℕ, zero, suc, List, [], ◌∷◌, ◌++◌, map, Option, Some, None, refl}
use Rattle.std.proofs.Common.{sym, ap, subst, ◌∙◌}
use Rattle.std.specs.Prelude.{Bool, true, false, codes, if◌then◌else◌, slice_get, option_map}
use Rattle.std.specs.Str.{bytes_eq}
use Rattle.std.proofs.lemmas.Option.{slice_get-map}
use Rattle.std.proofs.lemmas.Slice.Eq.{bytes_eq-Decides}
use Rattle.rpl_text.specs.Options.{◌>>=◌}
use Rattle.rpl_core.specs.Table.{AreDistinct}
use Rattle.rpl_forms.specs.Inlining.{Inners, inner}
use Rattle.rpl_forms.specs.Rows.{inners_from}
use Rattle.rpl_expand.proofs.Whole.{apart}
use Rattle.rpl_expand.specs.Sets.{statement_by, statements, table_of}
use Rattle.rpl_expand.specs.Table as E
use Rattle.rpl_expand.specs.Table.{Statement, body_of, built_in}
use Rattle.rpl_scope.specs.Packages.{Module, Rule, first_of, first_rule}
use Rattle.rpl_names.specs.Roots.{Packages}
use Rattle.rpl_names.specs.Tables.{boundary_name, full_name, rows}
use Rattle.rpl_names.specs.Targets.{binds, binds_halt, halt_by, halt_name, head_of, is_own}
use Rattle.rpl_names.specs.declared.table.Row.{Row}
use Rattle.rpl_names.specs.Built.{IsBuilt}
use Rattle.rpl_expand.specs.LoadLaws.{RulesAreDistinct}
use Rattle.rpl_expand.proofs.Distinct.{IsApart, set_apart}
use Rattle.rpl_expand.proofs.FullNames.{IsUnbroken, dotted, full_same, mark_unbroken, split, star}
use Rattle.rpl_expand.proofs.Labels.{one_of_label}
use Rattle.rpl_expand.proofs.Rows.{Located, located}
use Rattle.rpl_expand.proofs.Tables.{nth_statement, row_there}
use Rattle.rpl_expand.proofs.Under.{one_of_name}
use Rattle.rpl_expand.proofs.Words.{words_unbroken}

abbrev halt_word : List ℕ
halt_word = codes "halt"

halt_unbroken : IsUnbroken halt_word
halt_unbroken = words_unbroken halt_word refl

-- ---- the built-in rules have names of their own

marked : (b : Bool) (n : List ℕ) → bytes_eq n boundary_name ≡ b → (if b then codes "*.~" else n) ≢ boundary_name
marked true n is e = absurd (cc)
marked false n is e = let k : bytes_eq n boundary_name ≡ true = (bytes_eq-Decides n boundary_name).1 e in absurd (cc)

no_mark : (l n : List ℕ) → full_name l n ≢ boundary_name
no_mark [] n e = marked (bytes_eq n boundary_name) n refl e
no_mark (c ∷ l) n e = dotted (c ∷ l) n (subst IsUnbroken (sym e) mark_unbroken)

top_halt : (b : Bool) (n : List ℕ) → IsUnbroken n → (if b then codes "*.~" else n) ≢ codes "*.halt"
top_halt true n h e = absurd (cc)
top_halt false n h e = dotted star halt_word (subst IsUnbroken e h)

star_halt : (l n : List ℕ) → IsUnbroken n → l ≢ star → full_name l n ≢ codes "*.halt"
star_halt [] n h s e = top_halt (bytes_eq n boundary_name) n h e
star_halt (c ∷ l) n h s e = s (split (c ∷ l) star n halt_word h halt_unbroken e).0

top_plain : (b : Bool) (n : List ℕ) → (if b then codes "*.~" else n) ≡ halt_word → n ≡ halt_word
top_plain true n e = absurd (cc)
top_plain false n e = e

plain_halt : (l n : List ℕ) → full_name l n ≡ halt_word → (l ≡ []) × (n ≡ halt_word)
plain_halt [] n e = (refl, top_plain (bytes_eq n boundary_name) n e)
plain_halt (c ∷ l) n e = absurd (dotted (c ∷ l) n (subst IsUnbroken (sym e) halt_unbroken))

-- ---- the rows of the table

module _ (p : Packages) (h : IsApart p.stock p.top) where
  name_of : (n : ℕ) (w : Row) (x : Located 0 0 p.stock.modules n w) → w.name ≡ full_name x.home.label x.rule.name
  name_of n w x = ap (λ z. z.name) x.row

  unbroken_in : (n : ℕ) (w : Row) (x : Located 0 0 p.stock.modules n w) → IsUnbroken x.rule.name
  unbroken_in n w x = (h.apart.under.each x.owner x.home x.at).unbroken x.place x.rule x.has

  -- rows of one full name are one
  one_of_full_name : (n k : ℕ) (v w : Row) → slice_get (rows p.stock.modules) n ≡ Some v
      → slice_get (rows p.stock.modules) k ≡ Some w → v.name ≡ w.name → n ≡ k
  one_of_full_name n k v w f g e =
      let ms = p.stock.modules in
      let x = located 0 0 ms n v f in
      let y = located 0 0 ms k w g in
      let t = full_same x.home.label y.home.label x.rule.name y.rule.name (unbroken_in n v x) (unbroken_in k w y)
      (h.apart.labelled.starless x.owner x.home x.at) (h.apart.labelled.starless y.owner y.home y.at)
      (sym (name_of n v x) ∙ e ∙ name_of k w y) in
      let i = one_of_label p.stock x.owner y.owner x.home y.home h.apart.labelled x.at y.at t.0 in
      let m : Some x.home ≡ Some y.home = sym x.at ∙ ap (slice_get ms) i ∙ y.at in
      let home : x.home ≡ y.home = cc in
      let has : slice_get x.home.rules y.place ≡ Some y.rule = ap (λ z. slice_get z.rules y.place) home ∙ y.has in
      let j = one_of_name x.home x.place y.place x.rule y.rule (h.apart.under.each x.owner x.home x.at) x.has has t.1 in
      let a : first_rule ms x.owner ≡ first_rule ms y.owner = ap (first_rule ms) i in
      let b = x.number in
      let c = y.number in
      omega (arith, a, b, c, j)

  -- a rule `halt` of the top module is bound there
  bound_halt : (i k : ℕ) (m : Module) (r : Rule) → slice_get p.stock.modules i ≡ Some m → slice_get m.rules k ≡ Some r
      → m.label ≡ [] → r.name ≡ halt_word → binds_halt p ≡ true
  bound_halt i k m r at has nameless is =
      let top = h.top in
      let same = one_of_label p.stock i p.top m top.home h.apart.labelled at top.at (nameless ∙ sym top.nameless) in
      let here : slice_get p.stock.modules p.top ≡ Some m = ap (slice_get p.stock.modules) (sym same) ∙ at in
      let u = (h.apart.under.each i m at).each k r has in
      ap (λ o. binds (o >>= (λ x. first_of halt_word x.names))) here
      ∙ ap (λ n. binds (first_of n m.names)) (sym is) ∙ ap binds u.1 ∙ ap is_own u.2

  halt_by_name : (b : Bool) → binds_halt p ≡ b → (n : ℕ) (w : Row) (x : Located 0 0 p.stock.modules n w)
      → full_name x.home.label x.rule.name ≢ halt_by b
  halt_by_name true is n w x e =
      star_halt x.home.label x.rule.name (unbroken_in n w x) (h.apart.labelled.starless x.owner x.home x.at) e
  halt_by_name false is n w x e =
      let k = plain_halt x.home.label x.rule.name e in
      let yes = bound_halt x.owner x.place x.home x.rule x.at x.has k.0 k.1 in
      absurd (cc)

  no_halt : (n : ℕ) (w : Row) → slice_get (rows p.stock.modules) n ≡ Some w → w.name ≢ halt_name p
  no_halt n w at e =
      let x = located 0 0 p.stock.modules n w at in
      halt_by_name (binds_halt p) refl n w x (sym (name_of n w x) ∙ e)

  not_boundary : (n : ℕ) (w : Row) → slice_get (rows p.stock.modules) n ≡ Some w → w.name ≢ boundary_name
  not_boundary n w at e =
      let x = located 0 0 p.stock.modules n w at in
      no_mark x.home.label x.rule.name (sym (name_of n w x) ∙ e)

  -- ---- the table

  abbrev names_in : List (List ℕ)
  names_in = map (λ r. r.name) (table_of p)

  rows_names : (I : Inners) (ss : List Statement) → map (λ r. r.name) (E.rows I ss) ≡ map (λ s. s.name) ss
  rows_names I [] = refl
  rows_names I (s ∷ ss) = ap (λ l. s.name ∷ l) (rows_names (I ++ inner I s.block (body_of I s) ∷ []) ss)

  stated : (n : ℕ) (o : Option Statement) (x : List ℕ) → slice_get (statements p) n ≡ o
      → option_map (λ s. s.name) o ≡ Some x
      → (w : Row) × (slice_get (rows p.stock.modules) n ≡ Some w) × (w.name ≡ x)
  stated n None x is e = absurd (cc)
  stated n (Some s) x is e =
      let r = row_there p n s is in
      let l = located 0 0 p.stock.modules n r.0 r.1 in
      let k : statement_by p (suc (suc n)) (head_of p r.0 l.rule) l.rule.body ≡ s =
      (let g = nth_statement p n r.0 r.1 l in cc) in
      (r.0, r.1, ap (λ y. y.name) k ∙ (let g : s.name ≡ x = cc in g))

  -- the name of a rule that a statement made
  row_named : (n : ℕ) (x : List ℕ) → slice_get names_in (suc (suc n)) ≡ Some x
      → (w : Row) × (slice_get (rows p.stock.modules) n ≡ Some w) × (w.name ≡ x)
  row_named n x e =
      let I = inners_from [] (built_in (halt_name p)) in
      stated n (slice_get (statements p) n) x refl
      (sym (ap (λ l. slice_get l n) (rows_names I (statements p)) ∙ slice_get-map (λ s. s.name) (statements p) n) ∙ e)

  distinct : AreDistinct names_in
  distinct zero zero x f g = refl
  distinct zero (suc zero) x f g =
      let e : halt_name p ≡ boundary_name = cc in absurd (apart (binds_halt p) e)
  distinct (suc zero) zero x f g =
      let e : halt_name p ≡ boundary_name = cc in absurd (apart (binds_halt p) e)
  distinct (suc zero) (suc zero) x f g = refl
  distinct zero (suc (suc n)) x f g =
      let r = row_named n x g in
      let e : boundary_name ≡ x = cc in absurd (not_boundary n r.0 r.1 (r.2 ∙ sym e))
  distinct (suc (suc n)) zero x f g =
      let r = row_named n x f in
      let e : boundary_name ≡ x = cc in absurd (not_boundary n r.0 r.1 (r.2 ∙ sym e))
  distinct (suc zero) (suc (suc n)) x f g =
      let r = row_named n x g in
      let e : halt_name p ≡ x = cc in absurd (no_halt n r.0 r.1 (r.2 ∙ sym e))
  distinct (suc (suc n)) (suc zero) x f g =
      let r = row_named n x f in
      let e : halt_name p ≡ x = cc in absurd (no_halt n r.0 r.1 (r.2 ∙ sym e))
  distinct (suc (suc n)) (suc (suc k)) x f g =
      let r = row_named n x f in
      let s = row_named k x g in
      ap (λ i. suc (suc i)) (one_of_full_name n k r.0 s.0 r.1 s.1 (r.2 ∙ sym s.2))

pub table_distinct : (p : Packages) → IsBuilt p → AreDistinct (map (λ r. r.name) (table_of p))
table_distinct p b = distinct p (set_apart p b)

-- ---- modules

-- what stands at a number among the names of some
named_at : {A : Type 0} (name : A → List ℕ) (xs : List A) (i : ℕ) (x : List ℕ) → slice_get (map name xs) i ≡ Some x
    → (a : A) × (slice_get xs i ≡ Some a) × (name a ≡ x)
named_at name [] i x h = absurd (cc)
named_at name (a ∷ xs) zero x h = (a, refl, cc)
named_at name (a ∷ xs) (suc i) x h = named_at name xs i x h

rules_distinct : (p : Packages) → IsApart p.stock p.top → RulesAreDistinct p.stock.modules
rules_distinct p h i m at j k x f g =
    let a = named_at (λ (r : Rule). r.name) m.rules j x f in
    let b = named_at (λ (r : Rule). r.name) m.rules k x g in
    one_of_name m j k a.0 b.0 (h.apart.under.each i m at) a.1 b.1 (a.2 ∙ sym b.2)

labels_distinct : (p : Packages) → IsApart p.stock p.top → AreDistinct (map (λ m. m.label) p.stock.modules)
labels_distinct p h i j x f g =
    let a = named_at (λ (m : Module). m.label) p.stock.modules i x f in
    let b = named_at (λ (m : Module). m.label) p.stock.modules j x g in
    one_of_label p.stock i j a.0 b.0 h.apart.labelled a.1 b.1 (a.2 ∙ sym b.2)

pub modules_apart : (p : Packages) → IsBuilt p
    → RulesAreDistinct p.stock.modules × AreDistinct (map (λ m. m.label) p.stock.modules)
modules_apart p b = let h = set_apart p b in (rules_distinct p h, labels_distinct p h)
