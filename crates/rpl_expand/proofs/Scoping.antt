-- What the names of statements and patterns are bound to, as the expansion asks for it.
use Rattle.std.proofs.Common.{arith, ◌≡◌, ◌≤◌, ◌<◌, ◌⊎◌, inl, inr, ℕ, zero, suc, ◌+◌, ◌-◌, List, [], ◌∷◌, ◌++◌}
use Rattle.std.proofs.Common.{length, map, Option, Some, None, refl, sym, ap, subst, ◌∙◌}
use Rattle.std.specs.Prelude.{Bool, true, false, not, slice_get, option_map, unwrap_or}
use Rattle.std.proofs.lemmas.List.{length-map}
use Rattle.std.proofs.lemmas.Option.{slice_get_within, slice_get-map}
use Rattle.rpl_text.specs.Options.{◌>>=◌}
use Rattle.rpl_core.specs.Core.{Core, Capture}
use Rattle.rpl_core.specs.Order.{AreTogether, IsInOrder, block_at}
use Rattle.rpl_core.specs.Programs.{calls}
use Rattle.rpl_core.specs.Table.{bodies_of, blocks_of}
use Rattle.rpl_core.specs.View.{core_of}
use Rattle.rpl_core.specs.declared.rules.Rule.{Rule as Built}
use Rattle.rpl_forms.specs.Inlining.{Inners, inner}
use Rattle.rpl_forms.specs.Rows.{row_at, rows_of, inners_of, inners_from}
use Rattle.rpl_expand.proofs.Ordering.{in_order}
use Rattle.rpl_expand.specs.Expansion.{core}
use Rattle.rpl_macro.specs.declared.casing.Casing.TheVariants.{Plain}
use Rattle.rpl_expand.specs.Table as E
use Rattle.rpl_expand.specs.Table.{Statement, body_of, built_in, captured}
use Rattle.rpl_expand.specs.Bound.{IsOver, MakeTrees}
use Rattle.rpl_syntax.specs.declared.name.QName.{QName}
use Rattle.rpl_scope.specs.Packages.{Module, bound, first_rule}
use Rattle.rpl_scope.specs.declared.module.Referent.{Referent}
use Rattle.rpl_scope.specs.declared.module.Referent.TheVariants.{Own, Of, BuiltIn}
use Rattle.rpl_scope.specs.declared.scope.Found.{Found}
use Rattle.rpl_scope.specs.declared.scope.Found.TheVariants.{To, Unknown, Hidden}
use Rattle.rpl_names.specs.Roots.{Packages}
use Rattle.rpl_names.specs.Tables.{row_of, rows}
use Rattle.rpl_names.specs.Targets.{Site, boundary, boundary_mark, halt_name, head_of, resolved}
use Rattle.rpl_names.specs.Targets.{resolved_at, resolved_in, site, target, target_in, target_of}
use Rattle.rpl_expand.proofs.Aiming.{Targets, targets, within, there}
use Rattle.rpl_expand.proofs.Lists.{nth_found}
use Rattle.rpl_expand.proofs.Modules.{AreSound}
use Rattle.rpl_expand.proofs.Rows.{Located, located, before, first_least, row_is, upto}
use Rattle.rpl_expand.proofs.Seeing.{Refers, Sees, sees}
use Rattle.rpl_expand.proofs.Tables.{all_bound, nth_statement}
use Rattle.rpl_expand.specs.Sets.{makes_tree, rule_of, scope_of, statement_by, statements, table_of}

-- ---- the table has a rule for each statement

long : (p : Packages) (n : ℕ) → n ≡ length (rows p.stock.modules) → n ≤ length (statements p)
long p zero e = omega arith
long p (suc n) e =
    let w = nth_found (rows p.stock.modules) n (omega (arith, e)) in
    let l = located 0 0 p.stock.modules n w.0 w.1 in
    let k = slice_get_within (statements p) n _ (nth_statement p n w.0 w.1 l) in
    omega (arith, k)

rows_long : (I : Inners) (ss : List Statement) → length (E.rows I ss) ≡ length ss
rows_long I [] = refl
rows_long I (s ∷ ss) = ap suc (rows_long (I ++ inner I s.block (body_of I s) ∷ []) ss)

-- the row of a statement
row_of_it : (I : Inners) (ss : List Statement) (k : ℕ) (s : Statement) → slice_get ss k ≡ Some s → (J : Inners)
    × (slice_get (E.rows I ss) k ≡ Some (E.row_of J s))
row_of_it I [] k s h = absurd (cc)
row_of_it I (x ∷ ss) zero s h = let e : x ≡ s = cc in (I, ap (λ y. Some (E.row_of I y)) e)
row_of_it I (x ∷ ss) (suc k) s h = row_of_it (I ++ inner I x.block (body_of I x) ∷ []) ss k s h

module _ (p : Packages) (rs : List Built) (same : rows_of rs ≡ table_of p) where
  many : length rs ≡ 2 + length (statements p)
  many =
      let a : length (rows_of rs) ≡ length rs = length-map rs row_at in
      let b : length (table_of p) ≡ suc
      (suc (length (E.rows (inners_from [] (built_in (halt_name p))) (statements p)))) = refl in
      let c = rows_long (inners_from [] (built_in (halt_name p))) (statements p) in
      let d : length (rows_of rs) ≡ length (table_of p) = ap (λ x. length x) same in
      omega (arith, a, b, c, d)

  bodies_rows : (xs : List Built) → bodies_of xs ≡ map (λ r. r.body) (rows_of xs)
  bodies_rows [] = refl
  bodies_rows (x ∷ xs) = ap (λ l. core_of x.body ∷ l) (bodies_rows xs)

  -- the body of a statement's rule
  body_at : (k : ℕ) (s : Statement) → slice_get (statements p) k ≡ Some s → (J : Inners)
      × (slice_get (bodies_of rs) (suc (suc k)) ≡ Some (body_of J s))
  body_at k s h =
      let r = row_of_it (inners_from [] (built_in (halt_name p))) (statements p) k s h in
      let row : slice_get (table_of p) (suc (suc k)) ≡ Some (E.row_of r.0 s) = r.1 in (
        r.0,
        ap (λ l. slice_get l (suc (suc k))) (bodies_rows rs ∙ ap (map (λ x. x.body)) same)
            ∙ slice_get-map (λ x. x.body) (table_of p) (suc (suc k)) ∙ ap (option_map (λ x. x.body)) row,
      )

  -- ---- what a name is bound to is a rule

  module _ (sound : AreSound p.stock.modules) where
    all_there : 2 + length (rows p.stock.modules) ≤ length rs
    all_there = let a = many in let b = long p (length (rows p.stock.modules)) refl in omega (arith, a, b)

    in_module : (i start : ℕ) (q : QName) (o : Option Module) → slice_get p.stock.modules i ≡ o
        → rule_of (resolved_in p.stock.modules i start q o) < 2 + length (rows p.stock.modules)
    in_module i start q None at = omega arith
    in_module i start q (Some m) at =
        there p.stock.modules i m at start q.name (bound p.stock.modules m start q)
        (sees p.stock.modules sound i m at start q)

    at_site : (q : QName) (o : Option Site) → rule_of (resolved_at p q o) < 2 + length (rows p.stock.modules)
    at_site q None = omega arith
    at_site q (Some s) = in_module s.owner s.start q (slice_get p.stock.modules s.owner) refl

    mark_at : (o : Option Site)
        → unwrap_or (o >>= (λ s. Some (rule_of (resolved_at p boundary_mark (Some s))))) 0
        < 2 + length (rows p.stock.modules)
    mark_at None = omega arith
    mark_at (Some s) = at_site boundary_mark (Some s)

    bodies_long : length (bodies_of rs) ≡ length rs
    bodies_long = length-map rs (λ x. core_of x.body)

    pub in_rules : (x : ℕ) → x < 2 + length (rows p.stock.modules) → x < length (bodies_of rs)
    in_rules x lt = let a = all_there in let b = bodies_long in omega (arith, a, b, lt)

    block_long : (t b : ℕ) (o : Option (Option ℕ)) → slice_get (blocks_of rs) t ≡ o → block_at o ≡ Some b
        → t < length rs
    block_long t b None e h = absurd (cc)
    block_long t b (Some x) e h =
        let a = slice_get_within (blocks_of rs) t x e in
        let c : length (blocks_of rs) ≡ length rs = length-map rs (λ y. y.block) in
        omega (arith, a, c)

    called_by : (r t : ℕ) → r < length (bodies_of rs) → (t < r) ⊎ AreTogether (blocks_of rs) r t
        → t < length (bodies_of rs)
    called_by r t lt (inl le) = omega (arith, lt, le)
    called_by r t lt (inr h) =
        let a = block_long t h.0 (slice_get (blocks_of rs) t) refl h.2 in
        let b = bodies_long in
        omega (arith, a, b)

    called : IsInOrder (bodies_of rs) (blocks_of rs) → (r t : ℕ) (c : Core) → slice_get (bodies_of rs) r ≡ Some c
        → calls c t ≡ true → t < length (bodies_of rs)
    called order r t c at h = called_by r t (slice_get_within (bodies_of rs) r c at) (order.earlier r t c at h)

    pub rules_in_order : IsInOrder (bodies_of rs) (blocks_of rs)
    rules_in_order = in_order (halt_name p) (statements p) rs (all_bound p sound) same

    pub scope_over : (n : Option ℕ) → IsOver (bodies_of rs) (scope_of p n (inners_of rs))
    scope_over n = record {
      names = λ q. in_rules (rule_of (resolved p n q)) (at_site q (site p n));
      boundary = in_rules (unwrap_or (boundary p n) 0) (mark_at (site p n));
      halt = in_rules 1 (omega arith);
      rules = called rules_in_order;
    }

    -- ---- a name that captures is a rule whose body is a capture

    -- this rule captures
    abbrev Captures : ℕ → Type 0
    Captures x = (label : List ℕ) × (c : Core) × (slice_get (bodies_of rs) x ≡ Some (Capture label c))

    statement_captures : (b : Bool) (J : Inners) (s : Statement) → s.captures ≡ b → b ≡ true → (label : List ℕ)
        × (c : Core) × (body_of J s ≡ Capture label c)
    statement_captures true J s e h =
        let c = core Plain (E.scope_at J s) s.body in
        (s.name, c, ap (λ b. captured b s.name c) e)
    statement_captures false J s e h = absurd (cc)

    by_statement : (n : ℕ) (s : Statement) → slice_get (statements p) n ≡ Some s → s.captures ≡ true
        → Captures (suc (suc n))
    by_statement n s at h =
        let b = body_at n s at in
        let c = statement_captures s.captures b.0 s refl h in
        (c.0, c.1, b.1 ∙ ap Some c.2)

    pub target_captures : (j k : ℕ) (t : Targets p.stock.modules j k) → not t.rule.alias ≡ true
        → Captures (first_rule p.stock.modules j + k)
    target_captures j k t h =
        let ms = p.stock.modules in
        let least = first_least ms j in
        let n = (first_rule ms j + k) - 2 in
        let number : n + 2 ≡ first_rule ms j + k = omega (arith, least) in
        let w = row_of t.owner.label j k (upto (before 0 ms j) 0 t.owner.rules k) t.rule in
        let at = row_is 0 0 ms j k t.owner t.rule n j t.at t.has (omega arith) number in
        let l : Located 0 0 ms n w = record {
          owner = j;
          place = k;
          home = t.owner;
          rule = t.rule;
          at = t.at;
          has = t.has;
          number = number;
          from = j;
          counts = omega arith;
          row = refl;
        } in
        let s = statement_by p (suc (suc n)) (head_of p w t.rule) t.rule.body in
        let is : suc (suc n) ≡ first_rule ms j + k = omega (arith, number) in
        subst (λ x. Captures x) is (by_statement n s (nth_statement p n w at l) h)

    by_target : (j k : ℕ) (t : Targets p.stock.modules j k) → makes_tree (target_in p.stock.modules j k) ≡ true
        → Captures (rule_of (target_in p.stock.modules j k))
    by_target j k t h = subst Captures (sym (ap rule_of t.is)) (target_captures j k t (sym (ap makes_tree t.is) ∙ h))

    by_referent : (i : ℕ) (m : Module) (start : ℕ) (n : List ℕ) (x : Referent) → slice_get p.stock.modules i ≡ Some m
        → Refers p.stock.modules i m start n x
        → makes_tree (target_of p.stock.modules i x) ≡ true → Captures (rule_of (target_of p.stock.modules i x))
    by_referent i m start n (Own k) at r h = by_target i k (targets p.stock.modules i k m r.0 at r.1) h
    by_referent i m start n (Of j k) at r h = by_target j k (within p.stock.modules j k r.0) h
    by_referent i m start n BuiltIn at r h = absurd (cc)

    by_found : (i : ℕ) (m : Module) (start : ℕ) (n : List ℕ) (o : Found) → slice_get p.stock.modules i ≡ Some m
        → Sees p.stock.modules i m start n o
        → makes_tree (target p.stock.modules i o) ≡ true → Captures (rule_of (target p.stock.modules i o))
    by_found i m start n (To x) at r h = by_referent i m start n x at r h
    by_found i m start n Unknown at r h = absurd (cc)
    by_found i m start n Hidden at r h = absurd (cc)

    by_module : (i start : ℕ) (q : QName) (o : Option Module) → slice_get p.stock.modules i ≡ o
        → makes_tree (resolved_in p.stock.modules i start q o) ≡ true
        → Captures (rule_of (resolved_in p.stock.modules i start q o))
    by_module i start q None at h = absurd (cc)
    by_module i start q (Some m) at h =
        by_found i m start q.name (bound p.stock.modules m start q) at (sees p.stock.modules sound i m at start q) h

    by_site : (q : QName) (o : Option Site) → makes_tree (resolved_at p q o) ≡ true
        → Captures (rule_of (resolved_at p q o))
    by_site q None h = absurd (cc)
    by_site q (Some s) h = by_module s.owner s.start q (slice_get p.stock.modules s.owner) refl h

    pub make_trees : (n : Option ℕ) → MakeTrees (bodies_of rs) (λ q. makes_tree (resolved p n q))
        (scope_of p n (inners_of rs))
    make_trees n q h = by_site q (site p n) h
