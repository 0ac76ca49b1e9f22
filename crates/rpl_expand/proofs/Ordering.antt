-- The table stands in order.
use Rattle.std.proofs.Common.{◌≡◌, ◌⊎◌, ℕ, zero, suc, ◌+◌, ◌<◌, ◌≤◌, List, [], ◌∷◌, ◌++◌, length, refl, sym, ap, ◌∙◌}
use Rattle.std.proofs.Common.{subst, inl, inr, arith, length-append}
use Rattle.std.specs.Prelude.{Bool, true, false, Option, Some, None, slice_get, option_map, map}
use Rattle.std.proofs.lemmas.Bool.{cases_order}
use Rattle.std.proofs.lemmas.Option.{slice_get_within, slice_get-map}
use Rattle.rpl_core.specs.Core.{Core, Halt}
use Rattle.rpl_core.specs.Order.{AreTogether, IsInOrder, block_at}
use Rattle.rpl_core.specs.Programs.{calls}
use Rattle.rpl_core.specs.Table.{bodies_of, blocks_of}
use Rattle.rpl_core.specs.View.{core_of}
use Rattle.rpl_core.specs.declared.rules.Rule.{Rule}
use Rattle.rpl_forms.specs.Inlining.{Inners, inner, inlined}
use Rattle.rpl_forms.specs.Rows.{Row, rows_of, inners_from}
use Rattle.rpl_forms.proofs.Standing.{get_before, get_last}
use Rattle.rpl_macro.specs.declared.casing.Casing.TheVariants.{Plain}
use Rattle.rpl_expand.specs.Expansion.{core}
use Rattle.rpl_expand.specs.Table.{Statement, boundary, body_of, built_in, captured, row_of, rows, scope_at, table}
use Rattle.rpl_expand.specs.Bound.{IsBound, AreBound, table_blocks}
use Rattle.rpl_expand.proofs.Calls.{Only, OnlyInners, Allows, only_core, only_inlined}

-- what a rule with the number n may call
abbrev May : List (Option ℕ) → ℕ → ℕ → Type 0
May blocks n t = (t < n) ⊎ AreTogether blocks n t

only_captured : (P : ℕ → Type 0) (c : Bool) (name : List ℕ) (p : Core) → Only P p → Only P (captured c name p)
only_captured P true name p f = f
only_captured P false name p f = f

only_weaker : (P Q : ℕ → Type 0) (p : Core) → ((t : ℕ) → P t → Q t) → Only P p → Only Q p
only_weaker P Q p h f t e = h t (f t e)

-- a rule outside blocks calls only earlier ones
alone : (blocks : List (Option ℕ)) (n t : ℕ) → block_at (slice_get blocks n) ≡ None → May blocks n t → t < n
alone blocks n t e h = elim h [ inl lt ↦ lt | inr m ↦ absurd (let x : None ≡ Some m.0 = sym e ∙ m.1 in cc) ]

-- the body of a statement
body_only : (blocks : List (Option ℕ)) (n : ℕ) (I : Inners) (s : Statement) → 1 < n → OnlyInners (λ t. t < n) I
    → IsBound blocks n s → Only (May blocks n) (body_of I s)
body_only blocks n I s two ok b =
    let a : Allows (May blocks n) (scope_at I s) = record {
      boundary = inl b.boundary;
      names = b.names;
      halt = inl two;
      inners = λ r q e. only_weaker (λ t. t < n) (May blocks n) q (λ t lt. inl lt) (ok r q e);
    } in
    only_captured (May blocks n) s.captures s.name (core Plain (scope_at I s) s.body)
    (only_core (May blocks n) (scope_at I s) a Plain s.body)

-- what stands for a rule outside blocks
stands_only : (blocks : List (Option ℕ)) (n : ℕ) (I : Inners) (b : Option ℕ) (p q : Core)
    → block_at (slice_get blocks n) ≡ b → OnlyInners (λ t. t < n) I → Only (May blocks n) p → inner I b p ≡ Some q
    → Only (λ t. t < n + 1) q
stands_only blocks n I (Some k) p q e ok f g = absurd cc
stands_only blocks n I None p q e ok f g =
    let before : Only (λ t. t < n) p = λ t h. alone blocks n t e (f t h) in
    let all = only_inlined (λ t. t < n) I ok p before in
    let same : inlined I p ≡ q = cc in
    subst (Only (λ t. t < n + 1)) same (only_weaker (λ t. t < n) (λ t. t < n + 1) (inlined I p) (λ t lt. omega arith)
    all)

-- one rule more
inners_only : (n : ℕ) (I : Inners) (x : Option Core) → length I ≡ n → OnlyInners (λ t. t < n) I
    → ((q : Core) → x ≡ Some q → Only (λ t. t < n + 1) q) → OnlyInners (λ t. t < n + 1) (I ++ x ∷ [])
inners_only n I x long ok h r q e = elim (cases_order r (length I)) [
  | inl is ↦ h q (let here : Some x ≡ Some (Some q) = sym (get_last I x) ∙ ap (slice_get (I ++ x ∷ [])) (sym is)
      ∙ e in cc)
  | inr (inl lt) ↦ only_weaker (λ t. t < n) (λ t. t < n + 1) q (λ t l. omega arith)
      (ok r q (sym (get_before I x r lt) ∙ e))
  | inr (inr gt) ↦ absurd (omega (arith, slice_get_within (I ++ x ∷ []) r (Some q) e, length-append I (x ∷ [])))
]

record Holds (blocks : List (Option ℕ)) (n : ℕ) (s : Statement) : Type 0 where
  bound : IsBound blocks n s
  block : block_at (slice_get blocks n) ≡ s.block

rows_only : (blocks : List (Option ℕ)) (n : ℕ) (I : Inners) (ss : List Statement) → 1 < n → length I ≡ n
    → OnlyInners (λ t. t < n) I → ((k : ℕ) (s : Statement) → slice_get ss k ≡ Some s → Holds blocks (n + k) s)
    → (k : ℕ) (r : Row) → slice_get (rows I ss) k ≡ Some r → Only (May blocks (n + k)) r.body
rows_only blocks n I [] two long ok h k r e = absurd cc
rows_only blocks n I (s ∷ ss) two long ok h zero r e =
    let n0 : n + 0 ≡ n = omega arith in
    let here : row_of I s ≡ r = cc in
    let b : IsBound blocks n s = subst (λ m. IsBound blocks m s) n0 (h 0 s refl).bound in
    subst (λ m. Only (May blocks m) r.body) (sym n0)
    (subst (λ x. Only (May blocks n) x.body) here (body_only blocks n I s two ok b))
rows_only blocks n I (s ∷ ss) two long ok h (suc k) r e =
    let n0 : n + 0 ≡ n = omega arith in
    let first : Holds blocks n s = subst (λ m. Holds blocks m s) n0 (h 0 s refl) in
    let p = body_of I s in
    let x = inner I s.block p in
    let f = body_only blocks n I s two ok first.bound in
    let ok' = inners_only n I x long ok (λ q g. stands_only blocks n I s.block p q first.block ok f g) in
    let long' : length (I ++ x ∷ []) ≡ n + 1 = omega (arith, length-append I (x ∷ []), long) in
    let place : (j : ℕ) → (n + 1) + j ≡ n + suc j = λ j. omega arith in
    subst (λ m. Only (May blocks m) r.body) (place k)
    (rows_only blocks (n + 1) (I ++ x ∷ []) ss (omega arith) long' ok'
    (λ j y g. subst (λ m. Holds blocks m y) (sym (place j)) (h (suc j) y g)) k r e)

boundary_only : (P : ℕ → Type 0) → Only P boundary
boundary_only P t e = absurd (let x : false ≡ true = e in cc)

halt_only : (P : ℕ → Type 0) → Only P Halt
halt_only P t e = absurd (let x : false ≡ true = e in cc)

-- what stands for the two built-in rules
first_only : (halt : List ℕ) → OnlyInners (λ t. t < 2) (inners_from [] (built_in halt))
first_only halt zero q e =
    let same : inlined [] boundary ≡ q = cc in subst (Only (λ t. t < 2)) same
    (λ t g. absurd (let x : false ≡ true = g in cc))
first_only halt (suc zero) q e = let same : Halt ≡ q = cc in subst (Only (λ t. t < 2)) same (halt_only (λ t. t < 2))
first_only halt (suc (suc r)) q e = absurd cc

block_here : (ss : List Statement) (k : ℕ) (s : Statement) → slice_get ss k ≡ Some s
    → block_at (slice_get (table_blocks ss) (2 + k)) ≡ s.block
block_here ss k s e =
    let two : 2 + k ≡ suc (suc k) = omega arith in
    ap (λ m. block_at (slice_get (table_blocks ss) m)) two
    ∙ ap block_at (slice_get-map (λ x. x.block) ss k ∙ ap (option_map (λ x. x.block)) e)

-- what the rules of a table call
pub table_only : (halt : List ℕ) (ss : List Statement) → AreBound ss → (n : ℕ) (r : Row)
    → slice_get (table halt ss) n ≡ Some r → Only (May (table_blocks ss) n) r.body
table_only halt ss a zero r e =
    let same : boundary ≡ r.body = cc in subst (Only (May (table_blocks ss) 0)) same
    (boundary_only (May (table_blocks ss) 0))
table_only halt ss a (suc zero) r e =
    let same : Halt ≡ r.body = cc in subst (Only (May (table_blocks ss) 1)) same (halt_only (May (table_blocks ss) 1))
table_only halt ss a (suc (suc k)) r e =
    let two : 2 + k ≡ suc (suc k) = omega arith in
    let holds : (j : ℕ) (s : Statement) → slice_get ss j ≡ Some s → Holds (table_blocks ss) (2 + j) s =
    λ j s g. record { bound = a.bound j s g; block = block_here ss j s g } in
    subst (λ m. Only (May (table_blocks ss) m) r.body) two
    (rows_only (table_blocks ss) 2 (inners_from [] (built_in halt)) ss (omega arith) refl (first_only halt) holds
    k r e)

rows_blocks : (I : Inners) (ss : List Statement) → map (λ r. r.block) (rows I ss) ≡ map (λ s. s.block) ss
rows_blocks I [] = refl
rows_blocks I (s ∷ ss) = ap (λ l. s.block ∷ l) (rows_blocks (I ++ inner I s.block (body_of I s) ∷ []) ss)

-- the table of some statements has the blocks that `table_blocks` lists
pub table_blocks_are : (halt : List ℕ) (ss : List Statement) → map (λ r. r.block) (table halt ss) ≡ table_blocks ss
table_blocks_are halt ss = ap (λ l. None ∷ None ∷ l) (rows_blocks (inners_from [] (built_in halt)) ss)

-- the bodies and blocks of rules are those of their rows
bodies_rows : (rs : List Rule) → bodies_of rs ≡ map (λ r. r.body) (rows_of rs)
bodies_rows [] = refl
bodies_rows (r ∷ rs) = ap (λ l. core_of r.body ∷ l) (bodies_rows rs)

blocks_rows : (rs : List Rule) → blocks_of rs ≡ map (λ r. r.block) (rows_of rs)
blocks_rows [] = refl
blocks_rows (r ∷ rs) = ap (λ l. r.block ∷ l) (blocks_rows rs)

row_there : (o : Option Row) (p : Core) → option_map (λ r. r.body) o ≡ Some p → (r : Row) × (o ≡ Some r) × (r.body ≡ p)
row_there None p e = absurd cc
row_there (Some r) p e = (r, refl, cc)

-- the rules of a table stand in order
pub in_order : (halt : List ℕ) (ss : List Statement) (rs : List Rule) → AreBound ss → rows_of rs ≡ table halt ss
    → IsInOrder (bodies_of rs) (blocks_of rs)
in_order halt ss rs a same =
    let blocks : blocks_of rs ≡ table_blocks ss =
    blocks_rows rs ∙ ap (map (λ r. r.block)) same ∙ table_blocks_are halt ss in
    let bodies : bodies_of rs ≡ map (λ r. r.body) (table halt ss) = bodies_rows rs ∙ ap (map (λ r. r.body)) same in
    record {
      side_by_side =
          subst (λ l. (r s q b : ℕ) → r ≤ s → s ≤ q → block_at (slice_get l r) ≡ Some b
          → block_at (slice_get l q) ≡ Some b → block_at (slice_get l s) ≡ Some b) (sym blocks) a.side_by_side;
      earlier = λ r s p e g.
          let here = sym (slice_get-map (λ x. x.body) (table halt ss) r) ∙ sym (ap (λ l. slice_get l r) bodies) ∙ e in
          let row = row_there (slice_get (table halt ss) r) p here in
          subst (λ l. (s < r) ⊎ AreTogether l r s) (sym blocks)
          (table_only halt ss a r row.0 row.1 s (ap (λ x. calls x s) row.2 ∙ g));
    }
