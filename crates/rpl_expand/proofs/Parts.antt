-- The cores of some expressions, one after the other.
use Rattle.std.proofs.Common.{◌≡◌, ◌≢◌, ℕ, zero, suc, ◌+◌, ◌<◌, ◌≤◌, List, [], ◌∷◌, length, drop, get_or, refl, sym}
use Rattle.std.proofs.Common.{ap, ◌∙◌, arith, length-drop}
use Rattle.std.specs.Prelude.{Bool, true, false, ◌||◌, nat_eq, Some, slice_get}
use Rattle.std.proofs.lemmas.Bool.Decides.{nat_tests}
use Rattle.std.proofs.lemmas.List.{drop_all}
use Rattle.rpl_core.specs.Core.{Core, Seq, Call, Cores, NoMore, Then}
use Rattle.rpl_syntax.specs.declared.expr.Expr.{Expr}
use Rattle.rpl_syntax.specs.View.{expr_of, exprs_all}
use Rattle.rpl_macro.specs.declared.casing.Casing.{Casing}
use Rattle.rpl_forms.specs.Counting.{seen, seen_all}
use Rattle.rpl_expand.specs.inside.Items.{alone, prefix_at, between}
use Rattle.rpl_expand.specs.Expansion.{Scope, core, cores, spaced, is_prefix}
use Rattle.rpl_forms.specs.Forms.{seq_of, spaced_by, joined}
use Rattle.rpl_forms.specs.Inlining.{Inners}
use Rattle.rpl_expand.proofs.Drops.{drop_here}
use Rattle.rpl_forms.proofs.Joins.{joined_none, joined_assoc}
use Rattle.rpl_forms.proofs.Counted.{seen_nothing}

abbrev pub parts : Casing → Scope → List Expr → Cores
parts c s es = cores c s (exprs_all es)

abbrev pub items : Casing → Scope → List Expr → Cores
items c s es = spaced c s (exprs_all es)

-- a group of no item, or of several, is a sequence
pub raw_more : (c : Casing) (s : Scope) (es : List Expr) → length es ≢ 1 → seq_of (parts c s es) ≡ Seq (parts c s es)
raw_more c s [] h = refl
raw_more c s (e ∷ []) h = absurd (h refl)
raw_more c s (e ∷ f ∷ es) h = refl

spaced_last : (prefix : Bool) (b p : Core) → spaced_by prefix b p NoMore ≡ Then p NoMore
spaced_last true b p = refl
spaced_last false b p = refl

spaced_before : (prefix : Bool) (b p q : Core) (ps : Cores)
    → spaced_by prefix b p (Then q ps) ≡ Then p (between prefix b (Then q ps))
spaced_before true b p q ps = refl
spaced_before false b p q ps = refl

-- some items begin with the core of the first
starts_by : (prefix : Bool) (b p : Core) (ps : Cores) → (rest : Cores) × (spaced_by prefix b p ps ≡ Then p rest)
starts_by prefix b p NoMore = (NoMore, spaced_last prefix b p)
starts_by prefix b p (Then q ps) = (between prefix b (Then q ps), spaced_before prefix b p q ps)

starts : (c : Casing) (s : Scope) (e : Expr) (es : List Expr) → (rest : Cores)
    × (items c s (e ∷ es) ≡ Then (core c s (expr_of e)) rest)
starts c s e es = starts_by (is_prefix (expr_of e)) (Call s.boundary) (core c s (expr_of e)) (items c s es)

group_spaced : (prefix : Bool) (b p q : Core) (ps : Cores)
    → seq_of (spaced_by prefix b p (Then q ps)) ≡ Seq (spaced_by prefix b p (Then q ps))
group_spaced true b p q ps = refl
group_spaced false b p q ps = refl

pub cooked_more : (c : Casing) (s : Scope) (es : List Expr) → length es ≢ 1
    → seq_of (items c s es) ≡ Seq (items c s es)
cooked_more c s [] h = refl
cooked_more c s (e ∷ []) h = absurd (h refl)
cooked_more c s (e ∷ f ∷ es) h =
    let next = starts c s f es in
    let B = Call s.boundary in
    let same = ap (spaced_by (is_prefix (expr_of e)) B (core c s (expr_of e))) next.1 in
    ap seq_of same ∙ group_spaced (is_prefix (expr_of e)) B (core c s (expr_of e)) _ next.0 ∙ ap Seq (sym same)

pub parts_here : (c : Casing) (s : Scope) (es : List Expr) (k : ℕ) (e : Expr) → k < length es → e ≡ get_or es k e
    → parts c s (drop k es) ≡ Then (core c s (expr_of e)) (parts c s (drop (k + 1) es))
parts_here c s es k e lt is = ap (parts c s) (drop_here es k e lt is)

get_here : (es : List Expr) (k : ℕ) (e : Expr) → k < length es → e ≡ get_or es k e → slice_get es k ≡ Some e
get_here [] k e lt is = absurd (omega arith)
get_here (f ∷ es) zero e lt is = ap Some (sym is)
get_here (f ∷ es) (suc k) e lt is = get_here es k e (omega arith) is

or_right : (a b : Bool) → a ≡ false → (a || b) ≡ b
or_right true b h = absurd cc
or_right false b h = refl

or_left : (a b : Bool) → a ≡ true → (a || b) ≡ true
or_left true b h = refl
or_left false b h = absurd cc

nat_eq_not : (a b : ℕ) → a ≢ b → nat_eq a b ≡ false
nat_eq_not a b h = grind (arith, nat_tests)

nat_eq_same : (a b : ℕ) → a ≡ b → nat_eq a b ≡ true
nat_eq_same a b h = grind (arith, nat_tests)

-- an item with those after it
step : (c : Casing) (s : Scope) (es : List Expr) (k : ℕ) (e : Expr) (rest : List Expr) → k < length es
    → e ≡ get_or es k e → length rest + (k + 1) ≡ length es
    → items c s (e ∷ rest) ≡ Then (core c s (expr_of e)) (between (alone es k) (Call s.boundary) (items c s rest))
step c s es k e [] lt is n =
    let last : nat_eq (k + 1) (length es) ≡ true = nat_eq_same (k + 1) (length es) (omega arith) in
    let al : alone es k ≡ true = or_left _ (prefix_at (slice_get es k)) last in
    spaced_last (is_prefix (expr_of e)) (Call s.boundary) (core c s (expr_of e))
    ∙ ap (λ a. Then (core c s (expr_of e)) (between a (Call s.boundary) NoMore)) (sym al)
step c s es k e (f ∷ rest) lt is n =
    let last : nat_eq (k + 1) (length es) ≡ false = nat_eq_not (k + 1) (length es) (omega arith) in
    let al : alone es k ≡ is_prefix (expr_of e) =
    or_right _ (prefix_at (slice_get es k)) last ∙ ap prefix_at (get_here es k e lt is) in
    let B = Call s.boundary in
    let p = core c s (expr_of e) in
    let q = core c s (expr_of f) in
    let next = starts c s f rest in
    ap (spaced_by (is_prefix (expr_of e)) B p) next.1
    ∙ spaced_before (is_prefix (expr_of e)) B p q next.0
    ∙ ap (λ a. Then p (between a B (Then q next.0))) (sym al)
    ∙ ap (λ r. Then p (between (alone es k) B r)) (sym next.1)

pub items_here : (c : Casing) (s : Scope) (es : List Expr) (k : ℕ) (e : Expr) → k < length es → e ≡ get_or es k e
    → items c s (drop k es) ≡ Then (core c s (expr_of e))
    (between (alone es k) (Call s.boundary) (items c s (drop (k + 1) es)))
items_here c s es k e lt is =
    ap (items c s) (drop_here es k e lt is)
    ∙ step c s es k e (drop (k + 1) es) lt is (omega (arith, length-drop (k + 1) es))

pub seen_between : (b : Bool) (I : Inners) (a : Bool) (p q : Core) (rest : Cores)
    → seen_all b I (Then p (between a q rest)) ≡ Then (seen b I p) (between a (seen b I q) (seen_all b I rest))
seen_between true I true p q rest = refl
seen_between true I false p q rest = refl
seen_between false I a p q rest = refl

-- one expression more, as what is seen of it
pub parts_seen : (b : Bool) (I : Inners) (c : Casing) (s : Scope) (es : List Expr) (k : ℕ) (e : Expr) → k < length es
    → e ≡ get_or es k e → seen_all b I (parts c s (drop k es))
    ≡ Then (seen b I (core c s (expr_of e))) (seen_all b I (parts c s (drop (k + 1) es)))
parts_seen true I c s es k e lt is = ap (seen_all true I) (parts_here c s es k e lt is)
parts_seen false I c s es k e lt is = parts_here c s es k e lt is

pub items_seen : (b : Bool) (I : Inners) (c : Casing) (s : Scope) (es : List Expr) (k : ℕ) (e : Expr) → k < length es
    → e ≡ get_or es k e → seen_all b I (items c s (drop k es))
    ≡ Then (seen b I (core c s (expr_of e)))
    (between (alone es k) (seen b I (Call s.boundary)) (seen_all b I (items c s (drop (k + 1) es))))
items_seen b I c s es k e lt is =
    ap (seen_all b I) (items_here c s es k e lt is)
    ∙ seen_between b I (alone es k) (core c s (expr_of e)) (Call s.boundary) (items c s (drop (k + 1) es))

pub none_left : (b : Bool) (I : Inners) (c : Casing) (s : Scope) (es : List Expr) (k : ℕ) → length es ≤ k
    → seen_all b I (parts c s (drop k es)) ≡ NoMore
none_left b I c s es k h = ap (λ l. seen_all b I (parts c s l)) (drop_all k es h) ∙ seen_nothing b I

pub none_spaced : (b : Bool) (I : Inners) (c : Casing) (s : Scope) (es : List Expr) (k : ℕ) → length es ≤ k
    → seen_all b I (items c s (drop k es)) ≡ NoMore
none_spaced b I c s es k h = ap (λ l. seen_all b I (items c s l)) (drop_all k es h) ∙ seen_nothing b I

-- what was made, with what is left, after one expression more
pub parts_turn : (b : Bool) (I : Inners) (c : Casing) (s : Scope) (es : List Expr) (k : ℕ) (e : Expr)
    (old new whole : Cores) → k < length es → e ≡ get_or es k e
    → new ≡ joined old (Then (seen b I (core c s (expr_of e))) NoMore)
    → joined old (seen_all b I (parts c s (drop k es))) ≡ whole
    → joined new (seen_all b I (parts c s (drop (k + 1) es))) ≡ whole
parts_turn b I c s es k e old new whole lt is made h =
    let rest = seen_all b I (parts c s (drop (k + 1) es)) in
    ap (λ ps. joined ps rest) made
    ∙ joined_assoc old (Then (seen b I (core c s (expr_of e))) NoMore) rest
    ∙ ap (joined old) (sym (parts_seen b I c s es k e lt is)) ∙ h

between_joined : (a : Bool) (p b : Core) (rest : Cores)
    → joined (Then p (between a b NoMore)) rest ≡ Then p (between a b rest)
between_joined true p b rest = refl
between_joined false p b rest = refl

pub items_turn : (b : Bool) (I : Inners) (c : Casing) (s : Scope) (es : List Expr) (k : ℕ) (e : Expr)
    (old new whole : Cores) → k < length es → e ≡ get_or es k e
    → new ≡ joined old (Then (seen b I (core c s (expr_of e)))
    (between (alone es k) (seen b I (Call s.boundary)) NoMore))
    → joined old (seen_all b I (items c s (drop k es))) ≡ whole
    → joined new (seen_all b I (items c s (drop (k + 1) es))) ≡ whole
items_turn b I c s es k e old new whole lt is made h =
    let p = seen b I (core c s (expr_of e)) in
    let q = seen b I (Call s.boundary) in
    let rest = seen_all b I (items c s (drop (k + 1) es)) in
    ap (λ ps. joined ps rest) made
    ∙ joined_assoc old (Then p (between (alone es k) q NoMore)) rest
    ∙ ap (joined old) (between_joined (alone es k) p q rest ∙ sym (items_seen b I c s es k e lt is)) ∙ h

pub all_made : (made rest whole : Cores) → rest ≡ NoMore → joined made rest ≡ whole → made ≡ whole
all_made made rest whole e h = sym (joined_none made) ∙ ap (joined made) (sym e) ∙ h
