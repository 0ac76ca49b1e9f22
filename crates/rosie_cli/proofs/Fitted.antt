-- The cores of what can be written in a code file: their sets are sets, their names and messages are texts, and
-- their look-behinds are short.
use Rattle.std.proofs.Common.{◌≡◌, ℕ, zero, suc, ◌-◌, ◌*◌, ◌<◌, ◌≤◌, ◌^◌, Bool, true, false, List, [], ◌∷◌, ◌++◌}
use Rattle.std.proofs.Common.{Option, Some, None, refl, sym, subst, arith}
use Rattle.std.proofs.lemmas.List.Elements.{All-nil, All-cons, All-head, All-tail, All-append, All-get_or}
use Rattle.std.proofs.lemmas.List.{length-append}
use Rattle.std.proofs.lemmas.Option.{get_or_from_slice_get, slice_get_within}
use Rattle.std.proofs.lemmas.Str.{len_utf8_bounds, length-encode}
use Rattle.std.specs.List.{All}
use Rattle.std.specs.Prelude.{◌||◌, if◌then◌else◌, min, slice_get, codes, encode_utf8, encode_utf8_all, length, not}
use Rattle.std.specs.Prelude.{IsUtf8, Ok, Err}
use Rattle.regex_class.specs.Ranges.{Range}
use Rattle.rpl_classes.specs.Algebra.{folded}
use Rattle.rpl_unicode.specs.Folding.{folds_with}
use Rattle.rpl_classes.specs.Norm.{norm, add, join}
use Rattle.rpl_classes.specs.Sets.{IsNormal}
use Rattle.rpl_classes.proofs.Cases.{widened_normal}
use Rattle.rpl_classes.proofs.Named.{set_normal}
use Rattle.rpl_classes.proofs.Normal.{norm_normal}
use Rattle.rpl_classes.proofs.Operations.{others_normal}
use Rattle.regex_class.specs.Ranges.{in_ranges}
use Rattle.rpl_codefile.specs.Compiled.{IsFit, AreFit}
use Rattle.rpl_codefile.specs.Spelling.{FitsText}
use Rattle.rpl_core.specs.Core.{Core, Set, Seq, Choice, Many, Not, And, Behind, Call, Capture, Note, Cores, NoMore}
use Rattle.rpl_core.specs.Core.{Then}
use Rattle.rpl_core.specs.Core as C
use Rattle.rpl_core.specs.Lengths.{has_call, has_repetition, greatest, least}
use Rattle.rosie_prepare.specs.Prepared.{GoalPasses, IsPrepared, Passes, PatternRequest, Ready, Tree, bodies, goal_in}
use Rattle.rosie_prepare.specs.Prepared.{ready, too_large, unsound}
use Rattle.rosie_prepare.specs.Prepared.{unless_faulty as found_of}
use Rattle.rpl_check.specs.Faults as F
use Rattle.rpl_expand.proofs.Norms.{blank_norm, mark_norm, word_norm}
use Rattle.rpl_expand.specs.Faults as E
use Rattle.rpl_expand.specs.Sets.{captures_of, scope_of, statements, table_of}
use Rattle.rpl_expand.specs.Table.{Statement, blank, body_of, boundary, built_in, captured, has_root, mark, rows}
use Rattle.rpl_expand.specs.Table.{scope_at}
use Rattle.rpl_expand.specs.Table.{word}
use Rattle.rpl_expand.specs.Expansion.{Scope, core, cores, is_cooked, is_prefix, signed_by, spaced}
use Rattle.rpl_forms.specs.Forms.{any, behind, copies, cooked_bounded, cooked_endless, cooked_repeat, cooked_turns}
use Rattle.rpl_forms.specs.Forms.{casing_under, endless, found, kept, macro_core, mark_name, or_nothing}
use Rattle.rpl_forms.specs.Forms.{pair, passed, repeat, repeated, seq_of, sets, signed, spaced_by}
use Rattle.rpl_forms.specs.Inlining.{Inners, called, inlined, inlined_all, inner}
use Rattle.rpl_forms.specs.Table.{Row, inners_from}
use Rattle.rpl_macro.specs.Kinds.{kind_of}
use Rattle.rpl_macro.specs.Sets.{set_in, single}
use Rattle.rpl_macro.specs.Uses.{text_of}
use Rattle.rpl_macro.specs.declared.casing.Casing.{Casing}
use Rattle.rpl_macro.specs.declared.casing.Casing.TheVariants.{Plain, Ascii, Folded}
use Rattle.rpl_macro.specs.declared.kind.Macro.{Macro}
use Rattle.rpl_macro.specs.declared.kind.Macro.TheVariants.{Find, FindAll, KeepTo, Ci, Uci, Message, Error}
use Rattle.rpl_expand.specs.Fitting.{FitsExpr, FitExprs, FitsStatement, IsWithin}
use Rattle.rpl_expand.specs.LoadLaws.{IsLoaded, by_pattern, by_roots}
use Rattle.rpl_expand.proofs.Fitting.{patterns_fit}
use Rattle.rpl_expand.proofs.Loaded.{told_is_built}
use Rattle.rpl_expand.proofs.Stated.{statements_fit}
use Rattle.rpl_expand.proofs.Told.{pattern_said}
use Rattle.rpl_names.specs.Goals.{ReadsGoal}
use Rattle.rpl_names.specs.Loading.{world}
use Rattle.rpl_names.specs.Patterns.{load_pattern}
use Rattle.rpl_names.specs.Roots.{Packages, load}
use Rattle.rpl_names.specs.Targets.{halt_name}
use Rattle.rpl_scope.specs.Results.{Or, ◌>>=◌}
use Rattle.rpl_syntax.specs.Expression.{Expr, Exprs, Nil, Cons}
use Rattle.rpl_syntax.specs.Expression as X
use Rattle.rpl_syntax.specs.declared.expr.Mark.{Mark}
use Rattle.rpl_syntax.specs.declared.expr.Mark.TheVariants.{Hit, Skip}
use Rattle.rpl_syntax.specs.declared.expr.Sign.{Sign}
use Rattle.rpl_syntax.specs.declared.expr.Sign.TheVariants as S

-- ---- sets

set_in_normal : (c : Casing) (s : List Range) → IsNormal s → IsNormal (set_in c s)
unfolding folded
set_in_normal Plain s h = h
set_in_normal Ascii s h = widened_normal s
set_in_normal Folded s h = set_normal (folds_with (in_ranges s))

signed_normal : (negated : Bool) (s : List Range) → IsNormal s → IsNormal (signed negated s)
signed_normal true s h = others_normal s
signed_normal false s h = h

any_norm : norm any ≡ any
unfolding norm add join
any_norm = refl

any_normal : IsNormal any
any_normal = subst IsNormal any_norm (norm_normal any)

-- ---- forms

seq_fit : (ps : Cores) → AreFit ps → IsFit (seq_of ps)
seq_fit NoMore h = tt
seq_fit (Then p NoMore) h = h.0
seq_fit (Then p (Then q ps)) h = h

sets_fit : (c : Casing) (t : List ℕ) → AreFit (sets c t)
sets_fit c [] = tt
sets_fit c (x ∷ xs) = (set_in_normal c (single x) (norm_normal ((x, x) ∷ [])), sets_fit c xs)

copies_fit : (n : ℕ) (p : Core) (rest : Cores) → IsFit p → AreFit rest → AreFit (copies n p rest)
copies_fit zero p rest h k = k
copies_fit (suc n) p rest h k = (h, copies_fit n p rest h k)

pair_fit : (p q : Core) → IsFit p → IsFit q → IsFit (pair p q)
pair_fit p q h k = (h, (k, tt))

or_fit : (p : Core) → IsFit p → IsFit (or_nothing p)
or_fit p h = (h, (tt, tt))

endless_fit : (p : Core) (n : ℕ) → IsFit p → IsFit (endless p n)
endless_fit p zero h = h
endless_fit p (suc n) h = (h, copies_fit n p (Then (Many p) NoMore) h (h, tt))

repeat_fit : (p : Core) (n : ℕ) (m : Option ℕ) → IsFit p → IsFit (repeat p n m)
repeat_fit p n None h = endless_fit p n h
repeat_fit p n (Some m) h =
    copies_fit n p (copies (m - n) (or_nothing p) NoMore) h (copies_fit (m - n) (or_nothing p) NoMore (or_fit p h) tt)

module _ (b p : Core) (k : IsFit b) (h : IsFit p) where
  turn : IsFit (pair b p)
  turn = pair_fit b p k h

  cooked_endless_fit : (n : ℕ) → IsFit (cooked_endless b p n)
  cooked_endless_fit zero = or_fit (pair p (Many (pair b p))) (pair_fit p (Many (pair b p)) h turn)
  cooked_endless_fit (suc n) = (h, copies_fit n (pair b p) (Then (Many (pair b p)) NoMore) turn (turn, tt))

  turns_fit : (n m : ℕ) → IsFit (cooked_turns b p n m)
  turns_fit n m = (
    h,
    copies_fit n (pair b p) (copies m (or_nothing (pair b p)) NoMore) turn
        (copies_fit m (or_nothing (pair b p)) NoMore (or_fit (pair b p) turn) tt),
  )

  bounded_fit : (n m : ℕ) → IsFit (cooked_bounded b p n m)
  bounded_fit zero zero = tt
  bounded_fit zero (suc m) = or_fit (cooked_turns b p 0 m) (turns_fit 0 m)
  bounded_fit (suc n) m = turns_fit n (m - suc n)

  cooked_fit : (n : ℕ) (m : Option ℕ) → IsFit (cooked_repeat b p n m)
  cooked_fit n None = cooked_endless_fit n
  cooked_fit n (Some m) = bounded_fit n m

  repeated_fit : (cooked : Bool) (n : ℕ) (m : Option ℕ) → IsFit (repeated cooked b p n m)
  repeated_fit true n m = cooked_fit n m
  repeated_fit false n m = repeat_fit p n m h

behind_fit : (p : Core) → IsFit p → IsFit (behind p)
behind_fit p h = go (has_call p || has_repetition p)
  where
    go : (b : Bool) → IsFit (if b then Behind 0 0 p else Behind (min 65536 (least p)) (min 256 (greatest p)) p)
    go true = (omega arith, h)
    go false = (below (greatest p), h)
      where
        below : (n : ℕ) → min 256 n < 2 ^ 32
        below n = omega arith

short : (x : List ℕ) (n : ℕ) → length (encode_utf8_all x) ≡ n → n < 2 ^ 64 → length (encode_utf8_all x) < 2 ^ 64
short x n e lt = subst (λ k. k < 2 ^ 64) (sym e) lt

mark_fit : (m : Mark) → FitsText (mark_name m)
unfolding lib.Utf8.encode
mark_fit Hit = (refl, short (mark_name Hit) 6 refl (omega arith))
mark_fit Skip = (refl, short (mark_name Skip) 13 refl (omega arith))

passed_fit : (p : Core) → IsFit p → IsFit (passed p)
passed_fit p h = pair_fit (Not p) (Set any) h any_normal

found_fit : (p : Core) → IsFit p → IsFit (found p)
found_fit p h = pair_fit (passed p) (Capture (mark_name Hit) p) (passed_fit p h) (mark_fit Hit, h)

kept_fit : (p : Core) → IsFit p → IsFit (kept p)
kept_fit p h =
    pair_fit (Capture (mark_name Skip) (passed p)) (Capture (mark_name Hit) p) (mark_fit Skip, passed_fit p h)
    (mark_fit Hit, h)

macro_fit : (k : Option Macro) (t : List ℕ) (p : Core) → FitsText t → IsFit p → IsFit (macro_core k t p)
macro_fit None t p f h = h
macro_fit (Some Find) t p f h = found_fit p h
macro_fit (Some FindAll) t p f h = endless_fit (found p) 1 (found_fit p h)
macro_fit (Some KeepTo) t p f h = kept_fit p h
macro_fit (Some Ci) t p f h = h
macro_fit (Some Uci) t p f h = h
macro_fit (Some Message) t p f h = f
macro_fit (Some Error) t p f h = pair_fit (Note t) (Call 1) f tt

-- ---- look-behinds

abbrev FitInner : Option Core → Type 0
FitInner None = Unit {0}
FitInner (Some p) = IsFit p

abbrev FitInners : Inners → Type 0
FitInners I = All FitInner I

inner_at : (I : Inners) (r : ℕ) (o : Option Core) → slice_get I r ≡ Some o → FitInners I → FitInner o
inner_at I r o e h =
    subst FitInner (get_or_from_slice_get I r o o e) (All-get_or FitInner I r o (slice_get_within I r o e) h)

called_fit : (I : Inners) (r : ℕ) (o : Option (Option Core)) → slice_get I r ≡ o → FitInners I → IsFit (called r o)
called_fit I r None e h = tt
called_fit I r (Some None) e h = tt
called_fit I r (Some (Some p)) e h = inner_at I r (Some p) e h

mutual
  inlined_fit : (I : Inners) (p : Core) → FitInners I → IsFit p → IsFit (inlined I p)
  inlined_fit I (Set s) f h = h
  inlined_fit I (Seq ps) f h = inlined_all_fit I ps f h
  inlined_fit I (Choice ps) f h = inlined_all_fit I ps f h
  inlined_fit I (Many p) f h = inlined_fit I p f h
  inlined_fit I (Not p) f h = inlined_fit I p f h
  inlined_fit I (And p) f h = inlined_fit I p f h
  inlined_fit I (Behind l m p) f h = h
  inlined_fit I (Call r) f h = called_fit I r (slice_get I r) refl f
  inlined_fit I (Capture c p) f h = inlined_fit I p f h.1
  inlined_fit I (Note x) f h = tt
  inlined_fit I C.Start f h = tt
  inlined_fit I C.End f h = tt
  inlined_fit I C.Halt f h = tt

  inlined_all_fit : (I : Inners) (ps : Cores) → FitInners I → AreFit ps → AreFit (inlined_all I ps)
  inlined_all_fit I NoMore f h = tt
  inlined_all_fit I (Then p ps) f h = (inlined_fit I p f h.0, inlined_all_fit I ps f h.1)

-- ---- texts

encoded_short : (t : List ℕ) → length (encode_utf8_all t) ≤ 4 * length t
encoded_short [] = omega arith
encoded_short (c ∷ t) =
    let width = (len_utf8_bounds c).1 in
    omega (arith, encoded_short t, width, length-encode c, length-append (encode_utf8 c) (encode_utf8_all t))

within_fits : (n : ℕ) (t : List ℕ) → 4 * n < 2 ^ 64 → IsWithin n t → FitsText t
within_fits n t lt h = let few = h.1 in (h.0, omega (arith, lt, few, encoded_short t))

-- ---- expressions

text_fits : (e : Expr) → FitsExpr e → FitsText (text_of e)
text_fits (X.Text t) h = within_fits 1048576 t (omega arith) h
text_fits _ h = (refl, short [] 0 refl (omega arith))

spaced_fit : (prefix : Bool) (b p : Core) (ps : Cores) → IsFit b → IsFit p → AreFit ps
    → AreFit (spaced_by prefix b p ps)
spaced_fit prefix b p NoMore k h f = (h, tt)
spaced_fit true b p (Then q ps) k h f = (h, f)
spaced_fit false b p (Then q ps) k h f = (h, (k, f))

module _ (s : Scope) (inners : FitInners s.inners) where
  signed_fit : (sign : Sign) (p : Core) → IsFit p → IsFit (signed_by s.inners sign p)
  signed_fit S.Not p h = h
  signed_fit S.Ahead p h = h
  signed_fit S.Behind p h = behind_fit (inlined s.inners p) (inlined_fit s.inners p inners h)

  mutual
    core_fit : (c : Casing) (e : Expr) → FitsExpr e → IsFit (core c s e)
    core_fit c (X.Text t) h = seq_fit (sets c t) (sets_fit c t)
    core_fit c (X.Class r negated) h = signed_normal negated (set_in c r) (set_in_normal c r h)
    core_fit c X.Any h = any_normal
    core_fit c X.Start h = tt
    core_fit c X.End h = tt
    core_fit c X.Boundary h = tt
    core_fit c (X.Name q) h = tt
    core_fit c (X.Cooked ps) h = seq_fit (spaced c s ps) (items_fit c ps h)
    core_fit c (X.Raw ps) h = seq_fit (cores c s ps) (cores_fit c ps h)
    core_fit c (X.Choice ps) h = cores_fit c ps h
    core_fit c (X.Both p q) h = pair_fit (And (core c s p)) (core c s q) (core_fit c p h.0) (core_fit c q h.1)
    core_fit c (X.Prefix sign p) h = signed_fit sign (core c s p) (core_fit c p h)
    core_fit c (X.Repeat p l m) h =
        repeated_fit (Call s.boundary) (core c s p) tt (core_fit c p h) (is_cooked p) l m
    core_fit c (X.Macro q p) h =
        macro_fit (kind_of q.name) (text_of p) (core (casing_under (kind_of q.name) c) s p) (text_fits p h)
        (core_fit (casing_under (kind_of q.name) c) p h)
    core_fit c (X.Marked m p) h = (mark_fit m, core_fit c p h)
    core_fit c (X.Note t) h = within_fits 1048576 t (omega arith) h

    cores_fit : (c : Casing) (ps : Exprs) → FitExprs ps → AreFit (cores c s ps)
    cores_fit c Nil h = tt
    cores_fit c (Cons p ps) h = (core_fit c p h.0, cores_fit c ps h.1)

    items_fit : (c : Casing) (ps : Exprs) → FitExprs ps → AreFit (spaced c s ps)
    items_fit c Nil h = tt
    items_fit c (Cons p ps) h =
        spaced_fit (is_prefix p) (Call s.boundary) (core c s p) (spaced c s ps) tt (core_fit c p h.0)
        (items_fit c ps h.1)

-- ---- tables

captured_fit : (captures : Bool) (name : List ℕ) (p : Core) → FitsText name → IsFit p → IsFit (captured captures name p)
captured_fit true name p f h = (f, h)
captured_fit false name p f h = h

inner_fit : (I : Inners) (block : Option ℕ) (p : Core) → FitInners I → IsFit p → FitInner (inner I block p)
inner_fit I None p f h = inlined_fit I p f h
inner_fit I (Some block) p f h = tt

added_fit : (I : Inners) (block : Option ℕ) (p : Core) → FitInners I → IsFit p → FitInners (I ++ inner I block p ∷ [])
added_fit I block p f h =
    let o = inner I block p in
    All-append FitInner I (o ∷ []) f (All-cons FitInner o [] (inner_fit I block p f h) (All-nil FitInner))

inners_fit : (I : Inners) (rs : List Row) → FitInners I → All IsFit (bodies rs) → FitInners (inners_from I rs)
inners_fit I [] f h = f
inners_fit I (r ∷ rs) f h =
    inners_fit (I ++ inner I r.block r.body ∷ []) rs
    (added_fit I r.block r.body f (All-head IsFit r.body (bodies rs) h)) (All-tail IsFit r.body (bodies rs) h)

rows_fit : (I : Inners) (ss : List Statement) → FitInners I → All FitsStatement ss → All IsFit (bodies (rows I ss))
rows_fit I [] f h = All-nil IsFit
rows_fit I (s ∷ ss) f h =
    let said = All-head FitsStatement s ss h in
    let p = core Plain (scope_at I s) s.body in
    let name = within_fits 2097153 s.name (omega arith) said.0 in
    let here = captured_fit s.captures s.name p name (core_fit (scope_at I s) f Plain s.body said.1) in
    let I1 = I ++ inner I s.block (body_of I s) ∷ [] in
    All-cons IsFit (body_of I s) (bodies (rows I1 ss)) here
    (rows_fit I1 ss (added_fit I s.block (body_of I s) f here) (All-tail FitsStatement s ss h))

boundary_fit : IsFit boundary
boundary_fit =
    let b : IsFit blank = subst IsNormal blank_norm (norm_normal ((0x9, 0xd) ∷ (0x20, 0x20) ∷ [])) in
    let w : IsFit word = subst IsNormal word_norm (norm_normal ((0x30, 0x39) ∷ (0x41, 0x5a) ∷ (0x61, 0x7a) ∷ [])) in
    let m : IsFit mark =
    subst IsNormal mark_norm (norm_normal ((0x21, 0x2f) ∷ (0x3a, 0x40) ∷ (0x5b, 0x60) ∷ (0x7b, 0x7e) ∷ [])) in
    let back : 1 < 2 ^ 32 = omega arith in
    ((b, (b, tt)), ((w, ((back, w), tt)), (m, ((back, m), (((back, b), (b, tt)), (tt, (tt, tt)))))))

built_in_fit : (halt : List ℕ) (rs : List Core) → All IsFit rs → All IsFit (boundary ∷ C.Halt ∷ rs)
built_in_fit halt rs h = All-cons IsFit boundary (C.Halt ∷ rs) boundary_fit (All-cons IsFit C.Halt rs tt h)

table_fit : (p : Packages) → All FitsStatement (statements p) → All IsFit (bodies (table_of p))
table_fit p h =
    let halt = halt_name p in
    let built = built_in_fit halt [] (All-nil IsFit) in
    let I = inners_from [] (built_in halt) in
    built_in_fit halt (bodies (rows I (statements p)))
    (rows_fit I (statements p) (inners_fit [] (built_in halt) (All-nil FitInner) built) h)

star_fit : FitsText (codes "*")
unfolding lib.Utf8.encode
star_fit = (refl, short (codes "*") 1 refl (omega arith))

goal_fit : (p : Packages) (e : Expr) → All FitsStatement (statements p) → FitsExpr e → IsFit (goal_in p e)
goal_fit p e h k =
    let I = inners_from [] (table_of p) in
    let s = scope_of p None I in
    let inners = inners_fit [] (table_of p) (All-nil FitInner) (table_fit p h) in
    captured_fit (not (has_root (captures_of p) e)) (codes "*") (core Plain s e) star_fit (core_fit s inners Plain e k)

-- ---- what is prepared

is_ready : (r : Ready) (p : Packages) (e : Expr) (o : Option F.Fault) → Ok r ≡ found_of p (ready p e) o → ready p e ≡ r
is_ready r p e None h = cc
is_ready r p e (Some f) h = absurd (cc)

passes_ready : (r : Ready) (p : Packages) (e : Expr) (t : Option E.Fault) → Passes p t (unsound p e) (ready p e) (Ok r)
    → ready p e ≡ r
passes_ready r p e None h = is_ready r p e (unsound p e h.0) h.1
passes_ready r p e (Some f) h = absurd (cc)

-- it fits
abbrev Fits : Ready → Type 0
Fits r = All IsFit (bodies r.rules) × IsFit r.goal

module _ (tree : Tree) (w : PatternRequest) (utf8 : IsUtf8 w.text) (parse : Or Expr)
    (reads : ReadsGoal w.fixed w.find w.text parse) (r : Ready) where
  pattern_fits : (p : Packages) → IsLoaded tree w.folders p → (l : Or (Expr × Packages))
      → (load_pattern (world tree w.folders) p parse).answer ≡ l → GoalPasses l (Ok r) → Fits r
  pattern_fits p is (Err f) e h = absurd (cc)
  pattern_fits p is (Ok l) e h =
      let built = told_is_built tree w.folders l.1 (by_pattern p l.1 w.fixed w.find w.text parse l.0 reads is e) in
      let said = pattern_said (world tree w.folders) p l.1 parse l.0 e in
      let set = statements_fit l.1 built in
      let read = subst (ReadsGoal w.fixed w.find w.text) said reads in
      let goal = patterns_fit w.fixed w.find w.text l.0 utf8 read in
      subst Fits (passes_ready r l.1 l.0 (too_large l.1 l.0) h) (table_fit l.1 set, goal_fit l.1 l.0 set goal)

  roots_fit : (x : Or Packages) → (load (world tree w.folders) w.roots).answer ≡ x
      → GoalPasses (x >>= λ p. (load_pattern (world tree w.folders) p parse).answer) (Ok r) → Fits r
  roots_fit (Err f) e h = absurd (cc)
  roots_fit (Ok p) e h =
      pattern_fits p (by_roots w.roots p e) (load_pattern (world tree w.folders) p parse).answer refl h

pub ready_fit : (tree : Tree) (w : PatternRequest) (asked : List (List ℕ)) (r : Ready) → IsUtf8 w.text
    → IsPrepared tree w asked (Ok r) → All IsFit (bodies r.rules) × IsFit r.goal
ready_fit tree w asked r utf8 is =
    roots_fit tree w utf8 is.parse is.reads r (load (world tree w.folders) w.roots).answer refl is.comes
