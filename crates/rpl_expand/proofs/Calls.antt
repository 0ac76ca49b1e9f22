-- Which rules a core calls, from those that its parts call.
use Rattle.std.proofs.Common.{◌≡◌, ℕ, zero, suc, ◌-◌, List, [], ◌∷◌, refl, subst, inl, inr, arith}
use Rattle.std.specs.Prelude.{Bool, true, false, ◌||◌, nat_eq, if◌then◌else◌, Option, Some, None, slice_get, min}
use Rattle.std.proofs.lemmas.Bool.Decides.{nat_tests}
use Rattle.std.proofs.lemmas.Bool.{or_cases, or_left, or_right}
use Rattle.rpl_core.specs.Core.{Core, Set, Seq, Choice, Many, Not, And, Behind, Call, Capture, Note, Start, End, Halt}
use Rattle.rpl_core.specs.Core.{Cores, NoMore, Then}
use Rattle.rpl_core.specs.Lengths.{has_call, has_repetition, least, greatest}
use Rattle.rpl_core.specs.Programs.{calls, calls_any}
use Rattle.rpl_forms.specs.Forms.{empty, pair, or_nothing, copies, seq_of, sets, spaced_by, endless}
use Rattle.rpl_forms.specs.Forms.{repeat, cooked_turns, cooked_repeat, repeated}
use Rattle.rpl_forms.specs.Forms.{behind, passed, found, kept, mark_name, any, macro_core, casing_under, halt_rule}
use Rattle.rpl_forms.specs.Inlining.{Inners, inlined, inlined_all, called}
use Rattle.rpl_macro.specs.Casings.{set_in, single}
use Rattle.rpl_macro.specs.Kinds.{kind_of}
use Rattle.rpl_macro.specs.declared.kind.Macro.{Macro}
use Rattle.rpl_macro.specs.Macros.{text_of}
use Rattle.rpl_macro.specs.declared.casing.Casing.{Casing}
use Rattle.rpl_macro.specs.declared.kind.Macro.TheVariants.{Find, FindAll, KeepTo, Ci, Uci, Message, Error}
use Rattle.rpl_syntax.specs.Expression.{Expr, Exprs, Nil, Cons}
use Rattle.rpl_syntax.specs.Expression as X
use Rattle.rpl_syntax.specs.declared.expr.Mark.TheVariants.{Hit, Skip}
use Rattle.rpl_syntax.specs.declared.expr.Sign.{Sign}
use Rattle.rpl_syntax.specs.declared.expr.Sign.TheVariants as S
use Rattle.rpl_syntax.specs.declared.name.QName.{QName}
use Rattle.rpl_expand.specs.Expansion.{Scope, core, cores, spaced, is_prefix, is_cooked, signed_by}

-- the core calls only rules that P allows
abbrev pub Only : (ℕ → Type 0) → Core → Type 0
Only P p = (t : ℕ) → calls p t ≡ true → P t

abbrev pub OnlyAll : (ℕ → Type 0) → Cores → Type 0
OnlyAll P ps = (t : ℕ) → calls_any ps t ≡ true → P t

same_number : (a b : ℕ) → nat_eq a b ≡ true → a ≡ b
same_number a b e = grind (arith, nat_tests)

nothing_true : (A : Type 0) → false ≡ true → A
nothing_true A e = absurd cc

pub only_none : (P : ℕ → Type 0) → OnlyAll P NoMore
only_none P t e = nothing_true (P t) e

pub only_then : (P : ℕ → Type 0) (p : Core) (ps : Cores) → Only P p → OnlyAll P ps → OnlyAll P (Then p ps)
only_then P p ps f g t e = elim (or_cases (calls p t) (calls_any ps t) e) [ inl a ↦ f t a | inr b ↦ g t b ]

only_first : (P : ℕ → Type 0) (p : Core) (ps : Cores) → OnlyAll P (Then p ps) → Only P p
only_first P p ps h t e = h t (or_left (calls p t) (calls_any ps t) e)

only_rest : (P : ℕ → Type 0) (p : Core) (ps : Cores) → OnlyAll P (Then p ps) → OnlyAll P ps
only_rest P p ps h t e = h t (or_right (calls p t) (calls_any ps t) e)

pub only_call : (P : ℕ → Type 0) (r : ℕ) → P r → Only P (Call r)
only_call P r h t e = subst P (same_number r t e) h

only_empty : (P : ℕ → Type 0) → Only P empty
only_empty P = only_none P

only_pair : (P : ℕ → Type 0) (p q : Core) → Only P p → Only P q → Only P (pair p q)
only_pair P p q f g = only_then P p (Then q NoMore) f (only_then P q NoMore g (only_none P))

only_or_nothing : (P : ℕ → Type 0) (p : Core) → Only P p → Only P (or_nothing p)
only_or_nothing P p f = only_then P p (Then empty NoMore) f (only_then P empty NoMore (only_empty P) (only_none P))

only_copies : (P : ℕ → Type 0) (n : ℕ) (p : Core) (ps : Cores) → Only P p → OnlyAll P ps → OnlyAll P (copies n p ps)
only_copies P zero p ps f g = g
only_copies P (suc n) p ps f g = only_then P p (copies n p ps) f (only_copies P n p ps f g)

only_group : (P : ℕ → Type 0) (ps : Cores) → OnlyAll P ps → Only P (seq_of ps)
only_group P NoMore h = h
only_group P (Then p NoMore) h = only_first P p NoMore h
only_group P (Then p (Then q ps)) h = h

only_sets : (P : ℕ → Type 0) (c : Casing) (t : List ℕ) → OnlyAll P (sets c t)
only_sets P c [] = only_none P
only_sets P c (x ∷ t) =
    only_then P (Set (set_in c (single x))) (sets c t) (λ n e. nothing_true (P n) e) (only_sets P c t)

only_spaced_by : (P : ℕ → Type 0) (prefix : Bool) (b p : Core) (ps : Cores) → Only P b → Only P p → OnlyAll P ps
    → OnlyAll P (spaced_by prefix b p ps)
only_spaced_by P true b p NoMore h f g = only_then P p NoMore f g
only_spaced_by P false b p NoMore h f g = only_then P p NoMore f g
only_spaced_by P true b p (Then q ps) h f g = only_then P p (Then q ps) f g
only_spaced_by P false b p (Then q ps) h f g = only_then P p (Then b (Then q ps)) f (only_then P b (Then q ps) h g)

only_endless : (P : ℕ → Type 0) (p : Core) (n : ℕ) → Only P p → Only P (endless p n)
only_endless P p zero f = f
only_endless P p (suc n) f =
    only_then P p (copies n p (Then (Many p) NoMore)) f
    (only_copies P n p (Then (Many p) NoMore) f (only_then P (Many p) NoMore f (only_none P)))

only_repeat : (P : ℕ → Type 0) (p : Core) (n : ℕ) (m : Option ℕ) → Only P p → Only P (repeat p n m)
only_repeat P p n None f = only_endless P p n f
only_repeat P p n (Some m) f =
    only_copies P n p (copies (m - n) (or_nothing p) NoMore) f
    (only_copies P (m - n) (or_nothing p) NoMore (only_or_nothing P p f) (only_none P))

only_turns : (P : ℕ → Type 0) (b p : Core) (n m : ℕ) → Only P b → Only P p → Only P (cooked_turns b p n m)
only_turns P b p n m h f =
    let turn = only_pair P b p h f in
    let rest = copies m (or_nothing (pair b p)) NoMore in
    only_then P p (copies n (pair b p) rest) f
    (only_copies P n (pair b p) rest turn
    (only_copies P m (or_nothing (pair b p)) NoMore (only_or_nothing P (pair b p) turn) (only_none P)))

only_cooked : (P : ℕ → Type 0) (b p : Core) (n : ℕ) (m : Option ℕ) → Only P b → Only P p
    → Only P (cooked_repeat b p n m)
only_cooked P b p zero None h f =
    only_or_nothing P (pair p (Many (pair b p))) (only_pair P p (Many (pair b p)) f (only_pair P b p h f))
only_cooked P b p (suc n) None h f =
    let turn = only_pair P b p h f in
    let last = Then (Many (pair b p)) NoMore in
    only_then P p (copies n (pair b p) last) f
    (only_copies P n (pair b p) last turn (only_then P (Many (pair b p)) NoMore turn (only_none P)))
only_cooked P b p zero (Some zero) h f = only_empty P
only_cooked P b p zero (Some (suc m)) h f = only_or_nothing P (cooked_turns b p 0 m) (only_turns P b p 0 m h f)
only_cooked P b p (suc n) (Some m) h f = only_turns P b p n (m - suc n) h f

only_repeated : (P : ℕ → Type 0) (cooked : Bool) (b p : Core) (n : ℕ) (m : Option ℕ) → Only P b → Only P p
    → Only P (repeated cooked b p n m)
only_repeated P true b p n m h f = only_cooked P b p n m h f
only_repeated P false b p n m h f = only_repeat P p n m f

only_either : (P : ℕ → Type 0) (x : Bool) (l m : ℕ) (p : Core) → Only P p
    → Only P (if x then Behind 0 0 p else Behind l m p)
only_either P true l m p f = f
only_either P false l m p f = f

only_behind : (P : ℕ → Type 0) (p : Core) → Only P p → Only P (behind p)
only_behind P p f = only_either P (has_call p || has_repetition p) (min 65536 (least p)) (min 256 (greatest p)) p f

only_found : (P : ℕ → Type 0) (p : Core) → Only P p → Only P (found p)
only_found P p f =
    only_pair P (passed p) (Capture (mark_name Hit) p)
    (only_pair P (Not p) (Set any) f (λ n e. nothing_true (P n) e)) f

only_kept : (P : ℕ → Type 0) (p : Core) → Only P p → Only P (kept p)
only_kept P p f =
    only_pair P (Capture (mark_name Skip) (passed p)) (Capture (mark_name Hit) p)
    (only_pair P (Not p) (Set any) f (λ n e. nothing_true (P n) e)) f

only_macro : (P : ℕ → Type 0) (k : Option Macro) (t : List ℕ) (p : Core) → P halt_rule → Only P p
    → Only P (macro_core k t p)
only_macro P None t p h f = f
only_macro P (Some Find) t p h f = only_found P p f
only_macro P (Some FindAll) t p h f = only_endless P (found p) 1 (only_found P p f)
only_macro P (Some KeepTo) t p h f = only_kept P p f
only_macro P (Some Ci) t p h f = f
only_macro P (Some Uci) t p h f = f
only_macro P (Some Message) t p h f = λ n e. nothing_true (P n) e
only_macro P (Some Error) t p h f =
    only_pair P (Note t) (Call halt_rule) (λ n e. nothing_true (P n) e) (only_call P halt_rule h)

-- what stands for rules in a look-behind calls only what P allows
abbrev pub OnlyInners : (ℕ → Type 0) → Inners → Type 0
OnlyInners P I = (r : ℕ) (q : Core) → slice_get I r ≡ Some (Some q) → Only P q

only_called : (P : ℕ → Type 0) (I : Inners) (r : ℕ) (o : Option (Option Core)) → slice_get I r ≡ o → OnlyInners P I
    → Only P (Call r) → Only P (called r o)
only_called P I r None e g f = f
only_called P I r (Some None) e g f = f
only_called P I r (Some (Some q)) e g f = g r q e

mutual
  pub only_inlined : (P : ℕ → Type 0) (I : Inners) → OnlyInners P I → (p : Core) → Only P p → Only P (inlined I p)
  only_inlined P I g (Set s) f = f
  only_inlined P I g (Seq ps) f = only_inlined_all P I g ps f
  only_inlined P I g (Choice ps) f = only_inlined_all P I g ps f
  only_inlined P I g (Many p) f = only_inlined P I g p f
  only_inlined P I g (Not p) f = only_inlined P I g p f
  only_inlined P I g (And p) f = only_inlined P I g p f
  only_inlined P I g (Behind l m p) f = f
  only_inlined P I g (Call r) f = only_called P I r (slice_get I r) refl g f
  only_inlined P I g (Capture c p) f = only_inlined P I g p f
  only_inlined P I g (Note x) f = only_none P
  only_inlined P I g Start f = f
  only_inlined P I g End f = f
  only_inlined P I g Halt f = f

  pub only_inlined_all : (P : ℕ → Type 0) (I : Inners) → OnlyInners P I → (ps : Cores) → OnlyAll P ps
      → OnlyAll P (inlined_all I ps)
  only_inlined_all P I g NoMore f = f
  only_inlined_all P I g (Then p ps) f =
      only_then P (inlined I p) (inlined_all I ps) (only_inlined P I g p (only_first P p ps f))
      (only_inlined_all P I g ps (only_rest P p ps f))

only_signed : (P : ℕ → Type 0) (I : Inners) → OnlyInners P I → (s : Sign) (p : Core) → Only P p
    → Only P (signed_by I s p)
only_signed P I g S.Not p f = f
only_signed P I g S.Ahead p f = f
only_signed P I g S.Behind p f = only_behind P (inlined I p) (only_inlined P I g p f)

-- P allows the boundary, all that names are bound to, `halt`, and what stands for rules in a look-behind
pub record Allows (P : ℕ → Type 0) (s : Scope) : Type 0 where
  pub boundary : P s.boundary
  pub names : (q : QName) → P (s.rule q)
  pub halt : P halt_rule
  pub inners : OnlyInners P s.inners

-- the core of an expression calls nothing else
mutual
  pub only_core : (P : ℕ → Type 0) (s : Scope) → Allows P s → (c : Casing) (e : Expr) → Only P (core c s e)
  only_core P s a c (X.Text t) = only_group P (sets c t) (only_sets P c t)
  only_core P s a c (X.Class r negated) = λ n e. nothing_true (P n) e
  only_core P s a c X.Any = λ n e. nothing_true (P n) e
  only_core P s a c X.Start = λ n e. nothing_true (P n) e
  only_core P s a c X.End = λ n e. nothing_true (P n) e
  only_core P s a c X.Boundary = only_call P s.boundary a.boundary
  only_core P s a c (X.Name q) = only_call P (s.rule q) (a.names q)
  only_core P s a c (X.Cooked ps) = only_group P (spaced c s ps) (only_spaced P s a c ps)
  only_core P s a c (X.Raw ps) = only_group P (cores c s ps) (only_cores P s a c ps)
  only_core P s a c (X.Choice ps) = only_cores P s a c ps
  only_core P s a c (X.Both p q) =
      only_pair P (And (core c s p)) (core c s q) (only_core P s a c p) (only_core P s a c q)
  only_core P s a c (X.Prefix sign p) = only_signed P s.inners a.inners sign (core c s p) (only_core P s a c p)
  only_core P s a c (X.Repeat p l m) =
      only_repeated P (is_cooked p) (Call s.boundary) (core c s p) l m (only_call P s.boundary a.boundary)
      (only_core P s a c p)
  only_core P s a c (X.Macro q p) =
      only_macro P (kind_of q.name) (text_of p) (core (casing_under (kind_of q.name) c) s p) a.halt
      (only_core P s a (casing_under (kind_of q.name) c) p)
  only_core P s a c (X.Marked m p) = only_core P s a c p
  only_core P s a c (X.Note t) = λ n e. nothing_true (P n) e

  pub only_cores : (P : ℕ → Type 0) (s : Scope) → Allows P s → (c : Casing) (ps : Exprs) → OnlyAll P (cores c s ps)
  only_cores P s a c Nil = only_none P
  only_cores P s a c (Cons p ps) =
      only_then P (core c s p) (cores c s ps) (only_core P s a c p) (only_cores P s a c ps)

  pub only_spaced : (P : ℕ → Type 0) (s : Scope) → Allows P s → (c : Casing) (ps : Exprs) → OnlyAll P (spaced c s ps)
  only_spaced P s a c Nil = only_none P
  only_spaced P s a c (Cons p ps) =
      only_spaced_by P (is_prefix p) (Call s.boundary) (core c s p) (spaced c s ps)
      (only_call P s.boundary a.boundary) (only_core P s a c p) (only_spaced P s a c ps)
