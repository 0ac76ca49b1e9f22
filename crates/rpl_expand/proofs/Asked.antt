-- The prefix of a name of a pattern is a path.
use Rattle.std.proofs.Common.{◌≡◌, ◌≤◌, inl, inr, ℕ, List, length, Option, Some, None}
use Rattle.std.proofs.Common.{refl, sym, subst}
use Rattle.std.specs.Prelude.{Bool, true, false, Result, Ok, Err, chars}
use Rattle.std.specs.List.{AllByRecursion}
use Rattle.std.proofs.lemmas.Bool.{cases_lt}
use Rattle.std.proofs.lemmas.List.{append-nil}
use Rattle.std.proofs.lemmas.List.Elements.{All-contains, All-from_recursion}
use Rattle.rpl_lexer.specs.Cut.{IsCut}
use Rattle.rpl_lexer.specs.Cutting.{cut_of}
use Rattle.rpl_lexer.specs.declared.fault.LexFault.{LexFault}
use Rattle.rpl_lexer.specs.declared.token.Token.{Token as Lexeme}
use Rattle.rpl_lexer.proofs.Computing.{cut_found}
use Rattle.rpl_lexer.proofs.Cuts.{tokens_stand}
use Rattle.rpl_syntax.specs.Expression as M
use Rattle.rpl_syntax.specs.Expression.{Expr, Exprs, Nil, Cons, wrapped}
use Rattle.rpl_syntax.specs.Grammar.{Leaf, TextLeaf, ClassLeaf, NameLeaf, QualifiedLeaf, AnyLeaf, StartLeaf, EndLeaf}
use Rattle.rpl_syntax.specs.Grammar.{BoundaryLeaf, Quant, StarQuant, PlusQuant, QuestionQuant, BoundsQuant}
use Rattle.rpl_syntax.specs.Grammar.{leaf_token}
use Rattle.rpl_syntax.specs.Grammar.{leaf_expr, times}
use Rattle.rpl_syntax.specs.declared.name.QName.{QName}
use Rattle.rpl_syntax.proofs.Unique.{sound}
use Rattle.rpl_parser.specs.Tokens.{tokens_of}
use Rattle.rpl_parser.proofs.Told.{all_said}
use Rattle.rpl_scope.specs.Bodies.{names, names_all}
use Rattle.rpl_names.specs.Goals.{ReadsText, ReadsCut, sought}
use Rattle.rpl_names.specs.Texts.{max_text_bytes}
use Rattle.rpl_names.specs.Built.{IsGoal, InGoal}
use Rattle.rpl_expand.proofs.Lists.{all_append}
use Rattle.rpl_expand.proofs.Spelled.{IsClosed, tree_has}
use Rattle.rpl_expand.proofs.Words.{All_named, IsPath, IsShortName, Named_token, all_named, name_path}

-- the names of an expression are names, none of them too long
abbrev AreShort : (prefix : Option (List ℕ)) (name : List ℕ) → Type 0
AreShort None n = IsShortName n
AreShort (Some p) n = IsShortName p × IsShortName n

abbrev IsFit : QName → Type 0
IsFit q = AreShort q.prefix q.name

abbrev Fit : Expr → Type 0
Fit x = AllByRecursion IsFit (names x)

abbrev Fit_all : Exprs → Type 0
Fit_all xs = AllByRecursion IsFit (names_all xs)

more_fit : (x : Expr) (xs : Exprs) → Fit x → Fit_all xs → Fit_all (Cons x xs)
more_fit x xs h k = all_append IsFit (names x) (names_all xs) h k

single_fit : (x : Expr) → Fit_all (Cons x Nil) → Fit x
single_fit x h = subst (AllByRecursion IsFit) (append-nil (names x)) h

wrapped_fit : (raw : Bool) (xs : Exprs) → Fit_all xs → Fit (wrapped raw xs)
wrapped_fit true xs h = h
wrapped_fit false xs h = h

both_fit : (p q : Expr) → Fit p → Fit q → Fit (M.Both p q)
both_fit p q h k = all_append IsFit (names p) (names q) h k

times_fit : (q : Quant) (x : Expr) → Fit x → Fit (times q x)
times_fit StarQuant x h = h
times_fit PlusQuant x h = h
times_fit QuestionQuant x h = h
times_fit (BoundsQuant l m) x h = h

leaf_fit : (l : Leaf) → Named_token (leaf_token l) → Fit (leaf_expr l)
leaf_fit (TextLeaf s) f = tt
leaf_fit (ClassLeaf ranges negated) f = tt
leaf_fit (NameLeaf n at) f = (f, tt)
leaf_fit (QualifiedLeaf p n at) f = (f, tt)
leaf_fit AnyLeaf f = tt
leaf_fit StartLeaf f = tt
leaf_fit EndLeaf f = tt
leaf_fit BoundaryLeaf f = tt

fit_closed : IsClosed Named_token Fit Fit_all
fit_closed = record {
  leaf = leaf_fit;
  none = tt;
  more = more_fit;
  first = single_fit;
  group = wrapped_fit;
  choice = λ ps h. h;
  both = both_fit;
  prefix = λ s p h. h;
  times = times_fit;
  macro = λ n at p k h. h;
}

-- ---- a pattern that some text is read as

sought_fit : (find : Bool) (x : Expr) → Fit x → Fit (sought find x)
sought_fit true x h = h
sought_fit false x h = h

module _ (s : List ℕ) (short : length s ≤ max_text_bytes) where
  cut_fit : (find : Bool) (e : Expr) (r : Result (List Lexeme) LexFault) → cut_of s ≡ r → ReadsCut find s r (Ok e)
      → Fit e
  cut_fit find e (Err f) c h = absurd (cc)
  cut_fit find e (Ok ts) c h =
      let is = h.1 in
      let cut : IsCut s ts = cut_found s ts c in
      let said = all_said s ts is.good in
      let f = all_named s short ts (tokens_of s ts) (λ i t e. tokens_stand s ts i t cut e) said in
      let reading = sound (tokens_of s ts) h.0 is.reads in
      let x = tree_has Named_token Fit Fit_all fit_closed reading.tree (subst All_named reading.spelled f) in
      subst Fit (sym h.2) (sought_fit find h.0 (subst Fit (sym reading.stands_for) x))

  text_fit : (fixed find : Bool) (e : Expr) → ReadsText fixed find s (Ok e) → Fit e
  text_fit true find e h =
      let k : sought find (M.Text (chars s)) ≡ e = cc in subst Fit k (sought_fit find (M.Text (chars s)) tt)
  text_fit false find e h = cut_fit find e (cut_of s) refl h

goal_fit : (e : Expr) → IsGoal e → Fit e
goal_fit e g =
    elim (cases_lt max_text_bytes (length g.text)) [
      | inl long ↦ (let k = g.read.long long in absurd (cc))
      | inr short ↦ text_fit g.text short g.fixed g.find e (g.read.text short)
    ]

prefix_fit : (o : Option (List ℕ)) (n p : List ℕ) → o ≡ Some p → AreShort o n → IsPath p
prefix_fit None n p e h = absurd (cc)
prefix_fit (Some x) n p e h = let k : x ≡ p = cc in subst IsPath k (name_path x h.0)

-- the prefix of a name of a pattern
pub goal_path : (q : QName) (p : List ℕ) → InGoal q → q.prefix ≡ Some p → IsPath p
goal_path q p g is =
    let all = All-from_recursion IsFit (names g.goal) (goal_fit g.goal g.read) in
    prefix_fit q.prefix q.name p is (All-contains IsFit (names g.goal) q all g.stands)
