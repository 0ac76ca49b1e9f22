-- The texts of what is read are no longer than a text may be, and its classes are sets.
use Rattle.std.proofs.Common.{◌≡◌, ◌≤◌, inl, inr, ℕ, suc, List, [], ◌∷◌, ◌++◌, length, refl, sym, subst, arith}
use Rattle.std.specs.Prelude.{Bool, true, false, Result, Ok, Err, IsUtf8, chars, codes, if◌then◌else◌}
use Rattle.std.specs.List.{AllByRecursion}
use Rattle.std.specs.Str.{all_scalars, bytes_eq}
use Rattle.std.proofs.lemmas.Bool.{and_from, and_parts, cases_lt}
use Rattle.std.proofs.lemmas.List.{length-append}
use Rattle.std.proofs.lemmas.Str.{scalars-chars}
use lib.Utf8.{scalar}
use Rattle.rpl_classes.specs.Sets.{IsNormal}
use Rattle.rpl_lexer.specs.Cut.{IsCut, IsToken}
use Rattle.rpl_lexer.specs.Cutting.{cut_of}
use Rattle.rpl_lexer.specs.Forms.{Form}
use Rattle.rpl_lexer.specs.Payloads.{span, text_of}
use Rattle.rpl_lexer.specs.Said.{payload_by}
use Rattle.rpl_lexer.specs.declared.fault.LexFault.{LexFault}
use Rattle.rpl_lexer.specs.declared.token.Token.{Token as Lexeme}
use Rattle.rpl_lexer.specs.declared.token.TokenKind.{TokenKind}
use Rattle.rpl_lexer.specs.declared.token.TokenKind.TheVariants as K
use Rattle.rpl_lexer.proofs.Computing.{cut_found}
use Rattle.rpl_lexer.proofs.Cuts.{tokens_stand}
use Rattle.rpl_syntax.specs.Expression.{Expr, Exprs, Text, wrapped}
use Rattle.rpl_syntax.specs.Grammar.{Leaf, TextLeaf, ClassLeaf, NameLeaf, QualifiedLeaf, AnyLeaf, StartLeaf, EndLeaf}
use Rattle.rpl_syntax.specs.Grammar.{BoundaryLeaf, Quant, StarQuant, PlusQuant, QuestionQuant, BoundsQuant}
use Rattle.rpl_syntax.specs.Grammar.{leaf_token, leaf_expr, times}
use Rattle.rpl_syntax.specs.Texts.{Say, Says}
use Rattle.rpl_syntax.specs.declared.token.Token.{Token}
use Rattle.rpl_syntax.specs.declared.token.Token.TheVariants as T
use Rattle.rpl_syntax.proofs.Said.{Fit_token, form_of, token_fit}
use Rattle.rpl_syntax.proofs.Unique.{sound}
use Rattle.rpl_parser.specs.Tokens.{AllStand, tokens_of}
use Rattle.rpl_parser.proofs.Told.{all_said}
use Rattle.rpl_names.specs.Goals.{ReadsCut, ReadsText, sought}
use Rattle.rpl_names.specs.Tables.{boundary_name, full_name}
use Rattle.rpl_names.specs.Texts.{max_text_bytes}
use Rattle.rpl_expand.specs.Fitting.{FitsExpr, FitExprs, FitsName, IsWithin}
use Rattle.rpl_expand.specs.LoadLaws.{PatternsFit}
use Rattle.rpl_expand.proofs.Lengths.{chars_short, text_short}
use Rattle.rpl_expand.proofs.Spelled.{IsClosed, tree_has}

-- ---- tokens

abbrev pub Fits_token : Token → Type 0
Fits_token (T.Text s) = IsWithin max_text_bytes s
Fits_token (T.Class ranges negated) = IsNormal ranges
Fits_token _ = Unit {0}

abbrev pub All_fit : List Token → Type 0
All_fit = AllByRecursion Fits_token

fits_as : (t u : Token) → t ≡ u → Fits_token u → Fits_token t
fits_as t u e h = subst Fits_token (sym e) h

leaf_fits : (l : Leaf) → Fits_token (leaf_token l) → FitsExpr (leaf_expr l)
leaf_fits (TextLeaf s) h = h
leaf_fits (ClassLeaf ranges negated) h = h
leaf_fits (NameLeaf n at) h = tt
leaf_fits (QualifiedLeaf p n at) h = tt
leaf_fits AnyLeaf h = tt
leaf_fits StartLeaf h = tt
leaf_fits EndLeaf h = tt
leaf_fits BoundaryLeaf h = tt

group_fits : (raw : Bool) (ps : Exprs) → FitExprs ps → FitsExpr (wrapped raw ps)
group_fits true ps h = h
group_fits false ps h = h

times_fits : (q : Quant) (p : Expr) → FitsExpr p → FitsExpr (times q p)
times_fits StarQuant p h = h
times_fits PlusQuant p h = h
times_fits QuestionQuant p h = h
times_fits (BoundsQuant l m) p h = h

pub fits_closed : IsClosed Fits_token FitsExpr FitExprs
fits_closed = record {
  leaf = leaf_fits;
  none = tt;
  more = λ p rest h k. (h, k);
  first = λ p h. h.0;
  group = group_fits;
  choice = λ ps h. h;
  both = λ p q h k. (h, k);
  prefix = λ s p h. h;
  times = times_fits;
  macro = λ n at p k h. h;
}

-- ---- a text

sought_fits : (find : Bool) (e : Expr) → FitsExpr e → FitsExpr (sought find e)
sought_fits true e h = h
sought_fits false e h = h

module _ (s : List ℕ) (utf8 : IsUtf8 s) (short : length s ≤ max_text_bytes) where
  token_fits : (k : TokenKind) (l : Lexeme) (t : Token) → IsToken s l → Form k (span s l)
      → Says l.start (payload_by k s l) t → Fits_token t
  token_fits K.Name l t h f e = fits_as t _ e tt
  token_fits K.Qualified l t h f e = fits_as t _ e tt
  token_fits K.Keyword l t h f e = fits_as t _ e tt
  token_fits K.Text l t h f e =
      let scalars = subst Fit_token e (token_fit K.Text s l t utf8 h f e) in
      fits_as t (T.Text (text_of s l)) e (scalars, omega (arith, text_short s l, short))
  token_fits K.Bracket l t h f e = fits_as t _ e.3 (subst Fit_token e.3 (token_fit K.Bracket s l t utf8 h f e))
  token_fits K.Bounds l t h f e = fits_as t _ e.1 tt
  token_fits K.Number l t h f e = fits_as t _ e tt
  token_fits K.Sign l t h f e = fits_as t _ e tt

  pub tokens_fit : (ls : List Lexeme) (ts : List Token) → AllStand s ls → Say s ls ts → All_fit ts
  tokens_fit [] ts h k = subst All_fit (sym k) tt
  tokens_fit (l ∷ ls) ts h k =
      let t = h 0 l refl in
      subst All_fit (sym k.2)
      (token_fits l.kind l k.0 t (form_of s l t) k.3, tokens_fit ls k.1 (λ i r e. h (suc i) r e) k.4)

  -- ---- a pattern

  cut_fits : (find : Bool) (e : Expr) (r : Result (List Lexeme) LexFault) → cut_of s ≡ r → ReadsCut find s r (Ok e)
      → FitsExpr e
  cut_fits find e (Err f) c h = absurd (cc)
  cut_fits find e (Ok ts) c h =
      let is = h.1 in
      let cut : IsCut s ts = cut_found s ts c in
      let said = all_said s ts is.good in
      let f = tokens_fit ts (tokens_of s ts) (λ i t e. tokens_stand s ts i t cut e) said in
      let reading = sound (tokens_of s ts) h.0 is.reads in
      let x = tree_has Fits_token FitsExpr FitExprs fits_closed reading.tree (subst All_fit reading.spelled f) in
      subst FitsExpr (sym h.2) (sought_fits find h.0 (subst FitsExpr (sym reading.stands_for) x))

  text_fits : (fixed find : Bool) (e : Expr) → ReadsText fixed find s (Ok e) → FitsExpr e
  text_fits true find e h =
      let k : sought find (Text (chars s)) ≡ e = cc in
      let fits : IsWithin max_text_bytes (chars s) = (scalars-chars s utf8, omega (arith, chars_short s, short)) in
      subst FitsExpr k (sought_fits find (Text (chars s)) fits)
  text_fits false find e h = cut_fits find e (cut_of s) refl h

-- the texts and the sets of a pattern that was read can be written
pub patterns_fit : PatternsFit
patterns_fit fixed find s e utf8 read =
    elim (cases_lt max_text_bytes (length s)) [
      | inl long ↦ (let k = read.long long in absurd (cc))
      | inr short ↦ text_fits s utf8 short fixed find e (read.text short)
    ]

-- ---- full names

scalars_append : (a b : List ℕ) → all_scalars a ≡ true → all_scalars b ≡ true → all_scalars (a ++ b) ≡ true
scalars_append [] b h k = k
scalars_append (c ∷ a) b h k =
    let p = and_parts (scalar c) (all_scalars a) h in
    and_from (scalar c) (all_scalars (a ++ b)) p.0 (scalars_append a b p.1 k)

wider : (n : List ℕ) → IsWithin max_text_bytes n → FitsName n
wider n h = let short = h.1 in (h.0, omega (arith, short))

pub known_fits : (n : List ℕ) (k : ℕ) → all_scalars n ≡ true → length n ≡ k → k ≤ 2097153 → FitsName n
known_fits n k h e lt = (h, omega (arith, e, lt))

top_fits : (b : Bool) (n : List ℕ) → IsWithin max_text_bytes n → FitsName (if b then codes "*.~" else n)
top_fits true n h = known_fits (codes "*.~") 3 refl refl (omega arith)
top_fits false n h = wider n h

pub full_fits : (label n : List ℕ) → IsWithin max_text_bytes label → IsWithin max_text_bytes n
    → FitsName (full_name label n)
full_fits [] n h k = top_fits (bytes_eq n boundary_name) n k
full_fits (c ∷ l) n h k =
    let a = h.1 in
    let b = k.1 in (
      scalars_append (c ∷ l) (46 ∷ n) h.0 (and_from (scalar 46) (all_scalars n) refl k.0),
      omega (arith, a, b, length-append (c ∷ l) (46 ∷ n)),
    )
