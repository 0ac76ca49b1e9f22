-- Reading one entry after the other, as a loop does.
use Rattle.std.proofs.Common.{◌≡◌, ℕ, zero, suc, lit<, List, [], ◌∷◌, ◌++◌, Option, Some, None, append_assoc, refl, sym}
use Rattle.std.proofs.Common.{ap, ◌∙◌}
use Rattle.std.specs.Prelude.{true, false, chars}
use Rattle.std.specs.Str.{IsAscii}
use Rattle.std.proofs.lemmas.Str.{chars-IsAscii}
use Rattle.rpl_text.specs.Options.{◌>>=◌}
use Rattle.rpl_lexer.specs.declared.punct.Punct.TheVariants as P
use Rattle.rpl_syntax.specs.Expression.{Expr}
use Rattle.rpl_syntax.specs.Reading.{read}
use Rattle.rpl_syntax.specs.declared.module.Import.{Import}
use Rattle.rpl_syntax.specs.declared.token.Token.{Token}
use Rattle.rpl_syntax.specs.declared.token.Token.TheVariants as T
use Rattle.rpl_parser.specs.Spelling.{Binds}
use Rattle.rpl_parser.specs.Lines.{path_of, entry_of, entries_of, all_of, with_others, line_of}
use Rattle.rpl_parser.specs.inside.Lines.{is_path_end, comma}

abbrev put : List Import → List Import → Option (List Import)
put front es = Some (front ++ es)

abbrev pub with_front : List Import → Option (List Import) → Option (List Import)
with_front front o = o >>= put front

pub front_none : (o : Option (List Import)) → with_front [] o ≡ o
front_none None = refl
front_none (Some es) = refl

abbrev one_more : Import → List Import → Option (List Import)
one_more e es = Some (e ∷ es)

moved : (front : List Import) (e : Import) (o : Option (List Import))
    → with_front front (o >>= one_more e) ≡ with_front (front ++ e ∷ []) o
moved front e None = refl
moved front e (Some es) = ap (λ x. Some x) (sym (append_assoc front (e ∷ []) es))

pub entries_step : (front : List Import) (n m : ℕ) (s r : List Token) (e : Import) → n ≡ suc m
    → entry_of s ≡ Some (e, T.Sign P.Comma ∷ r)
    → with_front front (entries_of n s) ≡ with_front (front ++ e ∷ []) (entries_of m r)
entries_step front n m s r e h k = rw (h, k) (moved front e (entries_of m r))

last_here : (others : List Token → Option (List Import)) (e : Import) (r : List Token) → comma r ≡ false
    → with_others others e r ≡ all_of (e ∷ []) r
last_here others e (T.Sign P.Comma ∷ r) h = absurd cc
last_here others e _ h = refl

put_all : (front : List Import) (e : Import) (r : List Token)
    → with_front front (all_of (e ∷ []) r) ≡ all_of (front ++ e ∷ []) r
put_all front e [] = refl
put_all front e (t ∷ r) = refl

pub entries_last : (front : List Import) (n m : ℕ) (s r : List Token) (e : Import) → n ≡ suc m
    → entry_of s ≡ Some (e, r) → comma r ≡ false → with_front front (entries_of n s) ≡ all_of (front ++ e ∷ []) r
entries_last front n m s r e h k c = rw (h, k, last_here (entries_of m) e r c) (put_all front e r)

abbrev pub path_at : List ℕ → List Token → List ℕ × List Token
path_at path r = (path, r)

pub path_end : (path : List ℕ) (r : List Token) → is_path_end r ≡ true → path_of path r ≡ path_at path r
path_end path (T.Sign P.Slash ∷ T.Name n at ∷ r) h = absurd cc
path_end path _ h = refl

pub path_step : (path next text : List ℕ) (n : List ℕ) (at : ℕ) (s r : List Token)
    → s ≡ T.Sign P.Slash ∷ T.Name n at ∷ r → next ≡ path ++ 47 ∷ [] → text ≡ next ++ n → path_of text r ≡ path_of path s
path_step path next text n at s r e h k =
    ap (λ t. path_of t r) (k ∙ (ap (λ x. x ++ n) h ∙ append_assoc path (47 ∷ []) n)) ∙ sym (ap (path_of path) e)

ascii : IsAscii (126 ∷ [])
ascii zero = lit< tt
ascii (suc i) = lit< tt

pub tilde : chars (126 ∷ []) ≡ 126 ∷ []
tilde = chars-IsAscii (126 ∷ []) ascii

pub boundary_is : (s : List Token) (x : Expr) (name : List ℕ) → read s ≡ Some x → name ≡ 126 ∷ []
    → line_of (T.Sign P.Tilde ∷ T.Sign P.Equals ∷ s) ≡ Some (Binds true true name x)
boundary_is s x name e h = rw (e, h) refl
