-- Keywords by their names.
use Rattle.std.proofs.Common.{◌≡◌, ℕ, List, [], ◌∷◌, Option, Some, None, refl, sym, ap, ◌∙◌}
use Rattle.std.specs.Prelude.{false, ◌≢◌, if◌then◌else◌, MatchOption}
use Rattle.std.specs.Str.{bytes_eq}
use Rattle.std.specs.Cmp.Lexicographic.{bytes_decides}
use Rattle.std.proofs.lemmas.Bool.{false_from_ne_true}
use Rattle.rpl_text.specs.Named.{first_named}
use Rattle.rpl_lexer.specs.Keywords.{word_of, keyword_named}
use Rattle.rpl_lexer.specs.declared.keyword.Keyword.{Keyword}
use Rattle.rpl_lexer.specs.declared.keyword.Keyword.TheVariants.{Rpl, Package, Import, As, Alias, Local, Grammar, In}
use Rattle.rpl_lexer.specs.declared.keyword.Keyword.TheVariants.{End}

no_name : (ks : List Keyword) (name : List ℕ) → ((k : Keyword) → word_of k ≢ name) → first_named word_of ks name ≡ None
no_name [] name h = refl
no_name (k ∷ ks) name h =
    let f : bytes_eq (word_of k) name ≡ false =
    false_from_ne_true _ (λ e. h k ((bytes_decides (word_of k) name).0 e)) in
    ap (λ b. if b then Some k else first_named word_of ks name) f ∙ no_name ks name h

no_keyword : (name : List ℕ) → ((k : Keyword) → word_of k ≢ name) → None ≡ keyword_named name
unfolding keyword_named
no_keyword name h = sym (no_name (Rpl ∷ Package ∷ Import ∷ As ∷ Alias ∷ Local ∷ Grammar ∷ In ∷ End ∷ []) name h)

own_word : (k : Keyword) → keyword_named (word_of k) ≡ Some k
unfolding keyword_named
own_word Rpl = refl
own_word Package = refl
own_word Import = refl
own_word As = refl
own_word Alias = refl
own_word Local = refl
own_word Grammar = refl
own_word In = refl
own_word End = refl

pub named_keyword : (o : Option Keyword) (name : List ℕ)
    → MatchOption o ((k : Keyword) → word_of k ≢ name) (λ k. word_of k ≡ name) → o ≡ keyword_named name
named_keyword None name h = no_keyword name h
named_keyword (Some k) name h = sym (own_word k) ∙ ap keyword_named h
