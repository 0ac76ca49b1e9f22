-- What the tokens of a text say of names: none has a dot or a space, none is longer than the text, and what stands last
-- in a path is no star.
use Rattle.std.proofs.Common.{arith, ◌≡◌, ◌≢◌, ◌<◌, ◌≤◌, ℕ, suc, ◌+◌, List, [], ◌∷◌, ◌++◌, drop, length}
use Rattle.std.proofs.Common.{refl, sym, ap, subst, ◌∙◌, append_assoc}
use Rattle.std.specs.Prelude.{Bool, true, false, nat_eq, if◌then◌else◌, chars}
use Rattle.std.specs.List.{AllByRecursion, list_all}
use Rattle.std.specs.Str.{all_scalars}
use Rattle.std.proofs.lemmas.Bool.{and_from, and_parts}
use Rattle.std.proofs.lemmas.Bool.Decides.{nat_tests}
use Rattle.std.proofs.lemmas.List.{append-nil}
use Rattle.std.proofs.lemmas.Str.{chars-IsAscii}
use Rattle.rpl_text.specs.Ascii.{is_letter}
use lib.Utf8.{scalar}
use Rattle.rpl_lexer.specs.Bytes.{is_word, begins, run}
use Rattle.rpl_lexer.specs.Forms.{Form, IsName, IsPair, is_name}
use Rattle.rpl_lexer.specs.Fronts.{first_name}
use Rattle.rpl_lexer.specs.Payloads.{span}
use Rattle.rpl_lexer.specs.Said.{payload_by}
use Rattle.rpl_lexer.specs.declared.token.Token.{Token as Lexeme}
use Rattle.rpl_lexer.specs.declared.token.TokenKind.{TokenKind}
use Rattle.rpl_lexer.specs.declared.token.TokenKind.TheVariants as K
use Rattle.rpl_syntax.specs.Texts.{Say, Says}
use Rattle.rpl_syntax.specs.declared.token.Token.{Token}
use Rattle.rpl_syntax.specs.declared.token.Token.TheVariants as T
use Rattle.rpl_syntax.proofs.Fronts.{name_ascii, halves}
use Rattle.rpl_syntax.proofs.Said.{form_of}
use Rattle.rpl_parser.specs.Tokens.{AllStand}
use Rattle.rpl_scope.specs.Imports.{last_part}
use Rattle.rpl_names.specs.Texts.{max_text_bytes}
use Rattle.rpl_expand.specs.Fitting.{IsWithin}
use Rattle.rpl_expand.proofs.FullNames.{IsUnbroken, star}
use Rattle.rpl_expand.proofs.Lengths.{first_short, name_short, second_short}

-- ---- a name

word_no_dot : (c : ℕ) → is_word c ≡ true → c ≢ 46
word_no_dot c h = grind (arith, nat_tests)

word_past_space : (c : ℕ) → is_word c ≡ true → 32 < c
word_past_space c h = grind (arith, nat_tests)

word_no_slash : (c : ℕ) → is_word c ≡ true → nat_eq c 47 ≡ false
word_no_slash c h = grind (arith, nat_tests)

pub words_unbroken : (n : List ℕ) → list_all is_word n ≡ true → IsUnbroken n
words_unbroken [] h = tt
words_unbroken (c ∷ n) h =
    let p = and_parts (is_word c) (list_all is_word n) h in
    (word_no_dot c p.0, word_past_space c p.0, words_unbroken n p.1)

words_of : (n : List ℕ) (b : Bool) → IsName n b → list_all is_word n ≡ true
words_of n b h = (and_parts (begins is_letter n) (list_all is_word n) h.name).1

pub name_unbroken : (n : List ℕ) (b : Bool) → IsName n b → IsUnbroken n
name_unbroken n b h = words_unbroken n (words_of n b h)

-- a name that is no longer than a text may be
pub record IsShortName (n : List ℕ) : Type 0 where
  pub name : IsName n false
  pub short : length n ≤ max_text_bytes

word_scalar : (c : ℕ) → is_word c ≡ true → scalar c ≡ true
word_scalar c h = grind (arith, nat_tests)

words_scalars : (n : List ℕ) → list_all is_word n ≡ true → all_scalars n ≡ true
words_scalars [] h = refl
words_scalars (c ∷ n) h =
    let p = and_parts (is_word c) (list_all is_word n) h in
    and_from (scalar c) (all_scalars n) (word_scalar c p.0) (words_scalars n p.1)

pub name_within : (n : List ℕ) → IsShortName n → IsWithin max_text_bytes n
name_within n h = (words_scalars n (words_of n false h.name), h.short)

pub no_star : (n : List ℕ) (b : Bool) → IsName n b → n ≢ star
no_star n b h e = let k : is_name star ≡ true = subst (λ x. is_name x ≡ true) e h.name in absurd (cc)

-- ---- a path

last_word : (acc n : List ℕ) → list_all is_word n ≡ true → last_part acc n ≡ acc ++ n
last_word acc [] h = sym (append-nil acc)
last_word acc (c ∷ n) h =
    let p = and_parts (is_word c) (list_all is_word n) h in
    ap (λ b. if b then last_part [] n else last_part (acc ++ c ∷ []) n) (word_no_slash c p.0)
    ∙ last_word (acc ++ c ∷ []) n p.1 ∙ append_assoc acc (c ∷ []) n

last_behind : (acc n q : List ℕ) → list_all is_word n ≡ true → last_part acc (n ++ 47 ∷ q) ≡ last_part [] q
last_behind acc [] q h = refl
last_behind acc (c ∷ n) q h =
    let p = and_parts (is_word c) (list_all is_word n) h in
    ap (λ b. if b then last_part [] (n ++ 47 ∷ q) else last_part (acc ++ c ∷ []) (n ++ 47 ∷ q)) (word_no_slash c p.0)
    ∙ last_behind (acc ++ c ∷ []) n q p.1

-- a path is unbroken, and then so is what stands last in it
unbroken_append : (m n : List ℕ) → IsUnbroken m → IsUnbroken n → IsUnbroken (m ++ n)
unbroken_append [] n h k = k
unbroken_append (c ∷ m) n h k = (h.0, h.1, unbroken_append m n h.2 k)

slash_no_dot : ◌≡◌ {A = ℕ} 47 46 → ⊥
slash_no_dot x = omega (arith, x)

under_unbroken : (n q : List ℕ) (b : Bool) → IsName n b → IsUnbroken q → IsUnbroken (n ++ 47 ∷ q)
under_unbroken n q b h k = unbroken_append n (47 ∷ q) (name_unbroken n b h) (slash_no_dot, omega arith, k)

-- a path of names; what stands last in it becomes a package name
pub record IsPath (p : List ℕ) : Type 0 where
  pub unbroken : IsUnbroken p
  pub ends : last_part [] p ≢ star
  pub within : IsWithin max_text_bytes (last_part [] p)

pub name_path : (n : List ℕ) → IsShortName n → IsPath n
name_path n h =
    let last = sym (last_word [] n (words_of n false h.name)) in
    record {
      unbroken = name_unbroken n false h.name;
      ends = subst (λ x. x ≢ star) last (no_star n false h.name);
      within = subst (IsWithin max_text_bytes) last (name_within n h);
    }

pub under_path : (n q : List ℕ) → IsShortName n → IsPath q → IsPath (n ++ 47 ∷ q)
under_path n q h k =
    let last = sym (last_behind [] n q (words_of n false h.name)) in
    record {
      unbroken = under_unbroken n q false h.name k.unbroken;
      ends = subst (λ x. x ≢ star) last k.ends;
      within = subst (IsWithin max_text_bytes) last k.within;
    }

last_at : (b : Bool) (acc rest p : List ℕ) → IsUnbroken (last_part [] p) → IsUnbroken (last_part rest p)
    → IsUnbroken (if b then last_part [] p else last_part rest p)
last_at true acc rest p h k = h
last_at false acc rest p h k = k

pub last_unbroken : (acc p : List ℕ) → IsUnbroken acc → IsUnbroken p → IsUnbroken (last_part acc p)
last_unbroken acc [] h k = h
last_unbroken acc (c ∷ p) h k =
    last_at (nat_eq c 47) acc (acc ++ c ∷ []) p (last_unbroken [] p tt k.2)
    (last_unbroken (acc ++ c ∷ []) p (unbroken_append acc (c ∷ []) h (k.0, k.1, tt)) k.2)

-- ---- tokens

abbrev pub Named_token : Token → Type 0
Named_token (T.Name n at) = IsShortName n
Named_token (T.Qualified p n at) = IsShortName p × IsShortName n
Named_token _ = Unit {0}

abbrev pub All_named : List Token → Type 0
All_named = AllByRecursion Named_token

chars_named : (w : List ℕ) → IsName w false → IsName (chars w) false
chars_named w h = subst (λ x. IsName x false) (sym (chars-IsAscii w (name_ascii w false h))) h

pair_named : (w : List ℕ) → IsPair w
    → IsName (chars (first_name w)) false × IsName (chars (drop (run is_word w + 1) w)) false
pair_named w h =
    let k = halves h.prefix h.name h.before h.behind in
    let before : h.prefix ≡ first_name w = sym (ap first_name h.is ∙ k.prefix) in
    let behind : h.name ≡ drop (run is_word w + 1) w = sym (ap (λ x. drop (run is_word x + 1) x) h.is ∙ k.name) in (
      chars_named (first_name w) (subst (λ x. IsName x false) before h.before),
      chars_named (drop (run is_word w + 1) w) (subst (λ x. IsName x false) behind h.behind),
    )

named_as : (t u : Token) → t ≡ u → Named_token u → Named_token t
named_as t u e h = subst Named_token (sym e) h

module _ (s : List ℕ) (short : length s ≤ max_text_bytes) where
  named : (w : List ℕ) → IsName w false → length w ≤ length s → IsShortName w
  named w h n = record { name = h; short = omega (arith, n, short) }

  token_named : (k : TokenKind) (l : Lexeme) (t : Token) → Form k (span s l) → Says l.start (payload_by k s l) t
      → Named_token t
  token_named K.Name l t f e = named_as t _ e (named _ (chars_named (span s l) f) (name_short s l))
  token_named K.Qualified l t f e =
      let p = pair_named (span s l) f in
      named_as t _ e (named _ p.0 (first_short s l), named _ p.1 (second_short s l))
  token_named K.Keyword l t f e = named_as t _ e tt
  token_named K.Text l t f e = named_as t _ e tt
  token_named K.Bracket l t f e = named_as t _ e.3 tt
  token_named K.Bounds l t f e = named_as t _ e.1 tt
  token_named K.Number l t f e = named_as t _ e tt
  token_named K.Sign l t f e = named_as t _ e tt

  -- the names that the tokens of a text say are names, and no longer than the text
  pub all_named : (ls : List Lexeme) (ts : List Token) → AllStand s ls → Say s ls ts → All_named ts
  all_named [] ts h k = subst All_named (sym k) tt
  all_named (l ∷ ls) ts h k =
      let f = form_of s l (h 0 l refl) in
      subst All_named (sym k.2) (token_named l.kind l k.0 f k.3, all_named ls k.1 (λ i r e. h (suc i) r e) k.4)
