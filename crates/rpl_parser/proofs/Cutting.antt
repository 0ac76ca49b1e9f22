-- A statement's tokens are the first piece, whatever statements stand after it.
use Rattle.std.proofs.Common.{◌≡◌, ℕ, suc, List, [], ◌∷◌, ◌++◌, length, take, drop, refl, ap, ◌∙◌}
use Rattle.std.specs.Prelude.{Bool, true, false, not, if◌then◌else◌, ◌||◌}
use Rattle.rpl_lexer.specs.declared.keyword.Keyword.TheVariants as W
use Rattle.rpl_lexer.specs.declared.punct.Punct.TheVariants as P
use Rattle.rpl_lexer.specs.declared.token.Token.{Token as Lexeme}
use Rattle.rpl_syntax.specs.declared.expr.Sign.TheVariants.{Not, Ahead, Behind}
use Rattle.rpl_syntax.specs.Grammar.{Leaf, TextLeaf, ClassLeaf, NameLeaf, QualifiedLeaf, AnyLeaf, StartLeaf, EndLeaf}
use Rattle.rpl_syntax.specs.Grammar.{BoundaryLeaf, Quant, StarQuant, PlusQuant, QuestionQuant, BoundsQuant, Exp, Last}
use Rattle.rpl_syntax.specs.Grammar.{Or, And, Seq, Single, More, Item, Signed, Applied, Plain, Times, Atom, One, Group}
use Rattle.rpl_syntax.specs.Grammar.{leaf_token, quant_token, spell_exp, spell_seq, spell_item, spell_atom}
use Rattle.rpl_syntax.specs.declared.token.Token.{Token}
use Rattle.rpl_syntax.specs.declared.token.Token.TheVariants as T
use Rattle.rpl_parser.specs.Spelling as S
use Rattle.rpl_parser.specs.Spelling.{Line, Path, As, Entries, Statement, spell_path, spell_as, spell_entries}
use Rattle.rpl_parser.specs.Spelling.{spell_statement}
use Rattle.rpl_parser.specs.Tokens.{token_by, tokens_of}
use Rattle.rpl_parser.specs.Pieces.{is_local, is_local_or_alias, begins_piece, front, piece_len, closes_later}

-- a token at which no piece begins, unless a `=` follows it
abbrev quiet : Token → Bool
quiet (T.Keyword W.As) = true
quiet (T.Keyword w) = false
quiet (T.Sign P.Equals) = false
quiet t = true

abbrev AllQuiet : List Token → Type 0
AllQuiet [] = Unit {0}
AllQuiet (t ∷ ts) = (quiet t ≡ true) × AllQuiet ts

-- ---- the tokens of an expression and of entries are quiet

leaf_quiet : (l : Leaf) → quiet (leaf_token l) ≡ true
leaf_quiet (TextLeaf s) = refl
leaf_quiet (ClassLeaf s negated) = refl
leaf_quiet AnyLeaf = refl
leaf_quiet StartLeaf = refl
leaf_quiet EndLeaf = refl
leaf_quiet BoundaryLeaf = refl
leaf_quiet (NameLeaf n at) = refl
leaf_quiet (QualifiedLeaf p n at) = refl

quant_quiet : (q : Quant) → quiet (quant_token q) ≡ true
quant_quiet StarQuant = refl
quant_quiet PlusQuant = refl
quant_quiet QuestionQuant = refl
quant_quiet (BoundsQuant l m) = refl

mutual
  exp_quiet : (e : Exp) (r : List Token) → AllQuiet r → AllQuiet (spell_exp e r)
  exp_quiet (Last s) r h = seq_quiet s r h
  exp_quiet (Or s e) r h = seq_quiet s _ (refl, exp_quiet e r h)
  exp_quiet (And s e) r h = seq_quiet s _ (refl, exp_quiet e r h)

  seq_quiet : (s : Seq) (r : List Token) → AllQuiet r → AllQuiet (spell_seq s r)
  seq_quiet (Single i) r h = item_quiet i r h
  seq_quiet (More i s) r h = item_quiet i _ (seq_quiet s r h)

  item_quiet : (i : Item) (r : List Token) → AllQuiet r → AllQuiet (spell_item i r)
  item_quiet (Signed Not i) r h = (refl, item_quiet i r h)
  item_quiet (Signed Ahead i) r h = (refl, item_quiet i r h)
  item_quiet (Signed Behind i) r h = (refl, item_quiet i r h)
  item_quiet (Applied n at i) r h = (refl, (refl, item_quiet i r h))
  item_quiet (Plain a) r h = atom_quiet a r h
  item_quiet (Times a q) r h = atom_quiet a _ (quant_quiet q, h)

  atom_quiet : (a : Atom) (r : List Token) → AllQuiet r → AllQuiet (spell_atom a r)
  atom_quiet (One l) r h = (leaf_quiet l, h)
  atom_quiet (Group true e) r h = (refl, exp_quiet e _ (refl, h))
  atom_quiet (Group false e) r h = (refl, exp_quiet e _ (refl, h))

path_quiet : (p : Path) (r : List Token) → AllQuiet r → AllQuiet (spell_path p r)
path_quiet (S.Last n at) r h = (refl, h)
path_quiet (S.Under n at p) r h = (refl, (refl, path_quiet p r h))

as_quiet : (a : As) (r : List Token) → AllQuiet r → AllQuiet (spell_as a r)
as_quiet S.NoAs r h = h
as_quiet (S.AsName n at) r h = (refl, (refl, h))
as_quiet S.AsDot r h = (refl, (refl, h))

entries_quiet : (es : Entries) → AllQuiet (spell_entries es)
entries_quiet (S.Single p a) = path_quiet p _ (as_quiet a [] tt)
entries_quiet (S.More p a es) = path_quiet p _ (as_quiet a _ (refl, entries_quiet es))

-- ---- where a piece begins

-- a piece begins, after a token that is neither `local` nor `alias`, or nothing stands there
abbrev pub starts : List Token → Bool
starts [] = true
starts (t ∷ ts) = begins_piece (T.Sign P.Dot) (t ∷ ts)

not_local : (b : Token) → is_local_or_alias b ≡ false → is_local b ≡ false
not_local (T.Keyword W.Local) h = absurd cc
not_local _ h = refl

begins_behind : (b : Token) (q : List Token) → is_local_or_alias b ≡ false
    → begins_piece b q ≡ begins_piece (T.Sign P.Dot) q
begins_behind b (T.Keyword W.Alias ∷ r) h = ap not (not_local b h)
begins_behind b (T.Name n at ∷ T.Sign P.Equals ∷ r) h = ap not h
begins_behind b (T.Sign P.Tilde ∷ T.Sign P.Equals ∷ r) h = ap not h
begins_behind b _ h = refl

quiet_leads_not : (t : Token) → quiet t ≡ true → is_local_or_alias t ≡ false
quiet_leads_not (T.Keyword W.Local) h = absurd cc
quiet_leads_not (T.Keyword W.Alias) h = absurd cc
quiet_leads_not _ h = refl

abbrev equals : List Token → Bool
equals (T.Sign P.Equals ∷ r) = true
equals r = false

quiet_begins_not : (b t : Token) (r : List Token) → quiet t ≡ true → equals r ≡ false → begins_piece b (t ∷ r) ≡ false
quiet_begins_not b (T.Keyword W.As) r h k = refl
quiet_begins_not b (T.Keyword _) r h k = absurd cc
quiet_begins_not b (T.Name n at) (T.Sign P.Equals ∷ r) h k = absurd cc
quiet_begins_not b (T.Sign P.Tilde) (T.Sign P.Equals ∷ r) h k = absurd cc
quiet_begins_not b _ r h k = refl

no_equals : (p q : List Token) → AllQuiet p → starts q ≡ true → equals (p ++ q) ≡ false
no_equals [] (T.Sign P.Equals ∷ q) h k = absurd cc
no_equals [] _ h k = refl
no_equals (T.Sign P.Equals ∷ p) q h k = absurd (cc h.0)
no_equals (_ ∷ p) q h k = refl

front_zero : (b : Token) (q : List Token) → is_local_or_alias b ≡ false → starts q ≡ true → front b q ≡ 0
front_zero b [] h k = refl
front_zero b (t ∷ q) h k = ap (λ x. if x then 0 else suc (front t q)) (begins_behind b (t ∷ q) h ∙ k)

front_quiet : (b : Token) (p q : List Token) → is_local_or_alias b ≡ false → AllQuiet p → starts q ≡ true
    → front b (p ++ q) ≡ length p
front_quiet b [] q h k e = front_zero b q h e
front_quiet b (t ∷ p) q h k e =
    ap (λ x. if x then 0 else suc (front t (p ++ q))) (quiet_begins_not b t (p ++ q) k.0 (no_equals p q k.1 e))
    ∙ ap suc (front_quiet t p q (quiet_leads_not t k.0) k.1 e)

-- after the `=` of a binding
body_front : (e : Exp) (q : List Token) → starts q ≡ true → front (T.Sign P.Equals) (spell_exp e [] ++ q)
    ≡ length (spell_exp e [])
body_front e q h = front_quiet (T.Sign P.Equals) (spell_exp e []) q refl (exp_quiet e [] tt) h

pub piece_is : (t : Statement) (q : List Token) → starts q ≡ true
    → piece_len (spell_statement t ++ q) ≡ length (spell_statement t)
piece_is (S.RplLine a b) q h =
    ap suc (front_quiet (T.Keyword W.Rpl) (T.Number a ∷ T.Sign P.Dot ∷ T.Number b ∷ []) q refl (
      refl,
      (refl, (refl, tt)),
    )
    h)
piece_is (S.PackageLine n at) q h = ap suc (front_quiet (T.Keyword W.Package) (T.Name n at ∷ []) q refl (refl, tt) h)
piece_is (S.ImportLine es) q h =
    ap suc (front_quiet (T.Keyword W.Import) (spell_entries es) q refl (entries_quiet es) h)
piece_is (S.BindingLine true true n at e) q h = ap (λ k. suc (suc (suc (suc k)))) (body_front e q h)
piece_is (S.BindingLine true false n at e) q h = ap (λ k. suc (suc (suc k))) (body_front e q h)
piece_is (S.BindingLine false true n at e) q h = ap (λ k. suc (suc (suc k))) (body_front e q h)
piece_is (S.BindingLine false false n at e) q h = ap (λ k. suc (suc k)) (body_front e q h)
piece_is (S.BoundaryLine e) q h = ap (λ k. suc (suc k)) (body_front e q h)
piece_is S.GrammarLine q h = ap suc (front_zero (T.Keyword W.Grammar) q refl h)
piece_is S.InLine q h = ap suc (front_zero (T.Keyword W.In) q refl h)
piece_is S.EndLine q h = ap suc (front_zero (T.Keyword W.End) q refl h)

pub statement_starts : (t : Statement) (q : List Token) → starts (spell_statement t ++ q) ≡ true
statement_starts (S.RplLine a b) q = refl
statement_starts (S.PackageLine n at) q = refl
statement_starts (S.ImportLine es) q = refl
statement_starts (S.BindingLine true alias n at e) q = refl
statement_starts (S.BindingLine false true n at e) q = refl
statement_starts (S.BindingLine false false n at e) q = refl
statement_starts (S.BoundaryLine e) q = refl
statement_starts S.GrammarLine q = refl
statement_starts S.InLine q = refl
statement_starts S.EndLine q = refl

-- ---- where a block is closed

closes_skip : (t : Token) (r : List Token) → quiet t ≡ true → closes_later (t ∷ r) ≡ closes_later r
closes_skip (T.Keyword W.End) r h = absurd cc
closes_skip _ r h = refl

closes_quiet : (p q : List Token) → AllQuiet p → closes_later (p ++ q) ≡ closes_later q
closes_quiet [] q h = refl
closes_quiet (t ∷ p) q h = closes_skip t (p ++ q) h.0 ∙ closes_quiet p q h.1

abbrev pub is_end : Line → Bool
is_end S.Closes = true
is_end _ = false

pub closes_behind : (t : Statement) (q : List Token)
    → closes_later (spell_statement t ++ q) ≡ (is_end (S.line t) || closes_later q)
closes_behind (S.RplLine a b) q = refl
closes_behind (S.PackageLine n at) q = refl
closes_behind (S.ImportLine es) q = closes_quiet (spell_entries es) q (entries_quiet es)
closes_behind (S.BindingLine true true n at e) q = closes_quiet (spell_exp e []) q (exp_quiet e [] tt)
closes_behind (S.BindingLine true false n at e) q = closes_quiet (spell_exp e []) q (exp_quiet e [] tt)
closes_behind (S.BindingLine false true n at e) q = closes_quiet (spell_exp e []) q (exp_quiet e [] tt)
closes_behind (S.BindingLine false false n at e) q = closes_quiet (spell_exp e []) q (exp_quiet e [] tt)
closes_behind (S.BoundaryLine e) q = closes_quiet (spell_exp e []) q (exp_quiet e [] tt)
closes_behind S.GrammarLine q = refl
closes_behind S.InLine q = refl
closes_behind S.EndLine q = refl

-- ---- lists

pub tokens_both : (s : List ℕ) (p q : List Lexeme) → tokens_of s (p ++ q) ≡ tokens_of s p ++ tokens_of s q
tokens_both s [] q = refl
tokens_both s (t ∷ p) q = ap (λ x. token_by t.kind s t ∷ x) (tokens_both s p q)

-- taking as many tokens as a list has, from that list and another, gives the list
pub take_all : (p q : List Lexeme) → take (length p) (p ++ q) ≡ p
take_all [] q = refl
take_all (t ∷ p) q = ap (λ x. t ∷ x) (take_all p q)

-- dropping as many tokens as a list has, from that list and another, leaves the other
pub drop_all : (p q : List Lexeme) → drop (length p) (p ++ q) ≡ q
drop_all [] q = refl
drop_all (t ∷ p) q = drop_all p q
