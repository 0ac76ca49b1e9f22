-- What is read of a statement is spelled so, and what is spelled is read.
use Rattle.std.proofs.Common.{◌≡◌, ℕ, zero, suc, ◌<◌, ◌≤◌, List, [], ◌∷◌, ◌++◌, length, Option, Some, append_assoc}
use Rattle.std.proofs.Common.{refl, sym, ap, ◌∙◌, ◌⊎◌, inl, inr, arith}
use Rattle.std.specs.Prelude.{Bool, true, false}
use Rattle.rpl_text.specs.Options.{◌>>=◌}
use Rattle.rpl_lexer.specs.declared.keyword.Keyword.TheVariants as W
use Rattle.rpl_lexer.specs.declared.punct.Punct.TheVariants as P
use Rattle.rpl_syntax.specs.Grammar.{Exp, spell_exp}
use Rattle.rpl_syntax.specs.Reading.{read}
use Rattle.rpl_syntax.proofs.Sound.{bind_some, some_is}
use Rattle.rpl_syntax.proofs.Unique.{again, sound}
use Rattle.rpl_syntax.specs.declared.module.Import.{Import}
use Rattle.rpl_syntax.specs.declared.module.ImportAs.{ImportAs}
use Rattle.rpl_syntax.specs.declared.token.Token.{Token}
use Rattle.rpl_syntax.specs.declared.token.Token.TheVariants as T
use Rattle.rpl_parser.specs.Spelling as S
use Rattle.rpl_parser.specs.Spelling.{Line, Path, As, Entries, Spells, spell_path, spell_as, spell_entries, spell_if}
use Rattle.rpl_parser.specs.Spelling.{path_text, path_place, import_as, entry, entries, whole_expr}
use Rattle.rpl_parser.proofs.Entries.{path_end}
use Rattle.rpl_parser.specs.Lines.{path_of, as_of, entry_from, entry_of, all_of, with_others, entries_of, binds}
use Rattle.rpl_parser.specs.Lines.{alias_of, line_of}
use Rattle.rpl_parser.specs.inside.Lines.{is_path_end}

-- ---- what is read is spelled so

-- what follows the path so far
record PathAt (path : List ℕ) (s : List Token) (text : List ℕ) (r : List Token) : Type 0 where
  pub next : ((s ≡ r) × (text ≡ path))
      ⊎ ((p : Path) × (s ≡ T.Sign P.Slash ∷ spell_path p r) × (text ≡ path ++ 47 ∷ path_text p))

abbrev at_path : List ℕ → List Token → List ℕ × List Token
at_path text r = (text, r)

path_done : (path : List ℕ) (s : List Token) (text : List ℕ) (r : List Token) → at_path path s ≡ (text, r)
    → PathAt path s text r
path_done path s text r e =
    record { next = inl (ap (λ (x : List ℕ × List Token). x.1) e, sym (ap (λ (x : List ℕ × List Token). x.0) e)) }

path_more : (path n : List ℕ) (at : ℕ) (s : List Token) (text : List ℕ) (r : List Token)
    → PathAt (path ++ 47 ∷ n) s text r → PathAt path (T.Sign P.Slash ∷ T.Name n at ∷ s) text r
path_more path n at s text r h =
    record {
      next = elim h.next [
        | inl k ↦ inr (S.Last n at, ap (λ z. T.Sign P.Slash ∷ T.Name n at ∷ z) k.0, k.1)
        | inr k ↦ inr (
          S.Under n at k.0,
          ap (λ z. T.Sign P.Slash ∷ T.Name n at ∷ z) k.1,
          k.2
              ∙ append_assoc path (47 ∷ n) (47 ∷ path_text k.0),
        )
      ];
    }

path_sound : (path : List ℕ) (s : List Token) (text : List ℕ) (r : List Token) → path_of path s ≡ (text, r)
    → PathAt path s text r
path_sound path (T.Sign P.Slash ∷ T.Name n at ∷ s) text r e =
    path_more path n at s text r (path_sound (path ++ 47 ∷ n) s text r e)
path_sound path s text r e = path_done path s text r e

record AsAt (s : List Token) (name : ImportAs) (r : List Token) : Type 0 where
  pub tree : As
  pub spelled : s ≡ spell_as tree r
  pub stands : name ≡ import_as tree

abbrev at_as : ImportAs → List Token → ImportAs × List Token
at_as name r = (name, r)

as_done : (a : As) (s q : List Token) (name : ImportAs) (r : List Token) → s ≡ spell_as a q
    → Some (at_as (import_as a) q) ≡ Some (name, r) → AsAt s name r
as_done a s q name r f e =
    let done : at_as (import_as a) q ≡ (name, r) = some_is _ _ e in
    record {
      tree = a;
      spelled = f ∙ ap (λ (x : ImportAs × List Token). spell_as a x.1) done;
      stands = sym (ap (λ (x : ImportAs × List Token). x.0) done);
    }

as_sound : (s : List Token) (name : ImportAs) (r : List Token) → as_of s ≡ Some (name, r) → AsAt s name r
as_sound (T.Keyword W.As ∷ T.Name n at ∷ q) name r e = as_done (S.AsName n at) _ q name r refl e
as_sound (T.Keyword W.As ∷ T.Sign P.Dot ∷ q) name r e = as_done S.AsDot _ q name r refl e
as_sound (T.Keyword W.As ∷ q) name r e = absurd cc
as_sound q name r e = as_done S.NoAs _ q name r refl e

record EntryAt (s : List Token) (i : Import) (r : List Token) : Type 0 where
  pub path : Path
  pub as_what : As
  pub spelled : s ≡ spell_path path (spell_as as_what r)
  pub stands : i ≡ entry path as_what

abbrev at_entry : Import → List Token → Import × List Token
at_entry i r = (i, r)

-- the entry with this path
entry_with : (p : Path) (s q : List Token) (text : List ℕ) (i : Import) (r : List Token) → s ≡ spell_path p q
    → text ≡ path_text p → entry_from (path_place p) (text, q) ≡ Some (i, r) → EntryAt s i r
entry_with p s q text i r f h e =
    let b = bind_some (as_of q) _ _ e in
    let a = as_sound q b.0.0 b.0.1 b.1 in
    let done : at_entry (record { path = text; at = path_place p; name = b.0.0 }) b.0.1 ≡ (i, r) = some_is _ _ b.2 in
    record {
      path = p;
      as_what = a.tree;
      spelled = f ∙ ap (spell_path p) (a.spelled ∙ ap (λ (x : Import × List Token). spell_as a.tree x.1) done);
      stands = sym (ap (λ (x : Import × List Token). x.0) done)
          ∙ (ap (λ t. record { path = t; at = path_place p; name = b.0.0 }) h
          ∙ ap (λ n. record { path = path_text p; at = path_place p; name = n }) a.stands);
    }

entry_sound : (s : List Token) (i : Import) (r : List Token) → entry_of s ≡ Some (i, r) → EntryAt s i r
entry_sound (T.Name n at ∷ s) i r e =
    let h = path_sound n s (path_of n s).0 (path_of n s).1 refl in
    elim h.next [
      | inl k ↦ entry_with (S.Last n at) _ (path_of n s).1 (path_of n s).0 i r (ap (λ z. T.Name n at ∷ z) k.0) k.1 e
      | inr k ↦ entry_with (S.Under n at k.0) _ (path_of n s).1 (path_of n s).0 i r (ap (λ z. T.Name n at ∷ z) k.1) k.2
          e
    ]
entry_sound _ i r e = absurd cc

record EntriesAt (s : List Token) (is : List Import) : Type 0 where
  pub tree : Entries
  pub spelled : s ≡ spell_entries tree
  pub stands : is ≡ entries tree

entries_done : (i : Import) (s r : List Token) (is : List Import) → EntryAt s i r → all_of (i ∷ []) r ≡ Some is
    → EntriesAt s is
entries_done i s [] is h e =
    record {
      tree = S.Single h.path h.as_what;
      spelled = h.spelled;
      stands = sym (some_is _ _ e)
          ∙ ap (λ x. x ∷ []) h.stands;
    }
entries_done i s (t ∷ r) is h e = absurd cc

module _ (others : List Token → Option (List Import)) (ho : (s : List Token) (is : List Import) → others s ≡ Some is
    → EntriesAt s is) where
  others_sound : (i : Import) (s r : List Token) (is : List Import) → EntryAt s i r → with_others others i r ≡ Some is
      → EntriesAt s is
  others_sound i s (T.Sign P.Comma ∷ r) is h e =
      let b = bind_some (others r) _ _ e in
      let t = ho r b.0 b.1 in
      record {
        tree = S.More h.path h.as_what t.tree;
        spelled = h.spelled ∙ ap (λ z. spell_path h.path (spell_as h.as_what (T.Sign P.Comma ∷ z))) t.spelled;
        stands = sym (some_is _ _ b.2) ∙ (ap (λ x. x ∷ b.0) h.stands ∙ ap (λ xs. entry h.path h.as_what ∷ xs) t.stands);
      }
  others_sound i s r is h e = entries_done i s r is h e

entries_sound : (n : ℕ) (s : List Token) (is : List Import) → entries_of n s ≡ Some is → EntriesAt s is
entries_sound zero s is e = absurd cc
entries_sound (suc n) s is e =
    let b = bind_some (entry_of s) _ _ e in
    others_sound (entries_of n) (entries_sound n) b.0.0 s b.0.1 is (entry_sound s b.0.0 b.0.1 b.1) b.2

spells : (t : S.Statement) (l : Line) → Some (S.line t) ≡ Some l → Spells (S.spell_statement t) l
spells t l e = record { tree = t; spelled = refl; stands_for = sym (some_is _ _ e) }

imports_sound : (r : List Token) (l : Line) → (entries_of (suc (length r)) r >>= λ es. Some (S.Imports es)) ≡ Some l
    → Spells (T.Keyword W.Import ∷ r) l
imports_sound r l e =
    let b = bind_some (entries_of (suc (length r)) r) _ _ e in
    let t = entries_sound (suc (length r)) r b.0 b.1 in
    record {
      tree = S.ImportLine t.tree;
      spelled = ap (λ z. T.Keyword W.Import ∷ z) t.spelled;
      stands_for = sym (some_is _ _ b.2) ∙ ap S.Imports t.stands;
    }

binds_sound : (local alias : Bool) (r : List Token) (l : Line) → binds local alias r ≡ Some l
    → Spells (spell_if local W.Local (spell_if alias W.Alias r)) l
binds_sound local alias (T.Name n at ∷ T.Sign P.Equals ∷ r) l e =
    let b = bind_some (read r) _ _ e in
    let h = sound r b.0 b.1 in
    record {
      tree = S.BindingLine local alias n at h.tree;
      spelled = ap (λ z. spell_if local W.Local (spell_if alias W.Alias (T.Name n at ∷ T.Sign P.Equals ∷ z))) h.spelled;
      stands_for = sym (some_is _ _ b.2) ∙ ap (S.Binds local alias n) h.stands_for;
    }
binds_sound local alias _ l e = absurd cc

alias_sound : (r : List Token) (l : Line) → alias_of true r ≡ Some l → Spells (T.Keyword W.Local ∷ r) l
alias_sound (T.Keyword W.Alias ∷ r) l e = binds_sound true true r l e
alias_sound r l e = binds_sound true false r l e

boundary_sound : (r : List Token) (l : Line) → (read r >>= λ x. Some (S.Binds true true (126 ∷ []) x)) ≡ Some l
    → Spells (T.Sign P.Tilde ∷ T.Sign P.Equals ∷ r) l
boundary_sound r l e =
    let b = bind_some (read r) _ _ e in
    let h = sound r b.0 b.1 in
    record {
      tree = S.BoundaryLine h.tree;
      spelled = ap (λ z. T.Sign P.Tilde ∷ T.Sign P.Equals ∷ z) h.spelled;
      stands_for = sym (some_is _ _ b.2) ∙ ap (S.Binds true true (126 ∷ [])) h.stands_for;
    }

-- what is read, the tokens spell
pub line_sound : (p : List Token) (l : Line) → line_of p ≡ Some l → Spells p l
line_sound (T.Keyword W.Rpl ∷ T.Number a ∷ T.Sign P.Dot ∷ T.Number b ∷ []) l e = spells (S.RplLine a b) l e
line_sound (T.Keyword W.Package ∷ T.Name n at ∷ []) l e = spells (S.PackageLine n at) l e
line_sound (T.Keyword W.Import ∷ r) l e = imports_sound r l e
line_sound (T.Keyword W.Grammar ∷ []) l e = spells S.GrammarLine l e
line_sound (T.Keyword W.In ∷ []) l e = spells S.InLine l e
line_sound (T.Keyword W.End ∷ []) l e = spells S.EndLine l e
line_sound (T.Keyword W.Local ∷ r) l e = alias_sound r l e
line_sound (T.Keyword W.Alias ∷ r) l e = binds_sound false true r l e
line_sound (T.Sign P.Tilde ∷ T.Sign P.Equals ∷ r) l e = boundary_sound r l e
line_sound (T.Name n at ∷ r) l e = binds_sound false false (T.Name n at ∷ r) l e
line_sound _ l e = absurd cc

-- ---- what is spelled is read

path_again : (path : List ℕ) (p : Path) (r : List Token) → is_path_end r ≡ true
    → path_of path (T.Sign P.Slash ∷ spell_path p r) ≡ at_path (path ++ 47 ∷ path_text p) r
path_again path (S.Last n at) r h = path_end (path ++ 47 ∷ n) r h
path_again path (S.Under n at p) r h =
    path_again (path ++ 47 ∷ n) p r h ∙ ap (λ t. at_path t r) (append_assoc path (47 ∷ n) (47 ∷ path_text p))

first_again : (p : Path) (r : List Token) → is_path_end r ≡ true
    → entry_of (spell_path p r) ≡ entry_from (path_place p) (path_text p, r)
first_again (S.Last n at) r h = ap (entry_from at) (path_end n r h)
first_again (S.Under n at p) r h = ap (entry_from at) (path_again n p r h)

-- what may stand after an entry
abbrev entry_ends : List Token → Bool
entry_ends [] = true
entry_ends (T.Sign P.Comma ∷ r) = true
entry_ends r = false

as_again : (a : As) (r : List Token) → entry_ends r ≡ true → as_of (spell_as a r) ≡ Some (import_as a, r)
as_again S.NoAs [] h = refl
as_again S.NoAs (T.Sign P.Comma ∷ r) h = refl
as_again S.NoAs _ h = absurd cc
as_again (S.AsName n at) r h = refl
as_again S.AsDot r h = refl

as_ends_path : (a : As) (r : List Token) → entry_ends r ≡ true → is_path_end (spell_as a r) ≡ true
as_ends_path S.NoAs [] h = refl
as_ends_path S.NoAs (T.Sign P.Comma ∷ r) h = refl
as_ends_path S.NoAs _ h = absurd cc
as_ends_path (S.AsName n at) r h = refl
as_ends_path S.AsDot r h = refl

entry_again : (p : Path) (a : As) (r : List Token) → entry_ends r ≡ true
    → entry_of (spell_path p (spell_as a r)) ≡ Some (entry p a, r)
entry_again p a r h =
    first_again p (spell_as a r) (as_ends_path a r h)
    ∙ ap (λ o. o >>= λ x. Some (record { path = path_text p; at = path_place p; name = x.0 }, x.1)) (as_again a r h)

long_path : (p : Path) (r : List Token) → length r < length (spell_path p r)
long_path (S.Last n at) r = omega arith
long_path (S.Under n at p) r = let h = long_path p r in omega arith

long_as : (a : As) (r : List Token) → length r ≤ length (spell_as a r)
long_as S.NoAs r = omega arith
long_as (S.AsName n at) r = omega arith
long_as S.AsDot r = omega arith

entries_again : (es : Entries) (n : ℕ) → length (spell_entries es) < n
    → entries_of n (spell_entries es) ≡ Some (entries es)
entries_again (S.Single p a) zero h = absurd (omega (arith, h))
entries_again (S.Single p a) (suc n) h =
    ap (λ o. o >>= λ e. with_others (entries_of n) e.0 e.1) (entry_again p a [] refl)
entries_again (S.More p a es) zero h = absurd (omega (arith, h))
entries_again (S.More p a es) (suc n) h =
    let r = T.Sign P.Comma ∷ spell_entries es in
    let short : length (spell_entries es) < n = omega (arith, h, long_path p (spell_as a r), long_as a r) in
    ap (λ o. o >>= λ e. with_others (entries_of n) e.0 e.1) (entry_again p a r refl)
    ∙ ap (λ o. o >>= λ xs. Some (entry p a ∷ xs)) (entries_again es n short)

exp_again : (e : Exp) → read (spell_exp e []) ≡ Some (whole_expr e)
exp_again e = again (spell_exp e []) (whole_expr e) (record { tree = e; spelled = refl; stands_for = refl })

statement_again : (t : S.Statement) → line_of (S.spell_statement t) ≡ Some (S.line t)
statement_again (S.RplLine a b) = refl
statement_again (S.PackageLine n at) = refl
statement_again (S.ImportLine es) =
    ap (λ o. o >>= λ xs. Some (S.Imports xs)) (entries_again es (suc (length (spell_entries es))) (omega arith))
statement_again (S.BindingLine true true n at e) = ap (λ o. o >>= λ x. Some (S.Binds true true n x)) (exp_again e)
statement_again (S.BindingLine true false n at e) = ap (λ o. o >>= λ x. Some (S.Binds true false n x)) (exp_again e)
statement_again (S.BindingLine false true n at e) = ap (λ o. o >>= λ x. Some (S.Binds false true n x)) (exp_again e)
statement_again (S.BindingLine false false n at e) = ap (λ o. o >>= λ x. Some (S.Binds false false n x)) (exp_again e)
statement_again (S.BoundaryLine e) = ap (λ o. o >>= λ x. Some (S.Binds true true (126 ∷ []) x)) (exp_again e)
statement_again S.GrammarLine = refl
statement_again S.InLine = refl
statement_again S.EndLine = refl

-- what the tokens spell is read
pub line_again : (p : List Token) (l : Line) → Spells p l → line_of p ≡ Some l
line_again p l h = ap line_of h.spelled ∙ (statement_again h.tree ∙ ap (λ x. Some x) (sym h.stands_for))

-- no tokens spell two statements
pub line_unique : (p : List Token) (l m : Line) → Spells p l → Spells p m → l ≡ m
line_unique p l m h k = some_is l m (sym (line_again p l h) ∙ line_again p m k)
