-- What is wanted comes to something: each loaded table is in order, and so it has static facts.
use Rattle.std.proofs.Common.{◌≡◌, ◌⊎◌, ◌<◌, ◌≤◌, ℕ, Bool, true, false, List, length, refl, sym, ◌∙◌, ap, subst, inl}
use Rattle.std.proofs.Common.{inr, arith}
use Rattle.std.specs.Prelude.{map, Option, Some, None, Result, Ok, Err, chars, encode_utf8_all, slice_get}
use Rattle.std.specs.Option.{option_map}
use Rattle.std.proofs.lemmas.Bool.{cases_lt}
use Rattle.std.proofs.lemmas.List.{length-map}
use Rattle.std.proofs.lemmas.Option.{slice_get-map}
use Rattle.rosie_prepare.specs.Lines.{expand_line, load_line}
use Rattle.rosie_prepare.specs.Laws.{SomePreparation}
use Rattle.rosie_prepare.specs.Prepared.{GoalPasses, OrLine, Passes, Ready, TablePasses, TableFacts, Tree}
use Rattle.rosie_prepare.specs.Prepared.{blocks, bodies, unless_faulty, roots_then_pattern, ready, too_large, unsound}
use Rattle.rosie_prepare.specs.Prepared.{table_too_large, table_unsound}
use Rattle.rpl_check.proofs.Accepting.{calls_stay}
use Rattle.rpl_facts.proofs.Exists.{facts_of}
use Rattle.rpl_check.specs.Faults as C
use Rattle.rpl_core.specs.Core.{Core}
use Rattle.rpl_core.specs.Order.{AreTogether, IsInOrder, block_at}
use Rattle.rpl_core.specs.Programs.{calls}
use Rattle.rpl_expand.proofs.Ordering.{table_blocks_are, table_only}
use Rattle.rpl_expand.specs.Faults as E
use Rattle.rpl_expand.specs.Sets.{statements, table_of}
use Rattle.rpl_expand.specs.Bound.{AreBound}
use Rattle.rpl_forms.specs.Rows.{Row}
use Rattle.rpl_lexer.specs.Cutting.{cut_of}
use Rattle.rpl_lexer.specs.declared.fault.LexFault.{LexFault}
use Rattle.rpl_lexer.specs.declared.token.Token.{Token}
use Rattle.rpl_expand.proofs.Loaded.{loaded_is_bound, told_is_built}
use Rattle.rpl_expand.specs.LoadLaws.{IsLoaded, by_pattern, by_roots}
use Rattle.rpl_names.specs.Goals.{ReadsCut, ReadsGoal, ReadsText, ReadsTokens, pattern_file, sought}
use Rattle.rpl_names.specs.Loading.{world}
use Rattle.rpl_names.specs.Patterns.{load_pattern}
use Rattle.rpl_names.specs.Roots.{Packages, load}
use Rattle.rpl_names.specs.Targets.{halt_name}
use Rattle.rpl_names.specs.Texts.{max_text_bytes}
use Rattle.rpl_names.specs.declared.roots.Root.{Root}
use Rattle.rpl_parser.proofs.Answered.{either}
use Rattle.rpl_scope.specs.Faults.{Or, ◌>>=◌, fault}
use Rattle.rpl_scope.specs.declared.fault.LoadKind.TheVariants.{FileTooLong, Lex, Parse}
use Rattle.rpl_syntax.specs.Expression.{Expr, Text}

-- ---- a pattern's text has a reading

tokens_some : (find : Bool) (s : List ℕ) (ts : List Token) → (r : Or Expr) × ReadsTokens find s ts r
tokens_some find s ts =
    elim (either s ts) [
      | inl is ↦ (Ok (sought find is.0), (is.0, is.1, refl))
      | inr is ↦ (fault pattern_file is.0.at (Parse is.0.kind), (is.0, is.1, refl))
    ]

cut_some : (find : Bool) (s : List ℕ) (c : Result (List Token) LexFault) → (r : Or Expr) × ReadsCut find s c r
cut_some find s (Ok ts) = tokens_some find s ts
cut_some find s (Err e) = (fault pattern_file e.at (Lex e.kind), refl)

text_some : (fixed find : Bool) (s : List ℕ) → (r : Or Expr) × ReadsText fixed find s r
text_some true find s = (Ok (sought find (Text (chars s))), refl)
text_some false find s = cut_some find s (cut_of s)

pub reading_some : (fixed find : Bool) (s : List ℕ) → (r : Or Expr) × ReadsGoal fixed find s r
reading_some fixed find s =
    elim (cases_lt max_text_bytes (length s)) [
      | inl long ↦ (fault pattern_file 0 FileTooLong, record { long = λ _. refl; text = λ short. absurd (omega arith) })
      | inr short ↦
          let is = text_some fixed find s in
          (is.0, record { long = λ long. absurd (omega arith); text = λ _. is.1 })
    ]

-- ---- a loaded table is in order

row_there : (o : Option Row) (q : Core) → option_map (λ r. r.body) o ≡ Some q → (r : Row) × (o ≡ Some r) × (r.body ≡ q)
row_there None q e = absurd cc
row_there (Some r) q e = (r, refl, cc)

rows_in_order : (p : Packages) → AreBound (statements p) → IsInOrder (bodies (table_of p)) (blocks (table_of p))
rows_in_order p a =
    let together = table_blocks_are (halt_name p) (statements p) in
    record {
      side_by_side =
          subst (λ l. (r s q b : ℕ) → r ≤ s → s ≤ q → block_at (slice_get l r) ≡ Some b
          → block_at (slice_get l q) ≡ Some b → block_at (slice_get l s) ≡ Some b) (sym together) a.side_by_side;
      earlier = λ r s q e g.
          let row = row_there (slice_get (table_of p) r) q (sym (slice_get-map (λ x. x.body) (table_of p) r) ∙ e) in
          subst (λ l. (s < r) ⊎ AreTogether l r s) (sym together)
          (table_only (halt_name p) (statements p) a r row.0 row.1 s (ap (λ x. calls x s) row.2 ∙ g));
    }

table_facts : (tree : Tree) (folders : List (List ℕ)) (p : Packages) → IsLoaded tree folders p → TableFacts p
table_facts tree folders p is =
    let long = length-map (table_of p) (λ r. r.block) ∙ sym (length-map (table_of p) (λ r. r.body)) in
    facts_of (bodies (table_of p))
    (calls_stay (bodies (table_of p)) (blocks (table_of p)) long
    (rows_in_order p (loaded_is_bound p (told_is_built tree folders p is))))

-- ---- what is loaded comes to something

passes_some :
    {A : Type 0} (p : Packages) (t : Option E.Fault) (fault : TableFacts p → Option C.Fault) (a : A) → TableFacts p
    → (r : OrLine A) × Passes p t fault a r
passes_some p (Some f) fault a d = (Err (expand_line p f), refl)
passes_some p None fault a d = (unless_faulty p a (fault d), (d, refl))

module _ (tree : Tree) (folders : List (List ℕ)) (roots : List Root) (fixed find : Bool) (text : List ℕ) (parse :
    Or Expr)
    (reads : ReadsGoal fixed find text parse) where
  goal_some :
      (p : Packages) → IsLoaded tree folders p → (l : Or (Expr × Packages))
      → (load_pattern (world tree folders) p parse).answer ≡ l → (r : OrLine Ready) × GoalPasses l r
  goal_some p is (Err f) e = (Err (load_line f), refl)
  goal_some p is (Ok l) e =
      passes_some l.1 (too_large l.1 l.0) (unsound l.1 l.0) (ready l.1 l.0)
      (table_facts tree folders l.1 (by_pattern p l.1 fixed find text parse l.0 reads is e))

  comes_some :
      (x : Or Packages) → (load (world tree folders) roots).answer ≡ x
      → (r : OrLine Ready) × GoalPasses (x >>= λ p. (load_pattern (world tree folders) p parse).answer) r
  comes_some (Err f) e = (Err (load_line f), refl)
  comes_some (Ok p) e = goal_some p (by_roots roots p e) (load_pattern (world tree folders) p parse).answer refl

-- roots alone come to something
table_some :
    (tree : Tree) (folders : List (List ℕ)) (roots : List Root) (x : Or Packages)
    → (load (world tree folders) roots).answer ≡ x → (r : OrLine Packages) × TablePasses x r
table_some tree folders roots (Err f) e = (Err (load_line f), refl)
table_some tree folders roots (Ok p) e =
    passes_some p (table_too_large p) (table_unsound p) p (table_facts tree folders p (by_roots roots p e))

-- preparing roots without a pattern has a result
pub some_table :
    (tree : Tree) (folders : List (List ℕ)) (roots : List Root)
    → (r : OrLine Packages) × TablePasses (load (world tree folders) roots).answer r
some_table tree folders roots = table_some tree folders roots (load (world tree folders) roots).answer refl

-- ---- the law

-- a preparation has a result
pub some_answer : SomePreparation
some_answer tree w =
    let is = reading_some w.fixed w.find w.text in
    let comes = comes_some tree w.folders w.roots w.fixed w.find w.text is.0 is.1
    (load (world tree w.folders) w.roots).answer refl in (
      map encode_utf8_all (roots_then_pattern tree w is.0).asked,
      comes.0,
      record { parse = is.0; reads = is.1; paths = refl; comes = comes.1 },
    )
