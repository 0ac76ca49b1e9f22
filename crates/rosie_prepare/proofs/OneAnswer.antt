-- What is wanted comes to one thing alone.
use Rattle.std.proofs.Common.{◌≡◌, ℕ, Bool, true, false, List, length, sym, ◌∙◌, ap, subst, inl}
use Rattle.std.proofs.Common.{inr}
use Rattle.std.specs.Prelude.{map, Option, Some, None, Result, Ok, Err, encode_utf8_all}
use Rattle.std.proofs.lemmas.Bool.{cases_lt}
use Rattle.std.specs.Option.{option_or}
use Rattle.rosie_prepare.proofs.Passing.{first_same, goal_same}
use Rattle.rosie_prepare.specs.Laws.{OnePreparation, OneTable}
use Rattle.rosie_prepare.specs.Prepared.{GoalPasses, OrLine, Passes, Ready, TablePasses, TableFacts}
use Rattle.rosie_prepare.specs.Prepared.{
  blocks,
  unless_faulty,
  goal_in,
  roots_then_pattern,
  ready,
  table_too_large,
  table_unsound,
}
use Rattle.rosie_prepare.specs.Prepared.{too_large, unsound}
use Rattle.rpl_check.specs.Faults as C
use Rattle.rpl_expand.specs.Faults as E
use Rattle.rpl_expand.specs.Sets.{table_of}
use Rattle.rpl_lexer.specs.Cutting.{cut_of}
use Rattle.rpl_lexer.specs.declared.fault.LexFault.{LexFault}
use Rattle.rpl_lexer.specs.declared.token.Token.{Token}
use Rattle.rpl_names.specs.Goals.{ReadsCut, ReadsGoal, ReadsText, ReadsTokens, pattern_file, sought}
use Rattle.rpl_names.specs.Loading.{world}
use Rattle.rpl_names.specs.Roots.{Packages, load}
use Rattle.rpl_names.specs.Texts.{max_text_bytes}
use Rattle.rpl_parser.proofs.Answered.{fault_unique, pattern_apart, pattern_unique}
use Rattle.rpl_scope.specs.Faults.{Or, fault}
use Rattle.rpl_scope.specs.declared.fault.LoadKind.TheVariants.{Parse}
use Rattle.rpl_syntax.specs.Expression.{Expr}

-- ---- a pattern's text has one reading

tokens_one :
    (find : Bool) (s : List ℕ) (ts : List Token) (r q : Or Expr) → ReadsTokens find s ts r → ReadsTokens find s ts q
    → r ≡ q
tokens_one find s ts (Ok e) (Ok x) h k = ap Ok (h.2 ∙ ap (sought find) (pattern_unique s ts h.0 k.0 h.1 k.1) ∙ sym k.2)
tokens_one find s ts (Ok e) (Err g) h k = absurd (pattern_apart s ts h.0 k.0 h.1 k.1)
tokens_one find s ts (Err f) (Ok x) h k = absurd (pattern_apart s ts k.0 h.0 k.1 h.1)
tokens_one find s ts (Err f) (Err g) h k =
    h.2 ∙ ap (λ p. fault {A = Expr} pattern_file p.at (Parse p.kind)) (fault_unique s ts h.0 k.0 h.1 k.1) ∙ sym k.2

cut_one :
    (find : Bool) (s : List ℕ) (c : Result (List Token) LexFault) (r q : Or Expr) → ReadsCut find s c r
    → ReadsCut find s c q → r ≡ q
cut_one find s (Ok ts) r q h k = tokens_one find s ts r q h k
cut_one find s (Err e) r q h k = h ∙ sym k

text_one :
    (fixed find : Bool) (s : List ℕ) (r q : Or Expr) → ReadsText fixed find s r → ReadsText fixed find s q → r ≡ q
text_one true find s r q h k = h ∙ sym k
text_one false find s r q h k = cut_one find s (cut_of s) r q h k

pub reading_one :
    (fixed find : Bool) (s : List ℕ) (r q : Or Expr) → ReadsGoal fixed find s r → ReadsGoal fixed find s q → r ≡ q
reading_one fixed find s r q h k =
    elim (cases_lt max_text_bytes (length s)) [
      | inl long ↦ h.long long ∙ sym (k.long long)
      | inr short ↦ text_one fixed find s r q (h.text short) (k.text short)
    ]

-- ---- what is loaded comes to one thing

passes_one :
    {A : Type 0} (p : Packages) (t : Option E.Fault) (fault : TableFacts p → Option C.Fault) (a : A) (r q : OrLine A)
    → ((d e : TableFacts p) → fault d ≡ fault e) → Passes p t fault a r → Passes p t fault a q → r ≡ q
passes_one p (Some f) fault a r q same h k = h ∙ sym k
passes_one p None fault a r q same h k = h.1 ∙ ap (unless_faulty p a) (same h.0 k.0) ∙ sym k.1

unsound_one : (p : Packages) (e : Expr) (c d : TableFacts p) → unsound p e c ≡ unsound p e d
unsound_one p e c d =
    ap (λ f. option_or f (C.goal_fault c.empties c.halting (goal_in p e))) (first_same _ d c (blocks (table_of p)))
    ∙ ap (option_or _) (goal_same _ d c (goal_in p e))

comes_one : (l : Or (Expr × Packages)) (r q : OrLine Ready) → GoalPasses l r → GoalPasses l q → r ≡ q
comes_one (Err f) r q h k = h ∙ sym k
comes_one (Ok l) r q h k =
    passes_one l.1 (too_large l.1 l.0) (unsound l.1 l.0) (ready l.1 l.0) r q (unsound_one l.1 l.0) h k

-- roots alone come to one thing
pub one_table : (x : Or Packages) (r q : OrLine Packages) → TablePasses x r → TablePasses x q → r ≡ q
one_table (Err f) r q h k = h ∙ sym k
one_table (Ok p) r q h k =
    passes_one p (table_too_large p) (table_unsound p) p r q (λ d e. first_same _ e d (blocks (table_of p))) h k

-- ---- the laws

pub only_table : OneTable
only_table tree folders roots r s h k = one_table (load (world tree folders) roots).answer r s h k

-- a preparation has at most one result, and asks for the same paths
pub one_answer : OnePreparation
one_answer tree w asked paths r s h k =
    let same = reading_one w.fixed w.find w.text h.parse k.parse h.reads k.reads in
    let alike = ap (roots_then_pattern tree w) same in (
      h.paths ∙ ap (λ o. map encode_utf8_all o.asked) alike ∙ sym k.paths,
      comes_one (roots_then_pattern tree w k.parse).answer r s (subst (λ o. GoalPasses o.answer r) alike h.comes)
          k.comes,
    )
