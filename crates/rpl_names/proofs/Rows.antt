-- Rows, rule by rule and module by module.
use Rattle.std.proofs.Common.{arith, ◌≡◌, ◌≢◌, ◌<◌, ◌+◌, ◌++◌, ℕ, List, [], ◌∷◌, length, drop, get_or, refl}
use Rattle.std.proofs.Common.{sym, ap, ap₂, ◌∙◌, append_assoc}
use Rattle.rpl_scope.specs.Packages as P
use Rattle.rpl_scope.specs.Seen.{rules_seen, modules_seen}
use Rattle.rpl_scope.specs.declared.module.Module.{Module}
use Rattle.rpl_scope.proofs.Checking.{front}
use Rattle.rpl_names.specs.Tables.{full_name, begun_at, begun_in, rows_of, rows_from}
use Rattle.rpl_names.specs.Firsts.{firsts_from}
use Rattle.rpl_names.specs.declared.table.Row.{Row}

pub named_fully : (label name : List ℕ) → label ≢ [] → full_name label name ≡ label ++ 46 ∷ name
named_fully [] name h = absurd (h refl)
named_fully (c ∷ l) name h = refl

-- as many rows as rules
pub length_rows_of : (label : List ℕ) (i k b : ℕ) (rs : List P.Rule) → length (rows_of label i k b rs) ≡ length rs
length_rows_of label i k b [] = refl
length_rows_of label i k b (r ∷ rs) = let h = length_rows_of label i (k + 1) (begun_at b k r) rs in omega (arith, h)

pub module_step : (i b : ℕ) (rows now all : List Row) (ms : List Module) (n : ℕ) (m : Module) → n < length ms
    → m ≡ get_or ms n m
    → now ≡ rows ++ rows_of m.label i 0 b (rules_seen m.rules.items)
    → rows ++ rows_from i b (modules_seen (drop n ms)) ≡ all
    → now ++ rows_from (i + 1) (begun_in b 0 (rules_seen m.rules.items)) (modules_seen (drop (n + 1) ms)) ≡ all
module_step i b rows now all ms n m lt h w e =
    ap (λ x. x ++ rows_from (i + 1) (begun_in b 0 (rules_seen m.rules.items)) (modules_seen (drop (n + 1) ms))) w
    ∙ append_assoc rows _ _
    ∙ ap (λ x. rows ++ rows_from i b (modules_seen x)) (sym (front ms n m lt h)) ∙ e

pub first_step : (p q : ℕ) (firsts now all : List ℕ) (ms : List Module) (n : ℕ) (m : Module) → n < length ms
    → m ≡ get_or ms n m
    → now ≡ firsts ++ p ∷ [] → q ≡ p + length (rules_seen m.rules.items)
    → firsts ++ firsts_from p (modules_seen (drop n ms)) ≡ all
    → now ++ firsts_from q (modules_seen (drop (n + 1) ms)) ≡ all
first_step p q firsts now all ms n m lt h w s e =
    ap₂ (λ x y. x ++ firsts_from y (modules_seen (drop (n + 1) ms))) w s
    ∙ append_assoc firsts _ _
    ∙ ap (λ x. firsts ++ firsts_from p (modules_seen x)) (sym (front ms n m lt h)) ∙ e
