use Rattle.std.proofs.Common.{◌≡◌, ℕ, ◌<◌, ◌≤◌, ◌+◌, ◌++◌, List, ◌∷◌, [], length, Some, None, sym, ap, ◌∙◌}
use Rattle.std.proofs.Common.{subst, arith, length-append, append-nil}
use Rattle.rpl_core.specs.Listed.{rules_of}
use Rattle.rpl_macro.specs.declared.casing.Casing.TheVariants.{Plain}
use Rattle.rpl_forms.specs.Counting.{KnowsInners}
use Rattle.rpl_forms.specs.Rows.{inners_of, row_at, rows_of}
use Rattle.rpl_core.specs.declared.rules.Rule.{Rule}
use Rattle.rpl_names.specs.Roots.{Packages}
use Rattle.rpl_names.specs.Sets.{set_seen}
use Rattle.rpl_names.specs.Tables as P
use Rattle.rpl_names.specs.Targets.{binds_halt, halt_name}
use Rattle.rpl_expand.specs.Expansion.{core}
use Rattle.rpl_expand.specs.Faults.{size_fault, table_fault}
use Rattle.rpl_expand.specs.Answers.{Answers, fault_named}
use Rattle.rpl_expand.specs.Sets.{statement_at, statements, table_of}
use Rattle.rpl_expand.specs.Table.{body_of, built_in, row_of, rows, scope_at}
use Rattle.rpl_expand.specs.inside.Statements.{statement_found, statement_seen}
use Rattle.rpl_expand.proofs.Ordering.{in_order}
use Rattle.rpl_expand.proofs.Standing.{from, from_end, from_first, from_here, has_statement}
use Rattle.rpl_expand.proofs.TableSteps.{due_found, fault_turn, next_is_new, rows_from_here, table_turn}
use Rattle.rpl_expand.proofs.Whole.{apart, two_rules, whole_fault, whole_table}
use Rattle.rpl_expand.proofs.table.expand.Goals as goal

pub built_in-requires : goal.built_in-requires
built_in-requires c = λ e. apart (binds_halt (set_seen c.args.packages.now)) (sym c.halt_name.ensures ∙ e)

pub loop-number-init : goal.loop-number-init
loop-number-init c =
    let p = set_seen c.args.packages.now in
    let rs = rules_of c.in_ok-table.table.rules in
    let made : rows_of rs ≡ built_in (halt_name p) =
    ap (λ l. rows_of (rules_of l)) c.in_ok-table.ensures.rules ∙ c.in_ok-rules.ensures
    ∙ ap built_in c.halt_name.ensures in
    record {
      table_is = ap (λ l. rows_of rs ++ rows (inners_of rs) l) (from_first p)
          ∙ whole_table rs (halt_name p) (statements p) made;
      fault_is = ap (λ l. table_fault 2 (rows (inners_of rs) l)) (from_first p)
          ∙ whole_fault rs (halt_name p) (statements p) made;
      knows = c.in_ok-table.ensures.knows;
      place = two_rules rs (halt_name p) made;
      behind = omega arith;
    }

pub unreachable-requires : goal.unreachable-requires
unreachable-requires c =
    let p = set_seen c.args.packages.now in
    let n = c.loop-number.number in
    let within : n < 2 + length (P.rows p.stock.modules) =
    omega (arith, c.loop-number-test.true, c.rules-number-end.ensures) in
    let made = has_statement p n c.loop-number.invariant.behind within in
    let none : statement_at p n ≡ None = sym c.of.ensures ∙ ap statement_found c.in_default.is in
    let e : None ≡ Some made.0 = sym none ∙ made.1 in cc

pub returns-in-Err-clause-exactly : goal.returns-in-Err-clause-exactly
returns-in-Err-clause-exactly c =
    let p = set_seen c.args.packages.now in
    let rs = rules_of c.loop-number.table.rules in
    let I = inners_of rs in
    let n = c.loop-number.number in
    let s = statement_seen c.in-Some.statement in
    let inv = c.loop-number.invariant in
    let known = subst (λ l. KnowsInners l I) (sym c.deref.ensures.value) inv.knows in
    let own = core Plain (scope_at I s) s.body in
    let counts = c.counts_under.ensures own s.name (c.measure-own.ensures Plain I known) in
    let due = subst (Answers (size_fault (Some n) (body_of I s))) c.in-Err.is
    (c.check_size.ensures (body_of I s) counts) in
    let there : statement_at p n ≡ Some s = sym c.of.ensures ∙ ap statement_found c.in-Some.is in
    let within : n < 2 + length (P.rows p.stock.modules) =
    omega (arith, c.loop-number-test.true, c.rules-number-end.ensures) in
    let first = ap (rows I) (from_here p n s within there) in
    due_found n (row_of I s) _ _ _ (fault_named c.in-Err.fault) first due inv.fault_is

pub loop-number-preserved : goal.loop-number-preserved
loop-number-preserved c =
    let p = set_seen c.args.packages.now in
    let rs = rules_of c.loop-number.table.rules in
    let I = inners_of rs in
    let n = c.loop-number.number in
    let s = statement_seen c.in-Some.statement in
    let r = c.in_ok-rule.rule in
    let inv = c.loop-number.invariant in
    let known = subst (λ l. KnowsInners l I) (sym c.deref.ensures.value) inv.knows in
    let own = core Plain (scope_at I s) s.body in
    let counts = c.counts_under.ensures own s.name (c.measure-own.ensures Plain I known) in
    let fits : size_fault (Some n) (body_of I s) ≡ None =
    subst (Answers (size_fault (Some n) (body_of I s))) c.in_default-check_size.is
    (c.check_size.ensures (body_of I s) counts) in
    let there : statement_at p n ≡ Some s = sym c.of.ensures ∙ ap statement_found c.in-Some.is in
    let within : n < 2 + length (P.rows p.stock.modules) =
    omega (arith, c.loop-number-test.true, c.rules-number-end.ensures) in
    let made = c.in_ok-rule.ensures in
    let none : size_fault (Some n) (row_at r).body ≡ None = ap (λ x. size_fault (Some n) x.body) made ∙ fits in
    let old = rows I (from p n) in
    let new = rows (inners_of (rs ++ r ∷ [])) (from p (n + 1)) in
    let e : old ≡ row_at r ∷ new = rows_from_here p rs n s r within there made in
    let is = c.in_ok-table-2.ensures.rules in
    record {
      table_is = subst (λ l. rows_of l ++ rows (inners_of l) (from p (n + 1)) ≡ table_of p) (sym is)
          (table_turn rs r old new (table_of p) e inv.table_is);
      fault_is = subst (λ l. table_fault (n + 1) (rows (inners_of l) (from p (n + 1))) ≡ table_fault 0 (table_of p))
          (sym is) (fault_turn n (row_at r) old new (table_fault 0 (table_of p)) e none inv.fault_is);
      knows = c.in_ok-table-2.ensures.knows;
      place = ap length is ∙ length-append rs (r ∷ []) ∙ omega (arith, inv.place);
      behind = omega (arith, inv.behind);
    }

pub with-requires-clause-new_name : goal.with-requires-clause-new_name
with-requires-clause-new_name c =
    let p = set_seen c.args.packages.now in
    let rs = rules_of c.loop-number.table.rules in
    let n = c.loop-number.number in
    let s = statement_seen c.in-Some.statement in
    let there : statement_at p n ≡ Some s = sym c.of.ensures ∙ ap statement_found c.in-Some.is in
    let within : n < 2 + length (P.rows p.stock.modules) =
    omega (arith, c.loop-number-test.true, c.rules-number-end.ensures) in
    let e = rows_from_here p rs n s c.in_ok-rule.rule within there c.in_ok-rule.ensures in
    next_is_new rs c.in_ok-rule.rule _ _ (table_of p) e c.loop-number.invariant.table_is c.requires

-- the whole table, when the last rule is made
made_whole : (p : Packages) (rs : List Rule) (n : ℕ) → 2 + length (P.rows p.stock.modules) ≤ n
    → rows_of rs ++ rows (inners_of rs) (from p n) ≡ table_of p → rows_of rs ≡ table_of p
made_whole p rs n le e =
    sym (append-nil (rows_of rs)) ∙ ap (λ l. rows_of rs ++ rows (inners_of rs) l) (sym (from_end p n le)) ∙ e

pub returns-clause-exactly : goal.returns-clause-exactly
returns-clause-exactly c =
    let p = set_seen c.args.packages.now in
    let n = c.loop-number.number in
    let inv = c.loop-number.invariant in
    sym inv.fault_is ∙ ap (λ l. table_fault n (rows (inners_of (rules_of c.loop-number.table.rules)) l))
    (from_end p n (omega (arith, c.loop-number-test.false, c.rules-number-end.ensures)))

pub returns-clause-table : goal.returns-clause-table
returns-clause-table c =
    let p = set_seen c.args.packages.now in
    let n = c.loop-number.number in
    made_whole p (rules_of c.loop-number.table.rules) n
    (omega (arith, c.loop-number-test.false, c.rules-number-end.ensures)) c.loop-number.invariant.table_is

pub returns-clause-order : goal.returns-clause-order
returns-clause-order c = λ a.
    let p = set_seen c.args.packages.now in
    in_order (halt_name p) (statements p) (rules_of c.loop-number.table.rules) a (returns-clause-table c)
