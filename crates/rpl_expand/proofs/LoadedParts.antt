-- In a set that is built every choice in the core of a rule has a part, and in that of a pattern that was read.
use Rattle.std.proofs.Common.{◌≡◌, inl, inr, ℕ, List, [], ◌∷◌, ◌++◌, length, Option, Some, None, refl, sym, subst}
use Rattle.std.specs.Prelude.{Bool, true, false, Ok, Err, Result, chars}
use Rattle.std.specs.List.{AllByRecursion}
use Rattle.std.proofs.lemmas.Bool.{cases_lt}
use Rattle.std.proofs.lemmas.List.Elements.{All-from_recursion}
use Rattle.rpl_core.specs.Core.{Core}
use Rattle.rpl_expand.specs.Expansion.{core}
use Rattle.rpl_expand.specs.Laws.{HasParts}
use Rattle.rpl_expand.proofs.Parted.{Parted, has_parts}
use Rattle.rpl_expand.specs.Sets.{goal_of, scope_of, statements, table_of}
use Rattle.rpl_expand.specs.Table.{Statement, body_of, built_in, captured, scope_at}
use Rattle.rpl_expand.specs.Table as E
use Rattle.rpl_forms.specs.Inlining.{Inners, inner}
use Rattle.rpl_forms.specs.Rows.{inners_of}
use Rattle.rpl_forms.specs.Table.{Row, inners_from}
use Rattle.rpl_lexer.specs.Cutting.{cut_of}
use Rattle.rpl_lexer.specs.declared.fault.LexFault.{LexFault}
use Rattle.rpl_lexer.specs.declared.token.Token.{Token as Lexeme}
use Rattle.rpl_macro.specs.declared.casing.Casing.TheVariants.{Plain}
use Rattle.rpl_syntax.proofs.Printing.{reads_good}
use Rattle.rpl_syntax.proofs.Unique.{sound}
use Rattle.rpl_syntax.specs.Expression.{Expr, Text}
use Rattle.rpl_syntax.specs.Readable.{Good}
use Rattle.rpl_parser.specs.Tokens.{tokens_of}
use Rattle.rpl_names.specs.Goals.{ReadsText, ReadsCut, sought}
use Rattle.rpl_names.specs.Roots.{Packages}
use Rattle.rpl_names.specs.Targets.{halt_name}
use Rattle.rpl_names.specs.Texts.{max_text_bytes}
use Rattle.rpl_names.specs.Built.{IsBuilt, IsGoal}
use Rattle.rpl_expand.proofs.Choices.{InnerHas, InnersHave, core_has, inlined_has}
use Rattle.rpl_expand.proofs.Lists.{all_append}
use Rattle.rpl_expand.specs.LoadLaws.{GoalsHaveParts, TablesHaveParts}
use Rattle.rpl_expand.proofs.Stated.{StatementGood, statements_good}

-- ---- the table

abbrev RowHas : Row → Type 0
RowHas r = Parted r.body

captured_has : (b : Bool) (name : List ℕ) (c : Core) → Parted c → Parted (captured b name c)
captured_has true name c h = h
captured_has false name c h = h

inner_has : (I : Inners) (o : Option ℕ) (c : Core) → InnersHave I → Parted c → InnerHas (inner I o c)
inner_has I None c i h = inlined_has I c i h
inner_has I (Some b) c i h = tt

inners_more : (I : Inners) (o : Option ℕ) (c : Core) → InnersHave I → Parted c → InnersHave (I ++ inner I o c ∷ [])
inners_more I o c i h = all_append InnerHas I (inner I o c ∷ []) i (inner_has I o c i h, tt)

inners_have : (I : Inners) (rs : List Row) → InnersHave I → AllByRecursion RowHas rs → InnersHave (inners_from I rs)
inners_have I [] i h = i
inners_have I (r ∷ rs) i h =
    inners_have (I ++ inner I r.block r.body ∷ []) rs (inners_more I r.block r.body i h.0) h.1

rows_have : (I : Inners) (ss : List Statement) → InnersHave I → AllByRecursion StatementGood ss
    → AllByRecursion RowHas (E.rows I ss)
rows_have I [] i h = tt
rows_have I (s ∷ ss) i h =
    let c = core Plain (scope_at I s) s.body in
    let own = captured_has s.captures s.name c (core_has Plain (scope_at I s) s.body i h.0.form) in
    (own, rows_have (I ++ inner I s.block (body_of I s) ∷ []) ss (inners_more I s.block (body_of I s) i own) h.1)

-- the boundary and `halt`
first_have : (halt : List ℕ) → AllByRecursion RowHas (built_in halt)
first_have halt = (((tt, (tt, tt)), ((tt, (tt, tt)), (tt, (tt, ((tt, (tt, tt)), (tt, (tt, tt))))))), (tt, tt))

table_has : (p : Packages) → IsBuilt p → AllByRecursion RowHas (table_of p)
table_has p b =
    let first = first_have (halt_name p) in
    let I = inners_from [] (built_in (halt_name p)) in
    all_append RowHas (built_in (halt_name p)) (E.rows I (statements p)) first
    (rows_have I (statements p) (inners_have [] (built_in (halt_name p)) tt first)
    (statements_good p b))

each_has : (rs : List Row) → AllByRecursion RowHas rs → AllByRecursion (λ r. HasParts r.body) rs
each_has [] h = tt
each_has (r ∷ rs) h = (has_parts r.body h.0, each_has rs h.1)

pub tables_have_parts : TablesHaveParts
tables_have_parts p b =
    All-from_recursion (λ (r : Row). HasParts r.body) (table_of p) (each_has (table_of p) (table_has p b))

-- ---- a pattern

sought_good : (find : Bool) (x : Expr) → Good x → Good (sought find x)
sought_good true x h = (refl, h)
sought_good false x h = h

by_cut : (find : Bool) (s : List ℕ) (e : Expr) (r : Result (List Lexeme) LexFault) → ReadsCut find s r (Ok e) → Good e
by_cut find s e (Err f) h = absurd (cc)
by_cut find s e (Ok ts) h =
    subst Good (sym h.2) (sought_good find h.0 (reads_good (tokens_of s ts) h.0
    (sound (tokens_of s ts) h.0 h.1.reads)))

by_text : (fixed find : Bool) (s : List ℕ) (e : Expr) → ReadsText fixed find s (Ok e) → Good e
by_text true find s e h =
    let k : sought find (Text (chars s)) ≡ e = cc in subst Good k (sought_good find (Text (chars s)) tt)
by_text false find s e h = by_cut find s e (cut_of s) h

goal_good : (e : Expr) → IsGoal e → Good e
goal_good e g =
    elim (cases_lt max_text_bytes (length g.text)) [
      | inl long ↦ (let k = g.read.long long in absurd (cc))
      | inr short ↦ by_text g.fixed g.find g.text e (g.read.text short)
    ]

pub goals_have_parts : GoalsHaveParts
goals_have_parts p b rs e alike g =
    let I = inners_of rs in
    let i : InnersHave I = subst (λ x. InnersHave (inners_from [] x)) (sym alike)
    (inners_have [] (table_of p) tt (table_has p b)) in
    let s = scope_of p None I in
    has_parts (goal_of p I e) (captured_has _ _ (core Plain s e) (core_has Plain s e i (goal_good e g)))
