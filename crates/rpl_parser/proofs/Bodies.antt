-- The body of each rule of a module can be written.
use Rattle.std.proofs.Common.{ℕ, suc, List, [], ◌∷◌, ◌++◌, length, Option, Some, None, refl, sym, subst, arith}
use Rattle.std.specs.Prelude.{true, false, IsUtf8}
use Rattle.std.proofs.lemmas.List.{length-append}
use Rattle.rpl_lexer.specs.Cut.{IsCut}
use Rattle.rpl_lexer.specs.declared.token.Token.{Token as Lexeme}
use Rattle.rpl_lexer.proofs.Cuts.{tokens_stand}
use Rattle.rpl_syntax.specs.declared.token.Token.{Token}
use Rattle.rpl_syntax.specs.Modules.{Rule, ParsedModule}
use Rattle.rpl_syntax.specs.Texts.{Say}
use Rattle.rpl_syntax.proofs.Said.{All_fit, form_of, token_fit}
use Rattle.rpl_syntax.proofs.Held.{tree_held}
use Rattle.rpl_parser.specs.Bodies.{Written, RulesWritten, EntryWritten, BodiesWritten}
use Rattle.rpl_parser.specs.Order.{Placed, Title, Importing, Part, Alone, Whole, Halves, rule_lines, part_lines}
use Rattle.rpl_parser.specs.Order.{parts_lines, import_lines, title_lines, version_lines, outline_lines, part_entry}
use Rattle.rpl_parser.specs.Order.{part_entries, Stands, AreLines, IsModule}
use Rattle.rpl_parser.specs.Spelling as S
use Rattle.rpl_parser.specs.Spelling.{Line, Statement, spell_statement}
use Rattle.rpl_parser.specs.Tokens.{AllStand, tokens_of}
use Rattle.rpl_parser.specs.declared.walk.Numbered.{Numbered}
use Rattle.rpl_parser.proofs.Cutting.{take_all, drop_all}
use Rattle.rpl_parser.proofs.Told.{all_said}
use Rattle.rpl_parser.proofs.Walking.{stands_take, stands_drop}

-- what the tokens say can be written
fit : (s : List ℕ) (ls : List Lexeme) (ts : List Token) → IsUtf8 s → AllStand s ls → Say s ls ts → All_fit ts
fit s [] ts u h k = subst All_fit (sym k) tt
fit s (l ∷ ls) ts u h k =
    let t = h 0 l refl in
    subst All_fit (sym k.2) (
      token_fit l.kind s l k.0 u t (form_of s l t) k.3,
      fit s ls k.1 u (λ i r e. h (suc i) r e) k.4,
    )

-- ---- statements

abbrev LineWritten : Line → Type 0
LineWritten (S.Binds local alias name body) = Written body
LineWritten _ = Unit {0}

abbrev LinesWritten : List Placed → Type 0
LinesWritten [] = Unit {0}
LinesWritten (l ∷ ls) = LineWritten l.line × LinesWritten ls

statement_written : (t : Statement) → All_fit (spell_statement t) → LineWritten (S.line t)
statement_written (S.RplLine a b) f = tt
statement_written (S.PackageLine n at) f = tt
statement_written (S.ImportLine es) f = tt
statement_written (S.BindingLine true true n at e) f = tree_held e f.1.1.1.1
statement_written (S.BindingLine true false n at e) f = tree_held e f.1.1.1
statement_written (S.BindingLine false true n at e) f = tree_held e f.1.1.1
statement_written (S.BindingLine false false n at e) f = tree_held e f.1.1
statement_written (S.BoundaryLine e) f = tree_held e f.1.1
statement_written S.GrammarLine f = tt
statement_written S.InLine f = tt
statement_written S.EndLine f = tt

line_written : (s : List ℕ) (p : List Lexeme) (l : Placed) → IsUtf8 s → AllStand s p → Stands s p l → LineWritten l.line
line_written s p l u a h =
    let f = fit s p (tokens_of s p) u a (all_said s p h.good) in
    subst LineWritten (sym h.spelled.stands_for) (statement_written h.spelled.tree (subst All_fit h.spelled.spelled f))

front_stands : (s : List ℕ) (p q : List Lexeme) → AllStand s (p ++ q) → AllStand s p
front_stands s p q h =
    subst (AllStand s) (take_all p q) (stands_take s (p ++ q) (length p) (let l = length-append p q in
    omega (arith, l)) h)

back_stands : (s : List ℕ) (p q : List Lexeme) → AllStand s (p ++ q) → AllStand s q
back_stands s p q h = subst (AllStand s) (drop_all p q) (stands_drop s (p ++ q) (length p) h)

lines_written : (s : List ℕ) (ts : List Lexeme) (ls : List Placed) → IsUtf8 s → AllStand s ts
    → AreLines (Stands s) ts ls → LinesWritten ls
lines_written s ts [] u a h = tt
lines_written s ts (l ∷ ls) u a h =
    let b = subst (AllStand s) h.2 a in
    (line_written s h.0 l u (front_stands s h.0 h.1 b) h.3, lines_written s h.1 ls u (back_stands s h.0 h.1 b) h.4)

-- ---- modules

rules_written : (rs : List Rule) (q : List Placed) → LinesWritten (rule_lines rs q) → RulesWritten rs × LinesWritten q
rules_written [] q h = (tt, h)
rules_written (r ∷ rs) q h = let k = rules_written rs q h.1 in ((h.0, k.0), k.1)

part_written : (p : Part) (q : List Placed) → LinesWritten (part_lines p q) → EntryWritten (part_entry p)
    × LinesWritten q
part_written (Alone r) q h = (h.0, h.1)
part_written (Whole o vs c) q h = let k = rules_written vs _ h.1 in ((tt, k.0), k.1.1)
part_written (Halves o hs i vs c) q h =
    let j = rules_written hs _ h.1 in
    let k = rules_written vs _ j.1.1 in
    ((j.0, k.0), k.1.1)

parts_written : (ps : List Part) → LinesWritten (parts_lines ps) → BodiesWritten (part_entries ps)
parts_written [] h = tt
parts_written (p ∷ ps) h = let k = part_written p (parts_lines ps) h in (k.0, parts_written ps k.1)

past_imports : (is : List Importing) (q : List Placed) → LinesWritten (import_lines is q) → LinesWritten q
past_imports [] q h = h
past_imports (i ∷ is) q h = past_imports is q h.1

past_title : (o : Option Title) (q : List Placed) → LinesWritten (title_lines o q) → LinesWritten q
past_title None q h = h
past_title (Some t) q h = h.1

past_version : (o : Option Numbered) (q : List Placed) → LinesWritten (version_lines o q) → LinesWritten q
past_version None q h = h
past_version (Some v) q h = h.1

-- the body of each rule in a module of a UTF-8 text can be written
pub bodies_written : (s : List ℕ) (ts : List Lexeme) (m : ParsedModule) → IsUtf8 s → IsCut s ts → IsModule s ts m
    → BodiesWritten m.items
bodies_written s ts m u c h =
    let all = lines_written s ts (outline_lines h.tree) u (λ i t e. tokens_stand s ts i t c e) h.spelled in
    subst (λ n. BodiesWritten n.items) (sym h.stands_for)
    (parts_written h.tree.parts
    (past_imports h.tree.imports _ (past_title h.tree.title _ (past_version h.tree.version _ all))))
