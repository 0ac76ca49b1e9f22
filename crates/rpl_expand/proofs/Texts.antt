-- What the texts that are read say: no block has a boundary; no name of a rule, no package name and no path or prefix
-- of an import has a dot or a space; the body of each rule is of the form of a reading; no text in it is longer than a
-- text may be, and no name; and no star is the package name of a text or stands last in the path of an import.
use Rattle.std.proofs.Common.{◌≡◌, ◌≢◌, ◌≤◌, ℕ, List, [], ◌∷◌, ◌++◌, length, Option, Some, None, sym, ap, subst, refl}
use Rattle.std.proofs.Common.{◌∙◌, arith}
use Rattle.std.specs.Prelude.{Bool, true, false, nat_lt, if◌then◌else◌, IsUtf8, Result, Ok, Err}
use Rattle.std.specs.List.{AllByRecursion}
use Rattle.std.specs.Str.{is_utf8}
use Rattle.std.proofs.lemmas.Bool.Decides.{nat_tests}
use Rattle.std.proofs.lemmas.List.{length-append}
use Rattle.std.proofs.lemmas.List.Elements.{All-contains, All-from_recursion}
use Rattle.std.proofs.lemmas.Str.{IsUtf8-from_is_utf8}
use Rattle.rpl_lexer.specs.Cut.{IsCut}
use Rattle.rpl_lexer.specs.Cutting.{cut_of}
use Rattle.rpl_lexer.specs.Forms.{IsName, is_name}
use Rattle.rpl_lexer.specs.declared.fault.LexFault.{LexFault}
use Rattle.rpl_lexer.specs.declared.punct.Punct.TheVariants.{Comma}
use Rattle.rpl_lexer.specs.declared.token.Token.{Token as Lexeme}
use Rattle.rpl_lexer.proofs.Computing.{cut_found}
use Rattle.rpl_lexer.proofs.Cuts.{tokens_stand}
use Rattle.rpl_syntax.specs.Expression.{Expr}
use Rattle.rpl_syntax.specs.Grammar.{Exp, spell_exp}
use Rattle.rpl_syntax.specs.Modules.{Rule, Entry, One, Block, ParsedModule}
use Rattle.rpl_syntax.specs.Readable.{Good}
use Rattle.rpl_syntax.specs.declared.module.Import.{Import}
use Rattle.rpl_syntax.specs.declared.module.ImportAs.{ImportAs}
use Rattle.rpl_syntax.specs.declared.module.ImportAs.TheVariants as A
use Rattle.rpl_syntax.specs.declared.name.QName.{QName}
use Rattle.rpl_syntax.specs.declared.token.Token.{Token}
use Rattle.rpl_syntax.specs.declared.token.Token.TheVariants as T
use Rattle.rpl_parser.specs.Bodies.{BodiesWritten, EntryWritten, RulesWritten}
use Rattle.rpl_parser.specs.Order.{Placed, Title, Importing, Part, Alone, Whole, Halves, NoneLocal, LocalOutside}
use Rattle.rpl_parser.specs.Order.{AllLocalOutside, rule_lines, part_lines, parts_lines, import_lines, title_lines}
use Rattle.rpl_parser.specs.Order.{version_lines, outline_lines, part_entry, part_entries, Stands, AreLines, IsModule}
use Rattle.rpl_parser.specs.Order.{all_imports, title_name}
use Rattle.rpl_parser.specs.Spelling as S
use Rattle.rpl_parser.specs.Spelling.{Line, Statement, spell_statement, Path, As, Entries, spell_path, spell_as}
use Rattle.rpl_parser.specs.Spelling.{spell_entries, path_text, import_as, entries, whole_expr}
use Rattle.rpl_parser.specs.Tokens.{AllStand, tokens_of}
use Rattle.rpl_parser.specs.Walks.{module_of}
use Rattle.rpl_parser.specs.declared.fault.ParseFault.{ParseFault}
use Rattle.rpl_parser.specs.declared.walk.Numbered.{Numbered}
use Rattle.rpl_parser.proofs.Bodies.{bodies_written}
use Rattle.rpl_parser.proofs.Cutting.{take_all, drop_all}
use Rattle.rpl_parser.proofs.Modules.{module_sound}
use Rattle.rpl_parser.proofs.Told.{all_said}
use Rattle.rpl_parser.proofs.Walking.{stands_take, stands_drop}
use Rattle.rpl_scope.specs.Faults.{fault}
use Rattle.rpl_scope.specs.Packages.{Rule as Scoped}
use Rattle.rpl_scope.specs.Statements.{block_rules, rules_of}
use Rattle.rpl_scope.specs.declared.fault.LoadKind.TheVariants.{FileTooLong, NotText}
use Rattle.rpl_names.specs.Loading.{label_of}
use Rattle.rpl_names.specs.Tables.{boundary_name}
use Rattle.rpl_names.specs.Texts.{of_cut, of_parse, parsed, max_text_bytes}
use Rattle.rpl_names.specs.Built.{IsSaid, IsAsked, by_text, by_goal}
use Rattle.rpl_expand.specs.Fitting.{FitsExpr, FitExprs, IsWithin}
use Rattle.rpl_expand.proofs.Asked.{goal_path}
use Rattle.rpl_expand.proofs.Entering.{AreUnmarked, IsPlainEntry, ArePlainEntries}
use Rattle.rpl_expand.proofs.FullNames.{AreUnbroken, AreUnbrokenEntries, IsUnbroken, IsUnbrokenEntry, mark_unbroken}
use Rattle.rpl_expand.proofs.FullNames.{star}
use Rattle.rpl_expand.proofs.Fitting.{All_fit, Fits_token, fits_closed, tokens_fit}
use Rattle.rpl_expand.proofs.Lists.{all_append}
use Rattle.rpl_expand.proofs.Spelled.{tree_has}
use Rattle.rpl_expand.proofs.Under.{AllMake, BringsUnbroken}
use Rattle.rpl_expand.proofs.Words.{All_named, IsPath, IsShortName, all_named, last_unbroken, name_path}
use Rattle.rpl_expand.proofs.Words.{name_unbroken, name_within, no_star, under_path}

-- ---- imports

abbrev pub IsUnbrokenAs : ImportAs → Type 0
IsUnbrokenAs A.Last = Unit {0}
IsUnbrokenAs (A.Named p) = IsUnbroken p
IsUnbrokenAs A.Plain = Unit {0}

pub record ImportIs (i : Import) : Type 0 where
  pub path : IsPath i.path
  pub name : IsUnbrokenAs i.name

record Path_is (p : Path) (r : List Token) : Type 0 where
  path : IsPath (path_text p)
  rest : All_named r

path_is : (p : Path) (r : List Token) → All_named (spell_path p r) → Path_is p r
path_is (S.Last n at) r f = record { path = name_path n f.0; rest = f.1 }
path_is (S.Under n at p) r f =
    let k = path_is p r f.1.1 in record { path = under_path n (path_text p) f.0 k.path; rest = k.rest }

as_rest : (a : As) (r : List Token) → All_named (spell_as a r) → IsUnbrokenAs (import_as a) × All_named r
as_rest S.NoAs r f = (tt, f)
as_rest (S.AsName n at) r f = (name_unbroken n false f.1.0.name, f.1.1)
as_rest S.AsDot r f = (tt, f.1.1)

entries_are : (es : Entries) → All_named (spell_entries es) → AllByRecursion ImportIs (entries es)
entries_are (S.Single p a) f =
    let k = path_is p (spell_as a []) f in (record { path = k.path; name = (as_rest a [] k.rest).0 }, tt)
entries_are (S.More p a es) f =
    let r = T.Sign Comma ∷ spell_entries es in
    let k = path_is p (spell_as a r) f in
    let j = as_rest a r k.rest in
    (record { path = k.path; name = j.0 }, entries_are es j.1.1)

-- ---- a statement

not_mark : (n : List ℕ) → IsName n false → n ≢ boundary_name
not_mark n h e = let k : is_name boundary_name ≡ true = subst (λ x. is_name x ≡ true) e h.name in absurd (cc)

-- it may be a package name
pub record IsTitle (n : List ℕ) : Type 0 where
  pub no_star : n ≢ star
  pub unbroken : IsUnbroken n
  pub within : IsWithin max_text_bytes n

record Binding_is (local : Bool) (name : List ℕ) (body : Expr) : Type 0 where
  unmarked : local ≡ false → name ≢ boundary_name
  unbroken : IsUnbroken name
  within : IsWithin max_text_bytes name
  fits : FitsExpr body

abbrev LinePlain : Line → Type 0
LinePlain (S.Binds local alias name body) = Binding_is local name body
LinePlain (S.Package name) = IsTitle name
LinePlain (S.Imports es) = AllByRecursion ImportIs es
LinePlain _ = Unit {0}

abbrev LinesPlain : List Placed → Type 0
LinesPlain [] = Unit {0}
LinesPlain (l ∷ ls) = LinePlain l.line × LinesPlain ls

body_fits : (e : Exp) → All_fit (spell_exp e []) → FitsExpr (whole_expr e)
body_fits e g = tree_has Fits_token FitsExpr FitExprs fits_closed e g

binding : (local : Bool) (n : List ℕ) (e : Exp) → IsShortName n → All_fit (spell_exp e [])
    → Binding_is local n (whole_expr e)
binding local n e h g = record {
  unmarked = λ _. not_mark n h.name;
  unbroken = name_unbroken n false h.name;
  within = name_within n h;
  fits = body_fits e g;
}

statement_plain : (t : Statement) → All_named (spell_statement t) → All_fit (spell_statement t) → LinePlain (S.line t)
statement_plain (S.RplLine a b) f g = tt
statement_plain (S.PackageLine n at) f g = record {
  no_star = no_star n false f.1.0.name;
  unbroken = name_unbroken n false f.1.0.name;
  within = name_within n f.1.0;
}
statement_plain (S.ImportLine es) f g = entries_are es f.1
statement_plain (S.BindingLine true true n at e) f g = binding true n e f.1.1.0 g.1.1.1.1
statement_plain (S.BindingLine true false n at e) f g = binding true n e f.1.0 g.1.1.1
statement_plain (S.BindingLine false true n at e) f g = binding false n e f.1.0 g.1.1.1
statement_plain (S.BindingLine false false n at e) f g = binding false n e f.0 g.1.1
statement_plain (S.BoundaryLine e) f g = record {
  unmarked = λ h. absurd (cc);
  unbroken = mark_unbroken;
  within = (refl, omega arith);
  fits = body_fits e g.1.1;
}
statement_plain S.GrammarLine f g = tt
statement_plain S.InLine f g = tt
statement_plain S.EndLine f g = tt

front_stands : (s : List ℕ) (p q : List Lexeme) → AllStand s (p ++ q) → AllStand s p
front_stands s p q h = subst (AllStand s) (take_all p q)
    (stands_take s (p ++ q) (length p) (let l = length-append p q in omega (arith, l)) h)

back_stands : (s : List ℕ) (p q : List Lexeme) → AllStand s (p ++ q) → AllStand s q
back_stands s p q h = subst (AllStand s) (drop_all p q) (stands_drop s (p ++ q) (length p) h)

module _ (s : List ℕ) (utf8 : IsUtf8 s) (short : length s ≤ max_text_bytes) where
  line_plain : (p : List Lexeme) (l : Placed) → AllStand s p → Stands s p l → LinePlain l.line
  line_plain p l a h =
      let said = all_said s p h.good in
      let f = subst All_named h.spelled.spelled (all_named s short p (tokens_of s p) a said) in
      let g = subst All_fit h.spelled.spelled (tokens_fit s utf8 short p (tokens_of s p) a said) in
      subst LinePlain (sym h.spelled.stands_for) (statement_plain h.spelled.tree f g)

  lines_plain : (ts : List Lexeme) (ls : List Placed) → AllStand s ts → AreLines (Stands s) ts ls → LinesPlain ls
  lines_plain ts [] a h = tt
  lines_plain ts (l ∷ ls) a h =
      let b = subst (AllStand s) h.2 a in
      (line_plain h.0 l (front_stands s h.0 h.1 b) h.3, lines_plain h.1 ls (back_stands s h.0 h.1 b) h.4)

-- ---- modules

-- what is said of the binding of a rule
abbrev Rule_is : Rule → Type 0
Rule_is r = Binding_is r.local r.name r.body

rules_are : (rs : List Rule) (q : List Placed) → LinesPlain (rule_lines rs q)
    → AllByRecursion Rule_is rs × LinesPlain q
rules_are [] q h = (tt, h)
rules_are (r ∷ rs) q h = let k = rules_are rs q h.1 in ((h.0, k.0), k.1)

-- and of those of a statement
abbrev Entry_is : Entry → Type 0
Entry_is (One r) = Rule_is r
Entry_is (Block hs vs) = AllByRecursion Rule_is hs × AllByRecursion Rule_is vs

part_is : (p : Part) (q : List Placed) → LinesPlain (part_lines p q) → Entry_is (part_entry p) × LinesPlain q
part_is (Alone r) q h = (h.0, h.1)
part_is (Whole o vs c) q h = let k = rules_are vs _ h.1 in ((tt, k.0), k.1.1)
part_is (Halves o hs i vs c) q h =
    let j = rules_are hs _ h.1 in
    let k = rules_are vs _ j.1.1 in
    ((j.0, k.0), k.1.1)

parts_are : (ps : List Part) → LinesPlain (parts_lines ps) → AllByRecursion Entry_is (part_entries ps)
parts_are [] h = tt
parts_are (p ∷ ps) h = let k = part_is p (parts_lines ps) h in (k.0, parts_are ps k.1)

rules_unmarked : (rs : List Rule) → NoneLocal rs → AllByRecursion Rule_is rs → AreUnmarked rs
rules_unmarked [] n h = tt
rules_unmarked (r ∷ rs) n h = (h.0.unmarked n.0, rules_unmarked rs n.1 h.1)

part_plain : (p : Part) → LocalOutside p → Entry_is (part_entry p) → IsPlainEntry (part_entry p)
part_plain (Alone r) n h = tt
part_plain (Whole o vs c) n h = (tt, rules_unmarked vs n h.1)
part_plain (Halves o hs i vs c) n h = (rules_unmarked hs n.0 h.0, rules_unmarked vs n.1 h.1)

parts_plain : (ps : List Part) → AllLocalOutside ps → AllByRecursion Entry_is (part_entries ps)
    → ArePlainEntries (part_entries ps)
parts_plain [] n h = tt
parts_plain (p ∷ ps) n h = (part_plain p n.0 h.0, parts_plain ps n.1 h.1)

rules_unbroken : (rs : List Rule) → AllByRecursion Rule_is rs → AreUnbroken rs
rules_unbroken [] h = tt
rules_unbroken (r ∷ rs) h = (h.0.unbroken, rules_unbroken rs h.1)

entry_unbroken : (e : Entry) → Entry_is e → IsUnbrokenEntry e
entry_unbroken (One r) h = h.unbroken
entry_unbroken (Block hs vs) h = (rules_unbroken hs h.0, rules_unbroken vs h.1)

entries_unbroken : (es : List Entry) → AllByRecursion Entry_is es → AreUnbrokenEntries es
entries_unbroken [] h = tt
entries_unbroken (e ∷ es) h = (entry_unbroken e h.0, entries_unbroken es h.1)

imports_are : (is : List Importing) (q : List Placed) → LinesPlain (import_lines is q)
    → AllByRecursion ImportIs (all_imports is) × LinesPlain q
imports_are [] q h = (tt, h)
imports_are (i ∷ is) q h =
    let k = imports_are is q h.1 in (all_append ImportIs i.entries (all_imports is) h.0 k.0, k.1)

past_title : (o : Option Title) (q : List Placed) → LinesPlain (title_lines o q)
    → ((n : QName) → title_name o ≡ Some n → IsTitle n.name) × LinesPlain q
past_title None q h = (λ n e. absurd (cc), h)
past_title (Some t) q h = (λ n e. (let k : t.name ≡ n.name = cc in subst IsTitle k h.0), h.1)

past_version : (o : Option Numbered) (q : List Placed) → LinesPlain (version_lines o q) → LinesPlain q
past_version None q h = h
past_version (Some v) q h = h.1

-- each rule that they make: its body is of the form of a reading, and what it says is not too long
pub record RuleGood (r : Scoped) : Type 0 where
  pub name : IsWithin max_text_bytes r.name
  pub fits : FitsExpr r.body
  pub form : Good r.body

block_good : (k start : ℕ) (hidden : Bool) (bs : List Rule) → AllByRecursion Rule_is bs → RulesWritten bs
    → AllByRecursion RuleGood (block_rules k start hidden bs)
block_good k start hidden [] g h = tt
block_good k start hidden (b ∷ bs) g h =
    (record { name = g.0.within; fits = g.0.fits; form = h.0.0 }, block_good k start hidden bs g.1 h.1)

entry_good : (k n : ℕ) (e : Entry) → Entry_is e → EntryWritten e → AllByRecursion RuleGood (rules_of k n e)
entry_good k n (One b) g h = (record { name = g.within; fits = g.fits; form = h.0 }, tt)
entry_good k n (Block hs vs) g h =
    all_append RuleGood (block_rules k n true hs) (block_rules k n false vs) (block_good k n true hs g.0 h.0)
    (block_good k n false vs g.1 h.1)

entries_good : (k : ℕ) (es : List Entry) → AllByRecursion Entry_is es → BodiesWritten es → AllMake RuleGood k es
entries_good k [] g h = tt
entries_good k (e ∷ es) g h = (λ n. entry_good k n e g.0 h.0, entries_good k es g.1 h.1)

-- what is known of all that is read
pub record IsPlain (t : ParsedModule) : Type 0 where
  pub good : (k : ℕ) → AllMake RuleGood k t.items
  pub unmarked : ArePlainEntries t.items
  pub unbroken : AreUnbrokenEntries t.items
  pub title : (n : QName) → t.name ≡ Some n → IsTitle n.name
  pub imports : AllByRecursion ImportIs t.imports

-- ---- texts

module _ (s : List ℕ) (utf8 : IsUtf8 s) (short : length s ≤ max_text_bytes) where
  module_plain : (ts : List Lexeme) (m : ParsedModule) → IsCut s ts → IsModule s ts m → IsPlain m
  module_plain ts m c h =
      let all = lines_plain s utf8 short ts (outline_lines h.tree) (λ i t e. tokens_stand s ts i t c e) h.spelled in
      let title = past_title h.tree.title _ (past_version h.tree.version _ all) in
      let imports = imports_are h.tree.imports _ title.1 in
      let rules = parts_are h.tree.parts imports.1 in
      let whole = subst (λ y. BodiesWritten y.items) h.stands_for (bodies_written s ts m utf8 c h) in
      subst IsPlain (sym h.stands_for) (record {
        good = λ k. entries_good k _ rules whole;
        unmarked = parts_plain h.tree.parts h.blocks rules;
        unbroken = entries_unbroken _ rules;
        title = title.0;
        imports = imports.0;
      })

  by_parse : (f : List ℕ) (ts : List Lexeme) (t : ParsedModule) (r : Result ParsedModule ParseFault) → IsCut s ts
      → module_of s ts ≡ r → of_parse f r ≡ Ok t → IsPlain t
  by_parse f ts t (Ok x) c e h = let k : x ≡ t = cc in module_plain ts t c (module_sound s ts t (e ∙ ap Ok k))
  by_parse f ts t (Err x) c e h = absurd (cc)

  by_cut : (f : List ℕ) (t : ParsedModule) (r : Result (List Lexeme) LexFault) → cut_of s ≡ r
      → of_cut f (module_of s) r ≡ Ok t → IsPlain t
  by_cut f t (Ok ts) e h = by_parse f ts t (module_of s ts) (cut_found s ts e) refl h
  by_cut f t (Err x) e h = absurd (cc)

by_form : (b : Bool) (f s : List ℕ) (t : ParsedModule) → length s ≤ max_text_bytes → is_utf8 s ≡ b
    → (if b then parsed f s else fault f 0 NotText) ≡ Ok t → IsPlain t
by_form true f s t n e h = by_cut s (IsUtf8-from_is_utf8 s e) n f t (cut_of s) refl h
by_form false f s t n e h = absurd (cc)

by_size : (b : Bool) (f s : List ℕ) (t : ParsedModule) → nat_lt max_text_bytes (length s) ≡ b
    → (if b then fault f 0 FileTooLong else if is_utf8 s then parsed f s else fault f 0 NotText) ≡ Ok t → IsPlain t
by_size true f s t e h = absurd (cc)
by_size false f s t e h =
    let short : length s ≤ max_text_bytes = grind (arith, nat_tests, e) in by_form (is_utf8 s) f s t short refl h

pub plain_text : (t : ParsedModule) → IsSaid t → IsPlain t
plain_text t h = by_size (nat_lt max_text_bytes (length h.bytes)) h.file h.bytes t refl h.read

-- ---- package names

asked_is : (i : Import) → IsAsked i → ImportIs i
asked_is i (by_text t is c) =
    All-contains ImportIs t.imports i (All-from_recursion ImportIs t.imports (plain_text t is).imports) c
asked_is i (by_goal q g p last) = record { path = goal_path q i.path g p; name = subst IsUnbrokenAs (sym last) tt }

-- a path that is asked for is unbroken, and so is the prefix that it brings
pub asked_path : (i : Import) → IsAsked i → IsUnbroken i.path
asked_path i a = (asked_is i a).path.unbroken

brings_by : (a : ImportAs) (path : List ℕ) → IsUnbroken path → IsUnbrokenAs a → BringsUnbroken a path
brings_by A.Last path h k = last_unbroken [] path tt h
brings_by (A.Named p) path h k = k
brings_by A.Plain path h k = tt

pub asked_brings : (i : Import) → IsAsked i → BringsUnbroken i.name i.path
asked_brings i a = let k = asked_is i a in brings_by i.name i.path k.path.unbroken k.name

by_title : (o : Option QName) (path : List ℕ) → ((n : QName) → o ≡ Some n → IsTitle n.name) → IsPath path
    → (label_of o path ≢ star) × IsWithin max_text_bytes (label_of o path)
by_title None path f k = (k.ends, k.within)
by_title (Some q) path f k = ((f q refl).no_star, (f q refl).within)

label_is : (t : ParsedModule) (i : Import) → IsSaid t → IsAsked i
    → (label_of t.name i.path ≢ star) × IsWithin max_text_bytes (label_of t.name i.path)
label_is t i is a = by_title t.name i.path (plain_text t is).title (asked_is i a).path

-- that of an imported text is no star
pub label_plain : (t : ParsedModule) (i : Import) → IsSaid t → IsAsked i → label_of t.name i.path ≢ star
label_plain t i is a = (label_is t i is a).0

-- and no longer than a text may be
pub label_within : (t : ParsedModule) (i : Import) → IsSaid t → IsAsked i
    → IsWithin max_text_bytes (label_of t.name i.path)
label_within t i is a = (label_is t i is a).1
