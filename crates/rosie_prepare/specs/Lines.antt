-- The line for each fault of loading, expansion, check and compilation.
use Rattle.std.specs.Prelude.{ℕ, List, [], ◌∷◌, ◌++◌, Option, Some, codes, encode_utf8_all, flat_map, slice_get}
use Rattle.std.specs.Option.{option_and_then, option_map_or}
use Rattle.rosie_prepare.specs.Texts.{load_text, cause_text}
use Rattle.rosie_run.specs.Lines.{input_fault, line_fault}
use Rattle.rpl_check.specs.Faults as C
use Rattle.rpl_expand.specs.Faults as E
use Rattle.rpl_names.specs.Roots.{Packages}
use Rattle.rpl_names.specs.Targets.{Head, head, spot}
use Rattle.rpl_scope.specs.declared.fault.LoadFault.{LoadFault}
use Rattle.rpl_scope.specs.declared.fault.LoadKind.{LoadKind}
use Rattle.rpl_scope.specs.declared.fault.LoadKind.TheVariants.{RootMissing, ReadFault}

abbrev pub Line : Type 0
Line = List ℕ

-- a file that can't be read is reported alone; any other fault stands at a place of its text
abbrev pub line_at : (file : List ℕ) → (at : ℕ) → LoadKind → Line
line_at file at RootMissing = input_fault file (load_text RootMissing)
line_at file at ReadFault = input_fault file (load_text ReadFault)
line_at file at kind = line_fault file at (load_text kind)

abbrev pub load_line : LoadFault → Line
load_line f = line_at (encode_utf8_all f.file) f.at f.kind

-- ---- faults of rules and of the pattern; where no rule is named it is the pattern

abbrev pub pattern_line : List ℕ → Line
pattern_line text = line_fault (codes "(pattern)") 0 text

-- the full name of a rule, or `*` for the pattern
abbrev pub rule_name : Packages → Option ℕ → List ℕ
rule_name p rule = option_map_or (λ (h : Head). encode_utf8_all h.name) (option_and_then (head p) rule) (codes "*")

-- the line of a fault at the first token of a rule's statement, or at the pattern
abbrev pub rule_line : Packages → Option ℕ → List ℕ → Line
rule_line p rule text =
    let line = λ (s : List ℕ × ℕ). line_fault (encode_utf8_all s.0) s.1 text in
    option_map_or line (option_and_then (spot p) rule) (pattern_line text)

-- rules by their names, one space apart
abbrev pub rule_names : Packages → List ℕ → List ℕ
rule_names p [] = []
rule_names p (r ∷ rs) = rule_name p (Some r) ++ flat_map (λ s. 32 ∷ rule_name p (Some s)) rs

-- a rule, or the pattern, is too large
abbrev pub expand_line : Packages → E.Fault → Line
expand_line p (E.TooLarge rule size depth) = rule_line p rule (codes "too large: " ++ rule_name p rule)

-- a bad look-behind, for this cause
abbrev pub behind_line : Packages → Option ℕ → (cause : List ℕ) → Line
behind_line p rule cause = rule_line p rule (codes "look-behind in " ++ (rule_name p rule ++ (codes ": " ++ cause)))

-- rules that call themselves before a character is taken; the first that is listed has the place
abbrev pub recursion_line : Packages → List ℕ → Line
recursion_line p rules = rule_line p (slice_get rules 0) (codes "left recursion in " ++ rule_names p rules)

-- what the check finds
abbrev pub check_line : Packages → C.Fault → Line
check_line p (C.LookBehind rule cause) = behind_line p rule (cause_text cause)
check_line p (C.LeftRecursion rules) = recursion_line p rules
check_line p (C.EmptyLoop rule) = rule_line p rule (codes "empty loop in " ++ rule_name p rule)
check_line p (C.HaltInside rule) = rule_line p rule (codes "halt under a predicate in " ++ rule_name p rule)

-- the code of the pattern is too long
abbrev pub compile_line : Line
compile_line = pattern_line (codes "code too long")
