-- What holds for all words, and for `compile` and `match` together.
use Rattle.std.specs.Prelude.{◌≡◌, ◌≤◌, ℕ, true, List, Ok, Some, IsUtf8, length}
use Rattle.std.specs.List.{All}
use Rattle.std.specs.Str.{all_scalars}
use Rattle.rosie_jobs.specs.Loaded.{max_code_bytes}
use Rattle.rosie_io.specs.Opening.{file_of}
use Rattle.rosie_jobs.specs.Makers.{RunsCode}
use Rattle.rosie_words.specs.declared.settings.Settings.{Settings}
use Rattle.rosie_prepare.specs.Prepared.{IsPrepared, Ready, Tree, PatternRequest, bodies}
use Rattle.rosie_words.specs.Table.{Word}
use Rattle.rosie_words.specs.declared.command.What.{What}
use Rattle.rosie_words.specs.declared.command.What.TheVariants as W
use Rattle.rpl_core.specs.Instr.{Instr}
use Rattle.rpl_core.specs.Programs.{IsCode}
use Rattle.rosie_cli.specs.Planned.{IsCodeLines, IsPlanned, IsRunning, input_names, matching, IsCompiled}
use Rattle.rosie_cli.specs.Plans.{Plan, Planned, RunsOnInputs, Writes, report}
use Rattle.rosie_cli.specs.Promises.{IsPromised, SpellsSafe}
use Rattle.rosie_cli.specs.Words.{CommandLine, Refuse, Do, command_line}

-- over each tree of files the words have only one plan, with the same paths asked for on the way
abbrev pub OnePlan : Type 0
OnePlan = (a : CommandLine) (tree : Tree) (p q : Planned) → IsPlanned a tree p → IsPlanned a tree q → p ≡ q

-- The pattern given to `compile` consists of characters, as each string does. No other command needs this: only a code
-- file encodes the texts of a pattern in UTF-8.
abbrev pub HasCharacters : What → Type 0
HasCharacters (W.Compile pattern) = all_scalars pattern ≡ true
HasCharacters _ = Unit {0}

abbrev pub CompilesCharacters : CommandLine → Type 0
CompilesCharacters (Refuse text) = Unit {0}
CompilesCharacters (Do c) = HasCharacters c.what

-- and then the words have a plan
abbrev pub SomePlan : Type 0
SomePlan = (a : CommandLine) (tree : Tree) → CompilesCharacters a → (p : Planned) × IsPlanned a tree p

-- so all words that are UTF-8, as strings are, have one
abbrev pub WordsHavePlans : Type 0
WordsHavePlans =
    (words : List Word) (tree : Tree) → All IsUtf8 words → (p : Planned) × IsPlanned (command_line words) tree p

-- no line and no test of their plan is reported to exceed a budget that is large enough for it, the goal of each has a
-- meaning on every text, and code that is written as a file is safe
abbrev pub PromiseLaw : Type 0
PromiseLaw = (a : CommandLine) (tree : Tree) (p : Planned) → IsPlanned a tree p → IsPromised p.plan

-- what `compile` writes for a pattern encodes safe code
abbrev pub SafeLaw : Type 0
SafeLaw =
    (w : PatternRequest) (tree : Tree) (p : Planned) (bytes : List ℕ) → IsCompiled w tree p → p.plan ≡ Writes bytes
    → SpellsSafe bytes

-- the plan runs the code of what is wanted, over the tree where that was compiled
abbrev pub RunsItsCode : PatternRequest → Tree → (asked : List (List ℕ)) → Settings → List (List ℕ) → Plan → Type 0
RunsItsCode w tree asked s names plan =
    (r : Ready) × (code : List Instr) × IsPrepared tree w asked (Ok r) × IsCode (bodies r.rules) r.goal code
    × (plan ≡ RunsOnInputs (RunsCode s code) s.whole names)

-- `match` runs the bytes that `compile` writes for a pattern as the code of that pattern, wherever the file with these
-- bytes is, unless they are too long for a code file.
abbrev pub RunsWhatIsCompiled : Type 0
RunsWhatIsCompiled =
    (w : PatternRequest) (tree : Tree) (p : Planned) (bytes : List ℕ) → IsCompiled w tree p → p.plan ≡ Writes bytes
    → length bytes ≤ max_code_bytes
    → (s : Settings) (path : List ℕ) (names : List (List ℕ)) (there : Tree) (q : Planned)
    → file_of path there ≡ Some bytes → IsCodeLines s path names there q → RunsItsCode w tree p.asked s names q.plan

-- So `match` with that file and `match` with the pattern have the same report, whatever the files and the standard
-- input are then.
abbrev pub HaveOneReport : Type 0
HaveOneReport =
    (w : PatternRequest) (tree : Tree) (c : Planned) (bytes : List ℕ) → IsCompiled w tree c → c.plan ≡ Writes bytes
    → length bytes ≤ max_code_bytes
    → (s : Settings) (inputs : List (List ℕ)) (p : Planned) → IsRunning (matching s inputs) w tree p
    → (path : List ℕ) (there : Tree) (q : Planned) → file_of path there ≡ Some bytes
    → IsCodeLines s path (input_names inputs) there q
    → (files : Tree) (input : List ℕ) → report q.plan files input ≡ report p.plan files input
