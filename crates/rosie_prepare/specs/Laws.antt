-- Each request has one result, and only one.
use Rattle.std.specs.Prelude.{◌≡◌, ℕ, Bool, List}
use Rattle.rosie_prepare.specs.Prepared.{IsPrepared, OrLine, Ready, TablePasses, Tree, PatternRequest}
use Rattle.rpl_names.specs.Goals.{ReadsGoal}
use Rattle.rpl_names.specs.Loading.{world}
use Rattle.rpl_names.specs.Roots.{Packages, load}
use Rattle.rpl_names.specs.declared.roots.Root.{Root}
use Rattle.rpl_scope.specs.Faults.{Or}
use Rattle.rpl_syntax.specs.Expression.{Expr}

-- over a tree of files it comes to one answer, and the same paths are asked for on the way
abbrev pub OnePreparation : Type 0
OnePreparation =
    (tree : Tree) (w : PatternRequest) (asked paths : List (List ℕ)) (r s : OrLine Ready)
    → IsPrepared tree w asked r → IsPrepared tree w paths s → (asked ≡ paths) × (r ≡ s)

-- and there is one: the relation leaves nothing out
abbrev pub SomePreparation : Type 0
SomePreparation =
    (tree : Tree) (w : PatternRequest) → (asked : List (List ℕ)) × (r : OrLine Ready) × IsPrepared tree w asked r

-- a pattern's text, as a literal or not, and looked for or not, is read as one thing
abbrev pub OneReading : Type 0
OneReading =
    (fixed find : Bool) (text : List ℕ) (r s : Or Expr)
    → ReadsGoal fixed find text r → ReadsGoal fixed find text s → r ≡ s

-- and there is one
abbrev pub SomeReading : Type 0
SomeReading = (fixed find : Bool) (text : List ℕ) → (r : Or Expr) × ReadsGoal fixed find text r

-- over a tree of files roots alone come to one answer
abbrev pub OneTable : Type 0
OneTable =
    (tree : Tree) (folders : List (List ℕ)) (roots : List Root) (r s : OrLine Packages)
    → TablePasses (load (world tree folders) roots).answer r → TablePasses (load (world tree folders) roots).answer s
    → r ≡ s

-- and there is one
abbrev pub SomeTable : Type 0
SomeTable =
    (tree : Tree) (folders : List (List ℕ)) (roots : List Root)
    → (r : OrLine Packages) × TablePasses (load (world tree folders) roots).answer r
