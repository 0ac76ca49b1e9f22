-- How far a call came: its answer, and the paths that were asked to be opened before it and after it.
use Rattle.std.specs.Prelude.{◌≡◌, ℕ, List, ◌++◌, Result, Ok, Err}
use Rattle.rpl_scope.specs.declared.fault.LoadFault.{LoadFault}
use Rattle.rpl_scope.specs.declared.fault.LoadKind.{LoadKind}
use Rattle.rpl_scope.specs.declared.fault.LoadKind.TheVariants.{NoMemory, ReadFault}
use Rattle.rpl_scope.specs.declared.fault.Stop.{Stop}
use Rattle.rpl_scope.specs.declared.fault.Stop.TheVariants.{Memory, Fault}
use Rattle.rpl_package.specs.Asking.{Outcome, IsFront, EndsWith, in_bytes}

-- ---- how a call may stop

-- with this fault, when the paths ps were asked for: a read fails of the last of them, and any other fault is the first
-- one, which comes when all the paths were asked for
abbrev pub FaultAfter : {A : Type 0} → LoadKind → LoadFault → Outcome A → (ps : List (List ℕ)) → Type 0
FaultAfter NoMemory f o ps = IsFront ps o.asked
FaultAfter ReadFault f o ps = IsFront ps o.asked × EndsWith f.file ps
FaultAfter _ f o ps = (o.answer ≡ Err f) × (ps ≡ o.asked)

abbrev pub StopsAfter : {A : Type 0} → Stop → Outcome A → (ps : List (List ℕ)) → Type 0
StopsAfter Memory o ps = IsFront ps o.asked
StopsAfter (Fault f) o ps = FaultAfter f.kind f o ps

-- the paths that were asked for in it, and how it stops then
pub record MayStop {A : Type 0} (before now : List (List ℕ)) (s : Stop) (o : Outcome A) : Type 0 where
  pub paths : List (List ℕ)
  pub asked : now ≡ before ++ in_bytes paths
  pub stops : StopsAfter s o paths

-- ---- what comes of a call

-- this is the answer, and all the paths were asked for
pub record Comes {A : Type 0} (before now : List (List ℕ)) (x : A) (o : Outcome A) : Type 0 where
  pub answer : o.answer ≡ Ok x
  pub asked : now ≡ before ++ in_bytes o.asked

-- what came of a call, as it is seen, is the answer; or the call stops as it may
abbrev pub Walks : {X A : Type 0} → (before now : List (List ℕ)) → (X → A) → Result X Stop → Outcome A → Type 0
Walks before now view (Ok x) o = Comes before now (view x) o
Walks before now view (Err s) o = MayStop before now s o

-- ---- the search for a file

-- all the paths were asked for; or the call stops as it may
abbrev pub Searches : {X A : Type 0} → (before now : List (List ℕ)) → Result X Stop → Outcome A → Type 0
Searches before now (Ok x) o = now ≡ before ++ in_bytes o.asked
Searches before now (Err s) o = MayStop before now s o

-- a call that stops for a failed read stops for this path
abbrev pub KindFor : LoadKind → LoadFault → List ℕ → Type 0
KindFor ReadFault f path = f.file ≡ path
KindFor _ f path = Unit {0}

abbrev pub StopFor : List ℕ → Stop → Type 0
StopFor path Memory = Unit {0}
StopFor path (Fault f) = KindFor f.kind f path
