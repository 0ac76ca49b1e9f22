-- The machine's state as its definition has it.
use Rattle.std.specs.Prelude.{ℕ, ◌+◌, List, map, reverse}
use Rattle.rpl_core.specs.Forest as F
use Rattle.rpl_core.specs.Machine as M
use Rattle.rpl_core.specs.Run as A
use Rattle.rpl_reference.specs.declared.machine.Entry.{Entry}
use Rattle.rpl_reference.specs.declared.machine.Entry.TheVariants as E
use Rattle.rpl_reference.specs.Answers.{caught_of}
use Rattle.rpl_reference.specs.declared.machine.Stage.{Stage}
use Rattle.rpl_reference.specs.declared.machine.Stage.TheVariants as S
use Rattle.rpl_reference.specs.declared.machine.Machine.{Machine}

abbrev pub entry_of : Entry → M.Entry
entry_of (E.ReturnTo a) = M.ReturnTo a
entry_of (E.Retry a j n) = M.Retry a j n

abbrev pub state_at : Stage → List M.Entry → List F.Caught → M.State
state_at (S.Going a i) st cs = M.Going a i st cs
state_at S.Failing st cs = M.Failing st cs
state_at (S.Ended i) st cs = M.Ended i cs

-- the stack, with the last entry on top
abbrev pub stack_of : Machine → List M.Entry
stack_of m = reverse (map entry_of m.stack.items)

abbrev pub captures_of : Machine → List F.Caught
captures_of m = map caught_of m.caught.items

abbrev pub state_of : Machine → M.State
state_of m = state_at m.stage (stack_of m) (captures_of m)

-- the answer after n steps more
abbrev pub later : ℕ → A.Answer → A.Answer
later n (A.Matched k i cs) = A.Matched (n + k) i cs
later n (A.Failed k) = A.Failed (n + k)
later n A.Unfinished = A.Unfinished

-- how a run has ended that is over in this state, after n steps
abbrev pub ended_as : ℕ → M.State → A.Answer
ended_as n (M.Going a i st cs) = A.Unfinished
ended_as n (M.Failing st cs) = A.Failed n
ended_as n (M.Ended i cs) = A.Matched n i cs
