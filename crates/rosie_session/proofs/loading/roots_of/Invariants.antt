use Rattle.std.proofs.Common.{◌≡◌, take}
use Rattle.rosie_repl.specs.States.{session_of}
use Rattle.rosie_session.specs.Loading.{given}
use Rattle.rosie_session.proofs.loading.roots_of.Given as goal

-- the texts so far, each as a root
abbrev pub invariant-loop-index : goal.invariant-loop-index
invariant-loop-index l = l.roots ≡ given (take l.index (session_of l.state).now.texts)
