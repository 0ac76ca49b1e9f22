use Rattle.std.proofs.Common.{ap}
use Rattle.rosie_repl.specs.States.{session_of}
use Rattle.rosie_session.specs.declared.run.SessionMemory.{SessionMemory}
use Rattle.rosie_session.proofs.run.SessionLines.make_of.Goals as goal

pub returns-in-TooLong-clause-says : goal.returns-in-TooLong-clause-says
returns-in-TooLong-clause-says g c = c.wrong.ensures.says _

pub returns-in-TooLong-clause-makes : goal.returns-in-TooLong-clause-makes
returns-in-TooLong-clause-makes g c =
    rw (c.in-Err.is, c.in-TooLong.is) (
      c.wrong.ensures.makes _,
      ap (λ (k : SessionMemory). session_of k.state) c.wrong.ensures.kept,
    )

pub returns-in-NotText-clause-says : goal.returns-in-NotText-clause-says
returns-in-NotText-clause-says g c = c.wrong-in-NotText.ensures.says _
