use Rattle.rosie_run.proofs.lines.SourceLines.make_of.Goals as goal

pub returns-in-TooLong-clause-makes : goal.returns-in-TooLong-clause-makes
returns-in-TooLong-clause-makes g c = rw (c.in-Err.is, c.in-TooLong.is) (c.say.ensures.makes _ _ _)

pub returns-in-TooLong-clause-says : goal.returns-in-TooLong-clause-says
returns-in-TooLong-clause-says g c = c.say.ensures.says c.args.self.now.file.now

pub returns-in-NotText-clause-makes : goal.returns-in-NotText-clause-makes
returns-in-NotText-clause-makes g c = rw (c.in-Err.is, c.in-NotText.is) (c.say-in-NotText.ensures.makes _ _ _)

pub returns-in-NotText-clause-says : goal.returns-in-NotText-clause-says
returns-in-NotText-clause-says g c = c.say-in-NotText.ensures.says c.args.self.now.file.now
