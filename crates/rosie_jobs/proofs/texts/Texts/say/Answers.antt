use Rattle.std.proofs.Common.{◌≡◌, false, rules}
use Rattle.rosie_jobs.proofs.OneLine.{made_ok, said_long}
use Rattle.rosie_jobs.proofs.texts.Texts.say.Goals as goal

pub returns-then-not-fits : goal.returns-then-not-fits
returns-then-not-fits c = λ cost.
    let long : c.args.fits ≡ false = search rules in
    made_ok c.fault.result _ _ _ _ (said_long c.args.settings c.args.line.file.now c.args.line.number
    c.args.line.text.now c.args.fits c.args.self.now.answer c.args.end.hit c.args.end.steps cost long)
    (c.fault.ensures cost)
