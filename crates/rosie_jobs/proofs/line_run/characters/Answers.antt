use Rattle.std.proofs.Common.{◌≡◌, length, arith, ap, sym}
use Rattle.std.specs.Str.{chars}
use Rattle.std.proofs.lemmas.Str.{chars-IsAscii}
use Rattle.std.proofs.lemmas.Iterator.{YieldsList-from_chars}
use Rattle.std.proofs.lemmas.Iterator.Consumers.{count_from_yields_List}
use Rattle.rosie_jobs.proofs.line_run.characters.Goals as goal

pub returns-clause-exact : goal.returns-clause-exact
returns-clause-exact c =
    let n : c.count.result ≡ length (chars c.args.line.now) =
    count_from_yields_List c.chars.result c.count.result c.count.ensures.ran
    (YieldsList-from_chars c.args.line.now c.utf8.line cc) in
    omega (arith, n)

pub returns-then-is_ascii-clause-exact : goal.returns-then-is_ascii-clause-exact
returns-then-is_ascii-clause-exact c =
    ap length (sym (chars-IsAscii c.args.line.now (c.requires.ascii c.if-is_ascii.true)))
