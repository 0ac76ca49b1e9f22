use Rattle.std.specs.Prelude.{chars}
use Rattle.rpl_classes.proofs.Names.{name_found}
use Rattle.rpl_classes.proofs.brackets.name_at.Goals as goal

pub returns : goal.returns
returns c =
    let a = c.in_ok-colon.ensures in
    let b = c.in_ok-next.ensures in
    name_found (chars c.args.text.now) c.args.start c.skip_word-end.result c.in_ok-colon.colon c.in_ok-next.next
    c.requires c.skip_word-end.ensures c.if-end-start.false a.0 a.1 b.0 b.1
