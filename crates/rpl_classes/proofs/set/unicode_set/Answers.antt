use Rattle.std.specs.Prelude.{chars}
use Rattle.rpl_unicode.specs.Named.{members}
use Rattle.rpl_classes.proofs.Named.{class_normal, class_named_so}
use Rattle.rpl_classes.proofs.set.unicode_set.Goals as goal

pub listed-requires : goal.listed-requires
listed-requires c = class_normal (members (chars c.args.name.now)) _ c.in-Ok.ensures

pub returns-in-Ok-listed : goal.returns-in-Ok-listed
returns-in-Ok-listed c =
    class_named_so (members (chars c.args.name.now)) c.in-Ok.list c.in-Ok-listed.set c.in-Ok-listed.ensures
    c.in-Ok.ensures
