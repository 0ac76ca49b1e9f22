use Rattle.rpl_syntax.specs.Modules.{rule_of, entries_of}
use Rattle.rpl_syntax.specs.declared.module.Item.TheVariants as I
use Rattle.rpl_parser.specs.inside.Walked.{walk_of}
use Rattle.rpl_parser.proofs.Pushed.{items_pushed, ruled_is}
use Rattle.rpl_parser.proofs.walk.Walk.bind_outside.Goals as goal

pub returns : goal.returns
returns c =
    ruled_is (walk_of c.args.self.now) (rule_of c.args.rule) (entries_of c.push.new.self)
    (items_pushed c.push.new.self c.args.self.now.items (I.Binding c.args.rule) c.in_ok-push.ensures.ok)
