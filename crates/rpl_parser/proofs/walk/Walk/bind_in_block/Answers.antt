use Rattle.rpl_syntax.specs.Modules.{rule_of, rules_of}
use Rattle.rpl_parser.specs.inside.Walked.{walk_of}
use Rattle.rpl_parser.proofs.Pushed.{rules_pushed, inside_is}
use Rattle.rpl_parser.proofs.walk.Walk.bind_in_block.Goals as goal

pub returns : goal.returns
returns c =
    inside_is (walk_of c.args.self.now) (rule_of c.args.rule) (rules_of c.push.new.self)
    (rules_pushed c.push.new.self c.args.self.now.rules c.args.rule c.in_ok-push.ensures.ok)
