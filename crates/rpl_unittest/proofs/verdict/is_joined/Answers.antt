use Rattle.std.proofs.Common.{◌+◌, length, ap, ◌∙◌}
use Rattle.std.specs.Str.{bytes_eq}
use Rattle.rpl_unittest.proofs.Types.{no_dot, no_front, by_back, differ, agree, rest_is}
use Rattle.rpl_unittest.proofs.verdict.is_joined.Goals as goal

pub returns-then-label-len-ne46 : goal.returns-then-label-len-ne46
returns-then-label-len-ne46 c = no_dot c.args.label.now c.args.prefix.now c.args.part.now c.if-label-len-ne46.true

pub returns-then-ne : goal.returns-then-ne
returns-then-ne c =
    no_front c.args.label.now c.args.prefix.now c.args.part.now (differ _ _ c.ne.result c.ne.ensures c.if-ne.true)

pub returns : goal.returns
returns c =
    by_back c.args.label.now c.args.prefix.now c.args.part.now c.eq.result c.if-label-len.false
    c.if-label-len-ne46.false (agree _ _ c.ne.result c.ne.ensures c.if-ne.false)
    (c.eq.ensures ∙ ap (λ x. bytes_eq x c.args.part.now) (rest_is c.args.label.now (length c.args.prefix.now + 1)))
