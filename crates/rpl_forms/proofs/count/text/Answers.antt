use Rattle.std.proofs.Common.{◌<◌, ◌≤◌, length, arith}
use Rattle.rpl_forms.specs.Forms.{text_core}
use Rattle.rpl_forms.proofs.Counted.{text_nodes, text_deep, short_nodes, short_deep}
use Rattle.rpl_forms.proofs.count.text.Goals as goal

pub returns-then-number-lt2 : goal.returns-then-number-lt2
returns-then-number-lt2 c = λ k t e.
    let short : length t < 2 = omega (arith, e, c.if-number-lt2.true) in
    c.leaf.ensures (text_core k t) (short_nodes k t short) (short_deep k t short)

pub returns : goal.returns
returns c = λ k t e.
    let long : 2 ≤ length t = omega (arith, e, c.if-number-lt2.false) in
    record { size_is = omega (arith, e, text_nodes k t long); depth_is = omega (arith, text_deep k t long) }
