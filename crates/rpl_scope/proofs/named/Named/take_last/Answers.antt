use Rattle.std.proofs.Common.{◌≡◌, length, arith}
use Rattle.rpl_scope.proofs.Maps.{without_last}
use Rattle.rpl_scope.proofs.named.Named.take_last.Goals as goal

pub invariant_of-self : goal.invariant_of-self
invariant_of-self g c =
    let number : c.len-number.result ≡ length c.pop.new.self.items =
    omega (arith, c.len-number.ensures, c.pop.new.self.ok) in
    without_last c.pop.new.self.items (c.in-Some.name, c.in-Some.field-0-1) c.self.inside.hashes c.forget.new.hashes
    c.self.inside.others c.forget.new.others (rw c.in-Some.ensures.items at c.self.invariant)
    (rw number at c.forget.ensures.kept)

pub invariant_of-self-in-Some-2 : goal.invariant_of-self-in-Some-2
invariant_of-self-in-Some-2 g c =
    let number : c.len-number.result ≡ length c.pop.new.self.items =
    omega (arith, c.len-number.ensures, c.pop.new.self.ok) in
    without_last c.pop.new.self.items (c.in-Some.name, c.in-Some.field-0-1) c.self.inside.hashes c.forget.new.hashes
    c.self.inside.others c.forget.new.others (rw c.in-Some.ensures.items at c.self.invariant)
    (rw number at c.forget.ensures.kept)
