use Rattle.std.proofs.Common.{◌≤◌, ◌+◌, ◌^◌, ◌++◌, ◌∷◌, [], arith, refl, ap, length, ◌∙◌}
use Rattle.rpl_scope.specs.inside.Held.{held}
use Rattle.rpl_scope.proofs.SharedNames.{joined, joined_names}
use Rattle.rpl_scope.proofs.names.ModuleNames.share.Goals as goal

pub invariant_of-self-in-Ok : goal.invariant_of-self-in-Ok
invariant_of-self-in-Ok c =
    let ts = c.self.inside.shared.items in
    let own = c.self.inside.own in
    let room : length (held ts) + length own ≤ 2 ^ 62 =
    omega (arith, c.if-not-has_room.ensures refl, ap (λ l. length (held l)) c.as_slice.ensures.value) in
    joined_names ts c.push_reserved.new.self.items c.in-Ok.shared c.replace-own.new.dest own
    (c.push_reserved.ensures.items ∙ ap (λ l. l ++ c.in-Ok.shared ∷ []) c.reserve.ensures.items)
    (c.in-Ok.ensures.ok ∙ c.replace-own.ensures.value) (c.replace-own.ensures.after
    ∙ c.new.ensures) c.self.invariant.apart room

pub returns-in-Ok : goal.returns-in-Ok
returns-in-Ok c =
    joined c.self.inside.shared.items c.push_reserved.new.self.items c.in-Ok.shared c.replace-own.new.dest
    c.self.inside.own (c.push_reserved.ensures.items ∙ ap (λ l. l ++ c.in-Ok.shared ∷ []) c.reserve.ensures.items)
    (c.in-Ok.ensures.ok ∙ c.replace-own.ensures.value) (c.replace-own.ensures.after ∙ c.new.ensures) ∙ c.self.view_is
