use Rattle.std.proofs.Common.{◌≡◌, ◌≤◌, ◌+◌, ◌^◌, ◌++◌, [], arith, refl, sym, ap, length, ◌∙◌}
use Rattle.std.proofs.lemmas.List.{append-nil, nil_from_length}
use Rattle.rpl_scope.specs.inside.Held.{AreNames, held}
use Rattle.rpl_scope.proofs.SharedNames.{apart_joined, joined, joined_names}
use Rattle.rpl_scope.proofs.names.ModuleNames.join.Goals as goal

none : (c : goal.In_ok-push) → c.self.inside.own ≡ []
none c = nil_from_length c.self.inside.own (omega (arith, c.len.ensures, c.if-len-gt0.false))

are : (c : goal.In_ok-push) → AreNames c.push.new.self.items c.self.inside.own
are c =
    let ts = c.self.inside.shared.items in
    let ns = c.args.names.now.value in
    let held_is = ap (λ l. length (held l)) c.as_slice-tables.ensures.value in
    let room : length (held ts) + length ns ≤ 2 ^ 62 =
    omega (arith, c.if-not-has_room.ensures refl, held_is, ap length c.deref.ensures) in
    let apart = apart_joined ts c.as_slice-tables.result.now c.self.inside.own ns c.deref-else-not-has_room.result.now
    c.as_slice-tables.ensures.value c.deref-else-not-has_room.ensures (none c) c.self.invariant
    c.have_none_of.ensures.apart (c.if-not-have_none_of.ensures.disjoint refl) in
    joined_names ts c.push.new.self.items c.in-Ok.copy c.self.inside.own ns c.in_ok-push.ensures.items
    c.in-Ok.ensures.cases (none c) apart room

pub invariant_of-self-2 : goal.invariant_of-self-2
invariant_of-self-2 c = are c

pub returns-clause-ok : goal.returns-clause-ok
returns-clause-ok c =
    let ts = c.self.inside.shared.items in
    let ns = c.args.names.now.value in
    joined ts c.push.new.self.items c.in-Ok.copy c.self.inside.own ns c.in_ok-push.ensures.items c.in-Ok.ensures.cases
    (none c)
    ∙ ap (λ l. l ++ ns) (sym (append-nil (held ts)) ∙ ap (λ o. held ts ++ o) (sym (none c)) ∙ c.self.view_is)

pub returns-clause-apart : goal.returns-clause-apart
returns-clause-apart c = (are c).apart
