use Rattle.std.proofs.Common.{◌≡◌, length, refl, ap₂, ◌∙◌, arith}
use Rattle.rpl_scope.specs.Packages.{first_of}
use Rattle.rpl_scope.proofs.Maps.{kept_numbered, with_last}
use Rattle.rpl_scope.proofs.named.Named.put.Goals as goal

pub invariant_of-self-in_err-note : goal.invariant_of-self-in_err-note
invariant_of-self-in_err-note g c =
    let none = ap₂ first_of c.as_str.ensures c.self.view_is ∙ c.requires in
    rw c.reserve.ensures.items (kept_numbered c.self.inside.pairs.items c.self.inside.hashes c.note.new.hashes
    c.self.inside.others c.note.new.others c.as_str.result.now none c.self.invariant c.note.ensures.kept)

pub invariant_of-self-2 : goal.invariant_of-self-2
invariant_of-self-2 g c =
    let none = ap₂ first_of c.as_str.ensures c.self.view_is ∙ c.requires in
    let number : c.len-number.result ≡ length c.self.inside.pairs.items =
    omega (arith, c.len-number.ensures, c.self.inside.pairs.ok) in
    let kept = kept_numbered c.self.inside.pairs.items c.self.inside.hashes c.note.new.hashes c.self.inside.others
    c.note.new.others c.as_str.result.now none c.self.invariant c.note.ensures.kept in
    let label = c.in_ok-label.ensures in
    rw (c.push_reserved.ensures.items, c.reserve.ensures.items, label)
    (with_last c.self.inside.pairs.items c.note.new.hashes c.note.new.others c.args.name.now c.args.value
    (ap₂ first_of refl c.self.view_is ∙ c.requires) kept (
      c.as_str.result.now,
      c.as_str.utf8,
      c.as_str.ensures,
      rw (← number) c.in_ok-note.ensures.noted,
    ))
