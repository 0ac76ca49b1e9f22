use Rattle.std.proofs.Common.{◌≡◌, Some, ◌∙◌, sym, inl, inr, subst}
use Rattle.std.specs.BTreeMap.{get_by_text}
use Rattle.std.specs.String.{string_bytes}
use Rattle.rpl_scope.specs.inside.Numbers.{hash}
use Rattle.rpl_scope.proofs.Maps.{other_text, put_back}
use Rattle.rpl_scope.proofs.named.note.Goals as goal

pub returns-clause-noted : goal.returns-clause-noted
returns-clause-noted c =
    inr (subst (λ bs. get_by_text c.insert-3.new.self bs ≡ Some c.args.number) c.in_ok-from_str.ensures.ok
    c.in_ok-insert.ensures.updates.1)

pub returns-clause-kept : goal.returns-clause-kept
returns-clause-kept c = λ bs i other f.
    let was = sym c.in_ok-earlier.ensures.old ∙ c.in-Some.is in
    elim f [
      | inl h ↦ inl (put_back c.args.hashes.now c.insert.new.self c.insert-2.new.self c.hash_of-hash.result
          c.args.number c.in-Some.earlier c.insert-2.result c.in_ok-earlier.ensures.updates was
          c.insert-2.ensures.updates c.insert-2.ensures.absent (hash bs) ∙ h)
      | inr h ↦ inr (other_text (string_bytes c.in_ok-from_str.field-0) bs c.args.others.now c.insert-3.new.self
          (Some c.args.number) c.in_ok-insert.ensures.updates (λ e. other (e ∙ c.in_ok-from_str.ensures.ok)) ∙ h)
    ]
