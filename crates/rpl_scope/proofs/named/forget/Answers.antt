use Rattle.std.proofs.Common.{rules, ◌≡◌, None, Some, ◌∙◌, sym, ap, inl, inr, arith}
use Rattle.std.specs.BTreeMap.{get, get_by_text}
use Rattle.std.specs.Ordering.{nat_cmp}
use Rattle.rpl_scope.specs.inside.Numbers.{hash}
use Rattle.rpl_scope.proofs.Maps.{other_number, other_text}
use Rattle.rpl_scope.proofs.named.forget.Goals as goal
use Rattle.rpl_scope.proofs.named.forget.Goals.{then-eq, else-eq}

pub returns-then-eq-2-clause-kept : goal.returns-then-eq-2-clause-kept
returns-then-eq-2-clause-kept c = λ bs i other f.
    let here : get_by_text c.args.others.now c.args.name.now ≡ Some c.args.number = search rules in
    elim f [
      | inl h ↦ inl (elim c.if-eq.branch [
        | then-eq w ↦
            (let there : get nat_cmp c.args.hashes.now c.hash_of-hash.result ≡ Some c.args.number = search rules in
            rw w.hashes-is (other_number c.hash_of-hash.result (hash bs) c.args.hashes.now w.remove.new.self None
            w.remove.ensures.updates (λ e. let same : Some i ≡ Some c.args.number = sym h
            ∙ ap (get nat_cmp c.args.hashes.now) e ∙ there in other (grind (arith, same))) ∙ h))
        | else-eq w ↦ rw w.hashes-is h
      ])
      | inr h ↦ inr (other_text c.args.name.now bs c.args.others.now c.remove-then-eq-2.new.self None
          c.remove-then-eq-2.ensures.updates (λ e. let same : Some i ≡ Some c.args.number = sym h
          ∙ ap (get_by_text c.args.others.now) e ∙ here in other (grind (arith, same))) ∙ h)
    ]
