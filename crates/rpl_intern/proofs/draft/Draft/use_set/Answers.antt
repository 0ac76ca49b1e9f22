use Rattle.std.proofs.Common.{◌≡◌, [], ◌∷◌, ◌++◌, refl, sym, ap, subst, ◌∙◌, arith}
use Rattle.std.specs.Prelude.{slice_get}
use Rattle.rpl_intern.specs.Uses.{Keeps}
use Rattle.rpl_intern.proofs.Adding.{adds_set, all_few, number_within, on_both}
use Rattle.rpl_intern.proofs.draft.Draft.use_set.Goals as goal

pub overflow_cast-number : goal.overflow_cast-number
overflow_cast-number c =
    omega (
      arith,
      number_within c.args.self.now.sets c.keep.new.self c.args.set.now c.in_ok-number.number
          c.in_ok-number.ensures.kept c.in_ok-number.ensures.number,
      c.args.self.now.sets_few,
      c.requires,
    )

pub returns-clause-adds : goal.returns-clause-adds
returns-clause-adds c =
    let d = c.args.self.now in
    let k = c.in_ok-number.number in
    on_both c.put_with.result (λ (code : c.put_with.new.code ≡ d.code ++ c.instr-instr.result ∷ []) (kept :
    c.put_with.new.table ≡ c.keep.new.self).
    adds_set d _ c.args.as_what k c.args.set.now (code
    ∙ ap (λ i. d.code ++ i ∷ []) c.instr-instr.ensures)
    (subst (Keeps d.sets (c.args.set.now ∷ [])) (sym kept) c.in_ok-number.ensures.kept) refl
    (ap (λ l. slice_get l k) kept ∙ c.in_ok-number.ensures.number))
    c.put_with.ensures.code c.put_with.ensures.table

pub invariant_of-self-2 : goal.invariant_of-self-2
invariant_of-self-2 c =
    let d = c.args.self.now in let e = c.put_with.ensures in
    let few = all_few c.put_with.result d.sets c.keep.new.self c.put_with.new.table d.labels d.code c.put_with.new.code
    c.args.set.now _ c.len-count.result _ c.len-count.ensures c.in_ok-number.ensures.kept d.sets_few d.labels_few
    c.requires e.code e.table e.code_err e.table_err in
    record { few = few.0; sets_few = few.1; labels_few = few.2 }
