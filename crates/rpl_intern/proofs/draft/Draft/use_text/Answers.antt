use Rattle.std.proofs.Common.{◌≡◌, [], ◌∷◌, ◌++◌, refl, sym, ap, subst, ◌∙◌, arith}
use Rattle.std.specs.Prelude.{slice_get}
use Rattle.rpl_intern.specs.Uses.{Keeps}
use Rattle.rpl_intern.proofs.Adding.{adds_text, all_few, number_within, on_both}
use Rattle.rpl_intern.proofs.draft.Draft.use_text.Goals as goal

pub overflow_cast-number : goal.overflow_cast-number
overflow_cast-number c =
    omega (
      arith,
      number_within c.args.self.now.labels c.keep.new.self c.args.text.now c.in_ok-number.number
          c.in_ok-number.ensures.kept c.in_ok-number.ensures.number,
      c.args.self.now.labels_few,
      c.requires,
    )

pub returns-clause-adds : goal.returns-clause-adds
returns-clause-adds c =
    let d = c.args.self.now in
    let k = c.in_ok-number.number in
    on_both c.put_with.result (λ (code : c.put_with.new.code ≡ d.code ++ c.instr-instr.result ∷ []) (kept :
    c.put_with.new.table ≡ c.keep.new.self).
    adds_text d _ c.args.as_what k c.args.text.now (code ∙ ap (λ i. d.code ++ i ∷ []) c.instr-instr.ensures) refl
    (subst (Keeps d.labels (c.args.text.now ∷ [])) (sym kept) c.in_ok-number.ensures.kept)
    (ap (λ l. slice_get l k) kept ∙ c.in_ok-number.ensures.number))
    c.put_with.ensures.code c.put_with.ensures.table

pub invariant_of-self-2 : goal.invariant_of-self-2
invariant_of-self-2 c =
    let d = c.args.self.now in let e = c.put_with.ensures in
    let few = all_few c.put_with.result d.labels c.keep.new.self c.put_with.new.table d.sets d.code c.put_with.new.code
    c.args.text.now _ c.len-count.result _ c.len-count.ensures c.in_ok-number.ensures.kept d.labels_few d.sets_few
    c.requires e.code e.table e.code_err e.table_err in
    record { few = few.0; labels_few = few.1; sets_few = few.2 }
