use Rattle.std.proofs.Common.{◌≡◌, Some, None, sym, ap, ◌∙◌, subst, arith, map, length}
use Rattle.std.proofs.lemmas.List.{length-map}
use Rattle.std.proofs.lemmas.Option.{slice_get_within}
use Rattle.std.specs.Prelude.{true, false, slice_get, option_map}
use Rattle.rpl_core.specs.Numbers.{instr_of}
use Rattle.rpl_core.specs.Program.{instructions, sets_of, labels_of, code_of}
use Rattle.rpl_safe.specs.inside.Marks.{marks_at, tree_test}
use Rattle.rpl_safe.proofs.Stacks.{same_some}
use Rattle.rpl_safe.proofs.Testing.{pass_more}
use Rattle.rpl_safe.proofs.whole_tree.all_pass.Goals.{in-Some+in-Some-instr_at+else-not-passes}
use Rattle.rpl_safe.proofs.whole_tree.all_pass.Goals.{in-Some+in_default-instr_at, in_default}
use Rattle.rpl_safe.proofs.whole_tree.all_pass.Goals as goal

pub returns-then-not-passes : goal.returns-then-not-passes
returns-then-not-passes c = λ all.
    let p = c.args.program.now in
    let f = instr_of (sets_of p) (labels_of p) in
    let there : slice_get (instructions p) c.loop-address.address ≡ Some (f c.in-Some-instr_at.instr) =
    sym (ap (λ l. slice_get (map f l) c.loop-address.address) c.code-code.ensures.same)
    ∙ sym (c.instr_at.ensures (sets_of p) (labels_of p)) ∙ ap (option_map f) c.in-Some-instr_at.is in
    let passed = all c.loop-address.address c.in-Some.mark (f c.in-Some-instr_at.instr) (sym c.mark_at.ensures
    ∙ c.in-Some.is) there in
    let z : false ≡ true = sym c.if-not-passes.true ∙ c.passes.ensures (sets_of p) (labels_of p) ∙ passed in
    absurd (cc)

pub loop-address-preserved : goal.loop-address-preserved
loop-address-preserved c =
    let p = c.args.program.now in
    let f = instr_of (sets_of p) (labels_of p) in
    let n = c.loop-address.address in
    pass_more (instructions p) (marks_at c.args.marks.now) c.args.called n c.loop-address.invariant
    (elim c.match-mark_at.branch [
      | in-Some+in-Some-instr_at+else-not-passes w ↦ λ m i e q.
          let there : slice_get (instructions p) n ≡ Some (f w.in-Some-instr_at.instr) =
          sym (ap (λ l. slice_get (map f l) n) c.code-code.ensures.same)
          ∙ sym (w.instr_at.ensures (sets_of p) (labels_of p)) ∙ ap (option_map f) w.in-Some-instr_at.is in
          let same_i = same_some (f w.in-Some-instr_at.instr) i (sym there ∙ q) in
          let same_m = same_some w.in-Some.mark m (sym w.in-Some.is ∙ c.mark_at.ensures ∙ e) in
          let passed = sym (w.passes.ensures (sets_of p) (labels_of p)) ∙ w.if-not-passes.false in
          subst (λ x. tree_test (marks_at c.args.marks.now) c.args.called i n x ≡ true) same_m
          (subst (λ x. tree_test (marks_at c.args.marks.now) c.args.called x n w.in-Some.mark ≡ true) same_i passed)
      | in-Some+in_default-instr_at w ↦ λ m i e q.
          let none : None ≡ slice_get (instructions p) n = sym (ap (option_map f) w.in_default-instr_at.is)
          ∙ w.instr_at.ensures (sets_of p) (labels_of p) ∙ ap (λ l. slice_get (map f l) n) c.code-code.ensures.same in
          let z : None ≡ Some i = none ∙ q in
          absurd (cc)
      | in_default w ↦ λ m i e q.
          let z : None ≡ Some m = sym w.in_default.is ∙ c.mark_at.ensures ∙ e in
          absurd (cc)
    ])

pub returns : goal.returns
returns c = λ a m i e q.
    let p = c.args.program.now in
    let lt = slice_get_within (instructions p) a i q in
    c.loop-address.invariant a m i (omega (
      arith,
      lt,
      length-map (code_of p) (instr_of (sets_of p) (labels_of p)),
      ap length c.code-code.ensures.same,
      c.loop-address-test.false,
    )) e q
