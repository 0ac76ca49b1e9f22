use Rattle.std.proofs.Common.{length, refl, ◌∙◌}
use Rattle.std.proofs.lemmas.Bool.{false≢true}
use Rattle.std.proofs.lemmas.Option.{slice_get_read}
use Rattle.rpl_codefile.proofs.Knowing.{ranges_cmp, known_before, next_known, same_ranges, tied_ranges}
use Rattle.rpl_codefile.proofs.tables.are_sets_apart.Goals as goal

pub returns-then-not-branch : goal.returns-then-not-branch
returns-then-not-branch c = (
  λ e. absurd (false≢true e),
  λ apart. absurd (known_before ranges_cmp (λ v. v.items) c.loop-set.known c.in_ok-from_slice.field-0 c.args.sets.now
      c.loop-set.set-index c.set-item.result c.in_ok-insert.field-0
      (slice_get_read c.args.sets.now (length c.args.sets.now) c.loop-set.set-index c.set-item.result refl
      c.loop-set-test.true c.set-item.is)
      (c.in_ok-from_slice.ensures.items ∙ c.ranges-in-loop-set.ensures.same) c.in_ok-insert.ensures.added
      c.if-not-branch.true c.loop-set.invariant apart),
)

pub loop-set-preserved : goal.loop-set-preserved
loop-set-preserved c =
    next_known ranges_cmp (λ v. v.items) same_ranges tied_ranges c.loop-set.known c.insert.new.self
    c.in_ok-from_slice.field-0 _ c.in_ok-insert.ensures.updates c.args.sets.now c.loop-set.set-index c.set-item.result
    c.in_ok-insert.field-0 refl
    (slice_get_read c.args.sets.now (length c.args.sets.now) c.loop-set.set-index c.set-item.result refl
    c.loop-set-test.true c.set-item.is)
    (c.in_ok-from_slice.ensures.items ∙ c.ranges-in-loop-set.ensures.same) c.in_ok-insert.ensures.added
    c.if-not-branch.false c.loop-set.invariant
