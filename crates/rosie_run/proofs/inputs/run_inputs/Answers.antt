use Rattle.std.proofs.Common.{refl, ap, sym, ◌∙◌, arith}
use Rattle.std.specs.Prelude.{Ok, encode_utf8_all}
use Rattle.std.proofs.lemmas.Bool.{false≢true}
use Rattle.rosie_io.specs.Reader.{Reader}
use Rattle.rosie_run.proofs.Asking.{asks_broke, asks_end, asks_last, asks_nothing, asks_on, asks_start}
use Rattle.rosie_run.proofs.Asking.{clear_reached, ends_reached}
use Rattle.rosie_run.proofs.Pieces.{fronts_none}
use Rattle.rosie_run.specs.Devices.{course}
use Rattle.rosie_run.specs.Inputs.{is_standard, names_of}
use Rattle.rosie_run.specs.declared.lines.Messages.{Messages}
use Rattle.rosie_run.specs.Sources.{moment, moment_of}
use Rattle.rosie_run.proofs.Breaking.{hides_later}
use Rattle.rosie_run.proofs.Giving.{goes_stopped, says_end, says_on}
use Rattle.rosie_run.proofs.Inward.{names_next, names_none, not_standard, told_one, once_on, untouched_on}
use Rattle.rosie_run.proofs.Inward.{reached_start, reached_on, part_goes, reached_stop, reached_break, reached_end}
use Rattle.rosie_run.proofs.Inward.{ends_there, none_reached}
use Rattle.rosie_run.proofs.Inward.{still_on}
use Rattle.rosie_run.proofs.inputs.run_inputs.Goals as goal

pub inputs-init : goal.inputs-init
inputs-init g c = record {
  same_lines = (refl, refl, refl, refl);
  same_inputs = (refl, refl);
  same_outputs = (refl, refl, refl);
  parts = ap (λ (x : Reader). x.whole) (c.new-lines.ensures.reader ∙ c.in-Ok.ensures);
  most = ap (λ (x : Reader). x.most) (c.new-lines.ensures.reader ∙ c.in-Ok.ensures);
  same = refl;
  tool = ap (λ (x : Messages). x.tool) c.new-lines.ensures.messages ∙ c.new-messages.ensures;
  idle = λ _. refl;
  reached = λ k. reached_start _ _ _ _ _ _ _ _ _ _ refl refl (g.met.O.Sink.number_fits c.args.outputs.now.out.now)
      c.new-tally.ensures;
  last = λ k. refl;
  once = λ k e. absurd (cc);
  untouched = λ _. refl;
  unread = λ _. refl;
  input = record { faults = refl; opens = refl };
  files = record { faults = refl; opens = refl };
  input_taken = λ _. omega arith;
  files_taken = λ _. omega arith;
  out_faults = refl;
  err_faults = refl;
  tree = refl;
  asked = asks_start _ _;
  past_end = λ _. refl;
}

pub inputs-preserved : goal.inputs-preserved
inputs-preserved g c =
    let e = c.in-Ok-run_one.ensures in
    let i = c.inputs.invariant in
    let next = names_next (encode_utf8_all) c.args.wanted.names.now c.inputs.name-index c.name-item.result
    c.text_of.result.now c.inputs-test.true c.name-item.is c.text_of.ensures in
    record {
      same_lines = (
        e.same_lines.0 ∙ i.same_lines.0,
        e.same_lines.1 ∙ i.same_lines.1,
        e.same_lines.2
            ∙ i.same_lines.2,
        e.same_lines.3 ∙ i.same_lines.3,
      );
      same_inputs = (e.same_inputs.0 ∙ i.same_inputs.0, e.same_inputs.1 ∙ i.same_inputs.1);
      same_outputs = (
        e.same_outputs.0 ∙ i.same_outputs.0,
        e.same_outputs.1 ∙ i.same_outputs.1,
        e.same_outputs.2
            ∙ i.same_outputs.2,
      );
      parts = e.keeps.whole ∙ i.parts;
      most = e.keeps.most ∙ i.most;
      same = e.same ∙ i.same;
      tool = e.same_lines.3 ∙ i.tool;
      idle = λ x. e.idle x ∙ i.idle x;
      reached = λ k.
          let told = told_one encode_utf8_all c.args.wanted.names.now c.inputs.name-index c.text_of.result.now _
          g.F.Source.tells g.I.Source.tells next k in
          let w = rw (i.same, i.tree, i.parts, i.most, i.tool) at (e.runs told.0 told.1 (i.once k)) in
          reached_on _ _ _ _ _ _ (g.I.Source.rest c.inputs.inputs.input.now) c.text_of.result.now _ _ c.inputs.read
          c.inputs.tally _ _ (i.reached k) next _ c.in-Ok-run_one.part c.and-tally.result w c.and-tally.ensures
          (g.I.Source.rest c.run_one.new.inputs.input.now) c.run_one.new.read c.if-tally.false
          (e.rest told.1 (i.once k)) e.reads (λ n. (e.stays n).0);
      last = λ k.
          let told = told_one encode_utf8_all c.args.wanted.names.now c.inputs.name-index c.text_of.result.now _
          g.F.Source.tells g.I.Source.tells next k in
          let w = rw (i.same, i.tree, i.parts, i.most, i.tool) at (e.runs told.0 told.1 (i.once k)) in
          let off = part_goes _ _ _ _ _ _ (g.I.Source.rest c.inputs.inputs.input.now) c.text_of.result.now _ _
          c.inputs.read c.inputs.tally _ _ (i.reached k) next _ c.in-Ok-run_one.part c.and-tally.result w
          c.and-tally.ensures c.if-tally.false in
          says_on c.args.wanted.reading (g.F.Source.tree c.args.inputs.now.files.now)
          (g.J.LineJob.last_text c.new-lines.result.job.now) _ (g.J.LineJob.last_text c.inputs.lines.job.now)
          (g.J.LineJob.last_text c.run_one.new.lines.job.now) (g.I.Source.rest c.inputs.inputs.input.now)
          (g.I.Source.rest c.run_one.new.inputs.input.now) c.text_of.result.now _ _ next
          (e.rest told.1 (i.once k) off)
          (rw (i.tree, i.parts, i.most, i.tool) at (e.last told.0 told.1 (i.once k) off)) (i.last k);
      once = λ k is.
          let told = told_one encode_utf8_all c.args.wanted.names.now c.inputs.name-index c.text_of.result.now _
          g.F.Source.tells g.I.Source.tells next k in
          let w = rw (i.same, i.tree, i.parts, i.most, i.tool) at (e.runs told.0 told.1 (i.once k)) in
          let off = part_goes _ _ _ _ _ _ (g.I.Source.rest c.inputs.inputs.input.now) c.text_of.result.now _ _
          c.inputs.read c.inputs.tally _ _ (i.reached k) next _ c.in-Ok-run_one.part c.and-tally.result w
          c.and-tally.ensures c.if-tally.false in
          once_on c.text_of.result.now (g.I.Source.rest c.inputs.inputs.input.now) _ c.inputs.read c.run_one.new.read
          (e.rest told.1 (i.once k) off) (λ n. (e.stays n).0) (i.once k) is;
      untouched = untouched_on (is_standard c.text_of.result.now) c.inputs.read c.run_one.new.read _ _ _ e.reads e.stays
          i.untouched;
      unread = λ n. (e.stays (not_standard (encode_utf8_all) c.args.wanted.names.now c.inputs.name-index
          c.text_of.result.now _ next n)).1 ∙ i.unread n;
      input = still_on _ _ _ i.input e.cause.0;
      files = still_on _ _ _ i.files e.cause.1;
      input_taken = λ lt. let a = e.input_taken lt in let b = i.input_taken (omega arith) in omega arith;
      files_taken = λ lt. let a = e.files_taken lt in let b = i.files_taken (omega arith) in omega arith;
      out_faults = e.sinks.0 ∙ i.out_faults;
      err_faults = e.sinks.1 ∙ i.err_faults;
      tree = e.tree ∙ i.tree;
      asked = asks_on _ _ _ _ _ _ c.text_of.result.now i.asked next e.asked;
      past_end = λ fresh. e.past_end (λ r. ap g.I.Source.ended (i.untouched r) ∙ fresh) ∙ i.past_end fresh;
    }

pub returns-then-tally-clause-runs : goal.returns-then-tally-clause-runs
returns-then-tally-clause-runs g c = λ k.
    let e = c.in-Ok-run_one.ensures in
    let i = c.inputs.invariant in
    let next = names_next (encode_utf8_all) c.args.wanted.names.now c.inputs.name-index c.name-item.result
    c.text_of.result.now c.inputs-test.true c.name-item.is c.text_of.ensures in
    let told = told_one encode_utf8_all c.args.wanted.names.now c.inputs.name-index c.text_of.result.now _
    g.F.Source.tells g.I.Source.tells next k in
    let w = rw (i.same, i.tree, i.parts, i.most, i.tool) at (e.runs told.0 told.1 (i.once k)) in
    rw c.new-lines.ensures.job at (reached_stop _ _ _ _ _ _ (g.I.Source.rest c.inputs.inputs.input.now)
    c.text_of.result.now _ _ c.inputs.read c.inputs.tally _ _ (i.reached k) next _ c.in-Ok-run_one.part
    c.and-tally.result w c.and-tally.ensures c.if-tally.true)

pub returns-in-Err-clause-runs : goal.returns-in-Err-clause-runs
returns-in-Err-clause-runs g c = λ k.
    let i = c.inputs.invariant in
    let next = names_next (encode_utf8_all) c.args.wanted.names.now c.inputs.name-index c.name-item.result
    c.text_of.result.now c.inputs-test.true c.name-item.is c.text_of.ensures in
    let told = told_one encode_utf8_all c.args.wanted.names.now c.inputs.name-index c.text_of.result.now _
    g.F.Source.tells g.I.Source.tells next k in
    let w = rw (i.same, i.tree, i.parts, i.most, i.tool) at (c.in-Err.ensures.runs told.0 told.1 (i.once k)) in
    rw c.new-lines.ensures.job at (reached_break _ (g.J.LineJob.makes c.new-lines.result.job.now) c.args.wanted.reading
    (g.F.Source.tree c.args.inputs.now.files.now) (g.I.Source.rest c.args.inputs.now.input.now)
    (names_of encode_utf8_all c.args.wanted.names.now) (g.I.Source.rest c.inputs.inputs.input.now)
    c.text_of.result.now _ _ c.inputs.read c.inputs.tally _ _ (i.reached k) next
    (moment_of g.I.Source c.args.inputs.now.input.now) (moment_of g.I.Source c.inputs.inputs.input.now)
    (moment_of g.I.Source c.run_one.new.inputs.input.now) (moment_of g.F.Source c.args.inputs.now.files.now)
    (moment_of g.F.Source c.inputs.inputs.files.now) (moment_of g.F.Source c.run_one.new.inputs.files.now)
    (λ n. ap (moment g.I.Source.rest g.I.Source.taken g.I.Source.faults g.I.Source.failed_opens) (i.untouched n))
    i.files.faults i.files.opens i.files_taken c.in-Err.ended _ w)

pub returns-clause-runs : goal.returns-clause-runs
returns-clause-runs g c = λ k.
    rw c.new-lines.ensures.job at (reached_end _ _ _ _ _ _ _ _ _ _ _ _ (c.inputs.invariant.reached k)
    (names_none (encode_utf8_all) c.args.wanted.names.now c.inputs.name-index c.inputs-test.false))

pub returns-in_default-clause-runs : goal.returns-in_default-clause-runs
returns-in_default-clause-runs g c = λ k. fronts_none _ _ _

pub returns-then-tally-clause-unread : goal.returns-then-tally-clause-unread
returns-then-tally-clause-unread g c = λ n.
    let next = names_next (encode_utf8_all) c.args.wanted.names.now c.inputs.name-index c.name-item.result
    c.text_of.result.now c.inputs-test.true c.name-item.is c.text_of.ensures in
    (c.in-Ok-run_one.ensures.stays (not_standard (encode_utf8_all) c.args.wanted.names.now c.inputs.name-index
    c.text_of.result.now _ next n)).1 ∙ c.inputs.invariant.unread n

pub returns-in-Err-clause-unread : goal.returns-in-Err-clause-unread
returns-in-Err-clause-unread g c = λ n.
    let next = names_next (encode_utf8_all) c.args.wanted.names.now c.inputs.name-index c.name-item.result
    c.text_of.result.now c.inputs-test.true c.name-item.is c.text_of.ensures in
    (c.in-Err.ensures.stays (not_standard (encode_utf8_all) c.args.wanted.names.now c.inputs.name-index
    c.text_of.result.now _ next n)).1 ∙ c.inputs.invariant.unread n

pub returns-then-tally-clause-last : goal.returns-then-tally-clause-last
returns-then-tally-clause-last g c = λ k. goes_stopped c.and-tally.result _ c.if-tally.true

pub returns-clause-last : goal.returns-clause-last
returns-clause-last g c = λ k goes.
    let back = names_none encode_utf8_all c.args.wanted.names.now c.inputs.name-index c.inputs-test.false in
    let ends = says_end c.args.wanted.reading (g.F.Source.tree c.args.inputs.now.files.now)
    (g.J.LineJob.last_text c.new-lines.result.job.now) _ (g.J.LineJob.last_text c.inputs.lines.job.now)
    (g.I.Source.rest c.inputs.inputs.input.now) _ back (c.inputs.invariant.last k) in
    rw (c.job-1.given.1 (sym (c.inputs.invariant.same_lines.0 ∙ c.new-lines.ensures.same_job)))
    (rw c.new-lines.ensures.job at ends)

pub returns-then-tally-clause-asked : goal.returns-then-tally-clause-asked
returns-then-tally-clause-asked g c =
    let i = c.inputs.invariant in
    let next = names_next (encode_utf8_all) c.args.wanted.names.now c.inputs.name-index c.name-item.result
    c.text_of.result.now c.inputs-test.true c.name-item.is c.text_of.ensures in
    rw c.new-lines.ensures.job at (asks_last (g.J.LineJob.makes c.new-lines.result.job.now) c.args.wanted.reading
    (names_of encode_utf8_all c.args.wanted.names.now) (course c.args.wanted.reading.tool g.F.Source g.I.Source
    g.O.Sink g.E.Sink c.args.inputs.now c.run_one.new.inputs c.args.outputs.now c.run_one.new.outputs) _ _ _ i.asked
    (λ k. clear_reached _ _ _ _ _ _ _ _ _ _ _ _ _ (i.reached k) i.asked.split) c.text_of.result.now _ _ next
    (Ok c.and-tally.result) c.in-Ok-run_one.ensures.asked (goes_stopped c.and-tally.result _ c.if-tally.true) tt
    (λ k _.
    let told = told_one encode_utf8_all c.args.wanted.names.now c.inputs.name-index c.text_of.result.now _
    g.F.Source.tells g.I.Source.tells next k in
    let w = rw (i.same, i.tree, i.parts, i.most, i.tool) at (c.in-Ok-run_one.ensures.runs told.0 told.1 (i.once k)) in
    ends_reached _ _ _ _ _ _ _ _ _ _ _ _ _ (i.reached k) c.text_of.result.now i.asked.split
    (ends_there _ _ _ _ _ _ (g.I.Source.rest c.inputs.inputs.input.now) c.text_of.result.now _ _ c.inputs.read
    c.inputs.tally _ _ (i.reached k) next _ c.in-Ok-run_one.part c.and-tally.result w c.and-tally.ensures
    c.if-tally.true)))

pub returns-in-Err-clause-asked : goal.returns-in-Err-clause-asked
returns-in-Err-clause-asked g c =
    let i = c.inputs.invariant in
    let next = names_next (encode_utf8_all) c.args.wanted.names.now c.inputs.name-index c.name-item.result
    c.text_of.result.now c.inputs-test.true c.name-item.is c.text_of.ensures in
    rw c.new-lines.ensures.job at (asks_broke (g.J.LineJob.makes c.new-lines.result.job.now) c.args.wanted.reading
    (names_of encode_utf8_all c.args.wanted.names.now) (course c.args.wanted.reading.tool g.F.Source g.I.Source
    g.O.Sink g.E.Sink c.args.inputs.now c.run_one.new.inputs c.args.outputs.now c.run_one.new.outputs) _ _ _ i.asked
    (λ k. clear_reached _ _ _ _ _ _ _ _ _ _ _ _ _ (i.reached k) i.asked.split) c.text_of.result.now _
    (g.F.Source.asked c.run_one.new.inputs.files.now) next
    c.in-Err.ended c.in-Err.ensures.asked (rw i.tool at c.in-Err.ensures.says))

pub returns-clause-asked : goal.returns-clause-asked
returns-clause-asked g c =
    let i = c.inputs.invariant in
    rw c.new-lines.ensures.job at (asks_end (g.J.LineJob.makes c.new-lines.result.job.now) c.args.wanted.reading
    (names_of encode_utf8_all c.args.wanted.names.now) (course c.args.wanted.reading.tool g.F.Source g.I.Source
    g.O.Sink g.E.Sink c.args.inputs.now c.inputs.inputs c.args.outputs.now c.inputs.outputs) _ _ _ i.asked
    (λ k. clear_reached _ _ _ _ _ _ _ _ _ _ _ _ _ (i.reached k) i.asked.split) (Ok c.inputs.tally)
    (λ goes. names_none encode_utf8_all c.args.wanted.names.now c.inputs.name-index c.inputs-test.false) tt
    (λ k is. absurd (false≢true (sym (none_reached _ _ _ _ _ _ _ _ _ _ _ _ (i.reached k)) ∙ is))))

pub returns-in_default-clause-asked : goal.returns-in_default-clause-asked
returns-in_default-clause-asked g c = asks_nothing _ _ _ _ _

pub returns-in-Err-clause-past_end : goal.returns-in-Err-clause-past_end
returns-in-Err-clause-past_end g c = λ fresh.
    let i = c.inputs.invariant in
    c.in-Err.ensures.past_end (λ r. ap g.I.Source.ended (i.untouched r) ∙ fresh) ∙ i.past_end fresh

pub returns-then-tally-clause-past_end : goal.returns-then-tally-clause-past_end
returns-then-tally-clause-past_end g c = λ fresh.
    let i = c.inputs.invariant in
    c.in-Ok-run_one.ensures.past_end (λ r. ap g.I.Source.ended (i.untouched r) ∙ fresh) ∙ i.past_end fresh

pub returns-in-Err-clause-unhidden : goal.returns-in-Err-clause-unhidden
returns-in-Err-clause-unhidden g c =
    hides_later c.in-Err.ended (moment_of g.F.Source c.args.inputs.now.files.now)
    (moment_of g.F.Source c.inputs.inputs.files.now) (moment_of g.F.Source c.run_one.new.inputs.files.now)
    c.inputs.invariant.files c.in-Err.ensures.unhidden

pub returns-in_default-clause-unhidden : goal.returns-in_default-clause-unhidden
returns-in_default-clause-unhidden g c = record { faults = refl; opens = refl }
