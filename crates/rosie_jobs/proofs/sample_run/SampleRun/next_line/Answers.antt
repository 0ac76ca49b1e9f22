use Rattle.std.proofs.Common.{◌+◌, ◌-◌, ◌≤◌, ◌∷◌, ◌++◌, [], false, length, cond, refl, sym, ap, ◌∙◌, arith}
use Rattle.std.specs.Prelude.{codes, map}
use Rattle.std.proofs.lemmas.Str.{is_utf8-from_IsUtf8}
use Rattle.rosie_jobs.specs.Jobs.{matcher_of}
use Rattle.rosie_jobs.specs.Lines.{line_reading}
use Rattle.rosie_jobs.specs.Makers.{makes_of}
use Rattle.rosie_run.specs.Lines.{pieces_from}
use Rattle.rosie_run.specs.Report.{is_hit}
use Rattle.rosie_jobs.specs.SampleCounts.{counts_piece, muted}
use Rattle.rosie_jobs.specs.SampleLines.{next, sample}
use Rattle.rosie_jobs.proofs.SampleLimits.{job_bytes}
use Rattle.rosie_jobs.proofs.SampleOnward.{all_more, bytes_more, hits_more, left_next, one_most}
use Rattle.rosie_jobs.proofs.sample_run.SampleRun.next_line.Goals as goal

pub returns-clause-fits : goal.returns-clause-fits
returns-clause-fits g c =
    let m = c.in_ok-mark.ensures.made in
    let b = job_bytes c.args.self.now.job (codes "-") (c.args.self.now.passed + 1) c.line.result.now in
    let w = ap length m.writes in
    let o = ap length c.out.ensures in
    let h = one_most c.in_ok-mark.mark in
    let e = c.one_if_hit.ensures in
    let more = c.requires.more in
    record {
      within = omega arith;
      matched = let x = c.requires.fits.matched in omega arith;
      bytes = let x = c.requires.fits.bytes in omega arith;
    }

pub returns-clause-gives : goal.returns-clause-gives
returns-clause-gives g c = λ ps left.
    let m = c.in_ok-mark.ensures.made in
    let s = c.args.self.now in
    let line = c.line.result.now in
    let makes = makes_of (matcher_of s.job) in
    let p = makes (codes "-") (s.passed + 1) line in
    let same_length = ap length c.line.ensures in
    let line_short = c.in_ok-advance.ensures.short in
    let short : length line ≤ 64 = omega arith in
    let step = left_next makes s.lines s.passed s.sample.number line (c.line.ensures
    ∙ c.in_ok-advance.ensures.line) (is_utf8-from_IsUtf8 line c.line.utf8) short c.requires.more in
    let more = pieces_from makes (line_reading false) (codes "-") (s.passed + 1)
    (sample (next s.sample.number) (s.lines - (s.passed + 1))) in
    let moved = ap (λ f. pieces_from f (line_reading false) (codes "-") (s.passed + 1)
    (sample (next s.sample.number) (s.lines - (s.passed + 1)))) (sym c.in_ok-mark.ensures.same)
    ∙ ap (λ x. pieces_from (makes_of (matcher_of c.answer.new.self)) (line_reading false) (codes "-") (s.passed + 1)
    (sample x (s.lines - (s.passed + 1)))) (sym c.in_ok-advance.ensures.number) in
    record {
      piece = muted p;
      more = map muted more ++ counts_piece s.lines ((left.done ++ p ∷ []) ++ more) ∷ [];
      is = all_more s.lines left.done _ more p ps step left.is;
      made = record { marks = m.marks; writes = refl; tells = m.tells };
      steps = c.in_ok-mark.ensures.steps;
      comes = record {
        done = left.done ++ p ∷ [];
        matched = hits_more left.done p s.matched _ left.matched (ap (λ x. s.matched + x) (c.one_if_hit.ensures
            ∙ ap (λ k. cond (is_hit k) 1 0) m.marks));
        bytes = bytes_more left.done p s.bytes _ left.bytes (ap (λ x. s.bytes + length x) (c.out.ensures ∙ m.writes));
        is = ap (λ xs. map muted xs ++ counts_piece s.lines ((left.done ++ p ∷ []) ++ xs) ∷ []) moved;
      };
    }
