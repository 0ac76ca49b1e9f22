use Rattle.std.proofs.Common.{◌∙◌, inl, sym, subst, arith}
use Rattle.rosie_io.specs.Gathering.{left}
use Rattle.rosie_run.specs.Going.{Gives}
use Rattle.rosie_run.specs.FromLines.{ComesFrom, to_give}
use Rattle.rosie_run.specs.Parts.{whole_of}
use Rattle.rosie_run.specs.Passing.{kept_err, kept_out}
use Rattle.rosie_run.proofs.Giving.{says_of}
use Rattle.rosie_run.proofs.Coming.{IsLater, gives_of, gives_to, goes_of, kept_whole, leaves_of}
use Rattle.rosie_run.proofs.lines.SourceLinesPieceSource.next.Goals as goal

pub returns-clause-gives : goal.returns-clause-gives
returns-clause-gives g c = λ ps comes.
    let e = c.next-found.ensures in
    let m = c.make_of.ensures in
    let y = c.args.self.now in
    let z = c.make_of.new.self in
    let makes = g.J.LineJob.makes y.job.now in
    let left0 = left y.reader.now.held (g.S.Source.rest y.source.now) in
    let left1 = left c.next-found.new.self.held (g.S.Source.rest c.next-found.new.source) in
    let text = g.J.LineJob.out_text z.job.now in
    let rest = g.J.LineJob.out_rest z.job.now in
    let out = kept_out z.messages.now.fault (whole_of text rest) in
    let err = kept_err z.messages.now.fault (g.J.LineJob.err_text z.job.now) in
    let tool = y.messages.now.tool in
    let now = c.next-found.new.self in
    let got = gives_of makes tool y.file.now y.reader.now now left0 left1 out err c.args.steps.now c.make_of.new.steps
    c.next-found.result c.make_of.result m.makes e.numbers (e.passes comes.0) in
    let goes = goes_of makes tool y.file.now y.reader.now now left0 left1 out err c.args.steps.now c.make_of.new.steps
    c.next-found.result c.make_of.result m.makes e.numbers in
    subst (λ x. Gives c.make_of.result ps (ComesFrom g.J.LineJob.makes g.S.Source z) x err c.args.steps.now
    c.make_of.new.steps) (kept_whole z.messages.now.fault text rest)
    (subst (λ x. Gives c.make_of.result x (ComesFrom g.J.LineJob.makes g.S.Source z) out err c.args.steps.now
    c.make_of.new.steps) (sym comes.1)
    (gives_to c.make_of.result _ (IsLater makes tool y.file.now y.reader.now now left0 left1 out err c.args.steps.now
    c.make_of.new.steps) (ComesFrom g.J.LineJob.makes g.S.Source z) out err c.args.steps.now c.make_of.new.steps _
    goes
    (λ on more is. (
      comes.0,
      rw (m.same, m.tool, m.same_lines.4, m.reader, m.source, e.keeps.whole, e.keeps.most, on.0)
          is,
    )) got))

pub returns-clause-left : goal.returns-clause-left
returns-clause-left g c = λ s n h.
    let e = c.next-found.ensures in
    let m = c.make_of.ensures in
    let y = c.args.self.now in
    rw (m.reader, m.source) (record {
      same = m.same ∙ h.same;
      keeps = record { whole = e.keeps.whole ∙ h.keeps.whole; most = e.keeps.most ∙ h.keeps.most };
      tool = m.tool ∙ h.tool;
      tree = e.tree ∙ h.tree;
      asked = λ k. e.asked (h.knows k) ∙ h.asked k;
      knows = λ k. e.knows (h.knows k);
      opens = e.opens ∙ h.opens;
      taken = λ lt. let x = e.reads.taken lt in let later = e.reads.later in let t = h.taken (omega arith) in
          omega arith;
      last = λ t.
          says_of y.reader.now c.next-found.new.self (left y.reader.now.held (g.S.Source.rest y.source.now))
          (left c.next-found.new.self.held (g.S.Source.rest c.next-found.new.source)) e.keeps.whole e.keeps.most
          (g.J.LineJob.last_text s.job.now) (g.J.LineJob.last_text y.job.now)
          (g.J.LineJob.last_text c.make_of.new.self.job.now)
          (to_give s.reader.now (left s.reader.now.held (g.S.Source.rest s.source.now))) (h.last t) _ _ c.args.steps.now
          c.make_of.new.steps c.next-found.result c.make_of.result (g.J.LineJob.makes y.job.now) y.messages.now.tool
          y.file.now m.makes (e.passes t) m.last;
      leaves = leaves_of (g.J.LineJob.makes y.job.now) y.messages.now.tool y.file.now y.reader.now c.next-found.new.self
          (left y.reader.now.held (g.S.Source.rest y.source.now))
          (left c.next-found.new.self.held (g.S.Source.rest c.next-found.new.source)) _ _ c.args.steps.now
          c.make_of.new.steps g.S.Source s.reader.now s.source.now y.source.now c.next-found.new.source n h.leaves
          h.keeps.whole e.reads e.at_end (λ x. e.ready (inl x)) c.next-found.result c.make_of.result m.makes e.numbers
          e.passes e.cause e.stops;
    })
