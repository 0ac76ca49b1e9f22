use Rattle.std.proofs.Common.{◌∙◌, inl, sym}
use Rattle.rosie_session.proofs.Passing.{asks_next, gives_next, leaves_next}
use Rattle.rosie_session.proofs.run.SessionLinesPieceSource.next.Goals as goal

pub returns-clause-gives : goal.returns-clause-gives
returns-clause-gives g c = λ ps comes.
    let m = c.make_of.ensures in
    let e = rw (sym m.reader, sym m.input) at c.next-found.ensures in
    gives_next g.F.Source g.I.Source c.args.self.now c.make_of.new.self c.requires _ _ c.args.steps.now
    c.make_of.new.steps
    c.next-found.result c.make_of.result
    (record { numbers = e.numbers; passes = e.passes; cause = e.cause; stops = e.stops }) (rw (sym m.reader) at m.makes)
    (rw (sym m.reader) at m.asked, m.files) m.same.3 m.tree ps comes

pub returns-clause-left : goal.returns-clause-left
returns-clause-left g c = λ s n h.
    let m = c.make_of.ensures in
    let e = rw (sym m.reader, sym m.input) at c.next-found.ensures in record {
      keeps = record { whole = e.keeps.whole ∙ h.keeps.whole; most = e.keeps.most ∙ h.keeps.most };
      folders = m.same.3 ∙ h.folders;
      tree = m.tree ∙ h.tree;
      opens = e.opens ∙ h.opens;
      past_end = λ k. e.asked (h.knows k) ∙ h.past_end k;
      knows = λ k. e.knows (h.knows k);
      leaves = leaves_next g.F.Source g.I.Source c.args.self.now c.make_of.new.self c.requires _ _ c.args.steps.now
          c.make_of.new.steps s n h e.reads e.at_end (λ x. e.ready (inl x)) c.next-found.result c.make_of.result
          (record { numbers = e.numbers; passes = e.passes; cause = e.cause; stops = e.stops })
          (rw (sym m.reader) at m.makes)
          m.files;
      asks = asks_next g.F.Source g.I.Source c.args.self.now c.make_of.new.self c.requires _ _ c.args.steps.now
          c.make_of.new.steps s n h e.reads e.at_end (λ x. e.ready (inl x)) c.next-found.result c.make_of.result
          (record { numbers = e.numbers; passes = e.passes; cause = e.cause; stops = e.stops })
          (rw (sym m.reader) at m.makes) (rw (sym m.reader) at m.asked, m.files);
    }
