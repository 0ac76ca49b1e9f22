use Rattle.std.proofs.Common.{refl, subst}
use Rattle.std.specs.Prelude.{Ok}
use Rattle.rosie_prepare.proofs.Loads.{asked_through}
use Rattle.rosie_run.specs.Unready.{HasAsked}
use Rattle.rosie_repl.specs.States.{session_of}
use Rattle.rosie_session.specs.Replay.{judged}
use Rattle.rosie_session.specs.inside.Turning.{Judges}
use Rattle.rosie_session.proofs.Turns.{judged_asks, judged_ok, judges_end, none_asked, stops_through, texts_asked}
use Rattle.rosie_session.proofs.Turns.{texts_given, texts_told}
use Rattle.rosie_session.proofs.loading.load_texts.Goals as goal

pub returns-clause-judges : goal.returns-clause-judges
returns-clause-judges g c = λ before after w is t.
    let texts = (session_of c.args.state.now).now.texts in
    let tree = g.F.Source.tree c.args.files.now in
    let told = texts_told g.F.Source.tells tree c.args.folders.now texts (w.texts texts) c.in_ok-roots.roots before
    after
    c.in_ok-roots.ensures (is.texts texts) t in
    judged_ok before after (w.texts texts) _
    (c.in_ok-prepare_rules.ensures.prepares told (w.texts texts).answer
    (texts_given tree c.args.folders.now texts (w.texts texts) c.in_ok-roots.roots c.in_ok-roots.ensures
    (is.texts texts)))

pub returns-in_err-prepare_rules-clause-judges : goal.returns-in_err-prepare_rules-clause-judges
returns-in_err-prepare_rules-clause-judges g c = λ before after w is t.
    let texts = (session_of c.args.state.now).now.texts in
    let tree = g.F.Source.tree c.args.files.now in
    let u = c.in_err-prepare_rules.field-0.0 in
    let told = texts_told g.F.Source.tells tree c.args.folders.now texts (w.texts texts) c.in_ok-roots.roots before
    after
    c.in_ok-roots.ensures (is.texts texts) t in
    stops_through (λ r. Judges r (judged before after (w.texts texts)) before after)
    c.from_residual-in_err-prepare_rules.result u c.from_residual-in_err-prepare_rules.ensures.1
    (judges_end before after (w.texts texts) u
    (c.in_err-prepare_rules.ensures.prepares told (w.texts texts).answer
    (texts_given tree c.args.folders.now texts (w.texts texts) c.in_ok-roots.roots c.in_ok-roots.ensures
    (is.texts texts))))

pub returns-in_err-roots-clause-asked : goal.returns-in_err-roots-clause-asked
returns-in_err-roots-clause-asked g c = λ before after w is t.
    none_asked c.from_residual.result _ _ _ refl c.from_residual.ensures.1

pub returns-in_err-prepare_rules-clause-asked : goal.returns-in_err-prepare_rules-clause-asked
returns-in_err-prepare_rules-clause-asked g c = λ before after w is t.
    let texts = (session_of c.args.state.now).now.texts in
    let tree = g.F.Source.tree c.args.files.now in
    let told = texts_told g.F.Source.tells tree c.args.folders.now texts (w.texts texts) c.in_ok-roots.roots before
    after
    c.in_ok-roots.ensures (is.texts texts) t in
    judged_asks _ _ c.from_residual-in_err-prepare_rules.result before after (w.texts texts)
    (subst (HasAsked _ _ c.from_residual-in_err-prepare_rules.result)
    (texts_asked tree c.args.folders.now texts (w.texts texts) c.in_ok-roots.roots c.in_ok-roots.ensures
    (is.texts texts))
    (asked_through _ _ _ c.from_residual-in_err-prepare_rules.result c.in_err-prepare_rules.field-0.0
    c.from_residual-in_err-prepare_rules.ensures.1 (c.in_err-prepare_rules.ensures.asked told)))

pub returns-clause-asked : goal.returns-clause-asked
returns-clause-asked g c = λ before after w is t.
    let texts = (session_of c.args.state.now).now.texts in
    let tree = g.F.Source.tree c.args.files.now in
    let told = texts_told g.F.Source.tells tree c.args.folders.now texts (w.texts texts) c.in_ok-roots.roots before
    after
    c.in_ok-roots.ensures (is.texts texts) t in
    judged_asks _ _ (Ok (tt {0})) before after (w.texts texts)
    (subst (HasAsked _ _ (Ok (tt {0})))
    (texts_asked tree c.args.folders.now texts (w.texts texts) c.in_ok-roots.roots c.in_ok-roots.ensures
    (is.texts texts))
    (c.in_ok-prepare_rules.ensures.asked told))
