use Rattle.std.proofs.Common.{sym}
use Rattle.std.specs.Prelude.{Err, Ok, chars}
use Rattle.rosie_repl.specs.States.{session_of}
use Rattle.rosie_run.specs.Unready.{HasAsked}
use Rattle.rosie_session.specs.Replay.{Turn}
use Rattle.rosie_session.specs.inside.Turning.{Judges}
use Rattle.rosie_session.proofs.Told.{same_turn}
use Rattle.rosie_session.proofs.Turns.{judged_asks, judged_ok, judged_told, judges_end, loaded_texts}
use Rattle.rosie_session.proofs.turn.load_change.Goals as goal

pub returns-in-Ok-clause-judges : goal.returns-in-Ok-clause-judges
returns-in-Ok-clause-judges g c = λ before w is.
    let after = session_of c.args.state.now in
    let l = w.goal after.now.texts (chars c.in-Pattern.pattern.now) in
    rw c.in-Pattern.is (λ t.
    let j = c.in-Ok.ensures.gives w is (judged_told g.F.Source.tells before after l t) in
    judged_ok before after l j.0 j.1)

pub returns-in-Pattern-clause-judges : goal.returns-in-Pattern-clause-judges
returns-in-Pattern-clause-judges g c = λ before w is.
    let after = session_of c.args.state.now in
    let l = w.goal after.now.texts (chars c.in-Pattern.pattern.now) in
    rw c.in-Pattern.is (λ t.
    let told = judged_told g.F.Source.tells before after l t in
    judges_end before after l c.in-Err.unready (c.in-Err.ensures.gives w is told))

pub returns-clause-judges : goal.returns-clause-judges
returns-clause-judges g c = λ before w is.
    let after = session_of c.args.state.now in
    same_turn g.F.Source.tells (λ (x : Turn). Judges c.load_texts.result x before after) _ _
    (sym (loaded_texts w c.args.edit.now before after c.in_default.not-Pattern))
    (c.load_texts.ensures.judges before after w is)

pub returns-in-Ok-clause-asked : goal.returns-in-Ok-clause-asked
returns-in-Ok-clause-asked g c = λ before w is.
    let after = session_of c.args.state.now in
    let l = w.goal after.now.texts (chars c.in-Pattern.pattern.now) in
    rw c.in-Pattern.is (λ t.
    judged_asks _ _ (Ok (tt {0})) before after l
    (c.in-Ok.ensures.asked w is (judged_told g.F.Source.tells before after l t)))

pub returns-in-Pattern-clause-asked : goal.returns-in-Pattern-clause-asked
returns-in-Pattern-clause-asked g c = λ before w is.
    let after = session_of c.args.state.now in
    let l = w.goal after.now.texts (chars c.in-Pattern.pattern.now) in
    rw c.in-Pattern.is (λ t.
    judged_asks {X = Unit {0}} _ _ (Err c.in-Err.unready) before after l
    (c.in-Err.ensures.asked w is (judged_told g.F.Source.tells before after l t)))

pub returns-clause-asked : goal.returns-clause-asked
returns-clause-asked g c = λ before w is.
    let after = session_of c.args.state.now in
    let asked0 = g.F.Source.asked c.args.files.now in
    let asked1 = g.F.Source.asked c.load_texts.new.files in
    same_turn g.F.Source.tells (λ (x : Turn). HasAsked asked0 asked1 c.load_texts.result x.asked) _ _
    (sym (loaded_texts w c.args.edit.now before after c.in_default.not-Pattern))
    (c.load_texts.ensures.asked before after w is)
