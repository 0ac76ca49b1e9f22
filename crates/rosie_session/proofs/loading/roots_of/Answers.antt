use Rattle.std.proofs.Common.{List, ℕ, ◌<◌, ◌∙◌, ap, arith, length, sym}
use Rattle.std.specs.Prelude.{Option, Some}
use Rattle.rosie_repl.specs.States.{session_of}
use Rattle.rosie_session.proofs.Turns.{has_text, roots_more}
use Rattle.rosie_session.proofs.loading.roots_of.Goals as goal
use Rattle.rosie_session.proofs.loading.roots_of.Goals.{in-Some+in_ok-from_str+in_ok-push, in_default}

pub loop-index-preserved : goal.loop-index-preserved
loop-index-preserved c =
    let texts = (session_of c.args.state.now).now.texts in
    let k = c.loop-index.index in
    let some : List ℕ → Option (List ℕ) = λ text. Some text in
    elim c.match-text.branch [
      | in-Some+in_ok-from_str+in_ok-push w ↦
          w.roots-is ∙ w.in_ok-push.ensures.ok
          ∙ roots_more texts k c.loop-index.roots w.in_ok-from_str.field-0 c.loop-index.invariant
          (sym w.in-Some.ensures ∙ ap some (sym w.in_ok-from_str.ensures))
      | in_default w ↦
          let within : k < length texts = omega arith in
          absurd (has_text c.text.result texts k within c.text.ensures w.in_default.not-Some)
    ]
