use Rattle.std.proofs.Common.{sym, subst}
use Rattle.std.proofs.lemmas.Result.{err_from_is_err_and}
use Rattle.rpl_parser.specs.Pieces.{closes_later}
use Rattle.rpl_parser.specs.Tokens.{tokens_of}
use Rattle.rpl_parser.specs.Walks.{by_place, place}
use Rattle.rpl_parser.specs.Answers.{Answers}
use Rattle.rpl_parser.specs.inside.Statements.{line_seen}
use Rattle.rpl_parser.specs.inside.Walked.{walk_of}
use Rattle.rpl_parser.proofs.Walking.{step_placed, step_refused}
use Rattle.rpl_parser.proofs.statements.past.Goals as goal

pub returns-in_err-line : goal.returns-in_err-line
returns-in_err-line c =
    let s = c.args.rest.text.now in
    let p = err_from_is_err_and c.from_residual.result c.from_residual.ensures.1 in
    rw (p.1, p.2) (
      λ ne. step_refused s (walk_of c.args.walk.now) (closes_later (tokens_of s c.args.rest.tokens.now))
          c.args.piece.now c.in_err-line.field-0.0 (c.in_err-line.ensures.piece.0 ne),
      c.in_err-line.ensures.piece.1,
    )

pub returns : goal.returns
returns c =
    let s = c.args.rest.text.now in
    let w = walk_of c.args.walk.now in
    let closes = closes_later (tokens_of s c.args.rest.tokens.now) in
    let l = line_seen c.in_ok-line.line in
    let b = c.in_ok-line.bad in
    let h = c.checked.ensures (walk_of c.place.new.self) (place w c.start_of-at.result closes l) c.place.ensures in
    subst (Answers (λ _. walk_of c.place.new.self) c.checked.result)
    (sym (step_placed s w closes c.args.piece.now l b c.in_ok-line.ensures.piece))
    (subst (λ a. Answers (λ _. walk_of c.place.new.self) c.checked.result (by_place a b (place w a closes l)))
    c.start_of-at.ensures h)
