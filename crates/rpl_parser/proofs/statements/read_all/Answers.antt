use Rattle.std.proofs.Common.{◌≡◌, suc, ◌<◌, length, sym, ap, subst, arith}
use Rattle.std.proofs.lemmas.Bool.Decides.{nat_tests}
use Rattle.std.proofs.lemmas.List.{length-drop}
use Rattle.std.proofs.lemmas.Result.{err_from_is_err_and}
use Rattle.rpl_syntax.specs.Modules.{said}
use Rattle.rpl_parser.specs.Tokens.{AllStand}
use Rattle.rpl_parser.specs.inside.Walked.{walk_of}
use Rattle.rpl_parser.specs.Walks.{walk, module_of}
use Rattle.rpl_parser.specs.Answers.{Answers}
use Rattle.rpl_parser.proofs.Walking.{stands_drop, stands_take, none_left, split_of, left_on, left_stop}
use Rattle.rpl_parser.proofs.statements.read_all.Goals as goal

pub pieces-init : goal.pieces-init
pieces-init c =
    let s = c.args.text.now in
    let ts = c.args.lexemes.now in
    record {
      stand = c.requires;
      walked = record {
        steps = suc (length ts);
        enough = omega arith;
        same = ap (λ w. walk (suc (length ts)) s w ts) c.new-walk.ensures;
      };
    }

pub split_at-requires : goal.split_at-requires
split_at-requires c = c.first_piece.ensures.inside

pub past-requires-clause-piece : goal.past-requires-clause-piece
past-requires-clause-piece c =
    subst (AllStand c.args.text.now) (sym c.split_at.ensures.front)
    (stands_take c.args.text.now c.pieces.left.now c.first_piece.result c.first_piece.ensures.inside
    c.pieces.invariant.stand)

pub past-requires-clause-rest : goal.past-requires-clause-rest
past-requires-clause-rest c =
    subst (AllStand c.args.text.now) (sym c.split_at.ensures.back)
    (stands_drop c.args.text.now c.pieces.left.now c.first_piece.result c.pieces.invariant.stand)

pub returns-in_err-past : goal.returns-in_err-past
returns-in_err-past c =
    let left = c.pieces.left.now in
    let more : 0 < length left = grind (arith, nat_tests) in
    let e = c.first_piece.ensures in
    let h = split_of c.args.text.now left _ _ c.first_piece.result more e.value e.some e.inside c.split_at.ensures.front
    c.split_at.ensures.back in
    let p = err_from_is_err_and c.from_residual.result c.from_residual.ensures.1 in
    rw (p.1, p.2) (
      λ ne. left_stop c.args.text.now (walk_of c.pieces.walk) left _ _ c.first_piece.result _ h
          c.pieces.invariant.walked c.in_err-past.field-0.0 (c.in_err-past.ensures.0 ne),
      c.in_err-past.ensures.1,
    )

pub pieces-preserved : goal.pieces-preserved
pieces-preserved c =
    let s = c.args.text.now in
    let left = c.pieces.left.now in
    let k = c.first_piece.result in
    let more : 0 < length left = grind (arith, nat_tests) in
    let e = c.first_piece.ensures in
    let h = split_of s left _ _ k more e.value e.some e.inside c.split_at.ensures.front c.split_at.ensures.back in
    record {
      stand = subst (AllStand s) (sym c.split_at.ensures.back) (stands_drop s left k c.pieces.invariant.stand);
      walked = left_on s (walk_of c.pieces.walk) left _ _ k _ h c.pieces.invariant.walked (walk_of c.past.new.walk)
          c.in_ok-past.ensures;
    }

pub pieces-smaller : goal.pieces-smaller
pieces-smaller c =
    let left = c.pieces.left.now in
    let k = c.first_piece.result in
    let more : 0 < length left = grind (arith, nat_tests) in
    let some = c.first_piece.ensures.some more in
    let e = ap length c.split_at.ensures.back in
    let d = length-drop k left in
    omega (arith, more, some, e, d)

pub returns : goal.returns
returns c =
    let none : length c.pieces.left.now ≡ 0 = grind (arith, nat_tests) in
    subst (Answers said c.finish.result)
    (sym (none_left c.args.text.now (walk_of c.pieces.walk) c.pieces.left.now
    (module_of c.args.text.now c.args.lexemes.now) c.pieces.invariant.walked none)) c.finish.ensures
