use Rattle.std.proofs.Common.{◌≡◌, ◌<◌, ◌++◌, ℕ, List, get_or, ◌+◌, ◌∷◌, [], ◌∙◌, length, map, take, ap, sym, subst}
use Rattle.std.proofs.Common.{lit<}
use Rattle.std.proofs.lemmas.List.{map-append, length-append, length-map}
use Rattle.std.proofs.lemmas.Iterator.Splits.{YieldsList-from_str_split}
use Rattle.std.proofs.lemmas.Iterator.Consumers.{YieldsList-turn, YieldsList-end, YieldsList-so_far}
use Rattle.rpl_unittest.specs.Comments.{AllSay, lines_of}
use Rattle.rpl_unittest.proofs.More.{unsaid, told_more, told_bad, says_in}
use Rattle.rpl_unittest.proofs.Short.{tests_short}
use Rattle.rpl_unittest.proofs.reader.read_tests.Goals as goal

pub returns-then-not-branch-clause-bad : goal.returns-then-not-branch-clause-bad
returns-then-not-branch-clause-bad c =
    let w = c.args.text.now in
    let ys = c.loop-line.yielded in
    let n = c.loop-line.number in
    let road = YieldsList-from_str_split 10 w (lit< tt) (cc) (cc) (cc) in
    let t = YieldsList-turn road ys _ c.loop-line.yielded_by _ _ c.in-Some.line c.in-Some.is c.next.ensures.steps in
    let so = YieldsList-so_far road ys _ c.loop-line.yielded_by in
    let e : n ≡ length ys = c.loop-line.invariant.2 in
    told_bad (lines_of w) (map (λ p. p.now) ys) c.in-Some.line.now c.in-Some-comment_in.rest.now _ _ n _
    (subst (λ k. map (λ p. p.now) ys ≡ take k (lines_of w)) (sym e) so)
    (subst (λ k. k < length (lines_of w)) (sym e) t.0)
    (subst (λ k. c.in-Some.line.now ≡ get_or (lines_of w) k c.in-Some.line.now) (sym e) t.1)
    (e ∙ sym (length-map ys (λ p. p.now)))
    c.loop-line.invariant.3 c.in-Some-comment_in.ensures c.in_ok-push_comment-in-Some-comment_in.ensures
    c.if-not-branch.true

-- one line more
counted : {A : Type 0} (xs : List A) (x : A) (n : ℕ) → n ≡ length xs → n + 1 ≡ length (xs ++ x ∷ [])
counted xs x n e = ap (λ k. k + 1) e ∙ sym (length-append xs (x ∷ []))

pub loop-line-preserved : goal.loop-line-preserved
loop-line-preserved c =
    let ys = c.loop-line.yielded in
    let line = c.in-Some.line in
    let e = c.loop-line.invariant.2 in (
      tt,
      tt,
      counted ys line c.loop-line.number e,
      says_in c.push_comment.new.tests _ _ (map-append (λ p. p.now) ys (line ∷ []))
          (told_more (map (λ p. p.now) ys) line.now c.in-Some-comment_in.rest.now _ _ c.loop-line.number _
          c.loop-line.invariant.3 (e ∙ sym (length-map ys (λ p. p.now))) c.in-Some-comment_in.ensures
          c.in_ok-push_comment-in-Some-comment_in.ensures c.if-not-branch.false),
    )

pub loop-line-preserved-in-None-comment_in : goal.loop-line-preserved-in-None-comment_in
loop-line-preserved-in-None-comment_in c =
    let ys = c.loop-line.yielded in
    let l = c.loop-line in (
      tt,
      tt,
      counted ys c.in-Some.line l.number l.invariant.2,
      says_in l.tests _ _ (map-append (λ p. p.now) ys (c.in-Some.line ∷ []))
          (unsaid (map (λ p. p.now) ys) c.in-Some.line.now l.tests l.number l.invariant.3
          (l.invariant.2 ∙ sym (length-map ys (λ p. p.now))) c.in-None-comment_in.ensures),
    )

pub returns-clause-tests : goal.returns-clause-tests
returns-clause-tests c =
    let w = c.args.text.now in
    let road = YieldsList-from_str_split 10 w (lit< tt) (cc) (cc) (cc) in
    let t = YieldsList-end road c.loop-line.yielded _ c.loop-line.yielded_by _ _ c.in-None.is c.next.ensures.steps in
    subst (λ ls. AllSay 1 ls c.loop-line.tests) t.0 c.loop-line.invariant.3

pub returns-clause-short : goal.returns-clause-short
returns-clause-short c =
    let w = c.args.text.now in
    let road = YieldsList-from_str_split 10 w (lit< tt) (cc) (cc) (cc) in
    let t = YieldsList-end road c.loop-line.yielded _ c.loop-line.yielded_by _ _ c.in-None.is c.next.ensures.steps in
    tests_short w c.loop-line.tests c.utf8.text
    (subst (λ ls. AllSay 1 ls c.loop-line.tests) t.0 c.loop-line.invariant.3)
