-- The lines of a text one after the other.
use Rattle.std.proofs.Common.{◌≡◌, ℕ, suc, ◌+◌, ◌<◌, Bool, true, false, List, [], ◌∷◌, ◌++◌, length, take, drop}
use Rattle.std.proofs.Common.{get_or, Some, None, refl, sym, ap, subst, inl, inr, ◌∙◌, arith}
use Rattle.std.proofs.lemmas.List.{take-append-drop, append-nil, append_assoc, drop_more}
use Rattle.rpl_unittest.specs.Comments.{Says, IsBad, AllSay, FirstBad, comment_of}
use Rattle.rpl_unittest.specs.inside.Words.{Tells}
use Rattle.rpl_unittest.specs.declared.test.Test.{Test}

say_more : (n : ℕ) (lines : List (List ℕ)) (line : List ℕ) (old here : List Test) → AllSay n lines old →
    Says (n + length lines) (comment_of line) here → AllSay n (lines ++ line ∷ []) (old ++ here)
say_more n [] line old here h s =
    let z : n + 0 ≡ n = omega arith in
    (here, [], subst (λ k. Says k (comment_of line) here) z s, refl, ap (λ x. x ++ here) h ∙ sym (append-nil here))
say_more n (l ∷ lines) line old here h s =
    let z : n + suc (length lines) ≡ n + 1 + length lines = omega arith in (
      h.0,
      h.1 ++ here,
      h.2,
      say_more (n + 1) lines line h.1 here h.3 (subst (λ k. Says k (comment_of line) here) z s),
      ap (λ x. x ++ here) h.4 ∙ append_assoc h.0 h.1 here,
    )

bad_next : (n : ℕ) (lines more : List (List ℕ)) (line : List ℕ) (old : List Test) → AllSay n lines old →
    IsBad (comment_of line) → FirstBad n (lines ++ line ∷ more) (n + length lines)
bad_next n [] more line old h b =
    let z : n + 0 ≡ n = omega arith in
    inl (b, z)
bad_next n (l ∷ lines) more line old h b =
    let z : n + 1 + length lines ≡ n + suc (length lines) = omega arith in
    inr (
      h.0,
      h.2,
      subst (λ k. FirstBad (n + 1) (lines ++ line ∷ more) k) z
          (bad_next (n + 1) lines more line h.1 h.3 b),
    )

-- one more line, with the tests that it says
pub said : (lines : List (List ℕ)) (line : List ℕ) (old here : List Test) (n : ℕ) → AllSay 1 lines old →
    n ≡ length lines → Says (n + 1) (comment_of line) here → AllSay 1 (lines ++ line ∷ []) (old ++ here)
said lines line old here n h e s =
    let z : n + 1 ≡ 1 + length lines = omega arith in
    say_more 1 lines line old here h (subst (λ k. Says k (comment_of line) here) z s)

pub unsaid : (lines : List (List ℕ)) (line : List ℕ) (old : List Test) (n : ℕ) → AllSay 1 lines old → n ≡ length lines →
    None ≡ comment_of line → AllSay 1 (lines ++ line ∷ []) old
unsaid lines line old n h e i =
    subst (λ x. AllSay 1 (lines ++ line ∷ []) x) (append-nil old)
    (said lines line old [] n h e (subst (λ o. Says (n + 1) o []) i refl))

pub told_more : (lines : List (List ℕ)) (line rest : List ℕ) (old new : List Test) (n : ℕ) (done : Bool) →
    AllSay 1 lines old → n ≡ length lines → Some rest ≡ comment_of line → Tells (n + 1) rest old new done →
    done ≡ true → AllSay 1 (lines ++ line ∷ []) new
told_more lines line rest old new n true h e i t d =
    subst (λ x. AllSay 1 (lines ++ line ∷ []) x) (sym t.2)
    (said lines line old t.0 n h e (subst (λ o. Says (n + 1) o t.0) i t.1))
told_more lines line rest old new n false h e i t d = absurd (cc)

bad_at : (all lines : List (List ℕ)) (line : List ℕ) (old : List Test) (n : ℕ) → lines ≡ take n all → n < length all →
    line ≡ get_or all n line → n ≡ length lines → AllSay 1 lines old → IsBad (comment_of line) → FirstBad 1 all (n + 1)
bad_at all lines line old n so lt at e h b =
    let z : 1 + length lines ≡ n + 1 = omega arith in
    let more = drop (n + 1) all in
    let tail : drop n all ≡ line ∷ more = drop_more all n line lt ∙ ap (λ x. x ∷ more) (sym at) in
    let parts : lines ++ line ∷ more ≡ all = ap (λ x. x ++ line ∷ more) so
    ∙ (ap (λ x. take n all ++ x) (sym tail) ∙ take-append-drop n all) in
    subst (λ x. FirstBad 1 x (n + 1)) parts
    (subst (λ k. FirstBad 1 (lines ++ line ∷ more) k) z (bad_next 1 lines more line old h b))

pub told_bad : (all lines : List (List ℕ)) (line rest : List ℕ) (old new : List Test) (n : ℕ) (done : Bool) →
    lines ≡ take n all → n < length all → line ≡ get_or all n line → n ≡ length lines → AllSay 1 lines old →
    Some rest ≡ comment_of line → Tells (n + 1) rest old new done → done ≡ false → FirstBad 1 all (n + 1)
told_bad all lines line rest old new n true so lt at e h i t d = absurd (cc)
told_bad all lines line rest old new n false so lt at e h i t d =
    bad_at all lines line old n so lt at e h (subst IsBad i t)

pub says_in : (tests : List Test) (xs ys : List (List ℕ)) → xs ≡ ys → AllSay 1 ys tests → AllSay 1 xs tests
says_in tests xs ys e h = subst (λ ls. AllSay 1 ls tests) (sym e) h
