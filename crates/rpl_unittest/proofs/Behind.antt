-- What stands after the front of a line.
use Rattle.std.proofs.Common.{◌≡◌, ℕ, suc, ◌+◌, ◌-◌, ◌<◌, ◌≤◌, Bool, true, false, List, [], ◌∷◌, ◌++◌, length, drop}
use Rattle.std.proofs.Common.{get_or, Option, Some, None, refl, sym, ap, subst, ◌∙◌, arith}
use Rattle.std.proofs.Math.Seq.{drop-drop}
use Rattle.std.proofs.lemmas.List.{length-drop, get_or-drop}
use Rattle.std.specs.Prelude.{nat_eq, codes, if◌then◌else◌}
use Rattle.std.specs.Str.{IsUtf8, IsCharBoundary}
use Rattle.std.proofs.lemmas.Str.{IsCharBoundary-after_ascii}
use Rattle.std.proofs.lemmas.Bool.Decides.{nat_tests}
use Rattle.rpl_lexer.specs.Bytes.{is_space, run}
use Rattle.rpl_unittest.specs.Comments.{behind, trimmed, goes_on, if_test, comment_of}

same : (w b : ℕ) (x : Bool) (ws bs rest : List ℕ) → nat_eq w b ≡ x → (behind ws bs ≡ Some rest → bs ≡ ws ++ rest) →
    (if x then behind ws bs else None) ≡ Some rest → b ∷ bs ≡ w ∷ (ws ++ rest)
same w b true ws bs rest e ih h = let i = ih h in grind (arith, nat_tests)
same w b false ws bs rest e ih h = absurd (cc)

behind_parts : (ws bs rest : List ℕ) → behind ws bs ≡ Some rest → bs ≡ ws ++ rest
behind_parts [] bs rest e = cc
behind_parts (w ∷ ws) [] rest e = absurd (cc)
behind_parts (w ∷ ws) (b ∷ bs) rest e = same w b (nat_eq w b) ws bs rest refl (behind_parts ws bs rest) e

-- the rest of a line is what is left at a place between characters
pub record Rest (line rest : List ℕ) : Type 0 where
  pub less : length rest ≤ length line
  pub place : IsCharBoundary line (length line - length rest)
  pub left : drop (length line - length rest) line ≡ rest

rest_at : (line rest : List ℕ) (k : ℕ) → IsUtf8 line → drop k line ≡ 45 ∷ 45 ∷ rest → Rest line rest
rest_at line rest k u e =
    let n : length line - k ≡ suc (suc (length rest)) = sym (length-drop k line) ∙ ap length e in
    let at : length line - length rest ≡ k + 1 + 1 = omega arith in
    let byte : get_or line (k + 1) 0 ≡ 45 = sym (get_or-drop k line 1 0) ∙ ap (λ x. get_or x 1 0) e in
    let b : IsCharBoundary line (k + 1 + 1) = IsCharBoundary-after_ascii line (k + 1) u (omega arith)
    (subst (λ x. x < 128) (sym byte) (omega arith)) in
    let two : k + 1 + 1 ≡ k + 2 = omega arith in
    record {
      less = omega arith;
      place = subst (IsCharBoundary line) (sym at) b;
      left = ap (λ x. drop x line) (at ∙ two) ∙ (sym (drop-drop 2 k line) ∙ ap (drop 2) e);
    }

kept : (x : Bool) (r rest : List ℕ) → (if x then Some r else None) ≡ Some rest → r ≡ rest
kept true r rest e = cc
kept false r rest e = absurd (cc)

tested : (line rest : List ℕ) (o : Option (List ℕ)) → IsUtf8 line → behind (codes "--") (trimmed line) ≡ o →
    if_test o ≡ Some rest → Rest line rest
tested line rest None u e h = absurd (cc)
tested line rest (Some r) u e h =
    let k : r ≡ rest = kept (goes_on (behind (codes "test") (trimmed r))) r rest h in
    rest_at line rest (run is_space line) u (behind_parts (codes "--") (trimmed line) rest (e ∙ ap Some k))

-- the rest of a line after the front of a comment begins between characters, and is all that is left there
pub rest_of : (line rest : List ℕ) → IsUtf8 line → comment_of line ≡ Some rest → Rest line rest
rest_of line rest u e = tested line rest (behind (codes "--") (trimmed line)) u refl e
