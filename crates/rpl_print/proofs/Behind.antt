-- What was there stays, where more is added after it, and can be had again.
use Rattle.std.proofs.Common.{◌≡◌, ℕ, ◌≤◌, List, [], ◌++◌, length, take, sym, ap, subst, ◌∙◌, arith, append_assoc}
use Rattle.std.proofs.Common.{length-append}
use Rattle.std.proofs.lemmas.List.{append-nil}
use Rattle.std.proofs.Math.Seq.{take-append_seam}
use Rattle.std.proofs.lemmas.Str.{IsCharBoundary-from_take}
use Rattle.std.specs.Str.{IsUtf8}
use Rattle.std.specs.String.Boundary.{IsSplitPoint}
use Rattle.rpl_print.specs.inside.Behind.{StandsBefore}

pub same_before : (old new : List ℕ) → new ≡ old → StandsBefore old new
same_before old new e = record { more = []; is = e ∙ sym (append-nil old) }

pub added_before : (old new more : List ℕ) → new ≡ old ++ more → StandsBefore old new
added_before old new more e = record { more = more; is = e }

pub then_before : (old now new : List ℕ) → StandsBefore old now → StandsBefore now new → StandsBefore old new
then_before old now new a b = record {
  more = a.more ++ b.more;
  is = b.is ∙ ap (λ x. x ++ b.more) a.is
      ∙ append_assoc old a.more b.more;
}

pub before_again : (old new : List ℕ) → StandsBefore old new → take (length old) new ≡ old
before_again old new s = ap (take (length old)) s.is ∙ take-append_seam old s.more

-- the text may be cut where it ended
pub may_cut : (old new : List ℕ) → IsUtf8 old → IsUtf8 new → StandsBefore old new → IsSplitPoint new (length old)
may_cut old new u v s =
    let within : length old ≤ length new = omega (arith, ap length s.is, length-append old s.more) in
    let there = IsCharBoundary-from_take new (length old) v within (subst IsUtf8 (sym (before_again old new s)) u) in
    (within, λ _. there.1)
