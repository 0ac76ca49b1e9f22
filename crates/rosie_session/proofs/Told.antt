-- The turns of a session in turn, and what is told of them.
use Rattle.std.proofs.Common.{◌≡◌, inl, inr, ℕ, List, [], ◌∷◌, ◌++◌, refl, ap, subst, ◌∙◌, ◌+◌, length, length-append}
use Rattle.std.proofs.Common.{append_assoc, sym, arith}
use Rattle.std.proofs.lemmas.List.{append-nil}
use Rattle.std.proofs.lemmas.Grind.{flat_map-append}
use Rattle.std.specs.List.{Contains}
use Rattle.std.proofs.lemmas.List.Elements.{Contains-append_left, Contains-append_right}
use Rattle.rpl_package.specs.Asking.{EndsWith, IsFront, IsTold}
use Rattle.rosie_session.specs.Asked.{AsksTurns, of_next}
use Rattle.rosie_session.specs.Replay.{Turn, asked_by, turn, turns_from}
use Rattle.std.specs.Prelude.{Some, slice_get}
use Rattle.std.proofs.lemmas.Option.{slice_get-get_or}
use Rattle.std.proofs.Math.Seq.{get_or-append_seam}
use Rattle.rosie_repl.specs.Session.{Session}
use Rattle.rosie_session.specs.Loading.{Loading}

-- the turn of the next line comes first
pub turns_next :
    (w : Loading) (n n' : ℕ) (s s' : Session) (line : List ℕ) (more ls : List (List ℕ)) → ls ≡ line ∷ more → n' ≡ n + 1
    → s' ≡ (turn w (n + 1) s line).session → turns_from w n s ls ≡ turn w (n + 1) s line ∷ turns_from w n' s' more
unfolding turns_from
turns_next w n n' s s' line more ls e count is =
    ap (turns_from w n s) e
    ∙ ap (λ k. turn w (n + 1) s line ∷ turns_from w k (turn w (n + 1) s line).session more) (sym count)
    ∙ ap (λ x. turn w (n + 1) s line ∷ turns_from w n' x more) (sym is)

pub turns_none : (w : Loading) (n : ℕ) (s : Session) (ls : List (List ℕ)) → ls ≡ [] → turns_from w n s ls ≡ []
unfolding turns_from
turns_none w n s ls e = ap (turns_from w n s) e

-- the turn after others
pub get_there : (done : List Turn) (next : Turn) (more : List Turn) → slice_get (done ++ next ∷ more) (length done)
    ≡ Some next
get_there done next more =
    slice_get-get_or (done ++ next ∷ more) (length done) next (omega (arith, length-append done (next ∷ more)))
    ∙ ap Some (get_or-append_seam done next more next)

none_left : {P : Type 0} (xs ys : List P) → xs ++ ys ≡ [] → xs ≡ []
none_left [] ys none = refl
none_left (x ∷ xs) ys none = absurd (cc)

none_right : {P : Type 0} (xs ys : List P) → xs ++ ys ≡ [] → ys ≡ []
none_right [] ys none = none
none_right (x ∷ xs) ys none = absurd (cc)

-- paths are told where they and others are
pub told_left : (T : Type 0) (xs ys : List (List ℕ)) → IsTold T (xs ++ ys) → IsTold T xs
told_left T xs ys (inl tells) = inl tells
told_left T xs ys (inr none) = inr (none_left xs ys none)

pub told_right : (T : Type 0) (xs ys : List (List ℕ)) → IsTold T (xs ++ ys) → IsTold T ys
told_right T xs ys (inl tells) = inl tells
told_right T xs ys (inr none) = inr (none_right xs ys none)

-- the later of some turns are told where all are
pub told_later : (T : Type 0) (all done later : List Turn) → all ≡ done ++ later → IsTold T (asked_by all)
    → IsTold T (asked_by later)
told_later T all done later split told =
    told_right T (asked_by done) (asked_by later)
    (subst (IsTold T) (ap asked_by split ∙ flat_map-append (λ (t : Turn). t.asked) done later) told)

-- what is said of a turn where it is told is said of the same turn
pub same_turn : (T : Type 0) (Holds : Turn → Type 0) (a b : Turn) → a ≡ b → (IsTold T a.asked → Holds a)
    → IsTold T b.asked → Holds b
same_turn T Holds a b e h = subst (λ (t : Turn). IsTold T t.asked → Holds t) e h

-- ---- what the turns ask for

-- one turn more was passed, and its paths asked for
pub asked_more : (done : List Turn) (t : Turn) (asked0 asked1 asked2 : List (List ℕ)) → asked1 ≡ asked0 ++ asked_by done
    → asked2 ≡ asked1 ++ t.asked → asked2 ≡ asked0 ++ asked_by (done ++ t ∷ [])
asked_more done t asked0 asked1 asked2 first then =
    then ∙ ap (λ ps. ps ++ t.asked) first ∙ append_assoc asked0 (asked_by done) t.asked
    ∙ ap (λ ps. asked0 ++ (asked_by done ++ ps)) (sym (append-nil t.asked))
    ∙ ap (λ ps. asked0 ++ ps) (sym (flat_map-append (λ (x : Turn). x.asked) done (t ∷ [])))

-- a front of the paths of the turn after those that were passed was asked for
pub asked_ahead :
    (all done more : List Turn) (k : ℕ) (asked0 asked1 asked2 last : List (List ℕ)) → all ≡ done ++ more
    → length done ≡ k → asked1 ≡ asked0 ++ asked_by done → IsFront last (of_next more) → asked2 ≡ asked1 ++ last
    → AsksTurns all asked0 asked2 k last
asked_ahead all done more k asked0 asked1 asked2 last split count first front then = record {
  passed = done;
  more = more;
  split = split;
  count = count;
  asked = then ∙ ap (λ ps. ps ++ last) first ∙ append_assoc asked0 (asked_by done) last;
  front = front;
}

-- no turn is to come
pub asked_all : (all done more : List Turn) (asked0 asked1 : List (List ℕ)) → all ≡ done ++ more → more ≡ []
    → asked1 ≡ asked0 ++ asked_by done → asked1 ≡ asked0 ++ asked_by all
asked_all all done more asked0 asked1 split none first =
    first ∙ ap (λ ts. asked0 ++ asked_by ts) (sym (split ∙ ap (λ ts. done ++ ts) none ∙ append-nil done))

some_next : (more : List Turn) (file : List ℕ) (last : List (List ℕ)) → IsFront last (of_next more) → EndsWith file last
    → (t : Turn) × (later : List Turn) × (more ≡ t ∷ later) × Contains t.asked file
some_next [] file last (rest, split) (front, ends) =
    let none = none_right front (file ∷ []) (sym ends ∙ none_left last rest (sym split)) in absurd (cc)
some_next (t ∷ later) file last (rest, split) (front, ends) = (
  t,
  later,
  refl,
  subst (λ ps. Contains ps file) (sym split)
      (Contains-append_left last rest file
      (subst (λ ps. Contains ps file) (sym ends)
      (Contains-append_right front (file ∷ []) file (0, omega arith, refl)))),
)

-- the path that was asked for last is one of the turn after k others
pub asked_at :
    (all : List Turn) (asked0 asked1 : List (List ℕ)) (k : ℕ) (last : List (List ℕ)) (file : List ℕ)
    → AsksTurns all asked0 asked1 k last → EndsWith file last
    → (t : Turn) × (slice_get all k ≡ Some t) × Contains t.asked file
asked_at all asked0 asked1 k last file a ends =
    let n = some_next a.more file last a.front ends in (
      n.0,
      ap (λ ts. slice_get ts k) (a.split ∙ ap (λ ts. a.passed ++ ts) n.2)
          ∙ subst (λ j. slice_get (a.passed ++ n.0 ∷ n.1) j ≡ Some n.0) a.count (get_there a.passed n.0 n.1),
      n.3,
    )
