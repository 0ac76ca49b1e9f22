-- What loading says of a line, and what is said then.
use Rattle.std.proofs.Common.{ℕ, ◌≡◌, ◌≢◌, ◌+◌, ◌<◌, ◌≤◌, Bool, true, false, cond, List, [], ◌∷◌, length}
use Rattle.std.proofs.Common.{◌++◌, get_or, length-drop, take, refl, sym, ◌∙◌, ap, subst, arith}
use Rattle.std.specs.Prelude.{Option, Some, None, Result, Ok, Err, IfErr, IfOk, IsErrAnd, chars, codes, encode_utf8_all}
use Rattle.std.specs.Prelude.{map}
use Rattle.std.specs.Borrow.{Bor}
use Rattle.std.specs.List.{after_first, before_first, list_any, position_or_len, slice_get}
use Rattle.std.specs.Option.{option_copied, option_map}
use Rattle.std.specs.Str.{IsUtf8, bytes_eq}
use Rattle.std.proofs.lemmas.Bool.{false≢true}
use Rattle.std.proofs.lemmas.List.{append-nil, map-append, take_more}
use Rattle.std.proofs.lemmas.Option.{get_or_from_slice_get, slice_get-get_or, slice_get_within}
use Rattle.rosie_io.specs.Loading.{NotFewer}
use Rattle.rosie_io.specs.declared.outside.Source.{Ghosts}
use Rattle.rosie_jobs.specs.Lines.{Job, match_makes}
use Rattle.rosie_jobs.specs.Makers.{Maker, Matches, makes_of}
use Rattle.rosie_jobs.proofs.OneLine.{spelled}
use Rattle.rosie_prepare.specs.Answers.{IsDue}
use Rattle.rosie_run.specs.Unready.{HasAsked, HasCause}
use Rattle.rosie_prepare.specs.Prepared.{IsPrepared, OrLine, Ready, TablePasses, Tree, PatternRequest}
use Rattle.rosie_run.specs.declared.unready.Unready.{Unready}
use Rattle.rosie_run.specs.declared.unready.Unready.TheVariants as U
use Rattle.rosie_prepare.proofs.Loads.{told_bytes}
use Rattle.rosie_repl.specs.Edits.{Edit, Add, Pattern, Try, Undo, by_sign, edit_of, in_chars, is_space}
use Rattle.rosie_repl.specs.Edits.{Remove, Replace, replaces}
use Rattle.rosie_repl.specs.Outcomes.{GoesOn}
use Rattle.rosie_repl.specs.Seen.{edit_seen}
use Rattle.rosie_repl.specs.Session.{KeptTexts, Session, changed, kept_by, onward, undone}
use Rattle.rosie_repl.specs.declared.edit.Edit.{Edit as Command}
use Rattle.rosie_repl.specs.declared.edit.Edit.TheVariants as C
use Rattle.rosie_run.specs.Made.{IsMade}
use Rattle.rosie_run.specs.Report.{Piece, fault_piece}
use Rattle.rosie_run.specs.Sources.{Moment, Still, moment_of}
use Rattle.rosie_run.specs.declared.mark.Mark.{Mark}
use Rattle.rosie_run.specs.declared.mark.Mark.TheVariants.{Miss}
use Rattle.rosie_run.proofs.Headlines.{few_of}
use Rattle.rpl_package.specs.Asking.{EndsWith, IsTold}
use Rattle.rpl_names.specs.Loading.{world}
use Rattle.rpl_names.specs.Roots.{Packages, load}
use Rattle.rpl_names.specs.declared.roots.Root.{Root}
use Rattle.rpl_names.specs.declared.roots.Root.TheVariants.{Given}
use Rattle.rpl_text.specs.Numbers.{number_of}
use Rattle.rosie_session.specs.Loading.{Compiles, IsGoalLoad, IsLoad, Load, Loading, given, kept_request}
use Rattle.rosie_session.specs.Replay.{
  Turn,
  change_turn,
  job_piece,
  judged,
  judged_by,
  load_turn,
  ok_piece,
  session_fault,
}
use Rattle.rosie_session.specs.Replay.{edit_turn, out_or_no, plain, tried_piece, try_turn, undo_turn}
use Rattle.rosie_session.specs.declared.session_end.SessionEnd.{SessionEnd}
use Rattle.rosie_session.specs.declared.session_end.SessionEnd.TheVariants as H
use Rattle.rosie_session.specs.declared.reply.Reply.{Reply}
use Rattle.rosie_session.specs.inside.Turning.{Asks, AsksFront, EndFiles, IsOwn, IsReply, JudgesEnd, Leaves, Says}
use Rattle.rosie_session.specs.inside.Turning.{StepsBy}

-- ---- the texts as roots

pub roots_more :
    (texts : List (List ℕ)) (k : ℕ) (roots : List Root) (text : List ℕ) → roots ≡ given (take k texts)
    → slice_get texts k ≡ Some text → roots ++ Given text ∷ [] ≡ given (take (k + 1) texts)
roots_more texts k roots text e at =
    let here = get_or_from_slice_get texts k text text at in
    ap (λ (rs : List Root). rs ++ Given text ∷ []) e
    ∙ ap (λ (t : List ℕ). given (take k texts) ++ Given t ∷ []) (sym here)
    ∙ sym (map-append Given (take k texts) (get_or texts k text ∷ []))
    ∙ ap given (sym (take_more texts k text (slice_get_within texts k text at)))

-- each number below their number is one of a text
pub has_text :
    (o : Option (Bor (List ℕ))) (texts : List (List ℕ)) (k : ℕ) → k < length texts
    → option_map chars (option_copied o) ≡ slice_get texts k → ((text : Bor (List ℕ)) → o ≢ Some text) → ⊥
has_text None texts k h e other = let there = slice_get-get_or texts k [] h in absurd (cc)
has_text (Some text) texts k h e other = other text refl

-- what stops a step goes out as it is
pub stops_through :
    {A : Type 0} (Holds : Result A Unready → Type 0) (r : Result A Unready) (u : Unready) → IsErrAnd r (λ e. e ≡ u)
    → Holds (Err u) → Holds r
stops_through Holds (Ok a) u h k = absurd h
stops_through Holds (Err e) u h k = subst (λ v. Holds (Err v)) (sym h) k

-- ---- the texts alone

pub texts_given :
    (tree : Tree) (folders texts : List (List ℕ)) (l : Load Packages) (roots : List Root) → roots ≡ given texts
    → IsLoad tree folders texts l → TablePasses (load (world tree folders) roots).answer l.answer
texts_given tree folders texts l roots e is =
    subst (λ (rs : List Root). TablePasses (load (world tree folders) rs).answer l.answer) (sym e) is.comes

pub texts_asked :
    (tree : Tree) (folders texts : List (List ℕ)) (l : Load Packages) (roots : List Root) → roots ≡ given texts
    → IsLoad tree folders texts l → map encode_utf8_all (load (world tree folders) roots).asked ≡ l.asked
texts_asked tree folders texts l roots e is =
    ap (λ (rs : List Root). map encode_utf8_all (load (world tree folders) rs).asked) e ∙ sym is.asked

pub judged_asked : {A : Type 0} (before after : Session) (asked : List (List ℕ)) (o : OrLine A)
    → (judged_by before after asked o).asked ≡ asked
judged_asked before after asked (Ok a) = refl
judged_asked before after asked (Err line) = refl

-- the load of a change is told where its turn is
pub judged_told :
    {A : Type 0} (tells : Type 0) (before after : Session) (l : Load A) → IsTold tells (judged before after l).asked
    → IsTold tells l.asked
judged_told tells before after l told = subst (IsTold tells) (judged_asked before after l.asked l.answer) told

pub texts_told :
    (tells : Type 0) (tree : Tree) (folders texts : List (List ℕ)) (l : Load Packages) (roots : List Root)
    (before after : Session) → roots ≡ given texts → IsLoad tree folders texts l
    → IsTold tells (judged before after l).asked → IsTold tells (load (world tree folders) roots).asked
texts_told tells tree folders texts l roots before after e is told =
    told_bytes tells (load (world tree folders) roots).asked
    (subst (IsTold tells) (sym (texts_asked tree folders texts l roots e is)) (judged_told tells before after l told))

-- what was loaded has no fault, and so the change stands
pub judged_ok :
    {A : Type 0} (before after : Session) (l : Load A) (a : A) → l.answer ≡ Ok a
    → ((judged before after l).piece ≡ ok_piece after) × ((judged before after l).session ≡ after)
judged_ok before after l a e = (
  ap (λ o. (judged_by before after l.asked o).piece) e,
  ap (λ o. (judged_by before after l.asked o).session) e,
)

-- or it has one
pub judges_end :
    {A : Type 0} (before after : Session) (l : Load A) (u : Unready) → IsDue u l.answer
    → JudgesEnd u (judged before after l) before
judges_end before after l U.NoMemory due = tt
judges_end before after l (U.Refused line) due = (
  ap (λ o. (judged_by before after l.asked o).piece) due,
  ap (λ o. (judged_by before after l.asked o).session) due,
)
judges_end before after l (U.ReadFault path) due = tt

-- what a load asked for, the turn of its change asked for
pub judged_asks :
    {A X : Type 0} (asked0 asked1 : List (List ℕ)) (r : Result X Unready) (before after : Session) (l : Load A)
    → HasAsked asked0 asked1 r l.asked → HasAsked asked0 asked1 r (judged before after l).asked
judged_asks asked0 asked1 r before after l =
    subst (HasAsked asked0 asked1 r) (sym (judged_asked before after l.asked l.answer))

-- but for a pattern the texts alone are loaded
pub loaded_texts :
    (w : Loading) (e : Command) (before after : Session) → ((text : _) → e ≢ C.Pattern text)
    → load_turn w (in_chars (edit_seen e)) before after ≡ judged before after (w.texts after.now.texts)
loaded_texts w (C.Pattern text) before after h = absurd (h text refl)
loaded_texts w _ before after h = refl

-- ---- the texts with a pattern

abbrev pub wanted_with : List (List ℕ) → List Root → List ℕ → PatternRequest
wanted_with folders roots text = record { roots = roots; folders = folders; text = text; fixed = false; find = false }

pub wanted_is :
    (folders texts : List (List ℕ)) (roots : List Root) (text : List ℕ) → roots ≡ given texts → IsUtf8 text
    → wanted_with folders roots text ≡ kept_request folders texts (chars text)
wanted_is folders texts roots text e u =
    ap (λ (rs : List Root). wanted_with folders rs text) e
    ∙ ap (λ (t : List ℕ). wanted_with folders (given texts) t) (sym (spelled text u))

pub goal_prepared :
    (tree : Tree) (folders texts : List (List ℕ)) (roots : List Root) (text : List ℕ) (l : Load Job)
    → roots ≡ given texts → IsUtf8 text → (h : IsGoalLoad tree (kept_request folders texts (chars text)) l)
    → IsPrepared tree (wanted_with folders roots text) l.asked h.ready
goal_prepared tree folders texts roots text l e u h =
    subst (λ (v : PatternRequest). IsPrepared tree v l.asked h.ready) (sym (wanted_is folders texts roots text e u))
    h.prepares

pub due_compiles :
    (u : Unready) (ready : OrLine Ready) (answer : OrLine Job) → IsDue u ready → Compiles ready answer → IsDue u answer
due_compiles (U.Refused line) ready answer due c = subst (λ (r : OrLine Ready). Compiles r answer) due c
due_compiles _ ready answer due c = tt

-- what comes after all was asked for asks for no more
pub own_asked : {X Y : Type 0} (r : Result X Unready) (y : Y) (asked0 asked1 all : List (List ℕ)) → IfErr r IsOwn
    → HasAsked asked0 asked1 (Ok y) all → HasAsked asked0 asked1 r all
own_asked (Ok x) y asked0 asked1 all own h = h
own_asked (Err U.NoMemory) y asked0 asked1 all own (ps, is, for) = (ps, is, ([], sym for ∙ sym (append-nil ps)))
own_asked (Err (U.Refused line)) y asked0 asked1 all own h = h
own_asked (Err (U.ReadFault path)) y asked0 asked1 all own h = absurd own

-- a load that has a result asked for all its paths
pub all_asked : {X : Type 0} (x : X) (asked0 asked1 all : List (List ℕ)) → HasAsked asked0 asked1 (Ok x) all
    → asked1 ≡ asked0 ++ all
all_asked x asked0 asked1 all (ps, is, for) = is ∙ ap (λ qs. asked0 ++ qs) for

-- before a load nothing was asked for
pub none_asked : {X : Type 0} (r : Result X Unready) (asked0 asked1 all : List (List ℕ)) → asked1 ≡ asked0
    → IsErrAnd r (λ u. u ≡ U.NoMemory) → HasAsked asked0 asked1 r all
none_asked (Ok x) asked0 asked1 all same none = absurd none
none_asked {X} (Err u) asked0 asked1 all same none =
    subst (λ v. HasAsked {X = X} asked0 asked1 (Err v) all) (sym none) ([], same ∙ sym (append-nil asked0), (all, refl))

pub own_cause : {A : Type 0} (r : Result A Unready) (f0 f1 : Moment) → IfErr r IsOwn → Still f0 f1 → HasCause r f0 f1
own_cause (Err U.NoMemory) f0 f1 own h = few_of f0 f1 h
own_cause (Err (U.ReadFault path)) f0 f1 own h = absurd own
own_cause _ f0 f1 own h = h

-- ---- what a turn asked for

module _ (asked0 asked1 all : List (List ℕ)) where
  -- by a load that stopped
  pub memory_front : (u : Unready) → u ≡ U.NoMemory → HasAsked {X = Unit {0}} asked0 asked1 (Err u) all
      → AsksFront all asked0 asked1 (λ last. Unit {0})
  memory_front U.NoMemory e h = record { last = h.0; front = h.2; asked = h.1; holds = tt }
  memory_front (U.Refused line) e h = absurd (cc)
  memory_front (U.ReadFault path) e h = absurd (cc)

  pub refused_asks : (u : Unready) (line : _) → u ≡ U.Refused line
      → HasAsked {X = Unit {0}} asked0 asked1 (Err u) all → asked1 ≡ asked0 ++ all
  refused_asks U.NoMemory line e h = absurd (cc)
  refused_asks (U.Refused other) line e h = h.1 ∙ ap (λ ps. asked0 ++ ps) h.2
  refused_asks (U.ReadFault path) line e h = absurd (cc)

  pub unread_front : (u : Unready) (path : List ℕ) → u ≡ U.ReadFault path
      → HasAsked {X = Unit {0}} asked0 asked1 (Err u) all
      → AsksFront all asked0 asked1 (EndsWith (encode_utf8_all path))
  unread_front u path e h =
      let k = subst (λ v. HasAsked {X = Unit {0}} asked0 asked1 (Err v) all) e h in record {
        last = k.0;
        front = (k.2.1, k.2.3);
        asked = k.1;
        holds = (k.2.0, k.2.2);
      }

  -- memory ran out after it
  pub memory_asks : (r : Result Reply SessionEnd) → IsErrAnd r (λ e. e ≡ H.NoMemory) → asked1 ≡ asked0 ++ all
      → Asks r all asked0 asked1
  memory_asks (Ok reply) none h = absurd none
  memory_asks (Err e) none h =
      subst (λ x. Asks (Err x) all asked0 asked1) (sym none)
      (record { last = all; front = ([], sym (append-nil all)); asked = h; holds = tt })

  -- or before anything was loaded
  pub none_asks : (r : Result Reply SessionEnd) → IsErrAnd r (λ e. e ≡ H.NoMemory) → asked1 ≡ asked0
      → Asks r all asked0 asked1
  none_asks (Ok reply) none h = absurd none
  none_asks (Err e) none h =
      subst (λ x. Asks (Err x) all asked0 asked1) (sym none)
      (record { last = []; front = (all, refl); asked = h ∙ sym (append-nil asked0); holds = tt })

  -- a turn that loads nothing
  pub loads_none : all ≡ [] → asked1 ≡ asked0 → asked1 ≡ asked0 ++ all
  loads_none none same = same ∙ sym (append-nil asked0) ∙ ap (λ ps. asked0 ++ ps) (sym none)

-- ---- changes

-- the number was no text's
pub change_asks : (w : Loading) (n : ℕ) (s now : Session) (e : Edit) (o : Option Session) (done : Bool)
    → GoesOn s now o done → done ≡ false → (change_turn w n s e o).asked ≡ []
change_asks w n s now e None done g off = refl
change_asks w n s now e (Some after) done g off = absurd (false≢true (sym off ∙ g.0))

pub change_none :
    (w : Loading) (n : ℕ) (s now : Session) (e : Edit) (o : Option Session) (done : Bool) (reply : Reply)
    → GoesOn s now o done → done ≡ false → IsReply reply (fault_piece (session_fault n (codes "bad command")))
    → Says reply (change_turn w n s e o) now
change_none w n s now e None done reply g off is = (is, g.1)
change_none w n s now e (Some after) done reply g off is = absurd (false≢true (sym off ∙ g.0))

pub change_some :
    (w : Loading) (n : ℕ) (s now : Session) (e : Edit) (o : Option Session) (done : Bool) → GoesOn s now o done
    → done ≡ true → change_turn w n s e o ≡ load_turn w e s now
change_some w n s now e None done g on = absurd (false≢true (sym g.0 ∙ on))
change_some w n s now e (Some after) done g on = ap (load_turn w e s) (sym g.1)

pub made_some :
    (s now : Session) (o : Option Session) (done : Bool) → GoesOn s now o done → done ≡ true → o ≡ Some now
made_some s now None done g on = absurd (false≢true (sym g.0 ∙ on))
made_some s now (Some after) done g on = ap (λ (x : Session). Some x) (sym g.1)

abbrev onto : Session → KeptTexts → Session
onto s k = record { now = k; past = s.now ∷ s.past }

back_by :
    (s mid final : Session) (o : Option KeptTexts) (back : Bool) → onward s o ≡ Some mid
    → GoesOn mid final (undone mid) back
    → final ≡ s
back_by s mid final None back e h = absurd (cc)
back_by s mid final (Some k) back e h =
    let made : Some (onto s k) ≡ Some mid = e in
    let m : mid ≡ onto s k = cc in
    (subst (λ (x : Session). GoesOn x final (undone x) back) m h).1

-- undoing a change that was made brings back what was kept before
pub back_made :
    (s mid final : Session) (e : Edit) (back : Bool) → changed e s ≡ Some mid → GoesOn mid final (undone mid) back
    → final ≡ s
back_made s mid final e back made h = back_by s mid final (kept_by e s.now) back made h

-- ---- undoing

pub undo_asks : (n : ℕ) (s : Session) (o : Option Session) → (undo_turn n s o).asked ≡ []
undo_asks n s None = refl
undo_asks n s (Some before) = refl

pub undo_none :
    {E : Type 0} (n : ℕ) (s now : Session) (o : Option Session) (done : Bool) (r : Result Reply E) → GoesOn s now o done
    → done ≡ false → IfOk r (λ reply. IsReply reply (fault_piece (session_fault n (codes "nothing to undo"))))
    → IfOk r (λ reply. Says reply (undo_turn n s o) now)
undo_none n s now None done (Ok reply) g off is = (is, g.1)
undo_none n s now (Some before) done (Ok reply) g off is = absurd (false≢true (sym off ∙ g.0))
undo_none n s now o done (Err e) g off is = tt

pub undo_some :
    {E : Type 0} (n : ℕ) (s now : Session) (o : Option Session) (done : Bool) (r : Result Reply E) → GoesOn s now o done
    → done ≡ true → IfOk r (λ reply. IsReply reply (ok_piece now)) → IfOk r (λ reply. Says reply (undo_turn n s o) now)
undo_some n s now None done (Ok reply) g on is = absurd (false≢true (sym g.0 ∙ on))
undo_some n s now (Some before) done (Ok reply) g on is =
    (subst (λ (x : Session). IsReply reply (ok_piece x)) g.1 is, g.1)
undo_some n s now o done (Err e) g on is = tt

-- ---- trying

module _ (w : Loading) (n : ℕ) (s : Session) (line : List ℕ) (o : Option (List ℕ)) where
  pub try_none :
      (reply : Reply) → o ≡ None → IsReply reply (fault_piece (session_fault n (codes "no pattern")))
      → Says reply (try_turn w n s o line) s
  try_none reply e is = (
    subst (λ (x : Option (List ℕ)). IsReply reply (try_turn w n s x line).piece) (sym e) is,
    ap (λ (x : Option (List ℕ)). (try_turn w n s x line).session) (sym e),
  )

  module _ (pattern : List ℕ) (is : o ≡ Some pattern) where
    as_tried : (answer : OrLine Job) → (w.goal s.now.texts pattern).answer ≡ answer
        → (try_turn w n s o line).piece ≡ tried_piece n line answer
    as_tried answer e = ap (λ (x : Option (List ℕ)). (try_turn w n s x line).piece) is ∙ ap (tried_piece n line) e

    stays : s ≡ (try_turn w n s o line).session
    stays = ap (λ (x : Option (List ℕ)). (try_turn w n s x line).session) (sym is)

    pub try_made :
        (reply : Reply) (ran : Job) → (w.goal s.now.texts pattern).answer ≡ Ok ran
        → IsReply reply (job_piece ran n line)
        → Says reply (try_turn w n s o line) s
    try_made reply ran e made = (subst (IsReply reply) (sym (as_tried (Ok ran) e)) made, stays)

    pub try_cost :
        (ran : Job) (before now : ℕ) → (w.goal s.now.texts pattern).answer ≡ Ok ran
        → now ≡ before + (job_piece ran n line).cost → now ≡ before + (try_turn w n s o line).piece.cost
    try_cost ran before now e cost = cost ∙ ap (λ (p : Piece). before + p.cost) (sym (as_tried (Ok ran) e))

    pub try_refused :
        (reply : Reply) (text : List ℕ) → (w.goal s.now.texts pattern).answer ≡ Err text
        → IsReply reply (fault_piece text)
        → Says reply (try_turn w n s o line) s
    try_refused reply text e made = (subst (IsReply reply) (sym (as_tried (Err text) e)) made, stays)

    pub refused_cost :
        (before : ℕ) (text : List ℕ) → (w.goal s.now.texts pattern).answer ≡ Err text
        → before ≡ before + (try_turn w n s o line).piece.cost
    refused_cost before text e = let z = ap (λ (p : Piece). p.cost) (as_tried (Err text) e) in omega arith

  pub none_cost : (before : ℕ) → o ≡ None → before ≡ before + (try_turn w n s o line).piece.cost
  none_cost before e = let z = ap (λ (x : Option (List ℕ)). (try_turn w n s x line).piece.cost) e in omega arith

-- ---- what costs no step

judged_cost : {A : Type 0} (before after : Session) (asked : List (List ℕ)) (o : OrLine A)
    → (judged_by before after asked o).piece.cost ≡ 0
judged_cost before after asked (Ok a) = refl
judged_cost before after asked (Err line) = refl

loaded_cost : (w : Loading) (e : Edit) (s now : Session) → (load_turn w e s now).piece.cost ≡ 0
loaded_cost w (Pattern text) s now =
    judged_cost s now (w.goal now.now.texts text).asked (w.goal now.now.texts text).answer
loaded_cost w _ s now = judged_cost s now (w.texts now.now.texts).asked (w.texts now.now.texts).answer

pub change_cost : (w : Loading) (n : ℕ) (s : Session) (e : Edit) (o : Option Session)
    → (change_turn w n s e o).piece.cost ≡ 0
change_cost w n s e None = refl
change_cost w n s e (Some after) = loaded_cost w e s after

pub undo_cost : (n : ℕ) (s : Session) (o : Option Session) → (undo_turn n s o).piece.cost ≡ 0
undo_cost n s None = refl
undo_cost n s (Some before) = refl

pub steps_none : (r : Result Reply SessionEnd) (t : Turn) (before : ℕ) → t.piece.cost ≡ 0 → StepsBy r t before before
steps_none (Ok reply) t before z = omega arith
steps_none (Err H.NoMemory) t before z = tt
steps_none (Err (H.Unread path)) t before z = refl

-- ---- what is told of a line that was tried

pub out_kept : (mark : Mark) (out : List ℕ) → mark ≢ Miss → out_or_no mark out ≡ out
out_kept Miss out h = absurd (h refl)
out_kept _ out h = refl

-- the job's texts, the one for `out` told
pub job_said :
    (mark : Mark) (out0 err0 text fault told copied : List ℕ) (m : Maker) (job : Job) (n : ℕ) (line : List ℕ)
    → m ≡ Matches plain job → IsMade mark out0 err0 (makes_of m (codes "(session)") n line) → text ≡ out0 → fault ≡ err0
    → told ≡ out_or_no mark text → copied ≡ fault
    → IsMade mark told copied (job_piece job n line)
job_said mark out0 err0 text fault told copied m job n line is made e f says g =
    let p = match_makes plain job (codes "(session)") n line in
    let k = subst (λ (x : Maker). IsMade mark out0 err0 (makes_of x (codes "(session)") n line)) is made in record {
      marks = k.marks;
      writes = says ∙ ap (out_or_no mark) (e ∙ k.writes) ∙ ap (λ (x : Mark). out_or_no x p.out) k.marks;
      tells = g ∙ f ∙ k.tells;
    }

pub job_cost :
    (m : Maker) (job : Job) (n : ℕ) (line : List ℕ) (before now : ℕ) → m ≡ Matches plain job
    → now ≡ before + (makes_of m (codes "(session)") n line).cost → now ≡ before + (job_piece job n line).cost
job_cost m job n line before now is e =
    subst (λ (x : Maker). now ≡ before + (makes_of x (codes "(session)") n line).cost) is e

-- ---- commands

no_removal : (o : Option ℕ) (t : List ℕ) → option_map Remove o ≢ Some (Try t)
no_removal None t e = absurd (cc)
no_removal (Some k) t e = absurd (cc)

no_replacement : (o : Option ℕ) (text t : List ℕ) → option_map (λ (k : ℕ). Replace k text) o ≢ Some (Try t)
no_replacement None text t e = absurd (cc)
no_replacement (Some k) text t e = absurd (cc)

no_replaces : (b : Bool) (o : Option ℕ) (text t : List ℕ)
    → cond b (option_map (λ (k : ℕ). Replace k text) o) None ≢ Some (Try t)
no_replaces true o text t e = no_replacement o text t e
no_replaces false o text t e = absurd (cc)

tried_by :
    (a b c d e : Bool) (rest t : List ℕ) (r m : Option Edit) → r ≢ Some (Try t) → m ≢ Some (Try t)
    → cond a (Some (Add rest)) (cond b r (cond c m (cond d (Some (Pattern rest)) (cond e (Some (Try rest)) None))))
    ≡ Some (Try t) → t ≡ rest
tried_by false true c d e rest t r m nr nm h = absurd (nr h)
tried_by false false true d e rest t r m nr nm h = absurd (nm h)
tried_by false false false false true rest t r m nr nm h = cc
tried_by _ _ _ _ _ rest t r m nr nm h = absurd (cc)

tried_sign : (sign rest t : List ℕ) → by_sign sign rest ≡ Some (Try t) → t ≡ rest
tried_sign sign rest t h =
    tried_by (bytes_eq sign (codes "+")) (bytes_eq sign (codes "=")) (bytes_eq sign (codes "-"))
    (bytes_eq sign (codes "?")) (bytes_eq sign (codes ">")) rest t (replaces rest) (option_map Remove (number_of rest))
    (no_replaces (list_any is_space rest) (number_of (before_first is_space rest)) (after_first is_space rest) t)
    (no_removal (number_of rest) t) h

short_by :
    (a b : Bool) (line t : List ℕ)
    → cond a (by_sign (before_first is_space line) (after_first is_space line)) (cond b (Some Undo) None) ≡ Some (Try t)
    → length t ≤ length line
short_by true b line t h =
    let e = ap length (tried_sign (before_first is_space line) (after_first is_space line) t h) in
    omega (arith, length-drop (position_or_len is_space line + 1) line)
short_by false true line t h = absurd (cc)
short_by false false line t h = absurd (cc)

-- a line that is tried is no longer than the line of its command
pub tried_short : (line t : List ℕ) → edit_of line ≡ Some (Try t) → length t ≤ length line
tried_short line t h = short_by (list_any is_space line) (bytes_eq line (codes "u")) line t h

pub edit_change :
    (w : Loading) (n : ℕ) (s : Session) (e : Command) → ((line : _) → e ≢ C.Try line) → e ≢ C.Undo
    → edit_turn w n s (Some (edit_seen e))
    ≡ change_turn w n s (in_chars (edit_seen e)) (changed (in_chars (edit_seen e)) s)
edit_change w n s (C.Try line) t u = absurd (t line refl)
edit_change w n s C.Undo t u = absurd (u refl)
edit_change w n s _ t u = refl

-- ---- out of memory

pub memory_leaves :
    {F : Type 0} (S : Ghosts F) (r : Result Reply SessionEnd) (old new : F) → NotFewer (S.taken old) (S.taken new)
    → S.tree new ≡ S.tree old → Still (moment_of S old) (moment_of S new) → IsErrAnd r (λ h. h ≡ H.NoMemory)
    → Leaves S r old new
memory_leaves S (Ok reply) old new taken tree still is = absurd is
memory_leaves S (Err session_end) old new taken tree still is = record {
  cause =
      subst (λ x. EndFiles x (moment_of S old) (moment_of S new)) (sym is)
      (few_of (moment_of S old) (moment_of S new) still);
  taken = taken;
  tree = tree;
}
