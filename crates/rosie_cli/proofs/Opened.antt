-- Which paths a call asked to be opened, from its planning, its run and its end.
use Rattle.std.proofs.Common.{ℕ, ◌≡◌, inl, inr, Bool, true, false, List, [], ◌∷◌, ◌++◌, refl, sym, ◌∙◌, ap, subst}
use Rattle.std.proofs.Common.{append_assoc, length}
use Rattle.std.specs.Prelude.{◌⊎◌, Result, Ok, Err, IfErr, IfOk, encode_utf8_all}
use Rattle.std.proofs.lemmas.Bool.{cases_Bool}
use Rattle.std.proofs.lemmas.List.{append-nil}
use Rattle.rosie_io.specs.declared.stop.ReadStop.{ReadStop}
use Rattle.rosie_io.specs.declared.stop.ReadStop.TheVariants as Y
use Rattle.rosie_jobs.specs.Lines.{line_reading}
use Rattle.rosie_jobs.specs.Makers.{Maker, makes_of}
use Rattle.rosie_run.specs.Asked.{AsksInputs, CutInLast, files_among}
use Rattle.rosie_run.specs.Closing.{Closes, stop_status}
use Rattle.rosie_run.specs.Course.{Course}
use Rattle.rosie_run.specs.Lines.{input_message, stop_text}
use Rattle.rosie_run.specs.Outputs.{Telling, Texts}
use Rattle.rosie_run.specs.Headline.{Headline}
use Rattle.rosie_run.specs.Report.{flags_status, has, is_stop, up_to_stop}
use Rattle.rosie_run.specs.Runs.{GoesOn, IsCutOf, IsNoCut}
use Rattle.rosie_run.specs.Runs as R
use Rattle.rosie_run.specs.Sources.{Moment, Span, Still}
use Rattle.rosie_run.specs.Unready.{HasAsked}
use Rattle.rosie_run.specs.declared.ended.Ended.{Ended}
use Rattle.rosie_run.specs.declared.ended.Ended.TheVariants as E
use Rattle.rosie_run.specs.declared.lines.Reading.{Reading}
use Rattle.rosie_run.specs.declared.status.Status.{Status}
use Rattle.rosie_run.specs.declared.status.Status.TheVariants.{NoMemory, Refused}
use Rattle.rosie_run.proofs.Headlines.{headline}
use Rattle.rosie_run.specs.declared.tally.Tally.{Tally}
use Rattle.rosie_run.specs.declared.tool.Tool.{Tool}
use Rattle.rosie_run.specs.declared.tool.Tool.TheVariants.{Rosie}
use Rattle.rosie_run.specs.declared.unready.Unready.TheVariants as U
use Rattle.rpl_package.specs.Asking.{IsFront}
use Rattle.rosie_session.specs.Asked.{AsksRun, AsksTill, of_next}
use Rattle.rosie_session.specs.Loading.{Loading}
use Rattle.rosie_session.specs.Replay.{asked_by, asked_in, pieces_of, replay, turns}
use Rattle.rosie_cli.specs.Opened.{AskedBy, AskedInTurns, CameTo, EndsAmong, EndsIn, HidesNoInput, HidesNoRead}
use Rattle.rosie_cli.specs.Opened.{IsNamed, IsOverInputs, GoesPast, OnTheWay, Opened, OpenedFor, SomeTurns}
use Rattle.rosie_cli.specs.Opened.{in_inputs, in_loading}
use Rattle.rosie_cli.specs.Opened.{over_inputs, with_files}
use Rattle.rosie_cli.specs.Plans.{KnowsInputs, Plan, Planned, Replays, RunsOnInputs, Samples, Says, Tries, Writes}
use Rattle.rosie_cli.specs.Plans.{inputs_of, pieces, refusal, report}
use Rattle.rosie_cli.specs.declared.plan.Plan as C
use Rattle.rosie_cli.specs.inside.Planning.{IsSaid}
use Rattle.rosie_cli.specs.inside.Running.{AskedTo, IsStopped, RunAsked, RunHidesNoRead, alone}
use Rattle.rosie_cli.proofs.Calls.{goes_unrefused}
use Rattle.rosie_cli.proofs.NoSession.{IsNoSession}

none_at : {A : Type 0} (first : List A) (x : A) (more : List A) → [] ≡ first ++ x ∷ more → ⊥
none_at [] x more e = absurd (cc)
none_at (y ∷ first) x more e = absurd (cc)

-- ---- a run that came to no input

came_none : (Stopped : Type 0) (Till : (front back paths : List (List ℕ)) → Type 0) (c : Course) (p : Planned)
    (before now paths : List (List ℕ)) → (Stopped → ⊥) → now ≡ before ++ paths → Till [] (inputs_of p.plan) paths
    → CameTo Stopped Till c p before now
came_none Stopped Till c p before now paths none is till = record {
  front = [];
  back = inputs_of p.plan;
  inputs = refl;
  paths = paths;
  asked = is;
  till = till;
  goes_on = λ first last e. absurd (none_at first last [] e);
  ended = λ stopped. absurd (none stopped);
}

-- memory ran out on the way to the plan
pub memory_asked : (c : Course) (p : Planned) (before now : List (List ℕ))
    → HasAsked {X = C.Plan} before now (Err U.NoMemory) p.asked → RunAsked (Err E.NoMemory) c p before now
memory_asked c p before now (ps, is, (more, split)) =
    came_none _ _ c p before now ps (λ stopped. stopped) is (more, append-nil p.asked ∙ split)

-- a read failed on the way to the plan
pub unread_asked : (e : Ended) (c : Course) (p : Planned) (path file : List ℕ) (before now : List (List ℕ))
    → IsCutOf e c.tells.tool Y.ReadFault file → file ≡ encode_utf8_all path
    → HasAsked {X = C.Plan} before now (Err (U.ReadFault path)) p.asked → RunAsked (Err e) c p before now
unread_asked E.NoMemory c p path file before now cut is (ps, asked, (front, more, last, split)) =
    came_none _ _ c p before now ps (λ stopped. stopped) asked (more, append-nil p.asked ∙ split)
unread_asked E.WriteFault c p path file before now cut is h = absurd cut
unread_asked (E.Cut why text) c p path file before now cut is (ps, asked, (front, more, last, split)) =
    came_none _ _ c p before now ps (λ stopped. stopped) asked (
      file,
      in_loading cut.0 (more, split) (front, last ∙ ap (λ x. front ++ x ∷ []) (sym is)),
      cut.1 ∙ ap (λ w. input_message c.tells.tool file (stop_text w)) (sym cut.0),
    )

-- ---- a plan that only says something

said_inputs : (plan : Plan) → IsSaid plan → inputs_of plan ≡ []
said_inputs (Says ps) is = refl
said_inputs (Writes bytes) is = refl
said_inputs (Tries b trials) is = refl
said_inputs (RunsOnInputs m whole names) is = absurd is
said_inputs (Samples r) is = refl
said_inputs (Replays w) is = absurd is

said_over : (plan : Plan) → IsSaid plan → IsOverInputs plan → ⊥
said_over (RunsOnInputs m whole names) is over = absurd is
said_over _ is over = absurd over

said_to : (r : Result Tally Ended) (tool : Tool) (p : Planned) → IfErr r IsNoCut → AskedTo r tool p [] [] p.asked
said_to (Ok tally) tool p h = (λ _. refl, sym (append-nil p.asked))
said_to (Err E.NoMemory) tool p h = ([], refl)
said_to (Err E.WriteFault) tool p h = ([], refl)
said_to (Err (E.Cut why text)) tool p h = absurd h

pub said_asked : (r : Result Tally Ended) (c : Course) (p : Planned) (plan : Plan) (before now : List (List ℕ))
    → p.plan ≡ plan → IsSaid plan → IfErr r IsNoCut → now ≡ before ++ p.asked → RunAsked r c p before now
said_asked r c p plan before now is said no_cut asked = record {
  front = [];
  back = [];
  inputs = ap inputs_of is ∙ said_inputs plan said;
  paths = p.asked;
  asked = asked;
  till = said_to r c.tells.tool p no_cut;
  goes_on = λ first last e. absurd (none_at first last [] e);
  ended = λ stopped over. absurd (said_over plan said (subst IsOverInputs is over));
}

pub said_alone : (r : Result Tally Ended) (c : Course) (plan known : Plan) (asked : List (List ℕ)) → plan ≡ known
    → IsSaid known → IfErr r IsNoCut → RunAsked r c (alone plan) asked asked
said_alone r c plan known asked is said no_cut =
    said_asked r c (alone plan) known asked asked is said no_cut (sym (append-nil asked))

-- ---- a plan that runs on inputs

over_to : (r : Result Tally Ended) (tool : Tool) (p : Planned) (front back : List (List ℕ)) → GoesOn r (back ≡ [])
    → IfErr r (CutInLast tool front) → AskedTo r tool p front back (with_files p front)
over_to (Ok tally) tool p front back all cut = (all, refl)
over_to (Err E.NoMemory) tool p front back all cut = ([], sym (append-nil (with_files p front)))
over_to (Err E.WriteFault) tool p front back all cut = ([], sym (append-nil (with_files p front)))
over_to (Err (E.Cut why text)) tool p front back all (before, last, is, says) =
    (last, in_inputs (before, is) refl, says)

over_ended : (s : Result Tally Ended) (P : Type 0) → IfOk s (λ tally. tally.stop ≡ true → P) → IsStopped s → P
over_ended (Ok tally) P h stopped = h stopped
over_ended (Err e) P h stopped = absurd stopped

over_asked : (s : Result Tally Ended) (c : Course) (m : Maker) (whole : Bool) (names before now : List (List ℕ))
    → Rosie ≡ c.tells.tool → AsksInputs s (makes_of m) (line_reading whole) names c before now
    → RunAsked s c (alone (RunsOnInputs m whole names)) before now
over_asked s c m whole names before now tool h = record {
  front = h.front;
  back = h.back;
  inputs = h.split;
  paths = files_among h.front;
  asked = h.asked;
  till = over_to s c.tells.tool (alone (RunsOnInputs m whole names)) h.front h.back h.all
      (subst (λ t. IfErr s (CutInLast t h.front)) tool h.cut);
  goes_on = λ first last e known. h.goes_on known first last e;
  ended = λ stopped over known. over_ended s _ (h.ended known) stopped;
}

-- the run over the same plan, and over the same names
pub match_asked : (s : Result Tally Ended) (c : Course) (m : Maker) (whole : Bool) (names names' : List (List ℕ))
    (r : Reading) (plan : Plan) (before now : List (List ℕ)) → plan ≡ RunsOnInputs m whole names → names' ≡ names
    → r ≡ line_reading whole → Rosie ≡ c.tells.tool → AsksInputs s (makes_of m) r names' c before now
    → RunAsked s c (alone plan) before now
match_asked s c m whole names names' r plan before now is n e tool h =
    subst (λ x. RunAsked s c (alone x) before now) (sym is)
    (over_asked s c m whole names before now tool
    (subst (λ x. AsksInputs s (makes_of m) (line_reading whole) x c before now) n
    (subst (λ x. AsksInputs s (makes_of m) x names' c before now) e h)))

-- ---- the run of a plan after its planning

after_to : (r : Result Tally Ended) (tool : Tool) (p : Planned) (plan : Plan) (front back paths : List (List ℕ))
    → AskedTo r tool (alone plan) front back paths → AskedTo r tool p front back (p.asked ++ paths)
after_to (Ok tally) tool p plan front back paths (all, is) = (all, ap (λ xs. p.asked ++ xs) is)
after_to (Err E.NoMemory) tool p plan front back paths (more, is) =
    (more, ap (λ xs. p.asked ++ xs) is ∙ sym (append_assoc p.asked paths more))
after_to (Err E.WriteFault) tool p plan front back paths (more, is) =
    (more, ap (λ xs. p.asked ++ xs) is ∙ sym (append_assoc p.asked paths more))
after_to (Err (E.Cut why text)) tool p plan front back paths (file, in_loading w (more, split) (first, last), says) =
    absurd (none_at first file more (split ∙ ap (λ xs. xs ++ more) last ∙ append_assoc first (file ∷ []) more))
after_to (Err (E.Cut why text)) tool p plan front back paths (file, in_inputs ends is, says) =
    (file, in_inputs ends (ap (λ xs. p.asked ++ xs) is), says)

-- what is told of the plan before its planning is told after it
pub past_later : (files input : Type 0) (tree tree' : List (List ℕ × List ℕ)) (rest : List ℕ) (now plan : Plan)
    (names : List (List ℕ)) → now ≡ plan → tree' ≡ tree
    → (KnowsInputs plan files input rest → has is_stop (pieces (over_inputs plan names) tree' rest) ≡ false)
    → KnowsInputs now files input rest → has is_stop (pieces (over_inputs now names) tree rest) ≡ false
past_later files input tree tree' rest now plan names is same h known =
    subst (λ x. has is_stop (pieces (over_inputs x names) tree rest) ≡ false) (sym is)
    (subst (λ x. has is_stop (pieces (over_inputs plan names) x rest) ≡ false) same
    (h (subst (λ x. KnowsInputs x files input rest) is known)))

pub ends_later : (files input : Type 0) (tree tree' : List (List ℕ × List ℕ)) (rest : List ℕ) (now plan : Plan)
    (names : List (List ℕ)) → now ≡ plan → tree' ≡ tree
    → (IsOverInputs plan → KnowsInputs plan files input rest
    → has is_stop (pieces (over_inputs plan names) tree' rest) ≡ true)
    → IsOverInputs now → KnowsInputs now files input rest
    → has is_stop (pieces (over_inputs now names) tree rest) ≡ true
ends_later files input tree tree' rest now plan names is same h over known =
    subst (λ x. has is_stop (pieces (over_inputs x names) tree rest) ≡ true) (sym is)
    (subst (λ x. has is_stop (pieces (over_inputs plan names) x rest) ≡ true) same
    (h (subst IsOverInputs is over) (subst (λ x. KnowsInputs x files input rest) is known)))

pub planned_asked : (r : Result Tally Ended) (c' c : Course) (p : Planned) (plan : Plan) (before mid now :
    List (List ℕ)) → p.plan ≡ plan → mid ≡ before ++ p.asked → RunAsked r c' (alone plan) mid now
    → c'.tells.tool ≡ c.tells.tool → ((names : List (List ℕ)) → GoesPast c' plan names → GoesPast c p.plan names)
    → ((names : List (List ℕ)) → EndsAmong c' plan names → EndsAmong c p.plan names) → RunAsked r c p before now
planned_asked r c' c p plan before mid now is made h tool past ends = record {
  front = h.front;
  back = h.back;
  inputs = ap inputs_of is ∙ h.inputs;
  paths = p.asked ++ h.paths;
  asked = h.asked ∙ ap (λ xs. xs ++ h.paths) made ∙ append_assoc before p.asked h.paths;
  till = after_to r c.tells.tool p plan h.front h.back h.paths
      (subst (λ t. AskedTo r t (alone plan) h.front h.back h.paths) tool h.till);
  goes_on = λ first last e. past first (h.goes_on first last e);
  ended = λ stopped. ends h.front (h.ended stopped);
}

-- ---- the status

module _ (c : Course) (p : Planned) (front back paths : List (List ℕ)) where
  by_flags : (stop f h : Bool) → (stop ≡ false → back ≡ []) → paths ≡ with_files p front
      → AskedBy (flags_status stop f h) c p front back paths
  by_flags true f h all is = is
  by_flags false true h all is = (all refl, is)
  by_flags false false true all is = (all refl, is)
  by_flags false false false all is = (all refl, is)

  by_why : (why : ReadStop) (file : List ℕ) → EndsIn why p front file paths → IsNamed c why file
      → AskedBy (stop_status why) c p front back paths
  by_why Y.ReadFault file ends named = (file, ends, named)
  by_why Y.Spent file ends named = (file, ends, named)

  whole_front : paths ≡ with_files p front → IsFront paths (with_files p front)
  whole_front is = ([], sym is ∙ sym (append-nil paths))

  ends_front : (why : ReadStop) (file : List ℕ) → EndsIn why p front file paths → IsFront paths (with_files p front)
  ends_front why file (in_loading w (more, split) ends) = (
    more ++ files_among front,
    ap (λ xs. xs ++ files_among front) split ∙ append_assoc paths more (files_among front),
  )
  ends_front why file (in_inputs ends is) = whole_front is

  by_end : (r : Result Tally Ended) (s : Status) (mid : Texts) → Closes r s c.tells mid c.after
      → AskedTo r c.tells.tool p front back paths → AskedBy s c p front back paths
  by_end (Ok tally) s mid (stays, inl e) (all, is) =
      subst (λ x. AskedBy x c p front back paths) (sym e) (by_flags tally.stop tally.fault tally.hit all is)
  by_end (Ok tally) s mid (stays, inr e) (all, is) =
      subst (λ x. AskedBy x c p front back paths) (sym e) (whole_front is)
  by_end (Err E.NoMemory) s mid (stays, e) h = subst (λ x. AskedBy x c p front back paths) (sym e) h
  by_end (Err E.WriteFault) s mid (stays, e) h = subst (λ x. AskedBy x c p front back paths) (sym e) h
  by_end (Err (E.Cut why text)) s mid (out, number, steps, inl (e, err)) (file, ends, says) =
      subst (λ x. AskedBy x c p front back paths) (sym e)
      (by_why why file ends (λ t. (mid.err, err t ∙ ap (λ x. mid.err ++ x) says)))
  by_end (Err (E.Cut why text)) s mid (out, number, steps, inr (e, err)) (file, ends, says) =
      subst (λ x. AskedBy x c p front back paths) (sym e) (ends_front why file ends)

any_opened : (plan : Plan) (s : Status) (c : Course) (p : Planned) (before now : List (List ℕ)) → IsNoSession plan
    → CameTo (s ≡ Refused) (AskedBy s c p) c p before now → OpenedFor plan s c p before now
any_opened (Replays w) s c p before now none h = absurd none
any_opened _ s c p before now none h = h

-- a call is refused only where a piece ended its run
refused_stopped : (r : Result Tally Ended) (s : Status) (W : Telling) (b d : Texts) → Closes r s W b d → s ≡ Refused
    → IsStopped r
refused_stopped (Ok tally) s W b d closes e = elim (cases_Bool tally.stop) [
  | inl is ↦ is
  | inr off ↦ absurd (goes_unrefused (Ok tally) s W b d closes off e)
]
refused_stopped (Err ended) s W b d closes e = absurd (goes_unrefused (Err ended) s W b d closes tt e)

-- what a call asked for, from its run and its end
pub opened_run : (r : Result Tally Ended) (s : Status) (c : Course) (p : Planned) (mid : Texts)
    (before now : List (List ℕ)) → IsNoSession p.plan → Closes r s c.tells mid c.after → RunAsked r c p before now
    → Opened s c p before now
opened_run r s c p mid before now none closes h =
    any_opened p.plan s c p before now none (record {
      front = h.front;
      back = h.back;
      inputs = h.inputs;
      paths = h.paths;
      asked = h.asked;
      till = by_end c p h.front h.back h.paths r s mid closes h.till;
      goes_on = h.goes_on;
      ended = λ e. h.ended (refused_stopped r s c.tells mid c.after closes e);
    })

-- words that are refused
pub refused_opened : (r : Result Tally Ended) (s : Status) (c : Course) (p : Planned) (text : List ℕ) (mid : Texts)
    (asked : List (List ℕ)) → p ≡ alone (refusal text) → IfErr r IsNoCut → Closes r s c.tells mid c.after
    → Opened s c p asked asked
refused_opened r s c p text mid asked is no_cut closes =
    subst (λ (q : Planned). Opened s c q asked asked) (sym is)
    (opened_run r s c (alone (refusal text)) mid asked asked tt closes
    (said_alone r c (refusal text) (refusal text) asked refl tt no_cut))

-- where memory ran out before anything was asked for
pub none_opened : (plan : Plan) (s : Status) (c : Course) (p : Planned) (asked : List (List ℕ)) → s ≡ NoMemory
    → OpenedFor plan s c p asked asked
none_opened (Replays w) s c p asked e = λ known.
    let all = turns w c.input.before.rest in
    subst (λ x. AskedInTurns x c w asked asked) (sym e) (
      0,
      [],
      record {
        passed = [];
        more = all;
        split = refl;
        count = refl;
        asked = sym (append-nil asked);
        front = (of_next all, refl);
      },
    )
none_opened _ s c p asked e =
    subst (λ x. CameTo (x ≡ Refused) (AskedBy x c p) c p asked asked) (sym e)
    (came_none (NoMemory ≡ Refused) (AskedBy NoMemory c p) c p asked asked [] (λ is. absurd (cc))
    (sym (append-nil asked)) (with_files p [], refl))

-- ---- sessions

module _ (c : Course) (w : Loading) (before now : List (List ℕ)) where
  turns_whole : now ≡ before ++ asked_in w c.input.before.rest → SomeTurns c w before now
  turns_whole is =
      let all = turns w c.input.before.rest in (
        length all,
        [],
        record {
          passed = all;
          more = [];
          split = sym (append-nil all);
          count = refl;
          asked = is ∙ ap (λ xs. before ++ xs) (sym (append-nil (asked_by all)));
          front = ([], refl);
        },
      )

  turns_flags : (stop f h : Bool) → now ≡ before ++ asked_in w c.input.before.rest
      → AskedInTurns (flags_status stop f h) c w before now
  turns_flags true f h is = is
  turns_flags false true h is = is
  turns_flags false false true is = is
  turns_flags false false false is = is

  turns_left : (why : ReadStop) → Headline (stop_status why) c.tells (up_to_stop (replay w c.input.before.rest))
      (AsksTill (turns w c.input.before.rest) before now) c.before c.after
      → AskedInTurns (stop_status why) c w before now
  unfolding report
  turns_left Y.ReadFault h = h
  turns_left Y.Spent h = h

  turns_end : (r : Result Tally Ended) (s : Status) (mid : Texts) → Closes r s c.tells mid c.after
      → AsksRun r c.tells (turns w c.input.before.rest) before now c.before mid → AskedInTurns s c w before now
  turns_end (Ok tally) s mid (stays, inl e) h =
      subst (λ x. AskedInTurns x c w before now) (sym e) (turns_flags tally.stop tally.fault tally.hit h)
  turns_end (Ok tally) s mid (stays, inr e) h =
      subst (λ x. AskedInTurns x c w before now) (sym e) (turns_whole h)
  turns_end (Err E.NoMemory) s mid (stays, e) h = subst (λ x. AskedInTurns x c w before now) (sym e) h
  turns_end (Err E.WriteFault) s mid (stays, e) (k, h) =
      subst (λ x. AskedInTurns x c w before now) (sym e) (k, [], h)
  turns_end (Err (E.Cut why text)) s mid (out, number, steps, inl (e, err)) h =
      let all = turns w c.input.before.rest in
      let line = headline c.tells (pieces_of all) (AsksTill all before now) (Err (E.Cut why text)) s c.before mid
      c.after h (out, number, steps, inl (e, err)) in
      subst (λ x. AskedInTurns x c w before now) (sym e)
      (turns_left why (subst (λ x. Headline x c.tells (up_to_stop (pieces_of all)) (AsksTill all before now) c.before
      c.after) e line))
  turns_end (Err (E.Cut why text)) s mid (out, number, steps, inr (e, err)) h =
      subst (λ x. AskedInTurns x c w before now) (sym e) (length h.done, h.stood.0, h.stood.2)

pub session_opened : (r : Result Tally Ended) (s : Status) (c : Course) (p : Planned) (w : Loading) (mid : Texts)
    (before now : List (List ℕ)) → p ≡ alone (Replays w) → Closes r s c.tells mid c.after
    → (KnowsInputs (Replays w) c.files_tell c.input_tells c.input.before.rest
    → AsksRun r c.tells (turns w c.input.before.rest) before now c.before mid) → Opened s c p before now
session_opened r s c p w mid before now is closes asks =
    subst (λ (q : Planned). OpenedFor q.plan s c p before now) (sym is)
    (λ known. turns_end c w before now r s mid closes (asks known))

-- ---- want of memory hides no failed read of an input

-- on the way to the plan
pub memory_hides : (X : Type 0) (p : Planned) (before now : List (List ℕ))
    → HasAsked {X = C.Plan} before now (Err U.NoMemory) p.asked → X ⊎ OnTheWay p before now
memory_hides X p before now (ps, is, (more, split)) = inr (ps, is, (more, split))

module _ (files : Span) (p : Planned) (before now : List (List ℕ)) where
  pub unread_hides : (e : Ended) (path : List ℕ) → HasAsked {X = C.Plan} before now (Err (U.ReadFault path)) p.asked
      → RunHidesNoRead (Err e) files p before now
  unread_hides E.NoMemory path (ps, is, (front, more, last, split)) = inr (ps, is, (more, split))
  unread_hides E.WriteFault path h = tt
  unread_hides (E.Cut why text) path h = tt

  -- where no read failed
  pub still_hides : (r : Result Tally Ended) → Still files.before files.after → RunHidesNoRead r files p before now
  still_hides (Err E.NoMemory) still = inl still
  still_hides (Err E.WriteFault) still = tt
  still_hides (Err (E.Cut why text)) still = tt
  still_hides (Ok tally) still = tt

  -- in the run of a plan after its planning, which left the files so
  pub later_hides : (r : Result Tally Ended) (f : Moment) → Still files.before f → R.HidesNoRead r f files.after
      → RunHidesNoRead r files p before now
  later_hides (Err E.NoMemory) f still h =
      inl (record { faults = h.faults ∙ still.faults; opens = h.opens ∙ still.opens })
  later_hides (Err E.WriteFault) f still h = tt
  later_hides (Err (E.Cut why text)) f still h = tt
  later_hides (Ok tally) f still h = tt

  any_hides : (plan : Plan) → Still files.before files.after ⊎ OnTheWay p before now
      → HidesNoInput plan files p before now
  any_hides (Replays w) h = tt
  any_hides _ h = h

  flags_hide : (stop f h : Bool) → HidesNoRead (flags_status stop f h) files p before now
  flags_hide true f h = tt
  flags_hide false true h = tt
  flags_hide false false true = tt
  flags_hide false false false = tt

  why_hides : (why : ReadStop) → HidesNoRead (stop_status why) files p before now
  why_hides Y.ReadFault = tt
  why_hides Y.Spent = tt

  -- from a run and its end to its status
  pub unhidden_run : (r : Result Tally Ended) (s : Status) (W : Telling) (mid d : Texts) → Closes r s W mid d
      → RunHidesNoRead r files p before now → HidesNoRead s files p before now
  unhidden_run (Ok tally) s W mid d (stays, inl e) h =
      subst (λ x. HidesNoRead x files p before now) (sym e) (flags_hide tally.stop tally.fault tally.hit)
  unhidden_run (Ok tally) s W mid d (stays, inr e) h = subst (λ x. HidesNoRead x files p before now) (sym e) tt
  unhidden_run (Err E.NoMemory) s W mid d (stays, e) h =
      subst (λ x. HidesNoRead x files p before now) (sym e) (any_hides p.plan h)
  unhidden_run (Err E.WriteFault) s W mid d (stays, e) h = subst (λ x. HidesNoRead x files p before now) (sym e) tt
  unhidden_run (Err (E.Cut why text)) s W mid d (out, number, steps, inl (e, err)) h =
      subst (λ x. HidesNoRead x files p before now) (sym e) (why_hides why)
  unhidden_run (Err (E.Cut why text)) s W mid d (out, number, steps, inr (e, err)) h =
      subst (λ x. HidesNoRead x files p before now) (sym e) tt

  pub still_unhidden : (s : Status) → Still files.before files.after → HidesNoRead s files p before now
  still_unhidden NoMemory still = any_hides p.plan (inl still)
  still_unhidden _ still = tt

session_hides : (s : Status) (files : Span) (w : Loading) (before now : List (List ℕ))
    → HidesNoRead s files (alone (Replays w)) before now
session_hides NoMemory files w before now = tt
session_hides _ files w before now = tt

pub session_unhidden : (s : Status) (files : Span) (p : Planned) (w : Loading) (before now : List (List ℕ))
    → p ≡ alone (Replays w) → HidesNoRead s files p before now
session_unhidden s files p w before now is =
    subst (λ (q : Planned). HidesNoRead s files q before now) (sym is) (session_hides s files w before now)
