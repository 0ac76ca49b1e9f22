-- What a loading leaves, and what packages, or a pattern over them, then come to.
use Rattle.std.proofs.Common.{◌≡◌, inl, inr, ℕ, List, [], ◌∷◌, ◌++◌, refl, sym, ◌∙◌, ap, subst}
use Rattle.std.specs.Prelude.{map, IfErr, IfOk, IsErrAnd, Result, Ok, Err, encode_utf8_all}
use Rattle.std.specs.Prelude.{string_bytes}
use Rattle.std.proofs.lemmas.List.{append-nil, append_assoc, map-append}
use Rattle.rosie_prepare.specs.Lines.{Line, load_line}
use Rattle.rosie_prepare.specs.Answers.{IsDue, Prepares}
use Rattle.rosie_prepare.specs.Prepared.{
  GoalPasses,
  IsPrepared,
  OrLine,
  Ready,
  Tree,
  PatternRequest,
  roots_then_pattern,
}
use Rattle.rosie_prepare.specs.declared.prepared.Prepared.{Prepared}
use Rattle.rosie_prepare.specs.Steps.{IsOwn, StopsWith, TellsKind, TellsLoad}
use Rattle.rosie_run.proofs.Openings.{asked_after}
use Rattle.rosie_run.specs.Unready.{AskedTill, HasAsked}
use Rattle.rosie_run.specs.declared.unready.Unready.{Unready}
use Rattle.rosie_run.specs.declared.unready.Unready.TheVariants.{NoMemory, Refused, ReadFault}
use Rattle.rpl_package.proofs.Outcomes.{Follows, same, then_follows, told_lead, told_then, trail}
use Rattle.rpl_package.specs.Asking as Loading
use Rattle.rpl_package.specs.Asking.{IsTold, Outcome, and_then, asked_then, in_bytes}
use Rattle.rpl_names.specs.Loading.{world}
use Rattle.rpl_names.specs.Patterns.{load_pattern}
use Rattle.rpl_expand.specs.LoadLaws.{Resolves}
use Rattle.rpl_names.specs.Roots.{Packages, load}
use Rattle.rpl_names.specs.Sets.{set_seen}
use Rattle.rpl_scope.specs.Faults.{Or, ◌>>=◌}
use Rattle.rpl_scope.specs.declared.fault.LoadFault.{LoadFault}
use Rattle.rpl_scope.specs.declared.fault.LoadKind.{LoadKind}
use Rattle.rpl_scope.specs.declared.fault.LoadKind.TheVariants as K
use Rattle.rpl_syntax.specs.Expression.{Expr}
use Rattle.rpl_syntax.specs.View.{expr_of}

-- ---- the paths that are asked for

-- where a read fails, the path is the last of those that were asked for
told_till : (k : LoadKind) (f : LoadFault) (u : Unready) (all ps : List (List ℕ)) → TellsKind k f u
    → Loading.AskedTill k f all ps → AskedTill u (in_bytes all) (in_bytes ps)
told_till K.NoMemory f u all ps h e =
    subst (λ v. AskedTill v (in_bytes all) (in_bytes ps)) (sym h)
    (in_bytes e.0, ap in_bytes e.1 ∙ map-append encode_utf8_all ps e.0)
told_till K.ReadFault f u all ps h e =
    subst (λ v. AskedTill v (in_bytes all) (in_bytes ps)) (sym h) (
      in_bytes e.1.0,
      in_bytes e.0.0,
      ap in_bytes e.1.1 ∙ map-append encode_utf8_all e.1.0 (f.file ∷ []),
      ap in_bytes e.0.1 ∙ map-append encode_utf8_all ps e.0.0,
    )
told_till _ f NoMemory all ps h e = ([], ap in_bytes (sym e) ∙ sym (append-nil (in_bytes ps)))
told_till _ f (Refused line) all ps h e = ap in_bytes e
told_till _ f (ReadFault path) all ps h e = absurd h

-- what a loading that failed asked for, its refusal asked for
pub fault_asked :
    {A : Type 0} (before now : List (List ℕ)) (f : LoadFault) (u : Unready) (o : Outcome A) → TellsLoad f u
    → Loading.HasAsked {X = Unit {0}} before now (Err f) o
    → HasAsked {X = Unit {0}} before now (Err u) (in_bytes o.asked)
fault_asked before now f u o h (ps, is, till) = (in_bytes ps, is, told_till f.kind f u o.asked ps h till)

-- a loading that has an answer asked for all
pub loaded_asked :
    {X A : Type 0} (before now : List (List ℕ)) (x : X) (o : Outcome A) → Loading.HasAsked before now (Ok x) o
    → HasAsked before now (Ok x) (in_bytes o.asked)
loaded_asked before now x o (ps, is, all) = (in_bytes ps, is, ap in_bytes all)

own_till : (u : Unready) (all : List (List ℕ)) → IsOwn u → AskedTill u all all
own_till NoMemory all h = ([], sym (append-nil all))
own_till (Refused line) all h = refl
own_till (ReadFault path) all h = absurd h

-- the passes that come after a loading ask for nothing more
pub passes_asked :
    {X Y : Type 0} (before now all : List (List ℕ)) (loaded : X) (r : Result Y Unready) → IfErr r IsOwn
    → HasAsked before now (Ok loaded) all → HasAsked before now r all
passes_asked before now all loaded (Ok y) own h = h
passes_asked before now all loaded (Err u) own (ps, is, same) =
    (ps, is, subst (λ xs. AskedTill u all xs) (sym same) (own_till u all own))

-- where a result passes on an error, the same was asked for
pub asked_through :
    {X : Type 0} (before now all : List (List ℕ)) (r : Result X Unready) (u : Unready) → IsErrAnd r (λ e. e ≡ u)
    → HasAsked {X = Unit {0}} before now (Err u) all → HasAsked before now r all
asked_through before now all (Ok x) u h k = absurd h
asked_through {X} before now all (Err e) u h k = subst (λ v. HasAsked {X = X} before now (Err v) all) (sym h) k

-- ---- what stops a loading

longer :
    {A B : Type 0} (o : Outcome A) (next : A → Outcome B) (ps more : List (List ℕ)) → in_bytes o.asked ≡ ps ++ more
    → in_bytes (and_then o next).asked ≡ ps ++ (more ++ in_bytes (asked_then o.answer next))
longer o next ps more split =
    map-append encode_utf8_all o.asked (asked_then o.answer next)
    ∙ ap (λ xs. xs ++ in_bytes (asked_then o.answer next)) split
    ∙ append_assoc ps more (in_bytes (asked_then o.answer next))

-- what stops a step stops all that follows
pub stops_then :
    {A B : Type 0} (u : Unready) (o : Outcome A) (next : A → Outcome B) → StopsWith u o
    → StopsWith u (and_then o next)
stops_then NoMemory o next h = tt
stops_then (Refused line) o next h = (h.0, ap (λ r. r >>= λ x. (next x).answer) h.1, h.2)
stops_then (ReadFault path) o next h = tt

-- up to there it asked for what all of it would ask for
then_till :
    {A B : Type 0} (u : Unready) (o : Outcome A) (next : A → Outcome B) (ps : List (List ℕ)) → StopsWith u o
    → AskedTill u (in_bytes o.asked) ps → AskedTill u (in_bytes (and_then o next).asked) ps
then_till NoMemory o next ps h (more, split) =
    (more ++ in_bytes (asked_then o.answer next), longer o next ps more split)
then_till (Refused line) o next ps h is =
    is ∙ ap in_bytes (sym (ap (λ r. o.asked ++ asked_then r next) h.1 ∙ append-nil o.asked))
then_till (ReadFault path) o next ps h (front, more, last, split) =
    (front, more ++ in_bytes (asked_then o.answer next), last, longer o next ps more split)

-- what stops an outcome stops what it leads to
stops_lead :
    {A : Type 0} {before now : List (List ℕ)} (u : Unready) (a b : Outcome A) → Follows now before a b
    → StopsWith u a → StopsWith u b
stops_lead NoMemory a b led h = tt
stops_lead (Refused line) a b led h = (h.0, sym led.answer ∙ h.1, h.2)
stops_lead (ReadFault path) a b led h = tt

-- ---- what is told on the way

-- paths are told where their bytes are
pub told_bytes : (T : Type 0) (xs : List (List ℕ)) → IsTold T (map encode_utf8_all xs) → IsTold T xs
told_bytes T xs (inl tells) = inl tells
told_bytes T [] (inr none) = inr refl
told_bytes T (x ∷ xs) (inr none) = absurd (cc)

module _ (T : Type 0) (tree near : Tree) (w : PatternRequest) (asked : List (List ℕ)) (r : OrLine Ready)
    (h : IsPrepared tree w asked r) (told : IsTold T asked) where
  abbrev first : Outcome Packages
  first = load (world tree w.folders) w.roots

  abbrev second : Tree → Packages → Outcome (Expr × Packages)
  second t p = load_pattern (world t w.folders) p h.parse

  first_told : IsTold T first.asked
  first_told =
      told_then T first (second tree) (told_bytes T (roots_then_pattern tree w h.parse).asked
      (subst (IsTold T) h.paths told))

  -- what stops the roots stops it all
  pub roots_stop : (u : Unready) → (IsTold T first.asked → StopsWith u first)
      → StopsWith u (roots_then_pattern tree w h.parse)
  roots_stop u s = stops_then u first (second tree) (s first_told)

  -- and no path of the pattern is asked for
  pub roots_ask : (before now : List (List ℕ)) (u : Unready) → (IsTold T first.asked → StopsWith u first)
      → (IsTold T first.asked → HasAsked {X = Unit {0}} before now (Err u) (in_bytes first.asked))
      → HasAsked {X = Unit {0}} before now (Err u) asked
  roots_ask before now u s asks =
      let a = asks first_told in
      subst (HasAsked {X = Unit {0}} before now (Err u)) (sym h.paths)
      (a.0, a.1, then_till u first (second tree) a.0 (s first_told) a.2)

  module _ {X : Type 0} (before mid : List (List ℕ)) (x : X) (p : Packages) (loads :
      IsTold T first.asked → first.answer ≡ Ok p) (asks :
      IsTold T first.asked → HasAsked before mid (Ok x) (in_bytes first.asked)) (same_tree : near ≡ tree) where
    pattern_leads : Follows mid before (second near p) (roots_then_pattern tree w h.parse)
    pattern_leads =
        let a = asks first_told in
        trail _ _ _ (same _ _ (ap (λ t. second t p) same_tree))
        (then_follows first p (second tree)
        (record { answer = loads first_told; asked = a.1 ∙ ap (λ ps. before ++ ps) a.2 }))

    pattern_told : IsTold T (second near p).asked
    pattern_told =
        told_lead T _ _ pattern_leads
        (told_bytes T (roots_then_pattern tree w h.parse).asked (subst (IsTold T) h.paths told))

    -- so does what stops the pattern after them
    pub pattern_stops : (u : Unready) → (IsTold T (second near p).asked → StopsWith u (second near p))
        → StopsWith u (roots_then_pattern tree w h.parse)
    pattern_stops u s = stops_lead u _ _ pattern_leads (s pattern_told)

    -- the paths of the pattern are asked for after those of the roots
    pub pattern_asks : {Y : Type 0} (now : List (List ℕ)) (r : Result Y Unready)
        → (IsTold T (second near p).asked → HasAsked mid now r (in_bytes (second near p).asked))
        → HasAsked before now r asked
    pattern_asks now r s =
        subst (HasAsked before now r)
        (sym (map-append encode_utf8_all pattern_leads.since (second near p).asked)
        ∙ ap in_bytes (sym pattern_leads.rest) ∙ sym h.paths)
        (asked_after before mid now (in_bytes pattern_leads.since) (in_bytes (second near p).asked) r
        pattern_leads.asked (s pattern_told))

    pub pattern_comes : (x : Expr × Packages) → (IsTold T (second near p).asked → (second near p).answer ≡ Ok x)
        → (roots_then_pattern tree w h.parse).answer ≡ Ok x
    pattern_comes x e = sym pattern_leads.answer ∙ e pattern_told

-- ---- what it comes to

-- roots and a pattern
goal_refused :
    (x : Or (Expr × Packages)) (f : LoadFault) (line : Line) (r : OrLine Ready) → x ≡ Err f → load_line f ≡ line
    → GoalPasses x r → r ≡ Err line
goal_refused x f line r e l h = subst (λ y. GoalPasses y r) e h ∙ ap Err l

pub due_goal :
    (u : Unready) (o : Outcome (Expr × Packages)) (r : OrLine Ready) → StopsWith u o → GoalPasses o.answer r → IsDue u r
due_goal NoMemory o r h c = tt
due_goal (Refused line) o r h c = goal_refused o.answer h.0 (string_bytes line) r h.1 h.2 c
due_goal (ReadFault path) o r h c = tt

pub due_through :
    {X A : Type 0} (view : X → A) (result : Result X Unready) (u : Unready) (r : OrLine A)
    → IsErrAnd result (λ e. e ≡ u)
    → IsDue u r → Prepares view result r
due_through view (Ok x) u r h k = absurd h
due_through view (Err e) u r h k = subst (λ v. IsDue v r) (sym h) k

-- ---- names of the pattern

-- what is prepared of packages and a pattern has the names of that pattern
pub resolves_if :
    {E : Type 0} (r : Result Prepared E) (e : Expr) (p : Packages) → Resolves e p
    → IfOk r (λ x. set_seen x.packages ≡ p) → IfOk r (λ x. expr_of x.expr ≡ e)
    → IfOk r (λ x. Resolves (expr_of x.expr) (set_seen x.packages))
resolves_if (Ok x) e p h packages expr =
    subst (λ y. Resolves y (set_seen x.packages)) (sym expr) (subst (Resolves e) (sym packages) h)
resolves_if (Err u) e p h packages expr = tt
