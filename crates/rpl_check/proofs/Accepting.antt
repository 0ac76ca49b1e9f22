-- What a table and a goal without faults are for the laws of the simulation.
use Rattle.std.proofs.Common.{◌≡◌, ℕ, zero, suc, ◌+◌, ◌-◌, ◌<◌, ◌≤◌, List, [], ◌∷◌, length, Option, Some, None, refl}
use Rattle.std.proofs.Common.{sym, ap, ◌∙◌, inl, arith}
use Rattle.std.proofs.lemmas.List.{length-map}
use Rattle.std.proofs.lemmas.Option.{slice_get_within}
use Rattle.std.specs.Prelude.{Bool, true, false, ◌&&◌, nat_lt, if◌then◌else◌, slice_get}
use Rattle.std.specs.Option.{option_and_then, option_map, option_or}
use Rattle.rpl_core.specs.Core.{Core, Set, Seq, Choice, Many, Not, And, Behind, Call, Capture, Note, Start, End, Halt}
use Rattle.rpl_core.specs.Core.{Cores, NoMore, Then}
use Rattle.rpl_core.specs.Programs.{calls, calls_any}
use Rattle.rpl_core.specs.Table.{blocks_of, bodies_of}
use Rattle.rpl_core.specs.View.{core_of}
use Rattle.rpl_core.specs.declared.rules.Rule.{Rule}
use Rattle.rpl_compile_laws.specs.Static.{may_be_empty}
use Rattle.rpl_compile_laws.specs.Termination.{IfEmpty, CallsBelow, AllCallBelow, EachCallsBelow, IsTidy, AreTidy}
use Rattle.rpl_compile_laws.specs.Termination.{Terminates}
use Rattle.rpl_compile_laws.specs.Static.{may_halt, predicates_stay}
use Rattle.rpl_compile_laws.proofs.Termination.{ends_holds}
use Rattle.rpl_check.specs.inside.Accepted.{IsAccepted}
use Rattle.rpl_check.specs.Checked.{IsWhole, NeverOpenLaw}
use Rattle.rpl_facts.specs.Facts.{IsLeast, Solves, Facts, passes, calls_here, front_calls_here, any_calls_here}
use Rattle.rpl_core.specs.Lengths.{has_call, has_repetition, greatest}
use Rattle.rpl_check.specs.Causes.{Cause, Recursive, Repetition, TooLong, cause_of, first_cause, first_cause_in}
use Rattle.rpl_check.specs.Faults.{Fault, LookBehind, EmptyLoop, HaltInside, fault_if, has_halt_inside, behind_at}
use Rattle.rpl_check.specs.Faults.{loop_at, halt_at, first_from, goal_fault}
use Rattle.rpl_check.specs.Loops.{has_empty_loop, any_has_empty_loop}
use Rattle.rpl_check.specs.Blocks.{selves, recursion_of, group_fault, table_fault}
use Rattle.rpl_facts.specs.Laws.{CallsStay}
use Rattle.rpl_core.specs.Marks.{count}
use Rattle.rpl_core.specs.Order.{IsInOrder}
use Rattle.rpl_check.specs.inside.Reach.{Reach}
use Rattle.rpl_core.proofs.Counts.{count_lt, count_below}
use Rattle.rpl_facts.proofs.Exists.{facts_same, facts_with}
use Rattle.rpl_check.proofs.Firsts.{or_none, first_none, selves_none, group_of}
use Rattle.rpl_check.proofs.Following.{reach_on}
use Rattle.rpl_facts.proofs.Least.{here_called}
use Rattle.rpl_facts.proofs.Ordering.{calls_end, last_ends}
use Rattle.rpl_core.proofs.Bools.{neither, left, right, paired, not_off, off_with, eq_self}

no_cause : (p : Core) → cause_of p ≡ None → (has_call p ≡ false) × (has_repetition p ≡ false)
no_cause p e = go (has_call p) (has_repetition p) (nat_lt 255 (greatest p)) e
  where
    go : (a b c : Bool)
        → (if a then Some Recursive else (if b then Some Repetition else (if c then Some TooLong else None))) ≡ None
        → (a ≡ false) × (b ≡ false)
    go true b c e = absurd (cc)
    go false true c e = absurd (cc)
    go false false c e = (refl, refl)

module _ (m : ℕ → Bool) (n : ℕ) where
  mutual
    tidy_of : (e : Core) → has_empty_loop m e ≡ false → first_cause e ≡ None → ((r : ℕ) → calls e r ≡ true → r < n)
        → IsTidy m n e
    tidy_of (Set s) f b c = tt
    tidy_of (Seq ps) f b c = all_tidy ps f b c
    tidy_of (Choice ps) f b c = all_tidy ps f b c
    tidy_of (Many p) f b c = let x = neither (may_be_empty m p) (has_empty_loop m p) f in (x.0, tidy_of p x.1 b c)
    tidy_of (Not p) f b c = tidy_of p f b c
    tidy_of (And p) f b c = tidy_of p f b c
    tidy_of (Behind l k p) f b c = let y = or_none (cause_of p) (first_cause p) b in no_cause p y.0
    tidy_of (Call r) f b c = c r (eq_self r)
    tidy_of (Capture x p) f b c = tidy_of p f b c
    tidy_of (Note x) f b c = tt
    tidy_of Start f b c = tt
    tidy_of End f b c = tt
    tidy_of Halt f b c = tt

    all_tidy : (ps : Cores) → any_has_empty_loop m ps ≡ false → first_cause_in ps ≡ None
        → ((r : ℕ) → calls_any ps r ≡ true → r < n) → AreTidy m n ps
    all_tidy NoMore f b c = tt
    all_tidy (Then p ps) f b c =
        let x = neither (has_empty_loop m p) (any_has_empty_loop m ps) f in
        let y = or_none (first_cause p) (first_cause_in ps) b in (
          tidy_of p x.0 y.0 (λ r e. c r (left (calls p r) (calls_any ps r) e)),
          all_tidy ps x.1 y.1 (λ r e. c r (right (calls p r) (calls_any ps r) e)),
        )

module _ (m : ℕ → Bool) (rank : ℕ → ℕ) (k : ℕ) where
  mutual
    below_of : (e : Core) → ((t : ℕ) → calls_here m e t ≡ true → rank t < k) → CallsBelow m rank k e
    below_of (Set s) f = tt
    below_of (Seq ps) f = front_below ps f
    below_of (Choice ps) f = each_below ps f
    below_of (Many p) f = below_of p f
    below_of (Not p) f = below_of p f
    below_of (And p) f = below_of p f
    below_of (Behind a b p) f = below_of p f
    below_of (Call r) f = f r (eq_self r)
    below_of (Capture x p) f = below_of p f
    below_of (Note x) f = tt
    below_of Start f = tt
    below_of End f = tt
    below_of Halt f = tt

    front_below : (ps : Cores) → ((t : ℕ) → front_calls_here m ps t ≡ true → rank t < k) → AllCallBelow m rank k ps
    front_below NoMore f = tt
    front_below (Then p ps) f = (
      below_of p (λ t x. f t (left (calls_here m p t) (may_be_empty m p && front_calls_here m ps t) x)),
      if_empty (may_be_empty m p) refl
          (λ e. front_below ps
          (λ t x. f t (right (calls_here m p t) (may_be_empty m p && front_calls_here m ps t)
          (paired (may_be_empty m p) (front_calls_here m ps t) e x)))),
    )
      where
        if_empty : (b : Bool) → may_be_empty m p ≡ b → (b ≡ true → AllCallBelow m rank k ps)
            → IfEmpty b (AllCallBelow m rank k ps)
        if_empty true e h = h refl
        if_empty false e h = tt

    each_below : (ps : Cores) → ((t : ℕ) → any_calls_here m ps t ≡ true → rank t < k) → EachCallsBelow m rank k ps
    each_below NoMore f = tt
    each_below (Then p ps) f = (
      below_of p (λ t x. f t (left (calls_here m p t) (any_calls_here m ps t) x)),
      each_below ps (λ t x. f t (right (calls_here m p t) (any_calls_here m ps t) x)),
    )

-- the calls of a table in order stay in it
pub calls_stay : (R : List Core) (bs : List (Option ℕ)) → length bs ≡ length R → IsInOrder R bs → CallsStay R
calls_stay R bs long o r s p is c = go (length R) refl
  where
    go : (n : ℕ) → length R ≡ n → s < length R
    go zero e = absurd (omega (arith, slice_get_within R r p is))
    go (suc k) e =
        let z : k + 1 ≡ length R = omega arith in
        let lt = calls_end R bs k o (last_ends bs k (omega arith)) r s p (omega (arith, slice_get_within R r p is)) is c
        in
        omega arith

-- a table in order has its facts
abbrev pub facts_in_order : (R : List Core) (bs : List (Option ℕ)) (m h : ℕ → Bool) → length bs ≡ length R
    → IsInOrder R bs → IsLeast (Solves may_be_empty R) m → IsLeast (Solves may_halt R) h → Facts R
facts_in_order R bs m h long o em ha = facts_with R (calls_stay R bs long o) m h em ha

pub same_long : (rs : List Rule) → length (blocks_of rs) ≡ length (bodies_of rs)
same_long rs = length-map rs (λ (r : Rule). r.block) ∙ sym (length-map rs (λ (r : Rule). core_of r.body))

no_behind : (rule : Option ℕ) (o : Option Cause) → option_map (LookBehind rule) o ≡ None → o ≡ None
no_behind rule None e = refl
no_behind rule (Some c) e = absurd (cc)

no_fault : (b : Bool) (f : Fault) → fault_if b f ≡ None → b ≡ false
no_fault true f e = absurd (cc)
no_fault false f e = refl

no_rules : (l : List ℕ) → recursion_of l ≡ None → l ≡ []
no_rules [] e = refl
no_rules (r ∷ l) e = absurd (cc)

off_rule : (f : Core → Bool) (o : Option Core) (p : Core) → o ≡ Some p → passes f o ≡ false → f p ≡ false
off_rule f o p e h = sym (ap (passes f) e) ∙ h

off_behind : (o : Option Core) (p : Core) → o ≡ Some p → option_and_then first_cause o ≡ None → first_cause p ≡ None
off_behind o p e h = sym (ap (option_and_then first_cause) e) ∙ h

module _ (R : List Core) (bs : List (Option ℕ)) (m h : ℕ → Bool) (long : length bs ≡ length R) (o :
    IsInOrder R bs) (em : IsLeast (Solves may_be_empty R) m) (ha : IsLeast (Solves may_halt R) h)
    (free : (reach : ℕ → ℕ → Bool) → Reach R m reach → table_fault m h reach R bs ≡ None) where
  record Free (reach : ℕ → ℕ → Bool) (r : ℕ) : Type 0 where
    pub behind : option_and_then first_cause (slice_get R r) ≡ None
    pub self : reach r r ≡ false
    pub loop : passes (has_empty_loop m) (slice_get R r) ≡ false
    pub stop : passes (has_halt_inside h) (slice_get R r) ≡ false

  free_rule : (reach : ℕ → ℕ → Bool) → Reach R m reach → (r : ℕ) → r < length R → Free reach r
  free_rule reach all r lt =
      let g = group_of (group_fault m h reach R) bs 0 0 (length bs) (omega arith) (omega arith) (inl refl)
      (free reach all) r (omega arith) (omega arith) in
      parts g.0 g.1 g.2 g.3 g.4
    where
      parts : (x y : ℕ) → x ≤ r → r < y → group_fault m h reach R x y ≡ None → Free reach r
      parts x y xr ry e =
          let n = y - x in
          let a = or_none (first_from (behind_at R) x n) _ e in
          let b = or_none (recursion_of (selves reach x n)) _ a.1 in
          let c = or_none (first_from (loop_at m R) x n) (first_from (halt_at h R) x n) b.1 in
          let fit : r < x + n = omega arith in
          record {
            behind = no_behind (Some r) (option_and_then first_cause (slice_get R r))
                (first_none (behind_at R) x n a.0 r xr fit);
            self = selves_none reach x n (no_rules (selves reach x n) b.0) r xr fit;
            loop = no_fault (passes (has_empty_loop m) (slice_get R r)) (EmptyLoop (Some r))
                (first_none (loop_at m R) x n c.0 r xr fit);
            stop = no_fault (passes (has_halt_inside h) (slice_get R r)) (HaltInside (Some r))
                (first_none (halt_at h R) x n c.1 r xr fit);
          }

  -- a table without a fault is accepted, with the least sets of rules that may be empty and that may halt
  pub accepted : IsAccepted R m h
  accepted =
      let d = facts_in_order R bs m h long o em ha in
      record {
        empties = em;
        halting = ha;
        calls = calls_stay R bs long o;
        behinds = λ r p is. off_behind (slice_get R r) p is
            (free_rule d.reach d.reach_least r (slice_get_within R r p is)).behind;
        loops = λ r p is. off_rule (has_empty_loop m) (slice_get R r) p is
            (free_rule d.reach d.reach_least r (slice_get_within R r p is)).loop;
        halts = λ r p is. not_off (predicates_stay h p)
            (off_rule (has_halt_inside h) (slice_get R r) p is
            (free_rule d.reach d.reach_least r (slice_get_within R r p is)).stop);
        selves = λ reach all r lt. (free_rule reach all r lt).self;
      }

module _ (R : List Core) (m h : ℕ → Bool) (a : IsAccepted R m h) where
  abbrev rank_in : (ℕ → ℕ → Bool) → ℕ → ℕ
  rank_in reach r = count (reach r) (length R)

  ends_of : (g : Core) (reach : ℕ → ℕ → Bool) → Reach R m reach → has_empty_loop m g ≡ false → first_cause g ≡ None
      → ((r : ℕ) → calls g r ≡ true → r < length R) → Terminates m (rank_in reach) R g
  ends_of g reach all lg bg cg = record {
    empties = λ r p is off. off_with (m r) (may_be_empty m p)
        (λ e. a.empties.solution r (ap (passes (may_be_empty m)) is ∙ e)) off;
    low = λ r lt. count_below (reach r) (length R) r lt (a.selves reach all r lt);
    falls = λ r p is. below_of m (rank_in reach) (rank_in reach r) p (λ t e.
        let one = (all r).solution.first t (ap (passes (λ x. calls_here m x t)) is ∙ e) in
        let lt : t < length R = a.calls r t p is (here_called m t p e) in
        count_lt (reach t) (reach r) (length R) t (λ q f. reach_on R m reach all r t q one f) lt
        (a.selves reach all t lt) one);
    rules = λ r p is. tidy_of m (length R) p (a.loops r p is) (a.behinds r p is) (λ s e. a.calls r s p is e);
    goal = tidy_of m (length R) g lg bg cg;
  }

  -- a goal without faults
  pub whole_of : (g : Core) → ((r : ℕ) → calls g r ≡ true → r < length R) → goal_fault m h g ≡ None → IsWhole R g
  whole_of g cg none =
      let x = or_none (option_map (LookBehind None) (first_cause g))
      (option_or (fault_if (has_empty_loop m g) (EmptyLoop None))
      (fault_if (has_halt_inside h g) (HaltInside None))) none in
      let y = or_none (fault_if (has_empty_loop m g) (EmptyLoop None))
      (fault_if (has_halt_inside h g) (HaltInside None)) x.1 in
      let d = facts_with R a.calls m h a.empties a.halting in
      record {
        shut = λ t. ends_holds m (rank_in d.reach) R g t
            (ends_of g d.reach d.reach_least (no_fault (has_empty_loop m g) (EmptyLoop None) y.0)
            (no_behind None (first_cause g) x.0) cg);
        stays = (
          h,
          record {
            closed = λ r p is off. off_with (h r) (may_halt h p) (λ e. a.halting.solution r (ap (passes (may_halt h)) is
                ∙ e)) off;
            rules = λ r p reached is. a.halts r p is;
            goal = not_off (predicates_stay h g) (no_fault (has_halt_inside h g) (HaltInside None) y.1);
          },
        );
        goal = cg;
        rules = a.calls;
      }

-- and so is each goal without faults over a table without faults
pub whole_always : NeverOpenLaw
whole_always R bs d g long o none cg clean =
    whole_of R d.empties d.halting
    (accepted R bs d.empties d.halting long o d.empties_least d.halting_least (λ reach all.
    let f : Facts R = record {
      empties = d.empties;
      halting = d.halting;
      reach = reach;
      empties_least = d.empties_least;
      halting_least = d.halting_least;
      reach_least = all;
    } in
    ap (λ x. table_fault d.empties d.halting x R bs) (facts_same R f d).reach ∙ none))
    g cg clean
