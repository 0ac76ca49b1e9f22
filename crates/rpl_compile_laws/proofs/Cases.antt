-- What the fragment of each kind of core does, from what the fragments of its parts do.
use Rattle.std.proofs.Common.{◌≡◌, ℕ, zero, suc, ◌+◌, ◌-◌, ◌*◌, ◌≤◌, List, [], ◌∷◌, ◌++◌, length, take, Some, refl, ap}
use Rattle.std.proofs.Common.{◌∙◌, subst, arith, append_assoc}
use Rattle.std.proofs.lemmas.List.{append-nil}
use Rattle.std.proofs.lemmas.Bool.{lt-ltb, le-ltb}
use Rattle.std.proofs.Math.Seq.{take-append_seam, take-length}
use Rattle.std.specs.Prelude.{slice_get, Bool, true, false, if◌then◌else◌, nat_eq, nat_le, nat_lt}
use Rattle.regex_class.specs.Ranges.{Range}
use Rattle.rpl_core.specs.Core.{fits}
use Rattle.rpl_core.specs.Forest.{NoTree, Noted, Caught, Begin, Finish, flat, begins, finishes}
use Rattle.rpl_core.specs.Meaning.{Outcome, Open, Fail, At, HaltAt, more, prefixed, then_do, or_else, turns, if_fails}
use Rattle.rpl_core.specs.Meaning.{if_matches, under, ends_here, lengths, one_char, only_if}
use Rattle.rpl_core.specs.Instr.{Instr}
use Rattle.rpl_core.specs.Instr as I
use Rattle.rpl_core.specs.Machine.{Entry, ReturnTo, Retry, State, Going, Failing, Ended, act, step}
use Rattle.rpl_core.specs.Code.{Placed, lengths_code}
use Rattle.rpl_compile_laws.proofs.Captures.{begins_append, finishes_append}
use Rattle.rpl_compile_laws.proofs.Steps.{HasAt, has_front, has_back, closings, Leads, leads_none, leads_step}
use Rattle.rpl_compile_laws.proofs.Steps.{leads_last, Does, does_after, does_more, does_prefixed}

-- an outcome that doesn't match
abbrev pub Fails : Outcome → Type 0
Fails Open = Unit {0}
Fails (Fail w) = Unit {0}
Fails (At w j f) = ⊥
Fails (HaltAt w j f) = ⊥

-- an outcome that doesn't end the run
abbrev pub Goes : Outcome → Type 0
Goes Open = Unit {0}
Goes (Fail w) = Unit {0}
Goes (At w j f) = Unit {0}
Goes (HaltAt w j f) = ⊥

-- work is counted in any order
more_swap : (x y : ℕ) (o : Outcome) → more x (more y o) ≡ more y (more x o)
more_swap x y Open = refl
more_swap x y (Fail w) = let e : x + (y + w) ≡ y + (x + w) = omega arith in ap Fail e
more_swap x y (At w j f) = let e : x + (y + w) ≡ y + (x + w) = omega arith in ap (λ n. At n j f) e
more_swap x y (HaltAt w j f) = let e : x + (y + w) ≡ y + (x + w) = omega arith in ap (λ n. HaltAt n j f) e

module _ (prog : List Instr) (t : List ℕ) where
  -- a step does what the instruction at the address does
  pub fetch : (a i : ℕ) (st : List Entry) (cs : List Caught) (x : Instr) → slice_get prog a ≡ Some x
      → step prog t (Going a i st cs) ≡ act (Some x) t a i st cs
  fetch a i st cs x h = ap (λ o. act o t a i st cs) h

  -- so do one step
  pub one : (a i : ℕ) (st : List Entry) (cs : List Caught) (x : Instr) (s : State) → slice_get prog a ≡ Some x
      → act (Some x) t a i st cs ≡ s → Leads prog t 1 (Going a i st cs) s
  one a i st cs x s h e = record { by = fetch a i st cs x h ∙ e }

  -- of two ways the one that a test tells
  pub if_does : (q : Bool) (v : ℕ) (s1 s2 : State) (b : ℕ) (st : List Entry) (cs : List Caught) (o1 o2 : Outcome)
      → Does prog t v s1 b st cs o1 → Does prog t v s2 b st cs o2
      → Does prog t v (if q then s1 else s2) b st cs (if q then o1 else o2)
  if_does true v s1 s2 b st cs o1 o2 h k = h
  if_does false v s1 s2 b st cs o1 o2 h k = k

  -- the same, where both cost one more
  if_more : (q : Bool) (v : ℕ) (s1 s2 : State) (b : ℕ) (st : List Entry) (cs : List Caught) (o1 o2 : Outcome)
      → Does prog t v s1 b st cs (more 1 o1) → Does prog t v s2 b st cs (more 1 o2)
      → Does prog t v (if q then s1 else s2) b st cs (more 1 (if q then o1 else o2))
  if_more true v s1 s2 b st cs o1 o2 h k = h
  if_more false v s1 s2 b st cs o1 o2 h k = k

  -- nothing is left to do
  pub there : (v w b j : ℕ) (st : List Entry) (cs : List Caught) → v ≤ 4 * w
      → Does prog t v (Going b j st cs) b st cs (At w j NoTree)
  there v w b j st cs le = (0, omega arith, rw (append-nil cs) (leads_none prog t (Going b j st cs)))

  -- a run that is failing has failed
  pub failed : (v w b : ℕ) (st : List Entry) (cs : List Caught) → v ≤ 4 * w
      → Does prog t v (Failing st cs) b st cs (Fail w)
  failed v w b st cs le = (0, omega arith, [], rw (append-nil cs) (leads_none prog t (Failing st cs)))

  -- a failing state goes on from an entry that was pushed before
  resumes : (l i : ℕ) (st : List Entry) (cs ds : List Caught)
      → step prog t (Failing (Retry l i (length cs) ∷ st) (cs ++ ds)) ≡ Going l i st cs
  resumes l i st cs ds = ap (Going l i st) (take-append_seam cs ds)

  -- a set
  pub set_does : (a i : ℕ) (s : List Range) (st : List Entry) (cs : List Caught) → slice_get prog a ≡ Some (I.Set s)
      → Does prog t 0 (Going a i st cs) (a + 1) st cs (one_char (slice_get t i) s i)
  set_does a i s st cs h =
      does_after prog t 0 1 1 _ _ _ _ _ (one_char (slice_get t i) s i) refl (one a i st cs (I.Set s) _ h refl)
      (if_does (fits (slice_get t i) s) 1 _ _ (a + 1) st cs (At 1 (i + 1) NoTree) (Fail 1)
      (there 1 1 (a + 1) (i + 1) st cs (omega arith)) (failed 1 1 (a + 1) st cs (omega arith)))

  -- start and end
  pub place_does : (a i : ℕ) (x : Instr) (q : Bool) (st : List Entry) (cs : List Caught) → slice_get prog a ≡ Some x
      → act (Some x) t a i st cs ≡ (if q then Going (a + 1) i st cs else Failing st cs)
      → Does prog t 0 (Going a i st cs) (a + 1) st cs (only_if q i)
  place_does a i x q st cs h e =
      does_after prog t 0 1 1 _ _ _ _ _ (only_if q i) refl (one a i st cs x _ h e)
      (if_does q 1 _ _ (a + 1) st cs (At 1 i NoTree) (Fail 1) (there 1 1 (a + 1) i st cs (omega arith))
      (failed 1 1 (a + 1) st cs (omega arith)))

  -- a note
  pub note_does : (a i : ℕ) (x : List ℕ) (st : List Entry) (cs : List Caught) → slice_get prog a ≡ Some (I.Note x)
      → Does prog t 0 (Going a i st cs) (a + 1) st cs (At 1 i (Noted x i NoTree))
  note_does a i x st cs h = (1, omega arith, one a i st cs (I.Note x) _ h refl)

  -- `halt` closes each open tree, a step each, and ends the run
  pub halt_leads : (d a i : ℕ) (st : List Entry) (cs : List Caught) → slice_get prog a ≡ Some I.Halt
      → begins cs ≡ finishes cs + d → Leads prog t (suc d) (Going a i st cs) (Ended i (cs ++ closings d i))
  halt_leads zero a i st cs h e =
      let q : nat_lt (finishes cs) (begins cs) ≡ false = le-ltb _ _ (omega arith) in
      rw (append-nil cs) (one a i st cs I.Halt (Ended i cs) h (rw q refl))
  halt_leads (suc d) a i st cs h e =
      let q : nat_lt (finishes cs) (begins cs) ≡ true = lt-ltb _ _ (omega arith) in
      let e' : begins (cs ++ Finish i ∷ []) ≡ finishes (cs ++ Finish i ∷ []) + d =
      omega (arith, begins_append cs (Finish i ∷ []), finishes_append cs (Finish i ∷ [])) in
      let rest = halt_leads d a i st (cs ++ Finish i ∷ []) h e' in
      let same = append_assoc cs (Finish i ∷ []) (closings d i) in
      leads_step prog t (suc d) _ _ _ (fetch a i st cs I.Halt h
      ∙ rw q refl) (subst (λ l. Leads prog t (suc d) (Going a i st (cs ++ Finish i ∷ [])) (Ended i l)) same rest)

  -- so it does what a halt means
  pub halt_does : (a i b : ℕ) (st : List Entry) (cs : List Caught) → slice_get prog a ≡ Some I.Halt
      → Does prog t 0 (Going a i st cs) b st cs (HaltAt 1 i NoTree)
  halt_does a i b st cs h = λ d q. (suc d, omega arith, halt_leads d a i st cs h q)

  -- a part, and then the rest from where it ends
  pub then_does : (s : State) (m b : ℕ) (st : List Entry) (cs : List Caught) (o : Outcome) (r : ℕ → Outcome)
      → Does prog t 0 s m st cs o → ((j : ℕ) (cs1 : List Caught) → Does prog t 0 (Going m j st cs1) b st cs1 (r j))
      → Does prog t 0 s b st cs (then_do o r)
  then_does s m b st cs Open r h k = tt
  then_does s m b st cs (Fail w) r h k = h
  then_does s m b st cs (At w j f) r h k =
      does_after prog t 0 h.0 h.0 _ _ _ _ _ (prefixed w f (r j)) (omega arith) h.2
      (does_prefixed prog t 0 h.0 w _ _ _ cs f (r j) (omega (arith, h.1)) (k j (cs ++ flat f)))
  then_does s m b st cs (HaltAt w j f) r h k = h

  -- a choice: the first part, or from the entry that it left the rest
  pub choice_does : (v a l1 l2 m i : ℕ) (st : List Entry) (cs : List Caught) (o : Outcome) (r : ℕ → Outcome) → v ≤ 1
      → slice_get prog a ≡ Some (I.Choice l1) → slice_get prog m ≡ Some (I.Commit l2)
      → Does prog t 0 (Going (a + 1) i (Retry l1 i (length cs) ∷ st) cs) m (Retry l1 i (length cs) ∷ st) cs o
      → Does prog t 0 (Going l1 i st cs) l2 st cs (r i) → Does prog t v (Going a i st cs) l2 st cs (or_else o i r)
  choice_does v a l1 l2 m i st cs Open r le h1 h2 ho hp = tt
  choice_does v a l1 l2 m i st cs (Fail w) r le h1 h2 ho hp =
      let l = leads_step prog t (ho.0 + 1) _ _ _ (fetch a i st cs (I.Choice l1) h1)
      (leads_last prog t ho.0 _ _ _ ho.3 (resumes l1 i st cs ho.2)) in
      does_after prog t v (suc (ho.0 + 1)) (v + suc (ho.0 + 1)) _ _ _ _ _ (more (1 + w) (r i)) refl l
      (does_more prog t 0 _ (1 + w) _ _ _ _ (r i) (omega (arith, ho.1)) hp)
  choice_does v a l1 l2 m i st cs (At w j f) r le h1 h2 ho hp =
      let l = leads_step prog t (ho.0 + 1) _ _ _ (fetch a i st cs (I.Choice l1) h1)
      (leads_last prog t ho.0 _ _ _ ho.2 (fetch m j _ (cs ++ flat f) (I.Commit l2) h2)) in
      (suc (ho.0 + 1), omega (arith, ho.1), l)
  choice_does v a l1 l2 m i st cs (HaltAt w j f) r le h1 h2 ho hp = λ d q.
      let k = ho d q in
      (suc k.0, omega (arith, k.1), leads_step prog t k.0 _ _ _ (fetch a i st cs (I.Choice l1) h1) k.2)

  -- a capture: its body between a beginning and an end
  pub capture_does : (a m i : ℕ) (c : List ℕ) (st : List Entry) (cs : List Caught) (o : Outcome)
      → slice_get prog a ≡ Some (I.Open c) → slice_get prog m ≡ Some I.Close
      → Does prog t 0 (Going (a + 1) i st (cs ++ Begin c i ∷ [])) m st (cs ++ Begin c i ∷ []) o
      → Does prog t 0 (Going a i st cs) (m + 1) st cs (under c i o)
  capture_does a m i c st cs Open h1 h2 ho = tt
  capture_does a m i c st cs (Fail w) h1 h2 ho =
      let l = leads_step prog t ho.0 _ _ _ (fetch a i st cs (I.Open c) h1) ho.3 in
      (suc ho.0, omega (arith, ho.1), Begin c i ∷ ho.2, rw (← append_assoc cs (Begin c i ∷ []) ho.2) l)
  capture_does a m i c st cs (At w j f) h1 h2 ho =
      let l = leads_step prog t (ho.0 + 1) _ _ _ (fetch a i st cs (I.Open c) h1)
      (leads_last prog t ho.0 _ _ _ ho.2 (fetch m j st _ I.Close h2)) in
      let same : ((cs ++ Begin c i ∷ []) ++ flat f) ++ Finish j ∷ [] ≡ cs ++ (Begin c i ∷ (flat f ++ Finish j ∷ [])) =
      simp append_assoc in
      (suc (ho.0 + 1), omega (arith, ho.1), rw (← same) l)
  capture_does a m i c st cs (HaltAt w j f) h1 h2 ho = λ d q.
      let q' : begins (cs ++ Begin c i ∷ []) ≡ finishes (cs ++ Begin c i ∷ []) + suc d =
      omega (arith, begins_append cs (Begin c i ∷ []), finishes_append cs (Begin c i ∷ [])) in
      let k = ho (suc d) q' in
      let same : (cs ++ Begin c i ∷ []) ++ (flat f ++ Finish j ∷ closings d j) ≡ cs
      ++ ((Begin c i ∷ (flat f ++ Finish j ∷ [])) ++ closings d j) = simp append_assoc in
      (suc k.0, omega (arith, k.1), rw (← same) (leads_step prog t k.0 _ _ _ (fetch a i st cs (I.Open c) h1) k.2))

  -- a refusal: what the body wrote and took is dropped
  pub not_does : (a l1 m i : ℕ) (st : List Entry) (cs : List Caught) (o : Outcome) → Goes o
      → slice_get prog a ≡ Some (I.Choice l1) → slice_get prog m ≡ Some I.FailTwice
      → Does prog t 0 (Going (a + 1) i (Retry l1 i (length cs) ∷ st) cs) m (Retry l1 i (length cs) ∷ st) cs o
      → Does prog t 0 (Going a i st cs) l1 st cs (if_fails o i)
  not_does a l1 m i st cs Open g h1 h2 ho = tt
  not_does a l1 m i st cs (Fail w) g h1 h2 ho =
      let l = leads_step prog t (ho.0 + 1) _ _ _ (fetch a i st cs (I.Choice l1) h1)
      (leads_last prog t ho.0 _ _ _ ho.3 (resumes l1 i st cs ho.2)) in
      does_after prog t 0 (suc (ho.0 + 1)) (suc (ho.0 + 1)) _ _ l1 st cs (At (1 + w) i NoTree) (omega arith) l
      (there _ (1 + w) l1 i st cs (omega (arith, ho.1)))
  not_does a l1 m i st cs (At w j f) g h1 h2 ho =
      let l = leads_step prog t (ho.0 + 1) _ _ _ (fetch a i st cs (I.Choice l1) h1)
      (leads_last prog t ho.0 _ _ _ ho.2 (fetch m j _ (cs ++ flat f) I.FailTwice h2)) in
      (suc (ho.0 + 1), omega (arith, ho.1), flat f, l)
  not_does a l1 m i st cs (HaltAt w j f) g h1 h2 ho = absurd g

  -- a look-ahead: a match goes back to its start
  pub and_does : (a l1 l2 m i : ℕ) (st : List Entry) (cs : List Caught) (o : Outcome) → Goes o
      → slice_get prog a ≡ Some (I.Choice l1) → slice_get prog m ≡ Some (I.BackCommit l2)
      → slice_get prog l1 ≡ Some I.Fail
      → Does prog t 0 (Going (a + 1) i (Retry l1 i (length cs) ∷ st) cs) m (Retry l1 i (length cs) ∷ st) cs o
      → Does prog t 0 (Going a i st cs) l2 st cs (if_matches o i)
  and_does a l1 l2 m i st cs Open g h1 h2 h3 ho = tt
  and_does a l1 l2 m i st cs (Fail w) g h1 h2 h3 ho =
      let l = leads_step prog t (ho.0 + 1) _ _ _ (fetch a i st cs (I.Choice l1) h1)
      (leads_last prog t ho.0 _ _ _ ho.3 (resumes l1 i st cs ho.2)) in
      let l' = leads_last prog t (suc (ho.0 + 1)) _ _ _ l (fetch l1 i st cs I.Fail h3) in
      does_after prog t 0 (suc (ho.0 + 1) + 1) (suc (ho.0 + 1) + 1) _ _ l2 st cs (Fail (1 + w)) (omega arith) l'
      (failed _ (1 + w) l2 st cs (omega (arith, ho.1)))
  and_does a l1 l2 m i st cs (At w j f) g h1 h2 h3 ho =
      let back : step prog t (Going m j (Retry l1 i (length cs) ∷ st) (cs ++ flat f)) ≡ Going l2 i st cs =
      fetch m j _ (cs ++ flat f) (I.BackCommit l2) h2 ∙ ap (Going l2 i st) (take-append_seam cs (flat f)) in
      let l = leads_step prog t (ho.0 + 1) _ _ _ (fetch a i st cs (I.Choice l1) h1)
      (leads_last prog t ho.0 _ _ _ ho.2 back) in
      does_after prog t 0 (suc (ho.0 + 1)) (suc (ho.0 + 1)) _ _ l2 st cs (At (1 + w) i NoTree) (omega arith) l
      (there _ (1 + w) l2 i st cs (omega (arith, ho.1)))
  and_does a l1 l2 m i st cs (HaltAt w j f) g h1 h2 h3 ho = absurd g

  -- a call: the body of the rule, and back
  pub call_does : (a l m i : ℕ) (st : List Entry) (cs : List Caught) (o : Outcome) → slice_get prog a ≡ Some (I.Call l)
      → slice_get prog m ≡ Some I.Return
      → Does prog t 0 (Going l i (ReturnTo (a + 1) ∷ st) cs) m (ReturnTo (a + 1) ∷ st) cs o
      → Does prog t 0 (Going a i st cs) (a + 1) st cs (more 1 o)
  call_does a l m i st cs Open h1 h2 ho = tt
  call_does a l m i st cs (Fail w) h1 h2 ho =
      let k = leads_step prog t (ho.0 + 1) _ _ _ (fetch a i st cs (I.Call l) h1)
      (leads_last prog t ho.0 _ _ _ ho.3 refl) in
      (suc (ho.0 + 1), omega (arith, ho.1), ho.2, k)
  call_does a l m i st cs (At w j f) h1 h2 ho =
      let k = leads_step prog t (ho.0 + 1) _ _ _ (fetch a i st cs (I.Call l) h1)
      (leads_last prog t ho.0 _ _ _ ho.2 (fetch m j _ (cs ++ flat f) I.Return h2)) in
      (suc (ho.0 + 1), omega (arith, ho.1), k)
  call_does a l m i st cs (HaltAt w j f) h1 h2 ho = λ d q.
      let k = ho d q in
      (suc k.0, omega (arith, k.1), leads_step prog t k.0 _ _ _ (fetch a i st cs (I.Call l) h1) k.2)

  -- a set's code in place of the turns, at one address
  pub span_does : (a i : ℕ) (s : List Range) (st : List Entry) (cs : List Caught) (again : ℕ → Outcome)
      → slice_get prog a ≡ Some (I.Span s) → Does prog t 0 (Going a (i + 1) st cs) (a + 1) st cs (again (i + 1))
      → Does prog t 0 (Going a i st cs) (a + 1) st cs (turns (one_char (slice_get t i) s i) i again)
  span_does a i s st cs again h k = go (fits (slice_get t i) s) (one a i st cs (I.Span s) _ h refl)
    where
      go : (q : Bool) → Leads prog t 1 (Going a i st cs) (if q then Going a (i + 1) st cs else Going (a + 1) i st cs)
          → Does prog t 0 (Going a i st cs) (a + 1) st cs (turns (if q then At 1 (i + 1) NoTree else Fail 1) i again)
      go true l =
          let k' : Does prog t 0 (Going a (i + 1) st cs) (a + 1) st (cs ++ flat NoTree) (again (i + 1)) =
          rw (append-nil cs) k in
          does_after prog t 0 1 1 _ _ (a + 1) st cs (prefixed (1 + 1) NoTree (again (i + 1))) refl l
          (does_prefixed prog t 0 1 (1 + 1) _ _ _ cs NoTree (again (i + 1)) (omega arith) k')
      go false l = does_after prog t 0 1 1 _ _ (a + 1) st cs (At (1 + 1) i NoTree) refl l
          (there 1 (1 + 1) (a + 1) i st cs (omega arith))

  -- a turn and the others, the entry of the loop being on the stack; a step was made before
  pub loop_does : (a m l i : ℕ) (st : List Entry) (cs : List Caught) (o : Outcome) (again : ℕ → Outcome)
      → slice_get prog m ≡ Some (I.PartialCommit a)
      → Does prog t 0 (Going a i (Retry l i (length cs) ∷ st) cs) m (Retry l i (length cs) ∷ st) cs o
      → ((j : ℕ) (cs1 : List Caught) → Does prog t 1 (Going a j (Retry l j (length cs1) ∷ st) cs1) l st cs1 (again j))
      → Does prog t 1 (Going a i (Retry l i (length cs) ∷ st) cs) l st cs (turns o i again)
  loop_does a m l i st cs Open again h ho k = tt
  loop_does a m l i st cs (Fail w) again h ho k =
      let e = leads_last prog t ho.0 _ _ _ ho.3 (resumes l i st cs ho.2) in
      does_after prog t 1 (ho.0 + 1) (1 + (ho.0 + 1)) _ _ l st cs (At (1 + w) i NoTree) refl e
      (there _ (1 + w) l i st cs (omega (arith, ho.1)))
  loop_does a m l i st cs (At w j f) again h ho k =
      let e = leads_last prog t ho.0 _ _ _ ho.2 (fetch m j _ (cs ++ flat f) (I.PartialCommit a) h) in
      does_after prog t 1 (ho.0 + 1) (1 + (ho.0 + 1)) _ _ l st cs (prefixed (1 + w) f (again j)) refl e
      (does_prefixed prog t 1 (1 + (ho.0 + 1)) (1 + w) _ _ _ cs f (again j) (omega (arith, ho.1))
      (k j (cs ++ flat f)))
  loop_does a m l i st cs (HaltAt w j f) again h ho k = λ d q. let x = ho d q in (x.0, omega (arith, x.1), x.2)

  -- one length of a look-prefixed, whose body begins at b; two steps were made before
  ends_does : (b m l e i p : ℕ) (st : List Entry) (cs : List Caught) (o rest : Outcome) → Goes o
      → slice_get prog m ≡ Some (I.Meet e)
      → Does prog t 0 (Going b p (Retry l i (length cs) ∷ st) cs) m (Retry l i (length cs) ∷ st) cs o
      → Does prog t 0 (Going l i st cs) e st cs (more 1 rest)
      → Does prog t 2 (Going b p (Retry l i (length cs) ∷ st) cs) e st cs (more 1 (ends_here o i rest))
  ends_does b m l e i p st cs Open rest g h ho hr = tt
  ends_does b m l e i p st cs (Fail w) rest g h ho hr =
      let k = leads_last prog t ho.0 _ _ _ ho.3 (resumes l i st cs ho.2) in
      does_after prog t 2 (ho.0 + 1) (2 + (ho.0 + 1)) _ _ e st cs (more 1 (more (1 + w) rest)) refl k
      (rw (more_swap 1 (1 + w) rest) (does_more prog t 0 (2 + (ho.0 + 1)) (1 + w) _ e st cs (more 1 rest)
      (omega (arith, ho.1)) hr))
  ends_does b m l e i p st cs (At w j f) rest g h ho hr =
      let k = leads_last prog t ho.0 _ _ _ ho.2 (fetch m j _ (cs ++ flat f) (I.Meet e) h) in
      let yes_ : Does prog t (2 + (ho.0 + 1)) (Going e i st (take (length cs) (cs ++ flat f))) e st cs
      (more 1 (At (1 + w) i NoTree)) =
      rw (take-append_seam cs (flat f)) (there _ (1 + (1 + w)) e i st cs (omega (arith, ho.1))) in
      let no_ : Does prog t (2 + (ho.0 + 1)) (Failing (Retry l i (length cs) ∷ st) (cs ++ flat f)) e st cs
      (more 1 (more (1 + w) rest)) =
      does_after prog t _ 1 (2 + (ho.0 + 1) + 1) _ _ e st cs (more 1 (more (1 + w) rest)) refl (record {
        by =
            resumes l i st cs (flat f);
      })
      (rw (more_swap 1 (1 + w) rest) (does_more prog t 0 (2 + (ho.0 + 1) + 1) (1 + w) _ e st cs (more 1 rest)
      (omega (arith, ho.1)) hr)) in
      does_after prog t 2 (ho.0 + 1) (2 + (ho.0 + 1)) _ _ e st cs (more 1 (if nat_eq j i then At (1 + w) i NoTree
      else more (1 + w) rest)) refl k
      (if_more (nat_eq j i) _ _ _ e st cs (At (1 + w) i NoTree) (more (1 + w) rest) yes_ no_)
  ends_does b m l e i p st cs (HaltAt w j f) rest g h ho hr = absurd g

  -- the lengths of a look-behind, one after another
  pub lengths_does : (p : Placed) (body : ℕ → Outcome) (e i : ℕ) (st : List Entry) (cs : List Caught)
      → ((j : ℕ) → Goes (body j))
      → ((a j : ℕ) (st1 : List Entry) → HasAt prog a (p a)
      → Does prog t 0 (Going a j st1 cs) (a + length (p a)) st1 cs (body j)) → (n k a : ℕ)
      → HasAt prog a (lengths_code p e n k a) → Does prog t 0 (Going a i st cs) e st cs (more 1 (lengths n k body i))
  lengths_does p body e i st cs g hb zero k a has =
      does_after prog t 0 1 1 _ _ e st cs (Fail (1 + 0)) refl (one a i st cs I.Fail _ has.0 refl)
      (failed 1 (1 + 0) e st cs (omega arith))
  lengths_does p body e i st cs g hb (suc n) k a has =
      let b = a + 1 + 1 in
      let m = b + length (p b) in
      let next = m + 1 in
      let st1 = Retry next i (length cs) ∷ st in
      let rest = lengths n (k + 1) body i in
      let tail = has_back prog b (p b) _ has.1.1 in
      let hr = lengths_does p body e i st cs g hb n (k + 1) next tail.1 in
      let back : Leads prog t 2 (Going a i st cs) (if nat_le k i then Going b (i - k) st1 cs else Failing st1 cs) =
      leads_step prog t 1 _ _ _ (fetch a i st cs (I.Choice next) has.0)
      (one (a + 1) i st1 cs (I.Back k) _ has.1.0 refl) in
      let far : Does prog t 2 (Failing st1 cs) e st cs (more 1 (more 1 rest)) =
      does_after prog t 2 1 3 _ _ e st cs (more 1 (more 1 rest)) refl (record {
        by =
            ap (Going next i st) (take-length cs);
      })
      (does_more prog t 0 3 1 _ e st cs (more 1 rest) (omega arith) hr) in
      does_after prog t 0 2 2 _ _ e st cs (more 1 (if nat_le k i then ends_here (body (i - k)) i rest else more 1 rest))
      refl back
      (if_more (nat_le k i) 2 _ _ e st cs (ends_here (body (i - k)) i rest) (more 1 rest)
      (ends_does b m next e i (i - k) st cs (body (i - k)) rest (g (i - k)) tail.0
      (hb b (i - k) st1 (has_front prog b (p b) _ has.1.1)) hr)
      far)
