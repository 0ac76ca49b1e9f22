-- What a fragment of code has to do for an outcome.
use Rattle.std.proofs.Common.{◌≡◌, ℕ, zero, suc, ◌+◌, ◌*◌, ◌≤◌, List, [], ◌∷◌, ◌++◌, length, Some, refl, ap, ◌∙◌, subst}
use Rattle.std.proofs.Common.{arith, append_assoc}
use Rattle.std.specs.Prelude.{slice_get}
use Rattle.rpl_core.specs.Forest.{Forest, Caught, Finish, flat, begins, finishes}
use Rattle.rpl_core.specs.Meaning.{Outcome, Open, Fail, At, HaltAt, more, prefixed}
use Rattle.rpl_core.specs.Instr.{Instr}
use Rattle.rpl_core.specs.Machine.{Entry, State, Going, Failing, Ended, step, after}
use Rattle.rpl_compile_laws.proofs.Captures.{flat_joined, begins_append, finishes_append, flat_balanced}

-- the instructions stand in the program at this address
abbrev pub HasAt : List Instr → ℕ → List Instr → Type 0
HasAt prog a [] = Unit {0}
HasAt prog a (i ∷ is) = (slice_get prog a ≡ Some i) × HasAt prog (a + 1) is

-- what stands first of two
pub has_front : (prog : List Instr) (a : ℕ) (x y : List Instr) → HasAt prog a (x ++ y) → HasAt prog a x
has_front prog a [] y h = tt
has_front prog a (i ∷ x) y h = (h.0, has_front prog (a + 1) x y h.1)

-- what stands after it
pub has_back : (prog : List Instr) (a : ℕ) (x y : List Instr) → HasAt prog a (x ++ y) → HasAt prog (a + length x) y
has_back prog a [] y h = let e : a ≡ a + 0 = omega arith in subst (λ n. HasAt prog n y) e h
has_back prog a (i ∷ x) y h =
    let e : a + 1 + length x ≡ a + length (i ∷ x) = omega arith in
    subst (λ n. HasAt prog n y) e (has_back prog (a + 1) x y h.1)

-- the closings that end a run at once
abbrev pub closings : ℕ → ℕ → List Caught
closings zero j = []
closings (suc d) j = Finish j ∷ closings d j

module _ (prog : List Instr) (t : List ℕ) where
  -- n steps lead from one state to another
  pub record Leads (n : ℕ) (s s1 : State) : Type 0 where
    pub by : after prog t n s ≡ s1

  -- no step leads nowhere
  pub leads_none : (s : State) → Leads 0 s s
  leads_none s = record { by = refl }

  -- one step and then others
  pub leads_step : (n : ℕ) (s s1 s2 : State) → step prog t s ≡ s1 → Leads n s1 s2 → Leads (suc n) s s2
  leads_step n s s1 s2 e l = record { by = ap (after prog t n) e ∙ l.by }

  -- some steps and then others
  pub leads_on : (m n : ℕ) (s s1 s2 : State) → Leads m s s1 → Leads n s1 s2 → Leads (m + n) s s2
  leads_on zero n s s1 s2 l k =
      let e : n ≡ 0 + n = omega arith in
      subst (λ x. Leads x s s2) e (record { by = ap (after prog t n) l.by ∙ k.by })
  leads_on (suc m) n s s1 s2 l k =
      let e : suc (m + n) ≡ suc m + n = omega arith in
      subst (λ x. Leads x s s2) e
      (leads_step (m + n) s (step prog t s) s2 refl (leads_on m n (step prog t s) s1 s2 (record { by = l.by }) k))

  -- some steps and then one
  pub leads_last : (n : ℕ) (s s1 s2 : State) → Leads n s s1 → step prog t s1 ≡ s2 → Leads (n + 1) s s2
  leads_last n s s1 s2 l e = leads_on n 1 s s1 s2 l (record { by = e })

  -- what the machine has to do from the state s, v steps being made already: for At it comes to the
  -- address b, for Fail it is failing, both with the stack as it was, and for HaltAt the run has ended
  abbrev pub Does : ℕ → State → ℕ → List Entry → List Caught → Outcome → Type 0
  Does v s b st cs Open = Unit {0}
  Does v s b st cs (Fail w) = (n : ℕ) × (v + n ≤ 4 * w) × (ds : List Caught) × Leads n s (Failing st (cs ++ ds))
  Does v s b st cs (At w j f) = (n : ℕ) × (v + n ≤ 4 * w) × Leads n s (Going b j st (cs ++ flat f))
  Does v s b st cs (HaltAt w j f) = (d : ℕ) → begins cs ≡ finishes cs + d → (n : ℕ) × (v + n ≤ 4 * w + d)
      × Leads n s (Ended j (cs ++ (flat f ++ closings d j)))

  -- n steps before
  pub does_after : (v n u : ℕ) (s s1 : State) (b : ℕ) (st : List Entry) (cs : List Caught) (o : Outcome) → u ≡ v + n
      → Leads n s s1 → Does u s1 b st cs o → Does v s b st cs o
  does_after v n u s s1 b st cs Open e l h = tt
  does_after v n u s s1 b st cs (Fail w) e l h = (n + h.0, omega (arith, h.1), h.2, leads_on n h.0 _ _ _ l h.3)
  does_after v n u s s1 b st cs (At w j f) e l h = (n + h.0, omega (arith, h.1), leads_on n h.0 _ _ _ l h.2)
  does_after v n u s s1 b st cs (HaltAt w j f) e l h = λ d q. let k = h d q in
      (n + k.0, omega (arith, k.1), leads_on n k.0 _ _ _ l k.2)

  -- more work pays for more steps
  pub does_more : (v u x : ℕ) (s : State) (b : ℕ) (st : List Entry) (cs : List Caught) (o : Outcome) → u ≤ v + 4 * x
      → Does v s b st cs o → Does u s b st cs (more x o)
  does_more v u x s b st cs Open e h = tt
  does_more v u x s b st cs (Fail w) e h = (h.0, omega (arith, h.1), h.2, h.3)
  does_more v u x s b st cs (At w j f) e h = (h.0, omega (arith, h.1), h.2)
  does_more v u x s b st cs (HaltAt w j f) e h = λ d q. let k = h d q in (k.0, omega (arith, k.1), k.2)

  -- what follows trees
  pub does_prefixed : (v u x : ℕ) (s : State) (b : ℕ) (st : List Entry) (cs : List Caught) (f : Forest) (o : Outcome)
      → u ≤ v + 4 * x → Does v s b st (cs ++ flat f) o → Does u s b st cs (prefixed x f o)
  does_prefixed v u x s b st cs f Open e h = tt
  does_prefixed v u x s b st cs f (Fail w) e h =
      (h.0, omega (arith, h.1), flat f ++ h.2, rw (← append_assoc cs (flat f) h.2) h.3)
  does_prefixed v u x s b st cs f (At w j g) e h =
      (h.0, omega (arith, h.1), rw (flat_joined f g, ← append_assoc cs (flat f) (flat g)) h.2)
  does_prefixed v u x s b st cs f (HaltAt w j g) e h = λ d q.
      let q' : begins (cs ++ flat f) ≡ finishes (cs ++ flat f) + d =
      omega (arith, begins_append cs (flat f), finishes_append cs (flat f), flat_balanced f) in
      let k = h d q' in
      let same : (cs ++ flat f) ++ (flat g ++ closings d j) ≡ cs ++ ((flat f ++ flat g) ++ closings d j) =
      simp append_assoc in
      (k.0, omega (arith, k.1), rw (flat_joined f g, ← same) k.2)

  -- the same address and captures under other names
  pub does_at : (v : ℕ) (s : State) (b c : ℕ) (st : List Entry) (cs : List Caught) (o : Outcome) → b ≡ c
      → Does v s b st cs o → Does v s c st cs o
  does_at v s b c st cs o e h = subst (λ x. Does v s x st cs o) e h
