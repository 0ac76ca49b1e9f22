-- The code of a goal is safe.
use Rattle.std.proofs.Common.{◌≡◌, ℕ, zero, suc, ◌+◌, ◌<◌, ◌≤◌, List, [], ◌∷◌, ◌++◌, length, Some, None, refl, sym, ap}
use Rattle.std.proofs.Common.{◌∙◌, subst, arith, length-append, append_assoc, inl, inr, ⊎_elim, get_or}
use Rattle.std.proofs.lemmas.Bool.{cases_lt, cases_eq, eq-eqb, ne_eqb}
use Rattle.std.proofs.lemmas.Option.{slice_get-get_or}
use Rattle.std.specs.Prelude.{◌≢◌, ◌⊎◌, Bool, true, false, if◌then◌else◌, slice_get}
use Rattle.rpl_core.specs.Core.{Core, Call, Capture, Halt}
use Rattle.rpl_core.specs.Instr.{Instr}
use Rattle.rpl_core.specs.Instr as I
use Rattle.rpl_core.specs.Code.{code, size}
use Rattle.rpl_core.specs.Programs.{calls, bodies, place_of, address, program, Reaches, by_goal, by_rule}
use Rattle.rpl_compile_laws.specs.Laws.{itself, by_call}
use Rattle.rpl_compile_laws.proofs.Places.{code_long, has_all, placed_rule}
use Rattle.rpl_compile_laws.proofs.Steps.{HasAt, has_back}
use Rattle.rpl_safe.specs.Safe.{Shape, Shapes, Given, fresh, given_by, next_in, AreIn, Avoids, IsKept, IsOpen, IsSafe}
use Rattle.rpl_safe.specs.Laws.{CodeIsSafeLaw}
use Rattle.rpl_safe.proofs.Standing.{Stands, stands_front, stands_back, stands_all, Each, each_append, each_map}
use Rattle.rpl_safe.proofs.Standing.{each_at}
use Rattle.rpl_safe.proofs.Shaping.{deeper, shapes_of, bodies_shapes}
use Rattle.rpl_safe.proofs.Parts.{Beyond, Fine, fine0, fine1, call_fine}
use Rattle.rpl_safe.proofs.Places.{lined, Linked, lies}

module _ (marks : ℕ → Bool) where
  -- no rule begins before the first
  place_from : (ps : List Core) (k a r : ℕ) → a ≤ place_of marks ps k a r
  place_from [] k a r = omega arith
  place_from (p ∷ ps) k a zero = omega arith
  place_from (p ∷ ps) k a (suc r) = go (marks k) (λ n. place_from ps (k + 1) n r)
    where
      go : (b : Bool) → ((n : ℕ) → n ≤ place_of marks ps (k + 1) n r)
          → a ≤ place_of marks ps (k + 1) (if b then a + size p + 1 else a) r
      go true rest = let h = rest (a + size p + 1) in omega (arith, h)
      go false rest = rest a

  -- a marked rule begins before those after it
  place_before : (ps : List Core) (k a q r : ℕ) (p : Core) → slice_get ps q ≡ Some p → marks (k + q) ≡ true → q < r
      → place_of marks ps k a q < place_of marks ps k a r
  place_before [] k a q r p e m lt = absurd (cc)
  place_before (x ∷ ps) k a zero zero p e m lt = absurd (omega (arith, lt))
  place_before (x ∷ ps) k a zero (suc r) p e m lt = go (marks k) (let z : k + 0 ≡ k = omega arith in ap marks (sym z)
      ∙ m)
    where
      go : (b : Bool) → b ≡ true → a < place_of marks ps (k + 1) (if b then a + size x + 1 else a) r
      go true f = let h = place_from ps (k + 1) (a + size x + 1) r in omega (arith, h)
      go false f = absurd (cc)
  place_before (x ∷ ps) k a (suc q) zero p e m lt = absurd (omega (arith, lt))
  place_before (x ∷ ps) k a (suc q) (suc r) p e m lt =
      let z : k + 1 + q ≡ k + suc q = omega arith in
      place_before ps (k + 1) (if marks k then a + size x + 1 else a) q r p e (ap marks z ∙ m) (omega (arith, lt))

module _ (shapes : Shapes) (marks : ℕ → Bool) (at : ℕ → ℕ) where
  -- the shapes of a marked rule stand at its place
  placed : (ps : List Core) (k a r : ℕ) (p : Core) → Stands shapes a (bodies_shapes marks at ps k a)
      → slice_get ps r ≡ Some p → marks (k + r) ≡ true → (b : ℕ) → b ≡ place_of marks ps k a r
      → Stands shapes b (shapes_of at p (fresh b) b ++ fresh b ∷ [])
  placed [] k a r p st e m b q = absurd (cc)
  placed (x ∷ ps) k a zero p st e m b q =
      subst (λ n. Stands shapes n (shapes_of at p (fresh n) n ++ fresh n ∷ [])) (sym q)
      (here (marks k) (let z : k + 0 ≡ k = omega arith in ap marks (sym z) ∙ m) st)
    where
      here : (y : Bool) → y ≡ true
          → Stands shapes a (if y then shapes_of at x (fresh a) a ++ fresh a ∷ bodies_shapes marks at ps (k + 1)
          (a + size x + 1) else bodies_shapes marks at ps (k + 1) a)
          → Stands shapes a (shapes_of at p (fresh a) a ++ fresh a ∷ [])
      here false f h = absurd (cc)
      here true f h =
          let s : x ≡ p = cc in
          let same = append_assoc (shapes_of at x (fresh a) a) (fresh a ∷ [])
          (bodies_shapes marks at ps (k + 1) (a + size x + 1)) in
          subst (λ y. Stands shapes a (shapes_of at y (fresh a) a ++ fresh a ∷ [])) s
          (stands_front shapes a (shapes_of at x (fresh a) a ++ fresh a ∷ [])
          (bodies_shapes marks at ps (k + 1) (a + size x + 1)) (subst (Stands shapes a) (sym same) h))
  placed (x ∷ ps) k a (suc r) p st e m b q = there (marks k) (λ n h l. placed ps (k + 1) n r p h e m' b l) st q
    where
      m' : marks (k + 1 + r) ≡ true
      m' = let z : k + 1 + r ≡ k + suc r = omega arith in ap marks z ∙ m

      there : (y : Bool) → ((n : ℕ) → Stands shapes n (bodies_shapes marks at ps (k + 1) n)
          → b ≡ place_of marks ps (k + 1) n r → Stands shapes b (shapes_of at p (fresh b) b ++ fresh b ∷ []))
          → Stands shapes a (if y then shapes_of at x (fresh a) a ++ fresh a ∷ bodies_shapes marks at ps (k + 1)
          (a + size x + 1) else bodies_shapes marks at ps (k + 1) a)
          → b ≡ place_of marks ps (k + 1) (if y then a + size x + 1 else a) r
          → Stands shapes b (shapes_of at p (fresh b) b ++ fresh b ∷ [])
      there false rest h l = rest a h l
      there true rest h l =
          let n : length (shapes_of at x (fresh a) a) ≡ size x = (lined shapes at x).long (fresh a) a
          ∙ code_long at (λ y. 0) x a 0 in
          rest (a + size x + 1) (stands_back shapes a (size x) (shapes_of at x (fresh a) a)
          (fresh a ∷ bodies_shapes marks at ps (k + 1) (a + size x + 1)) n h).1 l

module _ (P : ℕ → Instr → Shape → Type 0) (marks : ℕ → Bool) (at : ℕ → ℕ) where
  -- what holds of the code of each marked rule holds of all of them
  each_body : (ps : List Core) (k a : ℕ) → ((r : ℕ) (p : Core) → slice_get ps r ≡ Some p → marks (k + r) ≡ true
      → (b : ℕ) → b ≡ place_of marks ps k a r
      → Each P b (code at p b ++ I.Return ∷ []) (shapes_of at p (fresh b) b ++ fresh b ∷ []))
      → Each P a (bodies marks at ps k a) (bodies_shapes marks at ps k a)
  each_body [] k a h = tt
  each_body (x ∷ ps) k a h = go (marks k) refl (λ n h1. each_body ps (k + 1) n h1)
    where
      go : (y : Bool) → marks k ≡ y
          → ((n : ℕ) → ((r : ℕ) (p : Core) → slice_get ps r ≡ Some p → marks (k + 1 + r) ≡ true → (b : ℕ)
          → b ≡ place_of marks ps (k + 1) n r
          → Each P b (code at p b ++ I.Return ∷ []) (shapes_of at p (fresh b) b ++ fresh b ∷ []))
          → Each P n (bodies marks at ps (k + 1) n) (bodies_shapes marks at ps (k + 1) n))
          → Each P a (if y then code at x a ++ I.Return ∷ bodies marks at ps (k + 1) (a + size x + 1)
          else bodies marks at ps (k + 1) a) (if y then shapes_of at x (fresh a) a
          ++ fresh a ∷ bodies_shapes marks at ps (k + 1) (a + size x + 1) else bodies_shapes marks at ps (k + 1) a)
      go false f others = others a (λ r p e m b q. let z : k + 1 + r ≡ k + suc r = omega arith in
          h (suc r) p e (sym (ap marks z) ∙ m) b (q
          ∙ ap (λ y. place_of marks ps (k + 1) (if y then a + size x + 1 else a) r) (sym f)))
      go true f others =
          let n = a + size x + 1 in
          let z0 : k ≡ k + 0 = omega arith in
          let first = h 0 x refl (sym (ap marks z0) ∙ f) a refl in
          let rest = others n (λ r p e m b q. let z : k + 1 + r ≡ k + suc r = omega arith in
          h (suc r) p e (sym (ap marks z) ∙ m) b (q
          ∙ ap (λ y. place_of marks ps (k + 1) (if y then a + size x + 1 else a) r) (sym f))) in
          let len : n ≡ a + length (code at x a ++ I.Return ∷ []) =
          omega (arith, length-append (code at x a) (I.Return ∷ []), code_long at (λ y. 0) x a 0) in
          let both = each_append P a (code at x a ++ I.Return ∷ []) (bodies marks at ps (k + 1) n)
          (shapes_of at x (fresh a) a ++ fresh a ∷ []) (bodies_shapes marks at ps (k + 1) n) first
          (subst (λ m. Each P m (bodies marks at ps (k + 1) n) (bodies_shapes marks at ps (k + 1) n)) len rest) in
          let e1 = append_assoc (code at x a) (I.Return ∷ []) (bodies marks at ps (k + 1) n) in
          let e2 = append_assoc (shapes_of at x (fresh a) a) (fresh a ∷ []) (bodies_shapes marks at ps (k + 1) n) in
          subst (λ u. Each P a (code at x a ++ I.Return ∷ bodies marks at ps (k + 1) n) u) e2
          (subst (λ y. Each P a y ((shapes_of at x (fresh a) a ++ fresh a ∷ [])
          ++ bodies_shapes marks at ps (k + 1) n)) e1 both)

-- nothing but a call comes to the first address of a frame from after it
avoids : (shapes : Shapes) (l f : ℕ) (i : Instr) (given : Given) → shapes l ≡ Some (fresh l) → AreIn shapes given
    → Beyond f i given → (i ≡ I.Call l) ⊎ Avoids l given
avoids shapes l f i [] e h k = inr tt
avoids shapes l f i (g ∷ gs) e h k =
    ⊎_elim (λ same. here same k.0) (λ other. ⊎_elim (λ c. inl c) (λ rest. inr (other, rest))
    (avoids shapes l f i gs e h.1 k.1)) (cases_eq g.0 l)
  where
    here : g.0 ≡ l → (i ≡ I.Call g.0) ⊎ ((f < g.0) × (g.1.frame ≡ f)) → (i ≡ I.Call l) ⊎ Avoids l (g ∷ gs)
    here same (inl c) = inl (c ∙ ap I.Call same)
    here same (inr x) =
        let two : Some g.1 ≡ Some (fresh l) = sym h.0 ∙ ap shapes same ∙ e in
        let shape : g.1 ≡ fresh l = cc in
        let frame : g.1.frame ≡ l = ap (λ s. s.frame) shape in
        absurd (omega (arith, x.0, x.1, frame, same))

-- what is asked of each address: it is fine, and the tree of the first frame is open where T says
record Good (shapes : Shapes) (T : ℕ → Instr → Shape → Type 0) (a : ℕ) (i : Instr) (s : Shape) : Type 0 where
  fine : Fine shapes s.frame 0 a i s
  tree : T a i s

-- the same fact with the frame's own number
loose : (shapes : Shapes) (f c a : ℕ) (i : Instr) (s : Shape) → Fine shapes f c a i s → Fine shapes s.frame 0 a i s
loose shapes f c a i s h = record {
  given = h.given;
  by = h.by;
  into = h.into;
  beyond = h.beyond;
  frame = refl;
  trees = omega arith;
}

-- in the frame no tree is open only at its first address
record Tight (shapes : Shapes) (f a : ℕ) (i : Instr) (s : Shape) : Type 0 where
  fine : Fine shapes f 0 a i s
  first : s.trees ≡ 0 → a ≡ f

-- a return from a frame that isn't the first
return_fine : (shapes : Shapes) (f m : ℕ) → f ≢ 0 → Fine shapes f 0 m I.Return (fresh f)
return_fine shapes f m ne =
    fine0 shapes f 0 m I.Return (fresh f) refl (omega arith) (ap (λ q. if q then None else Some []) (ne_eqb f 0 ne))

module _ (R : List Core) (g : Core) (marks : ℕ → Bool) (found : (r : ℕ) → marks r ≡ true → r < length R) (ahead :
    (r : ℕ) → calls g r ≡ true → marks r ≡ true) (further : (q r : ℕ) (p : Core) → marks q ≡ true
    → slice_get R q ≡ Some p
    → calls p r ≡ true → marks r ≡ true) where
  abbrev at : ℕ → ℕ
  at = address marks R g

  abbrev prog : List Instr
  prog = program marks R g

  abbrev rest : List Shape
  rest = bodies_shapes marks at R 0 (size g + 1)

  abbrev all : List Shape
  all = shapes_of at g (fresh 0) 0 ++ fresh 0 ∷ rest

  abbrev shapes : Shapes
  shapes = slice_get all

  abbrev len : ℕ
  len = 0 + length (code at g 0)

  goal_long : len + 1 ≡ size g + 1
  goal_long = omega (arith, code_long at (λ x. 0) g 0 0)

  front : Stands shapes 0 (shapes_of at g (fresh 0) 0)
  front = stands_front shapes 0 (shapes_of at g (fresh 0) 0) (fresh 0 ∷ rest) (stands_all all [])

  back : Stands shapes len (fresh 0 ∷ rest)
  back = stands_back shapes 0 (length (code at g 0)) (shapes_of at g (fresh 0) 0) (fresh 0 ∷ rest)
      ((lined shapes at g).long (fresh 0) 0) (stands_all all [])

  -- each marked rule stands at its place
  rule_stands : (r : ℕ) (p : Core) → slice_get R r ≡ Some p → marks r ≡ true
      → Stands shapes (at r) (shapes_of at p (fresh (at r)) (at r) ++ fresh (at r) ∷ [])
  rule_stands r p e m =
      let z : r ≡ 0 + r = omega arith in
      placed shapes marks at R 0 (size g + 1) r p (subst (λ n. Stands shapes n rest) goal_long back.1) e
      (ap marks (sym z) ∙ m) (at r) refl

  rule_front : (r : ℕ) (p : Core) → slice_get R r ≡ Some p → marks r ≡ true
      → Stands shapes (at r) (shapes_of at p (fresh (at r)) (at r))
  rule_front r p e m =
      stands_front shapes (at r) (shapes_of at p (fresh (at r)) (at r)) (fresh (at r) ∷ []) (rule_stands r p e m)

  rule_end : (r : ℕ) (p : Core) → slice_get R r ≡ Some p → marks r ≡ true
      → shapes (at r + length (code at p (at r))) ≡ Some (fresh (at r))
  rule_end r p e m = (stands_back shapes (at r) (length (code at p (at r))) (shapes_of at p (fresh (at r)) (at r))
      (fresh (at r) ∷ []) ((lined shapes at p).long (fresh (at r)) (at r)) (rule_stands r p e m)).0

  behind_goal : (r : ℕ) → size g < at r
  behind_goal r = let h = place_from marks R 0 (size g + 1) r in omega (arith, h)

  linked_rule : (r : ℕ) (p : Core) → slice_get R r ≡ Some p → marks r ≡ true → Linked shapes at r
  linked_rule r p e m = (
    (λ q. omega (arith, behind_goal r, q)),
    (lined shapes at p).entry (fresh (at r)) (at r) (rule_front r p e m)
        (rule_end r p e m),
  )

  linked : (r : ℕ) → marks r ≡ true → Linked shapes at r
  linked r m = linked_rule r (get_or R r Halt) (slice_get-get_or R r Halt (found r m)) m

  -- the code of a rule
  rule_fine : (r : ℕ) (p : Core) → slice_get R r ≡ Some p → marks r ≡ true
      → Each (Fine shapes (at r) 0) (at r) (code at p (at r) ++ I.Return ∷ []) (shapes_of at p (fresh (at r)) (at r)
      ++ fresh (at r) ∷ [])
  rule_fine r p e m =
      let b = at r in
      each_append (Fine shapes b 0) b (code at p b) (I.Return ∷ []) (shapes_of at p (fresh b) b) (fresh b ∷ [])
      (lies shapes at b 0 p (λ q k. linked q (further r q p m e k)) (fresh b) b refl (omega arith) (omega arith)
      (rule_front r p e m) (rule_end r p e m))
      (return_fine shapes b (b + length (code at p b)) (linked_rule r p e m).0, tt)

  -- a capture that is a whole frame
  tight : (f : ℕ) (label : List ℕ) (p : Core) → ((r : ℕ) → calls p r ≡ true → marks r ≡ true)
      → Stands shapes f (shapes_of at (Capture label p) (fresh f) f) → shapes (f + length (code at (Capture label p) f))
      ≡ Some (fresh f) → Each (Tight shapes f) f (code at (Capture label p) f)
      (shapes_of at (Capture label p) (fresh f) f)
  tight f label p go st out =
      let s = fresh f in
      let r = deeper s in
      let x = code at p (f + 1) in
      let u = shapes_of at p r (f + 1) in
      let h = lined shapes at p in
      let before = stands_front shapes (f + 1) u (r ∷ []) st.1 in
      let behind = stands_back shapes (f + 1) (length x) u (r ∷ []) (h.long r (f + 1)) st.1 in
      let same : f + length (code at (Capture label p) f) ≡ f + 1 + length x + 1 =
      omega (arith, length-append x (I.Close ∷ [])) in
      let end = subst (λ m. shapes m ≡ Some s) same out in (
        record {
          fine = fine1 shapes f 0 f (I.Open label) s (f + 1) r refl (omega arith) refl
              (h.entry r (f + 1) before behind.0) (omega arith) refl;
          first = λ e. refl;
        },
        each_append (Tight shapes f) (f + 1) x (I.Close ∷ []) u (r ∷ [])
            (each_map (Fine shapes f 1) (Tight shapes f) (λ b i q k. record {
              fine =
                  record {
                    given = k.given;
                    by = k.by;
                    into = k.into;
                    beyond = k.beyond;
                    frame = k.frame;
                    trees = omega arith;
                  };
              first = λ e. absurd (omega (arith, k.trees, e));
            }) (f + 1) x u
            (lies shapes at f 1 p (λ q k. linked q (go q k)) r (f + 1) refl (omega arith) (omega arith) before
            behind.0)) (
              record {
                fine = fine1 shapes f 0 (f + 1 + length x) I.Close r (f + 1 + length x + 1) s refl (omega arith)
                    refl end (omega arith) refl;
                first = λ e. absurd (omega (arith, e));
              },
              tt,
            ),
      )

  -- the whole from its parts
  whole : (T : ℕ → Instr → Shape → Type 0) → Each (Good shapes T) 0 (code at g 0) (shapes_of at g (fresh 0) 0)
      → T len I.Finish (fresh 0) → ((r : ℕ) (p : Core) → slice_get R r ≡ Some p → marks r ≡ true
      → Each (Good shapes T) (at r) (code at p (at r) ++ I.Return ∷ []) (shapes_of at p (fresh (at r)) (at r)
      ++ fresh (at r) ∷ [])) → Each (Good shapes T) 0 prog all
  whole T first end rules =
      each_append (Good shapes T) 0 (code at g 0) (I.Finish ∷ bodies marks at R 0 (size g + 1))
      (shapes_of at g (fresh 0) 0) (fresh 0 ∷ rest) first (
        record { fine = fine0 shapes 0 0 len I.Finish (fresh 0) refl (omega arith) refl; tree = end },
        subst (λ n. Each (Good shapes T) n (bodies marks at R 0 (size g + 1)) rest) (sym goal_long)
            (each_body (Good shapes T) marks at R 0 (size g + 1) (λ r p e m b q.
            let z : 0 + r ≡ r = omega arith in
            subst (λ n. Each (Good shapes T) n (code at p n ++ I.Return ∷ []) (shapes_of at p (fresh n) n
            ++ fresh n ∷ [])) (sym q) (rules r p e (ap marks (sym z) ∙ m)))),
      )

  module _ (T : ℕ → Instr → Shape → Type 0) (each : Each (Good shapes T) 0 prog all) where
    here : (a : ℕ) (s : Shape) → shapes a ≡ Some s → (i : Instr) × (slice_get prog a ≡ Some i) × Good shapes T a i s
    here a s e =
        let x = each_at (Good shapes T) 0 prog all a s each e in
        let z : 0 + a ≡ a = omega arith in
        (x.0, x.1, subst (λ m. Good shapes T m x.0 s) z x.2)

    kept : IsKept prog shapes
    kept = record { start = (lined shapes at g).entry (fresh 0) 0 front back.0; goes_on = goes_on }
      where
        goes_on : (a : ℕ) (s : Shape) → shapes a ≡ Some s → (given : Given) × (next_in prog a s ≡ Some given)
            × AreIn shapes given
        goes_on a s e = let x = here a s e in
            (x.2.fine.given, ap (λ o. given_by o a s) x.1 ∙ x.2.fine.by, x.2.fine.into)

    only_called : (l a : ℕ) (s : Shape) (given : Given) → shapes l ≡ Some (fresh l) → shapes a ≡ Some s
        → next_in prog a s ≡ Some given → (slice_get prog a ≡ Some (I.Call l)) ⊎ Avoids l given
    only_called l a s given el e by =
        let x = here a s e in
        let two : Some x.2.fine.given ≡ Some given = sym x.2.fine.by ∙ sym (ap (λ o. given_by o a s) x.1) ∙ by in
        let same : x.2.fine.given ≡ given = cc in
        ⊎_elim (λ c. inl (x.1 ∙ ap Some c)) (λ v. inr (subst (Avoids l) same v))
        (avoids shapes l s.frame x.0 x.2.fine.given el x.2.fine.into x.2.fine.beyond)

-- the code of a goal that is a capture
module _ (R : List Core) (label : List ℕ) (p : Core) (marks : ℕ → Bool) (found : (r : ℕ) → marks r ≡ true
    → r < length R) (ahead : (r : ℕ) → calls (Capture label p) r ≡ true → marks r ≡ true) (further :
    (q r : ℕ) (x : Core)
    → marks q ≡ true → slice_get R q ≡ Some x → calls x r ≡ true → marks r ≡ true) where
  abbrev g1 : Core
  g1 = Capture label p

  abbrev shapes1 : Shapes
  shapes1 = shapes R g1 marks found ahead further

  abbrev TreesByItself : ℕ → Instr → Shape → Type 0
  TreesByItself a i s = s.frame ≡ 0 → s.trees ≡ 0 → (a ≡ 0) ⊎ (i ≡ I.Finish)

  each1 : Each (Good shapes1 TreesByItself) 0 (program marks R g1) (all R g1 marks found ahead further)
  each1 =
      whole R g1 marks found ahead further TreesByItself
      (each_map (Tight shapes1 0) (Good shapes1 TreesByItself) (λ b i s h. record {
        fine =
            loose shapes1 0 0 b i s h.fine;
        tree = λ z c. inl (h.first c);
      }) 0 (code (address marks R g1) g1 0)
      (shapes_of (address marks R g1) g1 (fresh 0) 0)
      (tight R g1 marks found ahead further 0 label p ahead (front R g1 marks found ahead further)
      (back R g1 marks found ahead further).0))
      (λ z c. inr refl)
      (λ r x e m.
      let ne = (linked_rule R g1 marks found ahead further r x e m).0 in
      each_map (Fine shapes1 (address marks R g1 r) 0) (Good shapes1 TreesByItself) (λ b i s h. record {
        fine =
            loose shapes1 (address marks R g1 r) 0 b i s h;
        tree = λ z c. absurd (ne (sym h.frame ∙ z));
      })
      (address marks R g1 r) (code (address marks R g1) x (address marks R g1 r) ++ I.Return ∷ [])
      (shapes_of (address marks R g1) x (fresh (address marks R g1 r)) (address marks R g1 r)
      ++ fresh (address marks R g1 r) ∷ [])
      (rule_fine R g1 marks found ahead further r x e m))

  by_itself : IsSafe (program marks R g1)
  by_itself = record {
    shapes = shapes1;
    kept = kept R g1 marks found ahead further TreesByItself each1;
    tree = inl (record { label = label; opens = refl; inside = inside });
  }
    where
      inside : IsOpen (program marks R g1) shapes1 0 I.Finish
      inside a s e z c =
          let x = here R g1 marks found ahead further TreesByItself each1 a s e in
          ⊎_elim (λ first. inl first) (λ end. inr (x.1 ∙ ap Some end)) (x.2.tree z c)

-- the code of a goal that calls one
module _ (R : List Core) (label : List ℕ) (p : Core) (r0 : ℕ) (is : slice_get R r0 ≡ Some (Capture label p)) (marks : ℕ
    → Bool) (found : (r : ℕ) → marks r ≡ true → r < length R) (ahead : (r : ℕ) → calls (Call r0) r ≡ true
    → marks r ≡ true) (further : (q r : ℕ) (x : Core) → marks q ≡ true → slice_get R q ≡ Some x → calls x r ≡ true
    → marks r ≡ true) where
  abbrev g2 : Core
  g2 = Call r0

  abbrev at2 : ℕ → ℕ
  at2 = address marks R g2

  abbrev shapes2 : Shapes
  shapes2 = shapes R g2 marks found ahead further

  abbrev L : ℕ
  L = at2 r0

  called : marks r0 ≡ true
  called = ahead r0 (eq-eqb r0 r0 refl)

  link : Linked shapes2 at2 r0
  link = linked R g2 marks found ahead further r0 called

  abbrev TreesByCall : ℕ → Instr → Shape → Type 0
  TreesByCall a i s = (s.frame ≡ 0 → (a ≡ 0) ⊎ (a ≡ 1)) × (s.frame ≡ L → s.trees ≡ 0 → (a ≡ L) ⊎ (i ≡ I.Return))

  -- no other marked rule begins there
  apart : (r : ℕ) (x : Core) → slice_get R r ≡ Some x → marks r ≡ true → r ≢ r0 → at2 r ≢ L
  apart r x e m ne same =
      let z : r ≡ 0 + r = omega arith in
      let z0 : r0 ≡ 0 + r0 = omega arith in
      ⊎_elim
      (λ lt. absurd (omega (arith, same, place_before marks R 0 (size g2 + 1) r r0 x e (ap marks (sym z) ∙ m) lt)))
      (λ ge. absurd (omega (
        arith,
        same,
        place_before marks R 0 (size g2 + 1) r0 r (Capture label p) is
            (ap marks (sym z0) ∙ called) (let d : r0 < r = omega (arith, ge, ne) in d),
      )))
      (cases_lt r r0)

  -- the code of the rule that is the tree
  root : Each (Good shapes2 TreesByCall) L (code at2 (Capture label p) L ++ I.Return ∷ [])
      (shapes_of at2 (Capture label p) (fresh L) L ++ fresh L ∷ [])
  root =
      each_append (Good shapes2 TreesByCall) L (code at2 (Capture label p) L) (I.Return ∷ [])
      (shapes_of at2 (Capture label p) (fresh L) L) (fresh L ∷ [])
      (each_map (Tight shapes2 L) (Good shapes2 TreesByCall) (λ b i s h. record {
        fine = loose shapes2 L 0 b i s h.fine;
        tree = (λ z. absurd (link.0 (sym h.fine.frame ∙ z)), λ z c. inl (h.first c));
      }) L (code at2 (Capture label p) L)
      (shapes_of at2 (Capture label p) (fresh L) L)
      (tight R g2 marks found ahead further L label p (λ r k. further r0 r (Capture label p) called is k)
      (rule_front R g2 marks found ahead further r0 (Capture label p) is called)
      (rule_end R g2 marks found ahead further r0 (Capture label p) is called))) (
        record {
          fine = loose shapes2 L 0 (L + length (code at2 (Capture label p) L)) I.Return (fresh L)
              (return_fine shapes2 L (L + length (code at2 (Capture label p) L)) link.0);
          tree = (λ z. absurd (link.0 z), λ z c. inr refl);
        },
        tt,
      )

  each2 : Each (Good shapes2 TreesByCall) 0 (program marks R g2) (all R g2 marks found ahead further)
  each2 =
      whole R g2 marks found ahead further TreesByCall (
        record {
          fine = call_fine shapes2 0 0 0 L (fresh 0) refl (omega arith) (omega arith) link.0 link.1
              (back R g2 marks found ahead further).0;
          tree = (λ z. inl refl, λ z c. inl z);
        },
        tt,
      )
      (λ z. inr refl, λ z c. absurd (link.0 (sym z)))
      (λ r x e m. ⊎_elim (λ same. itself_there r x e same) (λ other. elsewhere r x e m other) (cases_eq r r0))
    where
      itself_there : (r : ℕ) (x : Core) → slice_get R r ≡ Some x → r ≡ r0
          → Each (Good shapes2 TreesByCall) (at2 r) (code at2 x (at2 r) ++ I.Return ∷ [])
          (shapes_of at2 x (fresh (at2 r)) (at2 r) ++ fresh (at2 r) ∷ [])
      itself_there r x e same =
          let two : Some (Capture label p) ≡ Some x = sym is ∙ ap (slice_get R) (sym same) ∙ e in
          let body : Capture label p ≡ x = cc in
          subst (λ q. Each (Good shapes2 TreesByCall) (at2 q) (code at2 x (at2 q) ++ I.Return ∷ [])
          (shapes_of at2 x (fresh (at2 q)) (at2 q) ++ fresh (at2 q) ∷ [])) (sym same)
          (subst (λ y. Each (Good shapes2 TreesByCall) L (code at2 y L ++ I.Return ∷ []) (shapes_of at2 y (fresh L) L
          ++ fresh L ∷ [])) body root)

      elsewhere : (r : ℕ) (x : Core) → slice_get R r ≡ Some x → marks r ≡ true → r ≢ r0
          → Each (Good shapes2 TreesByCall) (at2 r) (code at2 x (at2 r) ++ I.Return ∷ [])
          (shapes_of at2 x (fresh (at2 r)) (at2 r) ++ fresh (at2 r) ∷ [])
      elsewhere r x e m other =
          let ne = (linked_rule R g2 marks found ahead further r x e m).0 in
          let away = apart r x e m other in
          each_map (Fine shapes2 (at2 r) 0) (Good shapes2 TreesByCall) (λ b i s h. record {
            fine =
                loose shapes2 (at2 r) 0 b i s h;
            tree = (λ z. absurd (ne (sym h.frame ∙ z)), λ z c. absurd (away (sym h.frame ∙ z)));
          }) (at2 r)
          (code at2 x (at2 r) ++ I.Return ∷ []) (shapes_of at2 x (fresh (at2 r)) (at2 r) ++ fresh (at2 r) ∷ [])
          (rule_fine R g2 marks found ahead further r x e m)

  by_a_call : IsSafe (program marks R g2)
  by_a_call =
      record {
        shapes = shapes2;
        kept = kept R g2 marks found ahead further TreesByCall each2;
        tree = inr (record {
          called = L;
          label = label;
          calls = refl;
          ends = refl;
          opens = opens;
          alone = alone;
          only_called = λ a s given e by. only_called R g2 marks found ahead further TreesByCall each2 L a s given
              link.1 e by;
          inside = inside;
        });
      }
    where
      opens : slice_get (program marks R g2) L ≡ Some (I.Open label)
      opens =
          let z0 : r0 ≡ 0 + r0 = omega arith in
          let rules = (has_back (program marks R g2) 0 (code at2 g2 0) (I.Finish ∷ bodies marks at2 R 0 (size g2 + 1))
          (has_all (program marks R g2) [])).1 in
          (placed_rule (program marks R g2) marks at2 R 0 (size g2 + 1) r0 (Capture label p)
          (subst (λ n. HasAt (program marks R g2) n (bodies marks at2 R 0 (size g2 + 1)))
          (goal_long R g2 marks found ahead further) rules) is (ap marks (sym z0) ∙ called)).0

      alone : (a : ℕ) (s : Shape) → shapes2 a ≡ Some s → s.frame ≡ 0 → (a ≡ 0) ⊎ (a ≡ 1)
      alone a s e z = let x = here R g2 marks found ahead further TreesByCall each2 a s e in x.2.tree.0 z

      inside : IsOpen (program marks R g2) shapes2 L I.Return
      inside a s e z c =
          let x = here R g2 marks found ahead further TreesByCall each2 a s e in
          ⊎_elim (λ first. inl first) (λ end. inr (x.1 ∙ ap Some end)) (x.2.tree.1 z c)

-- what is reached is a rule of the table
in_table : (R : List Core) (g : Core) → ((r : ℕ) → calls g r ≡ true → r < length R)
    → ((q : ℕ) (p : Core) → slice_get R q ≡ Some p → (r : ℕ) → calls p r ≡ true → r < length R) → (r : ℕ)
    → Reaches R g r
    → r < length R
in_table R g goal rules r (by_goal q e) = goal q e
in_table R g goal rules r (by_rule q s p from e k) = rules q p e s k

-- the law
pub code_is_safe_holds : CodeIsSafeLaw
code_is_safe_holds R label g c (itself p) goal rules code_is =
    subst IsSafe (sym code_is.same)
    (by_itself R label p code_is.marks (λ r m. in_table R g goal rules r ((code_is.exact r).0 m))
    (λ r k. (code_is.exact r).1 (by_goal r k))
    (λ q r x m e k. (code_is.exact r).1 (by_rule q r x ((code_is.exact q).0 m) e k)))
code_is_safe_holds R label g c (by_call r0 p is) goal rules code_is =
    subst IsSafe (sym code_is.same)
    (by_a_call R label p r0 is code_is.marks (λ r m. in_table R g goal rules r ((code_is.exact r).0 m))
    (λ r k. (code_is.exact r).1 (by_goal r k))
    (λ q r x m e k. (code_is.exact r).1 (by_rule q r x ((code_is.exact q).0 m) e k)))
