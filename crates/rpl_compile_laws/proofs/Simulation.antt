-- The code of a core does what the core means, at every depth.
use Rattle.std.proofs.Common.{◌≡◌, ℕ, zero, suc, ◌+◌, ◌-◌, ◌≤◌, List, [], ◌∷◌, ◌++◌, length, Option, Some, None, refl}
use Rattle.std.proofs.Common.{arith, length-append}
use Rattle.std.specs.Prelude.{slice_get, Bool, true, false, if◌then◌else◌, nat_eq}
use Rattle.regex_class.specs.Ranges.{Range}
use Rattle.rpl_core.specs.Core.{fits, Core, Set, Seq, Choice, Many, Not, And, Behind, Call, Capture, Note, Start, End}
use Rattle.rpl_core.specs.Core.{Halt, Cores, NoMore, Then}
use Rattle.rpl_core.specs.Forest.{NoTree, Caught, Begin}
use Rattle.rpl_core.specs.Meaning.{Outcome, Open, Fail, At, HaltAt, more, or_else, turns, if_fails, if_matches, under}
use Rattle.rpl_core.specs.Meaning.{lengths, one_char, called, level, level_all, level_first, no_depth, peg}
use Rattle.rpl_core.specs.Instr.{Instr}
use Rattle.rpl_core.specs.Instr as I
use Rattle.rpl_core.specs.Machine.{Entry, ReturnTo, Retry, Going}
use Rattle.rpl_core.specs.Head.{head}
use Rattle.rpl_core.specs.Code.{Placed, choice_code, tested_choice, loop_code, refuse_code, and_code, lengths_code}
use Rattle.rpl_core.specs.Code.{behind_code, code, code_all, code_first}
use Rattle.rpl_compile_laws.proofs.Sound.{Sound, Sound_all}
use Rattle.rpl_compile_laws.proofs.Steps.{HasAt, has_front, has_back, Leads, leads_last, Does, does_after, does_more}
use Rattle.rpl_compile_laws.proofs.Steps.{does_at}
use Rattle.rpl_compile_laws.proofs.Cases.{Fails, Goes, fetch, one, there, failed, set_does, place_does, note_does}
use Rattle.rpl_compile_laws.proofs.Cases.{halt_does, then_does, choice_does, capture_does, not_does, and_does}
use Rattle.rpl_compile_laws.proofs.Cases.{call_does, span_does, loop_does, lengths_does}
use Rattle.rpl_compile_laws.proofs.Heads.{HeadFails, IsCharThere, head_fails}

-- how long a look-behind is doesn't hang on where it ends
lengths_long : (p : Placed) (e f n k a : ℕ) → length (lengths_code p e n k a) ≡ length (lengths_code p f n k a)
lengths_long p e f zero k a = refl
lengths_long p e f (suc n) k a =
    let b = a + 1 + 1 in
    let next = b + length (p b) + 1 in
    let h = lengths_long p e f n (k + 1) next in
    omega (
      arith,
      length-append (p b) (I.Meet e ∷ lengths_code p e n (k + 1) next),
      length-append (p b) (I.Meet f ∷ lengths_code p f n (k + 1) next),
    )

module _ (prog : List Instr) (t : List ℕ) where
  -- a choice without a test
  plain_choice : (v : ℕ) (p q : Placed) (a i : ℕ) (st : List Entry) (cs : List Caught) (o : Outcome) (r : ℕ → Outcome)
      → v ≤ 1 → HasAt prog a (choice_code p q a)
      → ((b : ℕ) (st1 : List Entry) → HasAt prog b (p b) → Does prog t 0 (Going b i st1 cs) (b + length (p b)) st1 cs o)
      → ((b : ℕ) → HasAt prog b (q b) → Does prog t 0 (Going b i st cs) (b + length (q b)) st cs (r i))
      → Does prog t v (Going a i st cs) (a + length (choice_code p q a)) st cs (or_else o i r)
  plain_choice v p q a i st cs o r le has hp hq =
      let b = a + 1 in
      let m = b + length (p b) in
      let l1 = m + 1 in
      let l2 = l1 + length (q l1) in
      let tail = has_back prog b (p b) _ has.1 in
      let len : l2 ≡ a + length (choice_code p q a) = omega (arith, length-append (p b) (I.Commit l2 ∷ q l1)) in
      does_at prog t v _ l2 _ st cs (or_else o i r) len
      (choice_does prog t v a l1 l2 m i st cs o r le has.0 tail.0
      (hp b (Retry l1 i (length cs) ∷ st) (has_front prog b (p b) _ has.1)) (hq l1 tail.1))

  -- a choice; where its first part has a head, a character outside goes to the rest at once
  choice_frag : (h : Option (List Range)) (p q : Placed) (a i : ℕ) (st : List Entry) (cs : List Caught) (o :
      Outcome) (r : ℕ → Outcome) → HeadFails (slice_get t i) h o → HasAt prog a (tested_choice h p q a)
      → ((b : ℕ) (st1 : List Entry) → HasAt prog b (p b) → Does prog t 0 (Going b i st1 cs) (b + length (p b)) st1 cs o)
      → ((b : ℕ) → HasAt prog b (q b) → Does prog t 0 (Going b i st cs) (b + length (q b)) st cs (r i))
      → Does prog t 0 (Going a i st cs) (a + length (tested_choice h p q a)) st cs (or_else o i r)
  choice_frag None p q a i st cs o r hf has hp hq = plain_choice 0 p q a i st cs o r (omega arith) has hp hq
  choice_frag (Some s) p q a i st cs o r hf has hp hq =
      go (fits (slice_get t i) s) hf (one prog t a i st cs (I.TestSet l1 s) _ has.0 refl)
    where
      b : ℕ
      b = a + 1 + 1

      l1 : ℕ
      l1 = a + 1 + 1 + length (p (a + 1 + 1)) + 1

      len : a + 1 + length (choice_code p q (a + 1)) ≡ a + length (tested_choice (Some s) p q a)
      len = omega arith

      go : (x : Bool) → (x ≡ false → Fails o) → Leads prog t 1 (Going a i st cs) (if x then Going (a + 1) i st cs
          else Going (a + 1 + 1 + length (p (a + 1 + 1)) + 1) i st cs)
          → Does prog t 0 (Going a i st cs) (a + length (tested_choice (Some s) p q a)) st cs (or_else o i r)
      go true k l =
          does_at prog t 0 _ _ _ st cs (or_else o i r) len
          (does_after prog t 0 1 1 _ _ _ st cs (or_else o i r) refl l
          (plain_choice 1 p q (a + 1) i st cs o r (omega arith) has.1 hp hq))
      go false k l = past o (k refl)
        where
          past : (o1 : Outcome) → Fails o1
              → Does prog t 0 (Going a i st cs) (a + length (tested_choice (Some s) p q a)) st cs (or_else o1 i r)
          past Open f = tt
          past (Fail w) f =
              let c = a + 1 + 1 in
              let m = c + length (p c) in
              let n = m + 1 in
              let e = n + length (q n) in
              let tail = has_back prog c (p c) _ has.1.1 in
              let len2 : e ≡ a + length (tested_choice (Some s) p q a) =
              omega (arith, length-append (p c) (I.Commit e ∷ q n)) in
              does_at prog t 0 _ e _ st cs (more (1 + w) (r i)) len2
              (does_after prog t 0 1 1 _ _ e st cs (more (1 + w) (r i)) refl l
              (does_more prog t 0 1 (1 + w) _ e st cs (r i) (omega arith) (hq n tail.1)))
          past (At w j g) f = absurd f
          past (HaltAt w j g) f = absurd f

module _ (prog : List Instr) (t : List ℕ) (R : List Core) (at : ℕ → ℕ) (chars : (i : ℕ)
    → IsCharThere (slice_get t i)) (reach : ℕ → Type 0) (still : Core → Type 0) where
  -- the fragments of all cores do what a meaning says, from their first address and from a loop's second
  pub record Runs (f : Core → ℕ → Outcome) : Type 0 where
    pub frag : (e : Core) (a : ℕ) → HasAt prog a (code at e a) → Sound reach still e
        → (i : ℕ) (st : List Entry) (cs : List Caught)
        → Does prog t 0 (Going a i st cs) (a + length (code at e a)) st cs (f e i)
    pub loop : (p : Core) (a l : ℕ) → HasAt prog a (code at p a ++ I.PartialCommit a ∷ []) → Sound reach still p
        → (i : ℕ) (st : List Entry) (cs : List Caught)
        → Does prog t 1 (Going a i (Retry l i (length cs) ∷ st) cs) l st cs (f (Many p) i)

  -- the rules that are reached stand in the program
  abbrev pub Linked : Type 0
  Linked = (r : ℕ) (p : Core) → reach r → slice_get R r ≡ Some p → HasAt prog (at r) (code at p (at r) ++ I.Return ∷ [])
      × Sound reach still p

  module _ (linked : Linked) (below : Core → ℕ → Outcome) (ih : Runs below) (quiet : (e : Core) → still e → (i : ℕ)
      → Goes (level below R t e i)) where
    -- a call
    call_frag : (a i r : ℕ) (st : List Entry) (cs : List Caught) → slice_get prog a ≡ Some (I.Call (at r)) → reach r
        → (o : Option Core) → slice_get R r ≡ o
        → Does prog t 0 (Going a i st cs) (a + 1) st cs (called o (λ p. below p i))
    call_frag a i r st cs h reached None e = tt
    call_frag a i r st cs h reached (Some p) e =
        let k = linked r p reached e in
        let tail = has_back prog (at r) (code at p (at r)) _ k.0 in
        call_does prog t a (at r) _ i st cs (below p i) h tail.0
        (ih.frag p (at r) (has_front prog (at r) (code at p (at r)) _ k.0) k.1 i (ReturnTo (a + 1) ∷ st) cs)

    -- a repetition
    loop_frag : (p : Core) (o : Outcome) (a i : ℕ) (st : List Entry) (cs : List Caught)
        → HasAt prog a (loop_code (code at p) a) → Sound reach still p
        → ((b : ℕ) (st1 : List Entry) → HasAt prog b (code at p b)
        → Does prog t 0 (Going b i st1 cs) (b + length (code at p b)) st1 cs o)
        → Does prog t 0 (Going a i st cs) (a + length (loop_code (code at p) a)) st cs (turns o i (below (Many p)))
    loop_frag p o a i st cs has ok hp =
        let b = a + 1 in
        let m = b + length (code at p b) in
        let l = m + 1 in
        let st1 = Retry l i (length cs) ∷ st in
        let tail = has_back prog b (code at p b) _ has.1 in
        let len : l ≡ a + length (loop_code (code at p) a) =
        omega (arith, length-append (code at p b) (I.PartialCommit b ∷ [])) in
        does_at prog t 0 _ l _ st cs (turns o i (below (Many p))) len
        (does_after prog t 0 1 1 _ _ l st cs (turns o i (below (Many p))) refl
        (one prog t a i st cs (I.Choice l) _ has.0 refl)
        (loop_does prog t b m l i st cs o (below (Many p)) tail.0 (hp b st1 (has_front prog b (code at p b) _ has.1))
        (λ j cs1. ih.loop p b l has.1 ok j st cs1)))

    -- a refusal
    not_frag : (p : Placed) (o : Outcome) (a i : ℕ) (st : List Entry) (cs : List Caught) → Goes o
        → HasAt prog a (refuse_code p a)
        → ((b : ℕ) (st1 : List Entry) → HasAt prog b (p b)
        → Does prog t 0 (Going b i st1 cs) (b + length (p b)) st1 cs o)
        → Does prog t 0 (Going a i st cs) (a + length (refuse_code p a)) st cs (if_fails o i)
    not_frag p o a i st cs g has hp =
        let b = a + 1 in
        let m = b + length (p b) in
        let l = m + 1 in
        let tail = has_back prog b (p b) _ has.1 in
        let len : l ≡ a + length (refuse_code p a) = omega (arith, length-append (p b) (I.FailTwice ∷ [])) in
        does_at prog t 0 _ l _ st cs (if_fails o i) len
        (not_does prog t a l m i st cs o g has.0 tail.0
        (hp b (Retry l i (length cs) ∷ st) (has_front prog b (p b) _ has.1)))

    -- a refusal of one set
    not_set_frag : (s : List Range) (a i : ℕ) (st : List Entry) (cs : List Caught)
        → HasAt prog a (I.TestSet (a + 1 + 1) s ∷ I.Fail ∷ [])
        → Does prog t 0 (Going a i st cs) (a + 2) st cs (if_fails (one_char (slice_get t i) s i) i)
    not_set_frag s a i st cs has =
        go (fits (slice_get t i) s) (one prog t a i st cs (I.TestSet (a + 1 + 1) s) _ has.0 refl)
      where
        go : (x : Bool) → Leads prog t 1 (Going a i st cs) (if x then Going (a + 1) i st cs
            else Going (a + 1 + 1) i st cs)
            → Does prog t 0 (Going a i st cs) (a + 2) st cs (if_fails (if x then At 1 (i + 1) NoTree else Fail 1) i)
        go true l =
            does_after prog t 0 2 2 _ _ (a + 2) st cs (Fail (1 + 1)) refl
            (leads_last prog t 1 _ _ _ l (fetch prog t (a + 1) i st cs I.Fail has.1.0))
            (failed prog t 2 (1 + 1) (a + 2) st cs (omega arith))
        go false l =
            let e : a + 1 + 1 ≡ a + 2 = omega arith in
            does_at prog t 0 _ (a + 1 + 1) (a + 2) st cs (At (1 + 1) i NoTree) e
            (does_after prog t 0 1 1 _ _ (a + 1 + 1) st cs (At (1 + 1) i NoTree) refl l
            (there prog t 1 (1 + 1) (a + 1 + 1) i st cs (omega arith)))

    -- a look-ahead
    and_frag : (p : Placed) (o : Outcome) (a i : ℕ) (st : List Entry) (cs : List Caught) → Goes o
        → HasAt prog a (and_code p a)
        → ((b : ℕ) (st1 : List Entry) → HasAt prog b (p b)
        → Does prog t 0 (Going b i st1 cs) (b + length (p b)) st1 cs o)
        → Does prog t 0 (Going a i st cs) (a + length (and_code p a)) st cs (if_matches o i)
    and_frag p o a i st cs g has hp =
        let b = a + 1 in
        let m = b + length (p b) in
        let l = m + 1 in
        let tail = has_back prog b (p b) _ has.1 in
        let len : l + 1 ≡ a + length (and_code p a) =
        omega (arith, length-append (p b) (I.BackCommit (l + 1) ∷ I.Fail ∷ [])) in
        does_at prog t 0 _ (l + 1) _ st cs (if_matches o i) len
        (and_does prog t a l (l + 1) m i st cs o g has.0 tail.0 tail.1.0
        (hp b (Retry l i (length cs) ∷ st) (has_front prog b (p b) _ has.1)))

    -- a look-behind
    behind_frag : (p : Placed) (body : ℕ → Outcome) (n k a i : ℕ) (st : List Entry) (cs : List Caught)
        → ((j : ℕ) → Goes (body j)) → HasAt prog a (behind_code p n k a)
        → ((b j : ℕ) (st1 : List Entry) → HasAt prog b (p b)
        → Does prog t 0 (Going b j st1 cs) (b + length (p b)) st1 cs (body j))
        → Does prog t 0 (Going a i st cs) (a + length (behind_code p n k a)) st cs (more 1 (lengths n k body i))
    behind_frag p body n k a i st cs g has hp =
        let e = a + length (lengths_code p 0 n k a) in
        let len : e ≡ a + length (lengths_code p e n k a) = omega (arith, lengths_long p 0 e n k a) in
        does_at prog t 0 _ e _ st cs (more 1 (lengths n k body i)) len
        (lengths_does prog t p body e i st cs g hp n k a has)

    -- a capture
    capture_frag : (c : List ℕ) (p : Placed) (o : Outcome) (a i : ℕ) (st : List Entry) (cs : List Caught)
        → HasAt prog a (I.Open c ∷ (p (a + 1) ++ I.Close ∷ []))
        → Does prog t 0 (Going (a + 1) i st (cs ++ Begin c i ∷ [])) (a + 1 + length (p (a + 1))) st
        (cs ++ Begin c i ∷ [])
        o → Does prog t 0 (Going a i st cs) (a + length (I.Open c ∷ (p (a + 1) ++ I.Close ∷ []))) st cs (under c i o)
    capture_frag c p o a i st cs has hp =
        let b = a + 1 in
        let m = b + length (p b) in
        let tail = has_back prog b (p b) _ has.1 in
        let len : m + 1 ≡ a + length (I.Open c ∷ (p (a + 1) ++ I.Close ∷ [])) =
        omega (arith, length-append (p b) (I.Close ∷ [])) in
        does_at prog t 0 _ (m + 1) _ st cs (under c i o) len
        (capture_does prog t a m i c st cs o has.0 tail.0 hp)

    mutual
      level_frag : (e : Core) (a : ℕ) → HasAt prog a (code at e a) → Sound reach still e
          → (i : ℕ) (st : List Entry) (cs : List Caught)
          → Does prog t 0 (Going a i st cs) (a + length (code at e a)) st cs (level below R t e i)
      level_frag (Set s) a has ok i st cs = set_does prog t a i s st cs has.0
      level_frag (Seq ps) a has ok i st cs =
          does_more prog t 0 0 1 _ _ st cs (level_all below R t ps i) (omega arith) (level_all_frag ps a has ok i st cs)
      level_frag (Choice ps) a has ok i st cs = first_frag ps a has ok i st cs
      level_frag (Many (Set s)) a has ok i st cs =
          span_does prog t a i s st cs (below (Many (Set s))) has.0 (ih.frag (Many (Set s)) a has ok (i + 1) st cs)
      level_frag (Many p) a has ok i st cs =
          loop_frag p (level below R t p i) a i st cs has ok (λ b st1 h. level_frag p b h ok i st1 cs)
      level_frag (Not (Set s)) a has ok i st cs = not_set_frag s a i st cs has
      level_frag (Not p) a has ok i st cs =
          not_frag (code at p) (level below R t p i) a i st cs (quiet p ok.0 i) has
          (λ b st1 h. level_frag p b h ok.1 i st1 cs)
      level_frag (And p) a has ok i st cs =
          and_frag (code at p) (level below R t p i) a i st cs (quiet p ok.0 i) has
          (λ b st1 h. level_frag p b h ok.1 i st1 cs)
      level_frag (Behind l m p) a has ok i st cs =
          behind_frag (code at p) (level below R t p) (m + 1 - l) l a i st cs (quiet p ok.0) has
          (λ b j st1 h. level_frag p b h ok.1 j st1 cs)
      level_frag (Call r) a has ok i st cs = call_frag a i r st cs has.0 ok (slice_get R r) refl
      level_frag (Capture c p) a has ok i st cs =
          capture_frag c (code at p) (level below R t p i) a i st cs has
          (level_frag p (a + 1) (has_front prog (a + 1) (code at p (a + 1)) _ has.1) ok i st (cs ++ Begin c i ∷ []))
      level_frag (Note x) a has ok i st cs = note_does prog t a i x st cs has.0
      level_frag Start a has ok i st cs = place_does prog t a i I.Start (nat_eq i 0) st cs has.0 refl
      level_frag End a has ok i st cs = place_does prog t a i I.End (nat_eq i (length t)) st cs has.0 refl
      level_frag Halt a has ok i st cs = halt_does prog t a i (a + 1) st cs has.0

      level_all_frag : (ps : Cores) (a : ℕ) → HasAt prog a (code_all at ps a) → Sound_all reach still ps
          → (i : ℕ) (st : List Entry) (cs : List Caught)
          → Does prog t 0 (Going a i st cs) (a + length (code_all at ps a)) st cs (level_all below R t ps i)
      level_all_frag NoMore a has ok i st cs =
          let e : a ≡ a + 0 = omega arith in
          does_at prog t 0 _ a _ st cs (At 0 i NoTree) e (there prog t 0 0 a i st cs (omega arith))
      level_all_frag (Then p ps) a has ok i st cs =
          let m = a + length (code at p a) in
          let len : m + length (code_all at ps m) ≡ a + length (code_all at (Then p ps) a) =
          omega (arith, length-append (code at p a) (code_all at ps m)) in
          does_at prog t 0 _ _ _ st cs (level_all below R t (Then p ps) i) len
          (then_does prog t _ m _ st cs (level below R t p i) (level_all below R t ps)
          (level_frag p a (has_front prog a (code at p a) _ has) ok.0 i st cs)
          (λ j cs1. level_all_frag ps m (has_back prog a (code at p a) _ has) ok.1 j st cs1))

      -- the first part that succeeds
      first_frag : (ps : Cores) (a : ℕ) → HasAt prog a (code_first at ps a) → Sound_all reach still ps
          → (i : ℕ) (st : List Entry) (cs : List Caught)
          → Does prog t 0 (Going a i st cs) (a + length (code_first at ps a)) st cs (level_first below R t ps i)
      first_frag NoMore a has ok i st cs =
          does_after prog t 0 1 1 _ _ (a + 1) st cs (Fail 1) refl (one prog t a i st cs I.Fail _ has.0 refl)
          (failed prog t 1 1 (a + 1) st cs (omega arith))
      first_frag (Then p NoMore) a has ok i st cs = level_frag p a has ok.0 i st cs
      first_frag (Then p (Then q ps)) a has ok i st cs =
          choice_frag prog t (head p) (code at p) (code_first at (Then q ps)) a i st cs (level below R t p i)
          (level_first below R t (Then q ps)) (head_fails below R t chars p i) has
          (λ b st1 h. level_frag p b h ok.0 i st1 cs) (λ b h. first_frag (Then q ps) b h ok.1 i st cs)

    -- a repetition from its second address on
    level_loop : (p : Core) (a l : ℕ) → HasAt prog a (code at p a ++ I.PartialCommit a ∷ []) → Sound reach still p
        → (i : ℕ) (st : List Entry) (cs : List Caught)
        → Does prog t 1 (Going a i (Retry l i (length cs) ∷ st) cs) l st cs (level below R t (Many p) i)
    level_loop p a l has ok i st cs =
        let m = a + length (code at p a) in
        let tail = has_back prog a (code at p a) _ has in
        loop_does prog t a m l i st cs (level below R t p i) (below (Many p)) tail.0
        (level_frag p a (has_front prog a (code at p a) _ has) ok i (Retry l i (length cs) ∷ st) cs)
        (λ j cs1. ih.loop p a l has ok j st cs1)

    -- one level
    pub level_runs : Runs (level below R t)
    level_runs = record { frag = level_frag; loop = level_loop }

  -- no depth says nothing
  none_runs : Runs no_depth
  none_runs = record { frag = λ e a has ok i st cs. tt; loop = λ p a l has ok i st cs. tt }

  -- one induction on the depth and the core
  pub peg_runs : Linked → ((n : ℕ) (e : Core) → still e → (i : ℕ) → Goes (peg n R t e i)) → (n : ℕ) → Runs (peg n R t)
  peg_runs linked quiet zero = level_runs linked no_depth none_runs (quiet 0)
  peg_runs linked quiet (suc n) = level_runs linked (peg n R t) (peg_runs linked quiet n) (quiet (suc n))
