-- Where the rules stand in a program.
use Rattle.std.proofs.Common.{◌≡◌, ℕ, zero, suc, ◌+◌, ◌-◌, ◌<◌, List, [], ◌∷◌, ◌++◌, length, Option, Some, None, refl}
use Rattle.std.proofs.Common.{sym, ap, ◌∙◌, subst, arith, length-append, append_assoc}
use Rattle.std.proofs.Math.Seq.{get_or-append_seam}
use Rattle.std.proofs.lemmas.Option.{slice_get-get_or}
use Rattle.std.specs.Prelude.{Bool, true, false, if◌then◌else◌, slice_get}
use Rattle.regex_class.specs.Ranges.{Range}
use Rattle.rpl_core.specs.Core.{Core, Set, Seq, Choice, Many, Not, And, Behind, Call, Capture, Note, Start, End, Halt}
use Rattle.rpl_core.specs.Core.{Cores, NoMore, Then}
use Rattle.rpl_core.specs.Instr.{Instr}
use Rattle.rpl_core.specs.Instr as I
use Rattle.rpl_core.specs.Head.{head, lone_set}
use Rattle.rpl_core.specs.Code.{Placed, choice_code, tested_choice, and_code, lengths_code, many_code, not_code, code}
use Rattle.rpl_core.specs.Code.{code_all, code_first, size}
use Rattle.rpl_core.specs.Programs.{bodies, place_of}
use Rattle.rpl_compile_laws.proofs.Steps.{HasAt, has_front, has_back}

-- one length at every address
abbrev AsLong : Placed → Placed → Type 0
AsLong p q = (a b : ℕ) → length (p a) ≡ length (q b)

-- a choice is as long wherever it stands
choice_long : (p q p' q' : Placed) → AsLong p p' → AsLong q q' → AsLong (choice_code p q) (choice_code p' q')
choice_long p q p' q' h k a b =
    let l = a + 1 + length (p (a + 1)) + 1 in
    let m = b + 1 + length (p' (b + 1)) + 1 in
    omega (
      arith,
      length-append (p (a + 1)) (I.Commit (l + length (q l)) ∷ q l),
      length-append (p' (b + 1)) (I.Commit (m + length (q' m)) ∷ q' m),
      h (a + 1) (b + 1),
      k l m,
    )

-- so is one with a test
tested_long : (o : Option (List Range)) (p q p' q' : Placed) → AsLong p p' → AsLong q q'
    → AsLong (tested_choice o p q) (tested_choice o p' q')
tested_long None p q p' q' h k a b = choice_long p q p' q' h k a b
tested_long (Some s) p q p' q' h k a b = ap suc (choice_long p q p' q' h k (a + 1) (b + 1))

-- a core's instructions and then some that are the same many
then_long : (p p' x y : List Instr) → length p ≡ length p' → length x ≡ length y → length (p ++ x) ≡ length (p' ++ y)
then_long p p' x y h k = omega (arith, length-append p x, length-append p' y)

-- and the code of a repetition
many_long : (o : Option (List Range)) (p p' : Placed) → AsLong p p' → AsLong (many_code o p) (many_code o p')
many_long None p p' h a b =
    ap suc (then_long (p (a + 1)) (p' (b + 1)) (I.PartialCommit (a + 1) ∷ []) (I.PartialCommit (b + 1) ∷ [])
    (h (a + 1) (b + 1)) refl)
many_long (Some s) p p' h a b = refl

-- and of a refusal
not_long : (o : Option (List Range)) (p p' : Placed) → AsLong p p' → AsLong (not_code o p) (not_code o p')
not_long None p p' h a b =
    ap suc (then_long (p (a + 1)) (p' (b + 1)) (I.FailTwice ∷ []) (I.FailTwice ∷ []) (h (a + 1) (b + 1)) refl)
not_long (Some s) p p' h a b = refl

-- and of a look-ahead
and_long : (p p' : Placed) → AsLong p p' → AsLong (and_code p) (and_code p')
and_long p p' h a b =
    let l = a + 1 + length (p (a + 1)) + 1 in
    let m = b + 1 + length (p' (b + 1)) + 1 in
    ap suc (then_long (p (a + 1)) (p' (b + 1)) (I.BackCommit (l + 1) ∷ I.Fail ∷ []) (I.BackCommit (m + 1) ∷ I.Fail ∷ [])
    (h (a + 1) (b + 1)) refl)

-- and of a look-behind
lengths_as_long : (p p' : Placed) (e f n k : ℕ) → AsLong p p' → AsLong (lengths_code p e n k) (lengths_code p' f n k)
lengths_as_long p p' e f zero k h a b = refl
lengths_as_long p p' e f (suc n) k h a b =
    let x = a + 1 + 1 in let y = b + 1 + 1 in
    let rest = lengths_as_long p p' e f n (k + 1) h (x + length (p x) + 1) (y + length (p' y) + 1) in
    ap (λ n. suc (suc n)) (then_long (p x) (p' y) (I.Meet e ∷ lengths_code p e n (k + 1) (x + length (p x) + 1))
    (I.Meet f ∷ lengths_code p' f n (k + 1) (y + length (p' y) + 1)) (h x y) (ap suc rest))

mutual
  -- the code of a core has one length, wherever it stands and wherever the rules stand
  pub code_long : (at to : ℕ → ℕ) (e : Core) → AsLong (code at e) (code to e)
  code_long at to (Set s) a b = refl
  code_long at to (Seq ps) a b = code_all_long at to ps a b
  code_long at to (Choice ps) a b = code_first_long at to ps a b
  code_long at to (Many p) a b = many_long (lone_set p) (code at p) (code to p) (code_long at to p) a b
  code_long at to (Not p) a b = not_long (lone_set p) (code at p) (code to p) (code_long at to p) a b
  code_long at to (And p) a b = and_long (code at p) (code to p) (code_long at to p) a b
  code_long at to (Behind l m p) a b = lengths_as_long (code at p) (code to p) _ _ (m + 1 - l) l (code_long at to p) a b
  code_long at to (Call r) a b = refl
  code_long at to (Capture c p) a b =
      ap suc (then_long (code at p (a + 1)) (code to p (b + 1)) (I.Close ∷ []) (I.Close ∷ [])
      (code_long at to p (a + 1) (b + 1)) refl)
  code_long at to (Note x) a b = refl
  code_long at to Start a b = refl
  code_long at to End a b = refl
  code_long at to Halt a b = refl

  code_all_long : (at to : ℕ → ℕ) (ps : Cores) → AsLong (code_all at ps) (code_all to ps)
  code_all_long at to NoMore a b = refl
  code_all_long at to (Then p ps) a b =
      then_long (code at p a) (code to p b) _ _ (code_long at to p a b)
      (code_all_long at to ps (a + length (code at p a)) (b + length (code to p b)))

  code_first_long : (at to : ℕ → ℕ) (ps : Cores) → AsLong (code_first at ps) (code_first to ps)
  code_first_long at to NoMore a b = refl
  code_first_long at to (Then p NoMore) a b = code_long at to p a b
  code_first_long at to (Then p (Then q ps)) a b =
      tested_long (head p) (code at p) (code_first at (Then q ps)) (code to p) (code_first to (Then q ps))
      (code_long at to p) (code_first_long at to (Then q ps)) a b

-- a list of instructions stands in itself
pub has_all : (is pre : List Instr) → HasAt (pre ++ is) (length pre) is
has_all [] pre = tt
has_all (i ∷ is) pre =
    let within : length pre < length (pre ++ i ∷ is) = omega (arith, length-append pre (i ∷ is)) in
    let here = slice_get-get_or (pre ++ i ∷ is) (length pre) i within ∙ ap Some (get_or-append_seam pre i is i) in
    let n : length (pre ++ i ∷ []) ≡ length pre + 1 = omega (arith, length-append pre (i ∷ [])) in
    let rest = has_all is (pre ++ i ∷ []) in
    let rest' = subst (λ l. HasAt l (length (pre ++ i ∷ [])) is) (append_assoc pre (i ∷ []) is) rest in
    (here, subst (λ m. HasAt (pre ++ i ∷ is) m is) n rest')

module _ (prog : List Instr) (marks : ℕ → Bool) (at : ℕ → ℕ) where
  -- a marked rule stands at its place
  pub placed_rule : (ps : List Core) (k a r : ℕ) (p : Core) → HasAt prog a (bodies marks at ps k a)
      → slice_get ps r ≡ Some p → marks (k + r) ≡ true
      → HasAt prog (place_of marks ps k a r) (code at p (place_of marks ps k a r) ++ I.Return ∷ [])
  placed_rule [] k a r p has e m = absurd (cc)
  placed_rule (q ∷ ps) k a zero p has e m = here (marks k) (let z : k + 0 ≡ k = omega arith in ap marks (sym z) ∙ m) has
    where
      here : (b : Bool) → b ≡ true
          → HasAt prog a (if b then code at q a ++ I.Return ∷ bodies marks at ps (k + 1) (a + size q + 1)
          else bodies marks at ps (k + 1) a) → HasAt prog a (code at p a ++ I.Return ∷ [])
      here false f has1 = absurd (cc)
      here true f has1 =
          let s : q ≡ p = cc in
          let same = append_assoc (code at q a) (I.Return ∷ []) (bodies marks at ps (k + 1) (a + size q + 1)) in
          subst (λ x. HasAt prog a (code at x a ++ I.Return ∷ [])) s
          (has_front prog a (code at q a ++ I.Return ∷ []) (bodies marks at ps (k + 1) (a + size q + 1))
          (subst (HasAt prog a) (sym same) has1))
  placed_rule (q ∷ ps) k a (suc r) p has e m = there (marks k) (λ b h. placed_rule ps (k + 1) b r p h e m') has
    where
      m' : marks (k + 1 + r) ≡ true
      m' = let z : k + 1 + r ≡ k + suc r = omega arith in ap marks z ∙ m

      there : (b : Bool) → ((b1 : ℕ) → HasAt prog b1 (bodies marks at ps (k + 1) b1)
          → HasAt prog (place_of marks ps (k + 1) b1 r) (code at p (place_of marks ps (k + 1) b1 r) ++ I.Return ∷ []))
          → HasAt prog a (if b then code at q a ++ I.Return ∷ bodies marks at ps (k + 1) (a + size q + 1)
          else bodies marks at ps (k + 1) a)
          → HasAt prog (place_of marks ps (k + 1) (if b then a + size q + 1 else a) r)
          (code at p (place_of marks ps (k + 1) (if b then a + size q + 1 else a) r) ++ I.Return ∷ [])
      there false rest has1 = rest a has1
      there true rest has1 =
          let tail = has_back prog a (code at q a) _ has1 in
          let z : a + length (code at q a) + 1 ≡ a + size q + 1 = omega (arith, code_long at (λ x. 0) q a 0) in
          rest (a + size q + 1) (subst (λ x. HasAt prog x (bodies marks at ps (k + 1) (a + size q + 1))) z tail.1)
