-- Steps of loops that go through a list.
use Rattle.std.proofs.Common.{◌≡◌, ℕ, ◌+◌, ◌<◌, ◌≤◌, List, [], ◌∷◌, ◌++◌, length, drop, get_or, refl, sym, ap, subst}
use Rattle.std.proofs.Common.{◌∙◌, append_assoc}
use Rattle.std.specs.Prelude.{Result, Ok, Err}
use Rattle.std.proofs.lemmas.List.{drop_all, append-nil}
use Rattle.rpl_scope.specs.declared.fault.Stop.{Stop}
use Rattle.rpl_scope.specs.Faults.{Or, ◌>>=◌, in_turn, StopIs, Gives}
use Rattle.rpl_scope.specs.Imports.{numbered}
use Rattle.rpl_scope.specs.Packages.{Rule}
use Rattle.rpl_scope.specs.Seen.{rule_seen, rules_seen}
use Rattle.rpl_scope.specs.declared.module.Rule.{Rule as DeclaredRule}
use Rattle.rpl_scope.proofs.Checking.{front}
use Rattle.rpl_scope.proofs.Stops.{stops}

-- ---- one after the other

pub then_gives : {A B X : Type 0} (see : X → B) (res : Result X Stop) (r : Or A) (x : A) (k : A → Or B) → r ≡ Ok x
    → Gives see res (k x) → Gives see res (r >>= k)
then_gives see res r x k h e = subst (λ y. Gives see res (y >>= k)) (sym h) e

-- ---- steps in turn: the list is seen member by member

module _ {A B S : Type 0} (of : List B → List A) (one : B → A) (nil : of [] ≡ []) (cons : (b : B) (bs : List B)
    → of (b ∷ bs) ≡ one b ∷ of bs)
    (step : A → S → Or S) (bs : List B) (i : ℕ) where
  next : (b : B) (m : S) → i < length bs → b ≡ get_or bs i b
      → in_turn step (of (drop i bs)) m ≡ (step (one b) m >>= in_turn step (of (drop (i + 1) bs)))
  next b m lt h = ap (λ xs. in_turn step xs m) (ap of (front bs i b lt h) ∙ cons b (drop (i + 1) bs))

  pub turn_step : (b : B) (m m1 : S) (all : Or S) → i < length bs → b ≡ get_or bs i b → step (one b) m ≡ Ok m1
      → in_turn step (of (drop i bs)) m ≡ all → in_turn step (of (drop (i + 1) bs)) m1 ≡ all
  turn_step b m m1 all lt h ok e = sym (next b m lt h ∙ ap (λ r. r >>= in_turn step (of (drop (i + 1) bs))) ok) ∙ e

  pub turn_stop : (b : B) (m : S) (s : Stop) (all : Or S) → i < length bs → b ≡ get_or bs i b
      → StopIs s (step (one b) m) → in_turn step (of (drop i bs)) m ≡ all → StopIs s all
  turn_stop b m s all lt h stop e =
      subst (StopIs s) (sym (next b m lt h) ∙ e) (stops s (step (one b) m) (in_turn step (of (drop (i + 1) bs))) stop)

  pub turn_done : (m : S) (all : Or S) → length bs ≤ i → in_turn step (of (drop i bs)) m ≡ all → all ≡ Ok m
  turn_done m all le e = sym e ∙ ap (λ xs. in_turn step xs m) (ap of (drop_all i bs le) ∙ nil)

turn_on : {A S : Type 0} (step : A → S → Or S) (xs ys : List A) (r : Or S)
    → ((m : S) → in_turn step (xs ++ ys) m ≡ (in_turn step xs m >>= in_turn step ys))
    → (r >>= in_turn step (xs ++ ys)) ≡ ((r >>= in_turn step xs) >>= in_turn step ys)
turn_on step xs ys (Ok m) h = h m
turn_on step xs ys (Err f) h = refl

pub turn_append : {A S : Type 0} (step : A → S → Or S) (xs ys : List A) (m : S)
    → in_turn step (xs ++ ys) m ≡ (in_turn step xs m >>= in_turn step ys)
turn_append step [] ys m = refl
turn_append step (x ∷ xs) ys m = turn_on step xs ys (step x m) (turn_append step xs ys)

-- ---- rules with their numbers

module _ {S : Type 0} (step : ℕ × Rule → S → Or S) (rs : List DeclaredRule) (i : ℕ) where
  next_numbered : (r : DeclaredRule) (m : S) → i < length rs → r ≡ get_or rs i r
      → in_turn step (numbered i (rules_seen (drop i rs))) m
      ≡ (step (i, rule_seen r) m >>= in_turn step (numbered (i + 1) (rules_seen (drop (i + 1) rs))))
  next_numbered r m lt h = ap (λ xs. in_turn step (numbered i (rules_seen xs)) m) (front rs i r lt h)

  pub numbered_step : (r : DeclaredRule) (m m1 : S) (all : Or S) → i < length rs → r ≡ get_or rs i r
      → step (i, rule_seen r) m ≡ Ok m1 → in_turn step (numbered i (rules_seen (drop i rs))) m ≡ all
      → in_turn step (numbered (i + 1) (rules_seen (drop (i + 1) rs))) m1 ≡ all
  numbered_step r m m1 all lt h ok e =
      sym (next_numbered r m lt h ∙ ap (λ x. x >>= in_turn step (numbered (i + 1) (rules_seen (drop (i + 1) rs)))) ok)
      ∙ e

  pub numbered_stop : (r : DeclaredRule) (m : S) (s : Stop) (all : Or S) → i < length rs → r ≡ get_or rs i r
      → StopIs s (step (i, rule_seen r) m) → in_turn step (numbered i (rules_seen (drop i rs))) m ≡ all → StopIs s all
  numbered_stop r m s all lt h stop e =
      subst (StopIs s) (sym (next_numbered r m lt h)
      ∙ e) (stops s (step (i, rule_seen r) m) (in_turn step (numbered (i + 1) (rules_seen (drop (i + 1) rs)))) stop)

  pub numbered_done : (m : S) (all : Or S) → length rs ≤ i → in_turn step (numbered i (rules_seen (drop i rs))) m ≡ all
      → all ≡ Ok m
  numbered_done m all le e = sym e ∙ ap (λ xs. in_turn step (numbered i (rules_seen xs)) m) (drop_all i rs le)

-- ---- what is gathered

module _ {X B : Type 0} (of : List B → List X) (one : B → List X) (nil : of [] ≡ []) (cons : (b : B) (bs : List B)
    → of (b ∷ bs) ≡ one b ++ of bs)
    (bs : List B) (i : ℕ) where
  pub gather_step : (b : B) (done now all : List X) → i < length bs → b ≡ get_or bs i b → now ≡ done ++ one b
      → done ++ of (drop i bs) ≡ all → now ++ of (drop (i + 1) bs) ≡ all
  gather_step b done now all lt h n e =
      let rest = of (drop (i + 1) bs) in
      ap (λ x. x ++ rest) n ∙ append_assoc done (one b) rest
      ∙ ap (λ x. done ++ x) (sym (ap of (front bs i b lt h) ∙ cons b (drop (i + 1) bs))) ∙ e

  pub gather_done : (done all : List X) → length bs ≤ i → done ++ of (drop i bs) ≡ all → done ≡ all
  gather_done done all le e = sym (append-nil done) ∙ ap (λ x. done ++ x) (sym (ap of (drop_all i bs le) ∙ nil)) ∙ e
