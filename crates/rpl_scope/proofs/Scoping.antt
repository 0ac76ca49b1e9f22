-- What names stand for, by the statements: the numbers of rules are compared with their places.
use Rattle.std.proofs.Common.{arith, ◌≡◌, ◌≤◌, ◌<◌, ℕ, ◌+◌, List, [], ◌∷◌, ◌++◌, length, Option, Some, None}
use Rattle.std.proofs.Common.{◌⊎◌, inl, inr, refl, ap, subst, ◌∙◌, true, false}
use Rattle.std.specs.Prelude.{Bool, if◌then◌else◌, ◌&&◌, nat_lt, Ok}
use Rattle.std.proofs.lemmas.Bool.Decides.{Decides-ltb}
use Rattle.std.proofs.lemmas.Bool.{ltb-false}
use Rattle.std.proofs.lemmas.List.{length-append}
use Rattle.rpl_syntax.specs.Parsed as S
use Rattle.rpl_scope.specs.declared.fault.LoadFault.{LoadFault}
use Rattle.rpl_scope.specs.declared.module.Entry.{Entry}
use Rattle.rpl_scope.specs.declared.module.Referent.TheVariants.{Own}
use Rattle.rpl_scope.specs.declared.scope.Found.{Found}
use Rattle.rpl_scope.specs.declared.scope.Found.TheVariants.{To, Unknown, Hidden}
use Rattle.rpl_scope.specs.Faults.{◌>>=◌, unless}
use Rattle.rpl_scope.specs.Laws.{lasting, passing, inner, of_all, Binds, IsRuleOf, StandsFor, StatementsSee}
use Rattle.rpl_scope.specs.Laws.{PatternsSee, RulesAreLaid, laid}
use Rattle.rpl_scope.specs.Packages.{Rule, Module, first_of, halt_or, meant, plain}
use Rattle.rpl_scope.specs.Statements.{bindings_of, block_rules, bodies_fault, enter, enter_all, entry_for, rule_of}
use Rattle.rpl_scope.specs.Statements.{rules_of, statement, statements}
use Rattle.rpl_scope.proofs.Growing.{Any, any_left, any_right, any_cases, any_map, any_some, both, found, rules_are}
use Rattle.rpl_scope.proofs.Growing.{Says, traced}
use Rattle.rpl_scope.proofs.Turns.{turn_append}

-- ---- statements that entered

passed : {A : Type 0} (o : Option LoadFault) (x y : A) → unless o x ≡ Ok y → x ≡ y
passed None x y h = cc
passed (Some f) x y h = absurd (cc)

one_entered : (f : List ℕ) (k : ℕ) (ms : List Module) (e : S.Entry) (m n : Module) → statement f k ms e m ≡ Ok n
    → enter_all f (rules_of k (length m.rules) e) m ≡ Ok n
one_entered f k ms e m n h =
    let l = length m.rules in
    let c = both (enter_all f (rules_of k l e) m) (λ m1. unless (bodies_fault f ms l (bindings_of e) m1) m1) n h in
    c.1 ∙ ap Ok (passed (bodies_fault f ms l (bindings_of e) c.0) c.0 n c.2)

pub all_entered : (f : List ℕ) (k : ℕ) (ms : List Module) (es : List S.Entry) (m n : Module)
    → statements f k ms es m ≡ Ok n → enter_all f (laid k (length m.rules) es) m ≡ Ok n
all_entered f k ms [] m n h = h
all_entered f k ms (e ∷ es) m n h =
    let c = both (statement f k ms e m) (statements f k ms es) n h in
    let rs = rules_of k (length m.rules) e in
    let one = one_entered f k ms e m c.0 c.1 in
    let long : length c.0.rules ≡ length m.rules + length rs = ap (λ l. length l) (rules_are f rs m c.0 one)
    ∙ length-append m.rules rs in
    let rest = laid k (length m.rules + length rs) es in
    turn_append (enter f) rs rest m ∙ ap (λ r. r >>= enter_all f rest) one
    ∙ subst (λ l. enter_all f (laid k l es) c.0 ≡ Ok n) long (all_entered f k ms es c.0 n c.2)

-- ---- bindings and their rules

pub binds_left : (bs cs : List S.Rule) (n : List ℕ) → Binds bs n → Binds (bs ++ cs) n
binds_left [] cs n h = absurd h
binds_left (b ∷ bs) cs n (inl e) = inl e
binds_left (b ∷ bs) cs n (inr h) = inr (binds_left bs cs n h)

pub binds_right : (bs cs : List S.Rule) (n : List ℕ) → Binds cs n → Binds (bs ++ cs) n
binds_right [] cs n h = h
binds_right (b ∷ bs) cs n h = inr (binds_right bs cs n h)

pub binds_cases : (bs cs : List S.Rule) (n : List ℕ) → Binds (bs ++ cs) n → Binds bs n ⊎ Binds cs n
binds_cases [] cs n h = inr h
binds_cases (b ∷ bs) cs n (inl e) = inl (inl e)
binds_cases (b ∷ bs) cs n (inr h) = deeper (binds_cases bs cs n h)
  where
    deeper : Binds bs n ⊎ Binds cs n → Binds (b ∷ bs) n ⊎ Binds cs n
    deeper (inl g) = inl (inr g)
    deeper (inr g) = inr g

-- the rule of the name counts from this start on, and is not hidden there
record IsOpen (n : List ℕ) (start : ℕ) (r : Rule) : Type 0 where
  name : r.name ≡ n
  counts : r.since ≤ start
  seen : (r.hidden ≡ false) ⊎ (r.since ≡ start)

-- it is hidden, for its block has come to an end
record IsShut (n : List ℕ) (start : ℕ) (r : Rule) : Type 0 where
  name : r.name ≡ n
  over : r.since < start
  hidden : r.hidden ≡ true

-- it counts there, hidden or not
pub record Counts (n : List ℕ) (start : ℕ) (r : Rule) : Type 0 where
  pub name : r.name ≡ n
  pub counts : r.since ≤ start

module _ (k l : ℕ) (hidden : Bool) (n : List ℕ) (P : Rule → Type 0) where
  pub to_rules : (bs : List S.Rule) → ((b : S.Rule) → b.name ≡ n → P (rule_of k l l hidden b)) → Binds bs n
      → Any P (block_rules k l hidden bs)
  to_rules [] f h = absurd h
  to_rules (b ∷ bs) f (inl e) = inl (f b e)
  to_rules (b ∷ bs) f (inr h) = inr (to_rules bs f h)

  to_bindings : (bs : List S.Rule) → ((b : S.Rule) → P (rule_of k l l hidden b) → b.name ≡ n)
      → Any P (block_rules k l hidden bs) → Binds bs n
  to_bindings [] f a = absurd a
  to_bindings (b ∷ bs) f (inl p) = inl (f b p)
  to_bindings (b ∷ bs) f (inr a) = inr (to_bindings bs f a)

-- ---- one statement, seen from later ones and from itself

open_one : (k l s : ℕ) (e : S.Entry) (n : List ℕ) → l + length (rules_of k l e) ≤ s → Binds (lasting e) n
    → Any (IsOpen n s) (rules_of k l e)
open_one k l s (S.One b) n le (inl e) = inl (record { name = e; counts = omega (arith, le); seen = inl refl })
open_one k l s (S.One b) n le (inr h) = absurd h
open_one k l s (S.Block h v) n le i =
    any_right (IsOpen n s) (block_rules k l true h) (block_rules k l false v)
    (to_rules k l false n (IsOpen n s) v (λ b e. record { name = e; counts = omega (arith, le); seen = inl refl }) i)

shut_one : (k l s : ℕ) (e : S.Entry) (n : List ℕ) → l + length (rules_of k l e) ≤ s → Binds (passing e) n
    → Any (IsShut n s) (rules_of k l e)
shut_one k l s (S.One b) n le i = absurd i
shut_one k l s (S.Block h v) n le i =
    let H = block_rules k l true h in
    let V = block_rules k l false v in
    let some : 0 < length H = any_some (λ r. r.name ≡ n) H (to_rules k l true n (λ r. r.name ≡ n) h (λ b e. e) i) in
    let long = length-append H V in
    let over : l < s = omega (arith, some, long, le) in
    any_left (IsShut n s) H V (to_rules k l true n (IsShut n s) h (λ b e. record {
      name = e;
      over = over;
      hidden = refl;
    }) i)

inner_one : (k l : ℕ) (e : S.Entry) (n : List ℕ) → Binds (inner e) n → Any (IsOpen n l) (rules_of k l e)
inner_one k l (S.One b) n i = absurd i
inner_one k l (S.Block h v) n i = by (binds_cases h v n i)
  where
    by : Binds h n ⊎ Binds v n → Any (IsOpen n l) (block_rules k l true h ++ block_rules k l false v)
    by (inl g) =
        any_left (IsOpen n l) (block_rules k l true h) (block_rules k l false v)
        (to_rules k l true n (IsOpen n l) h (λ b e. record { name = e; counts = omega arith; seen = inr refl }) g)
    by (inr g) =
        any_right (IsOpen n l) (block_rules k l true h) (block_rules k l false v)
        (to_rules k l false n (IsOpen n l) v (λ b e. record { name = e; counts = omega arith; seen = inr refl }) g)

one_back : (k l s : ℕ) (e : S.Entry) (n : List ℕ) → Any (Counts n s) (rules_of k l e) → Binds (lasting e) n
    ⊎ Binds (passing e) n
one_back k l s (S.One b) n (inl c) = inl (inl c.name)
one_back k l s (S.One b) n (inr a) = absurd a
one_back k l s (S.Block h v) n a = by (any_cases (Counts n s) (block_rules k l true h) (block_rules k l false v) a)
  where
    by : Any (Counts n s) (block_rules k l true h) ⊎ Any (Counts n s) (block_rules k l false v) → Binds v n ⊎ Binds h n
    by (inl c) = inr (to_bindings k l true n (Counts n s) h (λ b p. p.name) c)
    by (inr c) = inl (to_bindings k l false n (Counts n s) v (λ b p. p.name) c)

inner_back : (k l : ℕ) (e : S.Entry) (n : List ℕ) → Any (Counts n l) (rules_of k l e) → Binds (inner e) n
inner_back k l (S.One b) n (inl c) = let le : l + 1 ≤ l = c.counts in absurd (omega (arith, le))
inner_back k l (S.One b) n (inr a) = absurd a
inner_back k l (S.Block h v) n a = by (any_cases (Counts n l) (block_rules k l true h) (block_rules k l false v) a)
  where
    by : Any (Counts n l) (block_rules k l true h) ⊎ Any (Counts n l) (block_rules k l false v) → Binds (h ++ v) n
    by (inl c) = binds_left h v n (to_bindings k l true n (Counts n l) h (λ b p. p.name) c)
    by (inr c) = binds_right h v n (to_bindings k l false n (Counts n l) v (λ b p. p.name) c)

never_block : (k l s : ℕ) (hidden : Bool) (bs : List S.Rule) (n : List ℕ) → s < l
    → Any (Counts n s) (block_rules k l hidden bs) → ⊥
never_block k l s hidden [] n lt a = a
never_block k l s hidden (b ∷ bs) n lt (inl c) = let le : l ≤ s = c.counts in absurd (omega (arith, le, lt))
never_block k l s hidden (b ∷ bs) n lt (inr a) = never_block k l s hidden bs n lt a

never_one : (k l s : ℕ) (e : S.Entry) (n : List ℕ) → s < l → Any (Counts n s) (rules_of k l e) → ⊥
never_one k l s (S.One b) n lt (inl c) = let le : l + 1 ≤ s = c.counts in absurd (omega (arith, le, lt))
never_one k l s (S.One b) n lt (inr a) = a
never_one k l s (S.Block h v) n lt a = by (any_cases (Counts n s) (block_rules k l true h) (block_rules k l false v) a)
  where
    by : Any (Counts n s) (block_rules k l true h) ⊎ Any (Counts n s) (block_rules k l false v) → ⊥
    by (inl c) = never_block k l s true h n lt c
    by (inr c) = never_block k l s false v n lt c

-- ---- all statements before

module _ (k s : ℕ) (n : List ℕ) where
  open_all : (l : ℕ) (es : List S.Entry) → l + length (laid k l es) ≤ s → Binds (of_all lasting es) n
      → Any (IsOpen n s) (laid k l es)
  open_all l [] le i = absurd i
  open_all l (e ∷ es) le i =
      by (open_all (l + length (rules_of k l e)) es) (binds_cases (lasting e) (of_all lasting es) n i)
    where
      by : (l + length (rules_of k l e) + length (laid k (l + length (rules_of k l e)) es) ≤ s
          → Binds (of_all lasting es) n → Any (IsOpen n s) (laid k (l + length (rules_of k l e)) es))
          → Binds (lasting e) n ⊎ Binds (of_all lasting es) n → Any (IsOpen n s) (laid k l (e ∷ es))
      by more (inl g) =
          let rs = rules_of k l e in
          let rest = laid k (l + length rs) es in
          let long = length-append rs rest in
          any_left (IsOpen n s) rs rest (open_one k l s e n (omega (arith, long, le)) g)
      by more (inr g) =
          let rs = rules_of k l e in
          let rest = laid k (l + length rs) es in
          let long = length-append rs rest in
          any_right (IsOpen n s) rs rest (more (omega (arith, long, le)) g)

  shut_all : (l : ℕ) (es : List S.Entry) → l + length (laid k l es) ≤ s → Binds (of_all passing es) n
      → Any (IsShut n s) (laid k l es)
  shut_all l [] le i = absurd i
  shut_all l (e ∷ es) le i =
      by (shut_all (l + length (rules_of k l e)) es) (binds_cases (passing e) (of_all passing es) n i)
    where
      by : (l + length (rules_of k l e) + length (laid k (l + length (rules_of k l e)) es) ≤ s
          → Binds (of_all passing es) n → Any (IsShut n s) (laid k (l + length (rules_of k l e)) es))
          → Binds (passing e) n ⊎ Binds (of_all passing es) n → Any (IsShut n s) (laid k l (e ∷ es))
      by more (inl g) =
          let rs = rules_of k l e in
          let rest = laid k (l + length rs) es in
          let long = length-append rs rest in
          any_left (IsShut n s) rs rest (shut_one k l s e n (omega (arith, long, le)) g)
      by more (inr g) =
          let rs = rules_of k l e in
          let rest = laid k (l + length rs) es in
          let long = length-append rs rest in
          any_right (IsShut n s) rs rest (more (omega (arith, long, le)) g)

  pub all_back : (l : ℕ) (es : List S.Entry) → Any (Counts n s) (laid k l es) → Binds (of_all lasting es) n
      ⊎ Binds (of_all passing es) n
  all_back l [] a = absurd a
  all_back l (e ∷ es) a =
      by (all_back (l + length (rules_of k l e)) es)
      (any_cases (Counts n s) (rules_of k l e) (laid k (l + length (rules_of k l e)) es) a)
    where
      here : Binds (lasting e) n ⊎ Binds (passing e) n → Binds (lasting e ++ of_all lasting es) n
          ⊎ Binds (passing e ++ of_all passing es) n
      here (inl g) = inl (binds_left (lasting e) (of_all lasting es) n g)
      here (inr g) = inr (binds_left (passing e) (of_all passing es) n g)

      there : Binds (of_all lasting es) n ⊎ Binds (of_all passing es) n → Binds (lasting e ++ of_all lasting es) n
          ⊎ Binds (passing e ++ of_all passing es) n
      there (inl g) = inl (binds_right (lasting e) (of_all lasting es) n g)
      there (inr g) = inr (binds_right (passing e) (of_all passing es) n g)

      by : (Any (Counts n s) (laid k (l + length (rules_of k l e)) es) → Binds (of_all lasting es) n
          ⊎ Binds (of_all passing es) n) → Any (Counts n s) (rules_of k l e)
          ⊎ Any (Counts n s) (laid k (l + length (rules_of k l e)) es) → Binds (lasting e ++ of_all lasting es) n
          ⊎ Binds (passing e ++ of_all passing es) n
      by more (inl c) = here (one_back k l s e n c)
      by more (inr c) = there (more c)

  never_all : (l : ℕ) (es : List S.Entry) → s < l → Any (Counts n s) (laid k l es) → ⊥
  never_all l [] lt a = a
  never_all l (e ∷ es) lt a =
      by (never_all (l + length (rules_of k l e)) es (omega (arith, lt)))
      (any_cases (Counts n s) (rules_of k l e) (laid k (l + length (rules_of k l e)) es) a)
    where
      by : (Any (Counts n s) (laid k (l + length (rules_of k l e)) es) → ⊥) → Any (Counts n s) (rules_of k l e)
          ⊎ Any (Counts n s) (laid k (l + length (rules_of k l e)) es) → ⊥
      by more (inl c) = never_one k l s e n lt c
      by more (inr c) = more c

-- ---- what an entry is at a start

not_late : (a b : ℕ) → b ≤ a → nat_lt a b ≡ false
not_late a b le = by (nat_lt a b) refl
  where
    by : (t : Bool) → nat_lt a b ≡ t → nat_lt a b ≡ false
    by true h = let lt : a < b = (Decides-ltb a b).0 h in absurd (omega (arith, le, lt))
    by false h = h

both_no : (b : Bool) (x y : Found) → (if b && false then x else y) ≡ y
both_no true x y = refl
both_no false x y = refl

counts_on : (s : ℕ) (e : Entry) → e.since ≤ s → meant s e ≡ (if e.hidden && nat_lt e.since s then Hidden
    else To e.referent)
counts_on s e le = ap (λ b. if b then Unknown else if e.hidden && nat_lt e.since s then Hidden
    else To e.referent) (not_late s e.since le)

meant_open : (s : ℕ) (e : Entry) → e.since ≤ s → (e.hidden ≡ false) ⊎ (e.since ≡ s) → meant s e ≡ To e.referent
meant_open s e le (inl h) = counts_on s e le ∙ ap (λ b. if b && nat_lt e.since s then Hidden else To e.referent) h
meant_open s e le (inr h) =
    counts_on s e le ∙ ap (λ b. if e.hidden && b then Hidden else To e.referent) (not_late e.since s (omega (arith, h)))
    ∙ both_no e.hidden Hidden (To e.referent)

meant_shut : (s : ℕ) (e : Entry) → e.since < s → e.hidden ≡ true → meant s e ≡ Hidden
meant_shut s e lt h =
    counts_on s e (omega (arith, lt)) ∙ ap (λ b. if b && nat_lt e.since s then Hidden else To e.referent) h
    ∙ ap (λ b. if b then Hidden else To e.referent) ((Decides-ltb e.since s).1 lt)

-- ---- what the name stands for

module _ (f : List ℕ) (rs : List Rule) (m m1 : Module) (n : List ℕ) (s : ℕ) (seen hidden : List S.Rule)
    (came : enter_all f rs m ≡ Ok m1) (new : first_of n m.names ≡ None)
    (opens : Binds seen n → Any (IsOpen n s) rs) (shuts : Binds hidden n → Any (IsShut n s) rs)
    (back : Any (Counts n s) rs → Binds seen n ⊎ Binds hidden n) where
  is_open : Any (IsOpen n s) rs → IsRuleOf m1 Own n (plain n s (first_of n m1.names))
  is_open a =
      let g = found f rs m m1 came (IsOpen n s) a in
      let here : first_of n m1.names ≡ Some (entry_for g.1 g.0) =
      subst (λ w. first_of w m1.names ≡ Some (entry_for g.1 g.0)) g.2.name g.4 in (
        g.0,
        g.1,
        g.3,
        g.2.name,
        ap (plain n s) here
            ∙ ap (halt_or n) (meant_open s (entry_for g.1 g.0) g.2.counts g.2.seen),
      )

  is_shut : Any (IsShut n s) rs → plain n s (first_of n m1.names) ≡ Hidden
  is_shut a =
      let g = found f rs m m1 came (IsShut n s) a in
      let here : first_of n m1.names ≡ Some (entry_for g.1 g.0) =
      subst (λ w. first_of w m1.names ≡ Some (entry_for g.1 g.0)) g.2.name g.4 in
      ap (plain n s) here ∙ ap (halt_or n) (meant_shut s (entry_for g.1 g.0) g.2.over g.2.hidden)

  is_unbound : (Binds seen n → ⊥) → (Binds hidden n → ⊥) → plain n s (first_of n m1.names) ≡ halt_or n Unknown
  is_unbound unseen unhidden = by (first_of n m1.names) refl
    where
      neither : Binds seen n ⊎ Binds hidden n → ⊥
      neither (inl i) = unseen i
      neither (inr i) = unhidden i

      at : (x : Entry) → first_of n m1.names ≡ Some x → (t : Bool) → nat_lt s x.since ≡ t
          → plain n s (Some x) ≡ halt_or n Unknown
      at x h true t = ap (λ b. halt_or n (if b then Unknown else if x.hidden && nat_lt x.since s then Hidden
          else To x.referent)) t
      at x h false t =
          let le : x.since ≤ s = ltb-false s x.since t in
          let old = traced f rs m m1 came n x new h in
          absurd (neither (back (any_map (Says n x) (Counts n s) (λ r p. let same = p.since in
          record { name = p.name; counts = omega (arith, same, le) }) rs old)))

      by : (o : Option Entry) → first_of n m1.names ≡ o → plain n s o ≡ halt_or n Unknown
      by None h = refl
      by (Some x) h = at x h (nat_lt s x.since) refl

  stands_for : StandsFor m1 Own seen hidden n (halt_or n Unknown) (plain n s (first_of n m1.names))
  stands_for = record { bound = λ i. is_open (opens i); shut = λ i. is_shut (shuts i); unbound = is_unbound }

-- ---- the laws

pub rules_laid : RulesAreLaid
rules_laid f k ms m m1 es h = rules_are f (laid k (length m.rules) es) m m1 (all_entered f k ms es m m1 h)

pub patterns_see : PatternsSee
patterns_see f k ms m m1 es n h new =
    let l = length m.rules in
    let rs = laid k l es in
    let long : length m1.rules ≡ l + length rs = ap (λ x. length x) (rules_laid f k ms m m1 es h)
    ∙ length-append m.rules rs in
    let s = length m1.rules in
    stands_for f rs m m1 n s (of_all lasting es) (of_all passing es) (all_entered f k ms es m m1 h) new
    (open_all k s n l es (omega (arith, long))) (shut_all k s n l es (omega (arith, long))) (all_back k s n l es)

some_rule : (k l : ℕ) (e : S.Entry) → (bindings_of e ≡ [] → ⊥) → 0 < length (rules_of k l e)
some_rule k l (S.One b) has = omega arith
some_rule k l (S.Block [] []) has = absurd (has refl)
some_rule k l (S.Block [] (b ∷ v)) has = omega arith
some_rule k l (S.Block (b ∷ h) v) has = omega arith

module _ (k l s : ℕ) (before after : List S.Entry) (e : S.Entry) (n : List ℕ) (long : s ≡ l + length (laid k l before))
    (some : 0 < length (rules_of k s e)) where
  ours : List Rule
  ours = rules_of k s e

  later : List Rule
  later = laid k (s + length (rules_of k s e)) after

  first : List Rule
  first = laid k l before

  open_there : Binds (of_all lasting before ++ inner e) n → Any (IsOpen n s) (first ++ (ours ++ later))
  unfolding first ours
  open_there i = by (binds_cases (of_all lasting before) (inner e) n i)
    where
      by : Binds (of_all lasting before) n ⊎ Binds (inner e) n → Any (IsOpen n s) (first ++ (ours ++ later))
      by (inl g) = any_left (IsOpen n s) first (ours ++ later) (open_all k s n l before (omega (arith, long)) g)
      by (inr g) = any_right (IsOpen n s) first (ours ++ later) (any_left (IsOpen n s) ours later (inner_one k s e n g))

  shut_there : Binds (of_all passing before) n → Any (IsShut n s) (first ++ (ours ++ later))
  unfolding first
  shut_there i = any_left (IsShut n s) first (ours ++ later) (shut_all k s n l before (omega (arith, long)) i)

  back_there : Any (Counts n s) (first ++ (ours ++ later)) → Binds (of_all lasting before ++ inner e) n
      ⊎ Binds (of_all passing before) n
  unfolding first ours later
  back_there a = by (any_cases (Counts n s) first (ours ++ later) a)
    where
      here : Binds (of_all lasting before) n ⊎ Binds (of_all passing before) n
          → Binds (of_all lasting before ++ inner e) n ⊎ Binds (of_all passing before) n
      here (inl g) = inl (binds_left (of_all lasting before) (inner e) n g)
      here (inr g) = inr g

      there : Any (Counts n s) ours ⊎ Any (Counts n s) later → Binds (of_all lasting before ++ inner e) n
          ⊎ Binds (of_all passing before) n
      there (inl c) = inl (binds_right (of_all lasting before) (inner e) n (inner_back k s e n c))
      there (inr c) = absurd (never_all k s n (s + length (rules_of k s e)) after (omega (arith, some)) c)

      by : Any (Counts n s) first ⊎ Any (Counts n s) (ours ++ later) → Binds (of_all lasting before ++ inner e) n
          ⊎ Binds (of_all passing before) n
      by (inl c) = here (all_back k s n l before c)
      by (inr c) = there (any_cases (Counts n s) ours later c)

pub statements_see : StatementsSee
unfolding first ours later
statements_see f k ms m m1 m2 before after e n h1 h2 some new =
    let l = length m.rules in
    let s = length m1.rules in
    let B = laid k l before in
    let E = rules_of k s e ++ laid k (s + length (rules_of k s e)) after in
    let came = all_entered f k ms before m m1 h1 in
    let whole : enter_all f (B ++ E) m ≡ Ok m2 = turn_append (enter f) B E m ∙ ap (λ r. r >>= enter_all f E) came
    ∙ all_entered f k ms (e ∷ after) m1 m2 h2 in
    let long : s ≡ l + length B = ap (λ x. length x) (rules_are f B m m1 came) ∙ length-append m.rules B in
    let any = some_rule k s e some in
    stands_for f (B ++ E) m m2 n s (of_all lasting before ++ inner e) (of_all passing before) whole new
    (open_there k l s before after e n long any) (shut_there k l s before after e n long any)
    (back_there k l s before after e n long any)
