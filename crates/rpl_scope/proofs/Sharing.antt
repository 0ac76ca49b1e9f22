-- What importers see of the rules of a module.
use Rattle.std.proofs.Common.{arith, ◌≡◌, ℕ, ◌+◌, List, [], ◌∷◌, ◌++◌, length, Option, Some, None}
use Rattle.std.proofs.Common.{◌⊎◌, inl, inr, refl, ap, ap₂, subst, ◌∙◌, true, false}
use Rattle.std.specs.Prelude.{Bool, if◌then◌else◌, ◌||◌}
use Rattle.rpl_syntax.specs.Parsed as S
use Rattle.rpl_scope.specs.declared.module.Entry.{Entry}
use Rattle.rpl_scope.specs.declared.module.Referent.TheVariants.{Of}
use Rattle.rpl_scope.specs.declared.scope.Found.{Found}
use Rattle.rpl_scope.specs.declared.scope.Found.TheVariants.{To, Unknown, Hidden}
use Rattle.rpl_scope.specs.Laws.{lasting, passing, public, locals, shown, withheld, of_all, Binds, ImportersSee, laid}
use Rattle.rpl_scope.specs.Packages.{Rule, first_of, shared}
use Rattle.rpl_scope.specs.Statements.{block_rules, entry_for, rules_of}
use Rattle.rpl_scope.proofs.Growing.{Any, any_left, any_right, any_map, found, Says, traced}
use Rattle.rpl_scope.proofs.Scoping.{all_back, all_entered, binds_left, binds_right, binds_cases, to_rules, Counts}

record IsShown (n : List ℕ) (r : Rule) : Type 0 where
  name : r.name ≡ n
  local : r.local ≡ false
  hidden : r.hidden ≡ false

record IsWithheld (n : List ℕ) (r : Rule) : Type 0 where
  name : r.name ≡ n
  why : (r.local ≡ true) ⊎ (r.hidden ≡ true)

-- ---- the bindings of one statement

module _ (k l : ℕ) (n : List ℕ) where
  public_rules : (bs : List S.Rule) → Binds (public bs) n → Any (IsShown n) (block_rules k l false bs)
  public_rules [] i = absurd i
  public_rules (b ∷ bs) i = by b.local refl i (public_rules bs)
    where
      by : (t : Bool) → b.local ≡ t → Binds (if t then public bs else b ∷ public bs) n
          → (Binds (public bs) n → Any (IsShown n) (block_rules k l false bs))
          → Any (IsShown n) (block_rules k l false (b ∷ bs))
      by true h g more = inr (more g)
      by false h (inl e) more = inl (record { name = e; local = h; hidden = refl })
      by false h (inr g) more = inr (more g)

  local_rules : (bs : List S.Rule) → Binds (locals bs) n → Any (IsWithheld n) (block_rules k l false bs)
  local_rules [] i = absurd i
  local_rules (b ∷ bs) i = by b.local refl i (local_rules bs)
    where
      by : (t : Bool) → b.local ≡ t → Binds (if t then b ∷ locals bs else locals bs) n
          → (Binds (locals bs) n → Any (IsWithheld n) (block_rules k l false bs))
          → Any (IsWithheld n) (block_rules k l false (b ∷ bs))
      by true h (inl e) more = inl (record { name = e; why = inl h })
      by true h (inr g) more = inr (more g)
      by false h g more = inr (more g)

  shown_one : (e : S.Entry) → Binds (shown e) n → Any (IsShown n) (rules_of k l e)
  shown_one (S.One b) i = by b.local refl i
    where
      by : (t : Bool) → b.local ≡ t → Binds (if t then [] else b ∷ []) n → Any (IsShown n) (rules_of k l (S.One b))
      by true h g = absurd g
      by false h (inl e) = inl (record { name = e; local = h; hidden = refl })
      by false h (inr g) = absurd g
  shown_one (S.Block h v) i =
      any_right (IsShown n) (block_rules k l true h) (block_rules k l false v) (public_rules v i)

  withheld_one : (e : S.Entry) → Binds (withheld e) n → Any (IsWithheld n) (rules_of k l e)
  withheld_one (S.One b) i = by b.local refl i
    where
      by : (t : Bool) → b.local ≡ t → Binds ((if t then b ∷ [] else []) ++ []) n
          → Any (IsWithheld n) (rules_of k l (S.One b))
      by true h (inl e) = inl (record { name = e; why = inl h })
      by true h (inr g) = absurd g
      by false h g = absurd g
  withheld_one (S.Block h v) i = by (binds_cases (locals v) h n i)
    where
      by : Binds (locals v) n ⊎ Binds h n → Any (IsWithheld n) (block_rules k l true h ++ block_rules k l false v)
      by (inl g) = any_right (IsWithheld n) (block_rules k l true h) (block_rules k l false v) (local_rules v g)
      by (inr g) =
          any_left (IsWithheld n) (block_rules k l true h) (block_rules k l false v)
          (to_rules k l true n (IsWithheld n) h (λ b e. record { name = e; why = inr refl }) g)

split : (bs : List S.Rule) (n : List ℕ) → Binds bs n → Binds (public bs) n ⊎ Binds (locals bs) n
split [] n i = absurd i
split (b ∷ bs) n (inl e) = by b.local
  where
    by : (t : Bool) → Binds (if t then public bs else b ∷ public bs) n
        ⊎ Binds (if t then b ∷ locals bs else locals bs) n
    by true = inr (inl e)
    by false = inl (inl e)
split (b ∷ bs) n (inr i) = by b.local (split bs n i)
  where
    by : (t : Bool) → Binds (public bs) n ⊎ Binds (locals bs) n → Binds (if t then public bs else b ∷ public bs) n
        ⊎ Binds (if t then b ∷ locals bs else locals bs) n
    by true (inl g) = inl g
    by true (inr g) = inr (inr g)
    by false (inl g) = inl (inr g)
    by false (inr g) = inr g

-- ---- those of all statements

all_rules : (k : ℕ) (n : List ℕ) (of : S.Entry → List S.Rule) (P : Rule → Type 0)
    → ((l : ℕ) (e : S.Entry) → Binds (of e) n → Any P (rules_of k l e)) → (l : ℕ) (es : List S.Entry)
    → Binds (of_all of es) n → Any P (laid k l es)
all_rules k n of P f l [] i = absurd i
all_rules k n of P f l (e ∷ es) i =
    by (all_rules k n of P f (l + length (rules_of k l e)) es) (binds_cases (of e) (of_all of es) n i)
  where
    by : (Binds (of_all of es) n → Any P (laid k (l + length (rules_of k l e)) es)) → Binds (of e) n
        ⊎ Binds (of_all of es) n → Any P (rules_of k l e ++ laid k (l + length (rules_of k l e)) es)
    by more (inl g) = any_left P (rules_of k l e) (laid k (l + length (rules_of k l e)) es) (f l e g)
    by more (inr g) = any_right P (rules_of k l e) (laid k (l + length (rules_of k l e)) es) (more g)

lasting_are : (es : List S.Entry) (n : List ℕ) → Binds (of_all lasting es) n → Binds (of_all shown es) n
    ⊎ Binds (of_all withheld es) n
lasting_are [] n i = absurd i
lasting_are (e ∷ es) n i = by (lasting_are es n) (binds_cases (lasting e) (of_all lasting es) n i)
  where
    here : Binds (public (lasting e)) n ⊎ Binds (locals (lasting e)) n → Binds (shown e ++ of_all shown es) n
        ⊎ Binds (withheld e ++ of_all withheld es) n
    here (inl g) = inl (binds_left (shown e) (of_all shown es) n g)
    here (inr g) = inr (binds_left (withheld e) (of_all withheld es) n
        (binds_left (locals (lasting e)) (passing e) n g))

    there : Binds (of_all shown es) n ⊎ Binds (of_all withheld es) n → Binds (shown e ++ of_all shown es) n
        ⊎ Binds (withheld e ++ of_all withheld es) n
    there (inl g) = inl (binds_right (shown e) (of_all shown es) n g)
    there (inr g) = inr (binds_right (withheld e) (of_all withheld es) n g)

    by : (Binds (of_all lasting es) n → Binds (of_all shown es) n ⊎ Binds (of_all withheld es) n) → Binds (lasting e) n
        ⊎ Binds (of_all lasting es) n → Binds (shown e ++ of_all shown es) n
        ⊎ Binds (withheld e ++ of_all withheld es) n
    by more (inl g) = here (split (lasting e) n g)
    by more (inr g) = there (more g)

passing_are : (es : List S.Entry) (n : List ℕ) → Binds (of_all passing es) n → Binds (of_all withheld es) n
passing_are [] n i = absurd i
passing_are (e ∷ es) n i = by (passing_are es n) (binds_cases (passing e) (of_all passing es) n i)
  where
    by : (Binds (of_all passing es) n → Binds (of_all withheld es) n) → Binds (passing e) n
        ⊎ Binds (of_all passing es) n → Binds (withheld e ++ of_all withheld es) n
    by more (inl g) = binds_left (withheld e) (of_all withheld es) n (binds_right (locals (lasting e)) (passing e) n g)
    by more (inr g) = binds_right (withheld e) (of_all withheld es) n (more g)

-- ---- the law

or_true : (b : Bool) (x y : Found) → (if b || true then x else y) ≡ x
or_true true x y = refl
or_true false x y = refl

withheld_is : (i k : ℕ) (n : List ℕ) (r : Rule) → IsWithheld n r → shared i (Some (entry_for r k)) ≡ Hidden
withheld_is i k n r h = by h.why
  where
    by : (r.local ≡ true) ⊎ (r.hidden ≡ true) → shared i (Some (entry_for r k)) ≡ Hidden
    by (inl t) = ap (λ b. if b || r.hidden then Hidden else To (Of i k)) t
    by (inr t) = ap (λ b. if r.local || b then Hidden else To (Of i k)) t ∙ or_true r.local Hidden (To (Of i k))

pub importers_see : ImportersSee
importers_see f k ms m m1 es n i is new =
    let l = length m.rules in
    let rs = laid k l es in
    let came = all_entered f k ms es m m1 is in
    record {
      bound = λ b.
          let g = found f rs m m1 came (IsShown n) (all_rules k n shown (IsShown n) (λ j e. shown_one k j n e) l es b)
          in
          let here : first_of n m1.names ≡ Some (entry_for g.1 g.0) =
          subst (λ w. first_of w m1.names ≡ Some (entry_for g.1 g.0)) g.2.name g.4 in (
            g.0,
            g.1,
            g.3,
            g.2.name,
            ap (shared i) here
                ∙ ap₂ (λ x y. if x || y then Hidden else To (Of i g.0)) g.2.local g.2.hidden,
          );
      shut = λ b.
          let g = found f rs m m1 came (IsWithheld n)
          (all_rules k n withheld (IsWithheld n) (λ j e. withheld_one k j n e) l es b) in
          let here : first_of n m1.names ≡ Some (entry_for g.1 g.0) =
          subst (λ w. first_of w m1.names ≡ Some (entry_for g.1 g.0)) g.2.name g.4 in
          ap (shared i) here ∙ withheld_is i g.0 n g.1 g.2;
      unbound = λ unseen unhidden. by unseen unhidden (first_of n m1.names) refl;
    }
  where
    of_it : Binds (of_all lasting es) n ⊎ Binds (of_all passing es) n → Binds (of_all shown es) n
        ⊎ Binds (of_all withheld es) n
    of_it (inl g) = lasting_are es n g
    of_it (inr g) = inr (passing_are es n g)

    none : (Binds (of_all shown es) n → ⊥) → (Binds (of_all withheld es) n → ⊥) → Binds (of_all shown es) n
        ⊎ Binds (of_all withheld es) n → ⊥
    none unseen unhidden (inl g) = unseen g
    none unseen unhidden (inr g) = unhidden g

    by : (Binds (of_all shown es) n → ⊥) → (Binds (of_all withheld es) n → ⊥) → (o : Option Entry)
        → first_of n m1.names ≡ o → shared i o ≡ Unknown
    by unseen unhidden None h = refl
    by unseen unhidden (Some x) h =
        let rs = laid k (length m.rules) es in
        let old = traced f rs m m1 (all_entered f k ms es m m1 is) n x new h in
        let some = any_map (Says n x) (Counts n x.since) (λ r p. let same = p.since in
        record { name = p.name; counts = omega (arith, same) }) rs old in
        absurd (none unseen unhidden (of_it (all_back k x.since n (length m.rules) es some)))
