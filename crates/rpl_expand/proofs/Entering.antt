-- A module stays as it is to be when a statement enters it.
use Rattle.std.proofs.Common.{arith, ◌≡◌, ◌≢◌, ◌≤◌, ◌<◌, ◌⊎◌, inl, inr, ℕ, zero, suc, ◌+◌, List, [], ◌∷◌, ◌++◌}
use Rattle.std.proofs.Common.{length, Option, Some, None, refl, sym, ap, subst, ◌∙◌, append_assoc}
use Rattle.std.specs.Prelude.{Bool, true, false, Ok, slice_get}
use Rattle.std.specs.List.{All, Contains}
use Rattle.std.proofs.lemmas.List.{append-nil, length-append}
use Rattle.std.proofs.lemmas.List.Elements.{All-cons, All-nil, All-contains, Contains-append_left}
use Rattle.std.proofs.lemmas.List.Elements.{Contains-append_right}
use Rattle.std.proofs.lemmas.Slice.Eq.{bytes_eq-Decides}
use Rattle.rpl_syntax.specs.Modules as S
use Rattle.rpl_syntax.specs.declared.name.QName.{QName}
use Rattle.rpl_scope.proofs.Halves.{names_append}
use Rattle.rpl_scope.specs.Bodies as B
use Rattle.rpl_scope.specs.Bodies.{name_fault, named_fault, names_fault, macros_fault}
use Rattle.rpl_scope.specs.Faults.{in_turn, unless, first_fault}
use Rattle.rpl_scope.specs.Packages.{Rule, Module, first_of, bound}
use Rattle.rpl_scope.specs.Statements.{entry_for, with_rule, enter, enter_at, enter_all, rule_of, block_rules}
use Rattle.rpl_scope.specs.Statements.{rules_of, names_of, uses_of, bindings_of, bodies_fault, statement, statements}
use Rattle.rpl_scope.specs.declared.module.Entry.{Entry}
use Rattle.rpl_scope.specs.declared.module.Referent.{Referent}
use Rattle.rpl_scope.specs.declared.module.Referent.TheVariants.{Own, Of, BuiltIn}
use Rattle.rpl_scope.specs.declared.scope.Found.{Found}
use Rattle.rpl_scope.specs.declared.scope.Found.TheVariants.{To, Unknown, Hidden}
use Rattle.rpl_names.proofs.Numbering.{nth_within}
use Rattle.rpl_names.specs.Tables.{boundary_name}
use Rattle.rpl_expand.proofs.Laying.{MayFollow, laid_more}
use Rattle.rpl_expand.proofs.Lists.{nth_more, nth_last, nth_in, nth_end, first_more, first_end, Either}
use Rattle.rpl_expand.proofs.Modules.{Means, Stands, IsFormed, IsModule, Extends, extends_same, extends_on}
use Rattle.rpl_expand.proofs.Modules.{grows_same, said_stays, starts_within}
use Rattle.rpl_expand.proofs.Steps.{both, passed, neither, turns_append}

-- ---- one rule more

means_more : (ms : List Module) (i : ℕ) (rs : List Rule) (r : Rule) (n : List ℕ) (since : ℕ) (x : Referent)
    → Means ms i rs n since x → Means ms i (rs ++ r ∷ []) n since x
means_more ms i rs r n since (Own k) h = (h.0, nth_more rs (r ∷ []) k h.0 h.1, h.2, h.3)
means_more ms i rs r n since (Of j k) h = h
means_more ms i rs r n since BuiltIn h = h

never_late : (i : ℕ) (a b s : ℕ) (n : ℕ) → (n < i) ⊎ ((false ≡ true) × (a ≤ s)) → (n < i) ⊎ ((false ≡ true) × (b ≤ s))
never_late i a b s n (inl h) = inl h
never_late i a b s n (inr h) = let e = h.0 in absurd (cc)

module _ (ms : List Module) (i : ℕ) (m : Module) (r : Rule) (h : IsFormed false ms i m) (may : MayFollow m.rules r)
  where
    entry_is : (e : Entry) (n : List ℕ) → Either (first_of n m.names) e (entry_for r (length m.rules)) n r.name
        → Means ms i (m.rules ++ r ∷ []) n e.since e.referent
    entry_is e n (inl f) = means_more ms i m.rules r n e.since e.referent (h.names n e f)
    entry_is e n (inr f) =
        let same : r.name ≡ n = sym ((bytes_eq-Decides n r.name).0 f.0) in
        let own : Means ms i (m.rules ++ r ∷ []) n r.since (Own (length m.rules)) =
        (r, nth_last m.rules r (length m.rules) refl, refl, same) in
        subst (λ y. Means ms i (m.rules ++ r ∷ []) n y.since y.referent) (sym f.1) own

    formed_more : IsFormed false ms i (with_rule m r)
    formed_more = record {
      laid = laid_more m.rules r h.laid may;
      names = λ n e f. entry_is e n (first_end n m.names r.name (entry_for r (length m.rules)) e f);
      prefixes =
          λ n p f. never_late i (length m.rules) (length (m.rules ++ r ∷ [])) p.since p.number (h.prefixes n p f);
    }

    entry_fresh : (b : ℕ) (n : List ℕ) (e : Entry) → b ≤ r.since → first_of n m.names ≡ None
        → Either (first_of n m.names) e (entry_for r (length m.rules)) n r.name → b ≤ e.since
    entry_fresh b n e le none (inl f) = absurd (cc)
    entry_fresh b n e le none (inr f) = let s : e.since ≡ r.since = ap (λ y. y.since) f.1 in omega (arith, s, le)

    rule_extends : (b : ℕ) → b ≤ r.since → Extends b m (with_rule m r)
    rule_extends b le = record {
      names = λ n e f. first_more n m.names ((r.name, entry_for r (length m.rules)) ∷ []) e f;
      fresh = λ n e none f. entry_fresh b n e le none (first_end n m.names r.name (entry_for r (length m.rules)) e f);
      prefixes = λ n p f. f;
    }

with_it : (f : List ℕ) (r : Rule) (m n : Module) (o : Option Entry) → enter_at o f r m ≡ Ok n → with_rule m r ≡ n
with_it f r m n None e = cc
with_it f r m n (Some x) e = absurd (cc)

-- ---- all rules of a statement

-- what holds when some rules of a statement that starts at b have come in
pub record HasEntered (ms : List Module) (i b : ℕ) (m n : Module) (rs : List Rule) : Type 0 where
  pub formed : IsFormed false ms i n
  pub extends : Extends b m n
  pub rules : n.rules ≡ m.rules ++ rs

one_entered : (f : List ℕ) (ms : List Module) (i b : ℕ) (m n : Module) (r : Rule) → IsFormed false ms i m
    → MayFollow m.rules r → b ≤ r.since
    → enter f r m ≡ Ok n → HasEntered ms i b m n (r ∷ [])
one_entered f ms i b m n r h may le e =
    subst (λ x. HasEntered ms i b m x (r ∷ [])) (with_it f r m n (first_of r.name m.names) e)
    (record { formed = formed_more ms i m r h may; extends = rule_extends ms i m r h may b le; rules = refl })

-- the names of a block's bindings are none that is the boundary's
abbrev pub AreUnmarked : List S.Rule → Type 0
AreUnmarked [] = Unit {0}
AreUnmarked (b ∷ bs) = (b.name ≢ boundary_name) × AreUnmarked bs

-- all rules from b on are of the block that starts there
pub record AreOf (b : ℕ) (rs : List Rule) : Type 0 where
  pub each : (j : ℕ) (q : Rule) → slice_get rs j ≡ Some q → b ≤ j → (q.start ≡ b) × (q.since ≡ b)

of_none : (rs : List Rule) → AreOf (length rs) rs
of_none rs = record { each = λ j q h le. let w = nth_within rs j q h in absurd (omega (arith, w, le)) }

of_by : (b : ℕ) (rs : List Rule) (r : Rule) (j : ℕ) (q : Rule) → AreOf b rs → r.start ≡ b → r.since ≡ b
    → (slice_get rs j ≡ Some q) ⊎ ((j ≡ length rs) × (q ≡ r))
    → b ≤ j → (q.start ≡ b) × (q.since ≡ b)
of_by b rs r j q h s t (inl g) le = h.each j q g le
of_by b rs r j q h s t (inr g) le = (ap (λ x. x.start) g.1 ∙ s, ap (λ x. x.since) g.1 ∙ t)

of_more : (b : ℕ) (rs : List Rule) (r : Rule) → AreOf b rs → r.start ≡ b → r.since ≡ b → AreOf b (rs ++ r ∷ [])
of_more b rs r h s t = record { each = λ j q g le. of_by b rs r j q h s t (nth_end rs r j q g) le }

no_more : (ms : List Module) (i b : ℕ) (m : Module) → IsFormed false ms i m → HasEntered ms i b m m []
no_more ms i b m h = record { formed = h; extends = extends_same b m; rules = sym (append-nil m.rules) }

-- one part of them after the other
pub entered_on : (ms : List Module) (i b : ℕ) (m n o : Module) (rs ss : List Rule) → HasEntered ms i b m n rs
    → HasEntered ms i b n o ss → HasEntered ms i b m o (rs ++ ss)
entered_on ms i b m n o rs ss g h = record {
  formed = h.formed;
  extends = extends_on b m n o g.extends h.extends;
  rules = h.rules ∙ ap (λ x. x ++ ss) g.rules ∙ append_assoc m.rules rs ss;
}

pub record IsBlock (ms : List Module) (i b : ℕ) (m n : Module) (rs : List Rule) : Type 0 where
  pub entered : HasEntered ms i b m n rs
  pub of_it : AreOf b n.rules
  pub behind : b ≤ length n.rules

block_entered : (f : List ℕ) (ms : List Module) (i k b : ℕ) (hidden : Bool) (bs : List S.Rule) (m n : Module)
    → IsFormed false ms i m → b ≤ length m.rules
    → AreOf b m.rules → AreUnmarked bs → in_turn (enter f) (block_rules k b hidden bs) m ≡ Ok n
    → IsBlock ms i b m n (block_rules k b hidden bs)
block_entered f ms i k b hidden [] m n h le of_it un e =
    let s : m ≡ n = cc in
    subst (λ x. IsBlock ms i b m x []) s (record { entered = no_more ms i b m h; of_it = of_it; behind = le })
block_entered f ms i k b hidden (x ∷ bs) m n h le of_it un e =
    let r = rule_of k b b hidden x in
    let c = both (enter f r m) (in_turn (enter f) (block_rules k b hidden bs)) n e in
    let may : MayFollow m.rules r = record {
      behind = le;
      kind = inl refl;
      near = of_it.each;
      mark = λ y. absurd (un.0 y);
    } in
    let here = one_entered f ms i b m c.0 r h may (omega arith) c.1 in
    let there : AreOf b (m.rules ++ r ∷ []) = of_more b m.rules r of_it refl refl in
    let long : b ≤ length (m.rules ++ r ∷ []) = omega (arith, length-append m.rules (r ∷ []), le) in
    let rest = block_entered f ms i k b hidden bs c.0 n here.formed
    (subst (λ z. b ≤ length z) (sym here.rules) long) (subst (AreOf b) (sym here.rules) there) un.1 c.2 in
    record {
      entered = entered_on ms i b m c.0 n (r ∷ []) (block_rules k b hidden bs) here rest.entered;
      of_it = rest.of_it;
      behind = rest.behind;
    }

-- no binding of a block is one of the boundary
abbrev pub IsPlainEntry : S.Entry → Type 0
IsPlainEntry (S.One b) = Unit {0}
IsPlainEntry (S.Block h v) = AreUnmarked h × AreUnmarked v

all_entered : (f : List ℕ) (ms : List Module) (i k : ℕ) (e : S.Entry) (m n : Module) → IsFormed false ms i m
    → IsPlainEntry e
    → enter_all f (rules_of k (length m.rules) e) m ≡ Ok n
    → HasEntered ms i (length m.rules) m n (rules_of k (length m.rules) e)
all_entered f ms i k (S.One b) m n h plain is =
    let l = length m.rules in
    let r = rule_of k l (l + 1) false b in
    let c = both (enter f r m) (in_turn (enter f) []) n is in
    let s : c.0 ≡ n = (let g = c.2 in cc) in
    let may : MayFollow m.rules r = record {
      behind = omega arith;
      kind = inr (refl, refl);
      near = λ j q g le. absurd (omega (arith, nth_within m.rules j q g, le));
      mark = λ y. refl;
    } in
    subst (λ x. HasEntered ms i l m x (r ∷ [])) s (one_entered f ms i l m c.0 r h may (omega arith) c.1)
all_entered f ms i k (S.Block hs vs) m n h plain is =
    let l = length m.rules in
    let first = block_rules k l true hs in
    let rest = block_rules k l false vs in
    let c = both (in_turn (enter f) first m) (in_turn (enter f) rest) n
    (sym (turns_append (enter f) first rest m) ∙ is) in
    let a = block_entered f ms i k l true hs m c.0 h (omega arith) (of_none m.rules) plain.0 c.1 in
    let b = block_entered f ms i k l false vs c.0 n a.entered.formed a.behind a.of_it plain.1 c.2 in
    entered_on ms i l m c.0 n first rest a.entered b.entered

-- ---- its names

-- the rule is of a statement that starts at b, and its names are among these
abbrev pub IsNew : ℕ → List QName → Rule → Type 0
IsNew b qs r = (r.start ≡ b) × ((q : QName) → Contains (B.names r.body) q → Contains qs q)

new_more : (b : ℕ) (ps qs : List QName) (r : Rule) → IsNew b qs r → IsNew b (ps ++ qs) r
new_more b ps qs r h = (h.0, λ q c. Contains-append_right ps qs q (h.1 q c))

new_first : (b : ℕ) (ps qs : List QName) (r : Rule) → IsNew b ps r → IsNew b (ps ++ qs) r
new_first b ps qs r h = (h.0, λ q c. Contains-append_left ps qs q (h.1 q c))

of_block : (k b : ℕ) (hidden : Bool) (bs : List S.Rule) (t : ℕ) (r : Rule)
    → slice_get (block_rules k b hidden bs) t ≡ Some r → IsNew b (names_of bs) r
of_block k b hidden [] t r h = absurd (cc)
of_block k b hidden (x ∷ bs) zero r h =
    let s : rule_of k b b hidden x ≡ r = cc in
    subst (IsNew b (B.names x.body ++ names_of bs)) s
    (refl, λ q c. Contains-append_left (B.names x.body) (names_of bs) q c)
of_block k b hidden (x ∷ bs) (suc t) r h = new_more b (B.names x.body) (names_of bs) r (of_block k b hidden bs t r h)

of_halves : (k b : ℕ) (hs vs : List S.Rule) (r : Rule) (t : ℕ)
    → (slice_get (block_rules k b true hs) t ≡ Some r)
    ⊎ ((j : ℕ) × (t ≡ length (block_rules k b true hs) + j) × (slice_get (block_rules k b false vs) j ≡ Some r))
    → IsNew b (names_of hs ++ names_of vs) r
of_halves k b hs vs r t (inl g) = new_first b (names_of hs) (names_of vs) r (of_block k b true hs t r g)
of_halves k b hs vs r t (inr g) = new_more b (names_of hs) (names_of vs) r (of_block k b false vs g.0 r g.2)

of_statement : (k b : ℕ) (e : S.Entry) (t : ℕ) (r : Rule) → slice_get (rules_of k b e) t ≡ Some r
    → IsNew b (names_of (bindings_of e)) r
of_statement k b (S.One x) zero r h =
    let s : rule_of k b (b + 1) false x ≡ r = cc in
    subst (IsNew b (B.names x.body ++ [])) s (refl, λ q c. Contains-append_left (B.names x.body) [] q c)
of_statement k b (S.One x) (suc t) r h = absurd (cc)
of_statement k b (S.Block hs vs) t r h =
    subst (λ qs. IsNew b qs r) (sym (names_append hs vs))
    (of_halves k b hs vs r t (nth_in (block_rules k b true hs) (block_rules k b false vs) t r h))

found : (f : List ℕ) (q : QName) (o : Found) → name_fault f q o ≡ None → (x : Referent) × (o ≡ To x)
found f q (To x) h = (x, refl)
found f q Unknown h = absurd (cc)
found f q Hidden h = absurd (cc)

-- where no name is at fault, each stands for something
pub all_stand : (f : List ℕ) (ms : List Module) (m : Module) (s : ℕ) (qs : List QName)
    → names_fault f ms m s qs ≡ None → All (Stands ms m s) qs
all_stand f ms m s [] h = All-nil (Stands ms m s)
all_stand f ms m s (q ∷ qs) h =
    let n = neither (named_fault f ms m s q) (first_fault (named_fault f ms m s) qs) h in
    All-cons (Stands ms m s) q qs (found f q (bound ms m s q) n.0) (all_stand f ms m s qs n.1)

-- ---- statements

module _ (ms : List Module) (i b : ℕ) (m n : Module) (rs : List Rule) (qs : List QName) (h : IsModule false ms i m)
    (e : HasEntered ms i b m n rs)
    (at : b ≡ length m.rules) (new : (t : ℕ) (r : Rule) → slice_get rs t ≡ Some r → IsNew b qs r)
    (all : All (Stands ms n b) qs) where
  said_by : (t : ℕ) (r : Rule) (q : QName) → Contains (B.names r.body) q → (slice_get m.rules t ≡ Some r)
      ⊎ ((k : ℕ) × (t ≡ length m.rules + k) × (slice_get rs k ≡ Some r))
      → Stands ms n r.start q
  said_by t r q c (inl g) =
      let w = starts_within m t r h.formed.laid g in
      said_stays ms ms m n b r.start q (grows_same ms) e.extends (omega (arith, w, at)) (h.said.each t r q g c)
  said_by t r q c (inr g) =
      let w = new g.0 r g.2 in
      subst (λ s. Stands ms n s q) (sym w.0) (All-contains (Stands ms n b) qs q all (w.1 q c))

  said_with : IsModule false ms i n
  said_with = record {
    formed = e.formed;
    said = record {
      each = λ t r q g c. said_by t r q c (nth_in m.rules rs t r (sym (ap (λ x. slice_get x t) e.rules) ∙ g));
    };
  }

statement_in : (f : List ℕ) (k : ℕ) (ms : List Module) (i : ℕ) (e : S.Entry) (m n : Module) → IsModule false ms i m
    → IsPlainEntry e
    → statement f k ms e m ≡ Ok n → IsModule false ms i n
statement_in f k ms i e m n h plain is =
    let l = length m.rules in
    let c = both (enter_all f (rules_of k l e) m) (λ m1. unless (bodies_fault f ms l (bindings_of e) m1) m1) n is in
    let p = passed (bodies_fault f ms l (bindings_of e) c.0) c.0 n c.2 in
    let none =
    neither (names_fault f ms c.0 l (names_of (bindings_of e))) (macros_fault f (uses_of (bindings_of e))) p.0 in
    let entered = all_entered f ms i k e m c.0 h.formed plain c.1 in
    let all = all_stand f ms c.0 l (names_of (bindings_of e)) none.0 in
    subst (IsModule false ms i) p.1
    (said_with ms i l m c.0 (rules_of k l e) (names_of (bindings_of e)) h entered refl (of_statement k l e) all)

abbrev pub ArePlainEntries : List S.Entry → Type 0
ArePlainEntries [] = Unit {0}
ArePlainEntries (e ∷ es) = IsPlainEntry e × ArePlainEntries es

-- all statements of a text
pub statements_in : (f : List ℕ) (k : ℕ) (ms : List Module) (i : ℕ) (es : List S.Entry) (m n : Module)
    → IsModule false ms i m → ArePlainEntries es
    → statements f k ms es m ≡ Ok n → IsModule false ms i n
statements_in f k ms i [] m n h plain is = let s : m ≡ n = cc in subst (IsModule false ms i) s h
statements_in f k ms i (e ∷ es) m n h plain is =
    let c = both (statement f k ms e m) (in_turn (statement f k ms) es) n is in
    statements_in f k ms i es c.0 n (statement_in f k ms i e m c.0 h plain.0 c.1) plain.1 c.2
