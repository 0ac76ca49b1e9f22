-- What a name can stand for in sound modules.
use Rattle.std.proofs.Common.{arith, ◌≡◌, ◌≤◌, ◌<◌, ◌⊎◌, inl, inr, ℕ, List, [], ◌∷◌, length, Option}
use Rattle.std.proofs.Common.{Some, None, refl, ap}
use Rattle.std.specs.Prelude.{Bool, true, false, nat_lt, ◌&&◌, ◌||◌, if◌then◌else◌, codes, slice_get}
use Rattle.std.specs.Str.{bytes_eq}
use Rattle.std.proofs.lemmas.Bool.Decides.{Decides-ltb, not_from_Decides}
use Rattle.rpl_syntax.specs.declared.name.QName.{QName}
use Rattle.rpl_scope.specs.Packages.{Rule, Module, first_of, bound, bound_by, plain, halt_or, prefixed}
use Rattle.rpl_scope.specs.Packages.{shared_of, shared, offered}
use Rattle.rpl_scope.specs.declared.module.Entry.{Entry}
use Rattle.rpl_scope.specs.declared.module.Prefix.{Prefix}
use Rattle.rpl_scope.specs.declared.module.Referent.{Referent}
use Rattle.rpl_scope.specs.declared.module.Referent.TheVariants.{Own, Of, BuiltIn}
use Rattle.rpl_scope.specs.declared.scope.Found.{Found}
use Rattle.rpl_scope.specs.declared.scope.Found.TheVariants.{To, Unknown, Hidden}
use Rattle.rpl_names.proofs.Numbering.{nth_within}
use Rattle.rpl_names.specs.Targets.{size_of}
use Rattle.rpl_expand.proofs.Modules.{size, Means, AreSound}

-- What the name n can stand for in the module i, in a statement with this start: a rule of its own of that name,
-- which
-- counts there; a rule of another module, which is an earlier one unless all statements of this one stand before; or
-- the built-in one.
abbrev pub Refers : List Module → (i : ℕ) → Module → (start : ℕ) → (n : List ℕ) → Referent → Type 0
Refers ms i m start n (Own k) = (a : Rule) × (slice_get m.rules k ≡ Some a) × (a.since ≤ start) × (a.name ≡ n)
Refers ms i m start n (Of j k) = (k < size ms j) × ((j < i) ⊎ (length m.rules ≤ start))
Refers ms i m start n BuiltIn = Unit {0}

abbrev pub Sees : List Module → (i : ℕ) → Module → (start : ℕ) → (n : List ℕ) → Found → Type 0
Sees ms i m start n (To x) = Refers ms i m start n x
Sees ms i m start n Unknown = Unit {0}
Sees ms i m start n Hidden = Unit {0}

module _ (ms : List Module) (sound : AreSound ms) (i : ℕ) (m : Module) (at : slice_get ms i ≡ Some m) (start : ℕ)
    (n : List ℕ) where
  halt_sees : (b : Bool) → Sees ms i m start n (if b then To BuiltIn else Unknown)
  halt_sees true = tt
  halt_sees false = tt

  refers : (since : ℕ) (x : Referent) → Means ms i m.rules n since x → since ≤ start → Refers ms i m start n x
  refers since (Own k) h le = let e = h.2 in (h.0, h.1, omega (arith, e, le), h.3)
  refers since (Of j k) h le = (h.1, inl h.0)
  refers since BuiltIn h le = tt

  meant_sees : (b c : Bool) (e : Entry) → (b ≡ false → Refers ms i m start n e.referent)
      → Sees ms i m start n (halt_or n (if b then Unknown else if c then Hidden else To e.referent))
  meant_sees true c e f = halt_sees (bytes_eq n (codes "halt"))
  meant_sees false true e f = tt
  meant_sees false false e f = f refl

  counts : (a b : ℕ) → nat_lt a b ≡ false → b ≤ a
  counts a b h = let f = not_from_Decides (nat_lt a b) (Decides-ltb a b) h in omega (arith, f)

  plain_sees : (o : Option Entry) → first_of n m.names ≡ o → Sees ms i m start n (plain n start o)
  plain_sees None h = halt_sees (bytes_eq n (codes "halt"))
  plain_sees (Some e) h =
      meant_sees (nat_lt start e.since) (e.hidden && nat_lt e.since start) e
      (λ f. refers e.since e.referent ((sound.each i m at).formed.names n e h) (counts start e.since f))

  hidden_or : (b : Bool) (j k : ℕ) → Refers ms i m start n (Of j k)
      → Sees ms i m start n (if b then Hidden else To (Of j k))
  hidden_or true j k h = tt
  hidden_or false j k h = h

  offered_sees : (j : ℕ) (c : Module) (e : Entry) (x : Referent) → slice_get ms j ≡ Some c → (j < i)
      ⊎ (length m.rules ≤ start) → Means ms j c.rules n e.since x
      → Sees ms i m start n (offered j e x)
  offered_sees j c e (Own k) h near means =
      let w = nth_within c.rules k means.0 means.1 in
      let s : size ms j ≡ length c.rules = ap size_of h in
      hidden_or (e.local || e.hidden) j k (omega (arith, w, s), near)
  offered_sees j c e (Of l k) h near means = tt
  offered_sees j c e BuiltIn h near means = tt

  entry_sees : (j : ℕ) (c : Module) (o : Option Entry) → slice_get ms j ≡ Some c → (j < i) ⊎ (length m.rules ≤ start)
      → first_of n c.names ≡ o → Sees ms i m start n (shared j o)
  entry_sees j c None h near f = tt
  entry_sees j c (Some e) h near f = offered_sees j c e e.referent h near ((sound.each j c h).formed.names n e f)

  shared_sees : (j : ℕ) (o : Option Module) → slice_get ms j ≡ o → (j < i) ⊎ (length m.rules ≤ start)
      → Sees ms i m start n (shared_of j n o)
  shared_sees j None h near = tt
  shared_sees j (Some c) h near = entry_sees j c (first_of n c.names) h near refl

  from_prefix : (p : Prefix) → p.since ≤ start → (p.number < i) ⊎ ((true ≡ true) × (length m.rules ≤ p.since))
      → (p.number < i) ⊎ (length m.rules ≤ start)
  from_prefix p le (inl h) = inl h
  from_prefix p le (inr h) = let l = h.1 in inr (omega (arith, l, le))

  counted_sees : (b : Bool) (c : List ℕ) (p : Prefix) → nat_lt start p.since ≡ b → first_of c m.prefixes ≡ Some p
      → Sees ms i m start n (if b then Unknown else shared_of p.number n (slice_get ms p.number))
  counted_sees true c p h f = tt
  counted_sees false c p h f =
      shared_sees p.number (slice_get ms p.number) refl
      (from_prefix p (counts start p.since h) ((sound.each i m at).formed.prefixes c p f))

  prefixed_sees : (c : List ℕ) (o : Option Prefix) → first_of c m.prefixes ≡ o
      → Sees ms i m start n (prefixed ms start n o)
  prefixed_sees c None f = tt
  prefixed_sees c (Some p) f = counted_sees (nat_lt start p.since) c p refl f

  bound_sees : (o : Option (List ℕ)) → Sees ms i m start n (bound_by ms m start n o)
  bound_sees None = plain_sees (first_of n m.names) refl
  bound_sees (Some []) = tt
  bound_sees (Some (c ∷ p)) = prefixed_sees (c ∷ p) (first_of (c ∷ p) m.prefixes) refl

pub sees : (ms : List Module) → AreSound ms → (i : ℕ) (m : Module) → slice_get ms i ≡ Some m → (start : ℕ) (q : QName)
    → Sees ms i m start q.name (bound ms m start q)
sees ms sound i m at start q = bound_sees ms sound i m at start q.name q.prefix
