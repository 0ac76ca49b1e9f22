-- The rule that a name is bound to, by its number.
use Rattle.std.proofs.Common.{arith, ◌≡◌, ◌≤◌, ◌<◌, ◌⊎◌, inl, inr, ℕ, ◌+◌, List, length, Option}
use Rattle.std.proofs.Common.{Some, None, refl, ap, ◌∙◌}
use Rattle.std.specs.Prelude.{false, Result, Ok, not, slice_get}
use Rattle.rpl_text.specs.Options.{◌>>=◌}
use Rattle.rpl_scope.specs.Packages.{Rule, Module, first_rule}
use Rattle.rpl_scope.specs.declared.module.Referent.{Referent}
use Rattle.rpl_scope.specs.declared.module.Referent.TheVariants.{Own, Of, BuiltIn}
use Rattle.rpl_scope.specs.declared.scope.Found.{Found}
use Rattle.rpl_scope.specs.declared.scope.Found.TheVariants.{To, Unknown, Hidden}
use Rattle.rpl_names.proofs.Numbering.{nth_within, room_at}
use Rattle.rpl_names.specs.Tables.{boundary_name, rows}
use Rattle.rpl_names.specs.Targets.{size_of, rule_in, target_by, target_in, target_of, target}
use Rattle.rpl_names.specs.declared.targets.NameFault.{NameFault}
use Rattle.rpl_names.specs.declared.targets.Target.{Target}
use Rattle.rpl_expand.proofs.Laying.{AreLaid, InOneBlock, counts, marks}
use Rattle.rpl_expand.proofs.Lists.{nth_found}
use Rattle.rpl_expand.proofs.Modules.{size}
use Rattle.rpl_expand.proofs.Rows.{first_least, first_later}
use Rattle.rpl_expand.proofs.Seeing.{Refers, Sees}
use Rattle.rpl_expand.specs.Sets.{rule_of}

-- ---- a rule that there is

-- the k-th rule of the module j, as a target
pub record Targets (ms : List Module) (j k : ℕ) : Type 0 where
  pub owner : Module
  pub rule : Rule
  pub at : slice_get ms j ≡ Some owner
  pub has : slice_get owner.rules k ≡ Some rule
  pub is : target_in ms j k ≡ Ok (record { rule = first_rule ms j + k; captures = not rule.alias })

pub targets : (ms : List Module) (j k : ℕ) (m : Module) (r : Rule) → slice_get ms j ≡ Some m
    → slice_get m.rules k ≡ Some r
    → Targets ms j k
targets ms j k m r at has =
    let found : rule_in ms j k ≡ Some r = ap (λ o. o >>= (λ x. slice_get x.rules k)) at ∙ has in
    record { owner = m; rule = r; at = at; has = has; is = ap (target_by (first_rule ms j + k)) found }

within_by : (ms : List Module) (j k : ℕ) (o : Option Module) → slice_get ms j ≡ o → k < size_of o → Targets ms j k
within_by ms j k None at lt = absurd (omega (arith, lt))
within_by ms j k (Some m) at lt = let f = nth_found m.rules k lt in targets ms j k m f.0 at f.1

pub within : (ms : List Module) (j k : ℕ) → k < size ms j → Targets ms j k
within ms j k lt = within_by ms j k (slice_get ms j) refl lt

pub aimed : (ms : List Module) (j k : ℕ) → Targets ms j k → rule_of (target_in ms j k) ≡ first_rule ms j + k
aimed ms j k t = ap rule_of t.is

-- ---- in a statement

-- an earlier rule, or one of its block
abbrev pub Aims : List Module → (i : ℕ) → Module → (t : ℕ) → Rule → Result Target NameFault → Type 0
Aims ms i m t r x =
    (rule_of x < first_rule ms i + t)
    ⊎ ((k : ℕ) × (a : Rule) × (slice_get m.rules k ≡ Some a) × (t ≤ k) × InOneBlock a r
    × (rule_of x ≡ first_rule ms i + k))

module _ (ms : List Module) (i : ℕ) (m : Module) (t : ℕ) (r : Rule) (at : slice_get ms i ≡ Some m) (laid :
    AreLaid m.rules)
    (has : slice_get m.rules t ≡ Some r) where
  own_aims : (k : ℕ) (a : Rule) → slice_get m.rules k ≡ Some a → (k < t) ⊎ ((t ≤ k) × InOneBlock a r)
      → Aims ms i m t r (target_in ms i k)
  own_aims k a h (inl lt) = let e = aimed ms i k (targets ms i k m a at h) in inl (omega (arith, e, lt))
  own_aims k a h (inr g) = inr (k, a, h, g.0, g.1, aimed ms i k (targets ms i k m a at h))

  earlier : (j k : ℕ) → k < size ms j → (j < i) ⊎ (length m.rules ≤ r.start)
      → rule_of (target_in ms j k) < first_rule ms i + t
  earlier j k lt (inl before) =
      let w = within ms j k lt in
      let e = aimed ms j k w in
      let f = first_later ms j i w.owner w.at before in
      let p = nth_within w.owner.rules k w.rule w.has in
      omega (arith, e, f, p)
  earlier j k lt (inr le) =
      let b = (laid.each t r has).behind in
      let w = nth_within m.rules t r has in
      absurd (omega (arith, b, w, le))

  built_in : 1 < first_rule ms i + t
  built_in = let f = first_least ms i in omega (arith, f)

  nothing : 0 < first_rule ms i + t
  nothing = let f = first_least ms i in omega (arith, f)

  refers_aims : (n : List ℕ) (x : Referent) → Refers ms i m r.start n x → Aims ms i m t r (target_of ms i x)
  refers_aims n (Own k) h = own_aims k h.0 h.1 (counts m.rules k t h.0 r laid h.1 has h.2)
  refers_aims n (Of j k) h = inl (earlier j k h.0 h.1)
  refers_aims n BuiltIn h = inl built_in

  pub aims : (n : List ℕ) (o : Found) → Sees ms i m r.start n o → Aims ms i m t r (target ms i o)
  aims n (To x) h = refers_aims n x h
  aims n Unknown h = inl nothing
  aims n Hidden h = inl nothing

  -- the boundary in force is an earlier rule
  mark_refers : (x : Referent) → Refers ms i m r.start boundary_name x
      → rule_of (target_of ms i x) < first_rule ms i + t
  mark_refers (Own k) h =
      let lt = marks m.rules k t h.0 r laid h.1 has h.2 h.3 in
      let e = aimed ms i k (targets ms i k m h.0 at h.1) in
      omega (arith, e, lt)
  mark_refers (Of j k) h = earlier j k h.0 h.1
  mark_refers BuiltIn h = built_in

  pub mark_aims : (o : Found) → Sees ms i m r.start boundary_name o → rule_of (target ms i o) < first_rule ms i + t
  mark_aims (To x) h = mark_refers x h
  mark_aims Unknown h = nothing
  mark_aims Hidden h = nothing

-- ---- anywhere

-- what a name stands for is a rule of the table, if anything
module _ (ms : List Module) (i : ℕ) (m : Module) (at : slice_get ms i ≡ Some m) (start : ℕ) (n : List ℕ) where
  rule_there : (j k : ℕ) → Targets ms j k → rule_of (target_in ms j k) < 2 + length (rows ms)
  rule_there j k t =
      let e = aimed ms j k t in
      let f = room_at 0 0 ms j k t.owner t.rule t.at t.has in
      omega (arith, e, f)

  referred : (x : Referent) → Refers ms i m start n x → rule_of (target_of ms i x) < 2 + length (rows ms)
  referred (Own k) h = rule_there i k (targets ms i k m h.0 at h.1)
  referred (Of j k) h = rule_there j k (within ms j k h.0)
  referred BuiltIn h = omega arith

  pub there : (o : Found) → Sees ms i m start n o → rule_of (target ms i o) < 2 + length (rows ms)
  there (To x) h = referred x h
  there Unknown h = omega arith
  there Hidden h = omega arith

  -- and a name that stands for something has a target
  pub refers_to : (x : Referent) → Refers ms i m start n x → (u : Target) × (target_of ms i x ≡ Ok u)
  refers_to (Own k) h =
      let t = targets ms i k m h.0 at h.1 in
      (record { rule = first_rule ms i + k; captures = not t.rule.alias }, t.is)
  refers_to (Of j k) h =
      let t = within ms j k h.0 in
      (record { rule = first_rule ms j + k; captures = not t.rule.alias }, t.is)
  refers_to BuiltIn h = (record { rule = 1; captures = false }, refl)
