-- The import that a name asks for.
use Rattle.std.proofs.Common.{◌≡◌, ◌≢◌, ℕ, List, [], ◌∷◌, Option, Some, None, refl, sym, ap, ◌∙◌, true, false}
use Rattle.std.specs.Prelude.{is_some}
use Rattle.rpl_syntax.specs.declared.module.ImportAs.TheVariants.{Last}
use Rattle.rpl_syntax.specs.declared.name.QName.{QName}
use Rattle.rpl_scope.specs.Packages.{Module, first_of}
use Rattle.rpl_scope.specs.declared.module.Prefix.{Prefix}
use Rattle.rpl_names.specs.Patterns.{needed_import, needed_by, needed_unless}

pub needed_empty : (m : Module) (q : QName) (p : List ℕ) → q.prefix ≡ Some p → p ≡ [] → None ≡ needed_import m q
needed_empty m q p e h = sym (ap (needed_by m q.at) (e ∙ ap Some h))

by_prefix : (m : Module) (at : ℕ) (p : List ℕ) → p ≢ []
    → needed_by m at (Some p) ≡ needed_unless (first_of p m.prefixes) p at
by_prefix m at [] h = absurd (h refl)
by_prefix m at (c ∷ p) h = refl

if_there : (o : Option Prefix) (p : List ℕ) (at : ℕ) → is_some o ≡ true → needed_unless o p at ≡ None
if_there None p at h = absurd (cc)
if_there (Some x) p at h = refl

if_new : (o : Option Prefix) (p : List ℕ) (at : ℕ) → is_some o ≡ false
    → needed_unless o p at ≡ Some (record { path = p; at = at; name = Last })
if_new None p at h = refl
if_new (Some x) p at h = absurd (cc)

pub needed_there : (m : Module) (q : QName) (p : List ℕ) → q.prefix ≡ Some p → p ≢ []
    → is_some (first_of p m.prefixes) ≡ true → None ≡ needed_import m q
needed_there m q p e h t = sym (ap (needed_by m q.at) e ∙ by_prefix m q.at p h
    ∙ if_there (first_of p m.prefixes) p q.at t)

pub needed_new : (m : Module) (q : QName) (p : List ℕ) → q.prefix ≡ Some p → p ≢ []
    → is_some (first_of p m.prefixes) ≡ false → Some (record { path = p; at = q.at; name = Last }) ≡ needed_import m q
needed_new m q p e h t = sym (ap (needed_by m q.at) e ∙ by_prefix m q.at p h ∙ if_new (first_of p m.prefixes) p q.at t)
