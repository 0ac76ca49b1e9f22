-- Names after a prefix that is empty, or isn't.
use Rattle.std.proofs.Common.{arith, ◌≡◌, ◌≢◌, ℕ, List, [], ◌∷◌, length, Some, refl, sym, ap, ◌∙◌, true, false}
use Rattle.std.proofs.Common.{true≢false}
use Rattle.std.specs.Prelude.{chars, IsUtf8}
use Rattle.std.specs.Bool.{◌==◌}
use Rattle.std.proofs.lemmas.Bool.Decides.{nat_tests}
use Rattle.std.proofs.lemmas.List.{nil_from_length}
use Rattle.std.proofs.lemmas.Str.{chars-nil}
use Rattle.rpl_syntax.specs.declared.name.QName.{QName}
use Rattle.rpl_scope.specs.Packages.{Module, bound, bound_by, prefixed, first_of}
use Rattle.rpl_scope.specs.declared.module.Referent.TheVariants.{BuiltIn}
use Rattle.rpl_scope.specs.declared.scope.Found.TheVariants.{To}
use Rattle.rpl_scope.proofs.Characters.{no_chars}

-- a prefix without bytes is the empty prefix
pub empty : (a p : List ℕ) → chars a ≡ p → (length a == 0) ≡ true → p ≡ []
empty a p e t =
    let none : length a ≡ 0 = grind (arith, nat_tests) in
    sym e ∙ ap chars (nil_from_length a none) ∙ chars-nil

-- a prefix with a byte is not the empty prefix
pub full : (a p : List ℕ) → IsUtf8 a → chars a ≡ p → (length a == 0) ≡ false → p ≢ []
full a p u e t h = true≢false (sym (ap (λ b. length b == 0) (no_chars a u (e ∙ h))) ∙ t)

pub bound_empty : (ms : List Module) (m : Module) (start : ℕ) (q : QName) (p : List ℕ) → q.prefix ≡ Some p → p ≡ []
    → To BuiltIn ≡ bound ms m start q
bound_empty ms m start q p e h = sym (ap (bound_by ms m start q.name) (e ∙ ap Some h))

by_prefix : (ms : List Module) (m : Module) (start : ℕ) (n p : List ℕ) → p ≢ []
    → bound_by ms m start n (Some p) ≡ prefixed ms start n (first_of p m.prefixes)
by_prefix ms m start n [] h = absurd (h refl)
by_prefix ms m start n (c ∷ p) h = refl

-- a name with a prefix that is not empty is bound to what the module under that prefix has under the name
pub bound_full : (ms : List Module) (m : Module) (start : ℕ) (q : QName) (p : List ℕ) → q.prefix ≡ Some p → p ≢ []
    → prefixed ms start q.name (first_of p m.prefixes) ≡ bound ms m start q
bound_full ms m start q p e h = sym (ap (bound_by ms m start q.name) e ∙ by_prefix ms m start q.name p h)
