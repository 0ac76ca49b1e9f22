use Rattle.std.proofs.Common.{◌∙◌, sym, ap, refl}
use Rattle.std.specs.Prelude.{if◌then◌else◌}
use Rattle.rpl_scope.specs.declared.module.Referent.TheVariants.{BuiltIn}
use Rattle.rpl_scope.specs.declared.scope.Found.TheVariants.{To, Unknown}
use Rattle.rpl_scope.proofs.Characters.{named_halt}
use Rattle.rpl_scope.proofs.scope.built_in.Goals as goal

pub returns-then-eq : goal.returns-then-eq
returns-then-eq c = ap (λ b. if b then To BuiltIn else Unknown) (sym c.if-eq.true ∙ c.eq.ensures
    ∙ named_halt c.args.name.now _ c.utf8.name refl)

pub returns : goal.returns
returns c = ap (λ b. if b then To BuiltIn else Unknown) (sym c.if-eq.false ∙ c.eq.ensures
    ∙ named_halt c.args.name.now _ c.utf8.name refl)
