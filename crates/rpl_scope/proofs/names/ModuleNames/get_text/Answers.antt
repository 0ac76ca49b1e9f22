use Rattle.std.proofs.Common.{sym, ap, ◌∙◌}
use Rattle.std.specs.Prelude.{chars}
use Rattle.rpl_scope.specs.Packages.{first_of}
use Rattle.rpl_scope.specs.inside.Held.{held}
use Rattle.rpl_scope.proofs.Growing.{first_more}
use Rattle.rpl_scope.proofs.SharedNames.{first_after}
use Rattle.rpl_scope.proofs.names.ModuleNames.get_text.Goals as goal

pub returns-in-Some : goal.returns-in-Some
returns-in-Some c =
    let n = chars c.args.name.now in
    let ts = c.self.inside.shared.items in
    sym (first_more n (held ts) c.self.inside.own c.in-Some.entry
    (ap (λ l. first_of n (held l)) (sym c.as_slice.ensures.value) ∙ sym c.in-Some.ensures))
    ∙ ap (first_of n) c.self.view_is

pub returns-in-None : goal.returns-in-None
returns-in-None c =
    let n = chars c.args.name.now in
    let ts = c.self.inside.shared.items in
    c.get_text.ensures
    ∙ sym (first_after n (held ts) c.self.inside.own (ap (λ l. first_of n (held l)) (sym c.as_slice.ensures.value)
    ∙ sym c.in-None.ensures))
    ∙ ap (first_of n) c.self.view_is
