use Rattle.std.proofs.Common.{◌++◌, ◌∷◌, [], ℕ, List, Option, None, refl, sym, ap, ap₂, ◌∙◌}
use Rattle.std.specs.Prelude.{chars, cond}
use Rattle.std.proofs.lemmas.List.{append-nil}
use Rattle.rpl_scope.proofs.Characters.{named_mark}
use Rattle.rpl_scope.specs.Seen.{modules_seen}
use Rattle.rpl_names.specs.Names.{listed_by}
use Rattle.rpl_names.specs.Sets.{set_seen}
use Rattle.rpl_names.specs.Targets.{target}
use Rattle.rpl_names.specs.declared.names.Listed.{Listed}
use Rattle.rpl_names.specs.inside.Listing.{named}
use Rattle.rpl_names.proofs.set.PackageSet.push_offered.Goals as goal

pub returns-then-eq : goal.returns-then-eq
returns-then-eq c =
    let p = set_seen c.args.self.now in
    let n = chars c.args.name.now in
    let mark = sym (named_mark c.args.name.now n c.utf8.name refl) ∙ sym c.eq.ensures ∙ c.if-eq.true in
    sym (ap (λ b. c.args.names.now.items
    ++ cond b [] (listed_by p (named None n) (target p.stock.modules p.top c.args.found))) mark
    ∙ append-nil c.args.names.now.items)

pub returns-in_ok-push-in-Ok : goal.returns-in_ok-push-in-Ok
returns-in_ok-push-in-Ok c =
    let p = set_seen c.args.self.now in
    let n = chars c.args.name.now in
    let q = named None n in
    let mark = sym (named_mark c.args.name.now n c.utf8.name refl) ∙ sym c.eq.ensures ∙ c.if-eq.false in
    let one : List ℕ → Option (List ℕ) → Listed = λ n l. record { name = n; label = l } in
    c.in_ok-push-in-Ok.ensures.items
    ∙ ap (λ x. c.args.names.now.items ++ x ∷ []) (ap₂ one c.in_ok-name-in-Ok.ensures c.in_ok-label-in-Ok.ensures)
    ∙ ap (λ r. c.args.names.now.items ++ listed_by p q r) (c.in-Ok.ensures
    ∙ ap (λ l. target (modules_seen l) p.top c.args.found) c.deref.ensures.value)
    ∙ sym (ap (λ b. c.args.names.now.items
    ++ cond b [] (listed_by p q (target p.stock.modules p.top c.args.found))) mark)
