use Rattle.std.proofs.Common.{rules, arith, ◌≡◌, Some, None, false, sym, ap, ◌∙◌}
use Rattle.std.specs.Prelude.{codes}
use Rattle.std.proofs.lemmas.Bool.Decides.{nat_tests}
use Rattle.std.proofs.lemmas.Str.{chars-IsAscii}
use Rattle.rpl_names.specs.Sets.{set_seen}
use Rattle.rpl_names.specs.Targets as T
use Rattle.rpl_names.proofs.set.PackageSet.rule.Goals as goal

pub returns-then-rule-eq0 : goal.returns-then-rule-eq0
returns-then-rule-eq0 c =
    let p = set_seen c.args.self.now in
    let none : c.args.rule ≡ 0 = grind (arith, nat_tests) in
    ap Some c.built_in.ensures
    ∙ ap (λ n. Some (record { name = n; from = p.top; block = None; captures = false }))
    (chars-IsAscii (codes "~") (search rules))
    ∙ ap (T.head p) (sym none)
