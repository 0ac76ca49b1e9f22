use Rattle.std.proofs.Common.{◌≡◌, ◌<◌, ◌^◌, ap, subst, ◌∙◌, arith}
use Rattle.std.specs.Prelude.{IfOk, chars}
use Rattle.std.specs.Fmt.{decimal}
use Rattle.std.proofs.lemmas.Fmt.{IsAscii-decimal}
use Rattle.rpl_scope.proofs.Characters.{counted_name}
use Rattle.rpl_package.proofs.rooted.given_name.Goals as goal

pub returns : goal.returns
returns c =
    let small : c.args.given < 2 ^ 64 = omega (arith, c.ranges.given.fits) in
    subst (λ x. IfOk c.from_str.result (λ name. name ≡ x))
    (ap chars (c.deref.ensures ∙ c.in_ok-text.ensures.ok)
    ∙ counted_name (decimal c.args.given) (IsAscii-decimal c.args.given small)) c.from_str.ensures
