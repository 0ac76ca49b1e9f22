use Rattle.std.proofs.Common.{◌≡◌, ◌∷◌, [], refl, sym, ap, cond, ◌∙◌}
use Rattle.std.specs.Prelude.{chars, codes}
use Rattle.std.proofs.lemmas.Str.{chars-encodes}
use Rattle.rpl_core.specs.Core.{Call, Capture}
use Rattle.rpl_core.specs.View.{core_of}
use Rattle.rosie_suites.proofs.goal.goal_of.Goals as goal

-- the name of the root is one character
star : chars (codes "*") ≡ codes "*"
unfolding lib.Utf8.encode
star = chars-encodes (42 ∷ []) refl

pub returns : goal.returns
returns c =
    ap (λ x. Capture x (core_of c.in_ok-new.field-0.value)) (c.in_ok-root.ensures ∙ star)
    ∙ ap (λ p. Capture (codes "*") (core_of p)) c.in_ok-new.ensures.ok
    ∙ sym (ap (λ b. cond b (Call c.args.target.rule) (Capture (codes "*") (Call c.args.target.rule))) c.if-target.false)
