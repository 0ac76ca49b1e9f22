use Rattle.std.proofs.Common.{◌≡◌, ◌++◌, ◌∷◌, [], ℕ, List, ap, ap₂, ◌∙◌}
use Rattle.json.specs.Token.{Token, string}
use Rattle.json.specs.Print.{print}
use Rattle.serde_json.specs.Data as values
use Rattle.serde_json.proofs.Texts.{print-outline}
use Rattle.rpl_print.proofs.strings.quoted.Goals as goal

-- what was written is the one token's text
pub returns : goal.returns
returns c =
    let one : c.string.new.self.tokens ≡ string c.args.text.now ∷ [] = c.in_ok-string.ensures.ok
    ∙ ap (λ (ts : List Token). ts ++ string c.args.text.now ∷ []) c.new-writer.ensures.tokens in
    let before : c.string.new.self.before ≡ [] = c.in_ok-string.ensures.room.0 ∙ c.new-writer.ensures.before
    ∙ c.in_ok-with_capacity.ensures.items in
    ap (λ v. v.items) c.in-Ok.ensures.ok ∙ c.into_inner.ensures.items
    ∙ ap₂ (λ (b : List ℕ) (ts : List Token). b ++ print ts) before one ∙ print-outline (values.string c.args.text.now)
