use Rattle.std.proofs.Common.{◌≡◌, ℕ, List, [], Option, None, Some, refl, sym, ap, ◌∙◌}
use Rattle.std.specs.Prelude.{encode_utf8_all, chars, option_map, unwrap_or, slice_get}
use Rattle.std.specs.Option.{option_copied}
use Rattle.std.proofs.lemmas.Str.{encodes-chars, chars-nil}
use Rattle.std.proofs.lemmas.Option.{unwrap_or-slice_get}
use denote.Ref.{Bor}
use Rattle.rpl_encode.proofs.node_text.label_of.Goals as goal

chars_or : (o : Option (Bor (List ℕ))) (d : Bor (List ℕ))
    → chars (unwrap_or o d).now ≡ unwrap_or (option_map chars (option_copied o)) (chars d.now)
chars_or None d = refl
chars_or (Some x) d = refl

-- the characters of the answer are those of the label
pub returns : goal.returns
returns c =
    let of_label = ap (λ x. chars x.now) c.unwrap_or.ensures ∙ chars_or c.label.result _
    ∙ ap (λ o. unwrap_or o (chars [])) c.label.ensures
    ∙ ap (unwrap_or (slice_get c.args.fronts.now c.args.number)) chars-nil
    ∙ unwrap_or-slice_get c.args.fronts.now c.args.number [] in
    sym (encodes-chars c.unwrap_or.result.now c.unwrap_or.utf8) ∙ ap encode_utf8_all of_label
