use Rattle.std.proofs.Common.{◌≡◌, ℕ, List, [], Option, None, Some, refl, sym, ap, ◌∙◌}
use Rattle.std.specs.Prelude.{encode_utf8_all, chars, option_map, unwrap_or}
use Rattle.std.specs.Option.{option_copied}
use Rattle.std.proofs.lemmas.Str.{encodes-chars, chars-nil}
use Rattle.std.proofs.lemmas.Option.{unwrap_or-slice_get}
use Rattle.rpl_core.specs.Program.{labels_of}
use denote.Ref.{Bor}
use Rattle.rosie_inspect.proofs.instruction.label_of.Goals as goal

-- the characters of a text that may be missing
or_none : (o : Option (Bor (List ℕ))) (d : Bor (List ℕ)) → chars d.now ≡ []
    → chars (unwrap_or o d).now ≡ unwrap_or (option_map chars (option_copied o)) []
or_none None d empty = empty
or_none (Some x) d empty = refl

pub returns : goal.returns
returns c =
    let shown = ap (λ x. chars x.now) c.unwrap_or.ensures ∙ or_none c.label.result _ chars-nil in
    let found = ap (λ o. unwrap_or o []) c.label.ensures
    ∙ unwrap_or-slice_get (labels_of c.args.program.now) c.args.number [] in
    sym (encodes-chars c.unwrap_or.result.now c.unwrap_or.utf8) ∙ ap encode_utf8_all (shown ∙ found)
