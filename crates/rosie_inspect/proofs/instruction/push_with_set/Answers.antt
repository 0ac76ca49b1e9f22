use Rattle.std.proofs.Common.{◌≡◌, ◌++◌, [], sym, ap, ◌∙◌, append_assoc, string_bytes}
use Rattle.std.specs.Prelude.{codes, slice_index_or, unwrap_or}
use Rattle.std.specs.Option.{option_copied}
use Rattle.std.proofs.lemmas.Option.{unwrap_or-slice_get}
use Rattle.rpl_core.specs.Program.{sets_of}
use Rattle.rpl_print.specs.Sets.{set_text}
use Rattle.rosie_inspect.proofs.Pieces.{two_pieces}
use Rattle.rosie_inspect.proofs.instruction.push_with_set.Goals as goal

-- where there is no such set, its place is that of the empty one
pub returns-in-None : goal.returns-in-None
returns-in-None c =
    let none : slice_index_or (sets_of c.args.program.now) c.args.number [] ≡ [] =
    sym (unwrap_or-slice_get (sets_of c.args.program.now) c.args.number [])
    ∙ ap (λ o. unwrap_or o []) (sym c.set.ensures ∙ ap option_copied c.in-None.is) in
    rw none (two_pieces c.push_str-in-None.result _ _ (string_bytes c.args.out.now) c.args.word.now (codes "none")
    c.in_ok-push_str.ensures.bytes c.push_str-in-None.ensures.bytes)

pub returns-in_ok-push-in-Some : goal.returns-in_ok-push-in-Some
returns-in_ok-push-in-Some c =
    let sets = sets_of c.args.program.now in
    let found = ap (λ o. unwrap_or o []) (sym (ap option_copied c.in-Some.is) ∙ c.set.ensures)
    ∙ unwrap_or-slice_get sets c.args.number [] in
    c.in_ok-push-in-Some.ensures ∙ ap (λ x. x ++ set_text c.in-Some.set.now) c.in_ok-push_str.ensures.bytes
    ∙ append_assoc (string_bytes c.args.out.now) c.args.word.now (set_text c.in-Some.set.now)
    ∙ ap (λ x. string_bytes c.args.out.now ++ (c.args.word.now ++ set_text x)) found
