use Rattle.std.proofs.Common.{[], ◌∷◌, ◌++◌, sym, ap, ◌∙◌}
use Rattle.std.proofs.lemmas.Result.{on_ok_weaker}
use Rattle.rpl_encode.proofs.Listing.{root_line}
use Rattle.rpl_encode.proofs.children.put_root_text.Goals as goal

pub returns-in-Some : goal.returns-in-Some
returns-in-Some c =
    let line = root_line c.args.fronts.now c.args.line.now c.args.forest.now c.in-Some.root (sym c.in-Some.ensures) in
    on_ok_weaker c.put_line.result (λ e. e ∙ ap (λ x. c.args.out.now ++ (x ++ 10 ∷ [])) c.text_of.ensures
    ∙ ap (◌++◌ c.args.out.now) (sym line)) c.put_line.ensures
