use Rattle.std.proofs.Common.{[], ◌∷◌, ◌++◌, sym, ap, ◌∙◌, append-nil}
use Rattle.std.specs.Prelude.{take}
use Rattle.std.proofs.lemmas.Result.{on_ok_weaker}
use Rattle.rpl_tree.specs.Trees.{label_in}
use Rattle.rpl_encode.specs.Answer.{line_by_line}
use Rattle.rpl_encode.specs.Texts.{texts}
use Rattle.rpl_encode.proofs.FirstTrees.{root_text}
use Rattle.rpl_encode.proofs.captured.put_captured_root.Goals as goal

pub returns-in-Some : goal.returns-in-Some
returns-in-Some c = λ f b.
    let labels = c.args.fronts.now in
    let line = c.args.line.now in
    let out = c.args.out.now in
    let text = root_text labels line f c.in-Some.root _ (c.in-Some.ensures.some (label_in labels) f b) in
    on_ok_weaker c.put_line.result (λ e. e ∙ ap (λ x. out ++ (x ++ 10 ∷ [])) c.text_of.ensures
    ∙ ap (◌++◌ out) (sym text)) c.put_line.ensures

pub returns-in-None : goal.returns-in-None
returns-in-None c = λ f b.
    sym (append-nil c.args.out.now)
    ∙ ap (λ g. c.args.out.now ++ line_by_line (take 1 (texts c.args.line.now g)))
    (sym (c.in-None.ensures.none (label_in c.args.fronts.now) f b))
