use Rattle.std.proofs.Common.{sym, ◌∙◌}
use Rattle.rpl_encode.proofs.FirstTrees.{hits_none}
use Rattle.rpl_encode.proofs.answer.put_captured_hits.Goals as goal

pub returns-clause-text : goal.returns-clause-text
returns-clause-text c = λ f b.
    hits_none c.args.out.now c.put_captured_texts.new.out c.put_captured_root.new.out _ _
    (sym c.if-branch.false ∙ c.in_ok-put_captured_texts.ensures.found f b)
    (c.in_ok-put_captured_texts.ensures.text f b) (c.in_ok-put_captured_root.ensures f b)
