use Rattle.std.proofs.lemmas.Result.{on_ok_weaker}
use Rattle.std.specs.Prelude.{codes}
use Rattle.rpl_encode.proofs.Texts.{note_whole}
use Rattle.rpl_encode.proofs.node_text.put_message.Goals as goal

pub returns : goal.returns
returns c = on_ok_weaker c.put_ending.result (λ e. note_whole c.args.is_first c.args.has_subs (codes "message")
    c.args.text.now c.args.place c.args.out.now c.put_new_front.new.out c.put_places.new.out c.put_escaped.new.out
    c.put_ending.new.out c.in_ok-put_new_front.ensures c.in_ok-put_places.ensures c.in_ok-put_escaped.ensures e)
    c.put_ending.ensures
