use Rattle.std.proofs.Common.{sym, ap, ◌∙◌}
use Rattle.std.proofs.lemmas.Iterator.{YieldsList-from_chars}
use Rattle.std.proofs.lemmas.Iterator.Consumers.{YieldsList-end}
use Rattle.std.proofs.lemmas.List.{map-id}
use Rattle.rpl_core.specs.Core as C
use Rattle.rpl_core.specs.View.{cores, listed}
use Rattle.rpl_macro.specs.Casings.{set_in, single}
use Rattle.rpl_forms.specs.Forms as F
use Rattle.rpl_forms.proofs.Joins.{sets_more}
use Rattle.rpl_forms.proofs.make.characters.Goals as goal

pub loop-c-preserved : goal.loop-c-preserved
loop-c-preserved c =
    c.in_ok-append.ensures
    ∙ ap (λ q. F.joined (cores (listed c.loop-c.parts)) (C.Then q C.NoMore)) c.in_ok-character.ensures
    ∙ ap (λ ps. F.joined ps (C.Then (C.Set (set_in c.args.casing (single c.in-Some.c))) C.NoMore)) c.loop-c.invariant
    ∙ sym (sets_more c.args.casing c.loop-c.yielded c.in-Some.c)

pub returns : goal.returns
returns c =
    let t = YieldsList-end (YieldsList-from_chars c.args.text.now c.utf8.text cc) c.loop-c.yielded _ c.loop-c.yielded_by
    _ _ c.in-None.is c.next.ensures.steps in
    c.loop-c.invariant ∙ ap (F.sets c.args.casing) (sym (map-id c.loop-c.yielded) ∙ t.0)
