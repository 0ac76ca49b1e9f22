use Rattle.std.proofs.Common.{sym, ap, ◌∙◌}
use Rattle.std.specs.Prelude.{option_map}
use Rattle.rpl_core.specs.Numbers.{instr_of}
use Rattle.rpl_safe.specs.inside.Marks.{holds, is_finish}
use Rattle.rpl_safe.proofs.whole_tree.finishes_at.Goals as goal

pub returns-in-Some : goal.returns-in-Some
returns-in-Some c = λ sets texts. c.is_finish.ensures sets texts
    ∙ ap (holds is_finish) (sym (ap (option_map (instr_of sets texts)) c.in-Some.is) ∙ c.instr_at.ensures sets texts)

pub returns-in-None : goal.returns-in-None
returns-in-None c = λ sets texts. ap (holds is_finish) (sym (ap (option_map (instr_of sets texts)) c.in-None.is)
    ∙ c.instr_at.ensures sets texts)
