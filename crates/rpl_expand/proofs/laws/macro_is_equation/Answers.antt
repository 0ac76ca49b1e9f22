use Rattle.std.proofs.Common.{ap, ◌∙◌}
use Rattle.rpl_forms.specs.Forms.{casing_under, macro_core}
use Rattle.rpl_macro.specs.Macros.{text_of}
use Rattle.rpl_expand.specs.Expansion.{core}
use Rattle.rpl_expand.proofs.Folding.{folds_once}
use Rattle.rpl_expand.proofs.MacroLaw.{macro_law}
use Rattle.rpl_expand.proofs.laws.macro_is_equation.Goals as goal

pub returns : goal.returns
returns c = record {
  folding = folds_once;
  equation = λ k s q p m e h. ap (λ o. macro_core o (text_of p) (core (casing_under o k) s p)) e
      ∙ macro_law folds_once k s p m h;
}
