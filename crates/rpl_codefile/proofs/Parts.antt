-- The parts of a file.
use Rattle.std.proofs.Common.{◌≡◌, ℕ, ◌≤◌, List, [], arith, length}
use Rattle.std.proofs.lemmas.List.{length-map}
use Rattle.std.specs.Prelude.{Bool, IsTrue, ◌↔◌, IfOk, Result, Ok, Err}
use Rattle.regex_class.specs.Ranges.{Range}
use Rattle.rpl_core.specs.Numbers.{instr_of}
use Rattle.rpl_core.specs.declared.instr.Instr as R
use Rattle.rpl_intern.specs.Uses.{labels_in, sets_in}
use Rattle.rpl_codefile.specs.Spelling.{file_of, says}
use Rattle.rpl_codefile.specs.inside.Tables.{Apart, AreParts, IsOrdered}
use Rattle.rpl_codefile.proofs.Making.{keeps_few, sets_few, texts_few}
use Rattle.rpl_codefile.proofs.Numbered.{sets_come, sets_kept, texts_come, texts_kept}
use Rattle.rpl_codefile.proofs.Once.{keeps_apart, none_apart}

module _ (code : List R.Instr) (sets : List (List Range)) (texts : List (List ℕ)) where
  pub parts_by : IsOrdered code sets texts → Apart sets × Apart texts → AreParts code sets texts
  parts_by h apart = record {
    some = h.some;
    limit = h.limit;
    in_range = h.in_range;
    once_sets = sets_kept sets texts code h.in_range apart.0 h.sets_come;
    once_texts = texts_kept sets texts code h.in_range apart.1 h.texts_come;
  }

  pub ordered_by : AreParts code sets texts → IsOrdered code sets texts
  ordered_by h = record {
    some = h.some;
    limit = h.limit;
    in_range = h.in_range;
    sets_come = sets_come sets texts code h.in_range h.once_sets;
    texts_come = texts_come sets texts code h.in_range h.once_texts;
  }

  pub apart_by : AreParts code sets texts → Apart sets × Apart texts
  apart_by h = (
    keeps_apart [] (sets_in (says (file_of code sets texts))) sets none_apart h.once_sets,
    keeps_apart [] (labels_in (says (file_of code sets texts))) texts none_apart h.once_texts,
  )

  pub all_parts : {E : Type 0} (r : Result Bool E) → IsOrdered code sets texts
      → IfOk r (λ b. IsTrue b ↔ Apart sets × Apart texts) → IfOk r (λ b. IsTrue b ↔ AreParts code sets texts)
  all_parts (Ok b) h k = (λ e. parts_by h (k.0 e), λ p. k.1 (apart_by p))
  all_parts (Err e) h k = tt

  -- there are no more sets and texts than instructions
  pub parts_few : AreParts code sets texts → (length sets ≤ 1048576) × (length texts ≤ 1048576)
  parts_few h =
      let is = says (file_of code sets texts) in
      let long : length is ≡ length code = length-map code (instr_of sets texts) in (
        omega (arith, keeps_few [] (sets_in is) sets h.once_sets, sets_few is, long, h.limit),
        omega (arith, keeps_few [] (labels_in is) texts h.once_texts, texts_few is, long, h.limit),
      )
