use Rattle.rpl_text.proofs.Walks.{place_cut, cut_place}
use Rattle.rpl_text.proofs.line.is_place_in.Goals as goal

pub returns : goal.returns
returns c = (
  λ h. cut_place _ _ c.utf8.line (c.is_char_boundary.ensures.test.0 h),
  λ h. c.is_char_boundary.ensures.test.1 (place_cut _ _ c.utf8.line h),
)
