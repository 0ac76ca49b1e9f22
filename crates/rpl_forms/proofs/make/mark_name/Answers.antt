use Rattle.std.proofs.Common.{◌≡◌, refl, sym, ap, ◌∙◌, subst}
use Rattle.std.specs.Prelude.{codes, IfOk}
use Rattle.rpl_forms.specs.Forms as F
use Rattle.rpl_macro.proofs.Names.{chars_low, encode_low}
use Rattle.rpl_forms.proofs.make.mark_name.Goals as goal

pub returns-in-Hit : goal.returns-in-Hit
returns-in-Hit c =
    let word = codes "find.*" in
    let same = chars_low word (word, (refl, encode_low word refl)) refl ∙ sym (ap F.mark_name c.in-Hit.is) in
    subst (λ w. IfOk c.from_str.result (λ n. n ≡ w)) same c.from_str.ensures

pub returns-in-Skip : goal.returns-in-Skip
returns-in-Skip c =
    let word = codes "find.<search>" in
    let same = chars_low word (word, (refl, encode_low word refl)) refl ∙ sym (ap F.mark_name c.in-Skip.is) in
    subst (λ w. IfOk c.from_str-in-Skip.result (λ n. n ≡ w)) same c.from_str-in-Skip.ensures
