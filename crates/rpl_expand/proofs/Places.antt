-- What is seen of small cores, and of the forms that the building tells apart.
use Rattle.std.proofs.Common.{◌≡◌, ◌≢◌, ℕ, List, refl, ap, ◌∙◌}
use Rattle.std.specs.Prelude.{Bool, true, false, Option, Some, None}
use Rattle.regex_class.specs.Ranges.{Range}
use Rattle.rpl_core.specs.Core.{Core, Set, Start, End}
use Rattle.rpl_forms.specs.Counting.{seen}
use Rattle.rpl_forms.specs.Forms.{repeated, empty}
use Rattle.rpl_forms.specs.Inlining.{Inners}
use Rattle.rpl_macro.specs.Casings.{keeps_text}
use Rattle.rpl_macro.specs.declared.kind.Macro.{Macro}
use Rattle.rpl_macro.specs.declared.kind.Macro.TheVariants.{Find, FindAll, KeepTo, Ci, Uci, Message, Error}

pub seen_set : (b : Bool) (I : Inners) (r : List Range) → seen b I (Set r) ≡ Set r
seen_set true I r = refl
seen_set false I r = refl

pub seen_start : (b : Bool) (I : Inners) → seen b I Start ≡ Start
seen_start true I = refl
seen_start false I = refl

pub seen_end : (b : Bool) (I : Inners) → seen b I End ≡ End
seen_end true I = refl
seen_end false I = refl

-- a repetition with no turns
pub never : (b : Bool) (I : Inners) (cooked : Bool) (q p : Core) (l : ℕ) (m : Option ℕ) → l ≡ 0 → m ≡ Some 0
    → seen b I (repeated cooked q p l m) ≡ empty
never b I cooked q p l m e f =
    ap (λ x. seen b I (repeated cooked q p x m)) e ∙ ap (λ x. seen b I (repeated cooked q p 0 x)) f
    ∙ none b I cooked q p where
      none : (b : Bool) (I : Inners) (cooked : Bool) (q p : Core) → seen b I (repeated cooked q p 0 (Some 0)) ≡ empty
      none true I true q p = refl
      none true I false q p = refl
      none false I true q p = refl
      none false I false q p = refl

-- a macro that takes no text
pub searches : (k : Option Macro) → k ≢ Some Message → k ≢ Some Error → keeps_text k ≡ false
searches None h g = refl
searches (Some Find) h g = refl
searches (Some FindAll) h g = refl
searches (Some KeepTo) h g = refl
searches (Some Ci) h g = refl
searches (Some Uci) h g = refl
searches (Some Message) h g = absurd (h refl)
searches (Some Error) h g = absurd (g refl)
