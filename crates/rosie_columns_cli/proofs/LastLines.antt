-- The last lines, from the marks of a job.
use Rattle.std.proofs.Common.{◌≡◌, ℕ, Bool, true, false, cond, not, List, [], refl, sym, ◌∙◌, ap, length, replicate}
use Rattle.std.proofs.lemmas.Bool.{false≢true}
use Rattle.rosie_run.specs.Report.{Piece, has, is_hit, is_stop, up_to_stop}
use Rattle.rosie_run.specs.Tallies.{tally_of}
use Rattle.rosie_run.specs.declared.tally.Tally.{Tally}
use Rattle.rosie_run.proofs.Pieces.{has_up, up_all}
use Rattle.rpl_columns.specs.declared.row.Sheet.{Sheet}
use Rattle.rosie_columns_cli.specs.Absent.{absent_text, never_found}
use Rattle.rosie_columns_cli.specs.inside.Marks.{said_after, unfound}
use Rattle.rosie_columns_cli.proofs.Marks.{marked_end, marked_first}

-- what is said of the marks is what was to be said of the lines
pub said_is : (text : List ℕ) (sheet sheet0 : Sheet) (marks marks0 : List Bool) (lines : List (List ℕ))
    (columns0 : Sheet)
    → text ≡ absent_text (unfound sheet.columns marks) → said_after sheet marks [] ≡ said_after sheet0 marks0 lines
    → sheet0 ≡ columns0 → marks0 ≡ replicate (length columns0.columns) false
    → text ≡ absent_text (never_found columns0.columns lines)
said_is text sheet sheet0 marks marks0 lines columns0 is says same none =
    is ∙ ap (λ ms. absent_text (unfound sheet.columns ms)) (sym (marked_end sheet.columns marks)) ∙ says
    ∙ ap (λ (s : Sheet). said_after s marks0 lines) same
    ∙ ap (λ ms. said_after columns0 ms lines) none
    ∙ ap absent_text (marked_first columns0.columns lines)

-- whether there was a tree
hit_is : (t : Tally) (ps : List Piece) → t ≡ tally_of (up_to_stop ps) → t.stop ≡ false → t.hit ≡ has is_hit ps
hit_is t ps e goes =
    let clear : has is_stop ps ≡ false = sym (ap (λ (x : Tally). x.stop) e ∙ has_up ps) ∙ goes in
    ap (λ (x : Tally). x.hit) (e ∙ ap tally_of (up_all ps clear))

not_true : (b : Bool) → not b ≡ true → b ≡ false
not_true true h = absurd (false≢true h)
not_true false h = refl

not_false : (b : Bool) → not b ≡ false → b ≡ true
not_false true h = refl
not_false false h = absurd (false≢true (sym h))

pub last_none : (t : Tally) (ps : List Piece) (text said : List ℕ) → t ≡ tally_of (up_to_stop ps) → not t.hit ≡ true
    → text ≡ [] → t.stop ≡ false → text ≡ cond (has is_hit ps) said []
last_none t ps text said e miss none goes =
    none ∙ ap (λ b. cond b said []) (sym (not_true t.hit miss) ∙ hit_is t ps e goes)

pub last_some : (t : Tally) (ps : List Piece) (text said : List ℕ) → t ≡ tally_of (up_to_stop ps) → not t.hit ≡ false
    → text ≡ said → t.stop ≡ false → text ≡ cond (has is_hit ps) said []
last_some t ps text said e hit is goes =
    is ∙ ap (λ b. cond b said []) (sym (not_false t.hit hit) ∙ hit_is t ps e goes)
