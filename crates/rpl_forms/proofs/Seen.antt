-- What is seen of a form, from what is seen of its parts.
use Rattle.std.proofs.Common.{◌≡◌, ℕ, zero, suc, ◌-◌, List, [], ◌∷◌, refl, ap, ◌∙◌}
use Rattle.std.specs.Prelude.{Bool, true, false, Option, Some, None}
use Rattle.rpl_core.specs.Core.{Core, Set, Seq, Choice, Many, And, Capture, Note, Cores, NoMore, Then}
use Rattle.rpl_macro.specs.declared.casing.Casing.{Casing}
use Rattle.rpl_macro.specs.Casings.{set_in, single}
use Rattle.rpl_forms.specs.Counting.{seen, seen_all}
use Rattle.rpl_forms.specs.Forms.{pair, or_nothing, copies, seq_of, sets, text_core, endless, repeat}
use Rattle.rpl_forms.specs.Forms.{cooked_turns, cooked_repeat, repeated}
use Rattle.rpl_forms.specs.Inlining.{Inners, inlined, inlined_all}
use Rattle.rpl_forms.specs.Sizes.{nodes, deep}

-- what is seen of a sequence is the sequence of what is seen of its parts
pub seen_seq : (b : Bool) (I : Inners) (ps : Cores) → seen b I (Seq ps) ≡ Seq (seen_all b I ps)
seen_seq true I ps = refl
seen_seq false I ps = refl

-- what is seen of a choice is the choice of what is seen of its parts
pub seen_choice : (b : Bool) (I : Inners) (ps : Cores) → seen b I (Choice ps) ≡ Choice (seen_all b I ps)
seen_choice true I ps = refl
seen_choice false I ps = refl

pub seen_pair : (b : Bool) (I : Inners) (p q : Core) → seen b I (pair p q) ≡ pair (seen b I p) (seen b I q)
seen_pair true I p q = refl
seen_pair false I p q = refl

pub seen_then : (b : Bool) (I : Inners) (p : Core) (ps : Cores)
    → seen_all b I (Then p ps) ≡ Then (seen b I p) (seen_all b I ps)
seen_then true I p ps = refl
seen_then false I p ps = refl

inlined_group : (I : Inners) (ps : Cores) → inlined I (seq_of ps) ≡ seq_of (inlined_all I ps)
inlined_group I NoMore = refl
inlined_group I (Then p NoMore) = refl
inlined_group I (Then p (Then q ps)) = refl

inlined_copies : (I : Inners) (n : ℕ) (p : Core) (ps : Cores)
    → inlined_all I (copies n p ps) ≡ copies n (inlined I p) (inlined_all I ps)
inlined_copies I zero p ps = refl
inlined_copies I (suc n) p ps = ap (Then (inlined I p)) (inlined_copies I n p ps)

inlined_sets : (I : Inners) (c : Casing) (t : List ℕ) → inlined_all I (sets c t) ≡ sets c t
inlined_sets I c [] = refl
inlined_sets I c (x ∷ t) = ap (Then (Set (set_in c (single x)))) (inlined_sets I c t)

-- a text
pub seen_text : (b : Bool) (I : Inners) (c : Casing) (t : List ℕ) → seen b I (text_core c t) ≡ text_core c t
seen_text true I c t = inlined_group I (sets c t) ∙ ap seq_of (inlined_sets I c t)
seen_text false I c t = refl

inlined_endless : (I : Inners) (p : Core) (n : ℕ) → inlined I (endless p n) ≡ endless (inlined I p) n
inlined_endless I p zero = refl
inlined_endless I p (suc n) = ap (λ ps. Seq (Then (inlined I p) ps)) (inlined_copies I n p (Then (Many p) NoMore))

pub seen_endless : (b : Bool) (I : Inners) (p : Core) (n : ℕ) → seen b I (endless p n) ≡ endless (seen b I p) n
seen_endless true I p n = inlined_endless I p n
seen_endless false I p n = refl

inlined_repeat : (I : Inners) (p : Core) (n : ℕ) (m : Option ℕ) → inlined I (repeat p n m) ≡ repeat (inlined I p) n m
inlined_repeat I p n None = inlined_endless I p n
inlined_repeat I p n (Some m) =
    ap Seq (inlined_copies I n p (copies (m - n) (or_nothing p) NoMore)
    ∙ ap (copies n (inlined I p)) (inlined_copies I (m - n) (or_nothing p) NoMore))

inlined_turns : (I : Inners) (b p : Core) (n m : ℕ)
    → inlined I (cooked_turns b p n m) ≡ cooked_turns (inlined I b) (inlined I p) n m
inlined_turns I b p n m =
    ap (λ ps. Seq (Then (inlined I p) ps)) (inlined_copies I n (pair b p) (copies m (or_nothing (pair b p)) NoMore)
    ∙ ap (copies n (pair (inlined I b) (inlined I p))) (inlined_copies I m (or_nothing (pair b p)) NoMore))

inlined_cooked : (I : Inners) (b p : Core) (n : ℕ) (m : Option ℕ)
    → inlined I (cooked_repeat b p n m) ≡ cooked_repeat (inlined I b) (inlined I p) n m
inlined_cooked I b p zero None = refl
inlined_cooked I b p (suc n) None =
    ap (λ ps. Seq (Then (inlined I p) ps)) (inlined_copies I n (pair b p) (Then (Many (pair b p)) NoMore))
inlined_cooked I b p zero (Some zero) = refl
inlined_cooked I b p zero (Some (suc m)) = ap or_nothing (inlined_turns I b p 0 m)
inlined_cooked I b p (suc n) (Some m) = inlined_turns I b p n (m - suc n)

inlined_repeated : (I : Inners) (cooked : Bool) (b p : Core) (n : ℕ) (m : Option ℕ)
    → inlined I (repeated cooked b p n m) ≡ repeated cooked (inlined I b) (inlined I p) n m
inlined_repeated I true b p n m = inlined_cooked I b p n m
inlined_repeated I false b p n m = inlined_repeat I p n m

-- a repetition
pub seen_repeated : (s : Bool) (I : Inners) (cooked : Bool) (b p : Core) (n : ℕ) (m : Option ℕ)
    → seen s I (repeated cooked b p n m) ≡ repeated cooked (seen s I b) (seen s I p) n m
seen_repeated true I cooked b p n m = inlined_repeated I cooked b p n m
seen_repeated false I cooked b p n m = refl

pub seen_note : (b : Bool) (I : Inners) (t : List ℕ) → (nodes (seen b I (Note t)) ≡ 1) × (deep (seen b I (Note t)) ≡ 1)
seen_note true I t = (refl, refl)
seen_note false I t = (refl, refl)

-- what is seen of a look-ahead and a core after it is made of what is seen of the two
pub seen_both : (b : Bool) (I : Inners) (p q : Core) → seen b I (pair (And p) q) ≡ pair (And (seen b I p)) (seen b I q)
seen_both true I p q = refl
seen_both false I p q = refl

pub seen_capture_inside : (b : Bool) (I : Inners) (c : List ℕ) (p : Core) → b ≡ true
    → seen b I (Capture c p) ≡ seen b I p
seen_capture_inside true I c p e = refl
seen_capture_inside false I c p e = absurd cc

pub seen_capture_outside : (b : Bool) (I : Inners) (c : List ℕ) (p : Core) → b ≡ false
    → seen b I (Capture c p) ≡ Capture c (seen b I p)
seen_capture_outside true I c p e = absurd cc
seen_capture_outside false I c p e = refl

pub seen_note_inside : (b : Bool) (I : Inners) (t : List ℕ) → b ≡ true → seen b I (Note t) ≡ Seq NoMore
seen_note_inside true I t e = refl
seen_note_inside false I t e = absurd cc

pub seen_note_outside : (b : Bool) (I : Inners) (t : List ℕ) → b ≡ false → seen b I (Note t) ≡ Note t
seen_note_outside true I t e = absurd cc
seen_note_outside false I t e = refl
