-- The steps of the search, as the code makes them.
use Rattle.std.proofs.Common.{◌≡◌, ℕ, ◌+◌, ◌<◌, ◌≤◌, List, [], ◌∷◌, ◌++◌, length, replicate, set, get_or, Option, Some}
use Rattle.std.proofs.Common.{None, refl, sym, ap, ◌∙◌, subst, arith, inl, inr, ⊎_elim, length-append}
use Rattle.std.proofs.lemmas.List.{length-replicate}
use Rattle.std.proofs.lemmas.Option.{slice_get-map, slice_get_read}
use Rattle.std.specs.Prelude.{◌⊎◌, Bool, true, false, Result, Ok, Err, slice_get, option_map}
use Rattle.rpl_core.specs.Instr.{Instr}
use Rattle.rpl_core.specs.Numbers.{instr_of}
use Rattle.rpl_core.specs.Program.{code_of, sets_of, labels_of, instructions}
use Rattle.rpl_core.specs.declared.instr.Instr as R
use Rattle.rpl_core.specs.declared.program.Program.{Program}
use Rattle.rpl_safe.specs.declared.marks.Mark.{Mark}
use Rattle.rpl_safe.specs.declared.finding.MarkSearch.{MarkSearch}
use Rattle.rpl_safe.specs.inside.Marks.{marks_at, MarksGiven, next_mark, Has, Puts, PutsAll, PlacesAll, unmarked, Known}
use Rattle.rpl_safe.specs.inside.Marks.{Waits, Found, HasNone, Complete}
use Rattle.rpl_safe.proofs.Puts.{waits_end, marked_inside, Grown}
use Rattle.rpl_safe.proofs.Looking.{all_placed, none_placed, found_next, none_marked}
use Rattle.rpl_safe.proofs.Ending.{found_first}

pub one_puts : {E : Type 0} (a : ℕ) (m : Mark) (old new : MarkSearch) (r : Result Bool E) → Puts a m old new r
    → PutsAll (Some ((a, m) ∷ [])) old new r
one_puts a m old new (Ok true) h = (old, (refl, refl), h)
one_puts a m old new (Ok false) h = inr (old, (refl, refl), h)
one_puts a m old new (Err e) h = tt

then_put : {E : Type 0} (a b : ℕ) (m k : Mark) (old mid new : MarkSearch) (r : Result Bool E) → Has b k old mid
    → Puts a m mid new r → PutsAll (Some ((a, m) ∷ (b, k) ∷ [])) old new r
then_put a b m k old mid new (Ok true) g h = (mid, (old, (refl, refl), g), h)
then_put a b m k old mid new (Ok false) g h = inr (mid, (old, (refl, refl), g), h)
then_put a b m k old mid new (Err e) g h = tt

pub both_put : {E : Type 0} (a b : ℕ) (m k : Mark) (old mid new : MarkSearch) (q r : Result Bool E) → q ≡ Ok true
    → Puts b k old mid q → Puts a m mid new r → PutsAll (Some ((a, m) ∷ (b, k) ∷ [])) old new r
both_put a b m k old mid new q r e g h = then_put a b m k old mid new r (subst (Puts b k old mid) e g) h

pub second_clashes : {E : Type 0} (a b : ℕ) (m k : Mark) (old mid : MarkSearch) (q : Result Bool E) → q ≡ Ok false
    → Puts b k old mid q → PlacesAll (Some ((a, m) ∷ (b, k) ∷ [])) old mid false
second_clashes a b m k old mid q e g = inl (mid, inr (old, (refl, refl), subst (Puts b k old mid) e g))

abbrev no_mark : Option Mark
no_mark = None

-- a search with the same lists does as well
has_same : (s mid t : MarkSearch) (b : ℕ) (k : Mark) → mid.marks.items ≡ s.marks.items
    → mid.waiting.items ≡ s.waiting.items → Has b k mid t → Has b k s t
has_same s mid t b k e w (inl h) = inl (
  omega (arith, h.0, ap length e),
  sym (ap (λ l. marks_at l b) e) ∙ h.1,
  h.2
      ∙ ap (λ l. set l b (Some k)) e,
  h.3 ∙ ap (λ l. l ++ b ∷ []) w,
)
has_same s mid t b k e w (inr h) = inr (sym (ap (λ l. marks_at l b) e) ∙ h.0, h.1 ∙ e, h.2 ∙ w)

-- the first mark
begin_by : (code : List Instr) (s t : MarkSearch) (n : ℕ) (b : Bool) → 0 < n → n ≡ length code
    → s.marks.items ≡ replicate n None → s.waiting.items ≡ []
    → PlacesAll (Some ((0, record { frame = 0; last = None; trees = 0 }) ∷ [])) s t b → Found code t
begin_by code s t n true lt len empty none h =
    found_first code s t n lt len empty none (has_same s h.0 t 0 (record { frame = 0; last = None; trees = 0 }) h.1.0
    h.1.1 h.2)
begin_by code s t n false lt len empty none (inl h) = absurd h.1
begin_by code s t n false lt len empty none (inr (mid, start, inl far)) =
    absurd (omega (arith, lt, far, ap length start.0, ap length empty, long n))
  where
    long : (n : ℕ) → length (replicate n (no_mark)) ≡ n
    long n = length-replicate n no_mark
begin_by code s t n false lt len empty none (inr (mid, start, inr c)) =
    let z : None ≡ Some c.0 = sym (none_marked n 0) ∙ ap (λ l. marks_at l 0) (sym empty)
    ∙ ap (λ l. marks_at l 0) (sym start.0) ∙ c.1 in
    absurd (cc)

pub found_begin : {E : Type 0} (code : List Instr) (s t : MarkSearch) (n : ℕ) (b : Bool) (r : Result Bool E) → r ≡ Ok b
    → 0 < n → n ≡ length code → s.marks.items ≡ replicate n None → s.waiting.items ≡ []
    → Puts 0 (record { frame = 0; last = None; trees = 0 }) s t r → Found code t
found_begin code s t n b r e lt len empty none h =
    begin_by code s t n b lt len empty none
    (subst (PutsAll (Some ((0, record { frame = 0; last = None; trees = 0 }) ∷ [])) s t) e
    (one_puts 0 (record { frame = 0; last = None; trees = 0 }) s t r h))

-- an address is looked at
module _ {E : Type 0} (code : List Instr) (s0 s t : MarkSearch) (a : ℕ) (m : Mark) (i : Instr) (o :
    Option MarksGiven) (r : Result Bool E) (f : Found code s0) (rest : s0.waiting.items ≡ s.waiting.items ++ a ∷ [])
    (same : s.marks.items ≡ s0.marks.items) (is_m : marks_at s.marks.items a ≡ Some m) (is_i :
    slice_get code a ≡ Some i)
    (by : o ≡ next_mark (marks_at s.marks.items) i a m) (puts : PutsAll o s t r) where
  known : Known code s.marks.items
  known = subst (Known code) (sym same) f.known

  pub look_on : r ≡ Ok true → Found code t
      × (length t.waiting.items + unmarked t.marks.items < length s0.waiting.items + unmarked s0.marks.items)
  look_on e =
      let p = all_placed code s known a m i is_m is_i o t by (subst (PutsAll o s t) e puts) in
      let g : Grown s t = p.1 in (
        found_next code s0 s t a m f rest same is_m p,
        omega (arith, g.left, ap length rest, length-append s.waiting.items (a ∷ []), ap unmarked same),
      )

  pub look_off : r ≡ Ok false → HasNone code
  look_off e = none_placed code s known a m i is_m is_i o t by (subst (PutsAll o s t) e puts)

-- an address that waits has a mark and is in the code
pub waits_marked : (code : List Instr) (s0 : MarkSearch) (xs : List ℕ) (a : ℕ) → Found code s0
    → s0.waiting.items ≡ xs ++ a ∷ [] → marks_at s0.marks.items a ≡ None → ⊥
waits_marked code s0 xs a f rest e =
    let m = f.waiting a (subst (λ l. Waits l a) (sym rest) (waits_end xs a)) in
    let z : None ≡ Some m.0 = sym e ∙ m.1 in
    absurd (cc)

-- trees stay few
pub few_trees : (code : List Instr) (ms : List (Option Mark)) (a : ℕ) (m : Mark) (n : ℕ) → Known code ms
    → marks_at ms a ≡ Some m → length code ≤ n → m.trees < n
few_trees code ms a m n k e le = let r = k.room a m e in omega (arith, r, k.long, le)

-- nothing waits any more
pub found_end : (code : List Instr) (s : MarkSearch) → Found code s → s.waiting.items ≡ [] → Complete code s.marks.items
found_end code s f none =
    record {
      known = f.known;
      follows = λ a m e. ⊎_elim (λ w. absurd (subst (λ l. Waits l a) none w)) (λ x. x) (f.done a m e);
    }

-- the instruction that was read, in the code that the machine runs
pub read_instr : (p : Program) (code : List R.Instr) (a : ℕ) (i : R.Instr) → code ≡ code_of p → a < length code
    → i ≡ get_or code a i → slice_get (instructions p) a ≡ Some (instr_of (sets_of p) (labels_of p) i)
read_instr p code a i same lt e =
    slice_get-map (instr_of (sets_of p) (labels_of p)) (code_of p) a
    ∙ ap (λ l. option_map (instr_of (sets_of p) (labels_of p)) (slice_get l a)) (sym same)
    ∙ ap (option_map (instr_of (sets_of p) (labels_of p))) (slice_get_read code (length code) a i refl lt e)

-- an address that waits is in the code
pub waits_inside : (code : List Instr) (s0 : MarkSearch) (xs : List ℕ) (a : ℕ) → Found code s0
    → s0.waiting.items ≡ xs ++ a ∷ [] → a < length code
waits_inside code s0 xs a f rest =
    let m = f.waiting a (subst (λ l. Waits l a) (sym rest) (waits_end xs a)) in
    let lt = marked_inside s0.marks.items a m.0 m.1 in
    omega (arith, lt, f.known.long)
