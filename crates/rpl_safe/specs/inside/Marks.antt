-- What the search knows of each address.
use Rattle.std.specs.Prelude.{◌≡◌, ◌≢◌, ℕ, zero, suc, ◌+◌, ◌<◌, ◌≤◌, Bool, true, false, ◌&&◌, nat_eq, nat_le, not, ◌||◌}
use Rattle.std.specs.Prelude.{if◌then◌else◌, ◌⊎◌, List, [], ◌∷◌, ◌++◌, length, Option, Some, None, slice_get}
use Rattle.std.specs.Prelude.{get_or, set, Result, Ok, Err}
use Rattle.rpl_core.specs.Instr.{Instr}
use Rattle.rpl_core.specs.Instr as I
use Rattle.rpl_safe.specs.Safe.{Left, Shape, Shapes, only, one_less, IsKept, IsSafe}
use Rattle.std.specs.Global.{Vec}
use Rattle.rpl_safe.specs.declared.marks.Mark.{Mark}
use Rattle.rpl_safe.specs.declared.marks.Next.{Next}
use Rattle.rpl_safe.specs.declared.marks.Next.TheVariants as N
use Rattle.rpl_safe.specs.declared.finding.MarkSearch.{MarkSearch}

-- a mark for each address that has one
abbrev pub Marks : Type 0
Marks = ℕ → Option Mark

abbrev pub marks_at : List (Option Mark) → Marks
marks_at ms a = get_or ms a None

-- the mark of the last entry's address
abbrev pub last_of : Marks → Option ℕ → Option Mark
last_of marks None = None
last_of marks (Some a) = marks a

abbrev pub MarksGiven : Type 0
MarksGiven = List (ℕ × Mark)

abbrev pub with_last : Option Mark → (Mark → Option MarksGiven) → Option MarksGiven
with_last None go = None
with_last (Some k) go = go k

abbrev pub is_none : Option ℕ → Bool
is_none None = true
is_none (Some a) = false

abbrev pub is_done_mark : Mark → Bool
is_done_mark m = nat_eq m.trees 0 && is_none m.last

abbrev pub to : ℕ → Mark → Option MarksGiven
to l m = Some ((l, m) ∷ [])

-- as `next` has it of shapes
abbrev pub next_mark : Marks → Instr → ℕ → Mark → Option MarksGiven
next_mark marks (I.Set k) a m = to (a + 1) m
next_mark marks I.Start a m = to (a + 1) m
next_mark marks I.End a m = to (a + 1) m
next_mark marks (I.Back k) a m = to (a + 1) m
next_mark marks (I.Note x) a m = to (a + 1) m
next_mark marks (I.Span k) a m = to (a + 1) m
next_mark marks (I.TestSet l k) a m = Some ((a + 1, m) ∷ (l, m) ∷ [])
next_mark marks (I.Choice l) a m = Some ((a + 1, record m { last = Some l }) ∷ (l, m) ∷ [])
next_mark marks (I.Commit l) a m = with_last (last_of marks m.last) (λ k. to l (record m { last = k.last }))
next_mark marks (I.PartialCommit l) a m =
    with_last (last_of marks m.last) (λ k. only (nat_eq k.trees m.trees) ((l, m) ∷ []))
next_mark marks (I.BackCommit l) a m = with_last (last_of marks m.last) (λ k. to l (record k { frame = m.frame }))
next_mark marks (I.Meet l) a m = with_last (last_of marks m.last) (λ k. to l (record k { frame = m.frame }))
next_mark marks I.FailTwice a m = with_last (last_of marks m.last) (λ k. Some [])
next_mark marks I.Fail a m = Some []
next_mark marks I.Halt a m = Some []
next_mark marks (I.Call zero) a m = None
next_mark marks (I.Call (suc l)) a m =
    Some ((suc l, record { frame = suc l; last = None; trees = 0 }) ∷ (a + 1, m) ∷ [])
next_mark marks I.Return a m = if nat_eq m.frame 0 then None else only (is_done_mark m) []
next_mark marks (I.Open c) a m = to (a + 1) (record m { trees = suc m.trees })
next_mark marks I.Close a m = one_less m.trees (λ c. to (a + 1) (record m { trees = c }))
next_mark marks I.Finish a m = if nat_eq m.frame 0 then only (is_done_mark m) [] else None

abbrev pub given_of : Next → Option MarksGiven
given_of N.Lacks = None
given_of N.Nowhere = Some []
given_of (N.To a m) = Some ((a, m) ∷ [])
given_of (N.ToBoth a m b k) = Some ((a, m) ∷ (b, k) ∷ [])

-- what the search has become where the address got the mark, or had it
abbrev pub Has : ℕ → Mark → MarkSearch → MarkSearch → Type 0
Has b k old new =
    ((b < length old.marks.items) × (marks_at old.marks.items b ≡ None)
    × (new.marks.items ≡ set old.marks.items b (Some k)) × (new.waiting.items ≡ old.waiting.items ++ b ∷ []))
    ⊎ ((marks_at old.marks.items b ≡ Some k)
    × (new.marks.items ≡ old.marks.items) × (new.waiting.items ≡ old.waiting.items))

-- it cannot have it
abbrev pub Clashes : ℕ → Mark → MarkSearch → Type 0
Clashes b k old = (length old.marks.items ≤ b) ⊎ ((m : Mark) × (marks_at old.marks.items b ≡ Some m) × (m ≢ k))

abbrev pub Puts : {E : Type 0} → ℕ → Mark → MarkSearch → MarkSearch → Result Bool E → Type 0
Puts b k old new (Ok true) = Has b k old new
Puts b k old new (Ok false) = Clashes b k old
Puts b k old new (Err e) = Unit {0}

-- an instruction where there is one
abbrev pub mark_by : Marks → Option Instr → ℕ → Mark → Option MarksGiven
mark_by marks None a m = None
mark_by marks (Some i) a m = next_mark marks i a m

abbrev pub AreMarked : Marks → MarksGiven → Type 0
AreMarked marks [] = Unit {0}
AreMarked marks (g ∷ gs) = (marks g.0 ≡ Some g.1) × AreMarked marks gs

-- the marks are put, the last one first
abbrev pub Places : MarksGiven → MarkSearch → MarkSearch → Bool → Type 0
Places [] old new true = (new.marks.items ≡ old.marks.items) × (new.waiting.items ≡ old.waiting.items)
Places [] old new false = ⊥
Places (g ∷ gs) old new true = (mid : MarkSearch) × Places gs old mid true × Has g.0 g.1 mid new
Places (g ∷ gs) old new false =
    ((mid : MarkSearch) × Places gs old mid false) ⊎ ((mid : MarkSearch) × Places gs old mid true × Clashes g.0 g.1 mid)

abbrev pub PlacesAll : Option MarksGiven → MarkSearch → MarkSearch → Bool → Type 0
PlacesAll None old new b = b ≡ false
PlacesAll (Some gs) old new b = Places gs old new b

-- the entries of the list stand at their addresses
abbrev pub Stacked : Marks → Option ℕ → List Left → Type 0
Stacked marks o [] = o ≡ None
Stacked marks o (e ∷ es) =
    (o ≡ Some e.address) × (k : Mark) × (marks e.address ≡ Some k) × (k.trees ≡ e.trees) × Stacked marks k.last es

-- the mark stands for the shape
pub record Is (marks : Marks) (m : Mark) (s : Shape) : Type 0 where
  pub frame : m.frame ≡ s.frame
  pub trees : m.trees ≡ s.trees
  pub entries : Stacked marks m.last s.entries

-- how many addresses have no mark
abbrev pub unmarked : List (Option Mark) → ℕ
unmarked [] = 0
unmarked (None ∷ ms) = suc (unmarked ms)
unmarked (Some m ∷ ms) = unmarked ms

-- What is marked is forced: each way to give the addresses shapes gives these ones.
pub record Known (code : List Instr) (ms : List (Option Mark)) : Type 0 where
  pub long : length ms ≡ length code
  pub start : marks_at ms 0 ≡ Some (record { frame = 0; last = None; trees = 0 })
  pub lists : (a : ℕ) (m : Mark) → marks_at ms a ≡ Some m → (s : Shape) × Is (marks_at ms) m s
  pub forced : (shapes : Shapes) → IsKept code shapes
      → (a : ℕ) (m : Mark) (s : Shape) → marks_at ms a ≡ Some m → Is (marks_at ms) m s → shapes a ≡ Some s
  pub room : (a : ℕ) (m : Mark) → marks_at ms a ≡ Some m → m.trees + unmarked ms < length ms

-- the address is in the list
abbrev pub Waits : List ℕ → ℕ → Type 0
Waits [] a = ⊥
Waits (x ∷ xs) a = (x ≡ a) ⊎ Waits xs a

-- what the instruction at an address lets follow is marked
abbrev pub Follows : List Instr → Marks → ℕ → Mark → Type 0
Follows code marks a m = (gs : MarksGiven) × (mark_by marks (slice_get code a) a m ≡ Some gs) × AreMarked marks gs

-- how far the search has come
pub record Found (code : List Instr) (s : MarkSearch) : Type 0 where
  pub known : Known code s.marks.items
  pub waiting : (a : ℕ) → Waits s.waiting.items a → (m : Mark) × (marks_at s.marks.items a ≡ Some m)
  pub done : (a : ℕ) (m : Mark) → marks_at s.marks.items a ≡ Some m
      → Waits s.waiting.items a ⊎ Follows code (marks_at s.marks.items) a m

abbrev pub PutsAll : {E : Type 0} → Option MarksGiven → MarkSearch → MarkSearch → Result Bool E → Type 0
PutsAll o old new (Ok b) = PlacesAll o old new b
PutsAll o old new (Err e) = Unit {0}

-- no way to give the addresses shapes is kept
abbrev pub HasNone : List Instr → Type 0
HasNone code = (shapes : Shapes) → IsKept code shapes → ⊥

-- the marks are all that is forced, and each follows
pub record Complete (code : List Instr) (ms : List (Option Mark)) : Type 0 where
  pub known : Known code ms
  pub follows : (a : ℕ) (m : Mark) → marks_at ms a ≡ Some m → Follows code (marks_at ms) a m

abbrev pub Searched : {E : Type 0} → List Instr → Result (Option (Vec (Option Mark))) E → Type 0
Searched code (Ok None) = HasNone code
Searched code (Ok (Some v)) = Complete code v.items
Searched code (Err e) = Unit {0}

-- what the last test asks of each address
abbrev pub is_finish : Instr → Bool
is_finish I.Finish = true
is_finish _ = false

abbrev pub is_return : Instr → Bool
is_return I.Return = true
is_return _ = false

abbrev pub is_open : Instr → Bool
is_open (I.Open c) = true
is_open _ = false

abbrev pub is_call : ℕ → Instr → Bool
is_call c (I.Call l) = nat_eq l c
is_call c _ = false

-- the instruction that ends the frame
abbrev pub ends : ℕ → Instr → Bool
ends f i = if nat_eq f 0 then is_finish i else is_return i

-- in the frame f a tree is open but at its first address and where it ends
abbrev pub inside_test : ℕ → Instr → ℕ → Mark → Bool
inside_test f i a m = not (nat_eq m.frame f) || (not (nat_eq m.trees 0) || (nat_eq a f || ends f i))

abbrev pub alone_test : ℕ → Mark → Bool
alone_test a m = not (nat_eq m.frame 0) || nat_le a 1

abbrev pub avoids : ℕ → Option MarksGiven → Bool
avoids c None = true
avoids c (Some []) = true
avoids c (Some (x ∷ [])) = not (nat_eq x.0 c)
avoids c (Some (x ∷ y ∷ gs)) = not (nat_eq x.0 c) && not (nat_eq y.0 c)

abbrev pub call_test : Marks → ℕ → Instr → ℕ → Mark → Bool
call_test marks c i a m = alone_test a m && (inside_test c i a m && (is_call c i || avoids c (next_mark marks i a m)))

-- the test of an address, where the first frame is the tree or calls it
abbrev pub tree_test : Marks → Option ℕ → Instr → ℕ → Mark → Bool
tree_test marks None i a m = inside_test 0 i a m
tree_test marks (Some c) i a m = call_test marks c i a m

abbrev pub AllPass : Marks → Option ℕ → List Instr → Type 0
AllPass marks called code =
    (a : ℕ) (m : Mark) (i : Instr) → marks a ≡ Some m → slice_get code a ≡ Some i → tree_test marks called i a m ≡ true

abbrev pub Answers : Bool → Type 0 → Type 0
Answers true P = P
Answers false P = P → ⊥

-- how the code begins: with a tree, with a call of one, or so that it isn't safe
abbrev pub Heads : List Instr → Option (Option ℕ) → Type 0
Heads code None = IsSafe code → ⊥
Heads code (Some None) = (l : List ℕ) × (slice_get code 0 ≡ Some (I.Open l))
Heads code (Some (Some c)) =
    (slice_get code 0 ≡ Some (I.Call c)) × (slice_get code 1 ≡ Some I.Finish)
    × ((l : List ℕ) × (slice_get code c ≡ Some (I.Open l)))

abbrev pub holds : (Instr → Bool) → Option Instr → Bool
holds f None = false
holds f (Some i) = f i

abbrev pub opens_in : List Instr → ℕ → Bool
opens_in code a = holds is_open (slice_get code a)

abbrev pub finishes_in : List Instr → ℕ → Bool
finishes_in code a = holds is_finish (slice_get code a)

abbrev pub called_by : Instr → Option ℕ
called_by (I.Call l) = Some l
called_by _ = None

abbrev pub call_at : Option Instr → Option ℕ
call_at None = None
call_at (Some i) = called_by i

abbrev pub call_in : List Instr → Option ℕ
call_in code = call_at (slice_get code 0)

abbrev pub head_call : List Instr → Option ℕ → Option (Option ℕ)
head_call code None = None
head_call code (Some c) = if finishes_in code 1 && opens_in code c then Some (Some c) else None

-- how the code begins
abbrev pub head_of : List Instr → Option (Option ℕ)
head_of code = if opens_in code 0 then Some None else head_call code (call_in code)
