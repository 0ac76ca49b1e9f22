-- From what a draft says to the program that is made of it.
use Rattle.std.proofs.Common.{◌≡◌, ℕ, ◌+◌, ◌≤◌, List, [], ◌∷◌, ◌++◌, length, Option, Some, None, refl, sym, ap, ◌∙◌}
use Rattle.std.proofs.Common.{subst, arith}
use Rattle.std.proofs.lemmas.Bool.{lt-ltb}
use Rattle.std.proofs.lemmas.List.{get_or_default}
use Rattle.std.proofs.lemmas.Option.{slice_get_within}
use Rattle.std.specs.BTreeSet.{BTreeSet}
use Rattle.std.specs.List.{list_all}
use Rattle.std.specs.Prelude.{Bool, true, false, ◌&&◌, nat_lt, map, option_map, slice_get, slice_index_or}
use Rattle.regex_class.specs.Ranges.{Range}
use Rattle.rpl_core.specs.Code.{code, size}
use Rattle.rpl_core.specs.Core.{Core}
use Rattle.rpl_core.specs.Instr.{Instr}
use Rattle.rpl_core.specs.Instr as I
use Rattle.rpl_core.specs.Numbers.{instr_of, in_range, AreInRange}
use Rattle.rpl_core.specs.Program.{instructions}
use Rattle.rpl_core.specs.Programs.{IsCode, address, bodies, program}
use Rattle.rpl_core.specs.declared.program.Program.{Program}
use Rattle.rpl_core.specs.declared.instr.Instr as R
use Rattle.rpl_core.specs.declared.instr.Instr.TheVariants as V
use Rattle.rpl_intern.specs.declared.draft.Draft.{Draft}
use Rattle.rpl_codegen.specs.declared.layout.Layout.{Layout}
use Rattle.rpl_core.specs.Marked.{CallsAreRules}
use Rattle.rpl_codegen.specs.inside.Laid.{LaysOut, whole_len}
use Rattle.rpl_core.specs.Marked.{has}
use Rattle.rpl_core.specs.Marked.{HasReached}
use Rattle.rpl_intern.specs.Uses.{Keeps}
use Rattle.rpl_intern.specs.Written.{shown, Says, Adds}
use Rattle.rpl_codegen.specs.inside.Written.{address_of}
use Rattle.rpl_intern.proofs.Adding.{adds_then, read_at}
use Rattle.rpl_codegen.proofs.Jumps.{goes_within, GoWithin, program_within, program_length}
use Rattle.rpl_codegen.proofs.Lengths.{code_length, size_is}

-- a number whose set or text is there
numbered : {A : Type 0} (f : A → Instr) (xs : List A) (d : A) (k : ℕ) (j : Instr)
    → option_map f (slice_get xs k) ≡ Some j → (nat_lt k (length xs) ≡ true) × (f (slice_index_or xs k d) ≡ j)
numbered {A} f xs d k j e = go (slice_get xs k) refl e
  where
    go : (o : Option A) → slice_get xs k ≡ o → option_map f o ≡ Some j → (nat_lt k (length xs) ≡ true)
        × (f (slice_index_or xs k d) ≡ j)
    go None is x = absurd (cc)
    go (Some a) is x =
        let lt = slice_get_within xs k a is in
        let same : f a ≡ j = cc in
        (lt-ltb k (length xs) lt, ap f (get_or_default xs k d a lt ∙ read_at xs k a is) ∙ same)

both : (a b : Bool) → a ≡ true → b ≡ true → (a && b) ≡ true
both a b x y = ap (λ c. c && b) x ∙ y

-- one instruction of the program
record Meant (n : ℕ) (s : List (List Range)) (x : List (List ℕ)) (i : R.Instr) (j : Instr) : Type 0 where
  same : instr_of s x i ≡ j
  within : in_range n (length s) (length x) i ≡ true

jump : (n : ℕ) (s : List (List Range)) (x : List (List ℕ)) (i : R.Instr) (j : Instr) (b : Bool) → instr_of s x i ≡ j
    → goes_within n (instr_of s x i) ≡ b → in_range n (length s) (length x) i ≡ b → goes_within n j ≡ true
    → Meant n s x i j
jump n s x i j b e f g h = record { same = e; within = g ∙ sym f ∙ ap (goes_within n) e ∙ h }

some_same : (i j : Instr) → Some i ≡ Some j → i ≡ j
some_same i j e = cc

meant : (n : ℕ) (s : List (List Range)) (x : List (List ℕ)) (i : R.Instr) (j : Instr) → shown s x i ≡ Some j
    → goes_within n j ≡ true → Meant n s x i j
meant n s x (V.Set k) j e h = let a = numbered I.Set s [] k j e in record { same = a.1; within = a.0 }
meant n s x (V.Span k) j e h = let a = numbered I.Span s [] k j e in record { same = a.1; within = a.0 }
meant n s x (V.TestSet l k) j e h =
    let a = numbered (I.TestSet l) s [] k j e in
    record { same = a.1; within = both (nat_lt l n) (nat_lt k (length s)) (ap (goes_within n) a.1 ∙ h) a.0 }
meant n s x (V.Open k) j e h = let a = numbered I.Open x [] k j e in record { same = a.1; within = a.0 }
meant n s x (V.Note k) j e h = let a = numbered I.Note x [] k j e in record { same = a.1; within = a.0 }
meant n s x V.Start j e h = record { same = some_same I.Start j e; within = refl }
meant n s x V.End j e h = record { same = some_same I.End j e; within = refl }
meant n s x (V.Choice l) j e h = jump n s x (V.Choice l) j (nat_lt l n) (some_same (I.Choice l) j e) refl refl h
meant n s x (V.Commit l) j e h = jump n s x (V.Commit l) j (nat_lt l n) (some_same (I.Commit l) j e) refl refl h
meant n s x V.FailTwice j e h = record { same = some_same I.FailTwice j e; within = refl }
meant n s x (V.BackCommit l) j e h =
    jump n s x (V.BackCommit l) j (nat_lt l n) (some_same (I.BackCommit l) j e) refl refl h
meant n s x V.Fail j e h = record { same = some_same I.Fail j e; within = refl }
meant n s x (V.Back k) j e h = record { same = some_same (I.Back k) j e; within = refl }
meant n s x (V.Meet l) j e h = jump n s x (V.Meet l) j (nat_lt l n) (some_same (I.Meet l) j e) refl refl h
meant n s x (V.Call l) j e h = jump n s x (V.Call l) j (nat_lt l n) (some_same (I.Call l) j e) refl refl h
meant n s x V.Return j e h = record { same = some_same I.Return j e; within = refl }
meant n s x V.Close j e h = record { same = some_same I.Close j e; within = refl }
meant n s x V.Finish j e h = record { same = some_same I.Finish j e; within = refl }
meant n s x (V.PartialCommit l) j e h =
    jump n s x (V.PartialCommit l) j (nat_lt l n) (some_same (I.PartialCommit l) j e) refl refl h
meant n s x V.Halt j e h = record { same = some_same I.Halt j e; within = refl }

cons_parts : {A : Type 0} (a b : A) (x y : List A) → (a ∷ x) ≡ (b ∷ y) → (a ≡ b) × (x ≡ y)
cons_parts a b x y e = (cc, cc)

first : (a b : Bool) → (a && b) ≡ true → (a ≡ true) × (b ≡ true)
first true b e = (refl, e)
first false b e = absurd (cc)

-- all of them
pub all_meant : (n : ℕ) (s : List (List Range)) (x : List (List ℕ)) (is : List R.Instr) (js : List Instr)
    → map (shown s x) is ≡ map Some js → GoWithin n js → (map (instr_of s x) is ≡ js)
    × (list_all (in_range n (length s) (length x)) is ≡ true)
all_meant n s x [] [] e h = (refl, refl)
all_meant n s x [] (j ∷ js) e h = absurd (cc)
all_meant n s x (i ∷ is) [] e h = absurd (cc)
all_meant n s x (i ∷ is) (j ∷ js) e h =
    let a = cons_parts (shown s x i) (Some j) (map (shown s x) is) (map Some js) e in
    let b = first (goes_within n j) (list_all (goes_within n) js) h in
    let m = meant n s x i j a.0 b.0 in
    let rest = all_meant n s x is js a.1 b.1 in (
      ap (λ y. y ∷ map (instr_of s x) is) m.same
          ∙ ap (λ l. j ∷ l) rest.0,
      both (in_range n (length s) (length x) i) (list_all (in_range n (length s) (length x)) is) m.within rest.1,
    )

-- the goal's code, the end, and the bodies are the whole code
pub whole_code : (d d1 d2 d3 : Draft) (marks : ℕ → Bool) (at : ℕ → ℕ) (R : List Core) (g : Core)
    → at ≡ address marks R g → d.code ≡ [] → Adds d d1 (code at g (length d.code)) → Adds d1 d2 (I.Finish ∷ [])
    → Adds d2 d3 (bodies marks at R 0 (length d2.code)) → Adds d d3 (program marks R g)
whole_code d d1 d2 d3 marks at R g is none x y z =
    let zero : length d.code ≡ 0 = ap length none in
    let x1 = subst (λ n. Adds d d1 (code at g n)) zero x in
    let two : length d2.code ≡ size g + 1 = omega (arith, x1.long, y.long, zero, code_length at g 0, size_is g) in
    let z1 = subst (λ n. Adds d2 d3 (bodies marks at R 0 n)) two z in
    let all = adds_then d d1 d3 (code at g 0) (I.Finish ∷ bodies marks at R 0 (size g + 1)) x1
    (adds_then d1 d2 d3 (I.Finish ∷ []) (bodies marks at R 0 (size g + 1)) y z1) in
    subst (λ f. Adds d d3 (code f g 0 ++ I.Finish ∷ bodies marks f R 0 (size g + 1))) is all

-- what a draft says that was empty
pub all_said : (d d1 : Draft) (is : List Instr) → d.code ≡ [] → Adds d d1 is → Says d1 is
all_said d d1 is none a = a.code [] (ap (map (shown d.sets d.labels)) none)

-- a layout that fits has all addresses
pub compiled : (d d1 d2 d3 : Draft) (l : Layout) (bs b1 b2 : BTreeSet ℕ) (R : List Core) (g : Core) → b1 ≡ bs → b2 ≡ bs
    → LaysOut (has b1) R g l → l.end ≤ 1048576 → d.code ≡ [] → Adds d d1 (code (address_of l) g (length d.code))
    → Adds d1 d2 (I.Finish ∷ []) → Adds d2 d3 (bodies (has b2) (address_of l) R 0 (length d2.code))
    → Adds d d3 (program (has bs) R g)
compiled d d1 d2 d3 l bs b1 b2 R g same1 same2 out fits none x y z =
    let out1 = subst (λ b. LaysOut (has b) R g l) same1 out in
    let small : whole_len (has bs) R g ≤ 1048576 = omega (arith, out1.whole) in
    whole_code d d1 d2 d3 (has bs) (address_of l) R g (out1.each small) none x y
    (subst (λ b. Adds d2 d3 (bodies (has b) (address_of l) R 0 (length d2.code))) same2 z)

-- the code of a draft that was empty, and says the whole code
pub finished : (d d1 : Draft) (bs : BTreeSet ℕ) (R : List Core) (g : Core) → CallsAreRules R g → HasReached R g bs
    → d.code ≡ [] → Adds d d1 (program (has bs) R g) → (map (instr_of d1.sets d1.labels) d1.code ≡ program (has bs) R g)
    × AreInRange d1.code d1.sets d1.labels
finished d d1 bs R g calls reached none a =
    let m = has bs in
    let within = program_within m R g calls (λ r. (reached r).1) (λ r. (reached r).0) in
    let all = all_meant (whole_len m R g) d1.sets d1.labels d1.code (program m R g)
    (all_said d d1 (program m R g) none a) within in
    let long : whole_len m R g ≡ length d1.code = omega (arith, a.long, ap length none, program_length m R g) in
    (all.0, subst (λ n. list_all (in_range n (length d1.sets) (length d1.labels)) d1.code ≡ true) long all.1)

pub is_code : (bs : BTreeSet ℕ) (R : List Core) (g : Core) (is : List Instr) → HasReached R g bs
    → is ≡ program (has bs) R g → IsCode R g is
is_code bs R g is reached e = record { marks = has bs; exact = reached; same = e }

pub program_means : (p : Program) (code : List R.Instr) (sets : List (List Range)) (labels : List (List ℕ)) (is :
    List Instr) → p.code ≡ code → p.sets ≡ sets → p.labels ≡ labels → map (instr_of sets labels) code ≡ is
    → instructions p ≡ is
program_means p code sets labels is e f h m =
    ap (λ s. map (instr_of s p.labels) p.code) f ∙ ap (λ x. map (instr_of sets x) p.code) h
    ∙ ap (map (instr_of sets labels)) e ∙ m

-- uses and tables under other names
pub kept : {A : Type 0} (uses uses1 : List A) (t u v : List A) → uses ≡ uses1 → t ≡ [] → u ≡ v → Keeps t uses u
    → Keeps [] uses1 v
kept uses uses1 t u v e f h k =
    subst (λ x. Keeps [] uses1 x) h (subst (λ x. Keeps x uses1 u) f (subst (λ x. Keeps t x u) e k))
