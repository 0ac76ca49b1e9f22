-- The text of an expansion, token by token.
use Rattle.std.proofs.Common.{◌≡◌, ℕ, zero, suc, ◌+◌, ◌<◌, ◌≤◌, List, [], ◌∷◌, ◌++◌, length, get_or, drop, refl, sym}
use Rattle.std.proofs.Common.{ap, ◌∙◌, subst, append_assoc, length-append, arith}
use Rattle.std.proofs.lemmas.List.{append-nil}
use Rattle.std.specs.Prelude.{Bool, codes, decimal, map}
use Rattle.rpl_core.specs.Core.{Core, Set, Seq, Choice, Many, Not, And, Behind, Call, Capture, Note, Start, End, Halt}
use Rattle.rpl_core.specs.Instr.{Instr}
use Rattle.rpl_core.specs.declared.instr.Instr as R
use Rattle.rpl_core.specs.declared.rules.Rule.{Rule}
use Rattle.rpl_expand.specs.Printed.{in_brackets, printed}
use Rattle.rpl_forms.specs.Rows.{Row}
use Rattle.rosie_inspect.specs.Expansions.{rule_lines}
use Rattle.rosie_inspect.specs.Items.{Turns, item_text, stack_text}
use Rattle.rosie_inspect.specs.Listing.{instr_text, lines}
use Rattle.rosie_inspect.specs.declared.expanding.Item.{Item}

-- the item that is added last is the next
pub stack_push : (rs : List Rule) (bs : List Bool) (items : List Item) (item : Item)
    → stack_text rs bs (items ++ item ∷ []) ≡ item_text rs bs item ++ stack_text rs bs items
stack_push rs bs [] item = sym (append-nil (item_text rs bs item))
stack_push rs bs (x ∷ xs) item =
    ap (λ text. text ++ item_text rs bs x) (stack_push rs bs xs item)
    ∙ append_assoc (item_text rs bs item) (stack_text rs bs xs) (item_text rs bs x)

-- a head was made of a text
pub turns_by : (text head tail left0 left1 out0 out1 : List ℕ) → out1 ≡ out0 ++ head → text ≡ head ++ tail
    → left1 ≡ tail ++ left0 → 0 < length head → Turns text left0 left1 out0 out1
turns_by text head tail left0 left1 out0 out1 made split left some = (
  ap (λ x. out0 ++ (x ++ left0)) split ∙ ap (λ x. out0 ++ x) (append_assoc head tail left0)
      ∙ sym (append_assoc out0 head (tail ++ left0)) ∙ ap (λ x. x ++ (tail ++ left0)) (sym made)
      ∙ ap (λ x. out1 ++ x) (sym left),
  let l = ap length made in omega (arith, length-append out0 head),
)

-- all of a text was made
pub turns_all : (text left0 left1 out0 out1 : List ℕ) → out1 ≡ out0 ++ text → left1 ≡ left0 → 0 < length text
    → Turns text left0 left1 out0 out1
turns_all text left0 left1 out0 out1 made left some =
    turns_by text text [] left0 left1 out0 out1 made (sym (append-nil text)) left some

-- the head of a text in brackets
pub brackets_split : (head rest : List ℕ) → in_brackets head rest ≡ head ++ (rest ++ 41 ∷ [])
brackets_split head rest = append_assoc head rest (41 ∷ [])

-- a text in brackets whose head is made in two steps
pub turns_more : (before head rest left0 left1 out0 out1 out2 : List ℕ) → out1 ≡ out0 ++ before
    → Turns (in_brackets head rest) left0 left1 out1 out2
    → Turns (in_brackets before (head ++ rest)) left0 left1 out0 out2
turns_more before head rest left0 left1 out0 out1 out2 made h = (
  ap (λ x. out0 ++ (x ++ left0)) (append_assoc before (head ++ rest) (41 ∷ []))
      ∙ ap (λ x. out0 ++ x) (append_assoc before ((head ++ rest) ++ 41 ∷ []) left0)
      ∙ sym (append_assoc out0 before (((head ++ rest) ++ 41 ∷ []) ++ left0))
      ∙ ap (λ x. x ++ (((head ++ rest) ++ 41 ∷ []) ++ left0)) (sym made) ∙ h.0,
  let l = ap length made in let more = h.1 in omega (arith, length-append out0 before),
)

-- and in three
pub more_made : (before name core left0 left1 out0 out1 out2 out3 : List ℕ) → out1 ≡ out0 ++ before
    → out2 ≡ out1 ++ name → Turns (in_brackets (32 ∷ []) core) left0 left1 out2 out3
    → Turns (in_brackets before (name ++ 32 ∷ core)) left0 left1 out0 out3
more_made before name core left0 left1 out0 out1 out2 out3 e f h =
    subst (λ x. Turns (x ++ 41 ∷ []) left0 left1 out0 out3) (append_assoc before name (32 ∷ core))
    (turns_more (before ++ name) (32 ∷ []) core left0 left1 out0 out2 out3
    (f ∙ ap (λ x. x ++ name) e ∙ append_assoc out0 before name) h)

-- no core has an empty text
pub printed_some : (names : List (List ℕ)) (c : Core) → 0 < length (printed names c)
printed_some names (Set s) = omega arith
printed_some names (Seq ps) = omega arith
printed_some names (Choice ps) = omega arith
printed_some names (Many p) = omega arith
printed_some names (Not p) = omega arith
printed_some names (And p) = omega arith
printed_some names (Behind l m p) = omega arith
printed_some names (Call r) = omega arith
printed_some names (Capture c p) = omega arith
printed_some names (Note x) = omega arith
printed_some names Start = omega arith
printed_some names End = omega arith
printed_some names Halt = omega arith

-- the name of a rule, its core, and what follows
pub rule_split : (name core more : List ℕ)
    → (((name ++ codes " = ") ++ core) ++ codes "\n") ++ more ≡ (name ++ codes " = ") ++ (core ++ (10 ∷ [] ++ more))
rule_split name core more =
    append_assoc ((name ++ codes " = ") ++ core) (codes "\n") more
    ∙ append_assoc (name ++ codes " = ") core (codes "\n" ++ more)

-- the items of a rule
pub rule_left : (core more left left1 left2 left3 : List ℕ) → left1 ≡ more ++ left → left2 ≡ 10 ∷ [] ++ left1
    → left3 ≡ core ++ left2 → left3 ≡ (core ++ (10 ∷ [] ++ more)) ++ left
rule_left core more left left1 left2 left3 e f g =
    g ∙ ap (λ x. core ++ x) (f ∙ ap (λ x. 10 ∷ x) e) ∙ sym (append_assoc core (10 ∷ [] ++ more) left)

-- the line of an instruction, and those after it
pub lines_at : (f : R.Instr → Instr) (code : List R.Instr) (a n : ℕ) (d : R.Instr) → n < length code
    → lines a (drop n (map f code))
    ≡ (decimal a ++ 32 ∷ (instr_text (f (get_or code n d)) ++ 10 ∷ [])) ++ lines (a + 1) (drop (n + 1) (map f code))
lines_at f [] a n d lt = absurd (omega arith)
lines_at f (x ∷ xs) a zero d lt =
    let more = lines (a + 1) (map f xs) in
    ap (λ y. decimal a ++ 32 ∷ y) (sym (append_assoc (instr_text (f x)) (10 ∷ []) more))
    ∙ sym (append_assoc (decimal a) (32 ∷ (instr_text (f x) ++ 10 ∷ [])) more)
lines_at f (x ∷ xs) a (suc n) d lt =
    let e : suc n + 1 ≡ suc (n + 1) = omega arith in
    lines_at f xs a n d (omega arith)
    ∙ ap
    (λ k. (decimal a ++ 32 ∷ (instr_text (f (get_or xs n d)) ++ 10 ∷ [])) ++ lines (a + 1) (drop k (map f (x ∷ xs))))
    (sym e)

pub lines_past : (f : R.Instr → Instr) (code : List R.Instr) (a n : ℕ) → length code ≤ n
    → lines a (drop n (map f code)) ≡ []
lines_past f [] a zero h = refl
lines_past f [] a (suc n) h = refl
lines_past f (x ∷ xs) a zero h = absurd (omega arith)
lines_past f (x ∷ xs) a (suc n) h = lines_past f xs a n (omega arith)

pub rules_past : (names : List (List ℕ)) (marks : ℕ → Bool) (k n : ℕ) (rows : List Row) → length rows ≤ n
    → rule_lines names marks k (drop n rows) ≡ []
rules_past names marks k zero [] h = refl
rules_past names marks k (suc n) [] h = refl
rules_past names marks k zero (x ∷ xs) h = absurd (omega arith)
rules_past names marks k (suc n) (x ∷ xs) h = rules_past names marks k n xs (omega arith)

-- all items of an expansion
pub all_left : (head core rules code left1 left2 left3 left4 left5 : List ℕ) → left1 ≡ code ++ []
    → left2 ≡ rules ++ left1 → left3 ≡ 10 ∷ [] ++ left2 → left4 ≡ core ++ left3 → left5 ≡ head ++ left4
    → left5 ≡ (((head ++ core) ++ 10 ∷ []) ++ rules) ++ code
all_left head core rules code left1 left2 left3 left4 left5 e1 e2 e3 e4 e5 =
    let more : left2 ≡ rules ++ code = e2 ∙ ap (λ x. rules ++ x) (e1 ∙ append-nil code) in
    e5 ∙ ap (λ x. head ++ x) (e4 ∙ ap (λ x. core ++ x) (e3 ∙ ap (λ x. 10 ∷ x) more))
    ∙ sym (append_assoc head core (10 ∷ [] ++ (rules ++ code)))
    ∙ sym (append_assoc (head ++ core) (10 ∷ []) (rules ++ code))
    ∙ sym (append_assoc ((head ++ core) ++ 10 ∷ []) rules code)
