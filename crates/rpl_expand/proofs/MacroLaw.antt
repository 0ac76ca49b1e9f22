-- The core of a macro is that of the expression that its equation gives.
use Rattle.std.proofs.Common.{◌≡◌, ℕ, ◌+◌, ◌-◌, List, [], ◌∷◌, Option, Some, None, refl, sym, ap, ap₂, ◌∙◌}
use Rattle.std.specs.Prelude.{Bool, true, false, ◌||◌, if◌then◌else◌}
use Rattle.rpl_text.specs.Ascii.{is_upper, is_lower, is_letter}
use Rattle.regex_class.specs.Ranges.{Range}
use Rattle.rpl_core.specs.Core.{Core, Call, Note, Set, Then}
use Rattle.rpl_core.specs.Core as C
use Rattle.rpl_macro.specs.Casings.{recased, recased_all, either_case, either_cases, every_case, pair_of, single}
use Rattle.rpl_macro.specs.Casings.{set_in, has_letter, keeps_text, under_ci}
use Rattle.rpl_macro.specs.Kinds.{kind_of}
use Rattle.rpl_macro.specs.declared.kind.Macro.{Macro}
use Rattle.rpl_macro.specs.Macros.{applied, halt, text_of}
use Rattle.rpl_macro.specs.declared.casing.Casing.{Casing}
use Rattle.rpl_macro.specs.declared.casing.Casing.TheVariants.{Plain, Ascii, Folded}
use Rattle.rpl_macro.specs.declared.kind.Macro.TheVariants.{Find, FindAll, KeepTo, Ci, Uci, Message, Error}
use Rattle.rpl_macro.proofs.Twice.{alone_widened, lower_widened, upper_widened, widened_twice}
use Rattle.rpl_syntax.specs.Expression.{Expr, Text, Class, Any, Start, End, Boundary, Name, Cooked, Raw, Choice, Both}
use Rattle.rpl_syntax.specs.Expression.{Prefix, Repeat, Marked, Exprs, Nil, Cons}
use Rattle.rpl_syntax.specs.Expression as X
use Rattle.rpl_forms.specs.Forms.{casing_under, macro_core, mark_name, halt_rule, pair, repeated, seq_of, sets}
use Rattle.rpl_forms.specs.Forms.{signed, spaced_by, text_core}
use Rattle.rpl_expand.specs.Laws.{FoldsOnce}
use Rattle.rpl_expand.specs.Expansion.{Scope, core, cores, spaced, is_cooked, is_prefix, signed_by}

find_law : (c : Casing) (s : Scope) (p : Expr)
    → core c s (applied Find p) ≡ macro_core (Some Find) (text_of p) (core c s p)
find_law c s p = refl

findall_law : (c : Casing) (s : Scope) (p : Expr)
    → core c s (applied FindAll p) ≡ macro_core (Some FindAll) (text_of p) (core c s p)
findall_law c s p = refl

keepto_law : (c : Casing) (s : Scope) (p : Expr)
    → core c s (applied KeepTo p) ≡ macro_core (Some KeepTo) (text_of p) (core c s p)
keepto_law c s p = refl

message_law : (c : Casing) (s : Scope) (p : Expr)
    → core c s (applied Message p) ≡ macro_core (Some Message) (text_of p) (core c s p)
message_law c s p = refl

-- the name that `error` uses is bound to the built-in rule in every module
error_law : (c : Casing) (s : Scope) (p : Expr) → s.rule halt ≡ halt_rule
    → core c s (applied Error p) ≡ macro_core (Some Error) (text_of p) (core c s p)
error_law c s p h = ap (λ r. pair (Note (text_of p)) (Call r)) h

-- ---- changes of case

-- the casing in which an expression is that was changed to the first and then to the second
abbrev after : Casing → Casing → Casing
after Plain c = c
after Ascii c = under_ci c
after Folded c = Folded

-- a set in both
set_after : FoldsOnce → (k c : Casing) (r : List Range) → set_in c (set_in k r) ≡ set_in (after k c) r
set_after f Plain c r = refl
set_after f Ascii Plain r = refl
set_after f Ascii Ascii r = widened_twice r
set_after f Ascii Folded r = f.cases_in r
set_after f Folded Plain r = refl
set_after f Folded Ascii r = f.cases_out r
set_after f Folded Folded r = f.again r

class_after : FoldsOnce → (k c : Casing) (r : List Range) (negated : Bool)
    → signed negated (set_in c (set_in k r)) ≡ signed negated (set_in (after k c) r)
class_after f k c r negated = ap (signed negated) (set_after f k c r)

-- one character in either case
either_by : FoldsOnce → (c : Casing) (s : Scope) (x : ℕ) (u l : Bool) → is_upper x ≡ u → is_lower x ≡ l
    → core c s (if u then pair_of x (x + 32) else (if l then pair_of x (x - 32) else Text (x ∷ [])))
    ≡ Set (set_in (under_ci c) (single x))
either_by f c s x true l e g =
    ap (λ r. Set (set_in c r)) (sym (upper_widened x e)) ∙ ap Set (set_after f Ascii c (single x))
either_by f c s x false true e g =
    ap (λ r. Set (set_in c r)) (sym (lower_widened x e g)) ∙ ap Set (set_after f Ascii c (single x))
either_by f c s x false false e g =
    ap (λ r. Set (set_in c r)) (sym (alone_widened x e g)) ∙ ap Set (set_after f Ascii c (single x))

either_after : FoldsOnce → (c : Casing) (s : Scope) (x : ℕ)
    → core c s (either_case x) ≡ Set (set_in (under_ci c) (single x))
either_after f c s x = either_by f c s x (is_upper x) (is_lower x) refl refl

either_all : FoldsOnce → (c : Casing) (s : Scope) (t : List ℕ) → cores c s (either_cases t) ≡ sets (under_ci c) t
either_all f c s [] = refl
either_all f c s (x ∷ t) = ap₂ Then (either_after f c s x) (either_all f c s t)

left_false : (a b : Bool) → (a || b) ≡ false → a ≡ false
left_false true b e = absurd cc
left_false false b e = refl

right_false : (a b : Bool) → (a || b) ≡ false → b ≡ false
right_false true b e = absurd cc
right_false false b e = e

-- a text without letters stays
plain_all : FoldsOnce → (c : Casing) (t : List ℕ) → has_letter t ≡ false → sets c t ≡ sets (under_ci c) t
plain_all f c [] e = refl
plain_all f c (x ∷ t) e =
    let here = left_false (is_letter x) (has_letter t) e in
    let alone = alone_widened x (left_false (is_upper x) (is_lower x) here)
    (right_false (is_upper x) (is_lower x) here) in
    ap₂ (λ r ps. Then (Set r) ps) (ap (set_in c) (sym alone) ∙ set_after f Ascii c (single x))
    (plain_all f c t (right_false (is_letter x) (has_letter t) e))

ci_text : FoldsOnce → (c : Casing) (s : Scope) (t : List ℕ) (b : Bool) → has_letter t ≡ b
    → core c s (if b then Raw (either_cases t) else Text t) ≡ text_core (under_ci c) t
ci_text f c s t true e = ap seq_of (either_all f c s t)
ci_text f c s t false e = ap seq_of (plain_all f c t e)

every_all : FoldsOnce → (c : Casing) (s : Scope) (t : List ℕ) → cores c s (every_case t) ≡ sets Folded t
every_all f c s [] = refl
every_all f c s (x ∷ t) = ap₂ (λ r ps. Then (Set r) ps) (set_after f Folded c (single x)) (every_all f c s t)

text_after : FoldsOnce → (k c : Casing) (s : Scope) (t : List ℕ)
    → core c s (recased k (Text t)) ≡ text_core (after k c) t
text_after f Plain c s t = refl
text_after f Ascii c s t = ci_text f c s t (has_letter t) refl
text_after f Folded c s [] = refl
text_after f Folded c s (x ∷ t) = ap seq_of (every_all f c s (x ∷ t))

-- a text is no group and no predicate, in whatever casing
cooked_if : (b : Bool) (t : List ℕ) → is_cooked (if b then Raw (either_cases t) else Text t) ≡ false
cooked_if true t = refl
cooked_if false t = refl

prefix_if : (b : Bool) (t : List ℕ) → is_prefix (if b then Raw (either_cases t) else Text t) ≡ false
prefix_if true t = refl
prefix_if false t = refl

cooked_text : (k : Casing) (t : List ℕ) → is_cooked (recased k (Text t)) ≡ false
cooked_text Plain t = refl
cooked_text Ascii t = cooked_if (has_letter t) t
cooked_text Folded [] = refl
cooked_text Folded (x ∷ t) = refl

prefix_text : (k : Casing) (t : List ℕ) → is_prefix (recased k (Text t)) ≡ false
prefix_text Plain t = refl
prefix_text Ascii t = prefix_if (has_letter t) t
prefix_text Folded [] = refl
prefix_text Folded (x ∷ t) = refl

cooked_after : (k : Casing) (p : Expr) → is_cooked (recased k p) ≡ is_cooked p
cooked_after k (Text t) = cooked_text k t
cooked_after k (Class r n) = refl
cooked_after k Any = refl
cooked_after k Start = refl
cooked_after k End = refl
cooked_after k Boundary = refl
cooked_after k (Name q) = refl
cooked_after k (Cooked ps) = refl
cooked_after k (Raw ps) = refl
cooked_after k (Choice ps) = refl
cooked_after k (Both p q) = refl
cooked_after k (Prefix s p) = refl
cooked_after k (Repeat p l m) = refl
cooked_after k (X.Macro q p) = refl
cooked_after k (Marked m p) = refl
cooked_after k (X.Note t) = refl

prefix_after : (k : Casing) (p : Expr) → is_prefix (recased k p) ≡ is_prefix p
prefix_after k (Text t) = prefix_text k t
prefix_after k (Class r n) = refl
prefix_after k Any = refl
prefix_after k Start = refl
prefix_after k End = refl
prefix_after k Boundary = refl
prefix_after k (Name q) = refl
prefix_after k (Cooked ps) = refl
prefix_after k (Raw ps) = refl
prefix_after k (Choice ps) = refl
prefix_after k (Both p q) = refl
prefix_after k (Prefix s p) = refl
prefix_after k (Repeat p l m) = refl
prefix_after k (X.Macro q p) = refl
prefix_after k (Marked m p) = refl
prefix_after k (X.Note t) = refl

-- under a macro
under_after : (k c : Casing) (m : Option Macro) → after k (casing_under m c) ≡ casing_under m (after k c)
under_after k c None = refl
under_after k c (Some Find) = refl
under_after k c (Some FindAll) = refl
under_after k c (Some KeepTo) = refl
under_after Plain c (Some Ci) = refl
under_after Ascii Plain (Some Ci) = refl
under_after Ascii Ascii (Some Ci) = refl
under_after Ascii Folded (Some Ci) = refl
under_after Folded c (Some Ci) = refl
under_after Plain c (Some Uci) = refl
under_after Ascii c (Some Uci) = refl
under_after Folded c (Some Uci) = refl
under_after k c (Some Message) = refl
under_after k c (Some Error) = refl

-- what takes a text needs no core, and nothing else needs a text
says : (m : Option Macro) (t : List ℕ) (p q : Core) → keeps_text m ≡ true → macro_core m t p ≡ macro_core m t q
says None t p q e = absurd cc
says (Some Find) t p q e = absurd cc
says (Some FindAll) t p q e = absurd cc
says (Some KeepTo) t p q e = absurd cc
says (Some Ci) t p q e = absurd cc
says (Some Uci) t p q e = absurd cc
says (Some Message) t p q e = refl
says (Some Error) t p q e = refl

searches : (m : Option Macro) (t u : List ℕ) (p : Core) → keeps_text m ≡ false → macro_core m t p ≡ macro_core m u p
searches None t u p e = refl
searches (Some Find) t u p e = refl
searches (Some FindAll) t u p e = refl
searches (Some KeepTo) t u p e = refl
searches (Some Ci) t u p e = refl
searches (Some Uci) t u p e = refl
searches (Some Message) t u p e = absurd cc
searches (Some Error) t u p e = absurd cc

macro_after : (k c : Casing) (s : Scope) (m : Option Macro) (p : Expr) (b : Bool) → keeps_text m ≡ b
    → core (casing_under m c) s (recased k p) ≡ core (after k (casing_under m c)) s p
    → macro_core m (text_of (if b then p else recased k p))
    (core (casing_under m c) s (if b then p else recased k p))
    ≡ macro_core m (text_of p) (core (casing_under m (after k c)) s p)
macro_after k c s m p true e h =
    says m (text_of p) (core (casing_under m c) s p) (core (casing_under m (after k c)) s p) e
macro_after k c s m p false e h =
    ap (macro_core m (text_of (recased k p))) (h ∙ ap (λ d. core d s p) (under_after k c m))
    ∙ searches m (text_of (recased k p)) (text_of p) (core (casing_under m (after k c)) s p) e

-- an expression that was changed to one casing, in another
mutual
  pub core_after : FoldsOnce → (k c : Casing) (s : Scope) (p : Expr) → core c s (recased k p) ≡ core (after k c) s p
  core_after f k c s (Text t) = text_after f k c s t
  core_after f k c s (Class r n) = ap Set (class_after f k c r n)
  core_after f k c s Any = refl
  core_after f k c s Start = refl
  core_after f k c s End = refl
  core_after f k c s Boundary = refl
  core_after f k c s (Name q) = refl
  core_after f k c s (Cooked ps) = ap seq_of (spaced_after f k c s ps)
  core_after f k c s (Raw ps) = ap seq_of (cores_after f k c s ps)
  core_after f k c s (Choice ps) = ap C.Choice (cores_after f k c s ps)
  core_after f k c s (Both p q) = ap₂ (λ x y. pair (C.And x) y) (core_after f k c s p) (core_after f k c s q)
  core_after f k c s (Prefix sign p) = ap (signed_by s.inners sign) (core_after f k c s p)
  core_after f k c s (Repeat p l m) =
      ap₂ (λ b x. repeated b (Call s.boundary) x l m) (cooked_after k p) (core_after f k c s p)
  core_after f k c s (X.Macro q p) =
      macro_after k c s (kind_of q.name) p (keeps_text (kind_of q.name)) refl
      (core_after f k (casing_under (kind_of q.name) c) s p)
  core_after f k c s (Marked m p) = ap (C.Capture (mark_name m)) (core_after f k c s p)
  core_after f k c s (X.Note t) = refl

  pub cores_after : FoldsOnce → (k c : Casing) (s : Scope) (ps : Exprs)
      → cores c s (recased_all k ps) ≡ cores (after k c) s ps
  cores_after f k c s Nil = refl
  cores_after f k c s (Cons p ps) = ap₂ Then (core_after f k c s p) (cores_after f k c s ps)

  pub spaced_after : FoldsOnce → (k c : Casing) (s : Scope) (ps : Exprs)
      → spaced c s (recased_all k ps) ≡ spaced (after k c) s ps
  spaced_after f k c s Nil = refl
  spaced_after f k c s (Cons p ps) =
      ap (λ b. spaced_by b (Call s.boundary) (core c s (recased k p)) (spaced c s (recased_all k ps)))
      (prefix_after k p)
      ∙ ap₂ (spaced_by (is_prefix p) (Call s.boundary)) (core_after f k c s p) (spaced_after f k c s ps)

-- the core of a macro is that of the expression of its equation
pub macro_law : FoldsOnce → (c : Casing) (s : Scope) (p : Expr) (k : Macro) → s.rule halt ≡ halt_rule
    → macro_core (Some k) (text_of p) (core (casing_under (Some k) c) s p) ≡ core c s (applied k p)
macro_law f c s p Find h = refl
macro_law f c s p FindAll h = refl
macro_law f c s p KeepTo h = refl
macro_law f c s p Ci h = sym (core_after f Ascii c s p)
macro_law f c s p Uci h = sym (core_after f Folded c s p)
macro_law f c s p Message h = refl
macro_law f c s p Error h = sym (error_law c s p h)
