-- Every choice in the core of what a text can be read as has a part.
use Rattle.std.proofs.Common.{ℕ, zero, suc, ◌-◌, List, [], ◌∷◌, Option, Some, None}
use Rattle.std.specs.Prelude.{Bool, true, false, ◌||◌, if◌then◌else◌, min, slice_get}
use Rattle.std.specs.List.{AllByRecursion}
use Rattle.rpl_core.specs.Core.{Core, Set, Seq, Choice, Many, Not, And, Behind, Call, Capture, Note, Cores, NoMore}
use Rattle.rpl_core.specs.Core.{Then}
use Rattle.rpl_core.specs.Core as C
use Rattle.rpl_core.specs.Lengths.{has_call, has_repetition, greatest, least}
use Rattle.rpl_expand.specs.Expansion.{Scope, core, cores, is_cooked, is_prefix, signed_by, spaced}
use Rattle.rpl_expand.proofs.Parted.{Parted, AllParted}
use Rattle.rpl_forms.specs.Forms.{casing_under, cooked_repeat, copies, endless, found, macro_core, or_nothing}
use Rattle.rpl_forms.specs.Forms.{pair, repeat, repeated, seq_of, sets, spaced_by}
use Rattle.rpl_forms.specs.Inlining.{Inners, called, inlined, inlined_all}
use Rattle.rpl_macro.specs.Kinds.{kind_of}
use Rattle.rpl_macro.specs.Macros.{text_of}
use Rattle.rpl_macro.specs.declared.casing.Casing.{Casing}
use Rattle.rpl_macro.specs.declared.kind.Macro.{Macro}
use Rattle.rpl_macro.specs.declared.kind.Macro.TheVariants.{Find, FindAll, KeepTo, Ci, Uci, Message, Error}
use Rattle.rpl_syntax.specs.Expression.{Expr, Exprs, Nil, Cons}
use Rattle.rpl_syntax.specs.Expression as X
use Rattle.rpl_syntax.specs.Readable.{Good, Good_items, Good_choice, Good_parts}
use Rattle.rpl_syntax.specs.declared.expr.Sign.{Sign}
use Rattle.rpl_syntax.specs.declared.expr.Sign.TheVariants as S

-- ---- what stands for a rule in a look-behind

abbrev pub InnerHas : Option Core → Type 0
InnerHas None = Unit {0}
InnerHas (Some p) = Parted p

abbrev pub InnersHave : Inners → Type 0
InnersHave I = AllByRecursion InnerHas I

called_has : (I : Inners) (i r : ℕ) → InnersHave I → Parted (called r (slice_get I i))
called_has [] i r h = tt
called_has (None ∷ I) zero r h = tt
called_has (Some p ∷ I) zero r h = h.0
called_has (x ∷ I) (suc i) r h = called_has I i r h.1

mutual
  pub inlined_has : (I : Inners) (p : Core) → InnersHave I → Parted p → Parted (inlined I p)
  inlined_has I (Set s) i h = tt
  inlined_has I (Seq ps) i h = all_inlined I ps i h
  inlined_has I (Choice NoMore) i h = absurd h
  inlined_has I (Choice (Then p ps)) i h = (inlined_has I p i h.0, all_inlined I ps i h.1)
  inlined_has I (Many p) i h = inlined_has I p i h
  inlined_has I (Not p) i h = inlined_has I p i h
  inlined_has I (And p) i h = inlined_has I p i h
  inlined_has I (Behind l m p) i h = h
  inlined_has I (Call r) i h = called_has I r r i
  inlined_has I (Capture c p) i h = inlined_has I p i h
  inlined_has I (Note x) i h = tt
  inlined_has I C.Start i h = tt
  inlined_has I C.End i h = tt
  inlined_has I C.Halt i h = tt

  all_inlined : (I : Inners) (ps : Cores) → InnersHave I → AllParted ps → AllParted (inlined_all I ps)
  all_inlined I NoMore i h = tt
  all_inlined I (Then p ps) i h = (inlined_has I p i h.0, all_inlined I ps i h.1)

-- ---- the forms

seq_has : (ps : Cores) → AllParted ps → Parted (seq_of ps)
seq_has NoMore h = tt
seq_has (Then p NoMore) h = h.0
seq_has (Then p (Then q ps)) h = h

sets_have : (c : Casing) (t : List ℕ) → AllParted (sets c t)
sets_have c [] = tt
sets_have c (x ∷ t) = (tt, sets_have c t)

copies_have : (n : ℕ) (p : Core) (rest : Cores) → Parted p → AllParted rest → AllParted (copies n p rest)
copies_have zero p rest h k = k
copies_have (suc n) p rest h k = (h, copies_have n p rest h k)

or_nothing_has : (p : Core) → Parted p → Parted (or_nothing p)
or_nothing_has p h = (h, (tt, tt))

pair_has : (p q : Core) → Parted p → Parted q → Parted (pair p q)
pair_has p q h k = (h, (k, tt))

spaced_has : (prefix : Bool) (b : ℕ) (p : Core) (ps : Cores) → Parted p → AllParted ps
    → AllParted (spaced_by prefix (Call b) p ps)
spaced_has prefix b p NoMore h k = (h, tt)
spaced_has true b p (Then q ps) h k = (h, k)
spaced_has false b p (Then q ps) h k = (h, (tt, k))

endless_has : (p : Core) (n : ℕ) → Parted p → Parted (endless p n)
endless_has p zero h = h
endless_has p (suc n) h = (h, copies_have n p (Then (Many p) NoMore) h (h, tt))

repeat_has : (p : Core) (n : ℕ) (m : Option ℕ) → Parted p → Parted (repeat p n m)
repeat_has p n None h = endless_has p n h
repeat_has p n (Some m) h =
    copies_have n p (copies (m - n) (or_nothing p) NoMore) h
    (copies_have (m - n) (or_nothing p) NoMore (or_nothing_has p h) tt)

module _ (b : ℕ) (p : Core) (h : Parted p) where
  turn : Parted (pair (Call b) p)
  turn = pair_has (Call b) p tt h

  turns_have : (n m : ℕ)
      → AllParted (copies n (pair (Call b) p) (copies m (or_nothing (pair (Call b) p)) NoMore))
  turns_have n m =
      copies_have n (pair (Call b) p) (copies m (or_nothing (pair (Call b) p)) NoMore) turn
      (copies_have m (or_nothing (pair (Call b) p)) NoMore (or_nothing_has (pair (Call b) p) turn) tt)

  cooked_has : (n : ℕ) (m : Option ℕ) → Parted (cooked_repeat (Call b) p n m)
  cooked_has zero None =
      or_nothing_has (pair p (Many (pair (Call b) p))) (pair_has p (Many (pair (Call b) p)) h turn)
  cooked_has (suc n) None = (h, copies_have n (pair (Call b) p) (Then (Many (pair (Call b) p)) NoMore) turn (turn, tt))
  cooked_has zero (Some zero) = tt
  cooked_has zero (Some (suc m)) = ((h, turns_have 0 m), (tt, tt))
  cooked_has (suc n) (Some m) = (h, turns_have n (m - suc n))

repeated_has : (cooked : Bool) (b : ℕ) (p : Core) (n : ℕ) (m : Option ℕ) → Parted p
    → Parted (repeated cooked (Call b) p n m)
repeated_has true b p n m h = cooked_has b p h n m
repeated_has false b p n m h = repeat_has p n m h

behind_by : (b : Bool) (l m : ℕ) (p : Core) → Parted p → Parted (if b then Behind 0 0 p else Behind l m p)
behind_by true l m p h = h
behind_by false l m p h = h

signed_has : (I : Inners) (s : Sign) (p : Core) → InnersHave I → Parted p → Parted (signed_by I s p)
signed_has I S.Not p i h = h
signed_has I S.Ahead p i h = h
signed_has I S.Behind p i h =
    let q = inlined I p in
    behind_by (has_call q || has_repetition q) (min 65536 (least q)) (min 256 (greatest q)) q (inlined_has I p i h)

found_has : (p : Core) → Parted p → Parted (found p)
found_has p h = ((h, (tt, tt)), (h, tt))

macro_has : (k : Option Macro) (t : List ℕ) (p : Core) → Parted p → Parted (macro_core k t p)
macro_has None t p h = h
macro_has (Some Find) t p h = found_has p h
macro_has (Some FindAll) t p h = endless_has (found p) 1 (found_has p h)
macro_has (Some KeepTo) t p h = ((h, (tt, tt)), (h, tt))
macro_has (Some Ci) t p h = h
macro_has (Some Uci) t p h = h
macro_has (Some Message) t p h = tt
macro_has (Some Error) t p h = (tt, (tt, tt))

-- ---- expressions

mutual
  pub core_has : (c : Casing) (s : Scope) (e : Expr) → InnersHave s.inners → Good e → Parted (core c s e)
  core_has c s (X.Text t) i g = seq_has (sets c t) (sets_have c t)
  core_has c s (X.Class r negated) i g = tt
  core_has c s X.Any i g = tt
  core_has c s X.Start i g = tt
  core_has c s X.End i g = tt
  core_has c s X.Boundary i g = tt
  core_has c s (X.Name q) i g = tt
  core_has c s (X.Cooked ps) i g = seq_has (spaced c s ps) (spaced_have c s ps i g)
  core_has c s (X.Raw ps) i g = seq_has (cores c s ps) (items_have c s ps i g)
  core_has c s (X.Choice ps) i g = choice_has c s ps i g
  core_has c s (X.Both p q) i g = (core_has c s p i g.0, (core_has c s q i g.1, tt))
  core_has c s (X.Prefix sign p) i g = signed_has s.inners sign (core c s p) i (core_has c s p i g)
  core_has c s (X.Repeat p l m) i g = repeated_has (is_cooked p) s.boundary (core c s p) l m (core_has c s p i g)
  core_has c s (X.Macro q p) i g =
      let under = casing_under (kind_of q.name) c in
      macro_has (kind_of q.name) (text_of p) (core under s p) (core_has under s p i g.1)
  core_has c s (X.Marked m p) i g = absurd g
  core_has c s (X.Note t) i g = absurd g

  items_have : (c : Casing) (s : Scope) (ps : Exprs) → InnersHave s.inners → Good_items ps → AllParted (cores c s ps)
  items_have c s Nil i g = absurd g
  items_have c s (Cons p Nil) i g = (core_has c s p i g, tt)
  items_have c s (Cons p (Cons q ps)) i g = (core_has c s p i g.0, items_have c s (Cons q ps) i g.1)

  spaced_have : (c : Casing) (s : Scope) (ps : Exprs) → InnersHave s.inners → Good_items ps
      → AllParted (spaced c s ps)
  spaced_have c s Nil i g = absurd g
  spaced_have c s (Cons p Nil) i g = (core_has c s p i g, tt)
  spaced_have c s (Cons p (Cons q ps)) i g =
      spaced_has (is_prefix p) s.boundary (core c s p) (spaced c s (Cons q ps)) (core_has c s p i g.0)
      (spaced_have c s (Cons q ps) i g.1)

  choice_has : (c : Casing) (s : Scope) (ps : Exprs) → InnersHave s.inners → Good_choice ps
      → Parted (Choice (cores c s ps))
  choice_has c s Nil i g = absurd g
  choice_has c s (Cons p Nil) i g = absurd g
  choice_has c s (Cons p (Cons q ps)) i g = (core_has c s p i g.0, parts_have c s (Cons q ps) i g.1)

  parts_have : (c : Casing) (s : Scope) (ps : Exprs) → InnersHave s.inners → Good_parts ps → AllParted (cores c s ps)
  parts_have c s Nil i g = absurd g
  parts_have c s (Cons p Nil) i g = (core_has c s p i g.0, tt)
  parts_have c s (Cons p (Cons q ps)) i g = (core_has c s p i g.0, parts_have c s (Cons q ps) i g.1)
