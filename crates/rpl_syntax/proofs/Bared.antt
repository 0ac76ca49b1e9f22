-- What is printed is read as the same expression, where a raw group of one item is that item.
use Rattle.std.proofs.Common.{◌≡◌, ℕ, List, refl, sym, ap, ◌∙◌}
use Rattle.std.specs.Prelude.{Bool, true, false, IsUtf8}
use Rattle.rpl_syntax.specs.Expression.{Expr, Text, Class, Any, Start, End, Boundary, Name, Cooked, Raw, Choice, Both}
use Rattle.rpl_syntax.specs.Expression.{Prefix, Repeat, Macro, Marked, Note, Exprs, Nil, Cons, joined}
use Rattle.rpl_syntax.specs.Braces.{again, items_again, parts_again, bare, bare_all, grouped, plain, plain_all}
use Rattle.rpl_syntax.specs.Braces.{unplaced}
use Rattle.rpl_syntax.specs.Printed.{is_joined, is_compound}
use Rattle.rpl_syntax.specs.Readable.{Good}
use Rattle.rpl_syntax.specs.Texts.{HasFewTokens, IsReadAs, ReadsAsItself, Writable}
use Rattle.rpl_syntax.proofs.Back.{printed_reads_back}
use Rattle.rpl_syntax.proofs.Held.{read_held}

-- two equal parts make equal wholes
cons_same : {p q : Expr} {ps qs : Exprs} → p ≡ q → ps ≡ qs → Cons p ps ≡ Cons q qs
cons_same e f = cc

both_same : {p q r s : Expr} → p ≡ r → q ≡ s → Both p q ≡ Both r s
both_same e f = cc

-- ---- places don't matter

mutual
  unplaced_bare : (x : Expr) → bare (plain x) ≡ bare x
  unplaced_bare (Text s) = refl
  unplaced_bare (Class s negated) = refl
  unplaced_bare Any = refl
  unplaced_bare Start = refl
  unplaced_bare End = refl
  unplaced_bare Boundary = refl
  unplaced_bare (Name q) = refl
  unplaced_bare (Cooked ps) = ap Cooked (all_unplaced ps)
  unplaced_bare (Raw ps) = ap (joined true) (all_unplaced ps)
  unplaced_bare (Choice ps) = ap Choice (all_unplaced ps)
  unplaced_bare (Both p q) = both_same (unplaced_bare p) (unplaced_bare q)
  unplaced_bare (Prefix s p) = ap (Prefix s) (unplaced_bare p)
  unplaced_bare (Repeat p l m) = ap (λ x. Repeat x l m) (unplaced_bare p)
  unplaced_bare (Macro q p) = ap (Macro (unplaced q)) (unplaced_bare p)
  unplaced_bare (Marked m p) = ap (Marked m) (unplaced_bare p)
  unplaced_bare (Note s) = refl

  all_unplaced : (ps : Exprs) → bare_all (plain_all ps) ≡ bare_all ps
  all_unplaced Nil = refl
  all_unplaced (Cons p rest) = cons_same (unplaced_bare p) (all_unplaced rest)

-- ---- nor do braces

braced_bare : (b : Bool) (p : Expr) → bare (grouped b p) ≡ bare p
braced_bare true p = refl
braced_bare false p = refl

mutual
  again_bare : (x : Expr) → bare (again x) ≡ bare x
  again_bare (Text s) = refl
  again_bare (Class s negated) = refl
  again_bare Any = refl
  again_bare Start = refl
  again_bare End = refl
  again_bare Boundary = refl
  again_bare (Name q) = refl
  again_bare (Cooked ps) = ap Cooked (items_bare ps)
  again_bare (Raw ps) = ap (joined true) (items_bare ps)
  again_bare (Choice ps) = ap Choice (parts_bare ps)
  again_bare (Both p q) = both_same (braced_bare (is_joined p) (again p) ∙ again_bare p) (again_bare q)
  again_bare (Prefix s p) = ap (Prefix s) (braced_bare (is_joined p) (again p) ∙ again_bare p)
  again_bare (Repeat p l m) = ap (λ x. Repeat x l m) (braced_bare (is_compound p) (again p) ∙ again_bare p)
  again_bare (Macro q p) = ap (Macro (unplaced q)) (braced_bare (is_joined p) (again p) ∙ again_bare p)
  again_bare (Marked m p) = ap (Marked m) (again_bare p)
  again_bare (Note s) = refl

  items_bare : (ps : Exprs) → bare_all (items_again ps) ≡ bare_all ps
  items_bare Nil = refl
  items_bare (Cons p rest) = cons_same (braced_bare (is_joined p) (again p) ∙ again_bare p) (items_bare rest)

  parts_bare : (ps : Exprs) → bare_all (parts_again ps) ≡ bare_all ps
  parts_bare Nil = refl
  parts_bare (Cons p Nil) = cons_same (again_bare p) refl
  parts_bare (Cons p (Cons q rest)) = cons_same (braced_bare (is_joined p) (again p)
      ∙ again_bare p) (parts_bare (Cons q rest))

-- ---- the laws

pub reads_as_itself : (x : Expr) → Good x → Writable x → HasFewTokens x → ReadsAsItself x
reads_as_itself x g w few =
    let b = printed_reads_back x g w few in
    (b.0, b.1, sym (unplaced_bare b.0) ∙ ap bare b.2 ∙ unplaced_bare (again x) ∙ again_bare x)

pub read_reads_as_itself : (s : List ℕ) (x : Expr) → IsUtf8 s → IsReadAs s x → HasFewTokens x → ReadsAsItself x
read_reads_as_itself s x u h few = let held = read_held s x u h in reads_as_itself x held.0 held.1 few
