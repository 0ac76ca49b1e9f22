-- What is read of a printed expression has the core of that expression.
use Rattle.std.proofs.Common.{◌≡◌, refl, sym, ap, ap₂, ◌∙◌}
use Rattle.std.specs.Prelude.{Bool, true, false, not, None, codes}
use Rattle.rpl_core.specs.Core.{And, Call, Capture, NoMore, Then}
use Rattle.rpl_core.specs.Core as C
use Rattle.rpl_forms.specs.Forms.{casing_under, macro_core, mark_name, pair, repeated, seq_of, spaced_by}
use Rattle.rpl_forms.specs.Inlining.{Inners}
use Rattle.rpl_macro.specs.Kinds.{kind_of}
use Rattle.rpl_macro.specs.Uses.{text_of}
use Rattle.rpl_macro.specs.declared.casing.Casing.{Casing}
use Rattle.rpl_macro.specs.declared.casing.Casing.TheVariants.{Plain}
use Rattle.rpl_names.specs.Roots.{Packages}
use Rattle.rpl_names.specs.Targets.{resolved}
use Rattle.rpl_syntax.specs.Braces.{again, items_again, parts_again, grouped, plain, plain_all, unplaced}
use Rattle.rpl_syntax.specs.Expression.{Expr, Exprs, Nil, Cons}
use Rattle.rpl_syntax.specs.Expression as X
use Rattle.rpl_syntax.specs.Printed.{is_joined, is_compound}
use Rattle.rpl_syntax.specs.declared.name.QName.{QName}
use Rattle.rpl_syntax.proofs.Back.{printed_reads_back}
use Rattle.rpl_expand.specs.Expansion.{Scope, core, cores, is_cooked, is_prefix, signed_by, spaced}
use Rattle.rpl_expand.specs.Laws.{BracesKeepCores, IgnoresPlaces, PrintingKeepsCores, PrintingKeepsPatterns}
use Rattle.rpl_expand.specs.Sets.{captures_of, goal_of, makes_tree, rule_of, scope_of}
use Rattle.rpl_expand.specs.Table.{captured, has_root}

-- ---- braces

-- what is asked of an expression beside its core, and that it is the same of two
record AreAlike (p q : Expr) : Type 0 where
  prefix : is_prefix p ≡ is_prefix q
  cooked : is_cooked p ≡ is_cooked q
  text : text_of p ≡ text_of q

alike : (p : Expr) → AreAlike p p
alike p = record { prefix = refl; cooked = refl; text = refl }

braced_item : (p : Expr) → AreAlike (grouped (is_joined p) (again p)) p
braced_item (X.Text t) = alike (X.Text t)
braced_item (X.Class r n) = alike (X.Class r n)
braced_item X.Any = alike X.Any
braced_item X.Start = alike X.Start
braced_item X.End = alike X.End
braced_item X.Boundary = alike X.Boundary
braced_item (X.Name q) = alike (X.Name q)
braced_item (X.Cooked ps) = record { prefix = refl; cooked = refl; text = refl }
braced_item (X.Raw ps) = record { prefix = refl; cooked = refl; text = refl }
braced_item (X.Choice ps) = record { prefix = refl; cooked = refl; text = refl }
braced_item (X.Both p q) = record { prefix = refl; cooked = refl; text = refl }
braced_item (X.Prefix s p) = record { prefix = refl; cooked = refl; text = refl }
braced_item (X.Repeat p l m) = record { prefix = refl; cooked = refl; text = refl }
braced_item (X.Macro q p) = record { prefix = refl; cooked = refl; text = refl }
braced_item (X.Marked m p) = record { prefix = refl; cooked = refl; text = refl }
braced_item (X.Note t) = alike (X.Note t)

braced_body : (p : Expr) → is_cooked (grouped (is_compound p) (again p)) ≡ is_cooked p
braced_body (X.Text t) = refl
braced_body (X.Class r n) = refl
braced_body X.Any = refl
braced_body X.Start = refl
braced_body X.End = refl
braced_body X.Boundary = refl
braced_body (X.Name q) = refl
braced_body (X.Cooked ps) = refl
braced_body (X.Raw ps) = refl
braced_body (X.Choice ps) = refl
braced_body (X.Both p q) = refl
braced_body (X.Prefix s p) = refl
braced_body (X.Repeat p l m) = refl
braced_body (X.Macro q p) = refl
braced_body (X.Marked m p) = refl
braced_body (X.Note t) = refl

module _ (s : Scope) where
  braced : (b : Bool) (c : Casing) (p q : Expr) → core c s p ≡ core c s q → core c s (grouped b p) ≡ core c s q
  braced true c p q e = e
  braced false c p q e = e

  mutual
    braces_core : (c : Casing) (p : Expr) → core c s (again p) ≡ core c s p
    braces_core c (X.Text t) = refl
    braces_core c (X.Class r n) = refl
    braces_core c X.Any = refl
    braces_core c X.Start = refl
    braces_core c X.End = refl
    braces_core c X.Boundary = refl
    braces_core c (X.Name q) = refl
    braces_core c (X.Cooked ps) = ap seq_of (braces_spaced c ps)
    braces_core c (X.Raw ps) = ap seq_of (braces_items c ps)
    braces_core c (X.Choice ps) = ap C.Choice (braces_parts c ps)
    braces_core c (X.Both p q) =
        ap₂ (λ x y. pair (And x) y) (braced (is_joined p) c (again p) p (braces_core c p)) (braces_core c q)
    braces_core c (X.Prefix sign p) =
        ap (signed_by s.inners sign) (braced (is_joined p) c (again p) p (braces_core c p))
    braces_core c (X.Repeat p l m) =
        ap₂ (λ k x. repeated k (Call s.boundary) x l m) (braced_body p)
        (braced (is_compound p) c (again p) p (braces_core c p))
    braces_core c (X.Macro q p) =
        ap₂ (macro_core (kind_of q.name)) (braced_item p).text
        (braced (is_joined p) (casing_under (kind_of q.name) c) (again p) p
        (braces_core (casing_under (kind_of q.name) c) p))
    braces_core c (X.Marked m p) = ap (Capture (mark_name m)) (braces_core c p)
    braces_core c (X.Note t) = refl

    braces_items : (c : Casing) (ps : Exprs) → cores c s (items_again ps) ≡ cores c s ps
    braces_items c Nil = refl
    braces_items c (Cons p ps) = ap₂ Then (braced (is_joined p) c (again p) p (braces_core c p)) (braces_items c ps)

    braces_parts : (c : Casing) (ps : Exprs) → cores c s (parts_again ps) ≡ cores c s ps
    braces_parts c Nil = refl
    braces_parts c (Cons p Nil) = ap (λ x. Then x NoMore) (braces_core c p)
    braces_parts c (Cons p (Cons q ps)) =
        ap₂ Then (braced (is_joined p) c (again p) p (braces_core c p)) (braces_parts c (Cons q ps))

    braces_spaced : (c : Casing) (ps : Exprs) → spaced c s (items_again ps) ≡ spaced c s ps
    braces_spaced c Nil = refl
    braces_spaced c (Cons p ps) =
        let item = grouped (is_joined p) (again p) in
        ap (λ k. spaced_by k (Call s.boundary) (core c s item) (spaced c s (items_again ps))) (braced_item p).prefix
        ∙ ap₂ (spaced_by (is_prefix p) (Call s.boundary)) (braced (is_joined p) c (again p) p (braces_core c p))
        (braces_spaced c ps)

pub braces_keep : BracesKeepCores
braces_keep c s p = braces_core s c p

-- ---- places

placed_item : (p : Expr) → AreAlike (plain p) p
placed_item (X.Text t) = alike (X.Text t)
placed_item (X.Class r n) = alike (X.Class r n)
placed_item X.Any = alike X.Any
placed_item X.Start = alike X.Start
placed_item X.End = alike X.End
placed_item X.Boundary = alike X.Boundary
placed_item (X.Name q) = record { prefix = refl; cooked = refl; text = refl }
placed_item (X.Cooked ps) = record { prefix = refl; cooked = refl; text = refl }
placed_item (X.Raw ps) = record { prefix = refl; cooked = refl; text = refl }
placed_item (X.Choice ps) = record { prefix = refl; cooked = refl; text = refl }
placed_item (X.Both p q) = record { prefix = refl; cooked = refl; text = refl }
placed_item (X.Prefix s p) = record { prefix = refl; cooked = refl; text = refl }
placed_item (X.Repeat p l m) = record { prefix = refl; cooked = refl; text = refl }
placed_item (X.Macro q p) = record { prefix = refl; cooked = refl; text = refl }
placed_item (X.Marked m p) = record { prefix = refl; cooked = refl; text = refl }
placed_item (X.Note t) = alike (X.Note t)

module _ (s : Scope) (free : IgnoresPlaces s.rule) where
  mutual
    places_core : (c : Casing) (p : Expr) → core c s (plain p) ≡ core c s p
    places_core c (X.Text t) = refl
    places_core c (X.Class r n) = refl
    places_core c X.Any = refl
    places_core c X.Start = refl
    places_core c X.End = refl
    places_core c X.Boundary = refl
    places_core c (X.Name q) = ap Call (free q)
    places_core c (X.Cooked ps) = ap seq_of (places_spaced c ps)
    places_core c (X.Raw ps) = ap seq_of (places_all c ps)
    places_core c (X.Choice ps) = ap C.Choice (places_all c ps)
    places_core c (X.Both p q) = ap₂ (λ x y. pair (And x) y) (places_core c p) (places_core c q)
    places_core c (X.Prefix sign p) = ap (signed_by s.inners sign) (places_core c p)
    places_core c (X.Repeat p l m) =
        ap₂ (λ k x. repeated k (Call s.boundary) x l m) (placed_item p).cooked (places_core c p)
    places_core c (X.Macro q p) =
        ap₂ (macro_core (kind_of q.name)) (placed_item p).text (places_core (casing_under (kind_of q.name) c) p)
    places_core c (X.Marked m p) = ap (Capture (mark_name m)) (places_core c p)
    places_core c (X.Note t) = refl

    places_all : (c : Casing) (ps : Exprs) → cores c s (plain_all ps) ≡ cores c s ps
    places_all c Nil = refl
    places_all c (Cons p ps) = ap₂ Then (places_core c p) (places_all c ps)

    places_spaced : (c : Casing) (ps : Exprs) → spaced c s (plain_all ps) ≡ spaced c s ps
    places_spaced c Nil = refl
    places_spaced c (Cons p ps) =
        ap (λ k. spaced_by k (Call s.boundary) (core c s (plain p)) (spaced c s (plain_all ps))) (placed_item p).prefix
        ∙ ap₂ (spaced_by (is_prefix p) (Call s.boundary)) (places_core c p) (places_spaced c ps)

-- ---- what is read

pub printing_keeps : PrintingKeepsCores
printing_keeps c s p q free e =
    sym (places_core s free c q) ∙ ap (core c s) e ∙ places_core s free c (again p) ∙ braces_core s c p

module _ (captures : QName → Bool) where
  braced_root : (p : Expr) → has_root captures (again p) ≡ has_root captures p
  braced_root (X.Text t) = refl
  braced_root (X.Class r n) = refl
  braced_root X.Any = refl
  braced_root X.Start = refl
  braced_root X.End = refl
  braced_root X.Boundary = refl
  braced_root (X.Name q) = refl
  braced_root (X.Cooked ps) = refl
  braced_root (X.Raw ps) = refl
  braced_root (X.Choice ps) = refl
  braced_root (X.Both p q) = refl
  braced_root (X.Prefix s p) = refl
  braced_root (X.Repeat p l m) = refl
  braced_root (X.Macro q p) = refl
  braced_root (X.Marked m p) = refl
  braced_root (X.Note t) = refl

  module _ (free : (q : QName) → captures (unplaced q) ≡ captures q) where
    placed_root : (p : Expr) → has_root captures (plain p) ≡ has_root captures p
    placed_root (X.Text t) = refl
    placed_root (X.Class r n) = refl
    placed_root X.Any = refl
    placed_root X.Start = refl
    placed_root X.End = refl
    placed_root X.Boundary = refl
    placed_root (X.Name q) = free q
    placed_root (X.Cooked ps) = refl
    placed_root (X.Raw ps) = refl
    placed_root (X.Choice ps) = refl
    placed_root (X.Both p q) = refl
    placed_root (X.Prefix s p) = refl
    placed_root (X.Repeat p l m) = refl
    placed_root (X.Macro q p) = refl
    placed_root (X.Marked m p) = refl
    placed_root (X.Note t) = refl

    root_kept : (p q : Expr) → plain q ≡ plain (again p) → has_root captures q ≡ has_root captures p
    root_kept p q e = sym (placed_root q) ∙ ap (has_root captures) e ∙ placed_root (again p) ∙ braced_root p

-- a name means the same wherever it stands in a text
resolved_free : (p : Packages) (q : QName) → resolved p None (unplaced q) ≡ resolved p None q
resolved_free p q = refl

pattern_keeps : (p : Packages) (I : Inners) (x y : Expr) → plain y ≡ plain (again x) → goal_of p I y ≡ goal_of p I x
pattern_keeps p I x y e =
    ap₂ (λ r k. captured (not r) (codes "*") k)
    (root_kept (captures_of p) (λ q. ap makes_tree (resolved_free p q)) x y e)
    (printing_keeps Plain (scope_of p None I) x y (λ q. ap rule_of (resolved_free p q)) e)

pub patterns_keep : PrintingKeepsPatterns
patterns_keep p I x good writes few =
    let y = printed_reads_back x good writes few in (y.0, y.1, pattern_keeps p I x y.0 y.2)
