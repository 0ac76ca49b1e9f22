-- The objects that `rosie` prints are those of trees.
use Rattle.std.proofs.Common.{◌≡◌, ℕ, ◌+◌, List, [], ◌∷◌, ◌++◌, refl, sym, ap, ◌∙◌, append_assoc}
use Rattle.std.specs.Prelude.{codes, decimal, slice_range}
use Rattle.std.specs.Str.{encode_utf8_all}
use Rattle.rpl_columns.specs.Trees as C
use Rattle.rpl_columns.specs.Trees.{HavePlaces, no_tree}
use Rattle.rpl_columns.proofs.NodeParts.{decimal_place}
use Rattle.rpl_columns.proofs.WholeTrees.{objects_cons, objects_nil, places_none, places_put, tree_put}
use Rattle.rpl_core.specs.Forest.{Forest, NoTree, Tree, Noted}
use Rattle.rpl_encode.specs.Answer.{parts}
use Rattle.rpl_encode.specs.Texts as E
use Rattle.rpl_encode.specs.declared.style.Style.TheVariants.{Json}
use Rattle.rosie_columns_cli.specs.Lines.{made}
use Rattle.rosie_columns_cli.specs.Piped.{FitPlaces, Piped, first, trees_of}

have_places : (line : List ℕ) (f : Forest) → FitPlaces f → HavePlaces (trees_of line f)
have_places line NoTree h = places_none
have_places line (Tree label start end below behind) h =
    places_put (encode_utf8_all label) (decimal (start + 1)) (decimal (end + 1)) (slice_range line start end)
    (trees_of line below) (trees_of line behind)
    (decimal_place start h.0) (decimal_place end h.1) (have_places line below h.2) (have_places line behind h.3)
have_places line (Noted text place behind) h =
    places_put (codes "message") (decimal (place + 1)) (decimal (place + 1)) (encode_utf8_all text) no_tree
    (trees_of line behind) (decimal_place place h.0) (decimal_place place h.0) places_none (have_places line behind h.1)

same_subs : (os : List (List ℕ)) → E.subs os ≡ C.subs os
same_subs [] = refl
same_subs (o ∷ os) = refl

same_object : (label : List ℕ) (start end : ℕ) (text : List ℕ) (os : List (List ℕ))
    → E.object label start end text os ≡ C.object label (decimal (start + 1)) (decimal (end + 1)) text os
same_object label start end text os =
    ap (λ below. E.fields label start end text ++ (below ++ codes "}")) (same_subs os) ∙ simp append_assoc

same_objects : (line : List ℕ) (f : Forest) → E.objects line f ≡ C.objects (trees_of line f)
same_objects line NoTree = sym objects_nil
same_objects line (Tree label start end below behind) =
    ap (λ os. E.object (encode_utf8_all label) start end (slice_range line start end) os ∷ E.objects line behind)
    (same_objects line below)
    ∙ ap (λ o. o ∷ E.objects line behind) (same_object (encode_utf8_all label) start end (slice_range line start end)
    (C.objects (trees_of line below)))
    ∙ ap (λ os. C.object (encode_utf8_all label) (decimal (start + 1)) (decimal (end + 1)) (slice_range line start end)
    (C.objects (trees_of line below)) ∷ os) (same_objects line behind)
    ∙ sym (objects_cons (encode_utf8_all label) (decimal (start + 1)) (decimal (end + 1)) (slice_range line start end)
    (trees_of line below) (trees_of line behind))
same_objects line (Noted text place behind) =
    ap (λ o. o ∷ E.objects line behind) (same_object (codes "message") place place (encode_utf8_all text) [])
    ∙ ap (λ os. C.object (codes "message") (decimal (place + 1)) (decimal (place + 1)) (encode_utf8_all text) os
    ∷ E.objects line behind) (sym objects_nil)
    ∙ ap (λ os. C.object (codes "message") (decimal (place + 1)) (decimal (place + 1)) (encode_utf8_all text)
    (C.objects no_tree) ∷ os) (same_objects line behind)
    ∙ sym (objects_cons (codes "message") (decimal (place + 1)) (decimal (place + 1)) (encode_utf8_all text) no_tree
    (trees_of line behind))

-- the first tree has the object that is printed
first_fits : (f : Forest) → FitPlaces f → FitPlaces (first f)
first_fits NoTree h = tt
first_fits (Tree label start end below behind) h = (h.0, h.1, h.2, tt)
first_fits (Noted text place behind) h = (h.0, tt)

first_object : (line printed : List ℕ) (f : Forest) → parts Json line f ≡ printed ∷ []
    → E.objects line (first f) ≡ printed ∷ []
first_object line printed NoTree e = e
first_object line printed (Tree label start end below behind) e = e
first_object line printed (Noted text place behind) e = e

pub piped : Piped
piped sheet file n line printed f fit e =
    let t = trees_of line (first f) in
    ap (made sheet file n) (tree_put printed (C.in_order 0 t) (record {
      trees = t;
      places = have_places line (first f) (first_fits f fit);
      one = sym (same_objects line (first f)) ∙ first_object line printed f e;
      nodes_are = refl;
    }))
