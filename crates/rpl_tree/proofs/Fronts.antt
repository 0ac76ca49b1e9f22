-- Building goes over the captures of some trees as over one thing: their nodes come at the end, and what is open stays.
use Rattle.std.proofs.Common.{◌≡◌, ℕ, zero, suc, ◌+◌, ◌-◌, ◌≤◌, List, [], ◌∷◌, ◌++◌, length, Some, None, refl, sym, ap}
use Rattle.std.proofs.Common.{◌∙◌, subst, arith, append_assoc}
use Rattle.std.specs.Prelude.{All, fold, slice_get}
use Rattle.std.proofs.lemmas.Bool.{false≢true}
use Rattle.std.proofs.lemmas.List.{append-nil, length-append}
use Rattle.std.proofs.lemmas.List.Elements.{All-append, All-cons, All-nil}
use Rattle.std.proofs.Math.Seq.{take-append_seam, drop-append_seam, set-append_seam}
use Rattle.rpl_core.specs.Forest as C
use Rattle.rpl_core.specs.Forest.{Forest, NoTree, Tree, Noted, flat}
use Rattle.rpl_core.specs.Captures.{named, all_named}
use Rattle.rpl_tree.specs.Trees.{trees_of, forest_of, Write, nothing, a_tree, a_note, IsLeaf, Builds}
use Rattle.rpl_tree.specs.inside.Building.{Built, opened, noted, closed, taken_in}
use Rattle.rpl_core.specs.declared.caught.Caught.{Caught}
use Rattle.rpl_core.specs.declared.caught.Caught.TheVariants.{Begin, Finish, Note}
use Rattle.rpl_tree.specs.declared.node.Node.{Node}

abbrev with_open : List Node → List ℕ → Built
with_open nodes open_at = record { nodes = nodes; open_at = open_at }

pub record Front (name : ℕ → List ℕ) (f : Forest) (more : List C.Caught) (cs : List Caught) : Type 0 where
  pub nodes : List Node
  pub rest : List Caught
  pub rest_is : all_named name rest ≡ more
  pub taken : List Caught
  pub taken_is : cs ≡ taken ++ rest
  pub writes : Write nodes taken
  pub builds : (before : List Node) (open_at : List ℕ) → fold taken_in (with_open before open_at) cs
      ≡ fold taken_in (with_open (before ++ nodes) open_at) rest
  pub stands : (most : ℕ) → length nodes ≤ most → trees_of most name nodes ≡ f

-- the first capture, by what it shows as
record IsBegin (name : ℕ → List ℕ) (c : List ℕ) (i : ℕ) (more : List C.Caught) (cs : List Caught) : Type 0 where
  label : ℕ
  rest : List Caught
  is : cs ≡ Begin label i ∷ rest
  named : name label ≡ c
  rest_is : all_named name rest ≡ more

first_begin : (name : ℕ → List ℕ) (c : List ℕ) (i : ℕ) (more : List C.Caught) (cs : List Caught)
    → all_named name cs ≡ C.Begin c i ∷ more → IsBegin name c i more cs
first_begin name c i more [] e = absurd (cc)
first_begin name c i more (Begin label place ∷ cs) e =
    let at : place ≡ i = cc in
    record { label = label; rest = cs; is = ap (λ p. Begin label p ∷ cs) at; named = cc; rest_is = cc }
first_begin name c i more (Finish place ∷ cs) e = absurd (cc)
first_begin name c i more (Note text place ∷ cs) e = absurd (cc)

record IsFinish (name : ℕ → List ℕ) (j : ℕ) (more : List C.Caught) (cs : List Caught) : Type 0 where
  rest : List Caught
  is : cs ≡ Finish j ∷ rest
  rest_is : all_named name rest ≡ more

first_finish : (name : ℕ → List ℕ) (j : ℕ) (more : List C.Caught) (cs : List Caught)
    → all_named name cs ≡ C.Finish j ∷ more → IsFinish name j more cs
first_finish name j more [] e = absurd (cc)
first_finish name j more (Begin label place ∷ cs) e = absurd (cc)
first_finish name j more (Finish place ∷ cs) e =
    let at : place ≡ j = cc in
    record { rest = cs; is = ap (λ p. Finish p ∷ cs) at; rest_is = cc }
first_finish name j more (Note text place ∷ cs) e = absurd (cc)

record IsNote (name : ℕ → List ℕ) (x : List ℕ) (i : ℕ) (more : List C.Caught) (cs : List Caught) : Type 0 where
  text : ℕ
  rest : List Caught
  is : cs ≡ Note text i ∷ rest
  named : name text ≡ x
  rest_is : all_named name rest ≡ more

first_note : (name : ℕ → List ℕ) (x : List ℕ) (i : ℕ) (more : List C.Caught) (cs : List Caught)
    → all_named name cs ≡ C.Mark x i ∷ more → IsNote name x i more cs
first_note name x i more [] e = absurd (cc)
first_note name x i more (Begin label place ∷ cs) e = absurd (cc)
first_note name x i more (Finish place ∷ cs) e = absurd (cc)
first_note name x i more (Note text place ∷ cs) e =
    let at : place ≡ i = cc in
    record { text = text; rest = cs; is = ap (λ p. Note text p ∷ cs) at; named = cc; rest_is = cc }

none_stand : (name : ℕ → List ℕ) (most : ℕ) → trees_of most name [] ≡ NoTree
none_stand name zero = refl
none_stand name (suc most) = refl

get_seam : (before : List Node) (n : Node) (after : List Node) → slice_get (before ++ n ∷ after) (length before)
    ≡ Some n
get_seam [] n after = refl
get_seam (b ∷ before) n after = get_seam before n after

-- a node that was opened after `before`, with all that came since below it
abbrev done : ℕ → ℕ → ℕ → List Node → Node
done label i j below = record { label = label; note = None; start = i; end = j; below = length below }

close_seam : (before below : List Node) (label i j : ℕ) (open_at : List ℕ)
    → closed j (with_open ((before ++ opened label i ∷ []) ++ below) (length before ∷ open_at))
    (length before ∷ open_at)
    ≡ with_open (before ++ done label i j below ∷ below) open_at
close_seam before below label i j open_at =
    let all : (before ++ opened label i ∷ []) ++ below ≡ before ++ opened label i ∷ below =
    append_assoc before (opened label i ∷ []) below in
    let there = get_seam before (opened label i) below in
    let count : length (before ++ opened label i ∷ below) - length before - 1 ≡ length below =
    omega (arith, length-append before (opened label i ∷ below)) in
    rw (all, there, count, set-append_seam before (opened label i) below (done label i j below)) refl

tree_stands : (name : ℕ → List ℕ) (label i j : ℕ) (below behind : List Node) (f r : Forest)
    → ((most : ℕ) → length below ≤ most → trees_of most name below ≡ f)
    → ((most : ℕ) → length behind ≤ most → trees_of most name behind ≡ r) → (most : ℕ)
    → length (done label i j below ∷ (below ++ behind)) ≤ most
    → trees_of most name (done label i j below ∷ (below ++ behind)) ≡ Tree (name label) i j f r
tree_stands name label i j below behind f r hf hr zero fits = absurd (omega arith)
tree_stands name label i j below behind f r hf hr (suc most) fits =
    let long = length-append below behind in
    rw (take-append_seam below behind, drop-append_seam below behind, hf most (omega arith), hr most (omega arith)) refl

note_stands : (name : ℕ → List ℕ) (text i : ℕ) (behind : List Node) (r : Forest)
    → ((most : ℕ) → length behind ≤ most → trees_of most name behind ≡ r) → (most : ℕ)
    → length (noted text i ∷ behind) ≤ most → trees_of most name (noted text i ∷ behind) ≡ Noted (name text) i r
note_stands name text i behind r hr zero fits = absurd (omega arith)
note_stands name text i behind r hr (suc most) fits = rw (hr most (omega arith)) refl

tree_builds : (label i j : ℕ) (first second rest : List Caught) (below behind : List Node)
    → ((before : List Node) (open_at : List ℕ) → fold taken_in (with_open before open_at) first
    ≡ fold taken_in (with_open (before ++ below) open_at) (Finish j ∷ second))
    → ((before : List Node) (open_at : List ℕ) → fold taken_in (with_open before open_at) second
    ≡ fold taken_in (with_open (before ++ behind) open_at) rest) → (before : List Node) (open_at : List ℕ)
    → fold taken_in (with_open before open_at) (Begin label i ∷ first)
    ≡ fold taken_in (with_open (before ++ done label i j below ∷ (below ++ behind)) open_at) rest
tree_builds label i j first second rest below behind inner outer before open_at =
    inner (before ++ opened label i ∷ []) (length before ∷ open_at)
    ∙ ap (λ b. fold taken_in b second) (close_seam before below label i j open_at)
    ∙ outer (before ++ done label i j below ∷ below) open_at
    ∙ ap (λ ns. fold taken_in (with_open ns open_at) rest) (append_assoc before (done label i j below ∷ below) behind)

note_builds : (text i : ℕ) (second rest : List Caught) (behind : List Node)
    → ((before : List Node) (open_at : List ℕ) → fold taken_in (with_open before open_at) second
    ≡ fold taken_in (with_open (before ++ behind) open_at) rest) → (before : List Node) (open_at : List ℕ)
    → fold taken_in (with_open before open_at) (Note text i ∷ second)
    ≡ fold taken_in (with_open (before ++ noted text i ∷ behind) open_at) rest
note_builds text i second rest behind outer before open_at =
    outer (before ++ noted text i ∷ []) open_at
    ∙ ap (λ ns. fold taken_in (with_open ns open_at) rest) (append_assoc before (noted text i ∷ []) behind)

no_more : (name : ℕ → List ℕ) (cs : List Caught) → all_named name cs ≡ [] → cs ≡ []
no_more name [] e = refl
no_more name (c ∷ cs) e = absurd (cc)

pub front : (name : ℕ → List ℕ) (f : Forest) (more : List C.Caught) (cs : List Caught)
    → all_named name cs ≡ flat f ++ more → Front name f more cs
front name NoTree more cs e = record {
  nodes = [];
  rest = cs;
  rest_is = e;
  taken = [];
  taken_is = refl;
  writes = nothing;
  builds = λ before open_at. ap (λ ns. fold taken_in (with_open ns open_at) cs) (sym (append-nil before));
  stands = λ most fits. none_stand name most;
}
front name (Tree c i j f r) more cs e =
    let b = first_begin name c i _ cs (e ∙ ap (λ x. C.Begin c i ∷ x) (append_assoc (flat f) (C.Finish j ∷ flat r) more))
    in
    let inner = front name f (C.Finish j ∷ (flat r ++ more)) b.rest b.rest_is in
    let k = first_finish name j _ inner.rest inner.rest_is in
    let outer = front name r more k.rest k.rest_is in
    record {
      nodes = done b.label i j inner.nodes ∷ (inner.nodes ++ outer.nodes);
      rest = outer.rest;
      rest_is = outer.rest_is;
      taken = Begin b.label i ∷ (inner.taken ++ Finish j ∷ outer.taken);
      taken_is = b.is ∙ ap (λ x. Begin b.label i ∷ x) (inner.taken_is
          ∙ ap (λ x. inner.taken ++ x) (k.is ∙ ap (λ x. Finish j ∷ x) outer.taken_is)
          ∙ sym (append_assoc inner.taken (Finish j ∷ outer.taken) outer.rest));
      writes = a_tree b.label i j inner.nodes outer.nodes inner.taken outer.taken inner.writes outer.writes;
      builds = λ before open_at. ap (fold taken_in (with_open before open_at)) b.is
          ∙ tree_builds b.label i j b.rest k.rest outer.rest inner.nodes outer.nodes (λ n o. inner.builds n o
          ∙ ap (fold taken_in (with_open (n ++ inner.nodes) o)) k.is) outer.builds before open_at;
      stands = λ most fits. tree_stands name b.label i j inner.nodes outer.nodes f r inner.stands outer.stands most fits
          ∙ ap (λ x. Tree x i j f r) b.named;
    }
front name (Noted x i r) more cs e =
    let n = first_note name x i _ cs e in
    let outer = front name r more n.rest n.rest_is in
    record {
      nodes = noted n.text i ∷ outer.nodes;
      rest = outer.rest;
      rest_is = outer.rest_is;
      taken = Note n.text i ∷ outer.taken;
      taken_is = n.is ∙ ap (λ x. Note n.text i ∷ x) outer.taken_is;
      writes = a_note n.text i outer.nodes outer.taken outer.writes;
      builds = λ before open_at. ap (fold taken_in (with_open before open_at)) n.is
          ∙ note_builds n.text i n.rest outer.rest outer.nodes outer.builds before open_at;
      stands = λ most fits. note_stands name n.text i outer.nodes r outer.stands most fits
          ∙ ap (λ y. Noted y i r) n.named;
    }

leaves_of : (ns : List Node) (cs : List Caught) → Write ns cs → All IsLeaf ns
leaves_of _ _ nothing = All-nil IsLeaf
leaves_of _ _ (a_tree label i j below behind inside after w v) =
    All-cons IsLeaf (done label i j below) (below ++ behind) (λ h. absurd (false≢true h))
    (All-append IsLeaf below behind (leaves_of below inside w) (leaves_of behind after v))
leaves_of _ _ (a_note text i behind after v) =
    All-cons IsLeaf (noted text i) behind (λ h. refl) (leaves_of behind after v)

-- what is built of the whole list
pub built_is : (name : ℕ → List ℕ) (f : Forest) (cs : List Caught) (nodes : List Node) (open_at : List ℕ)
    → all_named name cs ≡ flat f → with_open nodes open_at ≡ fold taken_in (with_open [] []) cs → Builds cs nodes name f
built_is name f cs nodes open_at e b =
    let all = front name f [] cs (e ∙ sym (append-nil (flat f))) in
    let none : all.rest ≡ [] = no_more name all.rest all.rest_is in
    let same : nodes ≡ all.nodes =
    ap (λ x. x.nodes) (b ∙ all.builds [] [] ∙ ap (fold taken_in (with_open all.nodes [])) none) in
    let took : all.taken ≡ cs = sym (append-nil all.taken) ∙ ap (λ x. all.taken ++ x) (sym none) ∙ sym all.taken_is in
    let writes : Write nodes cs = subst (λ ns. Write ns cs) (sym same) (subst (Write all.nodes) took all.writes) in
    record {
      trees = subst (λ ns. forest_of name ns ≡ f) (sym same) (all.stands (length all.nodes) (omega arith));
      captures = writes;
      leaves = leaves_of nodes cs writes;
    }
