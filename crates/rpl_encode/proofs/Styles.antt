-- The styles that print other texts of other trees.
use Rattle.std.proofs.Common.{◌≡◌, ◌⊎◌, ℕ, List, [], ◌++◌, inl, inr, sym, ◌∙◌, subst, append-nil}
use Rattle.std.specs.Prelude.{Result, OnOk}
use Rattle.rpl_core.specs.Forest.{Forest, NoTree, Tree, flat}
use Rattle.rpl_core.specs.declared.caught.Caught.{Caught}
use Rattle.rpl_tree.specs.Trees.{BuildsEach, label_in, trees_in}
use Rattle.rpl_tree.specs.declared.node.Node.{Node}
use Rattle.rpl_encode.specs.Answer.{IgnoresTrees, IsTooLong, line_by_line, parts}
use Rattle.rpl_encode.specs.Labels.{Suffice}
use Rattle.rpl_encode.specs.inside.Captured.{BeginWith}
use Rattle.rpl_encode.specs.declared.fault.EncodeFault.{EncodeFault}
use Rattle.rpl_encode.specs.declared.style.Style.{Style}
use Rattle.rpl_encode.specs.declared.style.Style.TheVariants.{Json, Matches, Subs, Plain}

-- a tree in a tree
abbrev two_trees : Forest
two_trees = Tree [] 0 0 (Tree [] 0 0 NoTree NoTree) NoTree

-- of no trees nothing is printed, and of these something
same_for : (s t : Style) → s ≡ t → IgnoresTrees s → parts t [] NoTree ≡ parts t [] two_trees
same_for s t e h = subst (λ x. parts x [] NoTree ≡ parts x [] two_trees) e (h [] NoTree two_trees)

pub differs : (s : Style) → (s ≡ Json) ⊎ ((s ≡ Matches) ⊎ ((s ≡ Subs) ⊎ (s ≡ Plain))) → IgnoresTrees s → ⊥
differs s (inl e) h = let k = same_for s Json e h in absurd (cc)
differs s (inr (inl e)) h = let k = same_for s Matches e h in absurd (cc)
differs s (inr (inr (inl e))) h = let k = same_for s Subs e h in absurd (cc)
differs s (inr (inr (inr e))) h = let k = same_for s Plain e h in absurd (cc)

-- in these styles the captures are those of the trees
pub captured_for : (s : Style) (labels : List (List ℕ)) (captures : List Caught) (f : Forest)
    → (s ≡ Json) ⊎ ((s ≡ Matches) ⊎ ((s ≡ Subs) ⊎ (s ≡ Plain))) → Suffice s labels captures f
    → BeginWith (label_in labels) f captures
captured_for s labels captures f one h =
    record { more = []; ends = tt; caught = h (differs s one) ∙ sym (append-nil (flat f)) }

-- and the trees that are built of them are these
pub built_for : (s : Style) (labels : List (List ℕ)) (captures : List Caught) (nodes : List Node) (f : Forest)
    → s ≡ Json → BuildsEach captures nodes → Suffice s labels captures f → trees_in labels nodes ≡ f
built_for s labels captures nodes f one built h = (built (label_in labels) f (h (differs s (inl one)))).trees

-- what is written in one style, of a line by its bytes
module _ {T : Type 0} (r : Result T EncodeFault) (s t : Style) (line bytes before : List ℕ) (f : Forest) where
  pub text_as : (now : List ℕ) → s ≡ t → bytes ≡ line → OnOk r (now ≡ before ++ line_by_line (parts t bytes f))
      → OnOk r (now ≡ before ++ line_by_line (parts s line f))
  text_as now one same h =
      subst (λ x. OnOk r (now ≡ before ++ line_by_line (parts x line f))) (sym one)
      (subst (λ l. OnOk r (now ≡ before ++ line_by_line (parts t l f))) same h)

  pub long_as : s ≡ t → bytes ≡ line → IsTooLong r (before ++ line_by_line (parts t bytes f))
      → IsTooLong r (before ++ line_by_line (parts s line f))
  long_as one same h =
      subst (λ x. IsTooLong r (before ++ line_by_line (parts x line f))) (sym one)
      (subst (λ l. IsTooLong r (before ++ line_by_line (parts t l f))) same h)
