-- The trees at the front of captures, one after the other.
use Rattle.std.proofs.Common.{◌≡◌, ℕ, zero, suc, Bool, true, false, List, [], ◌∷◌, ◌++◌, Option, Some, None, refl}
use Rattle.std.proofs.Common.{sym, ap, ◌∙◌, subst, append_assoc, append-nil}
use Rattle.std.specs.Prelude.{◌||◌, take, if◌then◌else◌}
use Rattle.std.proofs.lemmas.Bool.{false≢true}
use Rattle.rpl_core.specs.Captures.{all_named}
use Rattle.rpl_core.specs.Forest as F
use Rattle.rpl_core.specs.Forest.{Forest, NoTree, Tree, Noted, flat}
use Rattle.rpl_core.specs.declared.caught.Caught.{Caught}
use Rattle.rpl_core.specs.declared.caught.Caught.TheVariants.{Begin, Finish, Note}
use Rattle.rpl_tree.specs.Trees.{label_in}
use Rattle.rpl_tree.specs.declared.node.Node.{Node}
use Rattle.rpl_encode.specs.Answer.{line_by_line, or_else}
use Rattle.rpl_encode.specs.Texts.{texts}
use Rattle.rpl_encode.specs.inside.Captured.{BeginWith, EndsAt, IsAtEnd, IsFirst, NeverEnds}
use Rattle.rpl_encode.specs.inside.Children.{is_printed, is_some_text, printed_texts}
use Rattle.rpl_encode.specs.inside.Walk.{text_at}
use Rattle.rpl_encode.proofs.Listing.{node_printed, node_texts, printed_none, text_step, found_step, or_false}

-- how the tree around the captures ends, where so many trees inside it are open
abbrev pub end_of : ℕ → List F.Caught → Option (ℕ × List F.Caught)
end_of depth [] = None
end_of depth (F.Begin label place ∷ cs) = end_of (suc depth) cs
end_of zero (F.Finish place ∷ cs) = Some (place, cs)
end_of (suc depth) (F.Finish place ∷ cs) = end_of depth cs
end_of depth (F.Mark text place ∷ cs) = end_of depth cs

end_over : (f : Forest) (depth : ℕ) (more : List F.Caught) → end_of depth (flat f ++ more) ≡ end_of depth more
end_over NoTree depth more = refl
end_over (Tree c i j f r) depth more =
    ap (end_of (suc depth)) (append_assoc (flat f) (F.Finish j ∷ flat r) more)
    ∙ end_over f (suc depth) (F.Finish j ∷ (flat r ++ more))
    ∙ end_over r depth more
end_over (Noted x i r) depth more = end_over r depth more

-- what the walk to that end knows
abbrev pub IsOn : List Caught → ℕ → List Caught → Type 0
IsOn captures depth rest =
    (name : ℕ → List ℕ) → end_of depth (all_named name rest) ≡ end_of 0 (all_named name captures)

pub on_begin : (captures rest left : List Caught) (depth label place : ℕ) → IsOn captures depth rest
    → rest ≡ Begin label place ∷ left → IsOn captures (suc depth) left
on_begin captures rest left depth label place h e name =
    sym (ap (λ cs. end_of depth (all_named name cs)) e) ∙ h name

pub on_finish : (captures rest left : List Caught) (depth place : ℕ) → IsOn captures (suc depth) rest
    → rest ≡ Finish place ∷ left → IsOn captures depth left
on_finish captures rest left depth place h e name =
    sym (ap (λ cs. end_of (suc depth) (all_named name cs)) e) ∙ h name

pub on_note : (captures rest left : List Caught) (depth text place : ℕ) → IsOn captures depth rest
    → rest ≡ Note text place ∷ left → IsOn captures depth left
on_note captures rest left depth text place h e name =
    sym (ap (λ cs. end_of depth (all_named name cs)) e) ∙ h name

abbrev place_in : Option (ℕ × List F.Caught) → ℕ
place_in None = 0
place_in (Some end) = end.0

abbrev others_in : Option (ℕ × List F.Caught) → List F.Caught
others_in None = []
others_in (Some end) = end.1

abbrev IsEnd : Option (ℕ × List F.Caught) → Type 0
IsEnd None = ⊥
IsEnd (Some end) = Unit {0}

pub end_found : (captures rest left : List Caught) (place : ℕ) → IsOn captures 0 rest → rest ≡ Finish place ∷ left
    → EndsAt captures place left
end_found captures rest left place h e name f at more caught =
    let same = sym (ap (λ cs. end_of 0 (all_named name cs)) e) ∙ h name ∙ ap (end_of 0) caught
    ∙ end_over f 0 (F.Finish at ∷ more) in
    (ap place_in same, ap others_in same)

pub end_missing : (captures rest : List Caught) (depth : ℕ) → IsOn captures depth rest → rest ≡ []
    → NeverEnds captures
end_missing captures rest depth h e name f at more caught =
    let same = sym (ap (λ cs. end_of depth (all_named name cs)) e) ∙ h name ∙ ap (end_of 0) caught
    ∙ end_over f 0 (F.Finish at ∷ more) in
    subst IsEnd (sym same) tt

-- what stands at the front tells what the first tree is
no_begin : (label : List ℕ) (place : ℕ) (cs more : List F.Caught) → F.Begin label place ∷ cs ≡ more → IsAtEnd more → ⊥
no_begin label place cs more e h = subst IsAtEnd (sym e) h

no_mark : (text : List ℕ) (place : ℕ) (cs more : List F.Caught) → F.Mark text place ∷ cs ≡ more → IsAtEnd more → ⊥
no_mark text place cs more e h = subst IsAtEnd (sym e) h

abbrev pub tree_node : ℕ → ℕ → ℕ → Node
tree_node label start end = record { label = label; note = None; start = start; end = end; below = 0 }

abbrev pub note_node : ℕ → ℕ → Node
note_node text place = record { label = text; note = Some text; start = place; end = place; below = 0 }

pub first_begin : (captures rest after : List Caught) (label place end : ℕ) → captures ≡ Begin label place ∷ rest
    → EndsAt rest end after → (name : ℕ → List ℕ) (f : Forest) → BeginWith name f captures
    → IsFirst name f (tree_node label place end) after
first_begin captures rest after label place end e ends name NoTree b =
    absurd (no_begin (name label) place (all_named name rest) b.more (sym (ap (all_named name) e) ∙ b.caught) b.ends)
first_begin captures rest after label place end e ends name (Tree c i j f r) b =
    let all : F.Begin (name label) place ∷ all_named name rest ≡ F.Begin c i ∷ ((flat f ++ F.Finish j ∷ flat r)
    ++ b.more) = sym (ap (all_named name) e) ∙ b.caught in
    let named : name label ≡ c = cc in
    let start : place ≡ i = cc in
    let inside : all_named name rest ≡ (flat f ++ F.Finish j ∷ flat r) ++ b.more = cc in
    let end_is = ends name f j (flat r ++ b.more) (inside ∙ append_assoc (flat f) (F.Finish j ∷ flat r) b.more) in
    record {
      below = f;
      after = r;
      is = ap (λ x. Tree x i j f r) (sym named) ∙ ap (λ x. Tree (name label) x j f r) (sym start)
          ∙ ap (λ x. Tree (name label) place x f r) (sym end_is.0);
      others = record { more = b.more; ends = b.ends; caught = end_is.1 };
    }
first_begin captures rest after label place end e ends name (Noted x i r) b =
    let all : F.Begin (name label) place ∷ all_named name rest ≡ F.Mark x i ∷ (flat r ++ b.more) =
    sym (ap (all_named name) e) ∙ b.caught in
    absurd (cc)

pub first_note : (captures rest : List Caught) (text place : ℕ) → captures ≡ Note text place ∷ rest
    → (name : ℕ → List ℕ) (f : Forest) → BeginWith name f captures → IsFirst name f (note_node text place) rest
first_note captures rest text place e name NoTree b =
    absurd (no_mark (name text) place (all_named name rest) b.more (sym (ap (all_named name) e) ∙ b.caught) b.ends)
first_note captures rest text place e name (Tree c i j f r) b =
    let all : F.Mark (name text) place ∷ all_named name rest ≡ F.Begin c i ∷ ((flat f ++ F.Finish j ∷ flat r)
    ++ b.more) = sym (ap (all_named name) e) ∙ b.caught in
    absurd (cc)
first_note captures rest text place e name (Noted x i r) b =
    let all : F.Mark (name text) place ∷ all_named name rest ≡ F.Mark x i ∷ (flat r ++ b.more) =
    sym (ap (all_named name) e) ∙ b.caught in
    let named : name text ≡ x = cc in
    let at : place ≡ i = cc in
    record {
      below = NoTree;
      after = r;
      is = ap (λ y. Noted y i r) (sym named) ∙ ap (λ y. Noted (name text) y r) (sym at);
      others = record { more = b.more; ends = b.ends; caught = cc };
    }

-- and where no tree begins there is none
pub none_at_end : (captures : List Caught) → captures ≡ [] → (name : ℕ → List ℕ) (f : Forest)
    → BeginWith name f captures → f ≡ NoTree
none_at_end captures e name NoTree b = refl
none_at_end captures e name (Tree c i j f r) b =
    let all : [] ≡ F.Begin c i ∷ ((flat f ++ F.Finish j ∷ flat r) ++ b.more) = sym (ap (all_named name) e) ∙ b.caught in
    absurd (cc)
none_at_end captures e name (Noted x i r) b =
    let all : [] ≡ F.Mark x i ∷ (flat r ++ b.more) = sym (ap (all_named name) e) ∙ b.caught in
    absurd (cc)

pub none_at_finish : (captures rest : List Caught) (place : ℕ) → captures ≡ Finish place ∷ rest
    → (name : ℕ → List ℕ) (f : Forest) → BeginWith name f captures → f ≡ NoTree
none_at_finish captures rest place e name NoTree b = refl
none_at_finish captures rest place e name (Tree c i j f r) b =
    let all : F.Finish place ∷ all_named name rest ≡ F.Begin c i ∷ ((flat f ++ F.Finish j ∷ flat r) ++ b.more) =
    sym (ap (all_named name) e) ∙ b.caught in
    absurd (cc)
none_at_finish captures rest place e name (Noted x i r) b =
    let all : F.Finish place ∷ all_named name rest ≡ F.Mark x i ∷ (flat r ++ b.more) =
    sym (ap (all_named name) e) ∙ b.caught in
    absurd (cc)

pub none_unended : (captures rest : List Caught) (label place : ℕ) → captures ≡ Begin label place ∷ rest
    → NeverEnds rest → (name : ℕ → List ℕ) (f : Forest) → BeginWith name f captures → f ≡ NoTree
none_unended captures rest label place e never name NoTree b = refl
none_unended captures rest label place e never name (Tree c i j f r) b =
    let all : F.Begin (name label) place ∷ all_named name rest ≡ F.Begin c i ∷ ((flat f ++ F.Finish j ∷ flat r)
    ++ b.more) = sym (ap (all_named name) e) ∙ b.caught in
    let inside : all_named name rest ≡ (flat f ++ F.Finish j ∷ flat r) ++ b.more = cc in
    absurd (never name f j (flat r ++ b.more) (inside ∙ append_assoc (flat f) (F.Finish j ∷ flat r) b.more))
none_unended captures rest label place e never name (Noted x i r) b =
    let all : F.Begin (name label) place ∷ all_named name rest ≡ F.Mark x i ∷ (flat r ++ b.more) =
    sym (ap (all_named name) e) ∙ b.caught in
    absurd (cc)

-- the text of the root with its line feed
pub root_text : (labels : List (List ℕ)) (line : List ℕ) (f : Forest) (root : Node) (after : List Caught)
    → IsFirst (label_in labels) f root after → line_by_line (take 1 (texts line f)) ≡ text_at labels line root
    ++ 10 ∷ []
root_text labels line f root after first =
    ap (λ g. line_by_line (take 1 (texts line g))) first.is
    ∙ ap (λ ts. line_by_line (take 1 ts)) (node_texts labels line root root.note first.below first.after)
    ∙ append-nil (text_at labels line root ++ 10 ∷ [])

-- What is written, with the texts of the trees that are left, is the whole, and a text was written or is left where
-- there is one.
pub record Left (labels : List (List ℕ)) (line : List ℕ) (h : Bool) (captures : List Caught) (out whole : List ℕ)
    (some found : Bool) : Type 0 where
  pub trees : Forest
  pub captured : BeginWith (label_in labels) trees captures
  pub text : out ++ line_by_line (printed_texts h line trees) ≡ whole
  pub is_some : (some || is_some_text (printed_texts h line trees)) ≡ found

module _ (labels : List (List ℕ)) (line : List ℕ) (h : Bool) where
  first_printed : (f : Forest) (node : Node) (after : List Caught) (first : IsFirst (label_in labels) f node after)
      → printed_texts h line f
      ≡ (if is_printed labels h node then text_at labels line node ∷ printed_texts h line first.after
      else printed_texts h line first.after)
  first_printed f node after first =
      ap (printed_texts h line) first.is ∙ node_printed labels line h node node.note first.below first.after

  pub left_written : (captures after : List Caught) (node : Node) (out out' whole : List ℕ) (some found : Bool)
      → ((f : Forest) → BeginWith (label_in labels) f captures → IsFirst (label_in labels) f node after)
      → is_printed labels h node ≡ true → out' ≡ out ++ (text_at labels line node ++ 10 ∷ [])
      → Left labels line h captures out whole some found → Left labels line h after out' whole true found
  left_written captures after node out out' whole some found is_first printed put l =
      let first = is_first l.trees l.captured in
      let text = text_at labels line node in
      let rest = printed_texts h line first.after in
      let step = first_printed l.trees node after first ∙ ap (λ b. if b then text ∷ rest else rest) printed in
      record {
        trees = first.after;
        captured = first.others;
        text = text_step ◌++◌ append_assoc out out' whole text (printed_texts h line l.trees) rest put step l.text;
        is_some = found_step some found text (printed_texts h line l.trees) rest step l.is_some;
      }

  pub left_passed : (captures after : List Caught) (node : Node) (out out' whole : List ℕ) (some some' found : Bool)
      → ((f : Forest) → BeginWith (label_in labels) f captures → IsFirst (label_in labels) f node after)
      → is_printed labels h node ≡ false → out' ≡ out → some' ≡ some
      → Left labels line h captures out whole some found → Left labels line h after out' whole some' found
  left_passed captures after node out out' whole some some' found is_first printed same same_some l =
      let first = is_first l.trees l.captured in
      let text = text_at labels line node in
      let rest = printed_texts h line first.after in
      let step = first_printed l.trees node after first ∙ ap (λ b. if b then text ∷ rest else rest) printed in
      record {
        trees = first.after;
        captured = first.others;
        text = ap (λ o. o ++ line_by_line rest) same ∙ ap (λ ts. out ++ line_by_line ts) (sym step) ∙ l.text;
        is_some = ap (λ b. b || is_some_text rest) same_some ∙ ap (λ ts. some || is_some_text ts) (sym step)
            ∙ l.is_some;
      }

  none_printed : (f : Forest) → f ≡ NoTree → printed_texts h line f ≡ []
  none_printed f e = ap (printed_texts h line) e ∙ printed_none h line

  pub left_none : (captures : List Caught) (out whole : List ℕ) (some found : Bool)
      → ((f : Forest) → BeginWith (label_in labels) f captures → f ≡ NoTree)
      → Left labels line h captures out whole some found → (out ≡ whole) × (some ≡ found)
  left_none captures out whole some found none l =
      let last = none_printed l.trees (none l.trees l.captured) in (
        sym (append-nil out) ∙ ap (λ ts. out ++ line_by_line ts) (sym last) ∙ l.text,
        sym (or_false some) ∙ ap (λ ts. some || is_some_text ts) (sym last) ∙ l.is_some,
      )

-- where no hit was printed, the text of the root is
pub hits_none : (out out1 out2 : List ℕ) (hits others : List (List ℕ)) → false ≡ is_some_text hits
    → out1 ≡ out ++ line_by_line hits → out2 ≡ out1 ++ line_by_line others
    → out2 ≡ out ++ line_by_line (or_else hits others)
hits_none out out1 out2 [] others none first second =
    second ∙ ap (λ o. o ++ line_by_line others) (first ∙ append-nil out)
hits_none out out1 out2 (hit ∷ hits) others none first second = absurd (false≢true none)
