-- The statements of a module, taken one by one, are in order where a module has them in that order, and only there.
use Rattle.std.proofs.Common.{◌≡◌, ℕ, List, [], ◌∷◌, ◌++◌, Option, Some, None, append_assoc, refl, sym, ap, ◌∙◌}
use Rattle.std.proofs.lemmas.List.{append-nil}
use Rattle.std.specs.Prelude.{Bool, true, false, if◌then◌else◌, ◌||◌}
use Rattle.rpl_text.specs.Options.{◌>>=◌}
use Rattle.rpl_syntax.specs.Modules.{Rule, Entry}
use Rattle.rpl_syntax.specs.declared.module.Import.{Import}
use Rattle.rpl_parser.specs.Spelling as L
use Rattle.rpl_parser.specs.Order as O
use Rattle.rpl_parser.specs.Order.{Placed, placed, Title, Importing, Part, Outline, rule_lines, part_lines, parts_lines}
use Rattle.rpl_parser.specs.Order.{import_lines, title_lines, version_lines, outline_lines, part_entry, part_entries}
use Rattle.rpl_parser.specs.Order.{all_imports, title_name, NoneLocal, LocalOutside, AllLocalOutside}
use Rattle.rpl_parser.specs.Walks.{Walk, begun, in_block, bound, block_begun, place}
use Rattle.rpl_parser.specs.declared.walk.Numbered.{Numbered}
use Rattle.rpl_parser.specs.declared.walk.Stage.{Stage}
use Rattle.rpl_parser.specs.declared.walk.Stage.TheVariants.{Begun, Versioned, Packaged, Ruled, InBlock, BehindIn}
use Rattle.rpl_parser.proofs.Cutting.{is_end}

-- one of the statements closes a block
abbrev pub ends : List Placed → Bool
ends [] = false
ends (l ∷ ls) = is_end l.line || ends ls

-- after these statements, where each may stand there
abbrev pub order : Walk → List Placed → Option Walk
order w [] = Some w
order w (l ∷ ls) = place w l.at (ends ls) l.line >>= λ v. order v ls

-- outside a block
abbrev pub out : Stage → Walk → Walk
out st w = record w { stage = st; hidden = []; rules = [] }

-- in a block
abbrev pub inside : Stage → (hidden rules : List Rule) → Walk → Walk
inside st hs rs w = record w { stage = st; hidden = hs; rules = rs }

abbrev pub more_items : Walk → List Entry → Walk
more_items w is = record w { items = w.items ++ is }

abbrev pub more_imports : Walk → List Import → Walk
more_imports w is = record w { imports = w.imports ++ is }

-- ---- a module's statements are in order

ends_behind : (rs : List Rule) (q : List Placed) → ends (rule_lines rs q) ≡ ends q
ends_behind [] q = refl
ends_behind (r ∷ rs) q = ends_behind rs q

module _ (st : Stage) (is_in : (w : Walk) (r : Rule) → bound w st r ≡ in_block w r) where
  rules_again : (rs : List Rule) (hs os : List Rule) (w : Walk) (q : List Placed) → NoneLocal rs
      → order (inside st hs os w) (rule_lines rs q) ≡ order (inside st hs (os ++ rs) w) q
  rules_again [] hs os w q h = ap (λ x. order (inside st hs x w) q) (sym (append-nil os))
  rules_again (r ∷ rs) hs os w q h =
      ap (λ o. o >>= λ v. order v (rule_lines rs q)) (is_in (inside st hs os w) r
      ∙ ap (λ b. if b then None else Some (inside st hs (os ++ r ∷ []) w)) h.0)
      ∙ (rules_again rs hs (os ++ r ∷ []) w q h.1 ∙ ap (λ x. order (inside st hs x w) q) (append_assoc os (r ∷ []) rs))

open_again : (w : Walk) (q : List Placed) → ends q ≡ true → (block_begun w (ends q) >>= λ v. order v q)
    ≡ order (inside InBlock [] [] w) q
open_again w q h = ap (λ b. block_begun w b >>= λ v. order v q) h

part_again : (p : Part) (w : Walk) (q : List Placed) → LocalOutside p
    → order (out Ruled w) (part_lines p q) ≡ order (out Ruled (more_items w (part_entry p ∷ []))) q
part_again (O.Alone r) w q h = refl
part_again (O.Whole o vs c) w q h =
    open_again w (rule_lines vs (placed c L.Closes ∷ q)) (ends_behind vs _)
    ∙ rules_again InBlock (λ v r. refl) vs [] [] w (placed c L.Closes ∷ q) h
part_again (O.Halves o hs i vs c) w q h =
    open_again w (rule_lines hs (placed i L.Splits ∷ rule_lines vs (placed c L.Closes ∷ q))) (ends_behind hs _
    ∙ ends_behind vs _)
    ∙ (rules_again InBlock (λ v r. refl) hs [] [] w (placed i L.Splits ∷ rule_lines vs (placed c L.Closes ∷ q)) h.0
    ∙ rules_again BehindIn (λ v r. refl) vs hs [] w (placed c L.Closes ∷ q) h.1)

parts_again : (ps : List Part) (w : Walk) → AllLocalOutside ps
    → order (out Ruled w) (parts_lines ps) ≡ Some (out Ruled (more_items w (part_entries ps)))
parts_again [] w h = ap (λ x. Some (out Ruled (record w { items = x }))) (sym (append-nil w.items))
parts_again (p ∷ ps) w h =
    part_again p w (parts_lines ps) h.0
    ∙ (parts_again ps (more_items w (part_entry p ∷ [])) h.1
    ∙ ap (λ x. Some (out Ruled (record w { items = x }))) (append_assoc w.items (part_entry p ∷ []) (part_entries ps)))

-- the stages before the first part, in their order
abbrev IsEarly : Stage → Bool
IsEarly Begun = true
IsEarly Versioned = true
IsEarly Packaged = true
IsEarly _ = false

first_part : (st : Stage) (p : Part) (w : Walk) (q : List Placed) → IsEarly st ≡ true
    → order (out st w) (part_lines p q) ≡ order (out Ruled w) (part_lines p q)
first_part Begun (O.Alone r) w q h = refl
first_part Begun (O.Whole o vs c) w q h = refl
first_part Begun (O.Halves o hs i vs c) w q h = refl
first_part Versioned (O.Alone r) w q h = refl
first_part Versioned (O.Whole o vs c) w q h = refl
first_part Versioned (O.Halves o hs i vs c) w q h = refl
first_part Packaged (O.Alone r) w q h = refl
first_part Packaged (O.Whole o vs c) w q h = refl
first_part Packaged (O.Halves o hs i vs c) w q h = refl
first_part Ruled p w q h = absurd cc
first_part InBlock p w q h = absurd cc
first_part BehindIn p w q h = absurd cc

-- the statements end outside a block, and this was said
pub record Ordered (w : Walk) (ls : List Placed) (said : Walk) : Type 0 where
  pub stage : Stage
  pub ordered : order w ls ≡ Some (out stage said)

early_parts : (st : Stage) (ps : List Part) (w : Walk) → IsEarly st ≡ true → AllLocalOutside ps
    → Ordered (out st w) (parts_lines ps) (more_items w (part_entries ps))
early_parts st [] w h k =
    record { stage = st; ordered = ap (λ x. Some (out st (record w { items = x }))) (sym (append-nil w.items)) }
early_parts st (p ∷ ps) w h k =
    record { stage = Ruled; ordered = first_part st p w (parts_lines ps) h ∙ parts_again (p ∷ ps) w k }

import_early : (st : Stage) (at : ℕ) (es : List Import) (w : Walk) (q : List Placed) → IsEarly st ≡ true
    → order (out st w) (placed at (L.Imports es) ∷ q) ≡ order (out Packaged (more_imports w es)) q
import_early Begun at es w q h = refl
import_early Versioned at es w q h = refl
import_early Packaged at es w q h = refl
import_early Ruled at es w q h = absurd cc
import_early InBlock at es w q h = absurd cc
import_early BehindIn at es w q h = absurd cc

-- the same, where what was said is told in another way
told : (w : Walk) (ls qs : List Placed) (u v x : Walk) → order w ls ≡ order u qs → x ≡ v → Ordered u qs x
    → Ordered w ls v
told w ls qs u v x e f h = record { stage = h.stage; ordered = e ∙ (h.ordered ∙ ap (λ y. Some (out h.stage y)) f) }

early_imports : (st : Stage) (is : List Importing) (ps : List Part) (w : Walk) → IsEarly st ≡ true → AllLocalOutside ps
    → Ordered (out st w) (import_lines is (parts_lines ps))
    (more_items (more_imports w (all_imports is)) (part_entries ps))
early_imports st [] ps w h k =
    told (out st w) (parts_lines ps) (parts_lines ps) (out st w) _ (more_items w (part_entries ps)) refl
    (ap (λ x. record w { imports = x; items = w.items ++ part_entries ps }) (sym (append-nil w.imports)))
    (early_parts st ps w h k)
early_imports st (i ∷ is) ps w h k =
    told (out st w) (import_lines (i ∷ is) (parts_lines ps)) (import_lines is (parts_lines ps))
    (out Packaged (more_imports w i.entries)) _ (more_items (more_imports (more_imports w i.entries) (all_imports is))
    (part_entries ps)) (import_early st i.at i.entries w (import_lines is (parts_lines ps)) h)
    (ap (λ x. record w { imports = x; items = w.items ++ part_entries ps })
    (append_assoc w.imports i.entries (all_imports is))) (early_imports Packaged is ps (more_imports w i.entries) refl
    k)

-- what a module says after its version
abbrev pub outline_walk : Outline → Walk
outline_walk o = record {
  stage = Begun;
  version = o.version;
  name = title_name o.title;
  imports = all_imports o.imports;
  items = part_entries o.parts;
  hidden = [];
  rules = [];
}

pub order_again : (o : Outline) → AllLocalOutside o.parts → Ordered begun (outline_lines o) (outline_walk o)
order_again o h = by_version o.version o.title
  where
    by_version : (v : Option Numbered) (t : Option Title)
        → Ordered begun (version_lines v (title_lines t (import_lines o.imports (parts_lines o.parts))))
        (outline_walk (record o { version = v; title = t }))
    by_version None None = early_imports Begun o.imports o.parts begun refl h
    by_version None (Some t) =
        let x = early_imports Packaged o.imports o.parts (record begun { name = title_name (Some t) }) refl h in
        record { stage = x.stage; ordered = x.ordered }
    by_version (Some v) None =
        let x = early_imports Versioned o.imports o.parts (record begun { version = Some v }) refl h in
        record { stage = x.stage; ordered = x.ordered }
    by_version (Some v) (Some t) =
        let x = early_imports Packaged o.imports o.parts (record begun { version = Some v; name = title_name (Some t) })
        refl h in
        record { stage = x.stage; ordered = x.ordered }
