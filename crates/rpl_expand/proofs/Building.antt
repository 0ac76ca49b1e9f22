-- The modules are as they are to be in every set that is built.
use Rattle.std.proofs.Common.{inl, inr, ℕ, List, [], ◌∷◌, length, Option, Some, None, refl, sym, subst}
use Rattle.std.specs.Prelude.{false, slice_get}
use Rattle.rpl_names.specs.Loading.{Stock, State, finished, label_of}
use Rattle.rpl_names.specs.Roots.{Packages, begun, top_head}
use Rattle.rpl_names.specs.declared.stock.Head.{Head}
use Rattle.rpl_names.specs.Built.{Becomes, same, on, text, said, again, imported, rooted, opened, headed}
use Rattle.rpl_names.specs.Built.{Reaches, IsBuilt, by_roots, by_name, packages}
use Rattle.rpl_expand.proofs.Entering.{statements_in}
use Rattle.rpl_expand.proofs.Goals.{became_on, put_in}
use Rattle.rpl_expand.proofs.Importing.{taken_in}
use Rattle.rpl_expand.proofs.Modules.{grows_same, module_on}
use Rattle.rpl_expand.proofs.LoadedRoots as R
use Rattle.rpl_expand.proofs.LoadedRoots.{IsSet, begun_is, whole_is}
use Rattle.rpl_expand.proofs.Texts.{plain_text}
use Rattle.rpl_expand.proofs.Walking.{IsStock, IsState, Came, Reached, came_on, text_more, same_state, empty_is}
use Rattle.rpl_expand.proofs.Walking.{taken}

opens : (s : Stock) (path : Option (List ℕ)) (label : List ℕ) → IsStock s → IsState (opened s path label)
opens s path label h = record { stock = h; own = empty_is s.modules (length s.modules) path label }

-- what comes of a sound state is sound
came : (hs : List Head) (s t : State) → Becomes hs s t → IsState s → Came s.stock t
came hs s t (same gs x) h = same_state s h
came hs s t (on gs a b c f g) h = let x = came hs s b f h in came_on s.stock b t x (came hs b t g x.state)
came hs s t (text gs a f) h = record {
  state = record {
    stock = h.stock;
    own = text_more s.stock.modules (length s.stock.modules) s.own f h.own;
  };
  grows = grows_same s.stock.modules;
}
came hs s t (said gs a f k x m is e) h =
    let ms = s.stock.modules in
    record {
      state = record {
        stock = h.stock;
        own = statements_in f k ms (length ms) x.items s.own m h.own (plain_text x is).unmarked e;
      };
      grows = grows_same ms;
    }
came hs s t (again gs a f i j m asked k e) h =
    let ms = s.stock.modules in
    record {
      state = record {
        stock = h.stock;
        own = taken_in ms (length ms) f i j s.own m h.own (h.stock.paths i.path j k) e;
      };
      grows = grows_same ms;
    }
came hs s t (imported gs a u f i x m asked is free b e) h =
    let label = label_of x.name i.path in
    let up =
    taken s.stock u (came (headed hs (Some i.path) label) (opened s.stock (Some i.path) label) u b
    (opens s.stock (Some i.path) label h.stock)) in
    let all = (finished u.stock u.own).modules in
    let own = module_on false s.stock.modules all (length s.stock.modules) (length all) s.own up.grows up.grows.longer
    h.own in
    record {
      state = record {
        stock = up.stock;
        own = taken_in all (length all) f i (length u.stock.modules) s.own m own up.within e;
      };
      grows = up.grows;
    }
came hs s t (rooted gs a u x q is name fresh free b) h =
    R.rooted q.name s u h
    (came (headed hs None q.name) (opened s.stock None q.name) u b (opens s.stock None q.name h.stock))

reaches : (hs : List Head) (path : List ℕ) (s : Stock) (r : ℕ × Stock) → IsStock s → Reaches hs path s r → Reached s r
reaches hs path s r h (inl x) =
    subst (λ y. Reached s (r.0, y)) (sym x.1)
    (record { stock = h; grows = grows_same s.modules; within = h.paths path r.0 x.0 })
reaches hs path s r h (inr x) =
    let l = x.1 in
    let label = label_of l.text.name path in
    subst (Reached s) (sym x.2)
    (taken s x.0 (came (headed hs (Some path) label) (opened s (Some path) label) x.0 l.makes.comes
    (opens s (Some path) label h)))

-- every set that is built has sound modules
pub set_of : (p : Packages) → IsBuilt p → IsSet p
set_of p (by_roots s rs b) =
    whole_is (record { roots = rs; state = s })
    (came (top_head ∷ []) begun.state s b begun_is).state
set_of p (by_name s t i rs f e r b asked k q) =
    let h = set_of (packages s i rs) b in
    let c = reaches [] e.path s r h.stock k in
    let g = put_in f e r.0 i r.1 t (slice_get r.1.modules i) c.stock refl q in
    let up = became_on s r.1 t (record { stock = c.stock; grows = c.grows }) g in
    let top = up.grows.kept i h.top.0 h.top.1 in
    record { stock = up.stock; top = (top.0, top.1) }
