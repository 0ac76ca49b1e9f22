-- The modules stay as they are to be when a root is read, and when the last one is.
use Rattle.std.proofs.Common.{arith, ◌≡◌, inl, ℕ, ◌+◌, List, [], ◌∷◌, ◌++◌, length, Some, None, refl}
use Rattle.std.specs.Prelude.{false, slice_get}
use Rattle.std.proofs.lemmas.List.{length-append}
use Rattle.rpl_scope.specs.Packages.{Module}
use Rattle.rpl_names.specs.Loading.{State}
use Rattle.rpl_names.specs.Roots.{Roots, Packages, begun, finish_set, with_root}
use Rattle.rpl_expand.proofs.Importing.{prefix_more}
use Rattle.rpl_expand.proofs.Lists.{nth_last}
use Rattle.rpl_expand.proofs.Modules.{grows_on, module_on}
use Rattle.rpl_expand.proofs.Walking.{IsStock, IsState, Came, empty_is, grows_more, stock_more}

-- sound modules, and a top module
pub record IsSet (p : Packages) : Type 0 where
  pub stock : IsStock p.stock
  pub top : (m : Module) × (slice_get p.stock.modules p.top ≡ Some m)

pub whole_is : (s : Roots) → IsState s.state → IsSet (finish_set s)
whole_is s h = record {
  stock = stock_more s.state.stock s.state.own h.stock h.own;
  top = (s.state.own, nth_last s.state.stock.modules s.state.own (length s.state.stock.modules) refl);
}

-- a root's own module, after those that were there, with its prefix in the top module
pub rooted : (n : List ℕ) (s u : State) → IsState s → Came s.stock u → Came s.stock (with_root n s.own u).1
rooted n s u h c =
    let ms = u.stock.modules in
    let all = ms ++ u.own ∷ [] in
    let l : length all ≡ length ms + 1 = length-append ms (u.own ∷ []) in
    let grows = grows_on s.stock.modules ms all c.grows (grows_more ms u.own) in
    let top =
    module_on false s.stock.modules all (length s.stock.modules) (length all) s.own grows grows.longer h.own in
    record {
      state = record {
        stock = stock_more u.stock u.own c.state.stock c.state.own;
        own = prefix_more false all (length all) s.own n (record { since = length s.own.rules; number = length ms })
            top (inl (omega (arith, l)));
      };
      grows = grows;
    }

pub begun_is : IsState begun.state
begun_is = record {
  stock = record { sound = record { each = λ i m h. absurd (cc) }; paths = λ p j h. absurd (cc) };
  own = empty_is [] 0 None [];
}
