-- The modules stay as they are to be when one is loaded after them.
use Rattle.std.proofs.Common.{arith, ◌≡◌, ◌<◌, ◌⊎◌, inl, inr, ℕ, ◌+◌, List, [], ◌∷◌, ◌++◌, length}
use Rattle.std.proofs.Common.{Option, Some, None, refl, sym, subst}
use Rattle.std.specs.Prelude.{true, false, slice_get}
use Rattle.std.proofs.lemmas.List.{length-append}
use Rattle.rpl_scope.specs.Packages.{Module, first_of, added_at}
use Rattle.rpl_names.specs.Loading.{Stock, State, empty_module, finished, taken_up, with_path, with_text}
use Rattle.rpl_expand.proofs.Laying.{laid_none}
use Rattle.rpl_expand.proofs.Lists.{nth_more, nth_end, first_end, Either}
use Rattle.rpl_expand.proofs.Modules.{IsModule, AreSound, Grows, grows_same, grows_on, Extends, said_on}
use Rattle.rpl_expand.proofs.Modules.{module_on, is_done}

-- the loaded modules, and the numbers under their paths
pub record IsStock (s : Stock) : Type 0 where
  pub sound : AreSound s.modules
  pub paths : (p : List ℕ) (j : ℕ) → first_of p s.paths ≡ Some j → j < length s.modules

-- and the module at work, which will be after them
pub record IsState (s : State) : Type 0 where
  pub stock : IsStock s.stock
  pub own : IsModule false s.stock.modules (length s.stock.modules) s.own

-- what came of some modules
pub record Came (s : Stock) (t : State) : Type 0 where
  pub state : IsState t
  pub grows : Grows s.modules t.stock.modules

pub came_on : (s : Stock) (t u : State) → Came s t → Came t.stock u → Came s u
came_on s t u g h = record {
  state = h.state;
  grows = grows_on s.modules t.stock.modules u.stock.modules g.grows h.grows;
}

-- ---- one module more

pub grows_more : (ms : List Module) (m : Module) → Grows ms (ms ++ m ∷ [])
grows_more ms m = record {
  longer = omega (arith, length-append ms (m ∷ []));
  kept = λ j x h. (x, nth_more ms (m ∷ []) j x h, refl, refl);
}

sound_by : (ms : List Module) (m : Module) (i : ℕ) (x : Module) → AreSound ms → IsModule false ms (length ms) m
    → (slice_get ms i ≡ Some x) ⊎ ((i ≡ length ms) × (x ≡ m))
    → IsModule true (ms ++ m ∷ []) i x
sound_by ms m i x all own (inl h) =
    module_on true ms (ms ++ m ∷ []) i i x (grows_more ms m) (omega arith) (all.each i x h)
sound_by ms m i x all own (inr h) =
    let done : IsModule true (ms ++ m ∷ []) (length ms) m = module_on true ms (ms ++ m ∷ []) (length ms) (length ms) m
    (grows_more ms m) (omega arith) (is_done ms (length ms) m own) in
    subst (λ y. IsModule true (ms ++ m ∷ []) i y) (sym h.1)
    (subst (λ j. IsModule true (ms ++ m ∷ []) j m) (sym h.0) done)

pub sound_more : (ms : List Module) (m : Module) → AreSound ms → IsModule false ms (length ms) m
    → AreSound (ms ++ m ∷ [])
sound_more ms m all own = record { each = λ i x h. sound_by ms m i x all own (nth_end ms m i x h) }

within_one : (n j i : ℕ) (p k : List ℕ) (o : Option ℕ) → (o ≡ Some j → j < n) → i < n → Either o j i p k → j < n
within_one n j i p k o f lt (inl h) = f h
within_one n j i p k o f lt (inr h) = let e = h.1 in omega (arith, e, lt)

added_within : (n i : ℕ) (k : List ℕ) (ps : List (List ℕ × ℕ)) (o : Option ℕ)
    → ((p : List ℕ) (j : ℕ) → first_of p ps ≡ Some j → j < n) → i < n
    → (p : List ℕ) (j : ℕ) → first_of p (added_at o k i ps) ≡ Some j → j < n
added_within n i k ps None f lt p j h = within_one n j i p k (first_of p ps) (f p j) lt (first_end p ps k i j h)
added_within n i k ps (Some x) f lt p j h = f p j h

path_within : (n i : ℕ) (k : Option (List ℕ)) (ps : List (List ℕ × ℕ))
    → ((p : List ℕ) (j : ℕ) → first_of p ps ≡ Some j → j < n) → i < n
    → (p : List ℕ) (j : ℕ) → first_of p (with_path k i ps) ≡ Some j → j < n
path_within n i None ps f lt p j h = f p j h
path_within n i (Some k) ps f lt p j h = added_within n i k ps (first_of k ps) f lt p j h

pub stock_more : (s : Stock) (m : Module) → IsStock s → IsModule false s.modules (length s.modules) m
    → IsStock (finished s m)
stock_more s m h own =
    let l : length (s.modules ++ m ∷ []) ≡ length s.modules + 1 = length-append s.modules (m ∷ []) in
    record {
      sound = sound_more s.modules m h.sound own;
      paths = path_within (length (s.modules ++ m ∷ [])) (length s.modules) m.path s.paths
          (λ p j f. omega (arith, h.paths p j f, l)) (omega (arith, l));
    }

pub record Reached (s : Stock) (r : ℕ × Stock) : Type 0 where
  pub stock : IsStock r.1
  pub grows : Grows s.modules r.1.modules
  pub within : r.0 < length r.1.modules

pub taken : (s : Stock) (t : State) → Came s t → Reached s (taken_up t)
taken s t c =
    let own = c.state.own in
    record {
      stock = stock_more t.stock t.own c.state.stock own;
      grows = grows_on s.modules t.stock.modules (t.stock.modules ++ t.own ∷ []) c.grows
          (grows_more t.stock.modules t.own);
      within = omega (arith, length-append t.stock.modules (t.own ∷ []));
    }

-- ---- a module at work

pub same_state : (s : State) → IsState s → Came s.stock s
same_state s h = record { state = h; grows = grows_same s.stock.modules }

text_extends : (m : Module) (f : List ℕ) → Extends (length m.rules) m (with_text m f)
text_extends m f = record { names = λ k e h. h; fresh = λ k e g h. absurd (cc); prefixes = λ k p h. h }

pub text_more : (ms : List Module) (i : ℕ) (m : Module) (f : List ℕ) → IsModule false ms i m
    → IsModule false ms i (with_text m f)
text_more ms i m f h = record {
  formed = record { laid = h.formed.laid; names = h.formed.names; prefixes = h.formed.prefixes };
  said = said_on ms ms m (with_text m f) (grows_same ms) (text_extends m f) refl h.formed.laid h.said;
}

pub empty_is : (ms : List Module) (i : ℕ) (path : Option (List ℕ)) (label : List ℕ)
    → IsModule false ms i (empty_module path label)
empty_is ms i path label = record {
  formed = record { laid = laid_none; names = λ n e h. absurd (cc); prefixes = λ n p h. absurd (cc) };
  said = record { each = λ t r q h c. absurd (cc) };
}
