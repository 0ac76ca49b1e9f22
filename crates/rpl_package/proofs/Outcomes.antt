-- Steps of a loading, and what follows them.
use Rattle.std.proofs.Common.{◌≡◌, inl, inr, ℕ, List, [], ◌∷◌, ◌++◌, refl, sym, ap, subst, ◌∙◌, false}
use Rattle.std.proofs.Common.{true≢false}
use Rattle.std.proofs.lemmas.List.{append-nil, append_assoc, map-append}
use Rattle.std.specs.Prelude.{Option, Some, None, Result, Ok, Err, IfOk, IfErr, IsErrAnd, encode_utf8_all}
use Rattle.rpl_scope.specs.Faults.{Checks, Or, ◌>>=◌, is_silent, StopIs, Gives, unless}
use Rattle.rpl_scope.specs.declared.fault.LoadFault.{LoadFault}
use Rattle.rpl_scope.specs.declared.fault.LoadKind.{LoadKind}
use Rattle.rpl_scope.specs.declared.fault.LoadKind.TheVariants as K
use Rattle.rpl_scope.specs.declared.fault.Stop.{Stop}
use Rattle.rpl_scope.specs.declared.fault.Stop.TheVariants.{Memory, Fault}
use Rattle.rpl_package.specs.Asking.{Outcome, at_once, asked_then, and_then, each_in_turn, in_bytes, EndsWith, IsFront}
use Rattle.rpl_package.specs.Asking.{IsTold}
pub use Rattle.rpl_package.specs.inside.Following.{Follows}
use Rattle.rpl_package.specs.inside.Stopping.{Comes, FaultAfter, MayStop, StopsAfter, Walks}

-- ---- lists of paths

-- paths that are asked for one after the other
pub joined : (l m n ps qs : List (List ℕ)) → m ≡ l ++ in_bytes ps → n ≡ m ++ in_bytes qs
    → n ≡ l ++ in_bytes (ps ++ qs)
joined l m n ps qs h k =
    k ∙ ap (λ x. x ++ in_bytes qs) h ∙ append_assoc l (in_bytes ps) (in_bytes qs)
    ∙ ap (λ x. l ++ x) (sym (map-append encode_utf8_all ps qs))

pub none_asked : (l : List (List ℕ)) → l ≡ l ++ in_bytes []
none_asked l = sym (append-nil l)

front_on : (all rest ps qs : List (List ℕ)) → all ≡ ps ++ rest → IsFront qs rest → IsFront (ps ++ qs) all
front_on all rest ps qs h f = (f.0, h ∙ ap (λ x. ps ++ x) f.1 ∙ sym (append_assoc ps qs f.0))

last_on : (p : List ℕ) (ps qs : List (List ℕ)) → EndsWith p qs → EndsWith p (ps ++ qs)
last_on p ps qs e = (ps ++ e.0, ap (λ x. ps ++ x) e.1 ∙ sym (append_assoc ps e.0 (p ∷ [])))

front_more : (ps xs ys : List (List ℕ)) → IsFront ps xs → IsFront ps (xs ++ ys)
front_more ps xs ys f = (f.0 ++ ys, ap (λ x. x ++ ys) f.1 ∙ append_assoc ps f.0 ys)

front_all : (xs : List (List ℕ)) → IsFront xs xs
front_all xs = ([], sym (append-nil xs))

-- ---- what follows what

-- an outcome follows any outcome that equals it
pub same : {A : Type 0} {n : List (List ℕ)} (a b : Outcome A) → a ≡ b → Follows n n a b
same {A} {n} a b h = subst (Follows n n a) h (record { answer = refl; since = []; asked = none_asked n; rest = refl })

-- if one outcome follows another, which follows a third, the first follows the third
pub trail : {A : Type 0} {l m n : List (List ℕ)} (a b c : Outcome A) → Follows n m a b → Follows m l b c
    → Follows n l a c
trail a b c h k =
    record {
      answer = h.answer ∙ k.answer;
      since = k.since ++ h.since;
      asked = joined _ _ _ k.since h.since k.asked h.asked;
      rest = k.rest ∙ ap (λ x. k.since ++ x) h.rest ∙ sym (append_assoc k.since h.since a.asked);
    }

fault_on : {A : Type 0} (k : LoadKind) (f : LoadFault) (a b : Outcome A) (ps qs : List (List ℕ))
    → a.answer ≡ b.answer → b.asked ≡ ps ++ a.asked → FaultAfter k f a qs → FaultAfter k f b (ps ++ qs)
fault_on K.NoMemory f a b ps qs h k e = front_on b.asked a.asked ps qs k e
fault_on K.ReadFault f a b ps qs h k e = (front_on b.asked a.asked ps qs k e.0, last_on f.file ps qs e.1)
fault_on _ f a b ps qs h k e = (sym h ∙ e.0, ap (λ x. ps ++ x) e.1 ∙ sym k)

stop_after : {A : Type 0} (s : Stop) (a b : Outcome A) (ps qs : List (List ℕ)) → a.answer ≡ b.answer
    → b.asked ≡ ps ++ a.asked → StopsAfter s a qs → StopsAfter s b (ps ++ qs)
stop_after Memory a b ps qs h k e = front_on b.asked a.asked ps qs k e
stop_after (Fault f) a b ps qs h k e = fault_on f.kind f a b ps qs h k e

pub may_lead : {A : Type 0} {l m n : List (List ℕ)} (s : Stop) (a b : Outcome A) → Follows m l a b → MayStop m n s a
    → MayStop l n s b
may_lead s a b h e =
    record {
      paths = h.since ++ e.paths;
      asked = joined _ _ _ h.since e.paths h.asked e.asked;
      stops = stop_after s a b h.since e.paths h.answer h.rest e.stops;
    }

pub comes_lead : {A : Type 0} {l m n : List (List ℕ)} (x : A) (a b : Outcome A) → Follows m l a b → Comes m n x a
    → Comes l n x b
comes_lead {A} {l} x a b h e =
    record {
      answer = sym h.answer ∙ e.answer;
      asked = joined _ _ _ h.since a.asked h.asked e.asked ∙ ap (λ ps. l ++ in_bytes ps) (sym h.rest);
    }

pub walks_lead : {X A : Type 0} {l m : List (List ℕ)} (n : List (List ℕ)) (see : X → A)
    (res : Result X Stop) (a b : Outcome A) → Follows m l a b → Walks m n see res a → Walks l n see res b
walks_lead n see (Ok x) a b h e = comes_lead (see x) a b h e
walks_lead n see (Err s) a b h e = may_lead s a b h e

-- what `?` returns stops as the call did
pub err_passed : {X : Type 0} (P : Stop → Type 0) (res : Result X Stop) (s : Stop) → IsErrAnd res (λ t. t ≡ s) → P s
    → IfErr res P
err_passed P (Ok x) s h k = tt
err_passed P (Err t) s h k = subst P (sym h) k

pub passed_on : {X A : Type 0} {l n : List (List ℕ)} (see : X → A) (res : Result X Stop) (s : Stop) (o : Outcome A)
    → IsErrAnd res (λ t. t ≡ s) → MayStop l n s o → Walks l n see res o
passed_on see (Ok x) s o h k = absurd h
passed_on {X} {A} {l} {n} see (Err t) s o h k = subst (λ u. MayStop l n u o) (sym h) k

-- a call that runs out of memory before it asks for anything
pub out_first : {A : Type 0} {l : List (List ℕ)} (o : Outcome A) → MayStop l l Memory o
out_first {A} {l} o = record { paths = []; asked = none_asked l; stops = (o.asked, refl) }

pub passed_out : {X A : Type 0} {l n : List (List ℕ)} (see : X → A) (res : Result X Stop) (s : Stop) (o : Outcome A)
    → IsErrAnd res (λ t. t ≡ s) → s ≡ Memory → MayStop l n Memory o → Walks l n see res o
passed_out {X} {A} {l} {n} see res s o h e k = passed_on see res s o h (subst (λ t. MayStop l n t o) (sym e) k)

-- and one that does when it has asked for all
pub out_last : {A : Type 0} {l n : List (List ℕ)} (x : A) (o : Outcome A) → Comes l n x o → MayStop l n Memory o
out_last x o h = record { paths = o.asked; asked = h.asked; stops = front_all o.asked }

-- what is said of an error leads to what else is said of it
pub err_leads : {X : Type 0} (res : Result X Stop) (P Q : Stop → Type 0) → IfErr res P → ((s : Stop) → P s → Q s)
    → IfErr res Q
err_leads (Ok x) P Q h k = tt
err_leads (Err s) P Q h k = k s h

-- what a call that is made last answers
pub if_ok : {X : Type 0} (res : Result X Stop) (P : X → Type 0) → ((x : X) → res ≡ Ok x → P x) → IfOk res P
if_ok (Ok x) P h = h x refl
if_ok (Err s) P h = tt

pub walks_last : {X A : Type 0} {l n : List (List ℕ)} (see : X → A) (res : Result X Stop) (o : Outcome A) (v : A)
    → IfErr res (λ s. s ≡ Memory) → Comes l n v o → ((x : X) → res ≡ Ok x → v ≡ see x) → Walks l n see res o
walks_last see (Ok x) o v h c k = record { answer = c.answer ∙ ap Ok (k x refl); asked = c.asked }
walks_last {X} {A} {l} {n} see (Err s) o v h c k = subst (λ t. MayStop l n t o) (sym h) (out_last v o c)

fault_then : {A B : Type 0} (k : LoadKind) (f : LoadFault) (a : Outcome A) (next : A → Outcome B) (ps : List (List ℕ))
    → FaultAfter k f a ps → FaultAfter k f (and_then a next) ps
fault_then K.NoMemory f a next ps e = front_more ps a.asked (asked_then a.answer next) e
fault_then K.ReadFault f a next ps e = (front_more ps a.asked (asked_then a.answer next) e.0, e.1)
fault_then _ f a next ps e = (
  ap (λ r. r >>= λ x. (next x).answer) e.0,
  e.1 ∙ sym (ap (λ r. a.asked ++ asked_then r next) e.0 ∙ append-nil a.asked),
)

after_then : {A B : Type 0} (s : Stop) (a : Outcome A) (next : A → Outcome B) (ps : List (List ℕ)) → StopsAfter s a ps
    → StopsAfter s (and_then a next) ps
after_then Memory a next ps e = front_more ps a.asked (asked_then a.answer next) e
after_then (Fault f) a next ps e = fault_then f.kind f a next ps e

-- what stops a step stops all that follows
pub may_then : {A B : Type 0} {l n : List (List ℕ)} (s : Stop) (a : Outcome A) (next : A → Outcome B)
    → MayStop l n s a → MayStop l n s (and_then a next)
may_then s a next e = record { paths = e.paths; asked = e.asked; stops = after_then s a next e.paths e.stops }

-- what is made of an answer asks for nothing
no_more : {A B : Type 0} (r : Or A) (g : A → B) → asked_then r (λ x. at_once (Ok (g x))) ≡ []
no_more (Ok x) g = refl
no_more (Err e) g = refl

pub only_made : {A B : Type 0} (a : Outcome A) (g : A → B) → (and_then a (λ x. at_once (Ok (g x)))).asked ≡ a.asked
only_made a g = ap (λ x. a.asked ++ x) (no_more a.answer g) ∙ append-nil a.asked

-- so it is left as it was asked for
pub made_of : {A B : Type 0} {l n : List (List ℕ)} (x : A) (a : Outcome A) (g : A → B) → Comes l n x a
    → Comes l n (g x) (and_then a (λ x. at_once (Ok (g x))))
made_of {A} {B} {l} x a g h =
    record {
      answer = ap (λ r. r >>= λ y. Ok (g y)) h.answer;
      asked = h.asked ∙ ap (λ ps. l ++ in_bytes ps) (sym (only_made a g));
    }

fault_before : {A B : Type 0} (r : Or A) (g : A → B) (f : LoadFault) → (r >>= λ x. Ok (g x)) ≡ Err f → r ≡ Err f
fault_before (Ok x) g f e = absurd (cc)
fault_before (Err y) g f e =
    let h : y ≡ f = cc in
    ap Err h

kind_before : {A B : Type 0} (k : LoadKind) (f : LoadFault) (a : Outcome A) (g : A → B) (ps : List (List ℕ))
    → FaultAfter k f (and_then a (λ x. at_once (Ok (g x)))) ps → FaultAfter k f a ps
kind_before K.NoMemory f a g ps e = subst (IsFront ps) (only_made a g) e
kind_before K.ReadFault f a g ps e = (subst (IsFront ps) (only_made a g) e.0, e.1)
kind_before _ f a g ps e = (fault_before a.answer g f e.0, e.1 ∙ only_made a g)

after_before : {A B : Type 0} (s : Stop) (a : Outcome A) (g : A → B) (ps : List (List ℕ))
    → StopsAfter s (and_then a (λ x. at_once (Ok (g x)))) ps → StopsAfter s a ps
after_before Memory a g ps e = subst (IsFront ps) (only_made a g) e
after_before (Fault f) a g ps e = kind_before f.kind f a g ps e

-- what stops a step and what is made of its answer stops the step
pub may_before : {A B : Type 0} {l n : List (List ℕ)} (s : Stop) (a : Outcome A) (g : A → B)
    → MayStop l n s (and_then a (λ x. at_once (Ok (g x)))) → MayStop l n s a
may_before s a g e = record { paths = e.paths; asked = e.asked; stops = after_before s a g e.paths e.stops }

-- after a step that has an answer comes the next
pub then_follows : {A B : Type 0} {l n : List (List ℕ)} (a : Outcome A) (x : A) (next : A → Outcome B)
    → Comes l n x a → Follows n l (next x) (and_then a next)
then_follows a x next h =
    record {
      answer = sym (ap (λ r. r >>= λ y. (next y).answer) h.answer);
      since = a.asked;
      asked = h.asked;
      rest = ap (λ r. a.asked ++ asked_then r next) h.answer;
    }

-- an answer that equals another
pub comes_as : {A : Type 0} {l n : List (List ℕ)} (x y : A) (o : Outcome A) → x ≡ y → Comes l n x o → Comes l n y o
comes_as x y o e h = record { answer = h.answer ∙ ap Ok e; asked = h.asked }

-- what is there without asking
pub there : {A : Type 0} {l : List (List ℕ)} (x : A) (r : Or A) → r ≡ Ok x → Comes l l x (at_once r)
there {A} {l} x r h = record { answer = h; asked = none_asked l }

-- ---- what is told of a step

none_left : (xs ys : List (List ℕ)) → xs ++ ys ≡ [] → ys ≡ []
none_left [] ys h = h
none_left (x ∷ xs) ys h = absurd (cc)

none_first : (xs ys : List (List ℕ)) → xs ++ ys ≡ [] → xs ≡ []
none_first [] ys h = refl
none_first (x ∷ xs) ys h = absurd (cc)

-- where all that follows is told, so is the step, and what it leads to
pub told_lead : {A : Type 0} {m n : List (List ℕ)} (T : Type 0) (a b : Outcome A) → Follows n m a b
    → IsTold T b.asked → IsTold T a.asked
told_lead T a b h (inl t) = inl t
told_lead T a b h (inr e) = inr (none_left h.since a.asked (sym h.rest ∙ e))

-- where all that a step and the next one ask for is told, so is what the step asks for
pub told_then : {A B : Type 0} (T : Type 0) (a : Outcome A) (next : A → Outcome B) → IsTold T (and_then a next).asked
    → IsTold T a.asked
told_then T a next (inl t) = inl t
told_then T a next (inr e) = inr (none_first a.asked (asked_then a.answer next) e)

-- a step that goes on to the next, where all of it is told
module _ {A B : Type 0} {k l m : List (List ℕ)} (T : Type 0) (a b : Outcome A) (next : A → Outcome B) (whole :
    Outcome B) (moved : Follows m l a b) (led : Follows l k (and_then b next) whole) (told : IsTold T whole.asked) where
  told_step : IsTold T a.asked
  told_step = told_lead T a b moved (told_then T b next (told_lead T (and_then b next) whole led told))

  -- what stops it stops all of it
  pub step_stops : {n : List (List ℕ)} (s : Stop) → (IsTold T a.asked → MayStop m n s a) → MayStop k n s whole
  step_stops s h = may_lead s (and_then b next) whole led (may_then s b next (may_lead s a b moved (h told_step)))

  -- after its answer the next is left
  pub step_on : {n : List (List ℕ)} (x : A) → (IsTold T a.asked → Comes m n x a) → Follows n k (next x) whole
  step_on x h =
      trail (next x) (and_then b next) whole (then_follows b x next (comes_lead x a b moved (h told_step))) led

-- what is made of an answer asks for nothing more
pub told_before : {A B : Type 0} (T : Type 0) (a : Outcome A) (g : A → B) → IsTold T a.asked
    → IsTold T (and_then a (λ x. at_once (Ok (g x)))).asked
told_before T a g (inl t) = inl t
told_before T a g (inr e) = inr (only_made a g ∙ e)

-- ---- calls that read no file

fault_loud : {A : Type 0} (k : LoadKind) (f : LoadFault) (r : Or A) → is_silent k ≡ false → r ≡ Err f
    → FaultAfter k f (at_once r) []
fault_loud K.NoMemory f r h e = absurd (true≢false h)
fault_loud K.ReadFault f r h e = absurd (true≢false h)
fault_loud _ f r h e = (e, refl)

after_none : {A : Type 0} (s : Stop) (r : Or A) → StopIs s r → StopsAfter s (at_once r) []
after_none Memory r h = ([], refl)
after_none (Fault f) r h = fault_loud f.kind f r h.0 h.1

pub may : {A : Type 0} {l : List (List ℕ)} (s : Stop) (r : Or A) → StopIs s r → MayStop l l s (at_once r)
may {A} {l} s r h = record { paths = []; asked = none_asked l; stops = after_none s r h }

pub gives_walks : {X A : Type 0} (l : List (List ℕ)) (see : X → A) (res : Result X Stop) (r : Or A) → Gives see res r
    → Walks l l see res (at_once r)
gives_walks l see (Ok x) r h = there (see x) r h
gives_walks l see (Err s) r h = may s r h

stop_on : {A B : Type 0} (s : Stop) (r : Or A) (g : A → B) → StopIs s r → StopIs s (r >>= λ x. Ok (g x))
stop_on Memory r g h = tt
stop_on (Fault f) r g h = (h.0, ap (λ q. q >>= λ x. Ok (g x)) h.1)

-- and what is made of what they give
pub gives_on : {X A B : Type 0} (l : List (List ℕ)) (see : X → A) (res : Result X Stop) (r : Or A) (g : A → B)
    → Gives see res r → Walks l l (λ x. g (see x)) res (at_once (r >>= λ x. Ok (g x)))
gives_on l see (Ok x) r g h = there (g (see x)) _ (ap (λ q. q >>= λ y. Ok (g y)) h)
gives_on l see (Err s) r g h = may s _ (stop_on s r g h)

-- a check that goes on with what was there
pub checks_on : {X A : Type 0} (l : List (List ℕ)) (a : A) (res : Result X Stop) (o : Option LoadFault) → Checks res o
    → Walks l l (λ x. a) res (at_once (unless o a))
checks_on l a res None h = gives_on l (λ x. tt {0}) res (Ok (tt {0})) (λ x. a) h
checks_on l a res (Some f) h = gives_on l (λ x. tt {0}) res (Err f) (λ x. a) h

-- ---- steps in turn, where the steps that are left are x and then zs

module _ {A S : Type 0} {l m : List (List ℕ)} (step : A → S → Outcome S) (ys zs : List A) (x : A) (s0 : S) (all :
    Outcome S) (front : ys ≡ x ∷ zs) (led : Follows m l (each_in_turn step ys s0) all) where
  left : Follows m l (and_then (step x s0) (each_in_turn step zs)) all
  left = trail _ _ all (same _ _ (ap (λ l. each_in_turn step l s0) (sym front))) led

  pub turn_on : {n : List (List ℕ)} (s1 : S) → Comes m n s1 (step x s0) → Follows n l (each_in_turn step zs s1) all
  turn_on s1 ok = trail _ _ all (then_follows (step x s0) s1 (each_in_turn step zs) ok) left

  pub turn_stop : {n : List (List ℕ)} (s : Stop) → MayStop m n s (step x s0) → MayStop l n s all
  turn_stop s stop = may_lead s _ all left (may_then s (step x s0) (each_in_turn step zs) stop)

  pub turn_told : (T : Type 0) → IsTold T all.asked → IsTold T (step x s0).asked
  turn_told T h = told_then T (step x s0) (each_in_turn step zs) (told_lead T _ all left h)

pub turn_done : {A S : Type 0} {l m : List (List ℕ)} (step : A → S → Outcome S) (ys : List A) (s : S) (all :
    Outcome S) → ys ≡ [] → Follows m l (each_in_turn step ys s) all → Comes l m s all
turn_done {A} {S} {l} {m} step ys s all none led =
    comes_lead s (each_in_turn step ys s) all led
    (subst (λ xs. Comes m m s (each_in_turn step xs s)) (sym none) (there s (Ok s) refl))
