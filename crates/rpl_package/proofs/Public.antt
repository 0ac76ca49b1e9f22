-- What a call answers, as the public calls say it.
use Rattle.std.proofs.Common.{◌≡◌, ℕ, zero, List, [], ◌∷◌, refl, sym, subst, arith}
use Rattle.std.specs.Prelude.{Ok, Err}
use Rattle.std.specs.List.{Contains}
use Rattle.std.proofs.lemmas.List.Elements.{Contains-append_left, Contains-append_right}
use Rattle.rpl_scope.specs.declared.fault.LoadFault.{LoadFault}
use Rattle.rpl_scope.specs.declared.fault.LoadKind.{LoadKind}
use Rattle.rpl_scope.specs.declared.fault.LoadKind.TheVariants as K
use Rattle.rpl_scope.specs.declared.fault.Stop.{Stop}
use Rattle.rpl_scope.specs.declared.fault.Stop.TheVariants.{Memory, Fault}
use Rattle.rpl_package.specs.Answers.{IsFault}
use Rattle.rpl_package.specs.Asking.{AskedTill, EndsWith, Explains, HasAsked, IfTold, IsFront, Outcome}
use Rattle.rpl_package.specs.inside.Stopping.{Comes, FaultAfter, MayStop}

-- the last of the paths that were asked for is one of all
last_in : (p : List ℕ) (all ps : List (List ℕ)) → IsFront ps all → EndsWith p ps → Contains all p
last_in p all ps f e =
    subst (λ l. Contains l p) (sym f.1)
    (Contains-append_left ps f.0 p
    (subst (λ l. Contains l p) (sym e.1) (Contains-append_right e.0 (p ∷ []) p (zero, omega arith, refl))))

kind_explains : {A : Type 0} (k : LoadKind) (f : LoadFault) (o : Outcome A) (ps : List (List ℕ))
    → FaultAfter k f o ps → Explains k f o
kind_explains K.NoMemory f o ps e = tt
kind_explains K.ReadFault f o ps e = last_in f.file o.asked ps e.0 e.1
kind_explains _ f o ps e = e.0

kind_asked : {A : Type 0} (k : LoadKind) (f : LoadFault) (o : Outcome A) (ps : List (List ℕ))
    → FaultAfter k f o ps → AskedTill k f o.asked ps
kind_asked K.NoMemory f o ps e = e
kind_asked K.ReadFault f o ps e = e
kind_asked _ f o ps e = e.1

-- a stop as a fault
pub stop_explains : {A : Type 0} {l n : List (List ℕ)} (s : Stop) (f : LoadFault) (o : Outcome A)
    → IsFault s f
    → MayStop l n s o → Explains f.kind f o
stop_explains Memory f o is e = subst (λ g. Explains g.kind g o) (sym is) tt
stop_explains (Fault g) f o is e = subst (λ h. Explains h.kind h o) (sym is) (kind_explains g.kind g o e.paths e.stops)

pub stop_asked : (X : Type 0) {A : Type 0} {l n : List (List ℕ)} (s : Stop) (f : LoadFault) (o : Outcome A)
    → IsFault s f
    → MayStop l n s o → HasAsked {X = X} l n (Err f) o
stop_asked X {A} {l} {n} Memory f o is e =
    subst (λ g. HasAsked {X = X} l n (Err g) o) (sym is) (e.paths, e.asked, e.stops)
stop_asked X {A} {l} {n} (Fault g) f o is e =
    subst (λ h. HasAsked {X = X} l n (Err h) o) (sym is) (e.paths, e.asked, kind_asked g.kind g o e.paths e.stops)

pub ok_asked : {X A : Type 0} {l n : List (List ℕ)} (x : X) (v : A) (o : Outcome A) → Comes l n v o
    → HasAsked l n (Ok x) o
ok_asked x v o h = (o.asked, h.asked, refl)

-- what holds of an outcome holds of one that equals it
pub told_same : {A : Type 0} (T : Type 0) (Holds : Outcome A → Type 0) (a b : Outcome A) → a ≡ b → IfTold T Holds a
    → IfTold T Holds b
told_same T Holds a b e h = subst (IfTold T Holds) e h
