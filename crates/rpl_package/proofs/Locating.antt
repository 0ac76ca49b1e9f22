-- Steps of the search for an import's file.
use Rattle.std.proofs.Common.{◌≡◌, inl, inr, ℕ, ◌+◌, ◌<◌, ◌≤◌, List, Option, [], ◌∷◌, ◌++◌, length, drop}
use Rattle.std.proofs.Common.{get_or, Some, None}
use Rattle.std.proofs.Common.{sym, ap, arith, subst, ◌∙◌}
use Rattle.std.specs.Prelude.{encode_utf8_all, Result, Ok, Err, IsErrAnd}
use Rattle.std.proofs.lemmas.List.{append-nil, drop_all}
use Rattle.rosie_io.specs.Opening.{file_of}
use Rattle.rpl_scope.specs.declared.fault.LoadFault.{LoadFault}
use Rattle.rpl_scope.specs.declared.fault.LoadKind.{LoadKind}
use Rattle.rpl_scope.specs.declared.fault.LoadKind.TheVariants as K
use Rattle.rpl_scope.specs.declared.fault.Stop.{Stop}
use Rattle.rpl_scope.specs.declared.fault.Stop.TheVariants.{Memory, Fault}
use Rattle.rpl_scope.specs.Faults.{IsStop}
use Rattle.rpl_scope.proofs.Checking.{front}
use Rattle.rpl_package.specs.Asking.{IsTold, Outcome, in_bytes}
use Rattle.rpl_package.specs.inside.Reading.{IsQuiet}
use Rattle.rpl_package.specs.inside.Stopping.{FaultAfter, MayStop, Searches, StopFor, StopsAfter, KindFor}
use Rattle.rpl_package.proofs.Outcomes.{Follows, joined}
use Rattle.rpl_names.specs.Loading.{file_in, find, found_or, paths_tried, paths_tried_then, search, world}

-- a stop for a failed read of this file
kind_for : (k : LoadKind) (f : LoadFault) (path : List ℕ) → f.file ≡ path → KindFor k f path
kind_for K.ReadFault f path h = h
kind_for _ f path h = tt

pub stop_for : (s : Stop) (f : LoadFault) → IsStop s f → StopFor f.file s
stop_for Memory f h = tt
stop_for (Fault g) f h = kind_for g.kind g f.file (ap (λ x. x.file) h)

-- what `?` returns of a search stops as the call did
pub search_passed : {X A : Type 0} {l n : List (List ℕ)} (res : Result X Stop) (s : Stop) (o : Outcome A)
    → IsErrAnd res (λ t. t ≡ s) → MayStop l n s o → Searches l n res o
search_passed (Ok x) s o h k = absurd h
search_passed {X} {A} {l} {n} (Err t) s o h k = subst (λ u. MayStop l n u o) (sym h) k

-- where a folder is looked into, the files tell
pub files_tell : (T : Type 0) (tree : List (List ℕ × List ℕ)) (folders : List (List ℕ)) (path : List ℕ) (i : ℕ)
    → i < length folders → IsTold T (paths_tried tree folders path) → T
files_tell T tree [] path i lt told = absurd (omega (arith, lt))
files_tell T tree (d ∷ ds) path i lt (inl tells) = tells
files_tell T tree (d ∷ ds) path i lt (inr none) = absurd (cc)

-- a read that fails is one of the path that was asked for last
kind_read : {A : Type 0} (k : LoadKind) (f : LoadFault) (o : Outcome A) (p : List ℕ) (rest : List (List ℕ))
    → o.asked ≡ p ∷ rest → k ≡ K.ReadFault → KindFor k f p → FaultAfter k f o (p ∷ [])
kind_read K.ReadFault f o p rest h k e = ((rest, h), ([], ap (λ q. q ∷ []) (sym e)))
kind_read K.NoMemory f o p rest h k e = (rest, h)
kind_read _ f o p rest h k e = absurd (cc)

pub read_stops : {A : Type 0} (s : Stop) (o : Outcome A) (p : List ℕ) (rest : List (List ℕ)) → o.asked ≡ p ∷ rest
    → IsQuiet s → StopFor p s → StopsAfter s o (p ∷ [])
read_stops Memory o p rest h q e = (rest, h)
read_stops (Fault f) o p rest h q e = kind_read f.kind f o p rest h q e

module _ (tree : List (List ℕ × List ℕ)) (folders : List (List ℕ)) (path : List ℕ) (i : ℕ) (d : List ℕ) (lt :
    i < length folders) (is : d ≡ get_or folders i d) where
  abbrev left : ℕ → Outcome (Option (List ℕ × List ℕ))
  left k = search (world tree (drop k folders)) path

  begins : paths_tried tree (drop i folders) path
      ≡ file_in d path ∷ paths_tried_then (file_of (encode_utf8_all (file_in d path)) tree)
      (paths_tried tree (drop (i + 1) folders) path)
  begins = ap (λ l. paths_tried tree l path) (front folders i d lt is)

  -- after a file that is not there the other folders are left
  pub next_left : {m n : List (List ℕ)} (file : List ℕ) → file ≡ file_in d path
      → file_of (encode_utf8_all (file_in d path)) tree ≡ None → n ≡ m ++ encode_utf8_all file ∷ []
      → Follows n m (left (i + 1)) (left i)
  next_left {m} file at none asked =
      record {
        answer = ap Ok (sym (ap (λ l. find tree l path) (front folders i d lt is)
            ∙ ap (λ o. found_or (file_in d path) o (find tree (drop (i + 1) folders) path)) none));
        since = file_in d path ∷ [];
        asked = asked ∙ ap (λ p. m ++ encode_utf8_all p ∷ []) at;
        rest = begins ∙ ap (λ o. file_in d path ∷ paths_tried_then o (paths_tried tree (drop (i + 1) folders) path))
            none;
      }

  -- one that is there is the last that is asked for
  pub last_asked : (m n : List (List ℕ)) (file bytes : List ℕ) → file ≡ file_in d path
      → file_of (encode_utf8_all (file_in d path)) tree ≡ Some bytes → n ≡ m ++ encode_utf8_all file ∷ []
      → n ≡ m ++ in_bytes (left i).asked
  last_asked m n file bytes at found asked =
      asked ∙ ap (λ p. m ++ encode_utf8_all p ∷ []) at
      ∙ ap (λ ps. m ++ in_bytes ps) (sym (begins
      ∙ ap (λ o. file_in d path ∷ paths_tried_then o (paths_tried tree (drop (i + 1) folders) path)) found))

  -- and one whose read fails stops the search
  pub read_failed : {m n : List (List ℕ)} (file : List ℕ) (s : Stop) → file ≡ file_in d path
      → n ≡ m ++ encode_utf8_all file ∷ [] → IsQuiet s → StopFor file s → MayStop m n s (left i)
  read_failed {m} file s at asked quiet stops =
      record {
        paths = file_in d path ∷ [];
        asked = asked ∙ ap (λ p. m ++ encode_utf8_all p ∷ []) at;
        stops = read_stops s (left i) (file_in d path) _ begins quiet (subst (λ p. StopFor p s) at stops);
      }

-- what is asked for in the end
pub all_asked : {A : Type 0} {l m n : List (List ℕ)} (a b : Outcome A) → Follows m l a b → n ≡ m ++ in_bytes a.asked
    → n ≡ l ++ in_bytes b.asked
all_asked {A} {l} a b h e =
    joined _ _ _ h.since a.asked h.asked e ∙ ap (λ ps. l ++ in_bytes ps) (sym h.rest)

pub none_left : {l m : List (List ℕ)} (tree : List (List ℕ × List ℕ)) (folders : List (List ℕ)) (path : List ℕ) (i : ℕ)
    → length folders ≤ i
    → Follows m l (search (world tree (drop i folders)) path) (search (world tree folders) path)
    → m ≡ l ++ in_bytes (paths_tried tree folders path)
none_left {l} {m} tree folders path i le h =
    all_asked _ _ h (sym (ap (λ ds. m ++ in_bytes (paths_tried tree ds path)) (drop_all i folders le) ∙ append-nil m))
