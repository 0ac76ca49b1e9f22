-- From the steps of the loading to what comes of a file.
use Rattle.std.proofs.Common.{ℕ, ◌≡◌, ◌<◌, ◌≤◌, Bool, true, false, cond, List, [], ◌∷◌, length, refl, sym, ◌∙◌, ap}
use Rattle.std.proofs.Common.{subst, append_assoc, arith, ◌++◌}
use Rattle.std.specs.Prelude.{IfErr, IsErrAnd, Option, Some, None, Result, Ok, Err, nat_lt, codes, encode_utf8_all, map}
use Rattle.std.specs.Str.{IsUtf8, is_utf8}
use Rattle.std.proofs.lemmas.Str.{is_utf8-from_IsUtf8}
use Rattle.rosie_prepare.specs.Lines.{load_line}
use Rattle.std.proofs.lemmas.List.{append-nil}
use Rattle.rosie_io.specs.Opening.{file_of}
use Rattle.rosie_prepare.specs.Answers.{IsDue}
use Rattle.rosie_run.specs.Unready.{AskedTill, HasAsked}
use Rattle.rosie_run.proofs.Openings.{asked_after}
use Rattle.rosie_prepare.specs.Prepared.{OrLine, TablePasses, Tree, bodies}
use Rattle.rosie_run.specs.declared.unready.Unready.{Unready}
use Rattle.rosie_run.specs.declared.unready.Unready.TheVariants.{NoMemory, Refused, ReadFault}
use Rattle.rpl_names.specs.Loading.{world}
use Rattle.rpl_names.specs.Roots.{Packages, load}
use Rattle.rpl_names.specs.declared.roots.Root.{Root}
use Rattle.rpl_names.specs.declared.roots.Root.TheVariants.{File}
use Rattle.rosie_run.specs.Lines.{line_fault}
use Rattle.rpl_expand.specs.Sets.{table_of}
use Rattle.rpl_names.specs.Owned.{own, package_name, root_module}
use Rattle.rpl_unittest.specs.Comments.{HasBad, HasTests}
use Rattle.rpl_unittest.specs.declared.test.Test.{Test}
use Rattle.rpl_unittest.proofs.Reading.{one_answer_holds}
use Rattle.rosie_suites.specs.Suites.{
  AreTrials,
  SuiteComes,
  ComesAgain,
  IsSuite,
  Suite,
  Tells,
  loading,
  read_again,
  tests,
}
use Rattle.rosie_suites.specs.Suites.{bad}
use Rattle.rosie_suites.specs.Trials.{Bench, Trial}
use Rattle.rpl_scope.specs.Faults.{fault_at}
use Rattle.rpl_scope.specs.declared.fault.LoadKind.TheVariants.{FileTooLong, NotText, RootMissing}
use Rattle.rosie_suites.specs.inside.Steps.{IsBadTest, IsOwn, IsRefusal}

-- ---- the second reading

long_is : (file bytes : List ℕ) (long utf8 : Bool) → nat_lt 1048576 (length bytes) ≡ long → is_utf8 bytes ≡ utf8
    → read_again file (Some bytes) ≡ cond long (Err (load_line (fault_at file 0 FileTooLong)))
    (cond utf8 (Ok bytes) (Err (load_line (fault_at file 0 NotText))))
long_is file bytes long utf8 e u =
    ap (λ b. cond b (Err (load_line (fault_at file 0 FileTooLong)))
    (cond (is_utf8 bytes) (Ok bytes) (Err (load_line (fault_at file 0 NotText))))) e
    ∙ ap (λ b. cond long (Err (load_line (fault_at file 0 FileTooLong)))
    (cond b (Ok bytes) (Err (load_line (fault_at file 0 NotText))))) u

again_ok : (file bytes : List ℕ) (o : Option (List ℕ)) → IsUtf8 bytes → o ≡ Some bytes → length bytes ≤ 1048576
    → read_again file o ≡ Ok bytes
again_ok file bytes o u is short =
    let test : nat_lt 1048576 (length bytes) ≡ false = grind (arith, short) in
    ap (read_again file) is ∙ long_is file bytes false true test (is_utf8-from_IsUtf8 bytes u)

refused_by : (u : Unready) (line : List ℕ) (due : OrLine (List ℕ)) → IsRefusal u line → due ≡ Err line → IsDue u due
refused_by NoMemory line due h e = tt
refused_by (Refused text) line due h e = e ∙ ap Err (sym h)
refused_by (ReadFault path) line due h e = absurd h

pub again_missing : (u : Unready) (file : List ℕ) (o : Option (List ℕ))
    → IsRefusal u (load_line (fault_at file 0 RootMissing)) → o ≡ None → IsDue u (read_again file o)
again_missing u file o h e =
    refused_by u (load_line (fault_at file 0 RootMissing)) (read_again file o) h (ap (read_again file) e)

pub again_long : (u : Unready) (file bytes : List ℕ) (o : Option (List ℕ))
    → IsRefusal u (load_line (fault_at file 0 FileTooLong)) → o ≡ Some bytes → 1048576 < length bytes
    → IsDue u (read_again file o)
again_long u file bytes o h e long =
    let test : nat_lt 1048576 (length bytes) ≡ true = grind (arith, long) in
    refused_by u (load_line (fault_at file 0 FileTooLong)) (read_again file o) h (ap (read_again file) e
    ∙ long_is file bytes true (is_utf8 bytes) test refl)

pub again_no_text : (u : Unready) (file bytes : List ℕ) (o : Option (List ℕ))
    → IsRefusal u (load_line (fault_at file 0 NotText)) → o ≡ Some bytes → length bytes ≤ 1048576
    → is_utf8 bytes ≡ false
    → IsDue u (read_again file o)
again_no_text u file bytes o h e short other =
    let test : nat_lt 1048576 (length bytes) ≡ false = grind (arith, short) in
    refused_by u (load_line (fault_at file 0 NotText)) (read_again file o) h (ap (read_again file) e
    ∙ long_is file bytes false false test other)

-- ---- what the text tells

abbrev pub bench_with : List ℕ → Option ℕ → List ℕ → Bench
bench_with file budget name = record { file = encode_utf8_all file; prefix = encode_utf8_all name; budget = budget }

-- the module of the file and its name are known
pub again_tells :
    (p : Packages) (file : List ℕ) (budget : Option ℕ) (text : List ℕ) (r : OrLine Suite) (m : ℕ) (name : List ℕ)
    → root_module p 0 ≡ Some m → package_name p m ≡ Some name → ComesAgain p file budget (Ok text) r
    → Tells p m (bench_with file budget name) text r
again_tells p file budget text r m name is named h =
    let number : h.0 ≡ m = (let e = sym h.2 ∙ is in cc) in
    let same : h.1 ≡ name = (let e = sym h.3 ∙ ap (package_name p) number ∙ named in cc) in
    subst (λ n. Tells p m (bench_with file budget n) text r) same
    (subst (λ k. Tells p k (bench_with file budget h.1) text r) number h.4)

-- the tests of the text are read, and what each is tried with is found
pub tests_due :
    (p : Packages) (m : ℕ) (b : Bench) (text : List ℕ) (r : OrLine Suite) (ts : List Test) (trials : List Trial)
    → HasTests text ts → ((due : List Trial) → AreTrials (bodies (table_of p)) (own p m) ts due → due ≡ trials)
    → Tells p m b text r → r ≡ Ok (record { bench = b; trials = trials })
tests_due p m b text r ts trials h same (tests us due k is e) =
    e ∙ ap (λ xs. Ok (record { bench = b; trials = xs }))
    (same due (subst (λ zs. AreTrials (bodies (table_of p)) (own p m) zs due) ((one_answer_holds text).tests us ts k h)
    is))
tests_due p m b text r ts trials h same (bad line k e) = absurd ((one_answer_holds text).apart ts line h k)

-- or a test comment is bad
pub bad_due :
    (p : Packages) (m : ℕ) (b : Bench) (text : List ℕ) (r : OrLine Suite) (line : ℕ) → HasBad text line
    → Tells p m b text r → r ≡ Err (line_fault b.file line (codes "bad test"))
bad_due p m b text r line h (tests us due k is e) = absurd ((one_answer_holds text).apart us line k h)
bad_due p m b text r line h (bad other k e) =
    e ∙ ap (λ x. Err (line_fault b.file x (codes "bad test"))) ((one_answer_holds text).bad other line k h)

pub refused_due :
    (p : Packages) (m : ℕ) (file : List ℕ) (budget : Option ℕ) (name text : List ℕ) (r : OrLine Suite) (u : Unready)
    → IsBadTest file text u → Tells p m (bench_with file budget name) text r → IsDue u r
refused_due p m file budget name text r NoMemory h t = tt
refused_due p m file budget name text r (Refused line) h t =
    bad_due p m (bench_with file budget name) text r h.0 h.1 t ∙ ap Err (sym h.2)
refused_due p m file budget name text r (ReadFault path) h t = absurd h

pub refused_own : (file text : List ℕ) (u : Unready) → IsBadTest file text u → IsOwn u
refused_own file text (ReadFault path) h = absurd h
refused_own file text _ h = tt

-- ---- the paths that are asked for

-- a file that wasn't read is this one
abbrev pub IsOf : List ℕ → Unready → Type 0
IsOf file (ReadFault path) = path ≡ file
IsOf file _ = Unit {0}

pub refusal_of : (file line : List ℕ) (u : Unready) → IsRefusal u line → IsOf file u
refusal_of file line (ReadFault path) h = absurd h
refusal_of file line _ h = tt

pub memory_of : {X : Type 0} (a : Result X Unready) (file : List ℕ) → IsErrAnd a (λ u. u ≡ NoMemory)
    → IfErr a (IsOf file)
memory_of (Ok x) file none = tt
memory_of (Err u) file none = subst (IsOf file) (sym none) tt

-- one path was to be asked for, and was
pub once_asked : {X : Type 0} (a : Result X Unready) (before now : List (List ℕ)) (file : List ℕ)
    → now ≡ before ++ encode_utf8_all file ∷ [] → IfErr a (IsOf file)
    → HasAsked before now a (encode_utf8_all file ∷ [])
once_asked (Ok x) before now file is of = (encode_utf8_all file ∷ [], is, refl)
once_asked (Err NoMemory) before now file is of = (encode_utf8_all file ∷ [], is, ([], refl))
once_asked (Err (Refused line)) before now file is of = (encode_utf8_all file ∷ [], is, refl)
once_asked (Err (ReadFault path)) before now file is of =
    (encode_utf8_all file ∷ [], is, ([], [], ap (λ p. encode_utf8_all p ∷ []) (sym of), refl))

-- memory ran out before any path was asked for
pub none_asked : {X : Type 0} (a : Result X Unready) (before now all : List (List ℕ)) → now ≡ before
    → IsErrAnd a (λ u. u ≡ NoMemory) → HasAsked before now a all
none_asked (Ok x) before now all is none = absurd none
none_asked {X} (Err u) before now all is none =
    subst (λ v. HasAsked {X = X} before now (Err v) all) (sym none) ([], is ∙ sym (append-nil before), (all, refl))

-- what comes after all was asked for asks for no more
pub own_asked : {X Y : Type 0} (a : Result X Unready) (y : Y) (before now all : List (List ℕ)) → IfErr a IsOwn
    → HasAsked before now (Ok y) all → HasAsked before now a all
own_asked (Ok x) y before now all own h = h
own_asked (Err NoMemory) y before now all own (ps, is, for) = (ps, is, ([], sym for ∙ sym (append-nil ps)))
own_asked (Err (Refused line)) y before now all own h = h
own_asked (Err (ReadFault path)) y before now all own h = absurd own

-- a call with a result asked for all
pub all_asked : {X : Type 0} (x : X) (before now all : List (List ℕ)) → HasAsked before now (Ok x) all
    → now ≡ before ++ all
all_asked x before now all (ps, is, for) = is ∙ ap (λ qs. before ++ qs) for

-- where no line is due, more would have been asked for after a step that stops
till_more : (p : Packages) (more : List (List ℕ)) (u : Unready) (all ps : List (List ℕ)) → IsDue {A = Packages} u (Ok p)
    → AskedTill u all ps → AskedTill u (all ++ more) ps
till_more p more NoMemory all ps due (rest, split) =
    (rest ++ more, ap (λ xs. xs ++ more) split ∙ append_assoc ps rest more)
till_more p more (Refused line) all ps due till = absurd (cc)
till_more p more (ReadFault path) all ps due (front, rest, last, split) =
    (front, rest ++ more, last, ap (λ xs. xs ++ more) split ∙ append_assoc ps rest more)

-- ---- the steps

module _ (tree : Tree) (file : List ℕ) (budget : Option ℕ) (paths asked : List (List ℕ)) (r : OrLine Suite) where
  -- the loading failed
  pub load_asked : (before now : List (List ℕ)) (u : Unready) (l : OrLine Packages) → IsDue u l
      → HasAsked {X = Unit {0}} before now (Err u) paths → SuiteComes tree file budget paths asked l r
      → HasAsked {X = Unit {0}} before now (Err u) asked
  load_asked before now u (Err line) due h c = subst (HasAsked {X = Unit {0}} before now (Err u)) (sym c.0) h
  load_asked before now u (Ok p) due (ps, is, till) c =
      subst (HasAsked {X = Unit {0}} before now (Err u)) (sym c.0)
      (ps, is, till_more p (encode_utf8_all file ∷ []) u paths ps due till)

  -- all that is loaded passes
  loaded : (p : Packages) (l : OrLine Packages) → l ≡ Ok p → SuiteComes tree file budget paths asked l r
      → SuiteComes tree file budget paths asked (Ok p) r
  loaded p l e c = subst (λ x. SuiteComes tree file budget paths asked x r) e c

  -- the file was asked for once more
  pub again_asked : {X : Type 0} (before mid now : List (List ℕ)) (a : Result X Unready) (p : Packages)
      → mid ≡ before ++ paths → HasAsked mid now a (encode_utf8_all file ∷ [])
      → SuiteComes tree file budget paths asked (Ok p) r → HasAsked before now a asked
  again_asked before mid now a p made h c =
      subst (HasAsked before now a) (sym c.0)
      (asked_after before mid now paths (encode_utf8_all file ∷ []) a made h)

  -- the text is read
  pub text_read : (text : List ℕ) (p : Packages) → IsUtf8 text → file_of (encode_utf8_all file) tree ≡ Some text
      → length text ≤ 1048576 → SuiteComes tree file budget paths asked (Ok p) r → ComesAgain p file budget (Ok text) r
  text_read text p u is short c =
      subst (λ x. ComesAgain p file budget x r) (again_ok file text (file_of (encode_utf8_all file) tree) u is short)
      c.1

-- where the root is the file, and all that is loaded passes
pub comes_loaded :
    (tree : Tree) (folders : List (List ℕ)) (file : List ℕ) (budget : Option ℕ) (asked : List (List ℕ)) (r :
    OrLine Suite)
    (roots : List Root) (p : Packages) → IsSuite tree folders file budget asked r → roots ≡ File file ∷ []
    → ((l : OrLine Packages) → TablePasses (load (world tree folders) roots).answer l → l ≡ Ok p)
    → SuiteComes tree file budget (map encode_utf8_all (loading tree folders file).asked) asked (Ok p) r
comes_loaded tree folders file budget asked r roots p is e passes =
    let loads = subst (λ x. TablePasses (load (world tree folders) x).answer is.packages) (sym e) is.loads in
    loaded tree file budget (map encode_utf8_all (loading tree folders file).asked) asked r p is.packages
    (passes is.packages loads) is.comes
