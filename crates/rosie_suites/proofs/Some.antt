-- A file comes to something, where each goal has a code.
use Rattle.std.proofs.Common.{ℕ, ◌≡◌, ◌+◌, ◌⊎◌, inl, inr, List, [], ◌∷◌, ◌++◌, length, refl, ◌∙◌, ap, subst}
use Rattle.std.specs.Prelude.{Option, Some, None, Ok, Err, codes, is_some, map, nat_lt, encode_utf8_all, slice_get}
use Rattle.rpl_text.specs.Options.{◌>>=◌}
use Rattle.rosie_io.specs.Opening.{file_of}
use Rattle.rosie_prepare.specs.Prepared.{OrLine, Passes, TablePasses, Tree, bodies, unless_faulty, table_too_large}
use Rattle.rosie_prepare.specs.Prepared.{table_unsound}
use Rattle.rosie_prepare.proofs.SomeAnswer.{some_table}
use Rattle.rosie_run.specs.Lines.{line_fault}
use Rattle.rpl_check.specs.Faults as C
use Rattle.rpl_core.specs.Core.{Core}
use Rattle.rpl_core.specs.Instr.{Instr}
use Rattle.rpl_core.specs.Programs.{IsCode}
use Rattle.rpl_expand.specs.Faults as E
use Rattle.rpl_expand.specs.Sets.{table_of}
use Rattle.rpl_expand.proofs.Lists.{nth_last, nth_more}
use Rattle.rpl_expand.proofs.Steps.{both, else_fault, unless_fault}
use Rattle.rpl_package.specs.Asking.{and_then, at_once, each_in_turn}
use Rattle.rpl_names.specs.Loading.{State, World, checks, own_text, walk, world}
use Rattle.rpl_names.specs.Owned.{own, package_name, root_module}
use Rattle.rpl_names.specs.Roots.{Packages, Rooted, Roots, asked_root, begun, file_root, load, load_roots, named_root}
use Rattle.rpl_names.specs.Roots.{root_by, root_entry, root_text, top_head, finish_set, with_root}
use Rattle.rpl_names.specs.declared.roots.Root.TheVariants.{File}
use Rattle.rpl_names.specs.declared.targets.Target.{Target}
use Rattle.rpl_scope.specs.Faults.{Or}
use Rattle.rpl_scope.specs.Packages.{Module, first_of}
use Rattle.rpl_scope.specs.declared.fault.LoadKind.TheVariants.{Duplicate, TooManyPackages}
use Rattle.rpl_syntax.specs.Modules.{ParsedModule}
use Rattle.rpl_syntax.specs.declared.name.QName.{QName}
use Rattle.rpl_unittest.proofs.Reading.{some_answer}
use Rattle.rpl_unittest.specs.Comments.{HasBad, HasTests}
use Rattle.rpl_unittest.specs.declared.test.Test.{Test}
use Rattle.rosie_suites.specs.Suites.{AreTrials, SuiteComes, ComesAgain, IsSubject, IsSuite, Suite, Tells, bad, tests}
use Rattle.rosie_suites.specs.Suites.{goal_of, loading, read_again, subject_unless_long}
use Rattle.rosie_suites.specs.Trials.{Bench, Subject, Trial, Unbound}
use Rattle.rosie_suites.proofs.Loads.{bench_with}

-- ---- the module of the file

-- the module of a root stands among the others, where it isn't the top one
Stands : Option ℕ → State → Type 0
Stands None s = Unit {0}
Stands (Some i) s = (m : Module) × (slice_get s.stock.modules i ≡ Some m)

module _ (w : World) where
  named_stands :
      (f : List ℕ) (t : ParsedModule) (q : QName) (s : State) (r : Rooted) → (named_root w f t q s).answer ≡ Ok r
      → Stands r.0 r.1
  unfolding Stands
  named_stands f t q s r e =
      let text = own_text w (walk w w.most) s.stock (top_head ∷ []) f None q.name t in
      let go = unless_fault (is_some (first_of q.name s.own.prefixes)) f q.at (Duplicate q.name)
      (and_then text (λ u. at_once (Ok (with_root q.name s.own u)))) r e in
      let c = both text.answer (λ u. Ok (with_root q.name s.own u)) r go in
      let is : with_root q.name s.own c.0 ≡ r = (let g = c.2 in cc) in
      let ms = c.0.stock.modules in
      subst (λ x. Stands x.0 x.1) is (c.0.own, nth_last ms c.0.own (length ms) refl)

  text_stands :
      (f : List ℕ) (t : ParsedModule) (o : Option QName) (s : State) (r : Rooted) → (root_text w f t o s).answer ≡ Ok r
      → Stands r.0 r.1
  unfolding Stands
  text_stands f t None s r e =
      let c = both (checks w (walk w w.most) (top_head ∷ []) f t s).answer
      (λ u. (at_once {A = Rooted} (Ok (None, u))).answer) r e in
      let is : ◌≡◌ {A = Rooted} (None, c.0) r = (let g = c.2 in cc) in
      subst (λ x. Stands x.0 x.1) is tt
  text_stands f t (Some q) s r e =
      named_stands f t q s r (else_fault (nat_lt (length s.stock.modules + 1) w.most) f q.at TooManyPackages
      (named_root w f t q s) r e)

  file_stands : (p : List ℕ) (s : State) (o : Option (List ℕ)) (r : Rooted) → (file_root w p s o).answer ≡ Ok r
      → Stands r.0 r.1
  file_stands p s None r e = absurd (cc)
  file_stands p s (Some bytes) r e =
      let c = both (w.text p bytes) (λ t. (root_text w p t t.name s).answer) r e in
      text_stands p c.0 c.0.name s r c.2

abbrev HasModule : Packages → Type 0
HasModule p = (m : ℕ) × (name : List ℕ) × (root_module p 0 ≡ Some m) × (package_name p m ≡ Some name)

abbrev label_in : Option Module → Option (List ℕ)
label_in o = o >>= (λ m. Some m.label)

one_known : (o : Option ℕ) (s : State) → Stands o s → HasModule (finish_set (record { roots = o ∷ []; state = s }))
unfolding Stands
one_known None s h =
    let ms = s.stock.modules in
    (length ms, s.own.label, refl, ap label_in (nth_last ms s.own (length ms) refl))
one_known (Some i) s h = (i, h.0.label, refl, ap label_in (nth_more s.stock.modules (s.own ∷ []) i h.0 h.1))

module_known : (w : World) (file : List ℕ) (p : Packages) → (load w (File file ∷ [])).answer ≡ Ok p → HasModule p
module_known w file p e =
    let c = both (load_roots w (File file ∷ []) begun).answer (λ s. Ok (finish_set s)) p e in
    let d = both (root_entry w (0, File file) begun).answer (λ u. (each_in_turn (root_entry w) [] u).answer) c.0 c.1 in
    let f = both (root_by w 0 (File file) begun.state).answer
    (λ r. (at_once {A = Roots} (Ok (record { roots = r.0 ∷ []; state = r.1 }))).answer) d.0 d.1 in
    let g = both (asked_root w file).answer (λ o. (file_root w file begun.state o).answer) f.0 f.1 in
    let one : ◌≡◌ {A = Roots} (record { roots = f.0.0 ∷ []; state = f.0.1 }) d.0 = (let k = f.2 in cc) in
    let same : d.0 ≡ c.0 = (let k = d.2 in cc) in
    let all : finish_set c.0 ≡ p = (let k = c.2 in cc) in
    subst HasModule (ap finish_set (one ∙ same)
    ∙ all) (one_known f.0.0 f.0.1 (file_stands w file begun.state g.0 f.0 g.2))

-- what passes is what was loaded
found_is : (q p : Packages) (f : Option C.Fault) → Ok p ≡ unless_faulty q q f → q ≡ p
found_is q p None e = cc
found_is q p (Some f) e = absurd (cc)

passes_is : (q p : Packages) (t : Option E.Fault) → Passes q t (table_unsound q) q (Ok p) → q ≡ p
passes_is q p (Some f) h = absurd (cc)
passes_is q p None h = found_is q p (table_unsound q h.0) h.1

passed_is : (x : Or Packages) (p : Packages) → TablePasses x (Ok p) → x ≡ Ok p
passed_is (Err f) p h = absurd (cc)
passed_is (Ok q) p h = ap Ok (passes_is q p (table_too_large q) h)

-- ---- what they are tried with

module _ (some_code : (R : List Core) (g : Core) → (code : List Instr) × IsCode R g code) where
  subject_some : (R : List Core) (o : Option Target) → (s : Subject) × IsSubject R o s
  subject_some R None = (Unbound, refl)
  subject_some R (Some t) =
      let c = some_code R (goal_of t) in
      (subject_unless_long (record { rules = R; goal = goal_of t; code = c.0 }), (c.0, c.1, refl))

  trials_some : (R : List Core) (target : List ℕ → Option Target) (ts : List Test)
      → (trials : List Trial) × AreTrials R target ts trials
  trials_some R target [] = ([], refl)
  trials_some R target (t ∷ ts) =
      let s = subject_some R (target t.name) in
      let more = trials_some R target ts in
      (record { test = t; subject = s.0 } ∷ more.0, (s.0, more.0, s.1, more.1, refl))

  tells_some : (p : Packages) (m : ℕ) (b : Bench) (text : List ℕ)
      → ((ts : List Test) × HasTests text ts) ⊎ ((k : ℕ) × HasBad text k) → (r : OrLine Suite) × Tells p m b text r
  tells_some p m b text (inl is) =
      let us = trials_some (bodies (table_of p)) (own p m) is.0 in
      (Ok (record { bench = b; trials = us.0 }), tests is.0 us.0 is.1 us.1 refl)
  tells_some p m b text (inr is) = (Err (line_fault b.file is.0 (codes "bad test")), bad is.0 is.1 refl)

  again_some : (p : Packages) (file : List ℕ) (budget : Option ℕ) (text : OrLine (List ℕ)) → HasModule p
      → (r : OrLine Suite) × ComesAgain p file budget text r
  again_some p file budget (Err line) h = (Err line, refl)
  again_some p file budget (Ok text) h =
      let is = tells_some p h.0 (bench_with file budget h.1) text (some_answer text) in
      (is.0, (h.0, h.1, h.2, h.3, is.1))

  module _ (tree : Tree) (folders : List (List ℕ)) (file : List ℕ) (budget : Option ℕ) where
    abbrev paths : List (List ℕ)
    paths = map encode_utf8_all (loading tree folders file).asked

    comes_some : (r : OrLine Packages) → TablePasses (loading tree folders file).answer r
        → (asked : List (List ℕ)) × (s : OrLine Suite) × SuiteComes tree file budget paths asked r s
    comes_some (Err line) h = (paths, Err line, (refl, refl))
    comes_some (Ok p) h =
        let known = module_known (world tree folders) file p (passed_is (loading tree folders file).answer p h) in
        let is = again_some p file budget (read_again file (file_of (encode_utf8_all file) tree)) known in
        (paths ++ encode_utf8_all file ∷ [], is.0, (refl, is.1))

    -- loading a test file has a result
    pub some_suite : (asked : List (List ℕ)) × (r : OrLine Suite) × IsSuite tree folders file budget asked r
    some_suite =
        let table = some_table tree folders (File file ∷ []) in
        let is = comes_some table.0 table.1 in
        (is.0, is.1, record { packages = table.0; loads = table.1; comes = is.2 })
