-- A file comes to one thing alone.
use Rattle.std.proofs.Common.{ℕ, ◌≡◌, List, [], ◌∷◌, sym, ◌∙◌, ap, subst}
use Rattle.std.specs.Prelude.{Option, Some, None, Ok, Err, codes, map, encode_utf8_all}
use Rattle.rosie_io.specs.Opening.{file_of}
use Rattle.rosie_prepare.specs.Prepared.{OrLine, Tree, bodies}
use Rattle.rosie_prepare.proofs.OneAnswer.{one_table}
use Rattle.rosie_run.specs.Lines.{line_fault}
use Rattle.rpl_core.specs.Core.{Core}
use Rattle.rpl_core.proofs.Codes.{code_holds}
use Rattle.rpl_expand.specs.Sets.{table_of}
use Rattle.rpl_names.specs.Owned.{own}
use Rattle.rpl_names.specs.Roots.{Packages}
use Rattle.rpl_names.specs.declared.targets.Target.{Target}
use Rattle.rpl_unittest.proofs.Reading.{one_answer_holds}
use Rattle.rpl_unittest.specs.declared.test.Test.{Test}
use Rattle.rosie_suites.specs.Laws.{OneSuite}
use Rattle.rosie_suites.specs.Suites.{AreTrials, SuiteComes, ComesAgain, IsSubject, Suite, Tells, tests, bad}
use Rattle.rosie_suites.specs.Suites.{goal_of, loading, read_again, subject_unless_long}
use Rattle.rosie_suites.specs.Trials.{Bench, Subject, Trial}
use Rattle.rosie_suites.proofs.Loads.{again_tells, bench_with}

-- what the tests of a target are tried with is one thing
pub subject_one : (R : List Core) (t : Option Target) (s u : Subject) → IsSubject R t s → IsSubject R t u → s ≡ u
subject_one R None s u h k = h ∙ sym k
subject_one R (Some t) s u h k =
    h.2 ∙ ap (λ c. subject_unless_long (record { rules = R; goal = goal_of t; code = c }))
    (code_holds R (goal_of t) h.0 k.0 h.1 k.1)
    ∙ sym k.2

trials_one :
    (R : List Core) (target : List ℕ → Option Target) (ts : List Test) (a b : List Trial) → AreTrials R target ts a
    → AreTrials R target ts b → a ≡ b
trials_one R target [] a b h k = h ∙ sym k
trials_one R target (t ∷ ts) a b h k =
    h.4 ∙ ap (λ s. record { test = t; subject = s } ∷ h.1) (subject_one R (target t.name) h.0 k.0 h.2 k.2)
    ∙ ap (λ more. record { test = t; subject = k.0 } ∷ more) (trials_one R target ts h.1 k.1 h.3 k.3) ∙ sym k.4

tells_one :
    (p : Packages) (m : ℕ) (b : Bench) (text : List ℕ) (r q : OrLine Suite) → Tells p m b text r → Tells p m b text q
    → r ≡ q
tells_one p m b text r q (tests xs us h i e) (tests ys bs k j f) =
    let same = (one_answer_holds text).tests xs ys h k in
    e ∙ ap (λ ts. Ok (record { bench = b; trials = ts }))
    (trials_one (bodies (table_of p)) (own p m) ys us bs (subst (λ zs. AreTrials (bodies (table_of p)) (own p m) zs us)
    same i) j)
    ∙ sym f
tells_one p m b text r q (tests xs us h i e) (bad n k f) = absurd ((one_answer_holds text).apart xs n h k)
tells_one p m b text r q (bad n k f) (tests xs us h i e) = absurd ((one_answer_holds text).apart xs n h k)
tells_one p m b text r q (bad n h e) (bad l k f) =
    e ∙ ap (λ x. Err (line_fault b.file x (codes "bad test"))) ((one_answer_holds text).bad n l h k) ∙ sym f

again_one :
    (p : Packages) (file : List ℕ) (budget : Option ℕ) (text : OrLine (List ℕ)) (r q : OrLine Suite)
    → ComesAgain p file budget text r → ComesAgain p file budget text q → r ≡ q
again_one p file budget (Err line) r q h k = h ∙ sym k
again_one p file budget (Ok text) r q h k =
    tells_one p k.0 (bench_with file budget k.1) text r q (again_tells p file budget text r k.0 k.1 k.2 k.3 h) k.4

comes_one :
    (tree : Tree) (file : List ℕ) (budget : Option ℕ) (paths asked asked' : List (List ℕ)) (l : OrLine Packages)
    (r q : OrLine Suite) → SuiteComes tree file budget paths asked l r → SuiteComes tree file budget paths asked' l q
    → (asked ≡ asked') × (r ≡ q)
comes_one tree file budget paths asked asked' (Err line) r q h k = (h.0 ∙ sym k.0, h.1 ∙ sym k.1)
comes_one tree file budget paths asked asked' (Ok p) r q h k =
    (h.0 ∙ sym k.0, again_one p file budget (read_again file (file_of (encode_utf8_all file) tree)) r q h.1 k.1)

-- loading a test file has at most one result
pub one_suite : OneSuite
one_suite tree folders file budget asked paths r s h k =
    let same = one_table (loading tree folders file).answer h.packages k.packages h.loads k.loads in
    comes_one tree file budget (map encode_utf8_all (loading tree folders file).asked) asked paths k.packages r s
    (subst (λ l. SuiteComes tree file budget (map encode_utf8_all (loading tree folders file).asked) asked l r) same
    h.comes)
    k.comes
