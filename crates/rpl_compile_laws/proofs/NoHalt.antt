-- A core that may not halt has no predicate whose body may.
use Rattle.std.proofs.Common.{◌≡◌, ℕ, refl, ap}
use Rattle.std.proofs.lemmas.Bool.{and_from}
use Rattle.std.specs.Prelude.{Bool, true, false, not}
use Rattle.rpl_core.specs.Core.{Core, Set, Seq, Choice, Many, Not, And, Behind, Call, Capture, Note, Start, End, Halt}
use Rattle.rpl_core.specs.Core.{Cores, NoMore, Then}
use Rattle.rpl_compile_laws.specs.Static.{may_halt, any_may_halt, predicates_stay, all_predicates_stay}
use Rattle.rpl_compile_laws.specs.Laws.{NoHaltLaw}
use Rattle.rpl_compile_laws.proofs.Heads.{or_parts}

module _ (h : ℕ → Bool) where
  mutual
    -- no predicate in it halts
    pub stays : (e : Core) → may_halt h e ≡ false → predicates_stay h e ≡ true
    stays (Set s) q = refl
    stays (Seq ps) q = all_stay ps q
    stays (Choice ps) q = all_stay ps q
    stays (Many p) q = stays p q
    stays (Not p) q = and_from (not (may_halt h p)) (predicates_stay h p) (ap not q) (stays p q)
    stays (And p) q = and_from (not (may_halt h p)) (predicates_stay h p) (ap not q) (stays p q)
    stays (Behind l m p) q = and_from (not (may_halt h p)) (predicates_stay h p) (ap not q) (stays p q)
    stays (Call r) q = refl
    stays (Capture c p) q = stays p q
    stays (Note x) q = refl
    stays Start q = refl
    stays End q = refl
    stays Halt q = refl

    all_stay : (ps : Cores) → any_may_halt h ps ≡ false → all_predicates_stay h ps ≡ true
    all_stay NoMore q = refl
    all_stay (Then p ps) q =
        let b = or_parts (may_halt h p) (any_may_halt h ps) q in
        and_from (predicates_stay h p) (all_predicates_stay h ps) (stays p b.0) (all_stay ps b.1)

-- the law
pub no_halt_holds : NoHaltLaw
no_halt_holds R g goal rules =
    record {
      closed = λ r p e q. rules r p e;
      rules = λ r p reached e. stays (λ r. false) p (rules r p e);
      goal = stays (λ r. false) g goal;
    }
