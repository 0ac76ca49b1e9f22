-- The module that a name of a pattern brings.
use Rattle.std.proofs.Common.{◌≡◌, ℕ, List, [], Some, ap, sym}
use Rattle.std.specs.Prelude.{slice_get}
use Rattle.rpl_syntax.specs.declared.module.Import.{Import}
use Rattle.rpl_syntax.specs.declared.name.QName.{QName}
use Rattle.rpl_scope.specs.declared.fault.Stop.{Stop}
use Rattle.rpl_package.specs.Asking.{IsTold, and_then}
use Rattle.rpl_package.specs.inside.Stopping.{Comes, MayStop}
use Rattle.rpl_names.specs.Loading.{World, Stock, load_import, walk}
use Rattle.rpl_names.specs.Patterns.{bring, pattern_name, put, needed_at}
use Rattle.rpl_names.specs.declared.stock.Head.{Head}
use Rattle.rpl_package.proofs.Outcomes.{Follows, comes_lead, same, trail, may_lead, may_then, then_follows, told_lead}
use Rattle.rpl_package.proofs.Outcomes.{told_then}

module _ (w : World) (f : List ℕ) (i : ℕ) (s : Stock) (q : QName) (e : Import) (hs : List Head) (asked :
    needed_at q (slice_get s.modules i) ≡ Some e) (idle : hs ≡ []) where
  -- where the name is told, so is the way to the module
  pub told_way : (T : Type 0) → IsTold T (pattern_name w f i q s).asked
      → IsTold T (load_import w (walk w w.most) hs f e s).asked
  told_way T h =
      told_lead T _ _ (same {n = []} _ _ (ap (λ l. load_import w (walk w w.most) l f e s) idle))
      (told_then T (load_import w (walk w w.most) [] f e s) (put f e i)
      (told_lead T _ _ (same {n = []} _ _ (sym (ap (bring w f i s) asked))) h))

  -- what stops the way to the module stops the name
  pub unreached : {m n : List (List ℕ)} (stop : Stop) → MayStop m n stop (load_import w (walk w w.most) hs f e s)
      → MayStop m n stop (pattern_name w f i q s)
  unreached stop h =
      may_lead stop _ _ (same _ _ (sym (ap (bring w f i s) asked)))
      (may_then stop (load_import w (walk w w.most) [] f e s) (put f e i)
      (may_lead stop _ _ (same _ _ (ap (λ l. load_import w (walk w w.most) l f e s) idle)) h))

  -- and the module that is reached gets the prefix
  pub brought_leads : {m n : List (List ℕ)} (r : ℕ × Stock) → Comes m n r (load_import w (walk w w.most) hs f e s)
      → Follows n m (put f e i r) (pattern_name w f i q s)
  brought_leads r h =
      trail (put f e i r) (and_then (load_import w (walk w w.most) [] f e s) (put f e i)) (pattern_name w f i q s)
      (then_follows (load_import w (walk w w.most) [] f e s) r (put f e i)
      (comes_lead r _ _ (same _ _ (ap (λ l. load_import w (walk w w.most) l f e s) idle)) h))
      (same _ _ (sym (ap (bring w f i s) asked)))
