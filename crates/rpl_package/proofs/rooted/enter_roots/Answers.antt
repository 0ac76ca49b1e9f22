use Rattle.std.proofs.Common.{arith, length, ◌+◌, ◌++◌, ◌∷◌, [], drop, refl, ap, ap₂, ◌∙◌}
use Rattle.std.specs.Prelude.{Ok}
use Rattle.std.proofs.lemmas.List.{drop_all, length-append}
use Rattle.rpl_package.specs.Asking.{at_once, each_in_turn}
use Rattle.rpl_names.specs.Loading.{world}
use Rattle.rpl_names.specs.Built.{on, same as stays}
use Rattle.rpl_names.specs.Roots.{Roots, top_head, counted, next, root_by, root_entry}
use Rattle.rpl_names.specs.Stocks.{state_seen}
use Rattle.rpl_package.proofs.Leaving.{after, still}
use Rattle.rpl_package.proofs.Outcomes.{comes_lead, made_of, passed_on, same, trail, may_lead, may_then, told_lead}
use Rattle.rpl_scope.specs.declared.fault.Stop.TheVariants.{Memory}
use Rattle.rpl_package.specs.inside.Rooting.{roots_seen}
use Rattle.rpl_package.proofs.Outcomes.{out_last, told_then, turn_done, turn_on}
use Rattle.rpl_package.proofs.Outcomes.{turn_stop, turn_told}
use Rattle.rpl_package.proofs.Rooting.{counted_front, next_few}
use Rattle.rpl_names.proofs.Within.{grows_seen, within_none, within_push}
use Rattle.rpl_package.proofs.rooted.enter_roots.Goals as goal

pub returns-in_err-number-clause-gives : goal.returns-in_err-number-clause-gives
returns-in_err-number-clause-gives g c = λ told.
    let ds = c.args.folders.now in
    let W = world (g.F.Source.tree c.args.files.now) ds in
    let r = c.root-item.result in
    let k = c.loop-root.given in
    let s0 = state_seen c.loop-root.state.stock c.loop-root.state.own in
    let st : Roots = record { roots = c.loop-root.into.items; state = s0 } in
    let inv = c.loop-root.invariant in
    let stop = c.in_err-number.field-0.0 in
    let K = g.F.Source.tells in
    let at = counted_front k c.args.roots.now c.loop-root.root-index r c.loop-root-test.true c.root-item.is in
    let moved = same _ _ (ap₂ (λ U j. root_by (world U ds) j r s0) inv.files.tree c.next-given.ensures) in
    let one = root_by W (next k r) r s0 in
    let front = told_then K one (λ t. at_once (Ok (record { roots = st.roots ++ t.0 ∷ []; state = t.1 })))
    (turn_told (root_entry W) _ _ (next k r, r) st _ at (inv.left told) K told) in
    passed_on _ c.from_residual.result stop _ c.from_residual.ensures.1
    (turn_stop (root_entry W) _ _ (next k r, r) st _ at (inv.left told) stop
    (may_then stop one (λ t. at_once (Ok (record { roots = st.roots ++ t.0 ∷ []; state = t.1 })))
    (may_lead stop _ _ moved (c.in_err-number.ensures.gives (told_lead K _ _ moved front)))))

pub loop-root-preserved : goal.loop-root-preserved
loop-root-preserved g c =
    let ds = c.args.folders.now in
    let W = world (g.F.Source.tree c.args.files.now) ds in
    let rs = c.args.roots.now in
    let n = c.loop-root.root-index in
    let r = c.root-item.result in
    let k = c.loop-root.given in
    let s0 = state_seen c.loop-root.state.stock c.loop-root.state.own in
    let s1 = state_seen c.enter_one.new.state.stock c.enter_one.new.state.own in
    let st : Roots = record { roots = c.loop-root.into.items; state = s0 } in
    let st1 : Roots = record { roots = c.loop-root.into.items ++ c.in_ok-number.number ∷ []; state = s1 } in
    let inv = c.loop-root.invariant in
    let pushed = ap length c.in_ok-push.ensures.items
    ∙ length-append c.loop-root.into.items (c.in_ok-number.number ∷ []) in
    record {
      files = after g.F.Source _ _ _ _ _ _ inv.files c.in_ok-number.ensures.files;
      held = c.in_ok-number.ensures.held ∙ inv.held;
      built = on (top_head ∷ []) _ s0 s1 inv.built c.in_ok-number.ensures.built;
      few = omega (arith, inv.few, next_few k r, c.next-given.ensures);
      many = omega (arith, inv.many, pushed);
      within = within_push c.loop-root.into.items _ c.in_ok-number.number _ _ c.in_ok-push.ensures.items
          (grows_seen (top_head ∷ []) c.loop-root.state.stock c.enter_one.new.state.stock s0 s1
          c.in_ok-number.ensures.built refl refl) inv.within c.in_ok-number.ensures.within;
      left = λ told.
          let K = g.F.Source.tells in
          let at = counted_front k rs n r c.loop-root-test.true c.root-item.is in
          let moved = same _ _ (ap₂ (λ U j. root_by (world U ds) j r s0) inv.files.tree c.next-given.ensures) in
          let front = told_then K (root_by W (next k r) r s0)
          (λ t. at_once (Ok (record { roots = st.roots ++ t.0 ∷ []; state = t.1 })))
          (turn_told (root_entry W) (counted k (drop n rs)) (counted (next k r) (drop (n + 1) rs)) (next k r, r) st _ at
          (inv.left told) K told) in
          let one = comes_lead _ _ _ moved (c.in_ok-number.ensures.gives (told_lead K _ _ moved front)) in
          trail _ _ _
          (same _ _ (ap₂ (λ j xs. each_in_turn (root_entry W) (counted j (drop (n + 1) rs)) (record {
            roots = xs;
            state = s1;
          })) c.next-given.ensures c.in_ok-push.ensures.items))
          (turn_on (root_entry W) (counted k (drop n rs)) (counted (next k r) (drop (n + 1) rs)) (next k r, r) st _ at
          (inv.left told) st1
          (made_of _ _ (λ t. record { roots = st.roots ++ t.0 ∷ []; state = t.1 }) one));
    }

pub loop-root-init : goal.loop-root-init
loop-root-init g c =
    let s0 = state_seen c.args.state.now.stock c.args.state.now.own in
    let W = world (g.F.Source.tree c.args.files.now) c.args.folders.now in
    record {
      files = still g.F.Source (tt {0}) c.args.files.now;
      held = refl;
      built = stays _ _;
      few = omega arith;
      many = ap length c.new-into.ensures.items;
      within = within_none _ _ c.new-into.ensures.items;
      left = λ told. same _ _
          (ap (λ xs. each_in_turn (root_entry W) (counted 0 c.args.roots.now) (record { roots = xs; state = s0 }))
          c.new-into.ensures.items);
    }

pub returns-in_err-push-clause-gives : goal.returns-in_err-push-clause-gives
returns-in_err-push-clause-gives g c = λ told.
    let ds = c.args.folders.now in
    let W = world (g.F.Source.tree c.args.files.now) ds in
    let r = c.root-item.result in
    let k = c.loop-root.given in
    let s0 = state_seen c.loop-root.state.stock c.loop-root.state.own in
    let st : Roots = record { roots = c.loop-root.into.items; state = s0 } in
    let inv = c.loop-root.invariant in
    let K = g.F.Source.tells in
    let at = counted_front k c.args.roots.now c.loop-root.root-index r c.loop-root-test.true c.root-item.is in
    let moved = same _ _ (ap₂ (λ U j. root_by (world U ds) j r s0) inv.files.tree c.next-given.ensures) in
    let one = root_by W (next k r) r s0 in
    let front = told_then K one (λ t. at_once (Ok (record { roots = st.roots ++ t.0 ∷ []; state = t.1 })))
    (turn_told (root_entry W) _ _ (next k r, r) st _ at (inv.left told) K told) in
    passed_on _ c.from_residual-in_err-push.result Memory _ c.from_residual-in_err-push.ensures.1
    (turn_stop (root_entry W) _ _ (next k r, r) st _ at (inv.left told) Memory
    (may_then Memory one (λ t. at_once (Ok (record { roots = st.roots ++ t.0 ∷ []; state = t.1 })))
    (may_lead Memory _ _ moved (out_last _ _ (c.in_ok-number.ensures.gives (told_lead K _ _ moved front))))))

pub returns-clause-gives : goal.returns-clause-gives
returns-clause-gives g c = λ told.
    let W = world (g.F.Source.tree c.args.files.now) c.args.folders.now in
    let l = c.loop-root in
    turn_done (root_entry W) _ (roots_seen l.into.items l.state) _
    (ap (counted l.given) (drop_all l.root-index c.args.roots.now (omega (arith, c.loop-root-test.false))))
    (l.invariant.left told)
