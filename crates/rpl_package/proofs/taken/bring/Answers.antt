use Rattle.std.proofs.Common.{sym, ap, ◌∙◌, arith}
use Rattle.std.specs.Prelude.{nat_eq}
use Rattle.std.specs.List.{list_any}
use Rattle.rpl_scope.specs.Seen.{module_seen, modules_seen}
use Rattle.rpl_scope.proofs.Taken.{plain_again}
use Rattle.rpl_package.proofs.Taking.{is_taken, plain, stay, stay_with}
use Rattle.rpl_package.proofs.taken.bring.Goals as goal
use Rattle.rpl_package.proofs.taken.bring.Goals.{then-plain-2+then-from+in_ok-push, else-plain-2}

pub returns-then-contains-clause-gives : goal.returns-then-contains-clause-gives
returns-then-contains-clause-gives c =
    let ms = modules_seen c.args.from.modules.now in
    let m = module_seen c.args.own.now in
    plain_again c.args.importer.file.now c.args.import.now c.args.from.number ms m
    (plain c.args.import.now.name (sym c.is_plain-plain.ensures ∙ c.if-plain.true))
    (is_taken ms m c.args.taken.now.items c.args.from.number c.requires.there
    (ap (list_any (λ i. nat_eq i c.args.from.number)) (sym c.deref.ensures.value) ∙ sym c.contains.ensures.value
    ∙ c.if-contains.true))

pub returns-clause-there : goal.returns-clause-there
returns-clause-there c =
    let f = c.args.importer.file.now in
    let i = c.args.import.now in
    let j = c.args.from.number in
    let m = module_seen c.args.own.now in
    let n = module_seen c.take_in.new.own in
    let js = c.args.taken.now.items in
    elim c.if-plain-2.branch [
      | then-plain-2+then-from+in_ok-push w ↦
          rw (w.taken-is, w.in_ok-push.ensures.items)
          (stay_with f i j c.args.from.modules.now m n js (sym c.is_plain-plain.ensures
          ∙ w.if-plain-2.true) (omega (arith, w.if-from.true)) c.in_ok-take_in.ensures c.requires.there)
      | else-plain-2 w ↦ rw w.taken-is (stay f i j (modules_seen c.args.from.modules.now) m n js c.in_ok-take_in.ensures
          c.requires.there)
    ]
