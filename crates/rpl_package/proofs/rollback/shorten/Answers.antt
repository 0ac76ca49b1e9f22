use Rattle.std.proofs.Common.{arith, ◌<◌, length, refl, ap, sym}
use Rattle.std.proofs.lemmas.List.{length-map}
use Rattle.rpl_scope.specs.Seen.{module_seen, modules_seen}
use Rattle.rpl_names.proofs.Numbering.{nth_seen}
use Rattle.rpl_package.proofs.Placing.{short_seen, short_none, with_prefixes}
use Rattle.rpl_package.proofs.rollback.shorten.Goals as goal

pub returns-in-Some : goal.returns-in-Some
returns-in-Some c =
    let ms = c.args.modules.now.items in
    let i = c.args.top in
    let v = c.in-Some.ensures.variant.0 refl in
    let o = c.args.modules.now.ok.0 in
    let lt : i < length ms = omega (arith, v, o) in
    let own = c.in-Some.own.now in
    short_seen ms i c.args.count own _ (nth_seen ms i own lt c.in-Some.ensures.value)
    (ap (with_prefixes (module_seen own)) c.truncate.ensures)

pub returns-in-None : goal.returns-in-None
returns-in-None c =
    let ms = c.args.modules.now.items in
    let o = c.args.modules.now.ok.0 in
    let n = length-map ms module_seen in
    sym (short_none (modules_seen ms) c.args.top c.args.count (λ lt. absurd (let e =
    c.in-None.ensures.variant.1 (omega (arith, lt, o, n)) in cc)))
