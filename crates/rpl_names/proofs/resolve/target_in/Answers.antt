use Rattle.std.proofs.Common.{arith, ◌≡◌, ◌<◌, ◌+◌, length, get_or, ap, sym, ◌∙◌}
use Rattle.std.specs.Prelude.{Ok, not}
use Rattle.rpl_scope.specs.Packages.{first_rule}
use Rattle.rpl_scope.specs.Seen.{modules_seen}
use Rattle.rpl_names.specs.Tables.{rows}
use Rattle.rpl_names.specs.Targets.{target_by}
use Rattle.rpl_names.proofs.Numbering.{nth_within, found_in, length_firsts, first_is, room_at}
use Rattle.rpl_names.proofs.resolve.target_in.Goals as goal

pub overflow_cast-result : goal.overflow_cast-result
overflow_cast-result c =
    let ms = modules_seen c.args.modules.now in
    let i = c.args.number in
    let k = c.args.place in
    let there = found_in ms i k _ (sym c.in-Some.ensures) in
    let room : first_rule ms i + k < 2 + length (rows ms) = room_at 0 0 ms i k there.0 _ there.1 there.2 in
    let few = c.requires.few in
    let same = ap length c.requires.rows in
    omega (arith, room, few, same)

pub overflow_add-result : goal.overflow_add-result
overflow_add-result c =
    let ms = modules_seen c.args.modules.now in
    let i = c.args.number in
    let k = c.args.place in
    let n = c.in-Some-get.first.now in
    let there = found_in ms i k _ (sym c.in-Some.ensures) in
    let is : n ≡ first_rule ms i = c.in-Some-get.ensures.lookup.1
    ∙ ap (λ l. get_or l i n) (c.deref.ensures.value ∙ c.requires.firsts) ∙ first_is ms i n there.0 there.1 in
    let room : first_rule ms i + k < 2 + length (rows ms) = room_at 0 0 ms i k there.0 _ there.1 there.2 in
    let few = c.requires.few in
    let same = ap length c.requires.rows in
    omega (arith, is, room, few, same)

pub returns-in-None-get : goal.returns-in-None-get
returns-in-None-get c =
    let ms = modules_seen c.args.modules.now in
    let i = c.args.number in
    let there = found_in ms i c.args.place _ (sym c.in-Some.ensures) in
    let short = nth_within ms i there.0 there.1 in
    let none = c.in-None-get.ensures.lookup.3 in
    let long = ap length (c.deref.ensures.value ∙ c.requires.firsts) ∙ length_firsts 2 ms in
    absurd (omega (arith, short, none, long))

pub returns-in-Some-get : goal.returns-in-Some-get
returns-in-Some-get c =
    let ms = modules_seen c.args.modules.now in
    let i = c.args.number in
    let n = c.in-Some-get.first.now in
    let there = found_in ms i c.args.place _ (sym c.in-Some.ensures) in
    let is : n ≡ first_rule ms i = c.in-Some-get.ensures.lookup.1
    ∙ ap (λ l. get_or l i n) (c.deref.ensures.value ∙ c.requires.firsts) ∙ first_is ms i n there.0 there.1 in
    ap (λ x. Ok (record { rule = x + c.args.place; captures = not c.in-Some.rule.now.alias })) is
    ∙ ap (target_by (first_rule ms i + c.args.place)) c.in-Some.ensures
