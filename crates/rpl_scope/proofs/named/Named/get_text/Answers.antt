use Rattle.std.proofs.Common.{◌∙◌, sym, ap}
use Rattle.std.specs.Prelude.{chars}
use Rattle.std.specs.BTreeMap.{get}
use Rattle.std.specs.Ordering.{nat_cmp}
use Rattle.rpl_scope.specs.Packages.{first_of}
use Rattle.rpl_scope.specs.inside.Numbers.{value_at}
use Rattle.rpl_scope.proofs.Maps.{found, right}
use Rattle.rpl_scope.proofs.named.Named.get_text.Goals as goal

pub returns-in-Some : goal.returns-in-Some
returns-in-Some g c =
    let ps = c.self.inside.pairs.items in
    let n = chars c.args.name.now in
    let here = ap (value_at n c.copied-by_hash.result) (sym c.as_slice-pairs.ensures.value) ∙ sym c.in-Some.ensures in
    sym (right n c.copied-by_hash.result ps c.in-Some.value c.self.invariant.apart here)
    ∙ ap (first_of n) c.self.view_is

pub returns-in-None : goal.returns-in-None
returns-in-None g c =
    let ps = c.self.inside.pairs.items in
    let n = chars c.args.name.now in
    let by_hash = c.copied-by_hash.ensures ∙ c.get.ensures.value
    ∙ ap (get nat_cmp c.self.inside.hashes) c.hash_of.ensures in
    let by_name = c.copied.ensures ∙ c.get-in-None.ensures.value in
    let none = ap (value_at n c.copied-by_hash.result) (sym c.as_slice-pairs.ensures.value) ∙ sym c.in-None.ensures in
    let last = c.value_at-in-None.ensures ∙ ap (value_at n c.copied.result) c.as_slice-pairs.ensures.value in
    found c.args.name.now c.utf8.name ps c.self.inside.hashes c.self.inside.others c.self.invariant
    c.copied-by_hash.result c.copied.result by_hash by_name none c.value_at-in-None.result last
    ∙ ap (first_of n) c.self.view_is
