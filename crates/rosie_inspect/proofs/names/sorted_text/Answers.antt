use Rattle.std.proofs.Common.{string_bytes}
use Rattle.rpl_names.specs.Names.{all_listed}
use Rattle.rpl_names.specs.Sets.{set_seen}
use Rattle.rosie_inspect.proofs.Texts.{sorted_lines}
use Rattle.rosie_inspect.proofs.names.sorted_text.Goals as goal

pub returns : goal.returns
returns c =
    sorted_lines (all_listed (set_seen c.args.packages.now)) c.in_ok-names.names c.in_ok-lines.lines.items
    c.sort.new.self.items c.deref.result.now c.join.result (λ l. string_bytes l) (λ t. string_bytes t)
    c.in_ok-names.ensures.members c.in_ok-lines.ensures c.sort.ensures.permutation c.in_ok-sort.ensures.sorted
    c.deref.ensures.value c.join.ensures
