use Rattle.std.proofs.Common.{◌≡◌, ◌<◌, ◌+◌, length, [], arith}
use Rattle.std.proofs.lemmas.Bool.Decides.{nat_tests}
use Rattle.rpl_lexer.specs.Cut.{Done, Fails, start}
use Rattle.rpl_lexer.specs.declared.fault.LexKind.TheVariants.{TooManyTokens}
use Rattle.rpl_lexer.proofs.Cuts.{start_is, starts, stands_is, fault_here, many_here, whole}
use Rattle.rpl_lexer.proofs.cut.lex.Goals as goal

pub returns-then-start-bytes-clause-tokens : goal.returns-then-start-bytes-clause-tokens
returns-then-start-bytes-clause-tokens c =
    let s = c.args.text.now in
    let e = start_is s c.as_bytes-bytes.result.now c.loop-bytes.at c.gap_len.result c.behind.result.now
    c.as_bytes-bytes.ensures.value c.behind.ensures c.gap_len.ensures.value in
    let k : start s c.loop-bytes.at ≡ length s = grind (arith, nat_tests, e) in
    rw c.from_vec.ensures (whole s c.loop-bytes.items.items Done (c.loop-bytes.invariant.so_far [] Done k))

pub returns-in-Fault-clause-fault : goal.returns-in-Fault-clause-fault
returns-in-Fault-clause-fault c =
    let s = c.args.text.now in
    let bs = c.as_bytes-bytes.result.now in
    let st = c.loop-bytes.at + c.gap_len.result in
    let w = starts s bs c.loop-bytes.at c.gap_len.result c.behind.result.now c.as_bytes-bytes.ensures.value
    c.behind.ensures c.gap_len.ensures.value c.gap_len.ensures.inside c.loop-bytes.invariant.inside in
    let lt : st < length s = grind (arith, nat_tests, w.1) in
    let h = stands_is s bs st c.behind-in-loop-bytes.result.now _ _ c.as_bytes-bytes.ensures.value
    c.behind-in-loop-bytes.ensures c.front.ensures.value c.in-Fault.is in
    λ _. (
      c.loop-bytes.items.items,
      whole s c.loop-bytes.items.items (Fails (st + c.in-Fault.skip) c.in-Fault.kind)
          (c.loop-bytes.invariant.so_far [] _ (fault_here s c.loop-bytes.at (length c.loop-bytes.items.items) st
          c.in-Fault.kind c.in-Fault.skip w.0 lt h)),
    )

pub returns-then-len-ge-MAX_TOKENS-clause-fault : goal.returns-then-len-ge-MAX_TOKENS-clause-fault
returns-then-len-ge-MAX_TOKENS-clause-fault c =
    let s = c.args.text.now in
    let bs = c.as_bytes-bytes.result.now in
    let st = c.loop-bytes.at + c.gap_len.result in
    let w = starts s bs c.loop-bytes.at c.gap_len.result c.behind.result.now c.as_bytes-bytes.ensures.value
    c.behind.ensures c.gap_len.ensures.value c.gap_len.ensures.inside c.loop-bytes.invariant.inside in
    let lt : st < length s = grind (arith, nat_tests, w.1) in
    let m : length c.loop-bytes.items.items ≡ 262144 = grind (arith, nat_tests) in
    let h = stands_is s bs st c.behind-in-loop-bytes.result.now _ _ c.as_bytes-bytes.ensures.value
    c.behind-in-loop-bytes.ensures c.front.ensures.value c.in-Found.is in
    λ _. (
      c.loop-bytes.items.items,
      whole s c.loop-bytes.items.items (Fails st TooManyTokens)
          (c.loop-bytes.invariant.so_far [] _ (many_here s c.loop-bytes.at (length c.loop-bytes.items.items) st
          c.in-Found.kind c.in-Found.len w.0 lt m h)),
    )
