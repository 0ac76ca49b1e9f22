use Rattle.std.proofs.Common.{◌≤◌, ◌<◌, length, chars, ap, sym, subst, arith}
use Rattle.std.specs.Prelude.{get_or}
use Rattle.rpl_text.specs.Masks.{IsMarked}
use Rattle.rpl_text.proofs.Walks.{place_cut}
use Rattle.rpl_text.proofs.Passed.{Passed, passed_on, marked_byte}
use Rattle.rpl_text.proofs.line.pass_in.Goals.{then-bytes-place, else-bytes-place}
use Rattle.rpl_text.proofs.line.pass_in.Goals as goal

pub overflow_sub-bytes : goal.overflow_sub-bytes
overflow_sub-bytes c =
    let cut = place_cut c.args.line.now c.args.place c.utf8.line c.requires in
    omega (arith, cut.0, c.as_bytes-bytes.ensures.len)

pub past_marked-requires-clause-order : goal.past_marked-requires-clause-order
past_marked-requires-clause-order c =
    let cut = place_cut c.args.line.now c.args.place c.utf8.line c.requires in
    elim c.if-bytes-place.branch [
      | then-bytes-place w ↦ omega (arith, w.end-is, cut.0, c.as_bytes-bytes.ensures.len)
      | else-bytes-place w ↦ omega (arith, w.end-is)
    ]

pub past_marked-requires-clause-inside : goal.past_marked-requires-clause-inside
past_marked-requires-clause-inside c =
    let cut = place_cut c.args.line.now c.args.place c.utf8.line c.requires in
    elim c.if-bytes-place.branch [
      | then-bytes-place w ↦ omega (arith, w.end-is)
      | else-bytes-place w ↦ omega (arith, w.end-is, w.if-bytes-place.false, cut.0, c.as_bytes-bytes.ensures.len)
    ]

walked : (c : goal.After-past_marked) → Passed c.args.mask (chars c.args.line.now) c.args.place c.past_marked.result
walked c =
    let bytes = c.as_bytes-bytes in
    let p = c.past_marked.ensures in
    let cut = place_cut c.args.line.now c.args.place c.utf8.line c.requires in
    let last : c.if-bytes-place.end ≤ length bytes.result.now = elim c.if-bytes-place.branch [
      | then-bytes-place w ↦ omega (arith, w.end-is)
      | else-bytes-place w ↦ omega (arith, w.end-is, w.if-bytes-place.false, cut.0, bytes.ensures.len)
    ] in
    passed_on c.args.line.now bytes.result.now c.args.mask c.args.place c.past_marked.result c.if-bytes-place.end
    c.utf8.line bytes.ensures.value c.requires p.order p.inside last p.marked

pub returns-clause-place : goal.returns-clause-place
returns-clause-place c = (walked c).place

pub returns-clause-number : goal.returns-clause-number
returns-clause-number c = (walked c).number

pub returns-clause-marked : goal.returns-clause-marked
returns-clause-marked c = (walked c).marked

pub returns-clause-stops : goal.returns-clause-stops
returns-clause-stops c = λ short x here is.
    let p = c.past_marked.ensures in
    let bs = c.args.line.now in
    let s = marked_byte bs c.args.mask c.past_marked.result x c.utf8.line (walked c).place here is in
    let same = c.as_bytes-bytes.ensures.value in
    let before : c.past_marked.result < c.if-bytes-place.end = elim c.if-bytes-place.branch [
      | then-bytes-place w ↦ omega (arith, w.end-is, s.0, ap length same)
      | else-bytes-place w ↦ omega (arith, w.end-is, short)
    ] in
    p.stops before (subst (λ l. IsMarked c.args.mask (get_or l c.past_marked.result 0)) (sym same) s.1)
