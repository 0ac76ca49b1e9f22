use Rattle.std.proofs.Common.{◌≡◌, [], ◌+◌, ◌++◌, ◌<◌, ◌∙◌, ap, append_assoc, arith, length, length-append, refl}
use Rattle.std.proofs.Common.{subst, sym}
use Rattle.std.proofs.lemmas.List.{append-nil, nil_from_length}
use Rattle.rosie_io.specs.Counts.{capped}
use Rattle.rosie_run.specs.declared.ended.Ended.TheVariants as E
use Rattle.rosie_run.specs.Outputs.{IsFront}
use Rattle.rosie_run.proofs.Pieces.{whole_front}
use Rattle.rosie_run.proofs.Parted.{whole_is}
use Rattle.rosie_run.proofs.Writing.{appends_err, front_part, none_pending}
use Rattle.rosie_run.proofs.running.write_parts.Goals as goal

pub parts-init : goal.parts-init
parts-init g c =
    let whole = whole_is (g.P.PieceSource.out_text c.args.pieces.now) (g.P.PieceSource.out_rest c.args.pieces.now) in
    record {
      front = [];
      keeps = record {
        err_text = refl;
        comes = λ ps h. h;
        same = λ s h. h;
        left = λ s j h. h;
        goes_on = λ h. h;
        tool = refl;
        source_name = refl;
        bound = refl;
      };
      split = whole;
      out = λ t. sym (append-nil _);
      number = λ t. ap (λ xs. capped (g.O.Sink.number c.args.out.now + length xs)) whole;
      pending = λ none. (none, refl, λ is. is);
      faults = refl;
    }

pub returns-in_err-write_all-clause-out : goal.returns-in_err-write_all-clause-out
returns-in_err-write_all-clause-out g c = λ t.
    let i = c.parts.invariant in
    appends_err c.from_residual.result (λ e. e ≡ E.WriteFault) _ _ _ c.from_residual.ensures.1
    (front_part _ _ _ i.front _ _ _ (i.out t) (subst (IsFront _ _) c.out-part.ensures
    (c.in_err-write_all.ensures.bytes t)) i.split)

pub returns-in_err-write_all-clause-pending : goal.returns-in_err-write_all-clause-pending
returns-in_err-write_all-clause-pending g c = λ none.
    let i = c.parts.invariant in
    let e = none_pending _ _ _ none c.is_empty.ensures in
    let p = i.pending e.0 in
    (p.0, p.2 (nil_from_length _ (sym (ap length c.out-part.ensures) ∙ e.1)))

pub returns-in_err-next_part-clause-out : goal.returns-in_err-next_part-clause-out
returns-in_err-next_part-clause-out g c = λ t.
    let i = c.parts.invariant in
    let w = whole_front _ _ _ (c.in_ok-write_all.ensures.bytes t) in
    appends_err c.from_residual-in_err-next_part.result (λ e. e ≡ E.NoMemory) _ _ _
    c.from_residual-in_err-next_part.ensures.1
    (front_part _ _ _ i.front _ _ _ (i.out t) (subst (IsFront _ _) c.out-part.ensures w) i.split)

pub returns-in_err-next_part-clause-pending : goal.returns-in_err-next_part-clause-pending
returns-in_err-next_part-clause-pending g c = λ none.
    let i = c.parts.invariant in
    let e = none_pending _ _ _ none c.is_empty.ensures in
    let p = i.pending e.0 in
    (p.0, p.2 (nil_from_length _ (sym (ap length c.out-part.ensures) ∙ e.1)))

pub parts-preserved : goal.parts-preserved
parts-preserved g c =
    let i = c.parts.invariant in
    let k = i.keeps in
    let w = c.in_ok-write_all.ensures in
    let n = c.in_ok-next_part.ensures in
    let text = g.P.PieceSource.out_text c.parts.pieces in
    let rest = g.P.PieceSource.out_rest c.parts.pieces in
    let part1 = g.P.PieceSource.out_text c.next_part.new.self in
    let rest1 = g.P.PieceSource.out_rest c.next_part.new.self in
    let later = part1 ++ rest1 in
    let part : (rest ≡ later) × (0 < length part1) = rw c.if-not-branch.false at n.part in
    record {
      front = i.front ++ text;
      keeps = record {
        err_text = n.err_text ∙ k.err_text;
        comes = λ ps h. n.comes ps (k.comes ps h);
        same = λ s h. n.same s (k.same s h);
        left = λ s j h. n.left s j (k.left s j h);
        goes_on = λ h. n.goes_on (k.goes_on h);
        tool = n.tool ∙ k.tool;
        source_name = n.source_name ∙ k.source_name;
        bound = n.bound ∙ k.bound;
      };
      split = i.split ∙ ap (λ xs. i.front ++ (text ++ xs)) part.0 ∙ sym (append_assoc i.front text later);
      out = λ t. w.bytes t ∙ ap (λ xs. g.O.Sink.written c.parts.out ++ xs) c.out-part.ensures
          ∙ ap (λ xs. xs ++ text) (i.out t) ∙ append_assoc _ i.front text;
      number = λ t. let a = i.number t in let b = w.number t in let l = ap length c.out-part.ensures in
          let r : length rest ≡ length later = ap length part.0 in
          omega (arith, length-append text later, length-append text rest);
      pending = λ none.
          let e = none_pending _ _ _ none c.is_empty.ensures in
          let p = i.pending e.0 in
          let is = nil_from_length _ (sym (ap length c.out-part.ensures) ∙ e.1) in
          (p.0, ap (λ xs. xs ++ text) p.1 ∙ is, λ _. p.2 is);
      faults = w.cause ∙ i.faults;
    }
