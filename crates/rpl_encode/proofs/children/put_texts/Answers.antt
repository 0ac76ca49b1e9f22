use Rattle.std.proofs.Common.{◌+◌, ◌-◌, [], ◌∷◌, ◌++◌, refl, sym, ap, ◌∙◌, arith, append_assoc, append-nil}
use Rattle.std.specs.Prelude.{◌||◌, if◌then◌else◌}
use Rattle.rpl_encode.specs.Answer.{line_by_line}
use Rattle.rpl_encode.specs.inside.Children.{is_some_text, printed_texts}
use Rattle.rpl_encode.specs.inside.Walk.{text_at}
use Rattle.rpl_encode.proofs.Nodes.{got_within}
use Rattle.rpl_encode.proofs.Listing.{texts_left, printed_step, first_below, none_left, text_step, found_step, or_false}
use Rattle.rpl_encode.proofs.children.put_texts.Goals as goal
use Rattle.rpl_encode.proofs.children.put_texts.Goals.{then-wants+in_ok-put_line, else-wants}

pub loop-node-init : goal.loop-node-init
loop-node-init c =
    let labels = c.args.fronts.now in
    let all = ap (texts_left labels c.args.line.now c.args.only_hits c.args.forest.now 1) c.below_first-left.ensures
    ∙ ap (printed_texts c.args.only_hits c.args.line.now) (first_below labels c.args.forest.now) in
    (ap (λ ts. c.args.out.now ++ (line_by_line ts)) all, ap is_some_text all)

pub overflow_add-index : goal.overflow_add-index
overflow_add-index c =
    omega (
      arith,
      got_within c.args.forest.now c.loop-node.index c.in-Some.node c.in-Some.ensures.some.1,
      c.len-count.ensures,
    )

pub loop-node-preserved : goal.loop-node-preserved
loop-node-preserved c =
    let labels = c.args.fronts.now in
    let line = c.args.line.now in
    let nodes = c.args.forest.now in
    let now = texts_left labels line c.args.only_hits nodes c.saturating_add-index.result
    (c.loop-node.left - (1 + c.min-below.result)) in
    let text = text_at labels line c.in-Some.node in
    let step = printed_step labels line c.args.only_hits nodes c.loop-node.index c.saturating_add-index.result
    c.loop-node.left (c.loop-node.left - (1 + c.min-below.result)) c.min-below.result c.in-Some.node
    c.in-Some.ensures.some.1 c.in-Some.ensures.some.0 (omega (arith, c.len-count.ensures)) c.min-below.ensures
    c.saturating_add-index.ensures refl in
    elim c.if-wants.branch [
      | then-wants+in_ok-put_line w ↦
          let chosen = step ∙ ap (λ b. if b then text ∷ now else now) (sym c.wants.ensures ∙ w.if-wants.true) in
          let put = ap (λ o. o) w.out-is ∙ w.in_ok-put_line.ensures
          ∙ ap (λ x. c.loop-node.out ++ (x ++ 10 ∷ [])) w.text_of.ensures in (
            text_step ◌++◌ append_assoc c.loop-node.out c.if-wants.out _ text _ now put chosen c.loop-node.invariant.0,
            ap (λ b. b || is_some_text now) w.some-is
                ∙ found_step c.loop-node.some _ text _ now chosen c.loop-node.invariant.1,
          )
      | else-wants w ↦
          let passed = step ∙ ap (λ b. if b then text ∷ now else now) (sym c.wants.ensures ∙ w.if-wants.false) in (
            ap (λ o. o ++ (line_by_line now)) w.out-is ∙ ap (λ ts. c.loop-node.out ++ (line_by_line ts)) (sym passed)
                ∙ c.loop-node.invariant.0,
            ap (λ b. b || is_some_text now) w.some-is ∙ ap (λ ts. c.loop-node.some || is_some_text ts) (sym passed)
                ∙ c.loop-node.invariant.1,
          )
    ]

pub returns-clause-text : goal.returns-clause-text
returns-clause-text c =
    let none = none_left c.args.fronts.now c.args.line.now c.args.only_hits c.args.forest.now c.loop-node.index
    c.loop-node.left c.in_default.ensures.none in
    sym (append-nil c.loop-node.out) ∙ ap (λ ts. c.loop-node.out ++ (line_by_line ts)) (sym none)
    ∙ c.loop-node.invariant.0

pub returns-clause-found : goal.returns-clause-found
returns-clause-found c =
    let none = none_left c.args.fronts.now c.args.line.now c.args.only_hits c.args.forest.now c.loop-node.index
    c.loop-node.left c.in_default.ensures.none in
    sym (or_false c.loop-node.some) ∙ ap (λ ts. c.loop-node.some || is_some_text ts) (sym none)
    ∙ c.loop-node.invariant.1
