use Rattle.std.proofs.Common.{◌≡◌, ◌++◌, inl, inr, sym, ap, ◌∙◌, subst}
use Rattle.std.specs.Prelude.{OnOk, take}
use Rattle.rpl_encode.specs.Answer.{IsTooLong, line_by_line, parts}
use Rattle.rpl_encode.specs.Texts.{texts}
use Rattle.rpl_encode.specs.declared.style.Style.TheVariants.{Json, Matches, Subs}
use Rattle.rpl_encode.proofs.Styles.{built_for, captured_for, text_as, long_as}
use Rattle.rpl_encode.proofs.answer.Draft.put_captured.Goals as goal

pub returns-in-Matches-clause-text : goal.returns-in-Matches-clause-text
returns-in-Matches-clause-text c = λ f s.
    text_as c.put_captured_hits.result c.args.style Matches c.args.line.now c.as_bytes-bytes.result.now
    c.args.self.now.text f c.put_captured_hits.new.out c.in-Matches.is c.as_bytes-bytes.ensures.value
    (c.put_captured_hits.ensures.text f (captured_for c.args.style c.args.fronts.now c.args.captures.now f
    (inr (inl c.in-Matches.is)) s))

pub returns-in-Matches-clause-too_long : goal.returns-in-Matches-clause-too_long
returns-in-Matches-clause-too_long c = λ f s.
    long_as c.put_captured_hits.result c.args.style Matches c.args.line.now c.as_bytes-bytes.result.now
    c.args.self.now.text f c.in-Matches.is c.as_bytes-bytes.ensures.value
    (c.put_captured_hits.ensures.too_long f (captured_for c.args.style c.args.fronts.now c.args.captures.now f
    (inr (inl c.in-Matches.is)) s))

pub returns-in-Subs-clause-text : goal.returns-in-Subs-clause-text
returns-in-Subs-clause-text c = λ f s.
    text_as c.put_captured_subs.result c.args.style Subs c.args.line.now c.as_bytes-bytes.result.now
    c.args.self.now.text f c.put_captured_subs.new.out c.in-Subs.is c.as_bytes-bytes.ensures.value
    (c.put_captured_subs.ensures.text f (captured_for c.args.style c.args.fronts.now c.args.captures.now f
    (inr (inr (inl c.in-Subs.is))) s))

pub returns-in-Subs-clause-too_long : goal.returns-in-Subs-clause-too_long
returns-in-Subs-clause-too_long c = λ f s.
    long_as c.put_captured_subs.result c.args.style Subs c.args.line.now c.as_bytes-bytes.result.now
    c.args.self.now.text f c.in-Subs.is c.as_bytes-bytes.ensures.value
    (c.put_captured_subs.ensures.too_long f (captured_for c.args.style c.args.fronts.now c.args.captures.now f
    (inr (inr (inl c.in-Subs.is))) s))

pub returns-in_ok-fill-in-Json-2-clause-text : goal.returns-in_ok-fill-in-Json-2-clause-text
returns-in_ok-fill-in-Json-2-clause-text c = λ f s.
    let before = c.args.self.now.text in
    let bytes = c.as_bytes-bytes.result.now in
    let built = built_for c.args.style c.args.fronts.now c.args.captures.now c.fill.new.self f c.in-Json.is
    c.in_ok-fill-in-Json.ensures.built s in
    text_as c.put_tree.result c.args.style Json c.args.line.now bytes before f c.put_tree.new.out c.in-Json.is
    c.as_bytes-bytes.ensures.value
    (subst (λ g. OnOk c.put_tree.result (c.put_tree.new.out ≡ before ++ line_by_line (parts Json bytes g))) built
    c.put_tree.ensures.text)

pub returns-in_ok-fill-in-Json-2-clause-too_long : goal.returns-in_ok-fill-in-Json-2-clause-too_long
returns-in_ok-fill-in-Json-2-clause-too_long c = λ f s.
    let before = c.args.self.now.text in
    let bytes = c.as_bytes-bytes.result.now in
    let built = built_for c.args.style c.args.fronts.now c.args.captures.now c.fill.new.self f c.in-Json.is
    c.in_ok-fill-in-Json.ensures.built s in
    long_as c.put_tree.result c.args.style Json c.args.line.now bytes before f c.in-Json.is
    c.as_bytes-bytes.ensures.value
    (subst (λ g. IsTooLong c.put_tree.result (before ++ line_by_line (parts Json bytes g))) built
    c.put_tree.ensures.too_long)

pub returns-in_ok-put_captured_root-in-Plain-clause-text : goal.returns-in_ok-put_captured_root-in-Plain-clause-text
returns-in_ok-put_captured_root-in-Plain-clause-text c = λ f s.
    let before = c.args.self.now.text in
    c.in_ok-put_captured_root-in-Plain.ensures f (captured_for c.args.style c.args.fronts.now c.args.captures.now f
    (inr (inr (inr c.in-Plain.is))) s)
    ∙ ap (λ l. before ++ line_by_line (take 1 (texts l f))) c.as_bytes-bytes.ensures.value
    ∙ ap (λ t. before ++ line_by_line (parts t c.args.line.now f)) (sym c.in-Plain.is)
