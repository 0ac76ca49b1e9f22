use Rattle.std.specs.Prelude.{chars, true, false}
use Rattle.rpl_classes.specs.Symbols.{symbols_from}
use Rattle.rpl_classes.specs.Brackets.{class}
use Rattle.rpl_classes.specs.Laws.{content}
use Rattle.rpl_classes.proofs.Readings.{start_place, whole_none, whole_class, whole_plain, whole_marked, read_ok}
use Rattle.rpl_classes.proofs.Readings.{read_err}
use Rattle.rpl_classes.proofs.brackets.read_bracket_with.Goals as goal

pub accept-requires : goal.accept-requires
accept-requires c = start_place (chars c.args.text.now)

pub returns-in_default : goal.returns-in_default
returns-in_default c = λ _. whole_none (chars c.args.text.now) c.in_default.ensures

pub returns-in_err-set : goal.returns-in_err-set
returns-in_err-set c =
    let x = chars c.args.text.now in
    let a = c.in-Some.ensures in
    read_err _ (class 0 (symbols_from x c.in-Some.inside)) _ c.from_residual.result c.in_err-set.field-0.0
    c.from_residual.ensures.1
    (whole_class x c.in-Some.inside a.0 a.1.left c.in-Some-class_at.ensures.is) c.in_err-set.ensures

pub returns-in_err-set-2 : goal.returns-in_err-set-2
returns-in_err-set-2 c =
    let x = chars c.args.text.now in
    let a = c.in-Some.ensures in
    read_err _ (content (symbols_from x c.in-Some.inside)) _ c.from_residual-in_err-set-2.result
    c.in_err-set-2.field-0.0 c.from_residual-in_err-set-2.ensures.1
    (whole_plain x c.in-Some.inside a.0 a.1.left c.in_default-class_at.ensures c.in_default-accept.ensures)
    c.in_err-set-2.ensures

pub returns-in_default-accept : goal.returns-in_default-accept
returns-in_default-accept c =
    let x = chars c.args.text.now in
    let a = c.in-Some.ensures in
    let g = c.in_ok-set-2.ensures in
    read_ok _ (content (symbols_from x c.in-Some.inside)) (record { set = c.in_ok-set-2.set; negated = false }) g.0
    (whole_plain x c.in-Some.inside a.0 a.1.left c.in_default-class_at.ensures c.in_default-accept.ensures) g.1

pub returns-in_err-set-3 : goal.returns-in_err-set-3
returns-in_err-set-3 c =
    let x = chars c.args.text.now in
    let a = c.in-Some.ensures in
    let b = c.in-Some-accept.ensures in
    read_err _ (content (symbols_from x c.in-Some-accept.behind)) _ c.from_residual-in_err-set-3.result
    c.in_err-set-3.field-0.0 c.from_residual-in_err-set-3.ensures.1
    (whole_marked x c.in-Some.inside c.in-Some-accept.behind a.0 a.1.left c.in_default-class_at.ensures b.0 b.1.left)
    c.in_err-set-3.ensures

pub returns : goal.returns
returns c =
    let x = chars c.args.text.now in
    let a = c.in-Some.ensures in
    let b = c.in-Some-accept.ensures in
    let g = c.in_ok-set-3.ensures in
    read_ok _ (content (symbols_from x c.in-Some-accept.behind)) (record { set = c.in_ok-set-3.set; negated = true })
    g.0
    (whole_marked x c.in-Some.inside c.in-Some-accept.behind a.0 a.1.left c.in_default-class_at.ensures b.0 b.1.left)
    g.1
