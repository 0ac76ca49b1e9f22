use Rattle.std.proofs.Common.{ap, ◌++◌, ◌∷◌, [], ◌∙◌}
use Rattle.rpl_syntax.specs.Modules.{rules_of, entry_of, entries_of}
use Rattle.rpl_syntax.specs.declared.module.Item.TheVariants as I
use Rattle.rpl_parser.specs.inside.Walked.{walk_of}
use Rattle.rpl_parser.proofs.Pushed.{items_pushed, shut_is}
use Rattle.rpl_parser.proofs.walk.Walk.shut.Goals as goal

pub returns : goal.returns
returns c =
    let old = c.args.self.now in
    let pushed = items_pushed c.push.new.self old.items (I.Block c.replace-hidden.result c.replace-visible.result)
    c.in_ok-push.ensures.ok in
    let block =
    ap (λ h. entries_of old.items ++ entry_of (I.Block h c.replace-visible.result) ∷ []) c.replace-hidden.ensures.value
    ∙ ap (λ v. entries_of old.items ++ entry_of (I.Block old.hidden v) ∷ []) c.replace-visible.ensures.value in
    shut_is (walk_of old) (entries_of c.push.new.self) (rules_of c.replace-hidden.new.dest)
    (rules_of c.replace-visible.new.dest) (pushed ∙ block)
    (ap rules_of (c.replace-hidden.ensures.after ∙ c.new.ensures)) (ap rules_of (c.replace-visible.ensures.after
    ∙ c.new-2.ensures))
