use Rattle.std.proofs.Common.{ap, ◌∙◌, ◌++◌, ◌∷◌, []}
use Rattle.rpl_package.proofs.Keeping.{begins_seen, begins_unseen}
use Rattle.rpl_package.proofs.stock.finish.Goals as goal

pub returns-in_err-push_module-clause-kept : goal.returns-in_err-push_module-clause-kept
returns-in_err-push_module-clause-kept c =
    record {
      modules = begins_unseen _ _ (c.in_err-push_module.ensures.err ∙ ap (λ v. v.items) c.note.ensures.modules);
      paths = c.note.ensures.kept.paths;
      labels = c.note.ensures.kept.labels;
    }

pub returns-clause-kept : goal.returns-clause-kept
returns-clause-kept c =
    record {
      modules = begins_seen _ _ _
          (c.in_ok-push_module.ensures.ok ∙ ap (λ v. v.items ++ c.args.from ∷ []) c.note.ensures.modules);
      paths = c.note.ensures.kept.paths;
      labels = c.note.ensures.kept.labels;
    }
