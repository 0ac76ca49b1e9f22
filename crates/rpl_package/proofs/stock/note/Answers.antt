use Rattle.rpl_package.proofs.Keeping.{begins_same, begins_is, begins_noted, begins_put}
use Rattle.rpl_scope.specs.Seen.{modules_seen}
use Rattle.rpl_package.proofs.stock.note.Goals as goal

pub returns-in_err-add-clause-kept : goal.returns-in_err-add-clause-kept
returns-in_err-add-clause-kept c =
    record {
      modules = begins_same (modules_seen c.args.stock.now.modules.items);
      paths = begins_noted _ _ _ _ c.in_ok-note_path.ensures.ok;
      labels = begins_is _ _ c.in_err-add.ensures.err;
    }

pub returns-clause-kept : goal.returns-clause-kept
returns-clause-kept c =
    record {
      modules = begins_same (modules_seen c.args.stock.now.modules.items);
      paths = begins_noted _ _ _ _ c.in_ok-note_path.ensures.ok;
      labels = begins_put _ _ _ _ c.in_ok-add.ensures.ok;
    }
