use Rattle.rpl_parser.proofs.Roles.{other_role}
use Rattle.rpl_parser.proofs.piece.Role.of.Goals as goal

pub returns-in-Qualified : goal.returns-in-Qualified
returns-in-Qualified c = other_role c.args.token.kind c.args.text.now c.args.token c.in-Qualified.is
