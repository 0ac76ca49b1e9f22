use Rattle.std.proofs.Common.{length, refl, sym}
use Rattle.std.proofs.lemmas.Bool.{ltb-true}
use Rattle.std.proofs.lemmas.Option.{slice_get_read}
use Rattle.rpl_parser.proofs.piece.Role.at.Goals as goal

pub of-requires : goal.of-requires
of-requires c =
    c.requires c.args.index c.in-Some.token.now (slice_get_read c.args.tokens.now (length c.args.tokens.now)
    c.args.index c.in-Some.token.now refl (ltb-true _ _ (sym c.in-Some.ensures.lookup.0)) c.in-Some.ensures.lookup.1)
