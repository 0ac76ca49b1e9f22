use Rattle.std.proofs.Common.{subst, sym}
use Rattle.rosie_suites.specs.inside.Entries.{AreSound}
use Rattle.rosie_suites.proofs.Entries.{sound_none}
use Rattle.rosie_suites.proofs.subject.Subjects.make_room.Goals as goal

pub returns-then-self-gt-MAX_KEPT : goal.returns-then-self-gt-MAX_KEPT
returns-then-self-gt-MAX_KEPT c = λ R h. subst (AreSound R) (sym c.clear.ensures.items) (sound_none R)
