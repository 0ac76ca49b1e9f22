use Rattle.std.proofs.Common.{subst, sym}
use Rattle.rpl_core.specs.Table.{bodies_of}
use Rattle.rosie_suites.specs.inside.Entries.{AreSound}
use Rattle.rosie_suites.proofs.Entries.{sound_next}
use Rattle.rosie_suites.proofs.subject.Subjects.place_for.Goals as goal

pub returns-in-Some-get_mut-clause-sound : goal.returns-in-Some-get_mut-clause-sound
returns-in-Some-get_mut-clause-sound c =
    let R = bodies_of c.args.rules.now in
    let is = c.in_ok-subject.ensures in
    subst (AreSound R) (sym c.in_ok-push.ensures.items)
    (sound_next R c.make_room.new.self.entries.items (record {
      target = c.args.target;
      subject = c.in_ok-subject.subject;
    })
    (c.make_room.ensures R c.requires.sound) is.subject is.ready)

pub returns-in_default-get_mut-clause-sound : goal.returns-in_default-get_mut-clause-sound
returns-in_default-get_mut-clause-sound c =
    let R = bodies_of c.args.rules.now in
    let is = c.in_ok-subject.ensures in
    subst (AreSound R) (sym c.in_ok-push.ensures.items)
    (sound_next R c.make_room.new.self.entries.items (record {
      target = c.args.target;
      subject = c.in_ok-subject.subject;
    })
    (c.make_room.ensures R c.requires.sound) is.subject is.ready)
