use Rattle.std.proofs.Common.{refl}
use Rattle.tag_window.proofs.Orders.{swept_sound}
use Rattle.tag_window.proofs.order.TagOrder.make_room.Goals as goal

pub returns-clause-sound : goal.returns-clause-sound
returns-clause-sound c = (swept_sound c.args.self.now (record c.args.self.now { arrivals = c.sweep.new.arrivals })
    c.requires.sound c.sweep.ensures.items c.sweep.ensures.capacity refl refl refl).0

pub returns-clause-live : goal.returns-clause-live
returns-clause-live c = (swept_sound c.args.self.now (record c.args.self.now { arrivals = c.sweep.new.arrivals })
    c.requires.sound c.sweep.ensures.items c.sweep.ensures.capacity refl refl refl).1
