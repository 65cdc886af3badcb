-- Three seats are taken from the end, and the rest is split.
use Rattle.post_office.proofs.OfficeEnds.{taken_apart}
use Rattle.post_office.proofs.new_offices.desks_for.Goals as goal

pub returns-clause-desks : goal.returns-clause-desks
returns-clause-desks g c =
    taken_apart c.args.seats.items c.pop.new.self.items c.pop-2.new.self.items c.pop-3.new.self.items c.split_off.new.self.items c.in-Ok.receivers.items
    c.in-Some-pop-2.office c.in-Some-pop.last_sender c.in-Some.last_receiver c.args.senders
    c.in-Some.ensures.items c.in-Some-pop.ensures.items c.in-Some-pop-2.ensures.items c.in-Ok.ensures.items c.in-Ok.ensures.tail
