use Rattle.std.proofs.Common.{◌∙◌}
use Rattle.tasks.proofs.offers.lead.Goals as goal

pub returns : goal.returns
returns g c = record {
  seat = c.shut_or_stop-unshut.ensures.seat;
  number = c.shut_or_stop-unshut.ensures.number ∙ c.offer_all-refused.ensures.number;
  middle = c.offer_all-refused.new.seat;
  offered = c.offer_all-refused.ensures.offered;
  shut = c.shut_or_stop-unshut.ensures.shut;
  caused = c.shut_or_stop-unshut.ensures.caused;
}
