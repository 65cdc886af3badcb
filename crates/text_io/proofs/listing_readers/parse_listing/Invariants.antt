use Rattle.std.proofs.Common.{◌≤◌, ◌^◌}
use Rattle.text_io.proofs.ListingSteps.{AreRead}
use Rattle.text_io.proofs.listing_readers.parse_listing.Given as goal

abbrev pub invariant-loop-place : goal.invariant-loop-place
invariant-loop-place g l =
    let f = g.F.ListingFormat in
    record {
      read : AreRead f.listing f.item_said (f.header_said l.header) l.items.items l.text l.rest l.place l.count;
      few : l.count ≤ 2 ^ 32;
    }
