use Rattle.text_io.proofs.Listings.{fault-header}
use Rattle.text_io.proofs.listing_readers.first_line.Goals as goal

pub returns-in-Err-clause-err : goal.returns-in-Err-clause-err
returns-in-Err-clause-err g c =
    let line = c.in_ok-line.ensures.ok in
    fault-header g.F.ListingFormat.listing c.args.text.now c.in_ok-line.line.now c.in_ok-line.rest.now c.in-Err.cause line.1 line.0 c.in-Err.ensures.err
