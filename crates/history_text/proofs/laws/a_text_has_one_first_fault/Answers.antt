-- The first clause is a law of listings, at that of histories, and the lemma is the second one.
use Rattle.text_io.proofs.Listings.{listing-one_fault}
use Rattle.history_text.specs.HistoryLines.{history_listing}
use Rattle.history_text.proofs.OneReading.{IsSoundListing-history, no_fault_of_history}
use Rattle.history_text.proofs.laws.a_text_has_one_first_fault.Goals as goal

pub returns : goal.returns
returns c = record { one = listing-one_fault history_listing IsSoundListing-history; none = no_fault_of_history }
