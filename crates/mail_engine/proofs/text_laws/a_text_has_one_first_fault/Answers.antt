-- Each clause is a law of listings, at that of mail.
use Rattle.text_io.proofs.Listings.{listing-no_fault, listing-one_fault}
use Rattle.mail_engine.specs.MailTexts.{header_of, mail_listing}
use Rattle.mail_engine.proofs.MailLines.{IsListing-mail, IsSoundListing-mail}
use Rattle.mail_engine.proofs.text_laws.a_text_has_one_first_fault.Goals as goal

pub returns : goal.returns
returns c = record {
  one = listing-one_fault mail_listing IsSoundListing-mail;
  none = λ senders letters n c range. listing-no_fault mail_listing IsSoundListing-mail (header_of senders letters) letters n c (IsListing-mail senders letters range);
}
