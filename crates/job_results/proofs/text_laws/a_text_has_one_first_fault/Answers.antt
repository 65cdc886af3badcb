-- Each clause is a law of listings, at that of jobs.
use Rattle.std.proofs.Common.{length}
use Rattle.text_io.proofs.Listings.{listing-no_fault, listing-one_fault}
use Rattle.job_results.specs.JobTexts.{jobs_listing}
use Rattle.job_results.proofs.OneJobText.{IsListing-jobs, IsSoundListing-jobs}
use Rattle.job_results.proofs.text_laws.a_text_has_one_first_fault.Goals as goal

pub returns : goal.returns
returns c = record {
  one = listing-one_fault jobs_listing IsSoundListing-jobs;
  none = λ jobs n c range. listing-no_fault jobs_listing IsSoundListing-jobs (length jobs) jobs n c (IsListing-jobs jobs range);
}
