-- A recording is one of a queue of texts exactly where its history is one of a queue.
use Rattle.std.proofs.Common.{◌↔◌, ℕ, List, [], ◌∷◌, map, Option, Some, None, option_map, IsSome}
use Rattle.std.specs.List.{AllByRecursion}
use Rattle.waiting_orders.specs.Waiting.{IsCall, IsOfQueue}
use Rattle.recording_text.specs.Recordings.{Told, Recorded}
use Rattle.recording_text.specs.Numbers.{known_in, reply_by, stamped_by, history_of}
use Rattle.recording_text.proofs.Known.{by_recursion, from_recursion}
use Rattle.recording_text.proofs.Linear.{linear-as_history}
use Rattle.place_engine.specs.OfTexts.{IsRecordedCall, IsOfTextQueue}

module _ (known : List (List ℕ)) where
  -- a reply is told as its numbers are
  told-some : (told : Option Told) → IsSome told → IsSome (option_map (reply_by known) told)
  told-some None is = is
  told-some (Some told) is = is

  told-back : (told : Option Told) → IsSome (option_map (reply_by known) told) → IsSome told
  told-back None is = is
  told-back (Some told) is = is

  call-image : (r : Recorded) → IsRecordedCall r → IsCall (stamped_by known r)
  call-image r is = record { ended = (λ last. told-some r.told (is.ended.0 last), λ told. is.ended.1 (told-back r.told told)); spans = is.spans }

  call-back : (r : Recorded) → IsCall (stamped_by known r) → IsRecordedCall r
  call-back r is = record { ended = (λ last. told-back r.told (is.ended.0 last), λ told. is.ended.1 (told-some r.told told)); spans = is.spans }

  calls-image : (rs : List Recorded) → AllByRecursion IsRecordedCall rs → AllByRecursion IsCall (map (stamped_by known) rs)
  calls-image [] all = tt
  calls-image (r ∷ rs) all = (call-image r all.0, calls-image rs all.1)

  calls-back : (rs : List Recorded) → AllByRecursion IsCall (map (stamped_by known) rs) → AllByRecursion IsRecordedCall rs
  calls-back [] all = tt
  calls-back (r ∷ rs) all = (call-back r all.0, calls-back rs all.1)

pub of_queue-as_history : (rs : List Recorded) → IsOfTextQueue rs ↔ IsOfQueue (history_of rs)
of_queue-as_history rs = (
  λ is. record {
    calls = from_recursion IsCall (history_of rs) (calls-image (known_in rs) rs (by_recursion IsRecordedCall rs is.calls));
    linearizable = (linear-as_history rs).0 is.linearizable;
  },
  λ is. record {
    calls = from_recursion IsRecordedCall rs (calls-back (known_in rs) rs (by_recursion IsCall (history_of rs) is.calls));
    linearizable = (linear-as_history rs).1 is.linearizable;
  },
)
