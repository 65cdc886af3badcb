-- So many seats are enough, whatever they know.
use Rattle.std.proofs.Common.{◌≡◌, List, length, map, sym, subst}
use Rattle.std.proofs.lemmas.List.{length-map}
use Rattle.carriers.specs.Knowledge.{KnownOf}
use Rattle.picked.specs.declared.either.EitherQueue.TheVariants.{First, Second}
use Rattle.picked.specs.EitherEnds.{EitherAsks}
use Rattle.ring_values.specs.Queues as rings
use Rattle.msq_c.specs.declared.words.MsqWords.{MsqWords}
use Rattle.msq_c.specs.WordsQueues.{WordsQueue, IsEnough, known_of}
use Rattle.msq_c.proofs.words_share_ends.WordsQueueEndQueue.end_with.Goals as goal

asks_so : (q : WordsQueue) (ks : List (KnownOf MsqWords)) → IsEnough q (length ks) → EitherAsks (λ p x. Unit {0}) (λ r x. length x ≡ length (rings.permits_of r)) q ks
asks_so (First p) ks enough = tt
asks_so (Second r) ks enough = enough

pub close_values_with-requires-clause-asked : goal.close_values_with-requires-clause-asked
close_values_with-requires-clause-asked c κs = asks_so c.args.self (map known_of c.args.seats.items)
    (subst (IsEnough c.args.self) (sym (length-map c.args.seats.items known_of)) c.requires.room.enough)
