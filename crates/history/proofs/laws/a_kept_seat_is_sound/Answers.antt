-- Soundness is one fact by the lemma, and that a seat is a queue's by the queue's law.
use Rattle.std.proofs.Math.Logic.{∥∥₁_elim}
use Rattle.history.proofs.OneProof.{IsSound-prop}
use Rattle.history.proofs.laws.a_kept_seat_is_sound.Goals as goal

pub returns-clause-once : goal.returns-clause-once
returns-clause-once g c = IsSound-prop

pub returns-clause-kept : goal.returns-clause-kept
returns-clause-kept g c =
    λ queue seat kept. g.met.Q.Fifo.sound queue seat (∥∥₁_elim kept (g.met.Q.Fifo.seat_prop queue seat) (λ here. here))
