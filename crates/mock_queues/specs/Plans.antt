-- A queue that goes by a plan.
use Rattle.mock_queues.specs.declared.planned.Planned.{Planned}

-- the queue that calls are handed on to
abbrev pub queue_of : {Q P : Type 0} → Planned Q P → Q
queue_of p = p.queue
