-- A queue of values whose calls sleep.
use Rattle.carriers.specs.declared.numbered.Numbers.{Numbers}
use Rattle.carriers.specs.Numbers.{fifo_of}
use Rattle.shared_queue.specs.declared.queue.SharedQueue.{SharedQueue}

-- the queue within
abbrev pub queue_of : {C : Type 0} → SharedQueue C → C
queue_of b = b.queue

-- the queue of numbers within, if that is one
abbrev pub numbers_in : {Q : Type 0} → SharedQueue (Numbers Q) → Q
numbers_in b = fifo_of (queue_of b)
