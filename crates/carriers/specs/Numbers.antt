-- A queue of numbers as a queue of values.
use Rattle.carriers.specs.declared.numbered.Numbers.{Numbers}

-- the queue of numbers
abbrev pub fifo_of : {Q : Type 0} → Numbers Q → Q
fifo_of n = n.queue
