-- A queue of values that are bodies as a queue of numbers.
use Rattle.carriers.specs.declared.bodies.Bodies.{Bodies}

-- the queue of values
abbrev pub carrier_of : {C : Type 0} → Bodies C → C
carrier_of b = b.carrier
