use Rattle.step_machine.proofs.PlaceOf.{Walked}
use Rattle.step_machine.proofs.places.is_in_chain.Given as goal

-- what is left of the chain has the node as often as all of it
abbrev pub invariant-loop : goal.invariant-loop
invariant-loop g l = Walked g.row.B l.memory.words.nodes l.from l.at l.node l.most l.counter
