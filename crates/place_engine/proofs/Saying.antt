-- What an answer says of a recorded history is so.
use Rattle.std.proofs.Common.{List}
use Rattle.history.specs.declared.operations.Stamped.{Stamped}
use Rattle.placing.specs.declared.answers.Placed.{Placed}
use Rattle.placing.specs.declared.answers.Placed.TheVariants.{History, Impossible, Open}
use Rattle.placing.specs.Answers.{IsAnswer}
use Rattle.placing.proofs.Excluding.{excludes}
use Rattle.placing.proofs.Spreads.{placed_is}
use Rattle.place_engine.specs.Places.{SaysOf}

pub says : (ops : List Stamped) (answer : Placed) → IsAnswer ops answer → SaysOf ops answer
says ops (History new) h = placed_is ops new.items h.0 h.1
says ops (Impossible reason) h = excludes ops reason h
says ops (Open cause) h = tt
