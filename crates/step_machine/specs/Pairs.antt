-- What two actors of the non-blocking queue may yet cost each other, by what each of them is at.
use Rattle.std.specs.Prelude.{ℕ, ◌+◌, ◌*◌, List, [], ◌∷◌, Option, Some, None}
use Rattle.std.specs.List.{sum_by}
use Rattle.step_machine.specs.Below.{Line, E17, Section, section_of, Reply}
use Rattle.line_table.specs.declared.lines.Section.TheVariants.{NewNode, Free, Enqueue, Dequeue, Shut}
use Rattle.step_machine.specs.Prices.{Prices, turn_of}

-- what an actor is at: nothing that costs others; to take a node; to link a node or the closed end; to pop; to give back
-- the node that it popped, or that of its pocket before it pops
pub data Stage : Type 0 where
  Resting : Stage
  Taking : Stage
  Linking : Stage
  Popping : Stage
  Freeing : Stage
  FreeingFirst : Stage

-- what an actor is at where a node is given back
abbrev pub freeing : Option Reply → Stage
freeing None = FreeingFirst
freeing (Some reply) = Freeing

-- the stage of a section of lines
abbrev pub stage_in : Option Reply → Section → Stage
stage_in due NewNode = Taking
stage_in due Enqueue = Linking
stage_in due Shut = Linking
stage_in due Dequeue = Popping
stage_in due Free = freeing due
stage_in due _ = Resting

-- the stage of a line: an enqueue that linked its node costs others nothing more
abbrev pub stage : Option Reply → Line → Stage
stage due E17 = Resting
stage due l = stage_in due (section_of l)

-- the stage of an actor at its line
abbrev pub stage_at : Option Reply → Option Line → Stage
stage_at due None = Resting
stage_at due (Some l) = stage due l

-- the stage of an actor, whose call counts from its first number on
abbrev pub stage_of : Option Reply → Option Line → (entry : Option ℕ) → Stage
stage_of due l None = Resting
stage_of due l (Some entry) = stage_at due l

-- what two actors may yet cost each other in steps, by their stages, whichever is named first
abbrev pub pair : Stage → Stage → ℕ
pair Resting Resting = 0
pair Resting Taking = 8
pair Resting Linking = 4
pair Resting Popping = 5
pair Resting Freeing = 4
pair Resting FreeingFirst = 8
pair Taking Resting = 8
pair Taking Taking = 16
pair Taking Linking = 12
pair Taking Popping = 12
pair Taking Freeing = 12
pair Taking FreeingFirst = 16
pair Linking Resting = 4
pair Linking Taking = 12
pair Linking Linking = 12
pair Linking Popping = 10
pair Linking Freeing = 8
pair Linking FreeingFirst = 12
pair Popping Resting = 5
pair Popping Taking = 12
pair Popping Linking = 10
pair Popping Popping = 13
pair Popping Freeing = 7
pair Popping FreeingFirst = 13
pair Freeing Resting = 4
pair Freeing Taking = 12
pair Freeing Linking = 8
pair Freeing Popping = 7
pair Freeing Freeing = 7
pair Freeing FreeingFirst = 11
pair FreeingFirst Resting = 8
pair FreeingFirst Taking = 16
pair FreeingFirst Linking = 12
pair FreeingFirst Popping = 13
pair FreeingFirst Freeing = 11
pair FreeingFirst FreeingFirst = 16

-- the sum over all pairs of a list
abbrev pub pairs : {X : Type 0} → (X → X → ℕ) → List X → ℕ
pairs f [] = 0
pairs f (x ∷ xs) = sum_by (f x) xs + pairs f xs

-- what an exchange that is won does: it takes or gives back a node, links one, or pops a value; or none is won
pub data Won : Type 0 where
  Nothing : Won
  Node : Won
  Link : Won
  Pop : Won

-- what it costs an actor at a stage
abbrev pub dues : Prices → Won → Stage → ℕ
dues p Node Taking = turn_of p 4
dues p Node Freeing = turn_of p 3
dues p Node FreeingFirst = turn_of p 3
dues p Link Taking = turn_of p 4
dues p Link Linking = 2 * turn_of p 4
dues p Link Popping = turn_of p 5
dues p Link Freeing = p.idle
dues p Link FreeingFirst = turn_of p 4
dues p Link Resting = p.idle
dues p Pop Popping = turn_of p 6
dues p _ _ = 0

-- what it costs each other actor at most
abbrev pub price : Prices → Won → ℕ
price p Nothing = 0
price p Node = p.node
price p Link = p.link
price p Pop = p.pop
