-- What stands beside rows: the chains of nodes from Head and from Free, as far as they are shown, where Tail is in them, and
-- who holds the locks.
use Rattle.std.specs.Prelude.{ℕ, zero, suc, Bool, not, ◌||◌, ◌&&◌, List, [], ◌++◌, codes, decimal, nat_eq, nat_le, if◌then◌else◌}
use Rattle.std.specs.List.{list_any}
use Rattle.std.specs.Str.{bytes_eq}
use Rattle.line_steps.specs.Memory.{Shared, Head, Tail, Free, Next, Tail_lock, Head_lock}
use Rattle.step_machine.specs.declared.accesses.Contents.{Contents}
use Rattle.step_machine.specs.declared.accesses.Contents.TheVariants.{Number, Reference, Closed, Value}
use Rattle.step_machine.specs.Accesses.{contents_in}
use Rattle.show_engine.specs.declared.frames.Frame.{Frame}

-- the node of a reference; 0 where there is none
abbrev pub node_in : Contents → ℕ
node_in (Number n) = 0
node_in (Reference node count) = node
node_in (Closed count) = 0
node_in (Value v) = 0

-- how a chain goes on that isn't followed: the queue is shut, it ends, or there are more nodes
abbrev pub rest_text : Contents → List ℕ
rest_text (Number n) = []
rest_text (Reference node count) = if nat_eq node 0 then [] else codes " ..."
rest_text (Closed count) = codes " shut"
rest_text (Value v) = []

-- the node that Tail names, where so many bits hold a node
abbrev pub tail_node : (bits : ℕ) → Shared → ℕ
tail_node bits s = node_in (contents_in bits Tail s)

-- what stands before a node of a chain: a space, and the arrow of Tail, where that names the node
abbrev pub arrow_text : (tail node : ℕ) → List ℕ
arrow_text tail node = if nat_eq node tail then codes " >" else codes " "

-- the nodes from a reference on, at most so many, where so many bits hold a node
abbrev pub links_text : (bits : ℕ) → Shared → (most : ℕ) → Contents → List ℕ
links_text bits s zero r = rest_text r
links_text bits s (suc n) r =
    if nat_eq (node_in r) 0 then rest_text r
    else arrow_text (tail_node bits s) (node_in r) ++ decimal (node_in r) ++ links_text bits s n (contents_in bits (Next (node_in r)) s)

-- a chain: its first nodes, at most five, or that it has none
abbrev pub chain_text : (bits : ℕ) → Shared → Contents → List ℕ
chain_text bits s r = if nat_eq (node_in r) 0 then codes " -" else links_text bits s 5 r

-- both chains
abbrev pub chains_text : (bits : ℕ) → Shared → List ℕ
chains_text bits s =
    codes " | Head" ++ chain_text bits s (contents_in bits Head s) ++ codes ", Free" ++ chain_text bits s (contents_in bits Free s)

-- whether the arrow of Tail stands in a text
abbrev pub has_arrow : List ℕ → Bool
has_arrow text = list_any (λ code. nat_eq code 62) text

-- the node that Tail names, where these chains show no arrow
abbrev pub tail_text : (chains : List ℕ) → (tail : ℕ) → List ℕ
tail_text chains tail = if has_arrow chains then [] else codes ", Tail " ++ decimal tail

-- who holds the lock of this name, where an actor does: a lock holds the number of its holder
abbrev pub holder_text : (name : List ℕ) → Contents → List ℕ
holder_text name (Number n) = if nat_le 1 n && nat_le n 65535 then name ++ decimal n else []
holder_text name (Reference node count) = []
holder_text name (Closed count) = []
holder_text name (Value v) = []

-- who holds the locks
abbrev pub holders_text : (bits : ℕ) → Shared → List ℕ
holders_text bits s =
    holder_text (codes ", T_lock ") (contents_in bits Tail_lock s) ++ holder_text (codes ", H_lock ") (contents_in bits Head_lock s)

-- what is told beside a row: both chains with Tail, and who holds the locks
abbrev pub state_text : (bits : ℕ) → Shared → List ℕ
state_text bits s = chains_text bits s ++ tail_text (chains_text bits s) (tail_node bits s) ++ holders_text bits s

-- what stands beside the row of a numbered move: all that is told, at the first number that is shown, and where it changed
abbrev pub side_text : Frame → (number : ℕ) → (before after : List ℕ) → List ℕ
side_text f number before after = if nat_eq number f.from || not (bytes_eq before after) then after else []
