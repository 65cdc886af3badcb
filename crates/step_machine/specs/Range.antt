-- Every number in a world is in the range of its word.
use Rattle.std.specs.Prelude.{◌≡◌, ◌⊎◌, ℕ, ◌^◌, ◌<◌, ◌≤◌, length, Option, Some, IfSome}
use Rattle.std.specs.List.{All}
use Rattle.step_machine.specs.Below.{reserved_node, body_bits, Ref, Line, N5, Op, Enq, Deq, Shut, Taken, Setup, Node, Held, Actor, Shared}
use Rattle.step_machine.specs.Machine.{World, IsSized}

-- a reference names one of the first `fresh` nodes or none, and its count is at most the limit
pub record RefInRange (limit fresh : ℕ) (r : Ref) : Type 0 where
  pub node : r.node ≤ fresh
  pub count : r.count ≤ limit

-- the same of a `next`, which may also be a closed end
pub record NextInRange (bits limit fresh : ℕ) (r : Ref) : Type 0 where
  pub node : (r.node ≤ fresh) ⊎ (r.node ≡ reserved_node bits)
  pub count : r.count ≤ limit

-- a value is of one of the actors or of nobody, and its body is below 2^48
pub record ValueInRange (actors : ℕ) (v : Taken) : Type 0 where
  pub from : v.from ≤ actors
  pub body : v.body < 2 ^ body_bits

-- a node's reference and its value are in range
pub record NodeInRange (bits limit fresh actors : ℕ) (n : Node) : Type 0 where
  pub next : NextInRange bits limit fresh n.next
  pub value : ValueInRange actors n.value

-- the shared words are in range: each of the nodes up to Fresh is there, and no word names another one
pub record SharedInRange (s : Setup) (actors : ℕ) (m : Shared) : Type 0 where
  pub some_fresh : 1 ≤ m.fresh
  pub fresh : m.fresh ≤ s.size
  pub free : RefInRange s.limit m.fresh m.free
  pub head : RefInRange s.limit m.fresh m.head
  pub tail : RefInRange s.limit m.fresh m.tail
  pub tail_lock : m.tail_lock ≤ actors
  pub head_lock : m.head_lock ≤ actors
  pub nodes : All (NodeInRange s.bits s.limit m.fresh actors) m.nodes
  pub all_nodes : length m.nodes ≡ s.size

-- a call is in range: a body is below 2^48
abbrev pub OpInRange : Op → Type 0
OpInRange (Enq body) = body < 2 ^ body_bits
OpInRange Deq = Unit {0}
OpInRange Shut = Unit {0}

-- a node in a pocket is one of the first `fresh` or none, and its mark is at most the limit
pub record HeldInRange (limit fresh : ℕ) (held : Held) : Type 0 where
  pub node : held.node ≤ fresh
  pub mark : held.mark ≤ limit

-- the registers of an actor are in range
abbrev pub RegistersInRange : Setup → (fresh actors : ℕ) → Actor → Type 0
RegistersInRange s fresh actors a =
    record {
      op : OpInRange a.op;
      f : a.f ≤ fresh;
      top : RefInRange s.limit fresh a.top;
      node : a.node ≤ fresh;
      mark : a.mark ≤ s.limit;
      tail : RefInRange s.limit fresh a.tail;
      head : RefInRange s.limit fresh a.head;
      next : NextInRange s.bits s.limit fresh a.next;
      val : ValueInRange actors a.val;
    }

-- N5 is reached only with nodes left
abbrev pub LineInRange : (size f : ℕ) → Option Line → Type 0
LineInRange size f (Some N5) = f < size
LineInRange size f _ = Unit {0}

-- all that an actor holds is in range
abbrev pub ActorInRange : Setup → (fresh actors : ℕ) → Actor → Type 0
ActorInRange s fresh actors a =
    record {
      registers : RegistersInRange s fresh actors a;
      pocket : IfSome a.pocket (HeldInRange s.limit fresh);
      line : LineInRange s.size a.f a.line;
    }

-- all that a world holds is in range
pub record WorldInRange (w : World) : Type 0 where
  pub sized : IsSized w.setup (length w.actors)
  pub shared : SharedInRange w.setup (length w.actors) w.shared
  pub actors : All (ActorInRange w.setup w.shared.fresh (length w.actors)) w.actors
  pub all_flags : length w.aside ≡ w.setup.size
