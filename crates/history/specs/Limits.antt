-- How large the numbers of bodies, actors and seats are.
use Rattle.std.specs.Prelude.{ℕ}

-- how many bits the number of a body has
abbrev pub body_bits : ℕ
body_bits = 48

-- how many bits the number of an actor or a seat has
abbrev pub actor_bits : ℕ
actor_bits = 16
