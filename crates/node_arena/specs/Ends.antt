-- The end of an arena: what its seats bring with them.
use Rattle.std.specs.Prelude.{◌≡◌, nat_lt, List, [], map, Option}
use Rattle.std.specs.List.{All, count_by}
use mathlib.Core.List.{IsPrefix}
use Rattle.atomic_table.specs.Seated.{TableId}
use Rattle.atomic_table.specs.declared.shared.Seat.{Seat as Token}
use Rattle.history.specs.Entries.{is_push, is_pop, is_shut}
use Rattle.node_arena.specs.Beside.{Beside, HasNone, AllBegin}
use Rattle.node_arena.specs.Deeds.{Deed}
use Rattle.node_arena.specs.declared.seats.Seat.{Seat}
use Rattle.node_arena.specs.Knowledge.{gathered, seated}
use Rattle.node_arena.specs.Seats.{view, deeds_of}

-- a seat's token is one of a table, and knows what its seat knows
pub record HasToken {T : Type 0} (t : TableId) (s : Seat T) : Type 0 where
  pub table : s.token.table_id ≡ t
  pub seat : s.token.me.0.plain ≡ seated (view s)
  pub none_out : HasNone s.token.me

-- what each of these seats had seen of the values begins their history
abbrev pub EachBegins : {T : Type 0} → List (Seat T) → List (Deed T) → Type 0
EachBegins seats deeds = All (λ s. IsPrefix (deeds_of s) deeds) seats

-- a token of a table has taken in those of these seats: a history that begins with all that it took in begins with what each
-- of them had seen
pub record HasGathered {T : Type 0} (t : TableId) (k : Token (Option T) (Beside T)) (seats : List (Seat T)) : Type 0 where
  pub table : k.table_id ≡ t
  pub seat : k.me.0.plain ≡ gathered (map view seats)
  pub held : k.me.1 ≡ []
  pub others : (deeds : List (Deed T)) → AllBegin k.me.0.others deeds → EachBegins seats deeds

-- a seat counts its own pushes and pops, and has whether a shut is its own
pub record CountsItsOwn {T : Type 0} (s : Seat T) : Type 0 where
  pub pushes : s.pushes ≡ count_by is_push (view s).mine
  pub pops : s.pops ≡ count_by is_pop (view s).mine
  pub shut : s.shut ≡ nat_lt 0 (count_by is_shut (view s).mine)
