-- The given operations of a history with points, whose first ones push what the queue holds at the start.
use Rattle.std.specs.Prelude.{ℕ, ◌-◌, ◌==◌, if◌then◌else◌, List, option_map, unwrap_or, length, map, take, drop, slice_get}
use Rattle.std.specs.Option.{option_map_or}
use Rattle.history.specs.declared.operations.Stamped.{Stamped}

-- the last number of the last one of some operations; 0 where there is none
abbrev pub last_end : List Stamped → ℕ
last_end ops = option_map_or (λ o. unwrap_or o.last 0) (slice_get ops (length ops - 1)) 0

-- an operation whose numbers, and whose point, are so much less
abbrev pub earlier_by : ℕ → Stamped → Stamped
earlier_by count o = record {
  actor = o.actor;
  op = o.op;
  first = o.first - count;
  last = option_map (λ last. last - count) o.last;
  at = option_map (λ at. at - count) o.at;
  reply = o.reply;
}

-- the operations behind so many, with numbers that are as much less as the last of these ends at
abbrev pub behind : ℕ → List Stamped → List Stamped
behind count ops = map (earlier_by (last_end (take count ops))) (drop count ops)

-- the given operations, behind so many pushes of what is held; all of them where nothing is
abbrev pub given_part : ℕ → List Stamped → List Stamped
given_part count ops = if count == 0 then ops else behind count ops
