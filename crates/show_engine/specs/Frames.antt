-- What of a run is shown, and in which columns.
use Rattle.std.specs.Prelude.{ℕ, ◌+◌, ◌-◌, ◌*◌, ◌/◌, ◌<◌, ◌≤◌, ◌^◌, min, max, Bool, ◌&&◌, nat_eq, nat_le, nat_lt, if◌then◌else◌}
use Rattle.show_engine.specs.declared.frames.View.{View}
use Rattle.show_engine.specs.declared.frames.Frame.{Frame}

-- how many columns a row has at most: those asked for, but no fewer than 40 and no more than 190
abbrev pub width_of : View → ℕ
width_of view = max (min view.width 190) 40

-- how many columns the numbers and the actors have at most: five eighths of a row
abbrev pub room_of : (width : ℕ) → ℕ
room_of width = width * 5 / 8

-- how many of so many actors are shown, which have so many columns with the numbers: the one asked for, or as many as have room
-- side by side behind the number, each in 8 columns
abbrev pub shown_within : View → (room actors : ℕ) → ℕ
shown_within view room actors = if nat_eq view.actor 0 then min actors ((room - 7) / 8) else 1

-- the same in the columns that are asked for
abbrev pub shown_of : View → (actors : ℕ) → ℕ
shown_of view actors = shown_within view (room_of (width_of view)) actors

-- the column of the chains, where so many actors are shown: behind 12 columns for each and 18 more, or behind the room
abbrev pub side_of : (room count : ℕ) → ℕ
side_of room count = min room (25 + 12 * count)

-- the number of the last step that may be shown: the one asked for, or the hundredth one, where that has 64 bits
abbrev pub end_of : View → ℕ
end_of view = if nat_eq view.to 0 then min (view.from + 99) (2 ^ 64 - 1) else view.to

-- what is shown of a run of so many actors, and where
abbrev pub frame_of : View → (actors : ℕ) → Frame
frame_of view actors =
    record {
      width = width_of view;
      side = side_of (room_of (width_of view)) (shown_of view actors);
      column = min ((room_of (width_of view) - 7) / shown_of view actors) 12;
      from = view.from;
      to = end_of view;
      first = max view.actor 1;
      count = shown_of view actors;
    }

-- whether an actor has a column
abbrev pub has_column : Frame → (me : ℕ) → Bool
has_column f me = nat_le f.first me && nat_lt me (f.first + f.count)

-- whether a move at a number by an actor is shown
abbrev pub shows : Frame → (number me : ℕ) → Bool
shows f number me = nat_le f.from number && nat_le number f.to && has_column f me

-- the column at which an actor's text begins: those of two neighbours are at most 12 columns apart
abbrev pub column_of : Frame → (me : ℕ) → ℕ
column_of f me = min (7 + (me - f.first) * f.column) f.side

-- a frame's columns are in their order, and no row is longer than a line has room for
pub record IsFitting (f : Frame) : Type 0 where
  pub beside : f.side < f.width
  pub narrow : f.width ≤ 190
  pub some : 40 ≤ f.width
  pub first : f.first < 2 ^ 32
  pub counted : f.count < 2 ^ 16
  pub one : 1 ≤ f.count
