-- Where the events of a schedule begin.
use Rattle.std.specs.Prelude.{[]}
use Rattle.schedule_text.specs.EventStreams.{EventStream, IsStarted}
use Rattle.schedule_text.specs.Streams.{stream}
use Rattle.text_io.specs.Devices.{SourceState}

-- the header of a schedule was read from the first byte of a source, and now its events are due
abbrev pub IsBegun : (first : SourceState) → EventStream → (now : SourceState) → Type 0
IsBegun first s now = IsStarted s (stream [] first) (stream s.ahead now)

-- some source was read so far
abbrev pub WasBegun : EventStream → (now : SourceState) → Type 0
WasBegun s now = (first : SourceState) × IsBegun first s now
