-- What the reader of schedules reads, and what it may be refused.
use Rattle.std.specs.Prelude.{◌≡◌, ℕ, ◌+◌, ◌≤◌, List, [], ◌∷◌, ◌++◌}
use Rattle.history.specs.declared.refusals.Refusal.{Refusal}
use Rattle.history.specs.declared.refusals.Refusal.TheVariants.{Memory, Text}
use Rattle.text_io.specs.Grammars.{IsFirstFault}
use Rattle.text_io.specs.Lines.{line, spaced}
use Rattle.text_io.specs.Numerals.{IsWithin}
use Rattle.schedule_text.specs.declared.fields.Field.TheVariants.{Nodes, Limit}
use Rattle.schedule_text.specs.declared.readers.Header.{Header}
use Rattle.schedule_text.specs.declared.readers.Sizes.{Sizes}
use Rattle.schedule_text.specs.declared.schedules.Event.{Event}
use Rattle.schedule_text.specs.declared.schedules.Version.{Version}
use Rattle.schedule_text.specs.Schedules.{IsBitsOf}
use Rattle.counted_ref.specs.Ref.{IsSplit}
use Rattle.schedule_text.specs.Texts.{Said, version, queue, happens, Due, version_due, events_left, bits_of, said_words, bits_said, sizes_said, least}
use Rattle.schedule_text.specs.Texts.{greatest, IsActor, IsSaidInRange, MaySay, schedule_lines}

-- the line at the front of a text is due, and says this in range
pub record IsFront (due : Due) (said : Said) (text rest : List ℕ) : Type 0 where
  pub may : MaySay due said
  pub range : IsSaidInRange (bits_of due) said
  pub spelled : text ≡ line (spaced (said_words said)) ++ rest

-- one event is added to a list, and its line is the front of a text
pub record AddsEvent (v : Version) (old new : List Event) (text rest : List ℕ) : Type 0 where
  pub event : Event
  pub added : new ≡ old ++ event ∷ []
  pub front : (left : ℕ) → IsFront (events_left v left) (happens event) text rest

-- what the lines of the sizes say
abbrev pub sizes_in : Sizes → List Said
sizes_in s = sizes_said s.nodes s.limit s.actors s.events

-- what the lines of a header say
abbrev pub said_in : Header → List Said
said_in h =
    version h.version ∷ queue h.kind ∷ bits_said h.version h.bits ++ sizes_said h.nodes h.limit h.actors h.events

-- each size is in its range, where so many bits hold a node
pub record AreSizesInRange (bits : ℕ) (s : Sizes) : Type 0 where
  pub nodes : IsWithin (least Nodes) (greatest bits Nodes) s.nodes
  pub limit : IsWithin (least Limit) (greatest bits Limit) s.limit
  pub actors : IsActor s.actors
  pub events : s.events ≤ 1000000

-- each number of a header is in its range
pub record IsHeaderInRange (h : Header) : Type 0 where
  pub split : IsSplit h.bits
  pub first : IsBitsOf h.version h.bits
  pub nodes : IsWithin (least Nodes) (greatest h.bits Nodes) h.nodes
  pub limit : IsWithin (least Limit) (greatest h.bits Limit) h.limit
  pub actors : IsActor h.actors
  pub events : h.events ≤ 1000000

-- after so many lines the reading of the rest is refused: memory is, or the first faulty line is told by its number
abbrev pub IsRefusedAfter : (before : ℕ) → Due → List ℕ → Refusal → Type 0
IsRefusedAfter before due rest Memory = Unit {0}
IsRefusedAfter before due rest (Text at cause) = (n : ℕ) × (at ≡ before + n) × IsFirstFault schedule_lines due rest n cause
IsRefusedAfter before due rest _ = ⊥

-- a text is refused: memory is, or it is no schedule's text, and the first faulty line is told
abbrev pub IsRefusedText : List ℕ → Refusal → Type 0
IsRefusedText text Memory = Unit {0}
IsRefusedText text (Text at cause) = IsFirstFault schedule_lines version_due text at cause
IsRefusedText text _ = ⊥
