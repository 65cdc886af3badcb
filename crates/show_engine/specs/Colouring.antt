-- What is known of a sink that colours.
use Rattle.std.specs.Prelude.{◌≡◌, ℕ, false, List, [], Option, drop, option_map}
use Rattle.std.specs.Io.KnownBytes.{append_known}
use Rattle.text_io.specs.Devices.{SinkState}
use Rattle.show_engine.specs.declared.coloured.Coloured.{Coloured}
use Rattle.show_engine.specs.Plain.{plain}

-- the bytes that a sink has taken, and those that are held back for it, without their colours
abbrev pub plain_of : (sent : Option (List ℕ)) → (held : List ℕ) → Option (List ℕ)
plain_of sent held = option_map plain (append_known sent held)

-- the bytes that are held back
abbrev pub held_by : {W : Type 0} → Coloured W → List ℕ
held_by sink = drop sink.from sink.held

-- what is known of a sink that colours for another one: it has taken what is left without the colours
abbrev pub state_of : {W : Type 0} → (W → SinkState) → Coloured W → SinkState
state_of state sink =
    record {
      contents = plain_of (state sink.inner).contents (held_by sink);
      failures = (state sink.inner).failures;
      is_full = sink.is_full;
    }

-- a sink colours for the one behind it, and was handed nothing yet
pub record IsUnused {W : Type 0} (sink : Coloured W) (behind : W) : Type 0 where
  pub inner : sink.inner ≡ behind
  pub held : held_by sink ≡ []
  pub full : sink.is_full ≡ false

-- what is known of a sink, less the colours of what it took
abbrev pub plain_state : SinkState → SinkState
plain_state sink = record sink { contents = option_map plain sink.contents }
