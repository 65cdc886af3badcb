-- What is known of a sink in memory.
use Rattle.std.specs.Prelude.{Some}
use Rattle.text_io.specs.Devices.{SinkState}
use Rattle.page_engine.specs.declared.kept.KeptText.{KeptText}

-- its bytes are known, and no call of it fails
abbrev pub kept_state : KeptText → SinkState
kept_state kept = record { contents = Some kept.bytes.items; failures = 0; is_full = kept.is_full }
