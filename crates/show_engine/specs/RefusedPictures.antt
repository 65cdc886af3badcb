-- What is drawn of a schedule whose events are refused at one.
use Rattle.std.specs.Prelude.{ℕ, List, [], ◌++◌, take, Option, Result}
use Rattle.std.specs.List.{slice_get}
use Rattle.engine_faults.specs.declared.faults.Fault.{Fault}
use Rattle.history.specs.declared.refusals.Refusal.{Refusal}
use Rattle.schedule_text.specs.Schedules.{Schedule}
use Rattle.step_machine.specs.Machine.{World}
use Rattle.text_io.specs.Devices.{SinkState}
use Rattle.run_engine.specs.Answers.{Answers, HasBegun, HasStopped, OfSchedule}
use Rattle.run_engine.specs.Pieces.{Pieces, run_text}
use Rattle.show_engine.specs.declared.counts.Counted.{Counted}
use Rattle.show_engine.specs.declared.frames.Frame.{Frame}
use Rattle.show_engine.specs.declared.frames.View.{View}
use Rattle.show_engine.specs.declared.frames.Meaning.{Meaning}
use Rattle.show_engine.specs.Legends.{legend_text, lines_in}
use Rattle.show_engine.specs.Pictures.{picture_pieces}
use Rattle.show_engine.specs.Rows.{shown_text}
use Rattle.show_engine.specs.PicturesWritten.{is_among, the_picture}

-- what a picture in a frame has of a run, by what one before has left, where so many bits hold a node
abbrev pub pieces_left : Frame → (bits : ℕ) → Counted → Pieces
pieces_left f bits counted = picture_pieces f (is_among counted.effects.items) bits

-- the picture in a frame of the events of a schedule that can be made, which lead to a world, by what a run of it has left, and what is
-- told of where the actors stand if the next one is refused, and of the lines of these events
abbrev pub due_text : Frame → List Meaning → (bits : ℕ) → Schedule → Counted → World → List ℕ
due_text f legend bits s counted w =
    run_text [] (pieces_left f bits counted) s (take counted.run.made s.events) w (slice_get s.events counted.run.made)
    ++ shown_text f s.actors w.steps ++ legend_text f legend (lines_in f s (take counted.run.made s.events))

-- known bytes were the text of a schedule, and its picture up to the event in this line, which is refused, was written
abbrev pub WritesStop : View → (given : Option (List ℕ)) → (line : ℕ) → Refusal → (old new : SinkState) → Type 0
WritesStop view given line refusal old new = OfSchedule given (λ s. HasStopped (the_picture view) s line refusal old new)

-- known bytes were the text of a schedule, and a prefix of its picture was written
abbrev pub BeginsPicture : View → (given : Option (List ℕ)) → (old new : SinkState) → Type 0
BeginsPicture view given old new = OfSchedule given (λ s. HasBegun (the_picture view) s old new)

-- the drawing of a schedule answers so
abbrev pub Draws : View → Schedule → (old new : SinkState) → (same : Type 0) → Result (Unit {0}) Fault → Type 0
Draws view s old new same result = Answers (the_picture view) s old new same result
