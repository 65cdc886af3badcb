-- The picture of a schedule, by what a run of it has left.
use Rattle.std.proofs.Common.{◌≡◌, ℕ, Bool, List, [], take, Option, Some, None, sym, ap, subst, ◌∙◌}
use Rattle.std.specs.List.{slice_get}
use Rattle.std.proofs.lemmas.List.{append-nil, take_all}
use Rattle.std.proofs.lemmas.Option.{slice_get_past}
use Rattle.history.specs.declared.refusals.Refusal.{Refusal}
use Rattle.run_engine.specs.Runs.{EventsLead, opening_of}
use Rattle.run_engine.proofs.Leading.{world_after-moves_of}
use Rattle.schedule_text.specs.declared.schedules.Event.{Event}
use Rattle.schedule_text.specs.Schedules.{Schedule}
use Rattle.step_machine.specs.Machine.{World}
use Rattle.run_engine.specs.declared.counts.RunExtent.{RunExtent}
use Rattle.run_engine.specs.Pieces.{actors_text, rest_text}
use Rattle.run_engine.specs.Extents.{IsExtentOf, StopsAt}
use Rattle.run_engine.proofs.Answered.{IsDue}
use Rattle.show_engine.specs.declared.counts.Counted.{Counted}
use Rattle.show_engine.specs.declared.frames.Frame.{Frame}
use Rattle.show_engine.specs.declared.frames.View.{View}
use Rattle.show_engine.specs.Frames.{frame_of}
use Rattle.show_engine.specs.Pictures.{events_text, framed_text, picture_pieces, takes_effect}
use Rattle.show_engine.specs.PicturesWritten.{AreEffects, IsCountOf, is_among, the_picture}
use Rattle.show_engine.specs.StandRows.{shown_stand}
use Rattle.show_engine.specs.RefusedPictures.{due_text}

-- events lead to one world alone
pub led_to_one : (start w v : World) (events : List Event) → EventsLead start events w → EventsLead start events v → v ≡ w
led_to_one start w v events led too =
    let both : Some v ≡ Some w = sym (world_after-moves_of events start v too) ∙ world_after-moves_of events start w led in
    cc

module _ (s : Schedule) (run : RunExtent) (r : IsExtentOf s run) (v : World) (numbers : List ℕ) (effects : AreEffects v.operations numbers) where
  -- where the events that can be made were made again, what takes effect was found
  pub effects_again : EventsLead (opening_of s) (take run.made s.events) v → AreEffects r.world.operations numbers
  effects_again led = subst (λ (w : World). AreEffects w.operations numbers) (led_to_one (opening_of s) r.world v (take run.made s.events) r.led led) effects

  -- where none is refused it was found at once
  pub effects_whole : run.refusal ≡ None → EventsLead (opening_of s) s.events v → AreEffects r.world.operations numbers
  effects_whole none led =
      let over : StopsAt s.events run.made r.world None = subst (λ (o : Option Refusal). StopsAt s.events run.made r.world o) none r.stops in
      effects_again (subst (λ (l : List Event). EventsLead (opening_of s) l v) (sym (take_all run.made s.events over)) led)

-- the frame of a view is that of the schedule that is seen
pub framed_as : (view : View) (seen s : Schedule) (frame : Frame) → frame ≡ frame_of view seen.actors → seen ≡ s → frame ≡ frame_of view s.actors
framed_as view seen s frame is same = is ∙ ap (λ (s : Schedule). frame_of view s.actors) same

module _ (view : View) (s : Schedule) (frame : Frame) (counted : Counted) (is : frame ≡ frame_of view s.actors) (c : IsCountOf s counted) (bits : ℕ) (split : s.bits ≡ bits) where
  abbrev rest : Option Event → List ℕ
  rest = rest_text (picture_pieces (frame_of view s.actors) (takes_effect c.run.world.operations) s.bits) c.run.world s.actors

  -- a picture by what a run has left is one by its operations
  by_operations : due_text frame view.legend.now bits s counted c.run.world
      ≡ events_text view s (take counted.run.made s.events) c.run.world (rest (slice_get s.events counted.run.made))
  by_operations =
      let marks : is_among counted.effects.items ≡ takes_effect c.run.world.operations = λ i number. c.effects.each number i in
      ap (λ (b : ℕ). due_text frame view.legend.now b s counted c.run.world) (sym split)
      ∙ ap (λ (f : Frame). due_text f view.legend.now s.bits s counted c.run.world) is
      ∙ ap
      (λ (marked : ℕ → Bool). framed_text (frame_of view s.actors) view.legend.now marked c.run.world.steps s.bits s (take counted.run.made s.events) (rest (slice_get s.events counted.run.made)))
      marks

  -- it is due
  pub picture_due : IsDue (the_picture view) s counted.run c.run.world (due_text frame view.legend.now bits s counted c.run.world)
  picture_due =
      let first = take counted.run.made s.events in
      record {
        whole = λ over.
            by_operations
            ∙ ap (λ (o : Option Event). events_text view s first c.run.world (rest o)) (slice_get_past s.events counted.run.made over)
            ∙ ap (λ (l : List Event). events_text view s l c.run.world []) (take_all counted.run.made s.events over);
        stopped = λ event got.
            by_operations
            ∙ ap (λ (o : Option Event). events_text view s first c.run.world (rest o)) got
            ∙ ap (λ (behind : List ℕ). events_text view s first c.run.world behind) (append-nil (actors_text (shown_stand (frame_of view s.actors) s.bits c.run.world) s.actors));
      }
