-- The rest of a schedule, read to its end.
use Rattle.std.proofs.Common.{◌≡◌, List, [], ◌∷◌, ◌++◌, Option, None, Some, is_some, true, false, refl, sym, subst, ◌∙◌, append_assoc}
use Rattle.std.specs.Prelude.{Ok}
use Rattle.std.proofs.lemmas.List.{append-nil}
use Rattle.history.specs.declared.refusals.Refusal.{Refusal}
use Rattle.schedule_text.specs.EventStreams.{EventStream, GaveEvent, GaveAll, IsNext, IsRefused, IsRefusedNext, HasRead, HasReadAll, schedule_with}
use Rattle.text_io.specs.Devices.{SourceState}
use Rattle.schedule_text.specs.Texts.{version_due}
use Rattle.schedule_text.specs.declared.event_stream.Stage.TheVariants.{Going}
use Rattle.schedule_text.specs.declared.readers.Header.{Header}
use Rattle.schedule_text.specs.declared.schedules.Event.{Event}
use Rattle.schedule_text.proofs.EventStreams.{HasRead-event, HasRead-refused, HasRead-all}

-- whatever was read before, some events more are read now
pub record IsReadOn (s t : EventStream) (old mid : SourceState) : Type 0 where
  pub going : t.stage ≡ Going
  pub header : t.header ≡ s.header
  pub read : (events : List Event) (first : SourceState) → HasRead s events first old → (later : List Event) × HasRead t (events ++ later) first mid

pub IsReadOn-none : (s : EventStream) (old : SourceState) → s.stage ≡ Going → IsReadOn s s old old
IsReadOn-none s old going = record {
  going = going;
  header = refl;
  read = λ events first so_far. ([], subst (λ (l : List Event). HasRead s l first old) (sym (append-nil events)) so_far);
}

pub IsReadOn-event : (s t u : EventStream) (old mid new : SourceState) (event : Event) → IsReadOn s t old mid → GaveEvent event t u mid new → IsReadOn s u old new
IsReadOn-event s t u old mid new event on gave = record {
  going = gave.going;
  header = gave.header ∙ on.header;
  read = λ events first so_far.
      let p = on.read events first so_far in (
        p.0 ++ event ∷ [],
        HasRead-event t u (events ++ p.0) first mid new p.1 event (events ++ (p.0 ++ event ∷ [])) (sym (append_assoc events p.0 (event ∷ []))) gave,
      );
}

pub IsReadOn-all : (s t u : EventStream) (old mid new : SourceState) → IsReadOn s t old mid → GaveAll t u mid new
    → (events : List Event) (first : SourceState) → HasRead s events first old → (later : List Event) × HasReadAll (schedule_with s.header (events ++ later)) first new
IsReadOn-all s t u old mid new on gave events first so_far =
    let p = on.read events first so_far in
    (p.0, subst (λ (h : Header). HasReadAll (schedule_with h (events ++ p.0)) first new) on.header (HasRead-all t u (events ++ p.0) first mid new p.1 gave))

pub IsReadOn-refused : (s t u : EventStream) (old mid new : SourceState) (refusal : Refusal) → IsReadOn s t old mid → IsRefusedNext refusal t u mid new
    → (events : List Event) (first : SourceState) → HasRead s events first old → IsRefused 0 version_due first new refusal
IsReadOn-refused s t u old mid new refusal on refused events first so_far =
    let p = on.read events first so_far in
    HasRead-refused t u (events ++ p.0) first mid new p.1 refusal refused

-- what a call answers, by whether it answers an event
pub gave_some : (s t : EventStream) (old new : SourceState) (next : Option Event) → true ≡ is_some next → IsNext s t old new (Ok next) → (event : Event) × GaveEvent event s t old new
gave_some s t old new None some told = absurd cc
gave_some s t old new (Some event) some told = (event, told)

pub gave_none : (s t : EventStream) (old new : SourceState) (next : Option Event) → false ≡ is_some next → IsNext s t old new (Ok next) → GaveAll s t old new
gave_none s t old new None some told = told
gave_none s t old new (Some event) some told = absurd cc
