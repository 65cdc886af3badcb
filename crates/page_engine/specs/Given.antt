-- What a page is written of.
use Rattle.std.specs.Prelude.{◌≡◌, ℕ, List, ◌++◌, Option, Some, None, Result, Ok, Err, IfSome, option_map}
use Rattle.engine_faults.specs.declared.faults.Fault.{Fault}
use Rattle.expand_engine.specs.Expansions.{IsActFault}
use Rattle.schedule_text.specs.Texts.{schedule_text, IsInRange}
use Rattle.run_engine.specs.Extents.{EndsAsCounted, IsExtentOf}
use Rattle.page_engine.specs.declared.engine.Frame.{Frame}
use Rattle.page_engine.specs.declared.given.Given.{Given}
use Rattle.page_engine.specs.declared.given.Stop.{Stop}
use Rattle.page_engine.specs.Followed.{IsFollowed, fault_text}
use Rattle.page_engine.specs.Shown.{shown_text}

-- how a run ends that stops there, or nowhere
abbrev pub ended_at : Option Stop → Result (Unit {0}) Fault
ended_at None = Ok tt
ended_at (Some stop) = Err (record { refusal = stop.refusal; line = Some stop.line })

-- how far the schedule's events can be made is known, and why the next one can't be, if there is one
pub record CanBeMade (given : Given) : Type 0 where
  pub in_range : IsInRange given.schedule
  pub extent : IsExtentOf given.schedule given.extent
  pub refusal : given.extent.refusal ≡ option_map (λ (stop : Stop). stop.refusal) given.stop
  pub fault : IfSome given.stop (λ stop. IsActFault stop.refusal stop.line)

-- the text is that of the schedule, which stops as its events do
pub record IsOne (given : Given) : Type 0 where
  pub made : CanBeMade given
  pub spelled : given.text.items ≡ schedule_text given.schedule
  pub ends : EndsAsCounted given.schedule given.extent (ended_at given.stop)

-- the content of a page: the text that was given, byte by byte as it is written there, and what is told of its run
abbrev pub page_content : Frame → (given told : List ℕ) → List ℕ
page_content frame given told = (shown_text given ++ frame.between.now) ++ told

-- these bytes are the content of the page of what was given
pub record IsContentOf (frame : Frame) (given : Given) (content : List ℕ) : Type 0 where
  pub text : List ℕ
  pub followed : IsFollowed given.schedule given.extent text
  pub is : content ≡ page_content frame given.text.items (text ++ fault_text given.stop)
