-- The content of a page, put together, and the page around it.
use Rattle.std.proofs.Common.{◌≡◌, ◌∙◌, ◌++◌, ℕ, List, [], Option, Some, None, Result, Err, ap, inl, inr, refl, sym, subst}
use Rattle.std.proofs.lemmas.List.{append-nil, append_assoc}
use Rattle.std.specs.Io.KnownBytes.{Appends}
use Rattle.std.specs.Prelude.{IfSome, option_map}
use Rattle.engine_faults.specs.Faults.{IsEventRefusal}
use Rattle.engine_faults.specs.declared.faults.Fault.{Fault}
use Rattle.expand_engine.specs.Expansions.{IsActFault}
use Rattle.history.specs.declared.refusals.Refusal.{Refusal}
use Rattle.history.specs.declared.refusals.Refusal.TheVariants.{Memory, Write}
use Rattle.text_io.specs.Blocks.{GivesUp, TakesPrefix}
use Rattle.text_io.specs.Devices.{SinkState}
use Rattle.page_engine.specs.declared.engine.Frame.{Frame}
use Rattle.page_engine.specs.declared.given.Given.{Given}
use Rattle.page_engine.specs.declared.given.Stop.{Stop}
use Rattle.page_engine.specs.Followed.{fault_line, fault_text}
use Rattle.page_engine.specs.Given.{CanBeMade, IsContentOf, ended_at, page_content}
use Rattle.page_engine.specs.Pages.{IsEither, IsStoppedTold, IsWholeTold, Pages, page_around}
use Rattle.page_engine.specs.Shown.{shown_text}

-- the text that was given, the frame's second part, what is told, and the fault, one behind another
pub content_is : (given text none first second third all between told fault : List ℕ) → none ≡ [] → given ≡ text → first ≡ none ++ shown_text given → second ≡ first ++ between → third ≡ second ++ told
    → all ≡ third ++ fault → all ≡ (shown_text text ++ between) ++ (told ++ fault)
content_is given text none first second third all between told fault empty is kept put followed last =
    let before : first ≡ shown_text text = kept ∙ ap (λ (l : List ℕ). l ++ shown_text given) empty ∙ ap shown_text is in
    let front : second ≡ shown_text text ++ between = put ∙ ap (λ (l : List ℕ). l ++ between) before in
    last ∙ ap (λ (l : List ℕ). l ++ fault) (followed ∙ ap (λ (l : List ℕ). l ++ told) front) ∙ append_assoc (shown_text text ++ between) told fault

-- memory was refused before a byte was written
pub Pages-unmade : (frame : Frame) (given : List ℕ) (whole : List ℕ → Type 0) (stopped : ℕ → Refusal → List ℕ → Type 0) (a : SinkState) (same : Type 0) (refusal : Refusal) (fault : Fault)
    → fault ≡ record { refusal = refusal; line = None } → refusal ≡ Memory → same → Pages frame given whole stopped a a same (Err fault)
Pages-unmade frame given whole stopped a same refusal fault is memory unchanged =
    subst (λ (f : Fault). Pages frame given whole stopped a a same (Err f)) (sym is)
    (record {
      ok = tt;
      quiet = tt;
      prefix = λ write. absurd cc;
      write = λ write. absurd cc;
      unwritten = λ none other. unchanged;
      stopped_at = tt;
      none_failed_there = tt;
      fault = rw memory tt;
    })

-- no event is refused as a writer is
not_write : (refusal : Refusal) → IsEventRefusal refusal → refusal ≡ Write → ⊥
not_write refusal event write = subst IsEventRefusal write event

module _ (frame : Frame) (given : Given) (made : CanBeMade given) (content : List ℕ) (is : IsContentOf frame given content) where
  -- where nothing is refused, it tells of the whole run
  whole_told : given.stop ≡ None → (told : List ℕ) × IsWholeTold given told × (content ≡ page_content frame given.text.items told)
  whole_told none = (
    is.text,
    (none, is.followed.whole (made.refusal ∙ ap (option_map (λ (stop : Stop). stop.refusal)) none)),
    is.is ∙ ap (page_content frame given.text.items) (ap (λ (o : Option Stop). is.text ++ fault_text o) none ∙ append-nil is.text),
  )

  -- where something is, it tells of it last
  stop_told : (stop : Stop) → given.stop ≡ Some stop → (told : List ℕ) × IsStoppedTold given stop.line stop.refusal told × (content ≡ page_content frame given.text.items told)
  stop_told stop some = (
    is.text ++ fault_line stop.refusal stop.line,
    record {
      stop = stop;
      is = some;
      here = refl;
      cause = refl;
      tells = record {
        text = is.text;
        stop = is.followed.stopped stop.refusal (made.refusal ∙ ap (option_map (λ (stop : Stop). stop.refusal)) some);
        is = refl;
      };
    },
    is.is ∙ ap (page_content frame given.text.items) (ap (λ (o : Option Stop). is.text ++ fault_text o) some),
  )

  -- it tells of one or the other
  either_told : (o : Option Stop) → given.stop ≡ o → (told : List ℕ) × IsEither (IsWholeTold given) (IsStoppedTold given) told × (content ≡ page_content frame given.text.items told)
  either_told None none = let t = whole_told none in (t.0, inl t.1, t.2)
  either_told (Some stop) some = let t = stop_told stop some in (t.0, inr (stop.line, stop.refusal, t.1), t.2)

  module _ (a b : SinkState) (same : Type 0) where
    -- the writer gave up
    pub Pages-gave : (refusal : Refusal) (fault : Fault) → fault ≡ record { refusal = refusal; line = None } → refusal ≡ Write → TakesPrefix a.contents b.contents (page_around frame content) → GivesUp a b
        → Pages frame given.text.items (IsWholeTold given) (IsStoppedTold given) a b same (Err fault)
    Pages-gave refusal fault is write taken gave =
        let t = either_told given.stop refl in
        subst (λ (f : Fault). Pages frame given.text.items (IsWholeTold given) (IsStoppedTold given) a b same (Err f)) (sym is)
        (record {
          ok = tt;
          quiet = tt;
          prefix = λ e. (t.0, t.1, subst (λ (l : List ℕ). TakesPrefix a.contents b.contents (page_around frame l)) t.2 taken);
          write = λ e. gave;
          unwritten = λ none other. absurd (other write);
          stopped_at = tt;
          none_failed_there = tt;
          fault = rw write tt;
        })

    -- it was written
    ended_by : (o : Option Stop) → given.stop ≡ o → Appends a.contents b.contents (page_around frame content) → b.failures ≡ a.failures
        → Pages frame given.text.items (IsWholeTold given) (IsStoppedTold given) a b same (ended_at o)
    ended_by None none grown quiet =
        let t = whole_told none in
        record {
          ok = (t.0, t.1, subst (λ (l : List ℕ). Appends a.contents b.contents (page_around frame l)) t.2 grown);
          quiet = quiet;
          prefix = tt;
          write = tt;
          unwritten = tt;
          stopped_at = tt;
          none_failed_there = tt;
          fault = tt;
        }
    ended_by (Some stop) some grown quiet =
        let t = stop_told stop some in
        let kind : IsActFault stop.refusal stop.line = subst (λ (o : Option Stop). IfSome o (λ stop. IsActFault stop.refusal stop.line)) some made.fault in
        record {
          ok = tt;
          quiet = tt;
          prefix = λ write. absurd (not_write stop.refusal kind.0 write);
          write = λ write. absurd (not_write stop.refusal kind.0 write);
          unwritten = λ none. absurd cc;
          stopped_at = (t.0, t.1, subst (λ (l : List ℕ). Appends a.contents b.contents (page_around frame l)) t.2 grown);
          none_failed_there = quiet;
          fault = kind;
        }

    pub Pages-ended : (result : Result (Unit {0}) Fault) → result ≡ ended_at given.stop → Appends a.contents b.contents (page_around frame content) → b.failures ≡ a.failures
        → Pages frame given.text.items (IsWholeTold given) (IsStoppedTold given) a b same result
    Pages-ended result ends grown quiet =
        subst (λ (r : Result (Unit {0}) Fault). Pages frame given.text.items (IsWholeTold given) (IsStoppedTold given) a b same r) (sym ends) (ended_by given.stop refl grown quiet)
