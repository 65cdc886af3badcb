-- Words that are no event's.
use Rattle.std.proofs.Common.{◌≡◌, ◌≢◌, ℕ, List, [], ◌++◌, length, get_or, drop, codes, sym, ap, ◌∙◌, arith}
use Rattle.text_io.specs.WordsLeft.{number_words}
use Rattle.schedule_text.specs.declared.schedules.Event.{Event}
use Rattle.schedule_text.specs.declared.schedules.Event.TheVariants.{Begin, Step, Steps, Give}
use Rattle.schedule_text.specs.declared.schedules.Version.{Version}
use Rattle.schedule_text.specs.Texts.{SpellsEvent}

-- the first byte of the first word
abbrev initial : List (List ℕ) → ℕ
initial words = get_or (get_or words 0 []) 0 0

-- an actor's steps with no number behind the actor
pub no_steps : (version : Version) (words rest : List (List ℕ)) (actor : ℕ) → words ≡ number_words actor ++ rest
    → ((count : ℕ) (later : List (List ℕ)) → rest ≢ number_words count ++ later) → (event : Event) → ¬ SpellsEvent version (codes "steps") words event
no_steps version words rest actor split none (Begin a op) tells = let first : ◌≡◌ {A = ℕ} 115 98 = ap initial tells.1 in absurd (omega (arith, first))
no_steps version words rest actor split none (Step a line) tells = let long : ◌≡◌ {A = ℕ} 5 4 = ap (λ ws. length (get_or ws 0 [])) tells.1 in absurd (omega (arith, long))
no_steps version words rest actor split none (Steps a count) tells = none count [] (ap (drop 1) (sym split ∙ ap (drop 1) tells.1))
no_steps version words rest actor split none (Give a) tells = let first : ◌≡◌ {A = ℕ} 115 103 = ap initial tells.1 in absurd (omega (arith, first))
