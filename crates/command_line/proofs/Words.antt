-- What clap's reading of the words says of the file and the task.
use Rattle.std.proofs.Common.{◌≡◌, ◌==◌, ℕ, List, [], ◌∷◌, length, map, Option, Some, None, Bool, true, false, not, ◌&&◌, refl, inl, inr, ap, ◌∙◌, codes, option_map, Bor}
use Rattle.std.specs.Prelude.{unwrap_or}
use Rattle.std.specs.Prelude.{Result, Ok, Err}
use Rattle.std.specs.Str.Parse.{ParsesUnsigned}
use Rattle.clap.specs.Matches.{ReadsOne}
use Rattle.line_table.specs.declared.lines.Kind.TheVariants.{NonBlocking}
use Rattle.line_table.specs.declared.kinds.QueueKind.TheVariants.{Linked}
use Rattle.clap.specs.Words.{App, Row, Text, fault_of, first_of, is_simple, is_simple_and_free, subcommand_of}
use Rattle.clap.proofs.OnLiterals.{clap_on_literals}
use Rattle.command_line.specs.declared.commands.Colours.TheVariants.{Auto}
use Rattle.command_line.specs.declared.commands.Task.{Task}
use Rattle.command_line.specs.declared.commands.Task.TheVariants.{Run, Expand, Trace, Show, Check, Place, Work, Post, Explain}
use Rattle.command_line.specs.Commands.{colours_by, colours_named, command_line_app, faults_in, file_met, held_met, is_met, is_show, kind_by, kind_named, met_in, GoesForward, IsTask, SaysFlag, SaysNumberIn, TextRow}

module _ (queues whens : TextRow) where
  -- no words meet no command
  pub met_in-nil : met_in queues whens [] ≡ None
  unfolding clap_on_literals met_in
  met_in-nil = refl

  -- clap tells the matches of this command line
  pub is_simple-command_line : is_simple (command_line_app queues whens) ≡ true
  unfolding clap_on_literals
  is_simple-command_line = refl

  -- clap tells the faults of this command line
  pub is_free-command_line : is_simple_and_free (command_line_app queues whens) ≡ true
  unfolding clap_on_literals
  is_free-command_line = refl

  -- no words have no fault
  pub faults_in-nil : faults_in queues whens [] ≡ []
  unfolding faults_in
  faults_in-nil = refl

  -- the faults of words are those that clap tells of this command line
  pub faults_in-words : {A : Type 0} (f : A → Text) (words : List A) (is_empty : Bool) (app : App) → app ≡ command_line_app queues whens → is_empty ≡ (length words == 0) → is_empty ≡ false
      → fault_of app (map f words) ≡ faults_in queues whens (map f words)
  unfolding faults_in
  faults_in-words f [] is_empty app same is some = absurd cc
  faults_in-words f (word ∷ words) is_empty app same is some = ap (λ (a : App). fault_of a (f word ∷ map f words)) same

  -- the command that clap meets among the words
  pub met_in-words : (app : App) (words : List Text) → app ≡ command_line_app queues whens → subcommand_of app words ≡ met_in queues whens words
  unfolding met_in
  met_in-words app words same = ap (λ (a : App). subcommand_of a words) same

-- a plain command has no global argument
pub plain_local : (a b has_globals d : Bool) → (a && (b && (not has_globals && d))) ≡ true → has_globals ≡ false
plain_local a b false d e = refl
plain_local true true true d e = absurd cc
plain_local true false true d e = absurd cc
plain_local false b true d e = absurd cc

-- the file of the command that was met
pub file_met-rows : (met : Option (Text × List Row)) (rows : List Row) → option_map (λ p. p.1) met ≡ Some rows → file_met met ≡ first_of (codes "FILE") rows
file_met-rows None rows e = absurd cc
file_met-rows (Some p) rows e = let same : p.1 ≡ rows = cc in ap (first_of (codes "FILE")) same

-- and its list of what the queue holds
pub held_met-rows : (met : Option (Text × List Row)) (rows : List Row) → option_map (λ p. p.1) met ≡ Some rows → held_met met ≡ first_of (codes "HOLDS") rows
held_met-rows None rows e = absurd cc
held_met-rows (Some p) rows e = let same : p.1 ≡ rows = cc in ap (first_of (codes "HOLDS")) same

-- a reference in an option, or another one
pub unwrap_or-now : (o : Option (Bor (List ℕ))) (d : Bor (List ℕ)) → (unwrap_or o d).now ≡ unwrap_or (option_map (λ file. file.now) o) d.now
unwrap_or-now None d = refl
unwrap_or-now (Some file) d = refl

-- the kind of the queue that a name in an option names
pub kind_named-some : (o : Option (Bor Text)) (found : Option Text) (name : Bor Text) → option_map (λ s. s.now) o ≡ found → o ≡ Some name → kind_named found ≡ kind_by name.now
kind_named-some o found name told is = rw (← told, is) refl

-- no option names the usual queue
pub kind_named-none : (o : Option (Bor Text)) (found : Option Text) → option_map (λ s. s.now) o ≡ found → o ≡ None → kind_named found ≡ Linked NonBlocking
kind_named-none o found told is = rw (← told, is) refl

-- when a picture has colours, by the name in an option
pub colours_named-some : (o : Option (Bor Text)) (found : Option Text) (name : Bor Text) → option_map (λ s. s.now) o ≡ found → o ≡ Some name → colours_named found ≡ colours_by name.now
colours_named-some o found name told is = rw (← told, is) refl

-- no option names the usual time
pub colours_named-none : (o : Option (Bor Text)) (found : Option Text) → option_map (λ s. s.now) o ≡ found → o ≡ None → colours_named found ≡ Auto
colours_named-none o found told is = rw (← told, is) refl

-- the number that was read of an option, or another one
pub SaysNumberIn-read : {E : Type 0} (bits : ℕ) (gives : List ℕ → Result ℕ E → Type 0)
    → ((t : List ℕ) (r : Result ℕ E) → gives t r → ParsesUnsigned bits 10 t r) → (o : Option Text) (r : Option ℕ) (other : ℕ)
    → (o ≡ None → r ≡ None) → ((t : List ℕ) → o ≡ Some t → ReadsOne gives t r) → SaysNumberIn bits o other (unwrap_or r other)
SaysNumberIn-read bits gives parses None r other none value = rw (none refl) refl
SaysNumberIn-read bits gives parses (Some t) None other none value = let read = value t refl in inr (parses t (Err read.0) read.1, refl)
SaysNumberIn-read bits gives parses (Some t) (Some n) other none value = inl (parses t (Ok n) (value t refl))

-- what was read of a flag
pub SaysFlag-read : (o : Option Text) (flag : Bool) → (o ≡ None → flag ≡ false) → (o ≡ Some (codes "true") → flag ≡ true) → (o ≡ Some (codes "false") → flag ≡ false) → SaysFlag o flag
SaysFlag-read None flag none set unset = none refl
SaysFlag-read (Some text) flag none set unset = (λ e. set (ap (λ (t : Text). Some t) e), λ e. unset (ap (λ (t : Text). Some t) e))

-- a task that draws nothing shows no steps
forward-other : (task : Task) → is_show task ≡ false → GoesForward task
forward-other Run e = tt
forward-other Expand e = tt
forward-other Trace e = tt
forward-other (Show view) e = absurd cc
forward-other Check e = tt
forward-other (Place placing) e = tt
forward-other (Work crew) e = tt
forward-other (Post kind) e = tt
forward-other Explain e = tt

-- nor does the one that no words ask for
pub forward-nil : (queues whens : TextRow) (task : Task) → IsTask (met_in queues whens []) task → GoesForward task
forward-nil queues whens task asked = forward-other task (asked.show ∙ ap (is_met (codes "show")) (met_in-nil queues whens))
