-- The letters of each sender.
use Rattle.std.specs.Prelude.{◌≡◌, ◌≢◌, ℕ, ◌+◌, ◌<◌, List, [], ◌∷◌, ◌++◌, length, map, nat_eq, get_or, string_bytes}
use Rattle.std.specs.List.{filter}
use Rattle.mail_engine.specs.declared.letters.Outgoing.{Outgoing}
use Rattle.mailbox.specs.declared.threads.Task.{Task}
use Rattle.mailbox.specs.Posts.{texts_in}

-- the texts of one sender's letters, in their order
abbrev pub texts_from : (sender : ℕ) → List Outgoing → List (List ℕ)
texts_from sender letters = map (λ (l : Outgoing). string_bytes l.text) (filter (λ (l : Outgoing). nat_eq l.from sender) letters)

-- each task has the texts of its sender's letters, in their order; the tasks are those of the senders from number 1 on
abbrev pub HaveTexts : {Q S : Type 0} → List (Task Q S) → List Outgoing → Type 0
HaveTexts {Q} {S} tasks letters = (k : ℕ) (d : Task Q S) → k < length tasks → texts_in (get_or tasks k d) ≡ texts_from (k + 1) letters

-- a text is added at the end of those of the task at a place, and the other tasks are as before
pub record AddsText {Q S : Type 0} (old : List (Task Q S)) (place : ℕ) (text : List ℕ) (new : List (Task Q S)) : Type 0 where
  pub here : (d : Task Q S) → texts_in (get_or new place d) ≡ texts_in (get_or old place d) ++ text ∷ []
  pub others : (k : ℕ) (d : Task Q S) → k ≢ place → get_or new k d ≡ get_or old k d
