-- What a call of a queue of numbers tells its seat it tells by deeds.
use Rattle.std.proofs.Common.{◌≡◌, ◌∙◌, sym, refl, ap, ℕ, true, false, List, [], ◌∷◌, ◌++◌, length}
use Rattle.std.proofs.lemmas.List.{map-append, length-map}
use Rattle.history.specs.declared.operations.Entry.{Entry}
use Rattle.history.specs.declared.operations.Entry.TheVariants.{Push, Pop, Shut}
use Rattle.history.specs.declared.refusals.Refusal.{Refusal}
use Rattle.history.specs.declared.refusals.Refusal.TheVariants.{Closed}
use Rattle.history.specs.Seats.{Known}
use Rattle.history.specs.Answers.{Adds, FoundEmpty, FoundShut, FoundShutEmpty, SeesMore, PushRefused, PopRefused, Meets}
use Rattle.carriers.specs.Deeds.{Deed, RunsTo, RunsToShut}
use Rattle.carriers.specs.Answers.{AddsDeed, FindsDone, SeesMoreOf, PushRefusedOf, PopRefusedOf, MeetsOf}
use Rattle.carriers.specs.DeedsOfNumbers.{deed_of, deeds_of, known_by_deeds, Matches}
use Rattle.carriers.specs.Sound.{RunsTo-deeds, RunsToShut-deeds}

-- entries go together with themselves as deeds
pub Matches-deeds : (es : List Entry) → Matches es (deeds_of es)
Matches-deeds [] = tt
Matches-deeds (Push seat body ∷ es) = (refl, Matches-deeds es)
Matches-deeds (Pop seat taken ∷ es) = (refl, refl, Matches-deeds es)
Matches-deeds (Shut seat ∷ es) = (refl, Matches-deeds es)

-- entries, and others behind them, are deeds and others behind these
behind : (es es' fs : List Entry) → es' ≡ es ++ fs → deeds_of es' ≡ deeds_of es ++ deeds_of fs
behind es es' fs same = ap deeds_of same ∙ map-append deed_of es fs

-- what a call tells its seat it tells by deeds
pub adds-deed : (k k' : Known) (e : Entry) → Adds k e k' → AddsDeed (known_by_deeds k) (deed_of e) (known_by_deeds k')
adds-deed k k' e h =
    record {
      number = h.number;
      between = deeds_of h.between;
      seen = behind (k.seen ++ h.between) k'.seen (e ∷ []) h.seen ∙ ap (λ (y : List (Deed ℕ)). y ++ deed_of e ∷ []) (map-append deed_of k.seen h.between);
      mine = behind k.mine k'.mine (e ∷ []) h.mine;
      notes = h.notes;
    }

pub sees-deeds : (k k' : Known) → SeesMore k k' → SeesMoreOf (known_by_deeds k) (known_by_deeds k')
sees-deeds k k' h = record { number = h.number; between = deeds_of h.between; seen = behind k.seen k'.seen h.between h.seen; mine = ap deeds_of h.mine; notes = h.notes }

-- a note is at the same number
note-deeds : (k k' : Known) → k'.notes ≡ k.notes ++ length k'.seen ∷ [] → k'.notes ≡ k.notes ++ length (deeds_of k'.seen) ∷ []
note-deeds k k' h = h ∙ ap (λ n. k.notes ++ n ∷ []) (sym (length-map k'.seen deed_of))

pub empty-deeds : (k k' : Known) → FoundEmpty k k' → FindsDone (λ ds. RunsTo ds false []) (known_by_deeds k) (known_by_deeds k')
empty-deeds k k' h = record {
  number = h.number;
  between = deeds_of h.between;
  seen = behind k.seen k'.seen h.between h.seen;
  leaves =
      RunsTo-deeds k'.seen false [] h.empty;
  mine = ap deeds_of h.mine;
  notes = note-deeds k k' h.notes;
}

shut-deeds : (k k' : Known) → FoundShut k k' → FindsDone RunsToShut (known_by_deeds k) (known_by_deeds k')
shut-deeds k k' h = record {
  number = h.number;
  between = deeds_of h.between;
  seen = behind k.seen k'.seen h.between h.seen;
  leaves =
      RunsToShut-deeds k'.seen h.shut;
  mine = ap deeds_of h.mine;
  notes = note-deeds k k' h.notes;
}

shut_empty-deeds : (k k' : Known) → FoundShutEmpty k k' → FindsDone (λ ds. RunsTo ds true []) (known_by_deeds k) (known_by_deeds k')
shut_empty-deeds k k' h = record {
  number = h.number;
  between = deeds_of h.between;
  seen = behind k.seen k'.seen h.between h.seen;
  leaves =
      RunsTo-deeds k'.seen true [] h.empty;
  mine = ap deeds_of h.mine;
  notes = note-deeds k k' h.notes;
}

pub push_refused-deeds : (k k' : Known) (refusal : Refusal) → PushRefused k refusal k' → PushRefusedOf (known_by_deeds k) refusal (known_by_deeds k')
push_refused-deeds k k' Closed h = shut-deeds k k' h
push_refused-deeds k k' _ h = sees-deeds k k' h

pub pop_refused-deeds : (k k' : Known) (refusal : Refusal) → PopRefused k refusal k' → PopRefusedOf (known_by_deeds k) refusal (known_by_deeds k')
pop_refused-deeds k k' Closed h = shut_empty-deeds k k' h
pop_refused-deeds k k' _ h = sees-deeds k k' h

pub meets-deeds : (one other one' other' : Known) → Meets one other one' other' → MeetsOf (known_by_deeds one) (known_by_deeds other) (known_by_deeds one') (known_by_deeds other')
meets-deeds one other one' other' h = record { same = ap deeds_of h.same; first = sees-deeds one one' h.first; second = sees-deeds other other' h.second }
