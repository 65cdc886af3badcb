-- What a seat learns by one call and then another.
use Rattle.std.proofs.Common.{◌≡◌, [], ◌∷◌, ◌++◌, length, Option, Some, None, sym, refl, ap, ◌∙◌, append-nil, append_assoc}
use Rattle.history.specs.declared.operations.Entry.{Entry}
use Rattle.history.specs.declared.operations.Entry.TheVariants.{Pop}
use Rattle.history.specs.declared.operations.Taken.{Taken}
use Rattle.history.specs.Seats.{Known}
use Rattle.history.specs.declared.refusals.Refusal.{Refusal}
use Rattle.history.specs.declared.refusals.Refusal.TheVariants.{Closed}
use Rattle.history.specs.Answers.{Adds, FoundEmpty, FoundShut, FoundShutEmpty, SeesMore, PopAnswers, PushRefused, PopRefused}

-- a seat that makes no call sees no less
pub sees_itself : (k : Known) → SeesMore k k
sees_itself k = record { number = refl; between = []; seen = sym (append-nil k.seen); mine = refl; notes = refl }

-- a seat that was refused, and then was refused again
pub sees_then : (a b c : Known) → SeesMore a b → SeesMore b c → SeesMore a c
sees_then a b c f g =
    record {
      number = g.number ∙ f.number;
      between = f.between ++ g.between;
      seen = g.seen ∙ ap (λ es. es ++ g.between) f.seen ∙ append_assoc a.seen f.between g.between;
      mine = g.mine ∙ f.mine;
      notes = g.notes ∙ f.notes;
    }

-- a seat that was refused, and then had its effect
pub adds_then : (a b c : Known) (e e' : Entry) → e ≡ e' → SeesMore a b → Adds b e c → Adds a e' c
adds_then a b c e e' same f g =
    record {
      number = g.number ∙ f.number;
      between = f.between ++ g.between;
      seen = g.seen ∙ (λ i. (f.seen i ++ g.between) ++ same i ∷ []) ∙ ap (λ es. es ++ e' ∷ []) (append_assoc a.seen f.between g.between);
      mine = g.mine ∙ (λ i. f.mine i ++ same i ∷ []);
      notes = g.notes ∙ f.notes;
    }

-- a seat that was refused, and then found the queue empty
pub empty_then : (a b c : Known) → SeesMore a b → FoundEmpty b c → FoundEmpty a c
empty_then a b c f g =
    record {
      number = g.number ∙ f.number;
      between = f.between ++ g.between;
      seen = g.seen ∙ ap (λ es. es ++ g.between) f.seen ∙ append_assoc a.seen f.between g.between;
      empty = g.empty;
      mine = g.mine ∙ f.mine;
      notes = g.notes ∙ ap (λ ns. ns ++ length c.seen ∷ []) f.notes;
    }

-- a seat that was refused, and then found the queue shut
shut_then : (a b c : Known) → SeesMore a b → FoundShut b c → FoundShut a c
shut_then a b c f g =
    record {
      number = g.number ∙ f.number;
      between = f.between ++ g.between;
      seen = g.seen ∙ ap (λ es. es ++ g.between) f.seen ∙ append_assoc a.seen f.between g.between;
      shut = g.shut;
      mine = g.mine ∙ f.mine;
      notes = g.notes ∙ ap (λ ns. ns ++ length c.seen ∷ []) f.notes;
    }

-- or shut and empty
shut_empty_then : (a b c : Known) → SeesMore a b → FoundShutEmpty b c → FoundShutEmpty a c
shut_empty_then a b c f g =
    record {
      number = g.number ∙ f.number;
      between = f.between ++ g.between;
      seen = g.seen ∙ ap (λ es. es ++ g.between) f.seen ∙ append_assoc a.seen f.between g.between;
      empty = g.empty;
      mine = g.mine ∙ f.mine;
      notes = g.notes ∙ ap (λ ns. ns ++ length c.seen ∷ []) f.notes;
    }

-- a seat that was refused, and then was refused a push
pub push_refused_then : (a b c : Known) (refusal : Refusal) → SeesMore a b → PushRefused b refusal c → PushRefused a refusal c
push_refused_then a b c Closed f g = shut_then a b c f g
push_refused_then a b c _ f g = sees_then a b c f g

-- or a pop
pub pop_refused_then : (a b c : Known) (refusal : Refusal) → SeesMore a b → PopRefused b refusal c → PopRefused a refusal c
pop_refused_then a b c Closed f g = shut_empty_then a b c f g
pop_refused_then a b c _ f g = sees_then a b c f g

-- a seat that was refused, and then was answered by a pop
pub answers_then : (a b c : Known) (taken : Option Taken) → SeesMore a b → PopAnswers b taken c → PopAnswers a taken c
answers_then a b c None f g = empty_then a b c f g
answers_then a b c (Some v) f g = adds_then a b c (Pop b.number v) (Pop a.number v) (ap (λ n. Pop n v) f.number) f g
