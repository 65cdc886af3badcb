-- Who hands out the tasks goes on.
use Rattle.std.proofs.Common.{◌≡◌, ◌∙◌, sym, refl, subst, ℕ, List, []}
use Rattle.history.specs.Seats.{Permit, MayPush, MayPop}
use Rattle.carriers.specs.Knowledge.{KnownOf}
use Rattle.tasks.specs.declared.answers.Done.{Done}
use Rattle.tasks.specs.declared.runs.Numbered.{Numbered}
use Rattle.tasks.specs.declared.leader.Leader.{Leader}
use Rattle.tasks.proofs.Handing.{leads_none}
use Rattle.tasks.specs.Leaders.{LeadsSo, IsLeading, GoesOn}

module _ {Q S V U T A F : Type 0} (is_seat : Q → S → Type 0) (permits : Q → List Permit) (known : S → KnownOf (Numbered T))
    (is_seat' : V → U → Type 0) (permits' : V → List Permit) (known' : U → KnownOf (Done A))
    (answers : T → A → Type 0) (stands : F → List T → List (Done A) → Type 0) (queue : Q) (results : V) where
  abbrev Goes : Leader S U F → Leader S U F → Type 0
  Goes = GoesOn is_seat permits known is_seat' permits' known' answers stands queue results

  pub goes_same : (l : Leader S U F) → IsLeading is_seat permits known is_seat' permits' known' answers stands queue results l → Goes l l
  goes_same l h = record { leading = h; tasks_number = refl; results_number = refl }

  pub goes_on : (l l1 l2 : Leader S U F) → Goes l l1 → Goes l1 l2 → Goes l l2
  goes_on l l1 l2 h k = record { leading = k.leading; tasks_number = k.tasks_number ∙ h.tasks_number; results_number = k.results_number ∙ h.results_number }

  module _ (l : Leader S U F) (h : IsLeading is_seat permits known is_seat' permits' known' answers stands queue results l) where
    -- its seat of the queue of results made a call
    pub goes_results : (u : U) (feed : F) (awaited : ℕ) → is_seat' results u → (known' u).number ≡ (known' l.results).number → LeadsSo answers (stands feed) (known l.tasks) (known' u) l.given awaited
        → Goes l (record { tasks = l.tasks; results = u; feed = feed; given = l.given; awaited = awaited })
    goes_results u feed awaited seat number so =
        record {
          leading = record {
            seats = record {
              tasks_seat = h.seats.tasks_seat;
              may_give = h.seats.may_give;
              may_help = h.seats.may_help;
              results_seat = seat;
              may_take = subst (MayPop (permits' results)) (sym number) h.seats.may_take;
            };
            so = so;
          };
          tasks_number = refl;
          results_number = number;
        }

    -- its seat of the queue of tasks made a call
    pub goes_tasks : (s : S) (feed : F) (given awaited : ℕ) → is_seat queue s → (known s).number ≡ (known l.tasks).number → LeadsSo answers (stands feed) (known s) (known' l.results) given awaited
        → Goes l (record { tasks = s; results = l.results; feed = feed; given = given; awaited = awaited })
    goes_tasks s feed given awaited seat number so =
        record {
          leading = record {
            seats = record {
              tasks_seat = seat;
              may_give = subst (MayPush (permits queue)) (sym number) h.seats.may_give;
              may_help = subst (MayPop (permits queue)) (sym number) h.seats.may_help;
              results_seat = h.seats.results_seat;
              may_take = h.seats.may_take;
            };
            so = so;
          };
          tasks_number = number;
          results_number = refl;
        }

  -- it begins with new seats
  pub begins : (s : S) (u : U) (feed : F) → is_seat queue s → MayPush (permits queue) (known s).number × MayPop (permits queue) (known s).number → (known s).mine ≡ []
      → is_seat' results u → MayPush (permits' results) (known' u).number × MayPop (permits' results) (known' u).number → (known' u).mine ≡ [] → stands feed [] []
      → IsLeading is_seat permits known is_seat' permits' known' answers stands queue results (record { tasks = s; results = u; feed = feed; given = 0; awaited = 0 })
  begins s u feed here may new here' may' new' so =
      record {
        seats = record { tasks_seat = here; may_give = may.0; may_help = may.1; results_seat = here'; may_take = may'.1 };
        so = leads_none answers (stands feed) (known s) (known' u) new new' so;
      }
