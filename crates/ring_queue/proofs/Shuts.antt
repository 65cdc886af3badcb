-- A seat shuts the queue.
use Rattle.std.proofs.Common.{◌≡◌, ℕ, ◌+◌, ◌^◌, ◌<◌, Bool, true, false, bit_or, inl, inr, List, [], ◌∷◌, ◌++◌, length, get_or, set, sym, refl, ap, ◌∙◌, subst, arith, append-nil}
use Rattle.std.proofs.lemmas.List.{set-get_or}
use Rattle.history.specs.declared.operations.Entry.{Entry}
use Rattle.history.specs.declared.operations.Entry.TheVariants.{Shut}
use Rattle.history.specs.Entries.{Leads, LeadsToShut, own_entries}
use Rattle.history.specs.Seats.{IsNoted, IsPermitted}
use Rattle.ring_queue.specs.Words.{tail_word}
use Rattle.ring_queue.specs.Plans.{Layout, permits_of}
use Rattle.ring_queue.specs.Paths.{S10, writing, Step, Ran, accessed, added_by}
use Rattle.ring_queue.specs.Rows.{was_shut, shuts as row_shuts}
use Rattle.ring_queue.specs.Knowledge.{rests, SeatView}
use Rattle.ring_queue.specs.Rule.{SeatOk, put, Ring}
use Rattle.ring_queue.specs.Steps.{Rests, ShutMade}
use Rattle.ring_queue.proofs.Histories.{own_one, all_noted_more, noted_shut, all_one_note}
use Rattle.ring_queue.proofs.Keeps.{Became, shuts}
use Rattle.ring_queue.proofs.Tables.{Extends, adds_none, it_fits, notes_stay, saw_all, looks, learns, runs_on, sees_on}
use Rattle.ring_queue.proofs.Bits.{bit_set, bit_stays}

module _ (z : Layout) (words : List ℕ) (seats : ℕ → SeatView) (r : Ring z words seats) (v : SeatView) (is : seats v.number ≡ v)
    (run : List Step) (whole : r.history ≡ added_by run) (knew : Ran run v.number v.ran) where
  fit : SeatOk z r.head r.tail r.log r.cells r.history v.number v
  fit = it_fits z words seats r v is

  abbrev n : ℕ
  n = get_or words 0 0

  abbrev Line : Type 0
  Line = (v' : SeatView) × (v'.number ≡ v.number) × (r' : Ring z (set words 0 (bit_or n (2 ^ 62))) (put seats v.number v')) × Extends run (Shut v.number ∷ []) r.history v r'.history v' × ShutMade z v n v'

  -- the queue is shut
  pub shuts_queue : Rests v.stage → IsPermitted (permits_of z) (Shut v.number) → Line
  shuts_queue rested permit = go r.shut refl
    where
      tail_small : r.tail < 2 ^ 62
      tail_small = let a = r.limited in let b = r.planned in let c = b.limited in omega (arith, a, c)

      go : (b : Bool) → r.shut ≡ b → Line
      go true f =
          let is_n : n ≡ r.tail + 2 ^ 62 = r.tail_is ∙ ap (tail_word r.tail) f in
          let leads : LeadsToShut r.history = (r.values, subst (λ b. Leads r.history b r.values) f r.leads) in
          let notes : List ℕ = v.notes ++ length r.history ∷ [] in
          let v' : SeatView = record v { stage = rests; seen = r.history; notes = notes; ran = accessed run v.number (writing S10 0 n (bit_or n (2 ^ 62)) []) } in
          let noted = all_one_note (IsNoted r.history) v.notes (length r.history) (notes_stay z words seats r v is) (noted_shut r.history leads) in
          let ok = saw_all z words seats r v is v' refl refl refl noted fit.behind fit.under tt in
          let same : bit_or n (2 ^ 62) ≡ n = ap (λ x. bit_or x (2 ^ 62)) is_n ∙ (bit_stays r.tail tail_small ∙ sym is_n) in
          let made : Became z (set words 0 (bit_or n (2 ^ 62))) (put seats v.number v') r.history =
          subst (λ ws. Became z ws (put seats v.number v') r.history) (sym (ap (set words 0) same ∙ set-get_or words 0 0)) (looks z words seats r v is v' rested ok) in (
            v',
            refl,
            made.0,
            adds_none run (Shut v.number ∷ []) r.history v made.0.history v' (writing S10 0 n (bit_or n (2 ^ 62)) []) made.1 refl refl refl,
            record {
              learns = learns z (set words 0 (bit_or n (2 ^ 62))) seats v v' refl made.0;
              head = refl;
              tail = refl;
              rests = tt;
              did = λ lt. absurd (omega (arith, lt, is_n));
              went_open = λ lt. absurd (omega (arith, lt, is_n));
              went_shut = λ big. (
                runs_on run v.number v.ran knew (writing S10 0 n (bit_or n (2 ^ 62)) []),
                sym (append-nil v.mine),
                was_shut n rested big refl refl,
                λ _. sym (append-nil r.history) ∙ sees_on run r.history whole v.number (writing S10 0 n (bit_or n (2 ^ 62)) []),
              );
              was = λ _. record { number = refl; between = fit.rest; seen = fit.begins; shut = leads; mine = refl; notes = refl };
            },
          )
      go false f =
          let is_n : n ≡ r.tail = r.tail_is ∙ ap (tail_word r.tail) f in
          let e : Entry = Shut v.number in
          let v' : SeatView = record v { stage = rests; seen = r.history ++ e ∷ []; mine = v.mine ++ e ∷ []; ran = accessed run v.number (writing S10 0 n (bit_or n (2 ^ 62)) (e ∷ [])) } in
          let own : own_entries v.number (r.history ++ e ∷ []) ≡ v.mine ++ e ∷ [] = own_one v.number r.history e refl ∙ ap (λ es. es ++ e ∷ []) fit.own in
          let made = shuts z words seats r v.number v' (subst (λ (u : SeatView). Rests u.stage) (sym is) rested) f permit (record {
            number = refl;
            behind = fit.behind;
            under = fit.under;
            rest = [];
            begins = sym (append-nil (r.history ++ e ∷ []));
            own = own;
            known = own;
            noted = all_noted_more r.history (e ∷ []) v.notes (notes_stay z words seats r v is);
            stage = tt;
          }) in
          let made' : Became z (set words 0 (bit_or n (2 ^ 62))) (put seats v.number v') (r.history ++ e ∷ []) =
          subst (λ w. Became z (set words 0 w) (put seats v.number v') (r.history ++ e ∷ [])) (sym (ap (λ x. bit_or x (2 ^ 62)) is_n ∙ bit_set r.tail tail_small)) made in (
            v',
            refl,
            made'.0,
            record { added = e ∷ []; which = inr refl; grown = made'.1; own = refl; seen = inl (sym made'.1); event = writing S10 0 n (bit_or n (2 ^ 62)) (e ∷ []); ran = refl },
            record {
              learns = learns z (set words 0 (bit_or n (2 ^ 62))) seats v v' refl made'.0;
              head = refl;
              tail = refl;
              rests = tt;
              did = λ _. record { number = refl; between = fit.rest; seen = ap (λ h. h ++ e ∷ []) fit.begins; mine = refl; notes = refl };
              went_open = λ lt. (
                runs_on run v.number v.ran knew (writing S10 0 n (bit_or n (2 ^ 62)) (e ∷ [])),
                refl,
                row_shuts n rested lt refl refl,
                λ _. sees_on run r.history whole v.number (writing S10 0 n (bit_or n (2 ^ 62)) (e ∷ [])),
              );
              went_shut = λ le. absurd (let t = tail_small in omega (arith, le, is_n, t));
              was = λ le. absurd (let t = tail_small in omega (arith, le, is_n, t));
            },
          )
