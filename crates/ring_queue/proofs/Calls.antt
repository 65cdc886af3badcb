-- What the lines ask of the table, and what they answer.
use Rattle.std.proofs.Common.{◌≡◌, ℕ, ◌+◌, ◌-◌, ◌%◌, length, ◌<◌, ◌≤◌, List, [], ◌∷◌, get_or, set, Option, sym, subst, arith}
use Rattle.std.proofs.lemmas.List.{set-get_or}
use Rattle.std.proofs.lemmas.Option.{slice_get_within}
use Rattle.atomic_table.specs.Seated.{TableId}
use Rattle.ring_queue.specs.declared.seats.Seat.{Seat}
use Rattle.history.specs.declared.operations.Entry.{Entry}
use Rattle.history.specs.declared.operations.Taken.{Taken}
use Rattle.ring_queue.specs.Words.{face, slot_word}
use Rattle.ring_queue.specs.Plans.{Layout}
use Rattle.ring_queue.specs.Knowledge.{SeatView, claimed, found}
use Rattle.ring_queue.specs.Rule.{put, Ring}
use Rattle.ring_queue.specs.Steps.{Rests, PlaceFilled, FrontFound, NextFound}
use Rattle.ring_queue.specs.Paths.{Step, Ran, added_by}
use Rattle.ring_queue.specs.Seats.{view, Sits}
use Rattle.ring_queue.proofs.Tables.{Extends}
use Rattle.ring_queue.proofs.Lines.{reads_front, reads_next}
use Rattle.ring_queue.proofs.Fills.{fills_place}

-- what a line does to any ring of which the seat is one
abbrev pub Does : (z : Layout) (i : ℕ) (v : SeatView) (f : ℕ → ℕ) → (all : List Entry) → (SeatView → ℕ → SeatView → Type 0) → Type 0
Does z i v f all fact = (words : List ℕ) (seats : ℕ → SeatView) (r : Ring z words seats) → seats v.number ≡ v → (run : List Step) → r.history ≡ added_by run → Ran run v.number v.ran
    → (v' : SeatView) × (v'.number ≡ v.number) × (r' : Ring z (set words i (f (get_or words i 0))) (put seats v.number v')) × Extends run all r.history v r'.history v' × fact v (get_or words i 0) v'

-- the same of a line that writes what it found
pub reads : (z : Layout) (i : ℕ) (v : SeatView) (fact : SeatView → ℕ → SeatView → Type 0)
    → ((words : List ℕ) (seats : ℕ → SeatView) (r : Ring z words seats) → seats v.number ≡ v → (run : List Step) → r.history ≡ added_by run → Ran run v.number v.ran → (v' : SeatView) × (v'.number ≡ v.number)
    × (r' : Ring z words (put seats v.number v')) × Extends run [] r.history v r'.history v' × fact v (get_or words i 0) v')
    → Does z i v (λ n. n) [] fact
reads z i v fact line words seats r is run whole knew =
    let q = line words seats r is run whole knew in
    let same = subst (λ ws. (r' : Ring z ws (put seats v.number q.0)) × Extends run [] r.history v r'.history q.0) (sym (set-get_or words i 0)) (q.2, q.3) in
    (q.0, q.1, same.0, same.1, q.4)

-- a seat's number is that of a role
pub numbered : {T : Type 0} (z : Layout) (t : TableId) (s : Seat T) → Sits z t s → (1 ≤ (view s).number) × ((view s).number ≤ length z.roles)
numbered z t s h =
    let lt : s.number - 1 < length z.roles = slice_get_within z.roles (s.number - 1) s.role h.role in
    let from = h.from in
    let e = h.number in
    (omega (arith, from, e), omega (arith, from, e, lt))

-- the line that fills a place, at the names of a call
pub fills_there : (z : Layout) (v : SeatView) (p : ℕ) (x : Option Taken) (xs : List (Option Taken)) (i w : ℕ) → v.stage ≡ claimed p (x ∷ xs) → i ≡ slot_word (p % z.slots) → w ≡ face z.slots p x
    → Does z i v (λ _. w) [] (PlaceFilled z i w)
fills_there z v p x xs i w at there is words seats r who run whole knew =
    subst (λ (y : ℕ × ℕ). (v' : SeatView) × (v'.number ≡ v.number) × (r' : Ring z (set words y.0 y.1) (put seats v.number v'))
    × Extends run [] r.history v r'.history v' × PlaceFilled z y.0 y.1 v (get_or words y.0 0) v') (λ c. (sym there c, sym is c))
    (fills_place z words seats r v who run whole knew p x xs at)

-- the line that reads the word at the seat's head, at the names of a call
pub fronts_there : (z : Layout) (v : SeatView) (i : ℕ) → Rests v.stage → i ≡ slot_word (v.head % z.slots) → Does z i v (λ n. n) [] (FrontFound z)
fronts_there z v i rested there = subst (λ j. Does z j v (λ n. n) [] (FrontFound z)) (sym there)
    (reads z (slot_word (v.head % z.slots)) v (FrontFound z) (λ words seats r who run whole knew. reads_front z words seats r v who run whole knew rested))

-- the line that reads the next word, at the names of a call
pub nexts_there : (z : Layout) (v : SeatView) (i : ℕ) (ws : List ℕ) → Rests v.stage → v.stage ≡ found ws → length ws < z.slots
    → i ≡ slot_word ((v.head + length ws) % z.slots) → Does z i v (λ n. n) [] (NextFound z ws)
nexts_there z v i ws rested at few there =
    subst (λ j. Does z j v (λ n. n) [] (NextFound z ws)) (sym there) (reads z (slot_word ((v.head + length ws) % z.slots)) v (NextFound z ws)
    (λ words seats r who run whole knew. reads_next z words seats r v who run whole knew rested ws at few))
