-- What calls of many values answer.
use Rattle.std.specs.Prelude.{◌≡◌, ℕ, zero, suc, ◌+◌, ◌<◌, ◌≤◌, false, true, List, ◌++◌, length, map, take, drop, get_or, Option, Some, None, Result, Ok, Err}
use Rattle.history.specs.declared.operations.Entry.{Entry}
use Rattle.history.specs.declared.operations.Entry.TheVariants.{Push, Pop}
use Rattle.history.specs.declared.operations.Taken.{Taken}
use Rattle.history.specs.Seats.{Known}
use Rattle.history.specs.Answers.{FoundEmpty}
use Rattle.msq_c.specs.declared.seat_blocks.SeatBlock.{SeatBlock}
use Rattle.msq_c.specs.declared.handles.MsqSeat.{MsqSeat}
use Rattle.msq_c.specs.declared.values.MsqValue.{MsqValue}
use Rattle.msq_c.specs.declared.troubles.Trouble.{Trouble}
use Rattle.msq_c.specs.Blocks.{queue_in, known_in, RefusesPush, RefusesPop}
use Rattle.msq_c.specs.Seats.{is_full, block_at, KeepsHandle, NeedsHandle}
use Rattle.msq_c.specs.Values.{value_of}

-- a seat made these entries, in this order, and no others; those of other seats may have come between
pub record Makes (k : Known) (es : List Entry) (k' : Known) : Type 0 where
  pub number : k'.number ≡ k.number
  pub between : List Entry
  pub seen : k'.seen ≡ k.seen ++ between
  pub mine : k'.mine ≡ k.mine ++ es
  pub notes : k'.notes ≡ k.notes

-- the pushes of these bodies
abbrev pub pushes : (number : ℕ) → (bodies : List ℕ) → List Entry
pushes number bodies = map (λ b. Push number b) bodies

-- the pops of these values
abbrev pub pops : (number : ℕ) → (values : List Taken) → List Entry
pops number values = map (λ v. Pop number v) values

-- the first ones of these bodies were pushed, so many of them, one at least
pub record PushesFirst (k : Known) (bodies : List ℕ) (k' : Known) (count : ℕ) : Type 0 where
  pub some : 1 ≤ count
  pub few : count ≤ length bodies
  pub makes : Makes k (pushes k.number (take count bodies)) k'

-- the seat that was before a call of many ended: by then the first ones of these bodies were pushed, so many of them
pub record PushedSo (s : SeatBlock) (bodies : List ℕ) (count : ℕ) (last : SeatBlock) : Type 0 where
  pub queue : queue_in last ≡ queue_in s
  pub few : count ≤ length bodies
  pub makes : Makes (known_in s) (pushes (known_in s).number (take count bodies)) (known_in last)

-- how a push of many ends: all were pushed, or the next one is refused, as a push of it is
abbrev pub EndsPushes : (last t : SeatBlock) (bodies : List ℕ) (turns count : ℕ) → Result (Unit {0}) Trouble → Type 0
EndsPushes last t bodies turns count (Ok x) = (count ≡ length bodies) × (t ≡ last)
EndsPushes last t bodies turns count (Err refusal) = (count < length bodies) × RefusesPush last t (get_or bodies count 0) turns refusal

-- a push of many pushed so many of these bodies, the first ones in their order, until it ended so
pub record PushesAll (s t : SeatBlock) (bodies : List ℕ) (turns count : ℕ) (out : Result (Unit {0}) Trouble) : Type 0 where
  pub last : SeatBlock
  pub pushed : PushedSo s bodies count last
  pub ends : EndsPushes last t bodies turns count out

-- what a push of many by a handle answers, and tells to have been pushed
pub record AnswersPushAll (h h' : MsqSeat) (bodies : List ℕ) (turns count : ℕ) (out : Result (Unit {0}) Trouble) : Type 0 where
  pub keeps : KeepsHandle h h'
  pub empty : NeedsHandle h out
  pub none : is_full h ≡ false → (count ≡ 0) × (h' ≡ h)
  pub pushed : is_full h ≡ true → PushesAll (block_at h) (block_at h') bodies turns count out

-- a list whose places from one on have these values, and whose others are as before
abbrev pub laid : {A : Type 0} (from : ℕ) (xs vs : List A) → List A
laid from xs vs = take from vs ++ (xs ++ drop (from + length xs) vs)

-- so many values were popped, and written into the places from one on
pub record PoppedFrom (k : Known) (from : ℕ) (vs vs' : List MsqValue) (k' : Known) (count : ℕ) : Type 0 where
  pub values : List Taken
  pub long : length values ≡ count
  pub few : from + count ≤ length vs
  pub makes : Makes k (pops k.number values) k'
  pub written : vs' ≡ laid from (map value_of values) vs

-- the queue was found empty, and nothing was written; or so many values were popped
abbrev pub PopsFrom : (k : Known) (from : ℕ) (vs vs' : List MsqValue) (k' : Known) (count : ℕ) → Type 0
PopsFrom k from vs vs' k' zero = (vs' ≡ vs) × FoundEmpty k k'
PopsFrom k from vs vs' k' (suc n) = PoppedFrom k from vs vs' k' (suc n)

-- the seat that was before a call of many ended: by then so many values had been popped, and were written from the front
pub record PoppedSo (s : SeatBlock) (vs vs' : List MsqValue) (count : ℕ) (last : SeatBlock) : Type 0 where
  pub queue : queue_in last ≡ queue_in s
  pub values : List Taken
  pub long : length values ≡ count
  pub few : count ≤ length vs
  pub makes : Makes (known_in s) (pops (known_in s).number values) (known_in last)
  pub written : vs' ≡ map value_of values ++ drop count vs

-- how a pop of many ends: there is no more room, the queue was found empty, or a pop is refused
abbrev pub EndsPops : (last t : SeatBlock) (vs : List MsqValue) (turns count : ℕ) → Result (Option (Unit {0})) Trouble → Type 0
EndsPops last t vs turns count (Ok (Some x)) = (count ≡ length vs) × (t ≡ last)
EndsPops last t vs turns count (Ok None) = (count < length vs) × FoundEmpty (known_in last) (known_in t)
EndsPops last t vs turns count (Err refusal) = (count < length vs) × RefusesPop last t turns refusal

-- a pop of many popped so many values, and wrote them, until it ended so
pub record PopsUpTo (s t : SeatBlock) (vs vs' : List MsqValue) (turns count : ℕ) (out : Result (Option (Unit {0})) Trouble) : Type 0 where
  pub last : SeatBlock
  pub popped : PoppedSo s vs vs' count last
  pub ends : EndsPops last t vs turns count out

-- what a pop of many by a handle answers, and tells to have been popped
pub record AnswersPopUpTo (h h' : MsqSeat) (vs vs' : List MsqValue) (turns count : ℕ) (out : Result (Option (Unit {0})) Trouble) : Type 0 where
  pub keeps : KeepsHandle h h'
  pub empty : NeedsHandle h out
  pub none : is_full h ≡ false → (count ≡ 0) × (h' ≡ h) × (vs' ≡ vs)
  pub popped : is_full h ≡ true → PopsUpTo (block_at h) (block_at h') vs vs' turns count out
