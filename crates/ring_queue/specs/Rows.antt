-- The rows of the lines: which access a seat may make by where it stands, and where it stands then.
use Rattle.std.specs.Prelude.{◌≡◌, ◌≢◌, ◌⊎◌, bit_or, ℕ, ◌+◌, ◌/◌, ◌%◌, ◌^◌, ◌<◌, ◌≤◌, List, [], ◌∷◌, ◌++◌, length, map, Option, Some}
use Rattle.history.specs.declared.operations.Entry.{Entry}
use Rattle.history.specs.declared.operations.Entry.TheVariants.{Push, Pop, Shut}
use Rattle.history.specs.declared.operations.Taken.{Taken}
use Rattle.ring_queue.specs.Words.{parity, face, slot_word}
use Rattle.ring_queue.specs.Plans.{Layout}
use Rattle.ring_queue.specs.Paths.{Line, C1, C2, C3, C4, P1, P2, P3, P4, P5, S10, Event, reading, writing}
use Rattle.ring_queue.specs.Knowledge.{Stage, rests, claimed, found, unfilled, head_due, standing, SeatView}

-- a seat in no call: it has no place to fill
abbrev pub Rests : Stage → Type 0
Rests (claimed p xs) = ⊥
Rests rests = Unit {0}
Rests (found ws) = Unit {0}
Rests unfilled = Unit {0}
Rests head_due = Unit {0}

-- the value that a word says
abbrev pub taken_in : ℕ → Taken
taken_in w = record { from = w % 2 ^ 63 / 2 ^ 48; body = w % 2 ^ 63 % 2 ^ 48 }

-- what places are filled with that a seat claimed for these bodies
abbrev pub contents : (number : ℕ) → (bodies : List ℕ) → List (Option Taken)
contents number bodies = map (λ b. Some (record { from = number; body = b })) bodies

-- the pushes of these bodies
abbrev pub pushes : (number : ℕ) → (bodies : List ℕ) → List Entry
pushes number bodies = map (λ b. Push number b) bodies

-- the pops of the values that these words say
abbrev pub pops : (number : ℕ) → (words : List ℕ) → List Entry
pops number words = map (λ w. Pop number (taken_in w)) words

-- what a seat's next access hangs on: where it stands, its head, and its tail
pub record Regs : Type 0 where
  pub at : Stage
  pub head : ℕ
  pub tail : ℕ

-- those of a seat
abbrev pub regs : SeatView → Regs
regs v = record { at = v.stage; head = v.head; tail = v.tail }

-- at the start
abbrev pub first_regs : (slots : ℕ) → Regs
first_regs slots = record { at = rests; head = slots; tail = slots }

-- the line at which a seat reads Head, by where it stands: of a pop whose place was claimed, or else of a push or a look
abbrev pub head_line : Stage → Line
head_line head_due = P1
head_line rests = C2
head_line (claimed p xs) = C2
head_line (found ws) = C2
head_line unfilled = C2

-- by its head and its tail, a seat that claims so many places has room for them, and goes no further than the limit
pub record HasRoom (z : Layout) (head tail count : ℕ) : Type 0 where
  pub some : 1 ≤ count
  pub room : tail + count ≤ head + z.most
  pub within : tail + count ≤ z.limit

-- a seat of a number makes an access, by its row: from where it stands, to where it then stands. Neither Head nor Tail is found below
-- where the seat had it
pub data Goes (z : Layout) (me : ℕ) (a : Regs) (e : Event) (b : Regs) : Type 0 where
  -- C1: Tail is read
  reads_tail : (n : ℕ) → Rests a.at → a.tail ≤ n % 2 ^ 62 → e ≡ reading C1 0 n → b ≡ record a { at = rests; tail = n % 2 ^ 62 } → Goes z me a e b
  -- C2, P1: Head is read
  reads_head : (n : ℕ) → Rests a.at → a.head ≤ n → e ≡ reading (head_line a.at) 16 n → b ≡ record a { at = rests; head = n } → Goes z me a e b
  -- C3: Tail is at the seat's tail, and as many places are claimed as there are bodies: their pushes take effect; or others had
  -- claimed places, or shut the queue
  claims : (n : ℕ) (bodies : List ℕ) → Rests a.at → HasRoom z a.head a.tail (length bodies) → n ≡ a.tail → e ≡ writing C3 0 n (n + length bodies) (pushes me bodies)
      → b ≡ record a { at = claimed n (contents me bodies); tail = n + length bodies } → Goes z me a e b
  loses_place : (n count : ℕ) → Rests a.at → HasRoom z a.head a.tail count → n ≢ a.tail → a.tail ≤ n % 2 ^ 62 → e ≡ reading C3 0 n → b ≡ record a { at = rests; tail = n % 2 ^ 62 } → Goes z me a e b
  -- C4: the first of the places is filled
  fills : (n p : ℕ) (x : Option Taken) (xs : List (Option Taken)) → a.at ≡ claimed p (x ∷ xs) → e ≡ writing C4 (slot_word (p % z.slots)) n (face z.slots p x) []
      → b ≡ record a { at = standing (p + 1) xs } → Goes z me a e b
  -- P2: the word at the place of the seat's head is read
  finds_filled : (n : ℕ) → Rests a.at → n / 2 ^ 63 ≡ parity z.slots a.head → e ≡ reading P2 (slot_word (a.head % z.slots)) n → b ≡ record a { at = found (n ∷ []) } → Goes z me a e b
  finds_late : (n : ℕ) → Rests a.at → n / 2 ^ 63 ≢ parity z.slots a.head → e ≡ reading P2 (slot_word (a.head % z.slots)) n → b ≡ record a { at = unfilled } → Goes z me a e b
  -- P5: the word behind those found is read
  finds_next : (n : ℕ) (ws : List ℕ) → a.at ≡ found ws → n / 2 ^ 63 ≡ parity z.slots (a.head + length ws) → e ≡ reading P5 (slot_word ((a.head + length ws) % z.slots)) n
      → b ≡ record a { at = found (ws ++ n ∷ []) } → Goes z me a e b
  finds_no_next : (n : ℕ) (ws : List ℕ) → a.at ≡ found ws → n / 2 ^ 63 ≢ parity z.slots (a.head + length ws) → e ≡ reading P5 (slot_word ((a.head + length ws) % z.slots)) n
      → b ≡ record a { at = found ws } → Goes z me a e b
  -- P3: Head is raised by as many places as words were found, and the pops take effect; or another had raised it
  takes : (n : ℕ) (ws : List ℕ) → a.at ≡ found ws → 1 ≤ length ws → n ≡ a.head → e ≡ writing P3 16 n (n + length ws) (pops me ws) → b ≡ record a { at = rests; head = n + length ws } → Goes z me a e b
  loses : (n : ℕ) (ws : List ℕ) → a.at ≡ found ws → n ≢ a.head → a.head ≤ n → e ≡ reading P3 16 n → b ≡ record a { at = rests; head = n } → Goes z me a e b
  -- P4: Tail is read, where the place wasn't filled: the queue is empty, or the place was claimed
  finds_end : (n : ℕ) → a.at ≡ unfilled → (n ≡ a.head) ⊎ (n ≡ a.head + 2 ^ 62) → e ≡ reading P4 0 n → b ≡ record a { at = rests } → Goes z me a e b
  finds_ahead : (n : ℕ) → a.at ≡ unfilled → n ≢ a.head → n ≢ a.head + 2 ^ 62 → e ≡ reading P4 0 n → b ≡ record a { at = head_due } → Goes z me a e b
  -- S10: the bit of the shut is set
  shuts : (n : ℕ) → Rests a.at → n < 2 ^ 62 → e ≡ writing S10 0 n (bit_or n (2 ^ 62)) (Shut me ∷ []) → b ≡ record a { at = rests } → Goes z me a e b
  was_shut : (n : ℕ) → Rests a.at → 2 ^ 62 ≤ n → e ≡ writing S10 0 n (bit_or n (2 ^ 62)) [] → b ≡ record a { at = rests } → Goes z me a e b

-- accesses of a seat, each by its row, from one stand to another
abbrev pub Walks : Layout → (me : ℕ) → Regs → List Event → Regs → Type 0
Walks z me a [] b = a ≡ b
Walks z me a (e ∷ es) b = (c : Regs) × Goes z me a e c × Walks z me c es b
