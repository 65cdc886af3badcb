-- What each thing that a caller does makes of it, and what that is at each bell of its queue.
use Rattle.std.proofs.Common.{◌≡◌, ℕ, suc, ◌+◌, Bool, true, false, ◌||◌, ◌&&◌, not, nat_lt, if◌then◌else◌, sym, true≢false, arith}
use Rattle.calls.specs.declared.calls.Task.{Task}
use Rattle.calls.specs.declared.calls.Task.TheVariants.{Push}
use Rattle.calls.specs.declared.calls.Bell.TheVariants.{Values, Room}
use Rattle.calls.specs.declared.calls.Code.{Code}
use Rattle.calls.specs.declared.calls.Code.TheVariants as code
use Rattle.calls.specs.declared.calls.Phase.{Phase}
use Rattle.calls.specs.declared.calls.Seen.{Seen}
use Rattle.calls.specs.declared.calls.Seen.TheVariants as seen
use Rattle.calls.specs.Machine.{After, started, awaited_by, access_of, advanced, given_up}
use Rattle.calls.specs.Accesses.{Words, words, side, values_ended, room_ended, shut_words, rings_of, held_in, Sees, look_is_busy, has_ended_and_is_empty, takes, pops, puts, counts_at_values, counts_at_room, uncounts_at_values, uncounts_at_room, hears, somebody, rings_values, rings_room, last_sender, tells_of_shut, gives}
use Rattle.calls.specs.Callers.{Doing, Steps, Told, Sleeping, Read, Caller, caller, after, has_finished, looks_for_values, looks_for_room, ends_queue, is_ready, read_by, heard_by, may_give_up, Does}
use Rattle.calls.specs.Callers as does
use Rattle.calls.specs.Stances.{stance_to, bell_in}
use Rattle.calls.specs.Queues.{in_hand}
use Rattle.calls.proofs.Paths.{Path, paths}
use Rattle.calls.proofs.Sound.{Sound, SoundAt, Dues, dues, Others, call_of, others, sounds, listening, hearing, giving_next, giving, drops_sender, waking_first, waking_last, for_value, for_room, pushes, pops as is_pop, shuts, looking, reading, looking_again, reading_again, told, sleeping, slept, ringing, ringing_next, adding, finished, ending}

-- what holds of a caller after it did something: it comes to be, it made steps at both bells, and no place was lost or won
pub record Goes (w : Words) (x : Caller) (w' : Words) (x' : Caller) : Type 0 where
  pub sound : Sound x'
  pub values : Path (bell_in Values w) (stance_to Values x) (bell_in Values w') (stance_to Values x')
  pub room : Path (bell_in Room w) (stance_to Room x) (bell_in Room w') (stance_to Room x')
  pub places : held_in w + in_hand x ≡ held_in w' + in_hand x'

so : {w w' : Words} {x x' : Caller} → Sound x' → Path (bell_in Values w) (stance_to Values x) (bell_in Values w') (stance_to Values x')
    → Path (bell_in Room w) (stance_to Room x) (bell_in Room w') (stance_to Room x') → held_in w + in_hand x ≡ held_in w' + in_hand x'
    → Goes w x w' x'
so s v r p = record { sound = s; values = v; room = r; places = p }

-- it doesn't do that
never : {w w' : Words} {x x' : Caller} → false ≡ true → Goes w x w' x'
never h = absurd (true≢false (sym h))

-- it goes one way or the other
either : {w w' : Words} {x : Caller} (a b : After) (h : ℕ) (t : Bool) → Goes w x w' (after a h) → Goes w x w' (after b h)
    → Goes w x w' (after (if t then a else b) h)
either a b h true p q = p
either a b h false p q = q

-- places that change hands
takes_room : (v m : ℕ) → v + suc m + 0 ≡ v + m + 1
takes_room v m = omega arith

takes_value : (v m : ℕ) → suc v + m + 0 ≡ v + m + 1
takes_value v m = omega arith

gives_room : (v m : ℕ) → v + m + 1 ≡ v + suc m + 0
gives_room v m = omega arith

gives_value : (v m : ℕ) → v + m + 1 ≡ suc v + m + 0
gives_value v m = omega arith

passes_room : (v m : ℕ) → v + suc m + 0 ≡ suc v + m + 0
passes_room v m = omega arith

passes_value : (v m : ℕ) → suc v + m + 0 ≡ v + suc m + 0
passes_value v m = omega arith

ruleset moves = (never, so, sounds, paths, takes_room, takes_value, gives_room, gives_value, passes_room, passes_value, either)

-- a call that has finished begins anew
begins : {w : Words} {t : Task} {p n : Phase} {v r a k : Bool} (o : Others) (h : ℕ)
    → SoundAt t p n (dues v r a) k Steps → has_finished p ≡ true → (t' : Task) (tries : Bool)
    → Goes w (caller (call_of t p n v r a k o) h Steps) w (caller (started t' tries) h Steps)
begins o h finished it Push tries = search moves
begins o h s it t' tries = search moves

-- it reads whether there is an end
reads_values : {w : Words} {t : Task} {p n : Phase} {v r a k : Bool} (o : Others) (h : ℕ)
    → SoundAt t p n (dues v r a) k Steps → looks_for_values (access_of (call_of t p n v r a k o)) ≡ true
    → Goes w (caller (call_of t p n v r a k o) h Steps) w (caller (call_of t p n v r a k o) h (Read (values_ended w)))
reads_values {w = words (side _ _ _ _) (side _ _ _ _) _ _} o h (looking k is_pop) it = search moves
reads_values o h (looking_again is_pop) it = search moves
reads_values o h s it = search moves

reads_room : {w : Words} {t : Task} {p n : Phase} {v r a k : Bool} (o : Others) (h : ℕ)
    → SoundAt t p n (dues v r a) k Steps → looks_for_room (access_of (call_of t p n v r a k o)) ≡ true → room_ended w ≡ false
    → Goes w (caller (call_of t p n v r a k o) h Steps) w (caller (call_of t p n v r a k o) h (Read false))
reads_room {w = words (side _ _ _ _) (side _ _ _ _) _ _} o h (looking k pushes) it more = search moves
reads_room o h (looking_again pushes) it more = search moves
reads_room o h s it more = search moves

-- a push is told of an end
meets_end : {w : Words} {t : Task} {p n : Phase} {v r a k : Bool} (o : Others) (h : ℕ)
    → SoundAt t p n (dues v r a) k Steps → looks_for_room (access_of (call_of t p n v r a k o)) ≡ true → (why : Code) (past : Bool)
    → Goes w (caller (call_of t p n v r a k o) h Steps) w (after (advanced (call_of t p n v r a k o) (seen.Ended why) past) h)
meets_end {w = words (side _ _ _ _) (side _ _ _ _) _ _} o h (looking true pushes) it code.Worn past = search moves
meets_end o h (looking false pushes) it code.Worn past = search moves
meets_end o h (looking_again pushes) it code.Worn past = search moves
meets_end o h s it why past = search moves

-- it shuts the queue, or others are in the way
shuts_queue : {w : Words} {t : Task} {p n : Phase} {v r a k : Bool} (o : Others) (h : ℕ)
    → SoundAt t p n (dues v r a) k Steps → ends_queue (access_of (call_of t p n v r a k o)) ≡ true
    → Goes w (caller (call_of t p n v r a k o) h Steps) (shut_words w) (caller (call_of t p n v r a k o) h (Read true))
shuts_queue {w = words _ _ _ _} o h (ending shuts) it = search moves
shuts_queue o h s it = search moves

is_in_the_way : {w : Words} {t : Task} {p n : Phase} {v r a k : Bool} (o : Others) (h : ℕ) (past : Bool)
    → SoundAt t p n (dues v r a) k Steps → ends_queue (access_of (call_of t p n v r a k o)) ≡ true
    → Goes w (caller (call_of t p n v r a k o) h Steps) w (after (advanced (call_of t p n v r a k o) seen.Busy past) h)
is_in_the_way o h past (ending shuts) it = search moves
is_in_the_way o h past s it = search moves

-- it makes the access of its call
acts : {w w' : Words} {t : Task} {p n : Phase} {v r a k : Bool} {d : Doing} {saw : Seen} (o : Others) (h : ℕ) (past : Bool)
    → SoundAt t p n (dues v r a) k d → Sees (read_by d) w (access_of (call_of t p n v r a k o)) saw w'
    → is_ready (access_of (call_of t p n v r a k o)) d ≡ true
    → Goes w (caller (call_of t p n v r a k o) h d) w'
    (after (advanced (call_of t p n v r a k o) saw past) (heard_by (access_of (call_of t p n v r a k o)) w h))
acts o h past (reading true e pushes) takes it = search moves depth 7
acts o h past (reading false e pushes) takes it = search moves depth 7
acts o h past (reading_again true pushes) takes it = search moves depth 7
acts o h past (reading_again false pushes) takes it = search moves depth 7
acts o h past (listening pushes) counts_at_room it = search moves depth 7
acts o h past (hearing pushes) (hears Room) it = search moves depth 7
acts o h past (slept pushes) uncounts_at_room it = search moves depth 7
acts o h past (giving_next pushes) uncounts_at_room it = search moves depth 7
acts o h past (ringing_next is_pop (for_value true)) uncounts_at_values it = search moves depth 7
acts o h past (ringing_next pushes (for_room true)) uncounts_at_room it = search moves depth 7
acts o h past (giving pushes) puts it = search moves depth 7
acts o h past (ending drops_sender) last_sender it = search moves depth 7
acts o h past (ringing (for_value true)) (somebody Values) it = search moves depth 7
acts o h past (ringing (for_room true)) (somebody Room) it = search moves depth 7
acts o h past (adding (for_value true)) rings_values it = search moves depth 7
acts o h past (adding (for_room true)) rings_room it = search moves depth 7
acts o h past (looking k x) saw it = search moves depth 7
acts o h past (looking_again x) saw it = search moves depth 7
acts o h past (told x) saw it = search moves depth 7
acts o h past (sleeping x) saw it = search moves depth 7
acts o h past (waking_first all) saw it = search moves depth 7
acts o h past (waking_last b all) saw it = search moves depth 7
acts o h past s (look_is_busy b) it = search moves depth 7
acts o h past s (has_ended_and_is_empty code.Worn) it = search moves depth 7
acts o h past s saw it = search moves depth 7

-- it gives its call up
gives_up : {w : Words} {t : Task} {p n : Phase} {v r a k : Bool} {d : Doing} (o : Others) (h : ℕ)
    → SoundAt t p n (dues v r a) k d → may_give_up d ≡ true
    → Goes w (caller (call_of t p n v r a k o) h d) w (caller (given_up (call_of t p n v r a k o)) h Steps)
gives_up o h (looking true pushes) it = search moves
gives_up o h (looking false pushes) it = search moves
gives_up o h (reading true e pushes) it = search moves
gives_up o h (reading false e pushes) it = search moves
gives_up o h (listening pushes) it = search moves
gives_up o h (hearing pushes) it = search moves
gives_up o h (looking_again pushes) it = search moves
gives_up o h (reading_again true pushes) it = search moves
gives_up o h (reading_again false pushes) it = search moves
gives_up o h (told pushes) it = search moves
gives_up o h (sleeping pushes) it = search moves
gives_up o h (slept pushes) it = search moves
gives_up o h (giving pushes) it = search moves
gives_up o h s it = search moves

-- it sleeps, or doesn't, and wakes up
sleeps : {w : Words} {t : Task} {p n : Phase} {v r a k : Bool} (o : Others) (h : ℕ)
    → SoundAt t p n (dues v r a) k Told → h ≡ rings_of (awaited_by t) w
    → Goes w (caller (call_of t p n v r a k o) h Told) w (caller (call_of t p n v r a k o) h Sleeping)
sleeps {w = words (side _ _ _ _) (side _ _ _ _) _ _} o h (told pushes) it = search moves
sleeps o h s it = search moves

stays_awake : {w : Words} {t : Task} {p n : Phase} {v r a k : Bool} (o : Others) (h : ℕ) → SoundAt t p n (dues v r a) k Told
    → Goes w (caller (call_of t p n v r a k o) h Told) w (caller (call_of t p n v r a k o) h Steps)
stays_awake o h (told pushes) = search moves
stays_awake o h s = search moves

wakes_up : {w : Words} {t : Task} {p n : Phase} {v r a k : Bool} (o : Others) (h : ℕ) → SoundAt t p n (dues v r a) k Sleeping
    → Goes w (caller (call_of t p n v r a k o) h Sleeping) w (caller (call_of t p n v r a k o) h Steps)
wakes_up o h (sleeping pushes) = search moves
wakes_up o h s = search moves

-- whatever a caller does
pub goes : {w w' : Words} {x x' : Caller} → Does w x w' x' → Sound x → Goes w x w' x'
goes (does.begins {c = c} {h = h} t tries it) s = begins (others c) h s it t tries
goes (does.reads_values {c = c} {h = h} it) s = reads_values (others c) h s it
goes (does.reads_room {c = c} {h = h} it more) s = reads_room (others c) h s it more
goes (does.meets_end {c = c} {h = h} why past it end) s = meets_end (others c) h s it why past
goes (does.shuts {c = c} {h = h} it) s = shuts_queue (others c) h s it
goes (does.is_in_the_way {c = c} {h = h} past it) s = is_in_the_way (others c) h past s it
goes (does.acts {c = c} {h = h} past saw it) s = acts (others c) h past s saw it
goes (does.gives_up {c = c} {h = h} it) s = gives_up (others c) h s it
goes (does.sleeps {c = c} {h = h} it) s = sleeps (others c) h s it
goes (does.stays_awake {c = c} {h = h}) s = stays_awake (others c) h s
goes (does.wakes_up {c = c} {h = h}) s = wakes_up (others c) h s
