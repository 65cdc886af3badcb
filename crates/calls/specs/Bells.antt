-- One bell of a queue and any number of calls: what each does to the bell, one access at a time.
use Rattle.std.specs.Prelude.{◌≡◌, ℕ, suc, ◌+◌, ◌<◌, Bool, true, false, cond, nat_eq, List, [], ◌∷◌, ◌++◌, replicate, ◌⊎◌}
use Rattle.std.specs.List.{sum_by}

-- where a call stands to the bell; a unit is what is waited for, a value or room for one
pub data Stance : Type 0 where
  -- it neither listens, nor owes a ring, nor was woken
  Away : Stance
  -- it gave so many units, and will see whether anybody listens; somebody does, and it will ring; it rang, and will wake so many
  Owes Adds Wakes : (units : ℕ) → Stance
  -- the same for all that listen; that, and it will be counted no more first
  Owes_all Adds_all Wakes_all Leaves_all : Stance
  -- it is counted among those that listen, and will hear how often the bell rang
  Counted : Stance
  -- it heard so many rings, and will look; nothing had ended; it found nothing, and is told to sleep
  Hears Saw Sleeps : (rings : ℕ) → Stance
  -- it sleeps; it is awake, and still counted; it is counted no more, and will look
  Asleep Slept Woken : Stance
  -- it will be counted no more, and then owes a ring for so many
  Leaves : (units : ℕ) → Stance

-- the bell: how often it rang, how many listen, how many units there are of what they wait for, and whether no more will come
pub data Bell : Type 0 where
  bell : (rings listeners units : ℕ) (ended : Bool) → Bell

-- one access of a call
pub data Step : Bell → Stance → Bell → Stance → Type 0 where
  -- it has nothing to do with the bell, or begins to
  idles : {b : Bell} → Step b Away b (Owes 0)
  rests : {b : Bell} → Step b (Owes 0) b Away
  -- it gives one unit more
  gives : {r l u : ℕ} {e : Bool} (k : ℕ) → Step (bell r l u e) (Owes k) (bell r l (suc u) e) (Owes (suc k))
  gives_at_end : {r l u : ℕ} {e : Bool} → Step (bell r l u e) Owes_all (bell r l (suc u) e) Owes_all
  -- it will ring for one, or for all, whether it ends what there is to come or not
  calls_one : {b : Bell} → Step b Away b (Owes 1)
  calls_all : {r l u : ℕ} {e e' : Bool} → Step (bell r l u e) Away (bell r l u e') Owes_all
  calls_all_woken : {r l u : ℕ} {e e' : Bool} → Step (bell r l u e) Woken (bell r l u e') Owes_all
  calls_all_hearing : {r l u : ℕ} {e e' : Bool} (h : ℕ) → Step (bell r l u e) (Hears h) (bell r l u e') Leaves_all
  calls_all_seeing : {r l u : ℕ} {e e' : Bool} (h : ℕ) → Step (bell r l u e) (Saw h) (bell r l u e') Leaves_all
  -- it finds that nobody listens, or that somebody does
  nobody : {r u : ℕ} {e : Bool} (k : ℕ) → Step (bell r 0 u e) (Owes k) (bell r 0 u e) Away
  somebody : {b : Bell} (k : ℕ) → Step b (Owes k) b (Adds k)
  nobody_at_end : {r u : ℕ} {e : Bool} → Step (bell r 0 u e) Owes_all (bell r 0 u e) Away
  somebody_at_end : {b : Bell} → Step b Owes_all b Adds_all
  -- it rings
  adds : {r l u : ℕ} {e : Bool} (k : ℕ) → Step (bell r l u e) (Adds k) (bell (suc r) l u e) (Wakes k)
  adds_at_end : {r l u : ℕ} {e : Bool} → Step (bell r l u e) Adds_all (bell (suc r) l u e) Wakes_all
  -- it takes a unit, and never listened
  takes : {r l u : ℕ} {e : Bool} → Step (bell r l (suc u) e) Away (bell r l u e) Away
  -- it is counted, hears, and looks: whether there is an end, and then whether there is a unit
  listens : {r l u : ℕ} {e : Bool} → Step (bell r l u e) Away (bell r (suc l) u e) Counted
  hears : {r l u : ℕ} {e : Bool} → Step (bell r l u e) Counted (bell r l u e) (Hears r)
  sees_no_end : {r l u : ℕ} (h : ℕ) → Step (bell r l u false) (Hears h) (bell r l u false) (Saw h)
  finds_one : {r l u : ℕ} {e : Bool} (h : ℕ) → Step (bell r l (suc u) e) (Saw h) (bell r l u e) (Leaves 0)
  finds_one_at_end : {r l u : ℕ} {e : Bool} (h : ℕ) → Step (bell r l (suc u) e) (Hears h) (bell r l u e) (Leaves 0)
  finds_none : {r l : ℕ} {e : Bool} (h : ℕ) → Step (bell r l 0 e) (Saw h) (bell r l 0 e) (Sleeps h)
  -- others are in the way, and it looks again
  looks_again : {b : Bell} (h : ℕ) → Step b (Saw h) b (Hears h)
  -- it sleeps, if the bell has not rung since it heard; or it doesn't, for whatever reason; a sleep ends, for whatever reason
  sleeps : {r l u : ℕ} {e : Bool} → Step (bell r l u e) (Sleeps r) (bell r l u e) Asleep
  stays_awake : {b : Bell} (h : ℕ) → Step b (Sleeps h) b Slept
  wakes_up : {b : Bell} → Step b Asleep b Slept
  -- it leaves, from wherever it stands, without a unit: it hands on what it may have been woken for
  drops_counted : {b : Bell} → Step b Counted b (Leaves 1)
  drops_hearing : {b : Bell} (h : ℕ) → Step b (Hears h) b (Leaves 1)
  drops_seeing : {b : Bell} (h : ℕ) → Step b (Saw h) b (Leaves 1)
  drops_told : {b : Bell} (h : ℕ) → Step b (Sleeps h) b (Leaves 1)
  drops_asleep : {b : Bell} → Step b Asleep b (Leaves 1)
  drops_slept : {b : Bell} → Step b Slept b (Leaves 1)
  -- it is counted no more
  is_uncounted : {r l u : ℕ} {e : Bool} → Step (bell r (suc l) u e) Slept (bell r l u e) Woken
  leaves : {r l u : ℕ} {e : Bool} (k : ℕ) → Step (bell r (suc l) u e) (Leaves k) (bell r l u e) (Owes k)
  leaves_all : {r l u : ℕ} {e : Bool} → Step (bell r (suc l) u e) Leaves_all (bell r l u e) Owes_all
  -- woken, it looks: it takes a unit, or finds none, or leaves without one and hands on
  takes_woken : {r l u : ℕ} {e : Bool} → Step (bell r l (suc u) e) Woken (bell r l u e) Away
  none_woken : {r l : ℕ} {e : Bool} → Step (bell r l 0 e) Woken (bell r l 0 e) Away
  hands_on : {b : Bell} → Step b Woken b (Owes 1)

-- so many that slept don't sleep any more
pub data Roused : ℕ → List Stance → List Stance → Type 0 where
  nobody_more : Roused 0 [] []
  this_one : {n : ℕ} {cs ds : List Stance} → Roused n cs ds → Roused (suc n) (Asleep ∷ cs) (Slept ∷ ds)
  not_this_one : {n : ℕ} {cs ds : List Stance} (c : Stance) → Roused n cs ds → Roused n (c ∷ cs) (c ∷ ds)

-- counts a call that listens
abbrev pub counted : Stance → ℕ
counted Counted = 1
counted (Hears h) = 1
counted (Saw h) = 1
counted (Sleeps h) = 1
counted Asleep = 1
counted Slept = 1
counted (Leaves k) = 1
counted Leaves_all = 1
counted _ = 0

-- counts a call that sleeps
abbrev pub asleep : Stance → ℕ
asleep Asleep = 1
asleep _ = 0

-- counts the units for which a call still owes a ring
abbrev pub owed : Stance → ℕ
owed (Owes k) = k
owed (Adds k) = k
owed (Leaves k) = k
owed _ = 0

-- counts the units for which it rang, and has still to wake
abbrev pub ringing : Stance → ℕ
ringing (Wakes k) = k
ringing _ = 0

-- counts a call that owes a ring for all
abbrev pub owed_all : Stance → ℕ
owed_all Owes_all = 1
owed_all Adds_all = 1
owed_all Leaves_all = 1
owed_all _ = 0

-- counts a call that rang for all, and has still to wake
abbrev pub ringing_all : Stance → ℕ
ringing_all Wakes_all = 1
ringing_all _ = 0

-- counts a call that will look before it sleeps: also one that is told to sleep while the bell has rung since it heard
abbrev pub awake : (rings : ℕ) → Stance → ℕ
awake r Counted = 1
awake r (Hears h) = 1
awake r (Saw h) = 1
awake r Slept = 1
awake r Woken = 1
awake r (Sleeps h) = cond (nat_eq h r) 0 1
awake r _ = 0

-- the bell, and where each call stands
pub record State : Type 0 where
  pub at : Bell
  pub calls : List Stance

-- one move: a step of one call; or one call wakes as many as it rang for, or all that sleep if there are no more
pub data Move : State → State → Type 0 where
  steps : {b b' : Bell} {c c' : Stance} (before after : List Stance) → Step b c b' c'
      → Move (record { at = b; calls = before ++ c ∷ after }) (record { at = b'; calls = before ++ c' ∷ after })
  wakes : {b : Bell} {ds : List Stance} (k n : ℕ) (before after : List Stance)
      → Roused n (before ++ Away ∷ after) ds → (n ≡ k) ⊎ (sum_by asleep ds ≡ 0)
      → Move (record { at = b; calls = before ++ Wakes k ∷ after }) (record { at = b; calls = ds })
  wakes_all : {b : Bell} {ds : List Stance} (n : ℕ) (before after : List Stance)
      → Roused n (before ++ Away ∷ after) ds → sum_by asleep ds ≡ 0
      → Move (record { at = b; calls = before ++ Wakes_all ∷ after }) (record { at = b; calls = ds })

-- all calls begin away, at a new bell with so many units; then they move, in any order
pub data Reached : State → Type 0 where
  begins : (units n : ℕ) → Reached (record { at = bell 0 0 units false; calls = replicate n Away })
  goes_on : {s s' : State} → Reached s → Move s s' → Reached s'

-- how many are on their way: they owe a ring, are ringing, or will look before they sleep
abbrev pub on_the_way : (rings : ℕ) → List Stance → ℕ
on_the_way r cs = sum_by owed cs + sum_by ringing cs + sum_by owed_all cs + sum_by ringing_all cs + sum_by (awake r) cs

-- at this bell nobody sleeps beside a unit, or an end, without somebody on its way
abbrev pub NoneIsLeft : Bell → List Stance → Type 0
NoneIsLeft (bell r l u e) cs = 0 < sum_by asleep cs → (0 < u) ⊎ (e ≡ true) → 0 < on_the_way r cs

-- nobody sleeps beside a unit, or an end, without somebody on its way
abbrev pub NobodyIsLeft : State → Type 0
NobodyIsLeft s = NoneIsLeft s.at s.calls
