-- What one thing that a caller does is at a bell: no step, one, or two.
use Rattle.std.proofs.Common.{◌≡◌, ℕ, suc, Bool, true, false, sym, subst}
use Rattle.calls.specs.Bells.{Stance, Away, Owes, Owes_all, Leaves, Leaves_all, Hears, Saw, Sleeps, Asleep, Woken, Bell, bell, Step, idles, rests, gives, gives_at_end, calls_one, calls_all, calls_all_woken, calls_all_hearing, calls_all_seeing, nobody, somebody, nobody_at_end, somebody_at_end, adds, adds_at_end, takes, listens, hears, sees_no_end, finds_one, finds_one_at_end, finds_none, looks_again, sleeps, stays_awake, wakes_up, drops_counted, drops_hearing, drops_seeing, drops_told, drops_asleep, drops_slept, is_uncounted, leaves, leaves_all, takes_woken, none_woken, hands_on}
use Rattle.calls.specs.Callers.{Read}
use Rattle.calls.specs.Stances.{looking_again}

-- some steps at a bell
pub data Path : Bell → Stance → Bell → Stance → Type 0 where
  still : {b : Bell} {c : Stance} → Path b c b c
  then_on : {b b' b'' : Bell} {c c' c'' : Stance} → Step b c b' c' → Path b' c' b'' c'' → Path b c b'' c''

-- one step
pub by : {b b' : Bell} {c c' : Stance} → Step b c b' c' → Path b c b' c'
by step = then_on step still

-- it gives a unit, with which it had nothing to do
pub gives_one : {r l u : ℕ} {e : Bool} → Path (bell r l u e) Away (bell r l (suc u) e) (Owes 1)
gives_one = then_on idles (by (gives 0))

-- it is counted no more, and has nothing to ring
pub leaves_quietly : {r l u : ℕ} {e : Bool} → Path (bell r (suc l) u e) (Leaves 0) (bell r l u e) Away
leaves_quietly = then_on (leaves 0) (by rests)

-- it reads whether there is an end
pub reads_end : {r l u : ℕ} (e : Bool) {h : ℕ} → Path (bell r l u e) (Hears h) (bell r l u e) (looking_again (Read e) h)
reads_end true = still
reads_end false {h = h} = by (sees_no_end h)

-- it reads that there is none
pub reads_none : {r l u : ℕ} {e : Bool} {h : ℕ} → e ≡ false → Path (bell r l u e) (Hears h) (bell r l u e) (Saw h)
reads_none {r = r} {l = l} {u = u} {h = h} same =
    subst (λ e. Path (bell r l u e) (Hears h) (bell r l u e) (Saw h)) (sym same) (by (sees_no_end h))

-- it sleeps, which heard the last ring
pub sleeps_now : {r l u h : ℕ} {e : Bool} → h ≡ r → Path (bell r l u e) (Sleeps h) (bell r l u e) Asleep
sleeps_now {r = r} {l = l} {u = u} {e = e} same =
    subst (λ z. Path (bell r l u e) (Sleeps z) (bell r l u e) Asleep) (sym same) (by sleeps)

-- each thing that a caller does, at a bell
pub ruleset steps = (
  idles,
  rests,
  gives,
  gives_at_end,
  calls_one,
  calls_all,
  calls_all_woken,
  calls_all_hearing,
  calls_all_seeing,
  nobody,
  somebody,
  nobody_at_end,
  somebody_at_end,
  adds,
  adds_at_end,
  takes,
  listens,
  hears,
  finds_one,
  finds_one_at_end,
  finds_none,
  looks_again,
  stays_awake,
  wakes_up,
  drops_counted,
  drops_hearing,
  drops_seeing,
  drops_told,
  drops_asleep,
  drops_slept,
  is_uncounted,
  leaves,
  leaves_all,
  takes_woken,
  none_woken,
  hands_on,
)

pub ruleset paths = (still, by, gives_one, leaves_quietly, reads_end, reads_none, sleeps_now, steps)
