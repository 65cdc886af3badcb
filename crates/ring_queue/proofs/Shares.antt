-- Others pay for the turns that a seat fails: each raises its head or its tail, which are never above Head and Tail.
use Rattle.std.proofs.Common.{◌≡◌, ℕ, ◌+◌, ◌^◌, ◌<◌, ◌≤◌, Bool, true, false, if◌then◌else◌, nat_lt, List, [], ◌∷◌, ◌++◌, length, refl, ap, sym, subst, ◌∙◌, arith, ne_eqb}
use Rattle.std.specs.List.{count_by}
use Rattle.std.proofs.lemmas.List.Sums.{sum_by-append}
use Rattle.std.proofs.lemmas.Bool.{eq-eqb, lt-ltb, le-ltb}
use mathlib.Core.Logic.{dite}
use native.Mathlib.Decide.{dec_le}
use Rattle.history.specs.declared.operations.Entry.TheVariants.{Push, Pop}
use Rattle.history.specs.Entries.{is_push, is_pop}
use Rattle.history.proofs.Sums.{pushes-Leads}
use Rattle.ring_queue.specs.Plans.{Layout}
use Rattle.ring_queue.specs.Paths.{C3, P3, Event, reading, own_path}
use Rattle.ring_queue.specs.Knowledge.{Stage, rests, claimed, found, unfilled, head_due}
use Rattle.ring_queue.specs.Rows.{Regs, first_regs, regs, head_line, taken_in, pushes, pops, Goes, Walks}
use Rattle.ring_queue.specs.Rows.{reads_tail, reads_head, claims, loses_place, fills, finds_filled, finds_late, finds_next, finds_no_next, takes, loses, finds_end, finds_ahead, shuts, was_shut}
use Rattle.ring_queue.specs.Shares.{lost_place, lost_front, lost_on, adds_on, OthersPay}

count_pushes : (me : ℕ) (bs : List ℕ) → (count_by is_push (pushes me bs) ≡ length bs) × (count_by is_pop (pushes me bs) ≡ 0)
count_pushes me [] = (refl, refl)
count_pushes me (b ∷ bs) =
    let h = count_pushes me bs in
    let a = h.0 in
    let c = h.1 in
    let one : count_by is_push (pushes me (b ∷ bs)) ≡ 1 + count_by is_push (pushes me bs) = sum_by-append _ (Push me b ∷ []) (pushes me bs) in
    let none : count_by is_pop (pushes me (b ∷ bs)) ≡ 0 + count_by is_pop (pushes me bs) = sum_by-append _ (Push me b ∷ []) (pushes me bs) in
    (omega (arith, a, one), omega (arith, c, none))

count_pops : (me : ℕ) (ws : List ℕ) → (count_by is_pop (pops me ws) ≡ length ws) × (count_by is_push (pops me ws) ≡ 0)
count_pops me [] = (refl, refl)
count_pops me (w ∷ ws) =
    let h = count_pops me ws in
    let a = h.0 in
    let c = h.1 in
    let one : count_by is_pop (pops me (w ∷ ws)) ≡ 1 + count_by is_pop (pops me ws) = sum_by-append _ (Pop me (taken_in w) ∷ []) (pops me ws) in
    let none : count_by is_push (pops me (w ∷ ws)) ≡ 0 + count_by is_push (pops me ws) = sum_by-append _ (Pop me (taken_in w) ∷ []) (pops me ws) in
    (omega (arith, a, one), omega (arith, c, none))

abbrev by : Bool → ℕ
by b = if b then 1 else 0

abbrev by_two : ℕ → Bool → ℕ
by_two k b = if b then k else 0

-- an exchange that won is no lost one
won : (n k : ℕ) → 1 ≤ k → lost_front P3 n (n + k) ≡ 0
won n k some = ap by (ne_eqb n (n + k) (λ e. omega (arith, e, some)))

one_lost : (n : ℕ) → lost_front P3 n n ≡ 1
one_lost n = ap by (eq-eqb n n refl)

same_if : (b : Bool) (k : ℕ) → k ≡ 0 → by_two k b ≡ 0
same_if true k e = e
same_if false k e = refl

-- one access raises a seat's tail by its claim that was lost, and by its pushes; and its head by its exchange that was lost, and by its pops
record Raises (a : Regs) (e : Event) (b : Regs) : Type 0 where
  tail : a.tail + (lost_place e.line e.found e.left + count_by is_push e.adds) ≤ b.tail
  head : a.head + (lost_front e.line e.found e.left + count_by is_pop e.adds) ≤ b.head

raises_by : (a : Regs) (e e' : Event) (b b' : Regs) → e ≡ e' → b ≡ b' → Raises a e' b' → Raises a e b
raises_by a e e' b b' is to h = subst (λ (y : Event × Regs). Raises a y.0 y.1) (λ i. (sym is i, sym to i)) h

raises : (z : Layout) (me : ℕ) (a : Regs) (e : Event) (b : Regs) → Goes z me a e b → Raises a e b
raises z me a e b (reads_tail n r le is to) = raises_by a e _ b _ is to (record { tail = omega (arith, le); head = omega arith })
raises z me a e b (reads_head n r le is to) = by_stage a.at is
  where
    by_stage : (st : Stage) → e ≡ reading (head_line st) 16 n → Raises a e b
    by_stage rests at = raises_by a e _ b _ at to (record { tail = omega arith; head = omega (arith, le) })
    by_stage (claimed p xs) at = raises_by a e _ b _ at to (record { tail = omega arith; head = omega (arith, le) })
    by_stage (found ws) at = raises_by a e _ b _ at to (record { tail = omega arith; head = omega (arith, le) })
    by_stage unfilled at = raises_by a e _ b _ at to (record { tail = omega arith; head = omega (arith, le) })
    by_stage head_due at = raises_by a e _ b _ at to (record { tail = omega arith; head = omega (arith, le) })
raises z me a e b (claims n bodies r room same is to) =
    let k : ℕ = length bodies in
    let count = count_pushes me bodies in
    let pushed = count.0 in
    let none = count.1 in
    let lost : lost_place C3 n (n + k) ≡ 0 = same_if (nat_lt n (2 ^ 62)) (lost_front P3 n (n + k)) (won n k room.some) in
    raises_by a e _ b _ is to (record { tail = omega (arith, lost, pushed, same); head = omega (arith, none) })
raises z me a e b (loses_place n count r room ne le is to) =
    raises_by a e _ b _ is to (record {
      tail = dite (dec_le (2 ^ 62) n)
          (λ big. let lost : lost_place C3 n n ≡ 0 = ap (by_two (lost_front P3 n n)) (le-ltb n (2 ^ 62) big) in omega (arith, lost, le))
          (λ no. let small : n < 2 ^ 62 = omega (arith, no) in
          let lost : lost_place C3 n n ≡ 1 = ap (by_two (lost_front P3 n n)) (lt-ltb n (2 ^ 62) small) ∙ one_lost n in omega (arith, lost, le, ne, small));
      head = omega arith;
    })
raises z me a e b (fills n p x xs at is to) = raises_by a e _ b _ is to (record { tail = omega arith; head = omega arith })
raises z me a e b (finds_filled n r same is to) = raises_by a e _ b _ is to (record { tail = omega arith; head = omega arith })
raises z me a e b (finds_late n r apart is to) = raises_by a e _ b _ is to (record { tail = omega arith; head = omega arith })
raises z me a e b (finds_next n ws at same is to) = raises_by a e _ b _ is to (record { tail = omega arith; head = omega arith })
raises z me a e b (finds_no_next n ws at apart is to) = raises_by a e _ b _ is to (record { tail = omega arith; head = omega arith })
raises z me a e b (takes n ws at some same is to) =
    let count = count_pops me ws in
    let popped = count.0 in
    let none = count.1 in
    let lost = won n (length ws) some in
    raises_by a e _ b _ is to (record { tail = omega (arith, none); head = omega (arith, lost, popped, same) })
raises z me a e b (loses n ws at ne le is to) =
    let lost = one_lost n in
    raises_by a e _ b _ is to (record { tail = omega arith; head = omega (arith, lost, le, ne) })
raises z me a e b (finds_end n at same is to) = raises_by a e _ b _ is to (record { tail = omega arith; head = omega arith })
raises z me a e b (finds_ahead n at apart not_end is to) = raises_by a e _ b _ is to (record { tail = omega arith; head = omega arith })
raises z me a e b (shuts n r small is to) = raises_by a e _ b _ is to (record { tail = omega arith; head = omega arith })
raises z me a e b (was_shut n r big is to) = raises_by a e _ b _ is to (record { tail = omega arith; head = omega arith })

-- so do all of a path
walk_raises : (z : Layout) (me : ℕ) (es : List Event) (a b : Regs) → Walks z me a es b
    → (a.tail + (lost_on lost_place es + count_by is_push (adds_on es)) ≤ b.tail) × (a.head + (lost_on lost_front es + count_by is_pop (adds_on es)) ≤ b.head)
walk_raises z me [] a b w = let t = ap (λ (r : Regs). r.tail) w in let h = ap (λ (r : Regs). r.head) w in (omega (arith, t), omega (arith, h))
walk_raises z me (e ∷ es) a b w =
    let one = raises z me a e w.0 w.1 in
    let t = one.tail in
    let h = one.head in
    let more = walk_raises z me es w.0 b w.2 in
    let t' = more.0 in
    let h' = more.1 in
    let u : count_by is_push (e.adds ++ adds_on es) ≡ count_by is_push e.adds + count_by is_push (adds_on es) = sum_by-append _ e.adds (adds_on es) in
    let o : count_by is_pop (e.adds ++ adds_on es) ≡ count_by is_pop e.adds + count_by is_pop (adds_on es) = sum_by-append _ e.adds (adds_on es) in
    let l : lost_on lost_place (e ∷ es) ≡ (0 + lost_place e.line e.found e.left) + lost_on lost_place es = sum_by-append _ (e ∷ []) es in
    let m : lost_on lost_front (e ∷ es) ≡ (0 + lost_front e.line e.found e.left) + lost_on lost_front es = sum_by-append _ (e ∷ []) es in
    (omega (arith, t, t', u, l), omega (arith, h, h', o, m))

pub others_pay : OthersPay
others_pay z s h n =
    let q = walk_raises z n (own_path n (h.seats n).ran) (first_regs z.slots) (regs (h.seats n)) (h.run.walks n) in
    let t = q.0 in
    let f = q.1 in
    let r = h.ring in
    let seat = r.each_seat n in
    let under = seat.under in
    let behind = seat.behind in
    let counted = r.counted in
    let taken = r.taken in
    let pushed = pushes-Leads r.history r.shut r.values r.leads in
    (omega (arith, t, under, counted, taken, pushed), omega (arith, f, behind, taken))
