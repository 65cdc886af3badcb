-- An access of a seat goes on with the run.
use Rattle.std.proofs.Common.{bit_or, ◌≡◌, ◌≢◌, ℕ, ◌+◌, ◌^◌, if◌then◌else◌, nat_eq, Bool, true, false, List, [], ◌∷◌}
use Rattle.std.proofs.Common.{◌++◌, length, drop, get_or, set, sym, refl, ap, ◌∙◌, subst, arith, append-nil, append_assoc, length-append, ne_eqb}
use prog.Atomic.{either}
use mathlib.Core.Logic.{dite}
use native.Mathlib.Decide.{dec_le}
use Rattle.std.proofs.lemmas.Bool.{eq-eqb}
use Rattle.std.specs.List.{AllByRecursion}
use Rattle.std.proofs.lemmas.List.{append_cancel_left}
use Rattle.std.proofs.lemmas.List.Elements.{All-nil, All-cons, All-append, recursion_from_All}
use Rattle.history.specs.declared.operations.Entry.{Entry}
use Rattle.history.specs.declared.operations.Entry.TheVariants.{Shut}
use Rattle.ring_queue.specs.Plans.{Layout}
use Rattle.ring_queue.specs.Paths.{Line, C3, C4, P3, S10, Event, reading, writing, Step, Ran, RunsOn, accessed, left_by, AreFound, own_path}
use Rattle.ring_queue.specs.Knowledge.{SeatView}
use Rattle.ring_queue.specs.Rule.{put, IsStart, Run}
use Rattle.ring_queue.specs.Rows.{Regs, regs, first_regs, Goes, Walks}
use Rattle.ring_queue.specs.Steps.{Went, PlacesClaimed, FrontsTaken, ShutMade, PlaceFilled, pushes, pops}
use Rattle.ring_queue.proofs.Puts.{put_each, same_or_not}
use Rattle.ring_queue.proofs.Tables.{Extends, added_more}

-- an access of a seat to a word, in which it found a number and left one
pub record Made (z : Layout) (i n m : ℕ) (v v' : SeatView) : Type 0 where
  pub event : Event
  pub word : event.word ≡ i
  pub found : event.found ≡ n
  pub left : event.left ≡ m
  pub run : RunsOn v.number v.ran event v'.ran
  pub mine : v'.mine ≡ v.mine ++ event.adds
  pub goes : Goes z v.number (regs v) event (regs v')

-- a walk with one access more
walks_more : (z : Layout) (me : ℕ) (a b c : Regs) (es : List Event) (e : Event) → Walks z me a es b → Goes z me b e c → Walks z me a (es ++ e ∷ []) c
walks_more z me a b c [] e w g = (c, subst (λ (y : Regs). Goes z me y e c) (sym w) g, refl)
walks_more z me a b c (x ∷ xs) e w g = (w.0, w.1, walks_more z me w.0 b c xs e w.2 g)

-- one access more, at the end
left_more : (words : List ℕ) (es : List Step) (e : Step) → left_by words (es ++ e ∷ []) ≡ set (left_by words es) e.event.word e.event.left
left_more words [] e = refl
left_more words (x ∷ xs) e = left_more (set words x.event.word x.event.left) xs e

found_more : (words : List ℕ) (es : List Step) (e : Step) → AreFound words es → e.event.found ≡ get_or (left_by words es) e.event.word 0 → AreFound words (es ++ e ∷ [])
found_more words [] e h is = (is, tt)
found_more words (x ∷ xs) e h is = (h.0, found_more (set words x.event.word x.event.left) xs e h.1 is)

-- the path of a seat that made none of these
none_own : (n : ℕ) (es : List Step) → AllByRecursion (λ e. e.by ≢ n) es → own_path n es ≡ []
none_own n [] others = refl
none_own n (e ∷ es) others = ap (λ b. if b then e.event ∷ own_path n es else own_path n es) (ne_eqb e.by n others.0) ∙ none_own n es others.1

own_append : (n : ℕ) (xs ys : List Step) → own_path n (xs ++ ys) ≡ own_path n xs ++ own_path n ys
own_append n [] ys = refl
own_append n (x ∷ xs) ys = go (nat_eq x.by n) (own_append n xs ys)
  where
    go : (b : Bool) → own_path n (xs ++ ys) ≡ own_path n xs ++ own_path n ys
        → (if b then x.event ∷ own_path n (xs ++ ys) else own_path n (xs ++ ys)) ≡ (if b then x.event ∷ own_path n xs else own_path n xs) ++ own_path n ys
    go true h = ap (λ es. x.event ∷ es) h
    go false h = h

-- what a seat knows of a run has all accesses that it made of it
pub own_known : (n : ℕ) (run ran : List Step) → Ran run n ran → own_path n run ≡ own_path n ran
own_known n run ran r =
    ap (own_path n) r.begins ∙ (own_append n ran r.rest ∙ (ap (λ es. own_path n ran ++ es) (none_own n r.rest (recursion_from_All (λ e. e.by ≢ n) r.rest r.others)) ∙ append-nil (own_path n ran)))

-- so its path has one access more once it has made it
pub own_on : (n : ℕ) (ran : List Step) (e : Event) (ran' : List Step) → RunsOn n ran e ran' → own_path n ran' ≡ own_path n ran ++ e ∷ []
own_on n ran e ran' r =
    ap (own_path n) r.ends ∙ (own_append n r.before (record { by = n; event = e } ∷ [])
    ∙ (ap (λ es. es ++ own_path n (record { by = n; event = e } ∷ [])) (own_known n r.before ran r.knew)
    ∙ ap (λ b. own_path n ran ++ (if b then e ∷ [] else [])) (eq-eqb n n refl)))

-- two lists with one more at the end, which are the same, end with the same
same_last : {A : Type 0} (xs ys : List A) (x y : A) → xs ++ x ∷ [] ≡ ys ++ y ∷ [] → x ≡ y
same_last [] [] x y e = ap (λ l. get_or l 0 x) e
same_last [] (w ∷ ws) x y e = absurd (let l : 1 ≡ length (w ∷ ws ++ y ∷ []) = ap length e in let m = length-append ws (y ∷ []) in omega (arith, l, m))
same_last (w ∷ ws) [] x y e = absurd (let l : length (w ∷ ws ++ x ∷ []) ≡ 1 = ap length e in let m = length-append ws (x ∷ []) in omega (arith, l, m))
same_last (v ∷ vs) (w ∷ ws) x y e = same_last vs ws x y (ap (drop 1) e)

-- a run with one access more
pub run_on : (z : Layout) (words : List ℕ) (seats : ℕ → SeatView) (history : List Entry) (v v' : SeatView) (all : List Entry) (history' : List Entry) (i m : ℕ)
    → seats v.number ≡ v → (run : Run z words seats history) → Extends run.trace all history v history' v' → (made : Made z i (get_or words i 0) m v v')
    → (more : Run z (set words i m) (put seats v.number v') history') × (more.trace ≡ accessed run.trace v.number made.event)
run_on z words seats history v v' all history' i m is run more made =
    let e : Step = record { by = v.number; event = made.event } in
    let same : more.added ≡ made.event.adds = append_cancel_left v.mine more.added made.event.adds (sym more.own ∙ made.mine) in
    let last : record { by = v.number; event = more.event } ≡ e = same_last run.trace made.run.before (record { by = v.number; event = more.event }) e (sym more.ran ∙ made.run.ends) in
    let whole : v'.ran ≡ run.trace ++ e ∷ [] = more.ran ∙ ap (λ (x : Step). run.trace ++ x ∷ []) last in (
      record {
        start = run.start;
        starts = run.starts;
        trace = run.trace ++ e ∷ [];
        leaves = sym (left_more run.start run.trace e ∙ (λ k. set (sym run.leaves k) (made.word k) (made.left k)));
        found = found_more run.start run.trace e run.found (made.found ∙ (λ k. get_or (run.leaves k) (sym made.word k) 0));
        ran = λ n. put_each seats v.number n v' (λ k (u : SeatView). Ran (run.trace ++ e ∷ []) k u.ran)
            (record { rest = []; begins = sym (append-nil v'.ran ∙ whole); others = All-nil (λ (x : Step). x.by ≢ v.number) })
            (λ ne. let r = run.ran n in
            record {
              rest = r.rest ++ e ∷ [];
              begins = ap (λ es. es ++ e ∷ []) r.begins ∙ append_assoc (seats n).ran r.rest (e ∷ []);
              others = All-append (λ (x : Step). x.by ≢ n) r.rest (e ∷ []) r.others (All-cons (λ (x : Step). x.by ≢ n) e [] (λ q. ne (sym q)) (All-nil (λ (x : Step). x.by ≢ n)));
            });
        walks = λ n. put_each seats v.number n v' (λ k (u : SeatView). Walks z k (first_regs z.slots) (own_path k u.ran) (regs u))
            (subst (λ (es : List Event). Walks z v.number (first_regs z.slots) es (regs v')) (sym (own_on v.number v.ran made.event v'.ran made.run))
            (walks_more z v.number (first_regs z.slots) (regs v) (regs v') (own_path v.number v.ran) made.event
            (subst (λ (u : SeatView). Walks z v.number (first_regs z.slots) (own_path v.number u.ran) (regs u)) is (run.walks v.number)) made.goes))
            (λ ne. run.walks n);
        adds = more.grown ∙ ((λ k. run.adds k ++ same k) ∙ sym (added_more run.trace e));
      },
      refl,
    )

-- what the seat of a run knows of it
pub knew_of : (z : Layout) (words : List ℕ) (seats : ℕ → SeatView) (history : List Entry) (v : SeatView) → seats v.number ≡ v → (run : Run z words seats history) → Ran run.trace v.number v.ran
knew_of z words seats history v is run = subst (λ (u : SeatView). Ran run.trace v.number u.ran) is (run.ran v.number)

-- a seat that knows all of a run
pub knows_all : (n : ℕ) (run : List Step) → Ran run n run
knows_all n run = record { rest = []; begins = sym (append-nil run); others = All-nil (λ (e : Step). e.by ≢ n) }

-- the same run, of seats that stand where they stood, and know of as much of it, or of more
pub run_same : (z : Layout) (words : List ℕ) (seats seats' : ℕ → SeatView) (history : List Entry) (run : Run z words seats history) → ((n : ℕ) → regs (seats' n) ≡ regs (seats n))
    → ((n : ℕ) → Ran run.trace n (seats' n).ran) → (same : Run z words seats' history) × (same.trace ≡ run.trace)
run_same z words seats seats' history run stand knew = (
  record {
    start = run.start;
    starts = run.starts;
    trace = run.trace;
    leaves = run.leaves;
    found = run.found;
    ran = knew;
    walks = λ n. subst (λ (y : List Event × Regs). Walks z n (first_regs z.slots) y.0 y.1)
        (λ i. ((sym (own_known n run.trace (seats n).ran (run.ran n)) ∙ own_known n run.trace (seats' n).ran (knew n)) i, sym (stand n) i)) (run.walks n);
    adds = run.adds;
  },
  refl,
)

-- the run in which nothing was done
pub run_none : (z : Layout) (words : List ℕ) (seats : ℕ → SeatView) → IsStart z words → ((n : ℕ) → (seats n).ran ≡ []) → ((n : ℕ) → regs (seats n) ≡ first_regs z.slots)
    → (run : Run z words seats []) × (run.trace ≡ [])
run_none z words seats starts none_done stand = (
  record {
    start = words;
    starts = starts;
    trace = [];
    leaves = refl;
    found = tt;
    ran = λ n. record { rest = []; begins = sym (append-nil (seats n).ran ∙ none_done n); others = All-nil (λ (e : Step). e.by ≢ n) };
    walks = λ n. subst (λ (es : List Event). Walks z n (first_regs z.slots) es (regs (seats n))) (ap (own_path n) (sym (none_done n))) (sym (stand n));
    adds = refl;
  },
  refl,
)

-- what each line tells is such an access
pub ran_read : (z : Layout) (l : Line) (i n : ℕ) (v v' : SeatView) → Went z v (reading l i n) v' → Made z i n n v v'
ran_read z l i n v v' w = record { event = reading l i n; word = refl; found = refl; left = refl; run = w.0; mine = w.1; goes = w.2 }

-- the same of a word with another name
pub ran_read_at : (z : Layout) (l : Line) (i j n : ℕ) (v v' : SeatView) → i ≡ j → Went z v (reading l j n) v' → Made z i n n v v'
ran_read_at z l i j n v v' there w = record { event = reading l j n; word = sym there; found = refl; left = refl; run = w.0; mine = w.1; goes = w.2 }

pub ran_claim : (z : Layout) (bodies : List ℕ) (v : SeatView) (n : ℕ) (v' : SeatView) → PlacesClaimed z bodies v n v' → Made z 0 n (either (nat_eq n v.tail) (v.tail + length bodies) n) v v'
ran_claim z bodies v n v' k = same_or_not n v.tail
    (λ same. let w = k.went_won same in
    record {
      event = writing C3 0 n (n + length bodies) (pushes v.number bodies);
      word = refl;
      found = refl;
      left = ap (λ x. x + length bodies) same ∙ ap (λ b. either b (v.tail + length bodies) n) (sym (eq-eqb n v.tail same));
      run = w.0;
      mine = w.1;
      goes = w.2;
    })
    (λ ne. let w = k.went_lost ne in
    record { event = reading C3 0 n; word = refl; found = refl; left = ap (λ b. either b (v.tail + length bodies) n) (sym (ne_eqb n v.tail ne)); run = w.0; mine = w.1; goes = w.2 })

pub ran_take : (z : Layout) (ws : List ℕ) (v : SeatView) (n : ℕ) (v' : SeatView) → FrontsTaken z ws v n v' → Made z 16 n (either (nat_eq n v.head) (v.head + length ws) n) v v'
ran_take z ws v n v' k = same_or_not n v.head
    (λ same. let w = k.went_won same in
    record {
      event = writing P3 16 n (n + length ws) (pops v.number ws);
      word = refl;
      found = refl;
      left = ap (λ x. x + length ws) same ∙ ap (λ b. either b (v.head + length ws) n) (sym (eq-eqb n v.head same));
      run = w.0;
      mine = w.1;
      goes = w.2;
    })
    (λ ne. let w = k.went_lost ne in
    record { event = reading P3 16 n; word = refl; found = refl; left = ap (λ b. either b (v.head + length ws) n) (sym (ne_eqb n v.head ne)); run = w.0; mine = w.1; goes = w.2 })

pub ran_shut : (z : Layout) (v : SeatView) (n : ℕ) (v' : SeatView) → ShutMade z v n v' → Made z 0 n (bit_or n (2 ^ 62)) v v'
ran_shut z v n v' k = dite (dec_le (2 ^ 62) n)
    (λ shut. let w = k.went_shut shut in record { event = writing S10 0 n (bit_or n (2 ^ 62)) []; word = refl; found = refl; left = refl; run = w.0; mine = w.1; goes = w.2 })
    (λ open_still. let w = k.went_open (omega (arith, open_still)) in
    record { event = writing S10 0 n (bit_or n (2 ^ 62)) (Shut v.number ∷ []); word = refl; found = refl; left = refl; run = w.0; mine = w.1; goes = w.2 })

pub ran_fill : (z : Layout) (i w : ℕ) (v : SeatView) (n : ℕ) (v' : SeatView) → PlaceFilled z i w v n v' → Made z i n w v v'
ran_fill z i w v n v' e = record {
  event = writing C4 i n w [];
  word = refl;
  found = refl;
  left = refl;
  run = subst (λ (ran : List Step). RunsOn v.number v.ran (writing C4 i n w []) ran) (ap (λ (u : SeatView). u.ran) (sym e.1)) e.2;
  mine = ap (λ (u : SeatView). u.mine) e.1 ∙ sym (append-nil v.mine);
  goes = e.3;
}
