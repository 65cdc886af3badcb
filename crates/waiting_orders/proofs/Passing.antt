-- What the tests say that a state that is made passed, and what is so of what they let through.
use Rattle.std.proofs.Common.{◌≡◌, ℕ, zero, suc, ◌≤◌, Bool, true, false, not, ◌&&◌, ◌||◌, List, [], ◌∷◌, Option, None, Some, IfSome, is_some, map, cond, slice_get, refl, sym, ap, ◌∙◌, subst, arith}
use Rattle.std.specs.List.{AllByRecursion, filter}
use Rattle.std.specs.List.Sorted.{IsPermutation}
use Rattle.history.specs.declared.refusals.Refusal.{Refusal}
use Rattle.history.specs.declared.refusals.Refusal.TheVariants.{Closed}
use Rattle.history.specs.declared.operations.Op.{Op}
use Rattle.history.specs.declared.operations.Op.TheVariants.{Enq, Deq, Shut}
use Rattle.history.specs.declared.operations.Reply.{Reply}
use Rattle.history.specs.declared.operations.Stamped.{Stamped}
use Rattle.history.specs.History.{is_closed}
use Rattle.waiting_orders.specs.declared.lines.Pick.{Pick}
use Rattle.waiting_orders.specs.Waiting.{IsCall, Pushes, IsOpenAt, IsUntold, waits, is_push, is_open_at}
use Rattle.waiting_orders.specs.Lines.{Left, IsLimit, AreOut, left_of, view_left, view_picks, cat, picked}
use Rattle.waiting_orders.specs.Nodes.{each, goes, may_go}
use Rattle.waiting_orders.specs.Pending.{is_pending_pop}
use Rattle.waiting_orders.proofs.Firsts.{and_left, and_right}
use Rattle.waiting_orders.proofs.Inserting.{body_of, value_of}
use Rattle.waiting_orders.proofs.Trades.{unended_untold}

-- ---- tests

pub is_false : (b : Bool) → not b ≡ true → b ≡ false
is_false true e = absurd cc
is_false false e = refl

pub and_parts : (a b : Bool) → (a && b) ≡ true → (a ≡ true) × (b ≡ true)
and_parts a b e = (and_left a b e, and_right a b e)

pub closed_is : (refusal : Refusal) → is_closed refusal ≡ true → refusal ≡ Closed
closed_is Closed e = refl
closed_is _ e = absurd cc

-- what stands at a place of several that are each one of those left
pub out_at : (ops : List Stamped) (left : Left) (picks : List Pick) → AreOut ops left (view_picks picks) → (k : ℕ)
    → IfSome (slice_get picks k) (λ pick. IsPermutation (left_of ops left) (pick.operation ∷ left_of ops (view_left pick.rest)))
out_at ops left [] h k = tt
out_at ops left (pick ∷ picks) h zero = h.0
out_at ops left (pick ∷ picks) h (suc k) = out_at ops left picks h.1 k

-- where a limit is never reached, no operation ended
pub no_limit_untold : (xs : List Stamped) (limit : Option ℕ) → IsLimit xs limit → AllByRecursion IsCall xs → not (is_some limit) ≡ true → AllByRecursion IsUntold xs
no_limit_untold xs limit h calls e = go xs calls (λ time. h.enough calls time (open_any limit e time))
  where
    open_any : (limit : Option ℕ) → not (is_some limit) ≡ true → (time : ℕ) → is_open_at time limit ≡ true
    open_any None e time = refl
    open_any (Some l) e time = absurd cc

    untold : (x : Stamped) → IsCall x → ((time : ℕ) → IsOpenAt time x) → IsUntold x
    untold x c h = unended_untold x c (by x.last h)
      where
        by : (last : Option ℕ) → ((time : ℕ) → IfSome last (λ last. time ≤ last)) → last ≡ None
        by None h = refl
        by (Some last) h = let k : suc last ≤ last = h (suc last) in absurd (omega (arith, k))

    go : (xs : List Stamped) → AllByRecursion IsCall xs → ((time : ℕ) → AllByRecursion (IsOpenAt time) xs) → AllByRecursion IsUntold xs
    go [] c h = tt
    go (x ∷ xs) c h = (untold x c.0 (λ time. (h time).0), go xs c.1 (λ time. (h time).1))

pub may_go_all : (ops : List Stamped) (limit : Option ℕ) (places : List ℕ) → each (may_go ops limit) places ≡ true → AllByRecursion (λ p. (is_open_at p.first limit || not (is_some p.last)) ≡ true) (picked ops places)
may_go_all ops limit [] h = tt
may_go_all ops limit (place ∷ places) h = go (slice_get ops place) refl (and_parts (may_go ops limit place) (each (may_go ops limit) places) h).0
    (may_go_all ops limit places (and_parts (may_go ops limit place) (each (may_go ops limit) places) h).1)
  where
    go : (x : Option Stamped) → slice_get ops place ≡ x → goes limit (slice_get ops place) ≡ true → AllByRecursion (λ p. (is_open_at p.first limit || not (is_some p.last)) ≡ true) (picked ops places)
        → AllByRecursion (λ p. (is_open_at p.first limit || not (is_some p.last)) ≡ true) (picked ops (place ∷ places))
    go None e h more = subst (λ x. AllByRecursion (λ p. (is_open_at p.first limit || not (is_some p.last)) ≡ true) (cat (x ∷ map (slice_get ops) places))) (sym e) more
    go (Some p) e h more = subst (λ x. AllByRecursion (λ p. (is_open_at p.first limit || not (is_some p.last)) ≡ true) (cat (x ∷ map (slice_get ops) places))) (sym e) (sym (ap (goes limit) e) ∙ h, more)

-- those of some calls that end never, where each began by a limit or never ended
pub late_untold : (limit : Option ℕ) (xs : List Stamped) → AllByRecursion IsCall xs → AllByRecursion (λ p. (is_open_at p.first limit || not (is_some p.last)) ≡ true) xs
    → AllByRecursion IsUntold (filter (λ p. not (is_open_at p.first limit)) xs)
late_untold limit [] c h = tt
late_untold limit (x ∷ xs) c h = go (is_open_at x.first limit) h.0 (late_untold limit xs c.1 h.1)
  where
    unended : (last : Option ℕ) → x.last ≡ last → not (is_some last) ≡ true → x.last ≡ None
    unended None e h = e
    unended (Some last) e h = absurd cc

    go : (b : Bool) → (b || not (is_some x.last)) ≡ true → AllByRecursion IsUntold (filter (λ p. not (is_open_at p.first limit)) xs)
        → AllByRecursion IsUntold (cond (not b) (x ∷ filter (λ p. not (is_open_at p.first limit)) xs) (filter (λ p. not (is_open_at p.first limit)) xs))
    go true h more = more
    go false h more = (unended_untold x c.0 (unended x.last refl h), more)

pub own_value : (p : Stamped) → waits p ≡ true → Pushes (value_of p) p
own_value p w = record { actor = refl; op = go p.op refl (is_enq p.op p.reply w); waits = w }
  where
    is_enq : (op : Op) (reply : Option Reply) → is_push op reply ≡ true → (body : _) × (op ≡ Enq body)
    is_enq (Enq body) reply e = (body, refl)
    is_enq Deq reply e = absurd cc
    is_enq Shut reply e = absurd cc

    go : (op : Op) → p.op ≡ op → (body : _) × (op ≡ Enq body) → p.op ≡ Enq (body_of p.op)
    go op e b = e ∙ b.1 ∙ ap (λ op. Enq (body_of op)) (sym (e ∙ b.1))

pub pending_pop : (op : Op) (reply : Option Reply) → is_pending_pop op reply ≡ true → (op ≡ Deq) × (reply ≡ None)
pending_pop (Enq body) reply e = absurd cc
pending_pop Deq None e = (refl, refl)
pending_pop Deq (Some reply) e = absurd cc
pending_pop Shut reply e = absurd cc
