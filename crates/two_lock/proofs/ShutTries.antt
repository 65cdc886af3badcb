-- A shut: it sets out, puts a closed end behind the last node, and its turns.
use Rattle.std.proofs.Common.{◌≡◌, ℕ, zero, suc, ◌+◌, ◌≤◌, ◌<◌, Bool, true, false, nat_eq, if◌then◌else◌, List, [], ◌∷◌, ◌++◌, Some, None, Result, Ok}
use Rattle.std.proofs.Common.{Err, OnOk, IfErr, sym, refl, ap, subst, ◌∙◌, arith, add-one, ⊎_elim, inl, inr, ◌⊎◌}
use Rattle.line_table.specs.declared.lines.Line.{Line}
use Rattle.line_table.specs.declared.lines.Line.TheVariants.{S6, S7, S8, S9}
use Rattle.counted_ref.specs.Ref.{ref_of, null, same_ref}
use Rattle.history.specs.declared.operations.Entry.{Entry}
use Rattle.history.specs.declared.operations.Entry.TheVariants.{Shut}
use Rattle.history.specs.declared.refusals.Refusal.{Refusal}
use Rattle.history.specs.declared.refusals.Refusal.TheVariants.{Busy, Closed}
use Rattle.node_arena.specs.Machine.{shuts}
use Rattle.node_arena.specs.Traces.{Event, entries_at}
use Rattle.node_arena.specs.Prologues.{continues, at_rest, out_of}
use Rattle.node_arena.specs.Arenas.{Arena}
use Rattle.node_arena.specs.declared.seats.Seat.{Seat}
use Rattle.node_arena.specs.Seats.{IsReady, KeepsStored, view}
use Rattle.node_arena.specs.Turns.{failed_turns, at_s6}
use Rattle.node_arena.specs.Paths.{ExtendsPath, FindsShut, StopsAPush, Acts, added}
use Rattle.node_arena.proofs.Noting.{IsSilent}
use Rattle.node_arena.proofs.Paths.{no_walk, walk_then, then_act, act_then, then_shut, then_stored, no_slots, then_slots, quiet_slots, added_is}
use Rattle.node_arena.proofs.Paths.{added_path, ends_failed, failed-append, failed_behind, last_held, stopped_behind, event, walk_on, pass_on, act_on}
use Rattle.node_arena.proofs.Paths.{shut_on, stopped_at, to_is, failed_last}
use Rattle.node_arena.proofs.Loads.{shut_slots}
use Rattle.free_list.specs.declared.outcomes.RowOutcome.{RowOutcome}
use Rattle.free_list.specs.declared.outcomes.RowOutcome.TheVariants.{Goes}
use Rattle.free_list.specs.declared.outcomes.Reply.TheVariants.{Done, Refused as IsRefused}
use Rattle.free_list.proofs.Registers.{same_registers}
use Rattle.arena_queue.specs.Answers.{Shuts, ShutCaused, FailsFewer, AnswersShut}
use Rattle.two_lock.specs.Values.{IsTwoLock}
use Rattle.two_lock.specs.Pushes.{told_by}
use Rattle.two_lock.specs.Shuts.{Running, shutting, answer_of, has_lock, KeepsPocket, CallIsAt, Follows, LetsGo, ShutUnderLock, ShutsUnderLock, Trying}
use Rattle.two_lock.specs.Worn.{shut_worn}
use Rattle.two_lock.proofs.ShutStands.{won_s6, lost_s6, after_s7, won_s8, lost_s8, done_s9, shut_s9}

-- after S7
pub to_s8 : {T : Type 0} (r : Arena) (s t : Seat T) (l : Line) (a b : Running) → CallIsAt r s continues S7 a → Follows r s t continues S7 a (Goes l b) → CallIsAt r t continues S8 b
to_s8 r s t l a b h f = subst (CallIsAt r t continues S8) (sym (same_registers l S8 b (record a { tail = ref_of r.plan.setup.bits f.found }) f.leads_to)) (after_s7 r s t continues f.found a h f.did)

-- what S8 comes to: a closed end was put there, or the queue was found shut
module _ {T : Type 0} (r : Arena) (s t : Seat T) (l : Line) (a b : Running) (h : CallIsAt r s continues S8 a) (f : Follows r s t continues S8 a (Goes l b)) where
  abbrev added_there : List Entry
  added_there = entries_at r.plan.setup f.did.told.was (view s).number (view s).actor S8

  pub record Put : Type 0 where
    pub due : b.due ≡ Some Done
    pub adds : added_there ≡ Shut (view s).number ∷ []

  pub record Lost : Type 0 where
    pub due : b.due ≡ Some (IsRefused Closed)
    pub adds : added_there ≡ []

  abbrev eighth : Bool → RowOutcome Running
  eighth p = if p then Goes S9 (record a { due = Some Done }) else Goes S9 (record a { due = Some (IsRefused Closed) })

  pub after_s8 : CallIsAt r t continues S9 b × (Put ⊎ Lost)
  after_s8 = go (same_ref (ref_of r.plan.setup.bits f.found) null) refl f.leads_to
    where
      go : (p : Bool) → same_ref (ref_of r.plan.setup.bits f.found) null ≡ p → Goes l b ≡ eighth p → CallIsAt r t continues S9 b × (Put ⊎ Lost)
      go true e q =
          let same : b ≡ record a { due = Some Done } = same_registers l S9 b (record a { due = Some Done }) q in
          let k = won_s8 r s t continues f.found a h f.did e in
          (subst (CallIsAt r t continues S9) (sym same) k.0, inl (record { due = ap (λ (x : Running). x.due) same; adds = k.1 }))
      go false e q =
          let same : b ≡ record a { due = Some (IsRefused Closed) } = same_registers l S9 b (record a { due = Some (IsRefused Closed) }) q in
          let k = lost_s8 r s t continues f.found a h f.did e in
          (subst (CallIsAt r t continues S9) (sym same) k.0, inr (record { due = ap (λ (x : Running). x.due) same; adds = k.1 }))

-- the lines under the lock
module _ {T : Type 0} (r : Arena) (s u t : Seat T) (a b c : Running) (l k : Line) (h : CallIsAt r s continues S7 a)
    (f : Follows r s u continues S7 a (Goes l b)) (g : Follows r u t continues S8 b (Goes k c)) where
  at_s8 : CallIsAt r u continues S8 b
  at_s8 = to_s8 r s u l a b h f

  abbrev seven : Event
  seven = event r s u continues S7 f.found f.did

  abbrev eight : Event
  eight = event r u t continues S8 g.found g.did

  first : ExtendsPath (view s) (view u) (seven ∷ [])
  first = walk_on r s u continues S7 f.found f.did refl tt

  pub at_s9 : CallIsAt r t continues S9 c
  at_s9 = (after_s8 r u t k b c at_s8 g).0

  module _ (x : Seat T) (out : Result (Unit {0}) Refusal) (m : LetsGo r t x c out) where
    abbrev nine : Event
    nine = event r t x continues S9 m.found m.did

    -- its end, where the line and the pocket are as they should be
    ended : (o : Result (Unit {0}) Refusal) → out ≡ o → (view x).actor.line ≡ None → KeepsPocket x (view x).actor → ShutUnderLock r s x (seven ∷ eight ∷ nine ∷ []) o → ShutsUnderLock r s x out
    ended o is over pocket shuts =
        record {
          seat = m.did.seat;
          over = over;
          pocket = pocket;
          stored = then_stored s t x (then_stored s u t f.did.stored g.did.stored) m.did.stored;
          slots = then_slots s t x (then_slots s u t (quiet_slots r s u continues S7 f.found f.did refl)
              (shut_slots r u t continues S8 g.found g.did (view u).number _ refl)) (quiet_slots r t x continues S9 m.found m.did refl);
          lines = seven ∷ eight ∷ nine ∷ [];
          never = refl;
          shuts = subst (ShutUnderLock r s x (seven ∷ eight ∷ nine ∷ [])) (sym is) shuts;
        }

    put : Put r u t k b c at_s8 g → ShutsUnderLock r s x out
    put p =
        let over = done_s9 r t x continues m.found c at_s9 m.did p.due in
        let acts : Acts (view u) (view t) (Shut (view u).number) (eight ∷ []) = act_on r u t continues S8 g.found g.did (Shut (view u).number) p.adds tt in
        let before : Acts (view s) (view t) (Shut (view s).number) (seven ∷ eight ∷ []) = then_act (view s) (view u) (view t) (Shut (view u).number)
        (Shut (view s).number) (seven ∷ []) (eight ∷ []) (ap Shut first.number) first acts in
        let quiet : IsSilent (view t).actor.due = subst IsSilent (sym (at_s9.knows ∙ ap told_by p.due)) tt in
        ended (Ok tt) (m.answers ∙ ap answer_of p.due) over.0 over.1
        (act_then (view s) (view t) (view x) (Shut (view s).number) (seven ∷ eight ∷ []) (nine ∷ []) before (pass_on r t x continues S9 m.found m.did refl quiet refl))

    lost : Lost r u t k b c at_s8 g → ShutsUnderLock r s x out
    lost p =
        let over = shut_s9 r t x continues m.found c at_s9 m.did p.due in
        let walks : ExtendsPath (view s) (view t) (seven ∷ eight ∷ []) = walk_then (view s) (view u) (view t) (seven ∷ []) (eight ∷ []) first (walk_on r u t continues S8 g.found g.did p.adds tt) in
        ended (Err Closed) (m.answers ∙ ap answer_of p.due) over.0 over.1
        (record {
          is = refl;
          finds = then_shut (view s) (view t) (view x) (seven ∷ eight ∷ []) (nine ∷ []) walks (shut_on r t x continues S9 m.found m.did refl over.2);
          cause = stopped_at r t x continues S9 m.found m.did s (seven ∷ eight ∷ []) Closed walks over.2;
        })

    pub puts_end : ShutsUnderLock r s x out
    puts_end = ⊎_elim put lost (after_s8 r u t k b c at_s8 g).1

-- a shut sets out
pub shuts_out : {T : Type 0} (r : Arena) (s : Seat T) → IsReady r s → IsTwoLock r → Trying r s s 0
shuts_out r s h two =
    record {
      before = record { seat = h.seat; can = (refl, h.free); line = ap (λ k. Some (shuts k)) two };
      pocket = sym h.pocket;
      stored = record { number = refl; role = refl; keeps = refl; pocket = refl; failed = refl };
      slots = no_slots s;
      lines = [];
      walks = no_walk (view s);
      failed = refl;
      last = λ one. absurd (omega arith);
    }

-- a try of the lock, which got it or failed
module _ {T : Type 0} (r : Arena) (s t u : Seat T) (n : ℕ) (g : Trying r s t n) (a : Running) (out : RowOutcome Running) (f : Follows r t u (shutting n) S6 a out) where
  abbrev try : Event
  try = event r t u (shutting n) S6 f.found f.did

  stands : CallIsAt r t (shutting n) S6 a
  stands = record { before = g.before; pocket = g.pocket; knows = tt }

  tells : (p : Bool) → nat_eq f.found 0 ≡ p → has_lock out ≡ p
  tells true e = ap has_lock (f.leads_to ∙ ap (λ q. if q then Goes S7 a else Goes S6 a) e)
  tells false e = ap has_lock (f.leads_to ∙ ap (λ q. if q then Goes S7 a else Goes S6 a) e)

  found_is : (p : Bool) → has_lock out ≡ p → nat_eq f.found 0 ≡ p
  found_is p e = sym (tells (nat_eq f.found 0) refl) ∙ e

  tried : ExtendsPath (view s) (view u) (g.lines ++ try ∷ [])
  tried = walk_then (view s) (view t) (view u) g.lines (try ∷ []) g.walks (walk_on r t u (shutting n) S6 f.found f.did refl tt)

  pub has_got : has_lock out ≡ true → (c : Running) → CallIsAt r u continues S7 c
  has_got e = won_s6 r t u (shutting n) f.found a stands f.did (found_is true e)

  -- a turn failed
  pub shut_again : has_lock out ≡ false → Trying r s u (n + 1)
  shut_again e =
      let x : CallIsAt r u continues S6 a = lost_s6 r t u (shutting n) f.found a stands f.did (found_is false e) in
      let z : at_s6 (view u).actor.line ≡ 1 = ap at_s6 x.before.line in
      let once : failed_turns (try ∷ []) ≡ 1 = (let y : at_s6 try.to ≡ 1 = ap at_s6 (to_is r t u (shutting n) S6 f.found f.did) ∙ z in omega arith) in
      record {
        before = rw add-one x.before;
        pocket = rw add-one x.pocket;
        stored = then_stored s t u g.stored f.did.stored;
        slots = then_slots s t u g.slots (quiet_slots r t u (shutting n) S6 f.found f.did refl);
        lines = g.lines ++ try ∷ [];
        walks = tried;
        failed = omega (arith, failed-append g.lines (try ∷ []), g.failed, once);
        last = λ some. failed_behind g.lines (try ∷ []) (failed_last r t u (shutting n) S6 f.found f.did [] z);
      }

  -- the lock was got
  pub shut_ends : (x : Seat T) (turns : ℕ) (o : Result (Unit {0}) Refusal) → has_lock out ≡ true → n < turns → ShutsUnderLock r u x o → AnswersShut shut_worn r s x turns o
  shut_ends x turns o e less k =
      record {
        ready = record { seat = k.seat; free = ap (λ b. b.line) rest ∙ k.over; pocket = sym (ap (λ b. b.pocket) rest ∙ k.pocket) };
        same = record { number = name.number; role = name.role; keeps = name.keeps };
        slots = then_slots s u x (then_slots s t u g.slots (quiet_slots r t u (shutting n) S6 f.found f.did refl)) k.slots;
        pocket = name.pocket;
        shut = shut_of o k.shuts;
        few = few_of o k.shuts;
        refused = refused_by o k.shuts;
      }
    where
      before : List Event
      before = g.lines ++ try ∷ []

      es : List Event
      es = before ++ k.lines

      name : KeepsStored s x
      name = then_stored s u x (then_stored s t u g.stored f.did.stored) k.stored

      rest : at_rest (view x).actor ≡ (view x).actor
      rest = ap (out_of (view x).actor) k.over

      none : failed_turns (try ∷ []) ≡ 0
      none = let z : at_s6 try.to ≡ 0 = ap at_s6 (to_is r t u (shutting n) S6 f.found f.did ∙ (has_got e a).before.line) in omega arith

      all : failed_turns es ≡ n
      all = omega (arith, failed-append before k.lines, failed-append g.lines (try ∷ []), g.failed, none, k.never)

      acted : Acts (view u) (view x) (Shut (view u).number) k.lines → Acts (view s) (view x) (Shut (view s).number) es
      acted = then_act (view s) (view u) (view x) (Shut (view u).number) (Shut (view s).number) before k.lines (ap Shut tried.number) tried

      found : FindsShut (view u) (view x) k.lines → FindsShut (view s) (view x) es
      found = then_shut (view s) (view u) (view x) before k.lines tried

      shut_of : (o : Result (Unit {0}) Refusal) → ShutUnderLock r u x k.lines o → OnOk o (Shuts s x)
      shut_of (Ok y) h = let acts = acted h in subst (Acts (view s) (view x) (Shut (view s).number)) (sym (added_path s x es acts.path)) acts
      shut_of (Err refusal) h = tt

      few_of : (o : Result (Unit {0}) Refusal) → ShutUnderLock r u x k.lines o → OnOk o (FailsFewer s x turns)
      few_of (Ok y) h = let c : failed_turns (added s x) ≡ failed_turns es = ap failed_turns (added_path s x es (acted h).path) in omega (arith, c, all, less)
      few_of (Err refusal) h = tt

      refused_by : (o : Result (Unit {0}) Refusal) → ShutUnderLock r u x k.lines o → IfErr o (λ refusal. StopsAPush s x refusal × ShutCaused shut_worn r s x turns refusal)
      refused_by (Ok y) h = tt
      refused_by (Err refusal) h =
          let finds = found h.finds in
          let e : added s x ≡ es = added_path s x es finds.path in
          subst (λ y. StopsAPush s x y × ShutCaused shut_worn r s x turns y) (sym h.is) (
            subst (FindsShut (view s) (view x)) (sym e) finds,
            last_held r s x es _ e (stopped_behind r s u before k.lines Closed tried h.cause),
          )

-- all turns failed
pub shut_gives_up : {T : Type 0} (r : Arena) (s t : Seat T) (turns n : ℕ) → 1 ≤ n → n ≡ turns → Trying r s t n → AnswersShut shut_worn r s t turns (Err Busy)
shut_gives_up r s t turns zero some all g = absurd (omega arith)
shut_gives_up r s t turns (suc m) some all g =
    let e : added s t ≡ g.lines = added_is s t g.lines g.walks in
    let rest : at_rest (view t).actor ≡ record (view t).actor { line = None } = ap (out_of (view t).actor) g.before.line in
    record {
      ready = record { seat = g.before.seat; free = ap (λ b. b.line) rest; pocket = sym (ap (λ b. b.pocket) rest ∙ g.pocket) };
      same = record { number = g.stored.number; role = g.stored.role; keeps = g.stored.keeps };
      slots = g.slots;
      pocket = g.stored.pocket;
      shut = tt;
      few = tt;
      refused = (
        subst (ExtendsPath (view s) (view t)) (sym e) g.walks,
        ((let c = ap failed_turns e in let f = g.failed in omega arith), ends_failed s t g.lines e (g.last some)),
      );
    }
