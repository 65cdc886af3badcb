-- Where each line of a take leads: before which line the call then stands, or how its turn ends.
use Rattle.std.proofs.Common.{◌≡◌, ◌≢◌, inl, inr, ℕ, ◌+◌, ◌<◌, ◌≤◌, Bool, true, false, if◌then◌else◌, nat_eq, nat_lt, length, Option, Some, [], sym, refl, ap, ◌∙◌, subst, arith}
use Rattle.std.specs.Coded.{le_prop}
use Rattle.std.proofs.lemmas.Bool.{eqb-true}
use Rattle.counted_ref.specs.Ref.{Ref, ref_of, is_null, same_ref}
use Rattle.counted_ref.proofs.Words.{same_ref-true}
use Rattle.line_table.specs.declared.lines.Kind.{Kind}
use Rattle.line_table.specs.declared.lines.Kind.TheVariants.{TwoLock, NonBlocking}
use Rattle.line_table.specs.declared.lines.Line.{Line}
use Rattle.line_table.specs.declared.lines.Line.TheVariants.{N1, N2, N3, N4, N5}
use Rattle.history.specs.declared.refusals.WornWord.TheVariants.{Free as OfFree}
use Rattle.history.specs.declared.refusals.Refusal.{Refusal}
use Rattle.history.specs.declared.refusals.Refusal.TheVariants.{NoNode, WornOut}
use Rattle.history.specs.declared.operations.Reply.TheVariants.{Refused}
use Rattle.node_arena.specs.Machine.{Actor, Outcome, entry_or, with_node, goes, ends, worn, fills_hand, IsFree}
use Rattle.node_arena.specs.Traces.{Event, outcome_at}
use Rattle.node_arena.specs.Prologues.{Prologue, continues, after_prologue}
use Rattle.node_arena.specs.Arenas.{Arena}
use Rattle.node_arena.specs.declared.seats.Seat.{Seat}
use Rattle.node_arena.specs.Seats.{IsSeat, DidStep, view}
use Rattle.node_arena.specs.Turns.{failed_at, at_n1}
use Rattle.node_arena.proofs.Paths.{no_walk, event, to_is, ended_at, stopped_at, failed_last, now_sole}
use Rattle.node_arena.proofs.Known.{by_known, empty_before}
use Rattle.node_arena.proofs.Told.{first_is_free}
use Rattle.node_arena.proofs.Tracing.{traced_reached}
use Rattle.free_list.specs.declared.outcomes.RowOutcome.{RowOutcome}
use Rattle.free_list.specs.declared.outcomes.RowOutcome.TheVariants.{Goes, Ends}
use Rattle.free_list.specs.declared.outcomes.Reply.TheVariants.{Refused as IsRefused}
use Rattle.free_list.proofs.Registers.{same_registers}
use Rattle.free_list.specs.declared.turns.Turn.TheVariants.{Took, Failed}
use Rattle.free_list.specs.Registers.{Running}
use Rattle.free_list.specs.Runs.{follow, in_hand, turn_of, AgreesAt, CallIsAt, Follows, GoesTo}
use Rattle.free_list.specs.Takes.{WasThere, IsRefusedBy, Turns, StandsAfterN2}
use Rattle.free_list.proofs.Steps.{ref_free, ref_n3}
use Rattle.free_list.proofs.Ways.{IsQuiet, one_line}

pub stands_on : {T : Type 0} (r : Arena) (t : Seat T) (l : Line) (a : Running) → IsSeat r t → (view t).actor.line ≡ Some l → AgreesAt l (view t).actor a → CallIsAt r t continues l a
stands_on r t l a seat line knows = record { before = record { seat = seat; can = tt; line = line }; knows = knows }

none_with_node : (k : Kind) (o : Option Line) → o ≡ Some (with_node k) → at_n1 o ≡ 0
none_with_node TwoLock o e = ap at_n1 e
none_with_node NonBlocking o e = ap at_n1 e

-- a node in hand is what its turn took
took_at : {T : Type 0} (k : Kind) (r : Arena) (s t : Seat T) (a : Running) → Turns r s t 0 (Took (in_hand a)) → Turns r s t 0 (turn_of (Goes (with_node k) a))
took_at TwoLock r s t a g = g
took_at NonBlocking r s t a g = g

module _ {T : Type 0} (r : Arena) (s t : Seat T) (prologue : Prologue) where
  abbrev b : Actor
  b = after_prologue r.plan.setup (view s).number prologue (view s).actor

  -- the actor after a step with this outcome
  pub settled_as : (l : Line) (n : ℕ) (d : DidStep r s t prologue l n) (o : Outcome)
      → outcome_at r.plan.setup d.told.was (view s).number b l ≡ o → (x : Option ℕ) × ((view t).actor ≡ record o.actor { entry = x })
  settled_as l n d o e = (
    Some (entry_or b.entry (length d.told.was.world.operations)),
    d.told.actor ∙ ap (λ (p : Outcome). record p.actor { entry = Some (entry_or b.entry (length d.told.was.world.operations)) }) e,
  )

  -- a turn ends at N4 or N5
  module _ (l : Line) (n : ℕ) (d : DidStep r s t prologue l n) (quiet : IsQuiet r s t prologue l n d) (fails_so : (o : Option Line) → failed_at l o ≡ at_n1 o) where
    -- a node came into the hand
    pub record Holding (h : Running) : Type 0 where
      pub over : (view t).actor.line ≡ Some (with_node r.plan.setup.kind)
      pub node : (view t).actor.node ≡ h.node
      pub mark : (view t).actor.mark ≡ h.mark
      pub held : (view t).actor.holds ≡ true
      pub some : 1 ≤ h.node
      pub there : WasThere h.node d.told.was.world

    abbrev one : Event
    one = event r s t prologue l n d

    got : (h : Running) → Holding h → Turns r s t 0 (turn_of (Goes (with_node r.plan.setup.kind) h))
    got h o =
        took_at r.plan.setup.kind r s t h
        (record {
          way = one_line r s t prologue l n d quiet;
          failed = (let z : failed_at l one.to ≡ 0 = fails_so one.to ∙ none_with_node r.plan.setup.kind one.to (to_is r s t prologue l n d ∙ o.over) in omega arith);
          turned = record {
            seat = d.seat;
            over = o.over;
            node = o.node;
            mark = o.mark;
            there = ended_at r s t prologue l n d s [] _ (no_walk (view s)) o.there;
            sole = now_sole r s t prologue l n d h.node o.held o.node o.some;
          };
        })

    fell : (view t).actor.line ≡ Some N1 → Turns r s t 0 Failed
    fell line =
        let e : failed_at l (view t).actor.line ≡ 1 = fails_so (view t).actor.line ∙ ap at_n1 line in
        record {
          way = one_line r s t prologue l n d quiet;
          failed = (let z : failed_at l one.to ≡ 1 = ap (failed_at l) (to_is r s t prologue l n d) ∙ e in omega arith);
          turned = record { before = record { seat = d.seat; can = tt; line = line }; last = failed_last r s t prologue l n d [] e };
        }

  module _ (a : Running) where
    -- N1
    pub after_n1 : (c : Running) → Follows r s t prologue N1 a (Goes N2 c) → GoesTo r s t N2 c
    after_n1 c f =
        let same : c ≡ record a { f = f.found } = same_registers N2 N2 c (record a { f = f.found }) f.leads_to in
        record {
          way = one_line r s t prologue N1 f.found f.did (refl, tt, refl);
          never = refl;
          stands = stands_on r t N2 c f.did.seat (ap (λ x. x.line) f.did.told.actor) (ap (λ x. x.f) f.did.told.actor ∙ sym f.did.told.found ∙ sym (ap (λ x. x.f) same));
        }

    -- N2
    abbrev second_outcome : (now : ℕ) → Ref → (p q u : Bool) → Outcome
    second_outcome now top p q u =
        if p
        then if q then goes N5 (record b { top = top }) else ends now (Refused NoNode) (record b { top = top })
        else if u then worn now OfFree (record b { top = top })
        else goes N3 (record b { top = top })

    abbrev second : Ref → (p q u : Bool) → RowOutcome Running
    second top p q u =
        if p
        then if q then Goes N5 (record a { top = top }) else Ends (IsRefused NoNode)
        else if u then Ends (IsRefused (WornOut OfFree))
        else Goes N3 (record a { top = top })

    module _ (n : ℕ) (d : DidStep r s t prologue N2 n) (h : CallIsAt r s prologue N2 a) where
      abbrev now : ℕ
      now = d.told.was.world.steps + 1

      abbrev free : Ref
      free = d.told.was.world.shared.free

      abbrev here : Outcome
      here = outcome_at r.plan.setup d.told.was (view s).number b N2

      on : (l : Line) (o : Outcome) → here ≡ o → o.actor.line ≡ Some l → ((c : Actor) (x : Option ℕ) → c ≡ record o.actor { entry = x }
          → AgreesAt l c (record a { top = free })) → GoesTo r s t l (record a { top = free })
      on l o e line knows =
          let z = settled_as N2 n d o e in
          record {
            way = one_line r s t prologue N2 n d (refl, tt, refl);
            never = refl;
            stands = stands_on r t l (record a { top = free }) d.seat (ap (λ c. c.line) z.1 ∙ line) (knows (view t).actor z.0 z.1);
          }

      over : (refusal : Refusal) (c : Actor) → c.pocket ≡ b.pocket → here ≡ ends now (Refused refusal) c → IsRefusedBy refusal → Turns r s t 0 (turn_of (Ends (IsRefused refusal)))
      over refusal c pocket e possible =
          let z = settled_as N2 n d (ends now (Refused refusal) c) e in
          record {
            way = one_line r s t prologue N2 n d (refl, tt, refl);
            failed = refl;
            turned = record {
              seat = d.seat;
              over = ap (λ x. x.line) z.1;
              empty = ap (λ x. x.pocket) z.1 ∙ pocket ∙ empty_before r s prologue N2 h.before;
              cause = stopped_at r s t prologue N2 n d s [] refusal (no_walk (view s)) (ap (λ x. x.reply) e);
              possible = possible;
            };
          }

      looked : (p q u : Bool) → here ≡ second_outcome now free p q u → StandsAfterN2 r s t (second free p q u)
      looked true true u e = on N5 _ e refl (λ c k z. ap (λ x. x.f) z ∙ h.knows)
      looked true false u e = over NoNode (record b { top = free }) refl e (inl refl)
      looked false q true e = over (WornOut OfFree) (record b { top = free }) refl e (inr refl)
      looked false q false e = on N3 _ e refl (λ c k z. ap (λ x. x.top) z)

      looks : StandsAfterN2 r s t (follow r.plan.setup a N2 n)
      looks =
          subst (λ x. StandsAfterN2 r s t (second x (is_null x) (nat_lt a.f r.plan.setup.size) (nat_eq x.count r.plan.setup.limit))) (sym (ref_free r s t prologue n N2 d d.told.found))
          (looked (is_null free) (nat_lt a.f r.plan.setup.size) (nat_eq free.count r.plan.setup.limit)
          (ap (λ k. second_outcome now free (is_null free) (nat_lt k r.plan.setup.size) (nat_eq free.count r.plan.setup.limit)) h.knows))

    pub after_n2 : (out : RowOutcome Running) → CallIsAt r s prologue N2 a → Follows r s t prologue N2 a out → StandsAfterN2 r s t out
    after_n2 out h f = subst (StandsAfterN2 r s t) (sym f.leads_to) (looks f.found f.did h)

    -- N3
    pub after_n3 : (c : Running) → CallIsAt r s prologue N3 a → Follows r s t prologue N3 a (Goes N4 c) → GoesTo r s t N4 c
    after_n3 c h f =
        let same : c ≡ record a { next = ref_of r.plan.setup.bits f.found } = same_registers N4 N4 c (record a { next = ref_of r.plan.setup.bits f.found }) f.leads_to in
        record {
          way = one_line r s t prologue N3 f.found f.did (refl, tt, refl);
          never = refl;
          stands =
              subst (CallIsAt r t continues N4) (sym same)
              (stands_on r t N4 (record a { next = ref_of r.plan.setup.bits f.found }) f.did.seat (ap (λ x. x.line) f.did.told.actor)
              (ap (λ x. x.top) f.did.told.actor ∙ h.knows, ap (λ x. x.next) f.did.told.actor ∙ sym (ref_n3 r s t prologue f.found f.did)));
        }

    -- N4
    abbrev fourth : Bool → Outcome
    fourth p = if p then goes (with_node r.plan.setup.kind) (fills_hand b.top.node b.next.count b) else goes N1 b

    pub after_n4 : (out : RowOutcome Running) → CallIsAt r s prologue N4 a → Follows r s t prologue N4 a out → Turns r s t 0 (turn_of out)
    after_n4 out h f = subst (λ o. Turns r s t 0 (turn_of o)) (sym f.leads_to) (go (same_ref (ref_of r.plan.setup.bits f.found) a.top) refl)
      where
        same : (p : Bool) → same_ref (ref_of r.plan.setup.bits f.found) a.top ≡ p → same_ref f.did.told.was.world.shared.free b.top ≡ p
        same p e = (λ i. same_ref (sym (ref_free r s t prologue f.found N4 f.did f.did.told.found) i) (h.knows.0 i)) ∙ e

        won : same_ref (ref_of r.plan.setup.bits f.found) a.top ≡ true → Holding N4 f.found f.did (refl, tt, refl) (λ o. refl) (record a { node = a.top.node; mark = a.next.count })
        won e =
            let o = settled_as N4 f.found f.did (fourth true) (ap fourth (same true e)) in
            let is : f.did.told.was.world.shared.free ≡ a.top = same_ref-true f.did.told.was.world.shared.free b.top (same true e) ∙ h.knows.0 in
            let some : 1 ≤ a.top.node = subst (λ (x : Ref). 1 ≤ x.node) h.knows.0 (by_known r s prologue N4 h.before le_prop (λ k. k.some)) in
            record {
              over = ap (λ c. c.line) o.1;
              node = ap (λ c. c.node) o.1 ∙ ap (λ x. x.node) h.knows.0;
              mark = ap (λ c. c.mark) o.1 ∙ ap (λ x. x.count) h.knows.1;
              held = ap (λ c. c.holds) o.1;
              some = some;
              there =
                  inl (subst (IsFree f.did.told.was.world) (ap (λ x. x.node) is)
                  (first_is_free f.did.told.was.world (traced_reached f.did.told.was f.did.told.reached) (subst (λ (x : Ref). 1 ≤ x.node) (sym is) some)));
            }

        go : (p : Bool) → same_ref (ref_of r.plan.setup.bits f.found) a.top ≡ p → Turns r s t 0
            (turn_of (if p then Goes (with_node r.plan.setup.kind) (record a { node = a.top.node; mark = a.next.count }) else Goes N1 a))
        go true e = got N4 f.found f.did (refl, tt, refl) (λ o. refl) (record a { node = a.top.node; mark = a.next.count }) (won e)
        go false e = fell N4 f.found f.did (refl, tt, refl) (λ o. refl) (ap (λ c. c.line) (settled_as N4 f.found f.did (fourth false) (ap fourth (same false e))).1)

    -- N5
    abbrev fifth : Bool → Outcome
    fifth p = if p then goes (with_node r.plan.setup.kind) (fills_hand (b.f + 1) 0 b) else goes N1 b

    pub after_n5 : (out : RowOutcome Running) → CallIsAt r s prologue N5 a → Follows r s t prologue N5 a out → Turns r s t 0 (turn_of out)
    after_n5 out h f = subst (λ o. Turns r s t 0 (turn_of o)) (sym f.leads_to) (go (nat_eq f.found a.f) refl)
      where
        same : (p : Bool) → nat_eq f.found a.f ≡ p → nat_eq f.did.told.was.world.shared.fresh b.f ≡ p
        same p e = (λ i. nat_eq (sym f.did.told.found i) (h.knows i)) ∙ e

        won : nat_eq f.found a.f ≡ true → Holding N5 f.found f.did (refl, tt, refl) (λ o. refl) (record a { node = a.f + 1; mark = 0 })
        won e =
            let o = settled_as N5 f.found f.did (fifth true) (ap fifth (same true e)) in
            let is : f.found ≡ a.f = eqb-true f.found a.f e in
            let k = f.did.told.found in
            record {
              over = ap (λ c. c.line) o.1;
              node = ap (λ c. c.node) o.1 ∙ ap (λ k. k + 1) h.knows;
              mark = ap (λ c. c.mark) o.1;
              held = ap (λ c. c.holds) o.1;
              some = omega arith;
              there = inr (let u : f.did.told.was.world.shared.fresh < a.f + 1 = omega arith in u);
            }

        go : (p : Bool) → nat_eq f.found a.f ≡ p → Turns r s t 0 (turn_of (if p then Goes (with_node r.plan.setup.kind) (record a { node = a.f + 1; mark = 0 }) else Goes N1 a))
        go true e = got N5 f.found f.did (refl, tt, refl) (λ o. refl) (record a { node = a.f + 1; mark = 0 }) (won e)
        go false e = fell N5 f.found f.did (refl, tt, refl) (λ o. refl) (ap (λ c. c.line) (settled_as N5 f.found f.did (fifth false) (ap fifth (same false e))).1)

-- after N2 it stands before N3, if not before N5
pub at_n3 : {T : Type 0} (r : Arena) (s t : Seat T) (l : Line) (a : Running) → l ≢ N5 → StandsAfterN2 r s t (Goes l a) → GoesTo r s t N3 a
at_n3 r s t N3 a other h = h
at_n3 r s t N5 a other h = absurd (other refl)
at_n3 r s t _ a other h = absurd h
