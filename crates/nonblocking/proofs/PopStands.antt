-- Where each line of a pop leads.
use Rattle.std.proofs.Common.{◌≡◌, ℕ, ◌+◌, Bool, true, false, nat_eq, if◌then◌else◌, Option, Some, None, [], ◌∷◌, sym, refl, ap, ◌∙◌}
use Rattle.counted_ref.specs.Ref.{Ref, ref_of, is_null, is_shut, same_ref}
use Rattle.line_table.specs.declared.lines.Line.{Line}
use Rattle.line_table.specs.declared.lines.Line.TheVariants.{D2, D3, D4, D5, D10, D12, D13, F1}
use Rattle.history.specs.declared.operations.Entry.TheVariants.{Pop}
use Rattle.history.specs.declared.operations.Reply.TheVariants as reply
use Rattle.history.specs.declared.refusals.Refusal.{Refusal}
use Rattle.history.specs.declared.refusals.Refusal.TheVariants.{WornOut, Closed}
use Rattle.history.specs.declared.refusals.WornWord.TheVariants.{Head as OfHead, Tail as OfTail}
use Rattle.node_arena.specs.Machine.{Actor, Outcome, goes, ends, worn, closed, fills_hand}
use Rattle.node_arena.specs.Traces.{outcome_at, entries_at}
use Rattle.node_arena.specs.Prologues.{Prologue, continues, after_prologue}
use Rattle.node_arena.specs.Arenas.{Arena}
use Rattle.node_arena.specs.declared.seats.Seat.{Seat}
use Rattle.node_arena.specs.Seats.{IsBefore, DidStep, view}
use Rattle.node_arena.proofs.Known.{empty_before}
use Rattle.node_arena.proofs.Paths.{settled, goes_on}
use Rattle.node_arena.proofs.Told.{head_is_not_worn}
use Rattle.nonblocking.specs.Values.{IsNonBlocking}
use Rattle.node_arena.specs.Machine.{value_of}
use Rattle.free_list.specs.declared.outcomes.RowOutcome.{RowOutcome}
use Rattle.free_list.specs.declared.outcomes.RowOutcome.TheVariants.{Goes, Ends}
use Rattle.free_list.specs.declared.outcomes.Reply.TheVariants.{Empty as IsEmpty, Refused as IsRefused}
use Rattle.nonblocking.specs.Pops.{Running, AgreesAt, CallIsAt}
use Rattle.nonblocking.proofs.PopSteps.{ref_d2, ref_d3, ref_d4, ref_d5, value_d12, ref_d13}

-- a pop that is about to read Head knows nothing of its registers
pub stands_d2 : {T : Type 0} (r : Arena) (t : Seat T) (prologue : Prologue) (a : Running) → IsBefore r t prologue D2 → CallIsAt r t prologue D2 a
stands_d2 r t prologue a h = record { before = h; knows = tt }

module _ {T : Type 0} (r : Arena) (s t : Seat T) (prologue : Prologue) (n : ℕ) (a : Running) where
  abbrev b : Actor
  b = after_prologue r.plan.setup (view s).number prologue (view s).actor

  -- what the machine makes of the step
  abbrev out_at : (l : Line) → DidStep r s t prologue l n → Outcome
  out_at l d = outcome_at r.plan.setup d.told.was (view s).number b l

  -- a step with this outcome leads on to a line
  leads : (l : Line) (d : DidStep r s t prologue l n) (o : Outcome) → out_at l d ≡ o → (k : Line) (c : Running) → o.actor.line ≡ Some k
      → ((x : Option ℕ) → AgreesAt k (record o.actor { entry = x }) c) → CallIsAt r t continues k c
  leads l d o e k c line knows = record { before = goes_on r s t prologue l n d o e k line; knows = settled r s t prologue l n d o e (λ x. AgreesAt k x c) knows }

  -- a call that ends has an empty pocket, where its outcome keeps that of its actor
  over : (l : Line) → CallIsAt r s prologue l a → (after_prologue r.plan.setup (view s).number prologue (view s).actor).pocket ≡ None
      → (d : DidStep r s t prologue l n) (o : Outcome) → out_at l d ≡ o → o.actor.line ≡ None → o.actor.pocket ≡ b.pocket
      → ((view t).actor.line ≡ None) × ((view t).actor.pocket ≡ None)
  over l h none d o e line pocket = settled r s t prologue l n d o e (λ x. (x.line ≡ None) × (x.pocket ≡ None)) (λ x. (line, pocket ∙ none))

  pub after_d2 : CallIsAt r s prologue D2 a → DidStep r s t prologue D2 n → CallIsAt r t continues D3 (record a { head = ref_of r.plan.setup.bits n })
  after_d2 h d = leads D2 d (out_at D2 d) refl D3 (record a { head = ref_of r.plan.setup.bits n }) refl (λ x. sym (ref_d2 r s t prologue n d))

  pub after_d3 : CallIsAt r s prologue D3 a → DidStep r s t prologue D3 n → CallIsAt r t continues D4 (record a { tail = ref_of r.plan.setup.bits n })
  after_d3 h d = leads D3 d (out_at D3 d) refl D4 (record a { tail = ref_of r.plan.setup.bits n }) refl (λ x. (h.knows, sym (ref_d3 r s t prologue n d)))

  pub after_d4 : CallIsAt r s prologue D4 a → DidStep r s t prologue D4 n → CallIsAt r t continues D5 (record a { next = ref_of r.plan.setup.bits n })
  after_d4 h d = leads D4 d (out_at D4 d) refl D5 (record a { next = ref_of r.plan.setup.bits n }) refl (λ x. (h.knows.0, h.knows.1, sym (ref_d4 r s t prologue n d)))

  -- after D5: the turn goes on, in silence
  pub record GoesOnAt (d : DidStep r s t prologue D5 n) (l : Line) (c : Running) : Type 0 where
    pub stands : CallIsAt r t continues l c
    pub same : c ≡ a
    pub quiet : (out_at D5 d).reply ≡ None

  -- or the queue was empty
  pub record FoundNull (d : DidStep r s t prologue D5 n) : Type 0 where
    pub over : (view t).actor.line ≡ None
    pub empty : (view t).actor.pocket ≡ None
    pub replies : (out_at D5 d).reply ≡ Some reply.Empty

  -- or Tail was worn out
  pub record FoundWorn (d : DidStep r s t prologue D5 n) (refusal : Refusal) : Type 0 where
    pub over : (view t).actor.line ≡ None
    pub empty : (view t).actor.pocket ≡ None
    pub replies : (out_at D5 d).reply ≡ Some (reply.Refused (WornOut OfTail))
    pub is : refusal ≡ WornOut OfTail

  -- or the queue was shut and empty
  pub record FoundShut (d : DidStep r s t prologue D5 n) : Type 0 where
    pub over : (view t).actor.line ≡ None
    pub empty : (view t).actor.pocket ≡ None
    pub replies : (out_at D5 d).reply ≡ Some (reply.Refused Closed)

  abbrev pub AfterD5 : DidStep r s t prologue D5 n → RowOutcome Running → Type 0
  AfterD5 d (Goes D2 c) = GoesOnAt d D2 c
  AfterD5 d (Goes D10 c) = GoesOnAt d D10 c
  AfterD5 d (Goes D12 c) = GoesOnAt d D12 c
  AfterD5 d (Goes l c) = ⊥
  AfterD5 d (Ends IsEmpty) = FoundNull d
  AfterD5 d (Ends (IsRefused Closed)) = FoundShut d
  AfterD5 d (Ends (IsRefused refusal)) = FoundWorn d refusal
  AfterD5 d (Ends reply) = ⊥

  abbrev fifth_outcome : (now : ℕ) → (p q u c w : Bool) → Outcome
  fifth_outcome now p q u c w =
      if p
      then if q then if u then ends now reply.Empty b else if c then closed now b else if w then worn now OfTail b else goes D10 b else goes D12 b
      else goes D2 b

  abbrev fifth : (p q u c w : Bool) → RowOutcome Running
  fifth p q u c w =
      if p
      then if q then if u then Ends IsEmpty else if c then Ends (IsRefused Closed) else if w then Ends (IsRefused (WornOut OfTail)) else Goes D10 a else Goes D12 a
      else Goes D2 a

  module _ (h : CallIsAt r s prologue D5 a) (d : DidStep r s t prologue D5 n) where
    fifth_is : (p q u c w : Bool) → same_ref (ref_of r.plan.setup.bits n) a.head ≡ p → nat_eq a.head.node a.tail.node ≡ q → is_null a.next ≡ u
        → is_shut r.plan.setup.bits a.next ≡ c → nat_eq a.tail.count r.plan.setup.limit ≡ w
        → out_at D5 d ≡ fifth_outcome (d.told.was.world.steps + 1) p q u c w
    fifth_is p q u c w e f g m k =
        (λ i. fifth_outcome (d.told.was.world.steps + 1) (same_ref (sym (ref_d5 r s t prologue n d) i) (h.knows.0 i))
        (nat_eq (h.knows.0 i).node (h.knows.1 i).node) (is_null (h.knows.2 i)) (is_shut r.plan.setup.bits (h.knows.2 i))
        (nat_eq (h.knows.1 i).count r.plan.setup.limit)) ∙
        (λ i. fifth_outcome (d.told.was.world.steps + 1) (e i) (f i) (g i) (m i) (k i))

    pub after_d5 : AfterD5 d (fifth (same_ref (ref_of r.plan.setup.bits n) a.head) (nat_eq a.head.node a.tail.node) (is_null a.next)
        (is_shut r.plan.setup.bits a.next) (nat_eq a.tail.count r.plan.setup.limit))
    after_d5 = go (same_ref (ref_of r.plan.setup.bits n) a.head) (nat_eq a.head.node a.tail.node) (is_null a.next) (is_shut r.plan.setup.bits a.next)
        (nat_eq a.tail.count r.plan.setup.limit) refl refl refl refl refl
      where
        now : ℕ
        now = d.told.was.world.steps + 1

        go : (p q u c w : Bool) → same_ref (ref_of r.plan.setup.bits n) a.head ≡ p → nat_eq a.head.node a.tail.node ≡ q → is_null a.next ≡ u
            → is_shut r.plan.setup.bits a.next ≡ c → nat_eq a.tail.count r.plan.setup.limit ≡ w → AfterD5 d (fifth p q u c w)
        go false q u c w e f g m k =
            let is = fifth_is false q u c w e f g m k in
            record { stands = leads D5 d (fifth_outcome now false q u c w) is D2 a refl (λ x. tt); same = refl; quiet = ap (λ x. x.reply) is }
        go true false u c w e f g m k =
            let is = fifth_is true false u c w e f g m k in
            record { stands = leads D5 d (fifth_outcome now true false u c w) is D12 a refl (λ x. (h.knows.0, h.knows.2)); same = refl; quiet = ap (λ x. x.reply) is }
        go true true true c w e f g m k =
            let is = fifth_is true true true c w e f g m k in
            let o = over D5 h (empty_before r s prologue D5 h.before) d (fifth_outcome now true true true c w) is refl refl in
            record { over = o.0; empty = o.1; replies = ap (λ x. x.reply) is }
        go true true false true w e f g m k =
            let is = fifth_is true true false true w e f g m k in
            let o = over D5 h (empty_before r s prologue D5 h.before) d (fifth_outcome now true true false true w) is refl refl in
            record { over = o.0; empty = o.1; replies = ap (λ x. x.reply) is }
        go true true false false true e f g m k =
            let is = fifth_is true true false false true e f g m k in
            let o = over D5 h (empty_before r s prologue D5 h.before) d (fifth_outcome now true true false false true) is refl refl in
            record { over = o.0; empty = o.1; replies = ap (λ x. x.reply) is; is = refl }
        go true true false false false e f g m k =
            let is = fifth_is true true false false false e f g m k in
            record { stands = leads D5 d (fifth_outcome now true true false false false) is D10 a refl (λ x. (h.knows.1, h.knows.2)); same = refl; quiet = ap (λ x. x.reply) is }

  pub after_d10 : CallIsAt r s prologue D10 a → DidStep r s t prologue D10 n → IsBefore r t continues D2
  after_d10 h d = goes_on r s t prologue D10 n d (out_at D10 d) refl D2 refl

  module _ (h : CallIsAt r s prologue D12 a) (d : DidStep r s t prologue D12 n) where
    abbrev twelfth : Bool → Outcome
    twelfth p = let x = record b { val = value_of n } in if p then worn (d.told.was.world.steps + 1) OfHead x else goes D13 x

    twelfth_is : (p : Bool) → nat_eq a.head.count r.plan.setup.limit ≡ p → out_at D12 d ≡ twelfth p
    twelfth_is p e =
        ap (λ v. let x = record b { val = v } in if nat_eq b.head.count r.plan.setup.limit then worn (d.told.was.world.steps + 1) OfHead x else goes D13 x) (value_d12 r s t prologue n d) ∙
        ap twelfth (ap (λ (x : Ref). nat_eq x.count r.plan.setup.limit) h.knows.0 ∙ e)

    -- Head isn't worn out there
    pub never_d12 : IsNonBlocking r → nat_eq a.head.count r.plan.setup.limit ≡ true → ⊥
    never_d12 kind e = head_is_not_worn r.plan prologue D12 n (view s) (view t) kind d.told (ap (λ x. x.reply) (twelfth_is true e))

    pub after_d12 : nat_eq a.head.count r.plan.setup.limit ≡ false → CallIsAt r t continues D13 (record a { val = n })
    after_d12 e = leads D12 d (twelfth false) (twelfth_is false e) D13 (record a { val = n }) refl (λ x. (h.knows.0, h.knows.1, refl))

  -- what an actor has that took a value
  abbrev pub HasTaken : Actor → Type 0
  HasTaken x = record { over : x.line ≡ Some F1; empty : x.pocket ≡ None; due : x.due ≡ Some (reply.Value (value_of a.val)); node : x.node ≡ a.head.node; mark : x.mark ≡ a.next.count }

  -- after a won D13
  pub record Won (d : DidStep r s t prologue D13 n) : Type 0 where
    pub has : HasTaken (view t).actor
    pub adds : entries_at r.plan.setup d.told.was (view s).number b D13 ≡ Pop (view s).number b.val ∷ []

  -- after a lost one
  pub record Lost (d : DidStep r s t prologue D13 n) : Type 0 where
    pub before : IsBefore r t continues D2
    pub adds : entries_at r.plan.setup d.told.was (view s).number b D13 ≡ []

  module _ (h : CallIsAt r s prologue D13 a) (d : DidStep r s t prologue D13 n) where
    abbrev thirteenth : Bool → Outcome
    thirteenth p = if p then record (goes F1 (fills_hand b.head.node b.next.count (record b { due = Some (reply.Value b.val) }))) { at = Some (d.told.was.world.steps + 1) } else goes D2 b

    same : (p : Bool) → same_ref (ref_of r.plan.setup.bits n) a.head ≡ p → same_ref d.told.was.world.shared.head b.head ≡ p
    same p e = (λ i. same_ref (sym (ref_d13 r s t prologue n d) i) (h.knows.0 i)) ∙ e

    pub won_d13 : same_ref (ref_of r.plan.setup.bits n) a.head ≡ true → Won d
    won_d13 e =
        record {
          has = settled r s t prologue D13 n d (thirteenth true) (ap thirteenth (same true e)) HasTaken
              (λ x. record {
                over = refl;
                empty = empty_before r s prologue D13 h.before;
                due = ap (λ v. Some (reply.Value v)) h.knows.2;
                node =
                    ap (λ (y : Ref). y.node) h.knows.0;
                mark = ap (λ (y : Ref). y.count) h.knows.1;
              });
          adds = ap (λ p. if p then Pop (view s).number b.val ∷ [] else []) (same true e);
        }

    pub lost_d13 : same_ref (ref_of r.plan.setup.bits n) a.head ≡ false → Lost d
    lost_d13 e =
        record {
          before = goes_on r s t prologue D13 n d (thirteenth false) (ap thirteenth (same false e)) D2 refl;
          adds = ap (λ p. if p then Pop (view s).number b.val ∷ [] else []) (same false e);
        }
