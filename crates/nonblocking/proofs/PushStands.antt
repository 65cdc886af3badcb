-- Where each line of a push leads.
use Rattle.std.proofs.Common.{◌≡◌, ℕ, ◌+◌, Bool, true, false, nat_eq, if◌then◌else◌, Option, Some, None, [], ◌∷◌, sym, refl, ap, subst, ◌∙◌}
use Rattle.counted_ref.specs.Ref.{Ref, ref_of, is_null, is_shut, same_ref}
use Rattle.line_table.specs.declared.lines.Line.{Line}
use Rattle.line_table.specs.declared.lines.Line.TheVariants.{E2, E3, E5, E6, E7, E9, E13, E17}
use Rattle.history.specs.declared.operations.Entry.TheVariants.{Push}
use Rattle.history.specs.declared.operations.Reply.TheVariants as reply
use Rattle.history.specs.declared.refusals.Refusal.{Refusal}
use Rattle.history.specs.declared.refusals.Refusal.TheVariants.{WornOut, Closed}
use Rattle.history.specs.declared.refusals.WornWord.{WornWord}
use Rattle.history.specs.declared.refusals.WornWord.TheVariants.{Next as OfNext, Tail as OfTail}
use Rattle.node_arena.specs.Machine.{Held, Actor, Outcome, node_at, goes, ends, worn, closed, empties_hand, sets_aside, to_pocket}
use Rattle.history.specs.declared.operations.Reply.TheVariants as reply
use Rattle.node_arena.specs.Traces.{outcome_at, entries_at}
use Rattle.node_arena.specs.Prologues.{Prologue, continues, after_prologue}
use Rattle.node_arena.specs.Arenas.{Arena}
use Rattle.node_arena.specs.declared.seats.Seat.{Seat}
use Rattle.node_arena.specs.Seats.{DidStep, view}
use Rattle.node_arena.proofs.Noting.{IsSilent}
use Rattle.node_arena.proofs.Known.{empty_before}
use Rattle.node_arena.proofs.Paths.{settled, goes_on}
use Rattle.free_list.specs.declared.outcomes.RowOutcome.{RowOutcome}
use Rattle.free_list.specs.declared.outcomes.RowOutcome.TheVariants.{Goes, Ends}
use Rattle.free_list.specs.declared.outcomes.Reply.TheVariants.{Done as IsDone, Refused as IsRefused}
use Rattle.nonblocking.specs.Pushes.{Running, in_hand, follow, HasNode, AgreesAt, CallIsAt}
use Rattle.nonblocking.proofs.PushSteps.{ref_e3, ref_e5, ref_e6, ref_e7, ref_e9}

module _ {T : Type 0} (r : Arena) (s t : Seat T) (prologue : Prologue) (l : Line) (n : ℕ) (a : Running) (h : CallIsAt r s prologue l a) (d : DidStep r s t prologue l n) where
  abbrev b : Actor
  b = after_prologue r.plan.setup (view s).number prologue (view s).actor

  -- what the machine makes of the step
  abbrev out : Outcome
  out = outcome_at r.plan.setup d.told.was (view s).number b l

  -- a step with this outcome leads on to a line
  leads : (o : Outcome) → out ≡ o → (k : Line) (c : Running) → o.actor.line ≡ Some k → HasNode o.actor c
      → ((x : Option ℕ) → AgreesAt k (record o.actor { entry = x }) c) → CallIsAt r t continues k c
  leads o e k c line hand knows =
      record {
        before = goes_on r s t prologue l n d o e k line;
        hand = settled r s t prologue l n d o e (λ x. HasNode x c) (λ x. hand);
        knows = settled r s t prologue l n d o e (λ x. AgreesAt k x c) knows;
      }

  -- a word was found worn out
  pub record Worn (p : Option Held) (word : WornWord) (refusal : Refusal) : Type 0 where
    pub over : (view t).actor.line ≡ None
    pub pocket : (view t).actor.pocket ≡ p
    pub is : refusal ≡ WornOut word
    pub replies : (outcome_at r.plan.setup d.told.was (view s).number b l).reply ≡ Some (reply.Refused (WornOut word))

module _ {T : Type 0} (r : Arena) (s t : Seat T) (prologue : Prologue) (n : ℕ) (a : Running) where
  abbrev b1 : Actor
  b1 = after_prologue r.plan.setup (view s).number prologue (view s).actor

  -- a call that ends has an empty pocket, where its outcome keeps that of its actor
  over : (l : Line) → CallIsAt r s prologue l a → (after_prologue r.plan.setup (view s).number prologue (view s).actor).pocket ≡ None
      → (d : DidStep r s t prologue l n) (o : Outcome) → outcome_at r.plan.setup d.told.was (view s).number b1 l ≡ o → o.actor.line ≡ None
      → o.actor.pocket ≡ b1.pocket → ((view t).actor.line ≡ None) × ((view t).actor.pocket ≡ None)
  over l h none d o e line pocket = settled r s t prologue l n d o e (λ x. (x.line ≡ None) × (x.pocket ≡ None)) (λ x. (line, pocket ∙ none))

  pub after_e2 : CallIsAt r s prologue E2 a → DidStep r s t prologue E2 n → CallIsAt r t continues E3 a
  after_e2 h d = leads r s t prologue E2 n a h d (out r s t prologue E2 n a h d) refl E3 a refl h.hand (λ x. tt)

  pub after_e5 : CallIsAt r s prologue E5 a → DidStep r s t prologue E5 n → CallIsAt r t continues E6 (record a { tail = ref_of r.plan.setup.bits n })
  after_e5 h d = leads r s t prologue E5 n a h d (out r s t prologue E5 n a h d) refl E6 (record a { tail = ref_of r.plan.setup.bits n }) refl h.hand (λ x. sym (ref_e5 r s t prologue n d))

  pub after_e6 : CallIsAt r s prologue E6 a → DidStep r s t prologue E6 n → CallIsAt r t continues E7 (record a { next = ref_of r.plan.setup.bits n })
  after_e6 h d = leads r s t prologue E6 n a h d (out r s t prologue E6 n a h d) refl E7 (record a { next = ref_of r.plan.setup.bits n }) refl h.hand (λ x. (h.knows, sym (ref_e6 r s t prologue n d)))

  pub after_e13 : CallIsAt r s prologue E13 a → DidStep r s t prologue E13 n → CallIsAt r t continues E5 a
  after_e13 h d = leads r s t prologue E13 n a h d (out r s t prologue E13 n a h d) refl E5 a refl h.hand (λ x. tt)

  pub after_e17 : CallIsAt r s prologue E17 a → DidStep r s t prologue E17 n → ((view t).actor.line ≡ None) × ((view t).actor.pocket ≡ None)
  after_e17 h d = over E17 h (empty_before r s prologue E17 h.before) d (out r s t prologue E17 n a h d) refl refl refl

  -- E3: the node is ready, or its own next is worn out
  module _ (h : CallIsAt r s prologue E3 a) (d : DidStep r s t prologue E3 n) where
    abbrev pub AfterE3 : RowOutcome Running → Type 0
    AfterE3 (Goes E5 c) = CallIsAt r t continues E5 c × (c.node ≡ a.node) × (c.val ≡ a.val)
    AfterE3 (Goes l c) = ⊥
    AfterE3 (Ends (IsRefused refusal)) = Worn r s t prologue E3 n a h d None OfNext refusal
    AfterE3 (Ends reply) = ⊥

    abbrev third : ℕ → Ref → Bool → Outcome
    third now x p = let c = record b1 { mark = x.count } in if p then sets_aside (worn now OfNext c) else goes E5 c

    pub after_e3 : AfterE3 (follow r.plan.setup a E3 n)
    after_e3 = go (nat_eq (ref_of r.plan.setup.bits n).count r.plan.setup.limit) refl
      where
        o : (p : Bool) → nat_eq (ref_of r.plan.setup.bits n).count r.plan.setup.limit ≡ p
            → outcome_at r.plan.setup d.told.was (view s).number b1 E3 ≡ third (d.told.was.world.steps + 1) (ref_of r.plan.setup.bits n) p
        o p e = ap (λ x. third (d.told.was.world.steps + 1) x (nat_eq x.count r.plan.setup.limit)) (sym (ref_e3 r s t prologue n d)) ∙ ap
            (third (d.told.was.world.steps + 1) (ref_of r.plan.setup.bits n)) e

        go : (p : Bool) → nat_eq (ref_of r.plan.setup.bits n).count r.plan.setup.limit ≡ p
            → AfterE3 (if p then Ends (IsRefused (WornOut OfNext)) else Goes E5 (record a { mark = (ref_of r.plan.setup.bits n).count }))
        go true e =
            let x = over E3 h (empty_before r s prologue E3 h.before) d (third (d.told.was.world.steps + 1) (ref_of r.plan.setup.bits n) true) (o true e) refl refl in
            record { over = x.0; pocket = x.1; is = refl; replies = ap (λ c. c.reply) (o true e) }
        go false e = (
          leads r s t prologue E3 n a h d (third (d.told.was.world.steps + 1) (ref_of r.plan.setup.bits n) false) (o false e) E5
              (record a { mark = (ref_of r.plan.setup.bits n).count }) refl record { node = h.hand.node; mark = refl; val = h.hand.val } (λ x. tt),
          refl,
          refl,
        )

  -- E7: to E9, to E13, again, or Tail is worn out
  module _ (h : CallIsAt r s prologue E7 a) (d : DidStep r s t prologue E7 n) where
    -- its reply doesn't say that the queue is shut
    abbrev pub Quiet : Type 0
    Quiet = IsSilent (outcome_at r.plan.setup d.told.was (view s).number b1 E7).reply

    -- the queue was found shut
    pub record Shut : Type 0 where
      pub over : (view t).actor.line ≡ None
      pub pocket : (view t).actor.pocket ≡ Some (in_hand a)
      pub replies : (outcome_at r.plan.setup d.told.was (view s).number b1 E7).reply ≡ Some (reply.Refused Closed)

    abbrev pub AfterE7 : RowOutcome Running → Type 0
    AfterE7 (Goes E9 c) = CallIsAt r t continues E9 c × (c ≡ a) × Quiet
    AfterE7 (Goes E13 c) = CallIsAt r t continues E13 c × (c ≡ a) × Quiet
    AfterE7 (Goes E5 c) = CallIsAt r t continues E5 c × (c ≡ a) × Quiet
    AfterE7 (Goes l c) = ⊥
    AfterE7 (Ends (IsRefused Closed)) = Shut
    AfterE7 (Ends (IsRefused refusal)) = Worn r s t prologue E7 n a h d (Some (in_hand a)) OfTail refusal × Quiet
    AfterE7 (Ends reply) = ⊥

    abbrev seventh : ℕ → (p q c u : Bool) → Outcome
    seventh now p q c u = if p then if q then goes E9 b1 else if c then closed now (to_pocket b1) else if u then worn now OfTail (to_pocket b1) else goes E13 b1 else goes E5 b1

    abbrev leads_to : (p q c u : Bool) → RowOutcome Running
    leads_to p q c u = if p then if q then Goes E9 a else if c then Ends (IsRefused Closed) else if u then Ends (IsRefused (WornOut OfTail)) else Goes E13 a else Goes E5 a

    pub after_e7 : AfterE7 (follow r.plan.setup a E7 n)
    after_e7 = go (same_ref (ref_of r.plan.setup.bits n) a.tail) (is_null a.next) (is_shut r.plan.setup.bits a.next) (nat_eq a.tail.count r.plan.setup.limit) refl refl refl refl
      where
        now : ℕ
        now = d.told.was.world.steps + 1

        o : (p q c u : Bool) → same_ref (ref_of r.plan.setup.bits n) a.tail ≡ p → is_null a.next ≡ q → is_shut r.plan.setup.bits a.next ≡ c
            → nat_eq a.tail.count r.plan.setup.limit ≡ u → outcome_at r.plan.setup d.told.was (view s).number b1 E7 ≡ seventh now p q c u
        o p q c u x y v w = λ i. seventh now (((λ j. same_ref (sym (ref_e7 r s t prologue n d) j) (h.knows.0 j)) ∙ x) i)
            ((ap is_null h.knows.1 ∙ y) i) ((ap (is_shut r.plan.setup.bits) h.knows.1 ∙ v) i)
            ((ap (λ (k : Ref). nat_eq k.count r.plan.setup.limit) h.knows.0 ∙ w) i)

        on : (p q c u : Bool) → out r s t prologue E7 n a h d ≡ seventh now p q c u → IsSilent (seventh now p q c u).reply → (k : Line)
            → (seventh now p q c u).actor.line ≡ Some k → HasNode (seventh now p q c u).actor a
            → ((x : Option ℕ) → AgreesAt k (record (seventh now p q c u).actor { entry = x }) a) → CallIsAt r t continues k a × (a ≡ a) × Quiet
        on p q c u e quiet k line hand knows = (leads r s t prologue E7 n a h d (seventh now p q c u) e k a line hand knows, refl, subst (λ (m : Outcome). IsSilent m.reply) (sym e) quiet)

        go : (p q c u : Bool) → same_ref (ref_of r.plan.setup.bits n) a.tail ≡ p → is_null a.next ≡ q → is_shut r.plan.setup.bits a.next ≡ c
            → nat_eq a.tail.count r.plan.setup.limit ≡ u → AfterE7 (leads_to p q c u)
        go true true c u x y v w = on true true c u (o true true c u x y v w) tt E9 refl h.hand (λ z. h.knows)
        go true false true u x y v w =
            let e = o true false true u x y v w in
            let k = settled r s t prologue E7 n d (seventh now true false true u) e (λ c. (c.line ≡ None) × (c.pocket ≡ Some (in_hand a)))
            (λ z. (refl, λ i. Some (record { node = h.hand.node i; mark = h.hand.mark i }))) in
            record { over = k.0; pocket = k.1; replies = ap (λ c. c.reply) e }
        go true false false true x y v w =
            let e = o true false false true x y v w in
            let k = settled r s t prologue E7 n d (seventh now true false false true) e (λ c. (c.line ≡ None) × (c.pocket ≡ Some (in_hand a)))
            (λ z. (refl, λ i. Some (record { node = h.hand.node i; mark = h.hand.mark i }))) in
            (record { over = k.0; pocket = k.1; is = refl; replies = ap (λ c. c.reply) e }, subst (λ (m : Outcome). IsSilent m.reply) (sym e) tt)
        go true false false false x y v w = on true false false false (o true false false false x y v w) tt E13 refl h.hand (λ z. h.knows)
        go false q c u x y v w = on false q c u (o false q c u x y v w) tt E5 refl h.hand (λ z. tt)

  -- E9: won, to E17 or to the end, or lost
  module _ (h : CallIsAt r s prologue E9 a) (d : DidStep r s t prologue E9 n) where
    abbrev Won : Type 0
    Won = entries_at r.plan.setup d.told.was (view s).number b1 E9 ≡ Push (view s).number b1.val.body ∷ []

    abbrev Lost : Type 0
    Lost = entries_at r.plan.setup d.told.was (view s).number b1 E9 ≡ []

    abbrev pub AfterE9 : RowOutcome Running → Type 0
    AfterE9 (Goes E17 c) = CallIsAt r t continues E17 c × Won
    AfterE9 (Goes E5 c) = CallIsAt r t continues E5 c × (c ≡ a) × Lost
    AfterE9 (Goes l c) = ⊥
    AfterE9 (Ends IsDone) = ((view t).actor.line ≡ None) × ((view t).actor.pocket ≡ None) × Won
    AfterE9 (Ends reply) = ⊥

    abbrev ninth : ℕ → (p u : Bool) → Outcome
    ninth now p u =
        let c = empties_hand (record b1 { due = Some reply.Done }) in
        if p then record (if u then ends now reply.Done c else goes E17 c) { at = Some now } else goes E5 b1

    abbrev gone : (p u : Bool) → RowOutcome Running
    gone p u = if p then if u then Ends IsDone else Goes E17 (record a { due = Some IsDone }) else Goes E5 a

    pub after_e9 : AfterE9 (follow r.plan.setup a E9 n)
    after_e9 = go (same_ref (ref_of r.plan.setup.bits n) a.next) (nat_eq a.tail.count r.plan.setup.limit) refl refl
      where
        now : ℕ
        now = d.told.was.world.steps + 1

        test : (p : Bool) → same_ref (ref_of r.plan.setup.bits n) a.next ≡ p → same_ref (node_at d.told.was.world.shared b1.tail.node).next b1.next ≡ p
        test p x = (λ j. same_ref (sym (ref_e9 r s t prologue n d) j) (h.knows.1 j)) ∙ x

        o : (p u : Bool) → same_ref (ref_of r.plan.setup.bits n) a.next ≡ p → nat_eq a.tail.count r.plan.setup.limit ≡ u → outcome_at r.plan.setup d.told.was (view s).number b1 E9 ≡ ninth now p u
        o p u x w = λ i. ninth now (test p x i) ((ap (λ (k : Ref). nat_eq k.count r.plan.setup.limit) h.knows.0 ∙ w) i)

        put : (p : Bool) → same_ref (ref_of r.plan.setup.bits n) a.next ≡ p → entries_at r.plan.setup d.told.was (view s).number b1 E9 ≡ (if p then Push (view s).number b1.val.body ∷ [] else [])
        put p x = ap (λ q. if q then Push (view s).number b1.val.body ∷ [] else []) (test p x)

        go : (p u : Bool) → same_ref (ref_of r.plan.setup.bits n) a.next ≡ p → nat_eq a.tail.count r.plan.setup.limit ≡ u → AfterE9 (gone p u)
        go true true x w = let k = over E9 h (empty_before r s prologue E9 h.before) d (ninth now true true) (o true true x w) refl refl in (k.0, k.1, put true x)
        go true false x w = (leads r s t prologue E9 n a h d (ninth now true false) (o true false x w) E17 (record a { due = Some IsDone }) refl h.hand (λ z. h.knows.0), put true x)
        go false u x w = (leads r s t prologue E9 n a h d (ninth now false u) (o false u x w) E5 a refl h.hand (λ z. tt), refl, put false x)
