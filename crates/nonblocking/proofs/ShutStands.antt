-- Where each line of a shut leads.
use Rattle.std.proofs.Common.{◌≡◌, ℕ, ◌+◌, Bool, true, false, nat_eq, if◌then◌else◌, Option, Some, None, [], ◌∷◌, sym, refl, ap, subst, ◌∙◌}
use Rattle.counted_ref.specs.Ref.{Ref, ref_of, is_null, is_shut, same_ref}
use Rattle.line_table.specs.declared.lines.Line.{Line}
use Rattle.line_table.specs.declared.lines.Line.TheVariants.{S1, S2, S3, S4, S5}
use Rattle.history.specs.declared.operations.Entry.TheVariants as entry
use Rattle.history.specs.declared.operations.Reply.TheVariants as reply
use Rattle.history.specs.declared.refusals.Refusal.{Refusal}
use Rattle.history.specs.declared.refusals.Refusal.TheVariants.{WornOut, Closed}
use Rattle.history.specs.declared.refusals.WornWord.TheVariants.{Tail as OfTail}
use Rattle.node_arena.specs.Machine.{Actor, Outcome, node_at, goes, ends, worn, closed}
use Rattle.node_arena.specs.Traces.{outcome_at, entries_at}
use Rattle.node_arena.specs.Prologues.{Prologue, continues, after_prologue}
use Rattle.node_arena.specs.Arenas.{Arena}
use Rattle.node_arena.specs.declared.seats.Seat.{Seat}
use Rattle.node_arena.specs.Seats.{DidStep, view, pocket_of}
use Rattle.node_arena.proofs.Noting.{IsSilent}
use Rattle.node_arena.proofs.Paths.{settled, goes_on}
use Rattle.free_list.specs.declared.outcomes.RowOutcome.{RowOutcome}
use Rattle.free_list.specs.declared.outcomes.RowOutcome.TheVariants.{Goes, Ends}
use Rattle.free_list.specs.declared.outcomes.Reply.TheVariants.{Done as IsDone, Refused as IsRefused}
use Rattle.nonblocking.specs.Shuts.{Running, follow, AgreesAt, HasPocket, CallIsAt}
use Rattle.nonblocking.proofs.ShutSteps.{ref_s1, ref_s2, ref_s3, ref_s4}

module _ {T : Type 0} (r : Arena) (s t : Seat T) (prologue : Prologue) (n : ℕ) (a : Running) where
  abbrev b : Actor
  b = after_prologue r.plan.setup (view s).number prologue (view s).actor

  -- what the machine makes of the step
  abbrev out_at : (l : Line) → DidStep r s t prologue l n → Outcome
  out_at l d = outcome_at r.plan.setup d.told.was (view s).number b l

  -- an outcome that leaves its actor's pocket alone
  holds : (l : Line) → HasPocket r s prologue → (d : DidStep r s t prologue l n) (o : Outcome) → out_at l d ≡ o → o.actor.pocket ≡ b.pocket → HasPocket r t continues
  holds l h d o e same = settled r s t prologue l n d o e (λ x. x.pocket ≡ pocket_of t) (λ x. same ∙ h ∙ sym d.stored.pocket)

  -- a step with such an outcome leads on to a line
  leads : (l : Line) → CallIsAt r s prologue l a → (d : DidStep r s t prologue l n) (o : Outcome) → out_at l d ≡ o → (k : Line) (c : Running)
      → o.actor.line ≡ Some k → o.actor.pocket ≡ b.pocket → ((x : Option ℕ) → AgreesAt k (record o.actor { entry = x }) c)
      → CallIsAt r t continues k c
  leads l h d o e k c line same knows =
      record {
        before = goes_on r s t prologue l n d o e k line;
        pocket = holds l h.pocket d o e same;
        knows = settled r s t prologue l n d o e (λ x. AgreesAt k x c) knows;
      }

  -- or ends the call
  over : (l : Line) → CallIsAt r s prologue l a → (d : DidStep r s t prologue l n) (o : Outcome) → out_at l d ≡ o → o.actor.line ≡ None
      → o.actor.pocket ≡ b.pocket → ((view t).actor.line ≡ None) × HasPocket r t continues
  over l h d o e line same = (settled r s t prologue l n d o e (λ x. x.line ≡ None) (λ x. line), holds l h.pocket d o e same)

  pub after_s1 : CallIsAt r s prologue S1 a → DidStep r s t prologue S1 n → CallIsAt r t continues S2 (record a { tail = ref_of r.plan.setup.bits n })
  after_s1 h d = leads S1 h d (out_at S1 d) refl S2 (record a { tail = ref_of r.plan.setup.bits n }) refl refl (λ x. sym (ref_s1 r s t prologue n d))

  pub after_s2 : CallIsAt r s prologue S2 a → DidStep r s t prologue S2 n → CallIsAt r t continues S3 (record a { next = ref_of r.plan.setup.bits n })
  after_s2 h d = leads S2 h d (out_at S2 d) refl S3 (record a { next = ref_of r.plan.setup.bits n }) refl refl (λ x. (h.knows, sym (ref_s2 r s t prologue n d)))

  pub after_s5 : CallIsAt r s prologue S5 a → DidStep r s t prologue S5 n → CallIsAt r t continues S1 a
  after_s5 h d = leads S5 h d (out_at S5 d) refl S1 a refl refl (λ x. tt)

  -- S3: to S4, to S5, again, or the queue is shut, or Tail is worn out
  module _ (h : CallIsAt r s prologue S3 a) (d : DidStep r s t prologue S3 n) where
    -- its reply doesn't say that the queue is shut
    abbrev pub Quiet : Type 0
    Quiet = IsSilent (out_at S3 d).reply

    -- the call ends with a refusal
    pub record Stopped (refusal : Refusal) : Type 0 where
      pub over : (view t).actor.line ≡ None
      pub pocket : HasPocket r t continues
      pub replies : (out_at S3 d).reply ≡ Some (reply.Refused refusal)

    abbrev pub AfterS3 : RowOutcome Running → Type 0
    AfterS3 (Goes S1 c) = CallIsAt r t continues S1 c × Quiet
    AfterS3 (Goes S4 c) = CallIsAt r t continues S4 c × Quiet
    AfterS3 (Goes S5 c) = CallIsAt r t continues S5 c × Quiet
    AfterS3 (Goes l c) = ⊥
    AfterS3 (Ends (IsRefused Closed)) = Stopped Closed
    AfterS3 (Ends (IsRefused refusal)) = Stopped (WornOut OfTail) × (refusal ≡ WornOut OfTail)
    AfterS3 (Ends reply) = ⊥

    abbrev third : ℕ → (p q c u : Bool) → Outcome
    third now p q c u = if p then if q then goes S4 b else if c then closed now b else if u then worn now OfTail b else goes S5 b else goes S1 b

    abbrev leads_to : (p q c u : Bool) → RowOutcome Running
    leads_to p q c u = if p then if q then Goes S4 a else if c then Ends (IsRefused Closed) else if u then Ends (IsRefused (WornOut OfTail)) else Goes S5 a else Goes S1 a

    pub after_s3 : AfterS3 (follow r.plan.setup a S3 n)
    after_s3 = go (same_ref (ref_of r.plan.setup.bits n) a.tail) (is_null a.next) (is_shut r.plan.setup.bits a.next) (nat_eq a.tail.count r.plan.setup.limit) refl refl refl refl
      where
        now : ℕ
        now = d.told.was.world.steps + 1

        o : (p q c u : Bool) → same_ref (ref_of r.plan.setup.bits n) a.tail ≡ p → is_null a.next ≡ q → is_shut r.plan.setup.bits a.next ≡ c
            → nat_eq a.tail.count r.plan.setup.limit ≡ u → out_at S3 d ≡ third now p q c u
        o p q c u x y v w = λ i. third now (((λ j. same_ref (sym (ref_s3 r s t prologue n d) j) (h.knows.0 j)) ∙ x) i) ((ap is_null h.knows.1 ∙ y) i)
            ((ap (is_shut r.plan.setup.bits) h.knows.1 ∙ v) i) ((ap (λ (k : Ref). nat_eq k.count r.plan.setup.limit) h.knows.0 ∙ w) i)

        on : (p q c u : Bool) → out_at S3 d ≡ third now p q c u → IsSilent (third now p q c u).reply → (k : Line)
            → (third now p q c u).actor.line ≡ Some k → (third now p q c u).actor.pocket ≡ b.pocket
            → ((x : Option ℕ) → AgreesAt k (record (third now p q c u).actor { entry = x }) a) → CallIsAt r t continues k a × Quiet
        on p q c u e quiet k line same knows = (leads S3 h d (third now p q c u) e k a line same knows, subst (λ (m : Outcome). IsSilent m.reply) (sym e) quiet)

        stops : (p q c u : Bool) (refusal : Refusal) → out_at S3 d ≡ third now p q c u → (third now p q c u).actor.line ≡ None
            → (third now p q c u).actor.pocket ≡ b.pocket → (third now p q c u).reply ≡ Some (reply.Refused refusal) → Stopped refusal
        stops p q c u refusal e line same replies = let k = over S3 h d (third now p q c u) e line same in record
            { over = k.0; pocket = k.1; replies = ap (λ (m : Outcome). m.reply) e ∙ replies }

        go : (p q c u : Bool) → same_ref (ref_of r.plan.setup.bits n) a.tail ≡ p → is_null a.next ≡ q → is_shut r.plan.setup.bits a.next ≡ c
            → nat_eq a.tail.count r.plan.setup.limit ≡ u → AfterS3 (leads_to p q c u)
        go true true c u x y v w = on true true c u (o true true c u x y v w) tt S4 refl refl (λ z. h.knows)
        go true false true u x y v w = stops true false true u Closed (o true false true u x y v w) refl refl refl
        go true false false true x y v w = (stops true false false true (WornOut OfTail) (o true false false true x y v w) refl refl refl, refl)
        go true false false false x y v w = on true false false false (o true false false false x y v w) tt S5 refl refl (λ z. h.knows)
        go false q c u x y v w = on false q c u (o false q c u x y v w) tt S1 refl refl (λ z. tt)

  -- S4: won, and the call is over, or lost
  module _ (h : CallIsAt r s prologue S4 a) (d : DidStep r s t prologue S4 n) where
    abbrev Won : Type 0
    Won = entries_at r.plan.setup d.told.was (view s).number b S4 ≡ entry.Shut (view s).number ∷ []

    abbrev Lost : Type 0
    Lost = entries_at r.plan.setup d.told.was (view s).number b S4 ≡ []

    abbrev pub AfterS4 : RowOutcome Running → Type 0
    AfterS4 (Goes S1 c) = CallIsAt r t continues S1 c × Lost
    AfterS4 (Goes l c) = ⊥
    AfterS4 (Ends IsDone) = ((view t).actor.line ≡ None) × HasPocket r t continues × Won
    AfterS4 (Ends reply) = ⊥

    abbrev fourth : ℕ → Bool → Outcome
    fourth now p = if p then record (ends now reply.Done b) { at = Some now } else goes S1 b

    pub after_s4 : AfterS4 (follow r.plan.setup a S4 n)
    after_s4 = go (same_ref (ref_of r.plan.setup.bits n) a.next) refl
      where
        now : ℕ
        now = d.told.was.world.steps + 1

        test : (p : Bool) → same_ref (ref_of r.plan.setup.bits n) a.next ≡ p → same_ref (node_at d.told.was.world.shared b.tail.node).next b.next ≡ p
        test p x = (λ j. same_ref (sym (ref_s4 r s t prologue n d) j) (h.knows.1 j)) ∙ x

        put : (p : Bool) → same_ref (ref_of r.plan.setup.bits n) a.next ≡ p → entries_at r.plan.setup d.told.was (view s).number b S4 ≡ (if p then entry.Shut (view s).number ∷ [] else [])
        put p x = ap (λ q. if q then entry.Shut (view s).number ∷ [] else []) (test p x)

        go : (p : Bool) → same_ref (ref_of r.plan.setup.bits n) a.next ≡ p → AfterS4 (if p then Ends IsDone else Goes S1 a)
        go true x = let k = over S4 h d (fourth now true) (ap (fourth now) (test true x)) refl refl in (k.0, k.1, put true x)
        go false x = (leads S4 h d (fourth now false) (ap (fourth now) (test false x)) S1 a refl refl (λ z. tt), put false x)
