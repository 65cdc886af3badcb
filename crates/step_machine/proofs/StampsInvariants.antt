-- What holds of the operations and of each actor after some moves, and that a numbered move keeps it.
use Rattle.std.proofs.Common.{◌≡◌, ◌≢◌, ℕ, ◌+◌, ◌-◌, ◌<◌, ◌≤◌, ◌⊎◌, inl, inr, Bool, true, false, nat_eq, if◌then◌else◌, List, [], ◌∷◌, ◌++◌, length}
use Rattle.std.proofs.Common.{Option, Some, None, IfSome, set, refl, sym, subst, ap, ◌∙◌, length-append, arith}
use Rattle.std.proofs.lemmas.Bool.{eqb-false}
use Rattle.std.proofs.lemmas.Option.{none-some, same_Some, slice_get_within, get_or_from_slice_get, IfSome_then}
use Rattle.std.specs.Prelude.{slice_get, IsSome, IsSomeAnd}
use Rattle.step_machine.specs.Below.{Line, Reply, Stamped, Actor, Outcome, Shared}
use Rattle.step_machine.specs.Machine.{World, actor_of, new_operation, last_of, latest_point, with_outcome, with_operation, entry_or, after_outcome}
use Rattle.step_machine.specs.Stamps.{IsBy, IsStamped, HasNoEffect, EndedBefore}
pub use Rattle.step_machine.proofs.Reached.{actor_stands}
use Rattle.step_machine.proofs.StampsLists.{PutAt, put_set, put_end, put_cases, by_more, by_next, by_within}
use Rattle.step_machine.proofs.StampsLines.{PointAt, point_at_while, GoesOn, Turns}

-- an operation is over: it has a last number, or, where actors may rest, no effect
abbrev pub Over : (Rests : Type 0) → Stamped → Type 0
Over Rests o = IsSome o.last ⊎ (Rests × HasNoEffect o)

-- an operation stands in the list before another one
abbrev pub Precedes : (Rests : Type 0) → Stamped → Stamped → Type 0
Precedes Rests o p = (o.first < p.first) × (o.actor ≡ p.actor → EndedBefore o p.first ⊎ (Rests × HasNoEffect o))

-- the operations of a world whose numbers these makers took
pub record Operations (Rests : Type 0) (K : List ℕ) (ops : List Stamped) : Type 0 where
  pub each : (i : ℕ) (o : Stamped) → slice_get ops i ≡ Some o → IsStamped K o
  pub pairs : (i j : ℕ) (o p : Stamped) → i < j → slice_get ops i ≡ Some o → slice_get ops j ≡ Some p → Precedes Rests o p

-- all operations of an actor are over
abbrev pub Idle : (Rests : Type 0) → List Stamped → (me : ℕ) → Type 0
Idle Rests ops me = (i : ℕ) (o : Stamped) → slice_get ops i ≡ Some o → o.actor ≡ me → Over Rests o

-- the operation at a place is the one that an actor is at, and its last one
pub record Busy (Rests : Type 0) (ops : List Stamped) (me e : ℕ) (o : Stamped) : Type 0 where
  pub here : slice_get ops e ≡ Some o
  pub own : o.actor ≡ me
  pub no_last : o.last ≡ None
  pub no_reply : o.reply ≡ None
  pub others : (i : ℕ) (p : Stamped) → i ≢ e → slice_get ops i ≡ Some p → p.actor ≡ me → Over Rests p
  pub latest : (j : ℕ) (p : Stamped) → e < j → slice_get ops j ≡ Some p → p.actor ≢ me

-- a number of an actor's own moves, not before the first number of its call
abbrev pub Own : (K : List ℕ) (me first : ℕ) → ℕ → Type 0
Own K me first n = IsBy K n me × (first ≤ n)

-- what is known of an actor, by its line and by where its operation stands
abbrev pub OperationAt : (Rests : Type 0) (K : List ℕ) (ops : List Stamped) (me : ℕ) → Option Line → (entry : Option ℕ) (due : Option Reply) (empty_at : ℕ) → Type 0
OperationAt Rests K ops me None entry due empty_at = Idle Rests ops me
OperationAt Rests K ops me (Some l) None due empty_at = Idle Rests ops me × PointAt l due None ⊥
OperationAt Rests K ops me (Some l) (Some e) due empty_at =
    (o : Stamped) × Busy Rests ops me e o × PointAt l due o.at (Own K me o.first empty_at)

-- a world whose numbers these makers took
pub record StampsInvariant (Rests : Type 0) (K : List ℕ) (w : World) : Type 0 where
  pub counted : w.steps ≡ length K
  pub operations : Operations Rests K w.operations
  pub actors : (me : ℕ) (a : Actor) → actor_of w me ≡ Some a → OperationAt Rests K w.operations me a.line a.entry a.due a.empty_at

-- an operation stays stamped when more numbers are taken
stamped_more : (K L : List ℕ) (o : Stamped) → IsStamped K o → IsStamped (K ++ L) o
stamped_more K L o h =
    record {
      first_own = by_more K L o.first o.actor h.first_own;
      last_own = IfSome_then o.last h.last_own (λ n g. by_more K L n o.actor g);
      at_own = IfSome_then o.at h.at_own (λ n g. by_more K L n o.actor g);
      ends_after = h.ends_after;
      placed = h.placed;
    }

-- what an actor knows stays so when another one takes a number and its operation changes
knows_on : (Rests : Type 0) (K L : List ℕ) (ops opz : List Stamped) (me e : ℕ) (x : Stamped) → PutAt ops opz e x → x.actor ≢ me
    → ((s : Stamped) → slice_get ops e ≡ Some s → s.actor ≢ me) → (line : Option Line) (entry : Option ℕ) (due : Option Reply) (empty_at : ℕ)
    → OperationAt Rests K ops me line entry due empty_at → OperationAt Rests (K ++ L) opz me line entry due empty_at
knows_on Rests K L ops opz me e x put other before = go
  where
    idle : Idle Rests ops me → Idle Rests opz me
    idle h i o got own = pick (put_cases put i o got)
      where
        pick : ((i ≡ e) × (x ≡ o)) ⊎ ((i ≢ e) × (slice_get ops i ≡ Some o)) → Over Rests o
        pick (inl q) = absurd (other (ap (λ z. z.actor) q.1 ∙ own))
        pick (inr q) = h i o q.1 own

    busy : (k : ℕ) (o : Stamped) → Busy Rests ops me k o → Busy Rests opz me k o
    busy k o b =
        record {
          here = put.others k (λ q. before o (ap (λ z. slice_get ops z) (sym q) ∙ b.here) b.own) ∙ b.here;
          own = b.own;
          no_last = b.no_last;
          no_reply = b.no_reply;
          others = λ i p n got own. rest i p n own (put_cases put i p got);
          latest = λ j p lt got. late j p lt (put_cases put j p got);
        }
      where
        rest : (i : ℕ) (p : Stamped) → i ≢ k → p.actor ≡ me → ((i ≡ e) × (x ≡ p)) ⊎ ((i ≢ e) × (slice_get ops i ≡ Some p)) → Over Rests p
        rest i p n own (inl q) = absurd (other (ap (λ z. z.actor) q.1 ∙ own))
        rest i p n own (inr q) = b.others i p n q.1 own

        late : (j : ℕ) (p : Stamped) → k < j → ((j ≡ e) × (x ≡ p)) ⊎ ((j ≢ e) × (slice_get ops j ≡ Some p)) → p.actor ≢ me
        late j p lt (inl q) = λ own. other (ap (λ z. z.actor) q.1 ∙ own)
        late j p lt (inr q) = b.latest j p lt q.1

    go : (line : Option Line) (entry : Option ℕ) (due : Option Reply) (empty_at : ℕ) → OperationAt Rests K ops me line entry due empty_at → OperationAt Rests (K ++ L) opz me line entry due empty_at
    go None entry due empty_at h = idle h
    go (Some l) None due empty_at h = (idle h.0, h.1)
    go (Some l) (Some k) due empty_at h =
        (h.0, busy k h.0 h.1, point_at_while l due h.0.at (λ g. (by_more K L empty_at me g.0, g.1)) h.2)

-- a world's operations, and what its mover knows, once a numbered move put an operation at a place
record Told (Rests : Type 0) (K : List ℕ) (ops opz : List Stamped) (me e : ℕ) (b : Actor) : Type 0 where
  x : Stamped
  put : PutAt ops opz e x
  own : x.actor ≡ me
  before : (s : Stamped) → slice_get ops e ≡ Some s → s.actor ≡ me
  operations : Operations Rests K opz
  knows : OperationAt Rests K opz me b.line (Some e) b.due b.empty_at

-- the operations stay as they have to when one that fits is put at a place
operations_put : (Rests : Type 0) (K L : List ℕ) (ops opz : List Stamped) (e : ℕ) (x : Stamped) → Operations Rests K ops → PutAt ops opz e x
    → IsStamped (K ++ L) x → ((i : ℕ) (o : Stamped) → i < e → slice_get ops i ≡ Some o → Precedes Rests o x)
    → ((j : ℕ) (p : Stamped) → e < j → slice_get ops j ≡ Some p → Precedes Rests x p) → Operations Rests (K ++ L) opz
operations_put Rests K L ops opz e x h put fits before after =
    record {
      each = λ i o got. one i o (put_cases put i o got);
      pairs = λ i j o p lt goto gotp. two i j o p lt (put_cases put i o goto) (put_cases put j p gotp);
    }
  where
    one : (i : ℕ) (o : Stamped) → ((i ≡ e) × (x ≡ o)) ⊎ ((i ≢ e) × (slice_get ops i ≡ Some o)) → IsStamped (K ++ L) o
    one i o (inl q) = subst (λ z. IsStamped (K ++ L) z) q.1 fits
    one i o (inr q) = stamped_more K L o (h.each i o q.1)

    two : (i j : ℕ) (o p : Stamped) → i < j → ((i ≡ e) × (x ≡ o)) ⊎ ((i ≢ e) × (slice_get ops i ≡ Some o)) → ((j ≡ e) × (x ≡ p)) ⊎ ((j ≢ e) × (slice_get ops j ≡ Some p)) → Precedes Rests o p
    two i j o p lt (inl q) (inl r) = absurd (let a : i ≡ e = q.0 in let b : j ≡ e = r.0 in omega arith)
    two i j o p lt (inl q) (inr r) = subst (λ z. Precedes Rests z p) q.1 (after j p (subst (λ k. k < j) q.0 lt) r.1)
    two i j o p lt (inr q) (inl r) = subst (λ z. Precedes Rests o z) r.1 (before i o (subst (λ k. i < k) r.0 lt) q.1)
    two i j o p lt (inr q) (inr r) = h.pairs i j o p lt q.1 r.1

-- what the mover knows, by whether its call goes on
mover_knows : (Rests : Type 0) (K : List ℕ) (ops opz : List Stamped) (me e now : ℕ) (x : Stamped) → PutAt ops opz e x → x.actor ≡ me
    → ((i : ℕ) (p : Stamped) → i ≢ e → slice_get ops i ≡ Some p → p.actor ≡ me → Over Rests p)
    → ((j : ℕ) (p : Stamped) → e < j → slice_get ops j ≡ Some p → p.actor ≢ me) → (line : Option Line) (reply due : Option Reply) (empty_at : ℕ)
    → x.last ≡ last_of now reply → x.reply ≡ reply → GoesOn line reply due x.at (Own K me x.first empty_at)
    → OperationAt Rests K opz me line (Some e) due empty_at
mover_knows Rests K ops opz me e now x put own others latest = go
  where
    go : (line : Option Line) (reply due : Option Reply) (empty_at : ℕ) → x.last ≡ last_of now reply → x.reply ≡ reply
        → GoesOn line reply due x.at (Own K me x.first empty_at) → OperationAt Rests K opz me line (Some e) due empty_at
    go None None due empty_at last with_outcome g = absurd g
    go None (Some reply) due empty_at last with_outcome g = λ i p got mine. pick i p mine (put_cases put i p got)
      where
        pick : (i : ℕ) (p : Stamped) → p.actor ≡ me → ((i ≡ e) × (x ≡ p)) ⊎ ((i ≢ e) × (slice_get ops i ≡ Some p)) → Over Rests p
        pick i p mine (inl q) = subst (λ z. Over Rests z) q.1 (inl (subst (λ z. IsSome z) (sym last) refl))
        pick i p mine (inr q) = others i p q.0 q.1 mine
    go (Some l) None due empty_at last with_outcome g = (
      x,
      record {
        here = put.here;
        own = own;
        no_last = last;
        no_reply = with_outcome;
        others = λ i p n got mine. rest i p n mine (put_cases put i p got);
        latest = λ j p lt got. late j p lt (put_cases put j p got);
      },
      g,
    )
      where
        rest : (i : ℕ) (p : Stamped) → i ≢ e → p.actor ≡ me → ((i ≡ e) × (x ≡ p)) ⊎ ((i ≢ e) × (slice_get ops i ≡ Some p)) → Over Rests p
        rest i p n mine (inl q) = absurd (n q.0)
        rest i p n mine (inr q) = others i p n q.1 mine

        late : (j : ℕ) (p : Stamped) → e < j → ((j ≡ e) × (x ≡ p)) ⊎ ((j ≢ e) × (slice_get ops j ≡ Some p)) → p.actor ≢ me
        late j p lt (inl q) = absurd (let a : j ≡ e = q.0 in omega arith)
        late j p lt (inr q) = latest j p lt q.1
    go (Some l) (Some reply) due empty_at last with_outcome g = absurd g

-- the last number of an operation, where it has one, is the number of the move
last_if : (P : ℕ → Type 0) (now : ℕ) (reply : Option Reply) → P now → IfSome (last_of now reply) P
last_if P now None h = tt
last_if P now (Some reply) h = h

-- an operation that is told an outcome is stamped
told_stamped : (K : List ℕ) (now me : ℕ) (s : Stamped) (o : Outcome) → now ≡ length K → IsBy K now me → s.actor ≡ me → IsBy K s.first me → s.first ≤ now
    → Turns (Own K me s.first) s.at o → IsStamped K (with_outcome now o s)
told_stamped K now me s o e n own first low t =
    record {
      first_own = by s.first first;
      last_own = last_if (λ k. IsBy K k s.actor) now o.reply (by now n);
      at_own = IfSome_then (latest_point o.at s.at) t.place (λ k g. by k g.0);
      ends_after = last_if (λ k. s.first ≤ k) now o.reply low;
      placed =
          record {
            ended = ended o.reply;
            placed = placed o.actor.line o.reply t.goes_on;
            not_before = IfSome_then (latest_point o.at s.at) t.place (λ k g. g.1);
            not_after = IfSome_then (latest_point o.at s.at) t.place (λ k g. last_if (λ last. k ≤ last) now o.reply (let within : k ≤ length K = by_within K k me g.0 in omega arith));
          };
    }
  where
    by : (k : ℕ) → IsBy K k me → IsBy K k s.actor
    by k g = subst (λ m. IsBy K k m) (sym own) g

    ended : (reply : Option Reply) → (IsSome (last_of now reply) → IsSome reply) × (IsSome reply → IsSome (last_of now reply))
    ended None = (λ h. h, λ h. h)
    ended (Some reply) = (λ h. refl, λ h. refl)

    placed : (line : Option Line) (reply : Option Reply) → GoesOn line reply o.actor.due (latest_point o.at s.at) (Own K me s.first o.actor.empty_at) → IsSome reply → IsSome (latest_point o.at s.at)
    placed None None g h = absurd g
    placed None (Some reply) g h = g
    placed (Some l) None g h = cc
    placed (Some l) (Some reply) g h = absurd g

-- what the outcome of a numbered move does for an operation of the mover
abbrev pub Does : (now : ℕ) (l : Line) (due : Option Reply) (empty_at : ℕ) → Outcome → Type 1
Does now l due empty_at o =
    (Q : ℕ → Type 0) (at : Option ℕ) → Q now → IfSome at Q → PointAt l due at (Q empty_at) → Turns Q at o

-- both facts of a number, if there is one
if_both : (o : Option ℕ) (P Q : ℕ → Type 0) → IfSome o P → IfSome o Q → IfSome o (λ n. P n × Q n)
if_both None P Q h g = tt
if_both (Some n) P Q h g = (h, g)

-- an operation that is over has ended before a number that nobody took yet
ended_before : (Rests : Type 0) (K : List ℕ) (o : Stamped) (now : ℕ) → length K < now → IsStamped K o → Over Rests o → EndedBefore o now ⊎ (Rests × HasNoEffect o)
ended_before Rests K o now low h (inr left) = inr left
ended_before Rests K o now low h (inl ended) = inl (go o.last ended h.last_own)
  where
    go : (last : Option ℕ) → IsSome last → IfSome last (λ k. IsBy K k o.actor) → IsSomeAnd last (λ k. k < now)
    go None e g = cc
    go (Some k) e g = let within : k ≤ length K = by_within K k o.actor g in omega arith

-- the first numbered move of a call adds its operation
told_first : (Rests : Type 0) (K : List ℕ) (ops : List Stamped) (me now : ℕ) (a : Actor) (l : Line) (o : Outcome) → now ≡ length K + 1 → Operations Rests K ops
    → Does now l a.due a.empty_at o → Idle Rests ops me → PointAt l a.due None ⊥
    → Told Rests (K ++ me ∷ []) ops (with_operation None (new_operation me a.op now) (with_outcome now o) ops) me (length ops) o.actor
told_first Rests K ops me now a l o e h does idle stands =
    record {
      x = x;
      put = put_end ops x;
      own = refl;
      before = λ s got. absurd (let within : length ops < length ops = slice_get_within ops (length ops) s got in omega arith);
      operations =
          operations_put Rests K (me ∷ []) ops (ops ++ x ∷ []) (length ops) x h (put_end ops x)
          (told_stamped (K ++ me ∷ []) now me (new_operation me a.op now) o counted mine refl mine (omega arith) turns)
          (λ i p lt got. precedes i p got)
          (λ j p lt got. absurd (let within : j < length ops = slice_get_within ops j p got in omega arith));
      knows =
          mover_knows Rests (K ++ me ∷ []) ops (ops ++ x ∷ []) me (length ops) now x (put_end ops x) refl
          (λ i p n got own. idle i p got own)
          (λ j p lt got. absurd (let within : j < length ops = slice_get_within ops j p got in omega arith))
          o.actor.line o.reply o.actor.due o.actor.empty_at refl refl turns.goes_on;
    }
  where
    x : Stamped
    x = with_outcome now o (new_operation me a.op now)

    counted : now ≡ length (K ++ me ∷ [])
    counted = e ∙ sym (length-append K (me ∷ []))

    mine : IsBy (K ++ me ∷ []) now me
    mine = by_next K me now e

    turns : Turns (Own (K ++ me ∷ []) me now) None o
    turns = does (Own (K ++ me ∷ []) me now) None (mine, omega arith) tt (point_at_while l a.due None (λ no. absurd no) stands)

    precedes : (i : ℕ) (p : Stamped) → slice_get ops i ≡ Some p → Precedes Rests p x
    precedes i p got = (
      let within : p.first ≤ length K = by_within K p.first p.actor (h.each i p got).first_own in omega arith,
      λ same. ended_before Rests K p now (omega arith) (h.each i p got) (idle i p got same),
    )

-- a later one changes it
told_later : (Rests : Type 0) (K : List ℕ) (ops : List Stamped) (me now entry : ℕ) (a : Actor) (l : Line) (o : Outcome) (s : Stamped) → now ≡ length K + 1
    → Operations Rests K ops → Does now l a.due a.empty_at o → Busy Rests ops me entry s → PointAt l a.due s.at (Own K me s.first a.empty_at)
    → Told Rests (K ++ me ∷ []) ops (set ops entry (with_outcome now o s)) me entry o.actor
told_later Rests K ops me now entry a l o s e h does b stands =
    record {
      x = with_outcome now o s;
      put = put;
      own = b.own;
      before = λ p got. ap (λ z. z.actor) (same_Some p s (sym got ∙ b.here)) ∙ b.own;
      operations =
          operations_put Rests K (me ∷ []) ops (set ops entry (with_outcome now o s)) entry (with_outcome now o s) h put
          (told_stamped (K ++ me ∷ []) now me s o counted mine b.own (by_more K (me ∷ []) s.first me first) low turns)
          (λ i p lt got. h.pairs i entry p s lt got b.here)
          (λ j p lt got. ((h.pairs entry j s p lt b.here got).0, λ same. absurd (b.latest j p lt got (sym same ∙ b.own))));
      knows =
          mover_knows Rests (K ++ me ∷ []) ops (set ops entry (with_outcome now o s)) me entry now (with_outcome now o s) put b.own b.others b.latest
          o.actor.line o.reply o.actor.due o.actor.empty_at refl refl turns.goes_on;
    }
  where
    put : PutAt ops (set ops entry (with_outcome now o s)) entry (with_outcome now o s)
    put = put_set ops entry s (with_outcome now o s) b.here

    counted : now ≡ length (K ++ me ∷ [])
    counted = e ∙ sym (length-append K (me ∷ []))

    mine : IsBy (K ++ me ∷ []) now me
    mine = by_next K me now e

    stamped : IsStamped K s
    stamped = h.each entry s b.here

    first : IsBy K s.first me
    first = subst (λ m. IsBy K s.first m) b.own stamped.first_own

    low : s.first ≤ now
    low = let within : s.first ≤ length K = by_within K s.first me first in omega arith

    turns : Turns (Own (K ++ me ∷ []) me s.first) s.at o
    turns =
        does (Own (K ++ me ∷ []) me s.first) s.at (mine, low)
        (IfSome_then s.at (if_both s.at _ _ stamped.at_own stamped.placed.not_before) (λ n g. (by_more K (me ∷ []) n me (subst (λ m. IsBy K n m) b.own g.0), g.1)))
        (point_at_while l a.due s.at (λ g. (by_more K (me ∷ []) a.empty_at me g.0, g.1)) stands)

-- either of them
told_move : (Rests : Type 0) (K : List ℕ) (ops : List Stamped) (me now : ℕ) (a : Actor) (l : Line) (o : Outcome) → now ≡ length K + 1 → Operations Rests K ops
    → Does now l a.due a.empty_at o → (entry : Option ℕ) → OperationAt Rests K ops me (Some l) entry a.due a.empty_at
    → Told Rests (K ++ me ∷ []) ops (with_operation entry (new_operation me a.op now) (with_outcome now o) ops) me (entry_or entry (length ops)) o.actor
told_move Rests K ops me now a l o e h does None k = told_first Rests K ops me now a l o e h does k.0 k.1
told_move Rests K ops me now a l o e h does (Some entry) k =
    subst (λ s. Told Rests (K ++ me ∷ []) ops (set ops entry (with_outcome now o s)) me entry o.actor)
    (sym (get_or_from_slice_get ops entry k.0 (new_operation me a.op now) k.1.here))
    (told_later Rests K ops me now entry a l o k.0 e h does k.1 k.2)

-- the actors after one was set: it, or another one as it was
pub actor_cases : (w : World) (me : ℕ) (a b : Actor) → actor_of w me ≡ Some a → (you : ℕ) (c : Actor)
    → actor_of (record w { actors = set w.actors (me - 1) b }) you ≡ Some c → ((you ≡ me) × (b ≡ c)) ⊎ ((you ≢ me) × (actor_of w you ≡ Some c))
actor_cases w me a b is you c got = go (nat_eq you 0) refl got
  where
    at : (1 ≤ me) × (slice_get w.actors (me - 1) ≡ Some a)
    at = actor_stands w me a is

    set_at : PutAt w.actors (set w.actors (me - 1) b) (me - 1) b
    set_at = put_set w.actors (me - 1) a b at.1

    pick : (1 ≤ you) → ((you - 1 ≡ me - 1) × (b ≡ c)) ⊎ ((you - 1 ≢ me - 1) × (slice_get w.actors (you - 1) ≡ Some c)) → ((you ≡ me) × (b ≡ c)) ⊎ ((you ≢ me) × (slice_get w.actors (you - 1) ≡ Some c))
    pick one (inl q) = inl (let i : you - 1 ≡ me - 1 = q.0 in let j : 1 ≤ me = at.0 in omega arith, q.1)
    pick one (inr q) = inr (λ same. q.0 (ap (λ k. k - 1) same), q.1)

    go : (z : Bool) → nat_eq you 0 ≡ z → (if z then None else slice_get (set w.actors (me - 1) b) (you - 1)) ≡ Some c
        → ((you ≡ me) × (b ≡ c)) ⊎ ((you ≢ me) × ((if z then None else slice_get w.actors (you - 1)) ≡ Some c))
    go true e g = absurd (none-some c g)
    go false e g = pick (let other : ¬ (you ≡ 0) = eqb-false you 0 e in omega arith) (put_cases set_at (you - 1) c g)

-- a numbered move keeps what holds
pub settled_kept : (Rests : Type 0) (K : List ℕ) (w : World) (me : ℕ) (a : Actor) (shared : Shared) (l : Line) (o : Outcome) → StampsInvariant Rests K w
    → actor_of w me ≡ Some a → OperationAt Rests K w.operations me (Some l) a.entry a.due a.empty_at → Does (w.steps + 1) l a.due a.empty_at o
    → StampsInvariant Rests (K ++ me ∷ []) (after_outcome w me a shared o)
settled_kept Rests K w me a shared l o h is k does =
    record {
      counted = now ∙ sym (length-append K (me ∷ []));
      operations = it.operations;
      actors = λ you c got. pick you c (actor_cases w me a _ is you c got);
    }
  where
    now : w.steps + 1 ≡ length K + 1
    now = ap (λ n. n + 1) h.counted

    opz : List Stamped
    opz = with_operation a.entry (new_operation me a.op (w.steps + 1)) (with_outcome (w.steps + 1) o) w.operations

    it : Told Rests (K ++ me ∷ []) w.operations opz me (entry_or a.entry (length w.operations)) o.actor
    it = told_move Rests K w.operations me (w.steps + 1) a l o now h.operations does a.entry k

    pick : (you : ℕ) (c : Actor)
        → ((you ≡ me) × (record o.actor { entry = Some (entry_or a.entry (length w.operations)) } ≡ c)) ⊎ ((you ≢ me) × (actor_of w you ≡ Some c))
        → OperationAt Rests (K ++ me ∷ []) opz you c.line c.entry c.due c.empty_at
    pick you c (inl q) =
        subst (λ m. OperationAt Rests (K ++ me ∷ []) opz m c.line c.entry c.due c.empty_at) (sym q.0)
        (subst (λ z. OperationAt Rests (K ++ me ∷ []) opz me z.line z.entry z.due z.empty_at) q.1 it.knows)
    pick you c (inr q) =
        knows_on Rests K (me ∷ []) w.operations opz you (entry_or a.entry (length w.operations)) it.x it.put
        (λ own. q.0 (sym own ∙ it.own))
        (λ s got own. q.0 (sym own ∙ it.before s got))
        c.line c.entry c.due c.empty_at (h.actors you c q.1)
