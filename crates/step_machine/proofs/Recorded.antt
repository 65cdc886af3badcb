-- Each operation is of the call that was begun, and ends as its last move was told.
use Rattle.std.proofs.Common.{◌≡◌, ◌≢◌, ℕ, ◌+◌, ◌-◌, ◌⊎◌, inl, inr, List, [], ◌∷◌, ◌++◌, length, Option, Some, None, IfSome, refl, sym, subst, ap, ◌∙◌, append_assoc, length-append, arith}
use Rattle.std.specs.Prelude.{slice_get}
use Rattle.std.specs.List.{AllByRecursion}
use Rattle.std.proofs.lemmas.Option.{none-some, same_Some, IfSome_then}
use Rattle.line_table.specs.declared.lines.Kind.{Kind}
use Rattle.line_table.specs.declared.lines.Kind.TheVariants.{TwoLock, NonBlocking}
use Rattle.line_table.specs.declared.lines.Line.{Line}
use Rattle.line_table.specs.declared.lines.Line.TheVariants.{F1, E2, A1}
use Rattle.history.specs.declared.operations.Op.{Op}
use Rattle.history.specs.declared.operations.Op.TheVariants.{Enq, Deq, Shut}
use Rattle.history.specs.declared.operations.Reply.{Reply}
use Rattle.history.specs.declared.operations.Stamped.{Stamped}
use Rattle.line_steps.specs.declared.actors.Setup.{Setup}
use Rattle.line_steps.specs.Actors.{Actor}
use Rattle.line_steps.specs.declared.actors.Held.{Held}
use Rattle.line_steps.specs.Outcomes.{Outcome}
use Rattle.line_steps.specs.Memory.{Shared, found, performed}
use Rattle.line_steps.specs.Lines.{action, outcome, gives_up}
use Rattle.line_steps.specs.Calls.{from_pocket, begun}
use Rattle.step_machine.specs.declared.actors.Move.{Move}
use Rattle.step_machine.specs.declared.actors.Move.TheVariants.{Begin, Step, Give}
use Rattle.step_machine.specs.declared.actors.Stepped.{Stepped}
use Rattle.step_machine.specs.declared.actors.Stepped.TheVariants.{Ended}
use Rattle.step_machine.specs.Machine.{World, opening, actor_of, rested, with_actor, last_of, with_outcome, entry_or, after_outcome, new_operation, mover, AnyMove, made, Rest, run}
use Rattle.step_machine.specs.Calls.{giving_up, giving_up_at, stepped_at, line_of, step_answer, reply_of, ended_at, move_answer}
use Rattle.step_machine.specs.Stamps.{makers, numbered_by}
use Rattle.step_machine.specs.TakingEffect.{OfOperations}
use Rattle.step_machine.specs.Recorded.{maker, IsFirstOfCall, AreOfCallsBegun, IsEnd, EndAsTold, Ending, TellTheirEnds}
use Rattle.step_machine.proofs.StampsInvariants.{actor_stands}
use Rattle.step_machine.proofs.StampsMoves.{idle_got}
use Rattle.step_machine.proofs.AnyMoves.{AfterEach}
use Rattle.step_machine.proofs.EffectsKept.{split_last}
use Rattle.step_machine.proofs.EachMove.{walked, kept_after, Telling, telling, stood, each_put, each_actor, all_of, if_some_all}

-- the reply that a move was told, if its call ended
abbrev said : Option Stepped → Option Reply
said (Some (Ended l reply)) = Some reply
said _ = None

abbrev heard : World → AnyMove → Option Reply
heard w (made m) = said (move_answer w m)
heard w (Rest me) = None

said_at : (l : Line) (reply : Option Reply) → said (Some (stepped_at l reply)) ≡ reply
said_at l None = refl
said_at l (Some reply) = refl

said_ended : (l : Line) (reply : Option Reply) → said (ended_at (Some l) reply) ≡ reply
said_ended l None = refl
said_ended l (Some reply) = refl

-- what a step and a giving up are told
step_is_told : (w : World) (me : ℕ) (a : Actor) (l : Line) → actor_of w me ≡ Some a → a.line ≡ Some l
    → move_answer w (Step me) ≡ Some (stepped_at l (outcome w.setup (w.steps + 1) me a l (found (action w.setup me a l) w.shared)).reply)
step_is_told w me a l is at =
    ap (step_answer w me) is
    ∙ ap (λ x. step_answer w me (Some (record a { line = x }))) at
    ∙ sym (ap (λ x. Some (stepped_at l (outcome w.setup (w.steps + 1) me (record a { line = x }) l (found (action w.setup me (record a { line = x }) l) w.shared)).reply)) at)

give_is_told : (w : World) (me : ℕ) (a : Actor) (l : Line) (o : Outcome) → actor_of w me ≡ Some a → a.line ≡ Some l → gives_up (w.steps + 1) a l ≡ Some o
    → move_answer w (Give me) ≡ ended_at (Some l) o.reply
give_is_told w me a l o is at given =
    let line : line_of (actor_of w me) ≡ Some l = ap line_of is ∙ at in
    let reply : reply_of (giving_up w (actor_of w me)) ≡ o.reply = ap (λ x. reply_of (giving_up w x)) is ∙ ap (λ x. reply_of (giving_up_at w a x)) at ∙ ap reply_of given in
    ap (λ x. ended_at x (reply_of (giving_up w (actor_of w me)))) line ∙ ap (ended_at (Some l)) reply

-- the call that a beginning begins
from_pocket_op : (l : Line) (pocket : Option Held) (a : Actor) → (from_pocket l pocket a).op ≡ a.op
from_pocket_op l None a = refl
from_pocket_op l (Some held) a = refl

begun_op : (kind : Kind) (me : ℕ) (op : Op) (a : Actor) → (begun kind me op a).op ≡ op
begun_op TwoLock me (Enq body) a = from_pocket_op A1 a.pocket _
begun_op NonBlocking me (Enq body) a = from_pocket_op E2 a.pocket _
begun_op TwoLock me Deq a = from_pocket_op F1 a.pocket _
begun_op NonBlocking me Deq a = from_pocket_op F1 a.pocket _
begun_op kind me Shut a = refl

all_more : (P : AnyMove → Type 0) (ms : List AnyMove) (m : AnyMove) → AllByRecursion P ms → P m → AllByRecursion P (ms ++ m ∷ [])
all_more P [] m all last = (last, tt)
all_more P (k ∷ ks) m all last = (all.0, all_more P ks m all.1 last)

-- an actor began a call, and made no move since
record Begun (done : List AnyMove) (me : ℕ) (op : Op) : Type 0 where
  before : List AnyMove
  between : List AnyMove
  moves_are : done ≡ before ++ made (Begin me op) ∷ between
  alone : AllByRecursion (λ m. maker m ≢ me) between

begun_more : (done : List AnyMove) (m : AnyMove) (me : ℕ) (op : Op) → maker m ≢ me → Begun done me op → Begun (done ++ m ∷ []) me op
begun_more done m me op other b =
    record {
      before = b.before;
      between = b.between ++ m ∷ [];
      moves_are = ap (λ ms. ms ++ m ∷ []) b.moves_are ∙ append_assoc b.before (made (Begin me op) ∷ b.between) (m ∷ []);
      alone = all_more (λ k. maker k ≢ me) b.between m b.alone other;
    }

module _ (s : Setup) (n : ℕ) where
  first_more : (done : List AnyMove) (m : AnyMove) (me k : ℕ) (op : Op) → IsFirstOfCall s n done me k op → IsFirstOfCall s n (done ++ m ∷ []) me k op
  first_more done m me k op f =
      record {
        before = f.before;
        between = f.between;
        move = f.move;
        after = f.after ++ m ∷ [];
        world = f.world;
        moves_are = ap (λ ms. ms ++ m ∷ []) f.moves_are ∙ append_assoc (f.before ++ made (Begin me op) ∷ f.between) (f.move ∷ f.after) (m ∷ []);
        led = f.led;
        numbered = f.numbered;
        takes_it = f.takes_it;
        alone = f.alone;
      }

  end_more : (done : List AnyMove) (m : AnyMove) (me k : ℕ) (reply : Reply) → IsEnd s n done me k reply → IsEnd s n (done ++ m ∷ []) me k reply
  end_more done m me k reply e =
      record {
        before = e.before;
        move = e.move;
        after = e.after ++ m ∷ [];
        world = e.world;
        line = e.line;
        moves_are = ap (λ ms. ms ++ m ∷ []) e.moves_are ∙ append_assoc e.before (made e.move ∷ e.after) (m ∷ []);
        led = e.led;
        numbered = e.numbered;
        own = e.own;
        told = e.told;
      }

  -- an end was one before the last move, or is that move
  end_last : (done : List AnyMove) (w : World) (m : AnyMove) (me k : ℕ) (reply : Reply) → run done (opening s n) ≡ Some w
      → IsEnd s n (done ++ m ∷ []) me k reply → IsEnd s n done me k reply ⊎ ((maker m ≡ me) × (k ≡ w.steps + 1) × (heard w m ≡ Some reply))
  end_last done w m me k reply led e = go (split_last done e.before e.after m (made e.move) e.moves_are)
    where
      go : ((e.before ≡ done) × (m ≡ made e.move)) ⊎ ((more : List AnyMove) × (done ≡ e.before ++ made e.move ∷ more))
          → IsEnd s n done me k reply ⊎ ((maker m ≡ me) × (k ≡ w.steps + 1) × (heard w m ≡ Some reply))
      go (inl p) =
          let same : e.world ≡ w = same_Some e.world w (sym e.led ∙ ap (λ ms. run ms (opening s n)) p.0 ∙ led) in
          inr (
            ap maker p.1 ∙ e.own,
            e.numbered ∙ ap (λ (u : World). u.steps + 1) same,
            ap (heard w) p.1 ∙ ap (λ u. said (move_answer u e.move)) (sym same) ∙ ap said e.told,
          )
      go (inr p) =
          inl record {
            before = e.before;
            move = e.move;
            after = p.0;
            world = e.world;
            line = e.line;
            moves_are = p.1;
            led = e.led;
            numbered = e.numbered;
            own = e.own;
            told = e.told;
          }

  -- what the operations after some moves record, and which calls are begun
  record Records (done : List AnyMove) (w : World) : Type 0 where
    firsts : (i : ℕ) (o : Stamped) → slice_get w.operations i ≡ Some o → IsFirstOfCall s n done o.actor o.first o.op
    begins : (me : ℕ) (a : Actor) (l : Line) → actor_of w me ≡ Some a → a.line ≡ Some l → a.entry ≡ None → Begun done me a.op
    ends : (i last : ℕ) (reply : Reply) (o : Stamped) → slice_get w.operations i ≡ Some o → o.last ≡ Some last → o.reply ≡ Some reply → IsEnd s n done o.actor last reply
    each_end : (me k : ℕ) (reply : Reply) → IsEnd s n done me k reply → Ending w.operations me k reply

  -- a move that is told nothing
  still : (done : List AnyMove) (w : World) (m : AnyMove) (me : ℕ) (a b : Actor) → maker m ≡ me → heard w m ≡ None → run done (opening s n) ≡ Some w
      → actor_of w me ≡ Some a → ((l : Line) → b.line ≡ Some l → Begun (done ++ m ∷ []) me b.op) → Records done w → Records (done ++ m ∷ []) (with_actor w me b)
  still done w m me a b own none led is mine h =
      record {
        firsts = λ i o got. first_more done m o.actor o.first o.op (h.firsts i o got);
        begins = λ you c l got.
            each_actor w me a b (λ j x. x.line ≡ Some l → x.entry ≡ None → Begun (done ++ m ∷ []) j x.op) is (λ at e. mine l at)
            (λ j x other there at e. begun_more done m j x.op (λ same. other (sym same ∙ own)) (h.begins j x l there at e)) you c got;
        ends = λ i last reply o got l r. end_more done m o.actor last reply (h.ends i last reply o got l r);
        each_end = λ you k reply e. elim (end_last done w m you k reply led e) [ inl old ↦ h.each_end you k reply old | inr new ↦ absurd (none-some reply (sym none ∙ new.2)) ];
      }

  module _ (done : List AnyMove) (w : World) (move : Move) (me : ℕ) (a : Actor) (l : Line) (o : Outcome) (m' : Shared)
      (takes : numbered_by (made move) ≡ me ∷ []) (own : mover move ≡ me) (led : run done (opening s n) ≡ Some w) (is : actor_of w me ≡ Some a)
      (at_line : a.line ≡ Some l) (tells : heard w (made move) ≡ o.reply)
      (as_told : (reply : Reply) → o.reply ≡ Some reply → move_answer w move ≡ Some (Ended l reply)) (h : Records done w) where
    it : Telling (makers done) w me a l o (after_outcome w me a m' o).operations
    it = telling (makers done) w me a l o (kept_after s n done w led) is at_line

    -- the operation told is of the call begun
    first : IsFirstOfCall s n (done ++ made move ∷ []) it.was.actor it.was.first it.was.op
    first = go it.from
      where
        go : ((a.entry ≡ None) × (it.place ≡ length w.operations) × (it.was ≡ new_operation me a.op (w.steps + 1))) ⊎ ((a.entry ≡ Some it.place) × (slice_get w.operations it.place ≡ Some it.was))
            → IsFirstOfCall s n (done ++ made move ∷ []) it.was.actor it.was.first it.was.op
        go (inl new) =
            let b : Begun done me a.op = h.begins me a l is at_line new.0 in
            subst (λ (x : Stamped). IsFirstOfCall s n (done ++ made move ∷ []) x.actor x.first x.op) (sym new.2)
            (record {
              before = b.before;
              between = b.between;
              move = made move;
              after = [];
              world = w;
              moves_are = ap (λ ms. ms ++ made move ∷ []) b.moves_are;
              led = ap (λ ms. run ms (opening s n)) (sym b.moves_are) ∙ led;
              numbered = refl;
              takes_it = takes;
              alone = b.alone;
            })
        go (inr old) = first_more done (made move) it.was.actor it.was.first it.was.op (h.firsts it.place it.was old.1)

    -- and ends as it was told
    end : (last : ℕ) (reply : Reply) → last_of (w.steps + 1) o.reply ≡ Some last → o.reply ≡ Some reply → IsEnd s n (done ++ made move ∷ []) it.was.actor last reply
    end last reply e r =
        record {
          before = done;
          move = move;
          after = [];
          world = w;
          line = l;
          moves_are = refl;
          led = led;
          numbered = same_Some last (w.steps + 1) (sym e ∙ ap (last_of (w.steps + 1)) r);
          own = own ∙ sym it.own;
          told = as_told reply r;
        }

    -- the operation told had not ended
    elsewhere : (i last : ℕ) (p : Stamped) → slice_get w.operations i ≡ Some p → p.last ≡ Some last → i ≢ it.place
    elsewhere i last p got ended q = none-some last (sym it.no_last ∙ ap (λ (x : Stamped). x.last) (stood it i p got q) ∙ ended)

    -- a numbered move
    settled_records : Records (done ++ made move ∷ []) (after_outcome w me a m' o)
    settled_records =
        record {
          firsts =
              each_put it.put (λ i p. IsFirstOfCall s n (done ++ made move ∷ []) p.actor p.first p.op) first
              (λ i p other got. first_more done (made move) p.actor p.first p.op (h.firsts i p got));
          begins = λ you c j got.
              each_actor w me a (record o.actor { entry = Some (entry_or a.entry (length w.operations)) }) (λ i x. x.line ≡ Some j → x.entry ≡ None → Begun (done ++ made move ∷ []) i x.op) is
              (λ at e. absurd (none-some (entry_or a.entry (length w.operations)) (sym e)))
              (λ i x other there at e. begun_more done (made move) i x.op (λ same. other (sym same ∙ own)) (h.begins i x j there at e)) you c got;
          ends = λ i last reply.
              each_put it.put (λ j p. p.last ≡ Some last → p.reply ≡ Some reply → IsEnd s n (done ++ made move ∷ []) p.actor last reply) (end last reply)
              (λ j p other got l r. end_more done (made move) p.actor last reply (h.ends j last reply p got l r)) i;
          each_end = λ you k reply e. each_end you k reply (end_last done w (made move) you k reply led e);
        }
      where
        each_end : (you k : ℕ) (reply : Reply) → IsEnd s n done you k reply ⊎ ((mover move ≡ you) × (k ≡ w.steps + 1) × (heard w (made move) ≡ Some reply))
            → Ending (after_outcome w me a m' o).operations you k reply
        each_end you k reply (inl old) =
            let x : Ending w.operations you k reply = h.each_end you k reply old in
            record {
              place = x.place;
              operation = x.operation;
              there = it.put.others x.place (elsewhere x.place k x.operation x.there x.last) ∙ x.there;
              own = x.own;
              last = x.last;
              reply = x.reply;
            }
        each_end you k reply (inr new) =
            let ended : o.reply ≡ Some reply = sym tells ∙ new.2 in
            record {
              place = it.place;
              operation = with_outcome (w.steps + 1) o it.was;
              there = it.put.here;
              own = it.own ∙ sym own ∙ new.0;
              last = ap (last_of (w.steps + 1)) ended ∙ ap Some (sym new.1);
              reply = ended;
            }

  -- each move keeps it
  each : (done : List AnyMove) (w : World) → run done (opening s n) ≡ Some w → Records done w → AfterEach w (λ m v. Records (done ++ m ∷ []) v)
  each done w led h =
      record {
        began = λ me op a is e call.
            still done w (made (Begin me op)) me a (begun w.setup.kind me op a) refl refl led is
            (λ l at. record {
              before = done;
              between = [];
              moves_are = ap (λ x. done ++ made (Begin me x) ∷ []) (sym (begun_op w.setup.kind me op a));
              alone = tt;
            })
            h;
        step = λ me a l is at.
            settled_records done w (Step me) me a l (outcome w.setup (w.steps + 1) me a l (found (action w.setup me a l) w.shared)) (performed (action w.setup me a l) w.shared) refl refl led is at
            (ap said (step_is_told w me a l is at) ∙ said_at l _)
            (λ reply e. step_is_told w me a l is at ∙ ap (λ x. Some (stepped_at l x)) e) h;
        gave_up = λ me a l o is at given.
            settled_records done w (Give me) me a l o w.shared refl refl led is at
            (ap said (give_is_told w me a l o is at given) ∙ said_ended l o.reply)
            (λ reply e. give_is_told w me a l o is at given ∙ ap (ended_at (Some l)) e) h;
        at_rest = λ me a l is at may. still done w (Rest me) me a (rested a) refl refl led is (λ j e. absurd (none-some j e)) h;
      }

  -- at the start
  starts : Records [] (opening s n)
  starts =
      record {
        firsts = λ i o got. absurd (none-some o got);
        begins = λ me a l got at e. absurd (idle_line me a l got at);
        ends = λ i last reply o got l r. absurd (none-some o got);
        each_end = λ me k reply e. absurd (let short : length {A = AnyMove} [] ≡ length (e.before ++ made e.move ∷ e.after) =
            ap length e.moves_are in omega (arith, length-append e.before (made e.move ∷ e.after)));
      }
    where
      idle_line : (me : ℕ) (a : Actor) (l : Line) → actor_of (opening s n) me ≡ Some a → a.line ≡ Some l → ⊥
      idle_line me a l got at = none-some l (ap (λ (z : Actor). z.line) (idle_got n (me - 1) a (actor_stands (opening s n) me a got).1) ∙ at)

-- after every list of moves
recorded_after : (s : Setup) (n : ℕ) (moves : List AnyMove) → IfSome (run moves (opening s n)) (Records s n moves)
recorded_after s n moves = walked s n (Records s n) (each s n) (starts s n) moves

pub are_of_calls_begun : OfOperations AreOfCallsBegun
are_of_calls_begun s n moves =
    IfSome_then (run moves (opening s n)) (recorded_after s n moves) (λ w h. all_of (λ o. IsFirstOfCall s n moves o.actor o.first o.op) w.operations h.firsts)

pub end_as_told : OfOperations EndAsTold
end_as_told s n moves =
    IfSome_then (run moves (opening s n)) (recorded_after s n moves)
    (λ w h. all_of _ w.operations (λ i o got. if_some_all o.last _ (λ last l. if_some_all o.reply _ (λ reply r. h.ends i last reply o got l r))))

pub tell_their_ends : OfOperations TellTheirEnds
tell_their_ends s n moves = IfSome_then (run moves (opening s n)) (recorded_after s n moves) (λ w h. h.each_end)
