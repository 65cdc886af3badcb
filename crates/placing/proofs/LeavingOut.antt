-- A history that is one of a queue is one without some values, and without calls that changed nothing.
use Rattle.std.proofs.Common.{◌≡◌, ◌⊎◌, inl, inr, ◌∙◌, ℕ, ◌+◌, Bool, true, false, ◌&&◌, cond, Option, None, Some, IsSome, IfSome, List, [], ◌∷◌, ◌++◌, map, All, refl, sym, ap, subst, arith}
use Rattle.std.specs.List.{AllByRecursion, count_by, filter}
use Rattle.std.specs.List.Sorted.{IsPermutation}
use Rattle.std.proofs.lemmas.List.{append-nil, map-append}
use Rattle.std.proofs.lemmas.List.Sums.{sum_by-cons}
use Rattle.std.proofs.lemmas.List.Elements.{filter-append, All-from_recursion, recursion_from_All}
use Rattle.std.proofs.lemmas.List.Sorted.{IsPermutation-refl, IsPermutation-sym, IsPermutation-trans, IsPermutation-cons, IsPermutation-middle, IsPermutation-map, All-permutation}
use Rattle.history.specs.declared.refusals.Refusal.{Refusal}
use Rattle.history.specs.declared.refusals.Refusal.TheVariants.{Closed}
use Rattle.history.specs.declared.operations.Op.{Op}
use Rattle.history.specs.declared.operations.Op.TheVariants.{Enq, Deq, Shut}
use Rattle.history.specs.declared.operations.Taken.{Taken}
use Rattle.history.specs.declared.operations.Reply.{Reply}
use Rattle.history.specs.declared.operations.Reply.TheVariants.{Done, Value, Empty, Refused}
use Rattle.history.specs.declared.operations.Stamped.{Stamped}
use Rattle.history.specs.Queue.{Queue, response}
use Rattle.history.specs.History.{answer, leaves, AgreesWithQueue}
use Rattle.history.specs.Tallies.{is_not_refused}
use Rattle.history.specs.Linearizability.{Answered, operations_of, IsPending, GivesRecordedReply, MayComeBefore, KeepsTime, IsRun, IsLinearizable}
use Rattle.waiting_orders.specs.Waiting.{IsCall, IsOfQueue}
use Rattle.waiting_orders.proofs.Picking.{along_permutation, filter_moved}
use Rattle.placing.specs.Kinds.{same_value, is_told_in, is_push_in, pushes_in, pushes_of, takes_of}
use Rattle.placing.proofs.Runs.{one_if, same_itself}
use Rattle.placing.specs.declared.marks.Marked.{Marked}
use Rattle.placing.specs.Parts.{all_of, part_of, MayGo, MayBeOut}

-- ---- marks go along a permutation

record Lifted (ms : List Marked) (ys : List Stamped) : Type 0 where
  marks : List Marked
  are : all_of marks ≡ ys
  moved : IsPermutation ms marks

abbrev Lifts : (xs ys : List Stamped) → Type 0
Lifts xs ys = (ms : List Marked) → all_of ms ≡ xs → Lifted ms ys

lift_same : (xs : List Stamped) → Lifts xs xs
lift_same xs ms e = record { marks = ms; are = e; moved = IsPermutation-refl ms }

lift_skip : (x : Stamped) (xs ys : List Stamped) → Lifts xs ys → Lifts (x ∷ xs) (x ∷ ys)
lift_skip x xs ys h [] e = absurd cc
lift_skip x xs ys h (m ∷ ms) e =
    let head : m.operation ≡ x = cc in
    let tail : all_of ms ≡ xs = cc in
    let l = h ms tail in
    record { marks = m ∷ l.marks; are = ap (λ y. y ∷ all_of l.marks) head ∙ ap (λ l. x ∷ l) l.are; moved = IsPermutation-cons m ms l.marks l.moved }

lift_turn : (x y : Stamped) (xs : List Stamped) → Lifts (x ∷ y ∷ xs) (y ∷ x ∷ xs)
lift_turn x y xs [] e = absurd cc
lift_turn x y xs (m ∷ []) e = absurd cc
lift_turn x y xs (m ∷ n ∷ ms) e =
    let one : m.operation ≡ x = cc in
    let two : n.operation ≡ y = cc in
    let tail : all_of ms ≡ xs = cc in
    record {
      marks = n ∷ m ∷ ms;
      are = ap (λ a. a ∷ m.operation ∷ all_of ms) two ∙ ap (λ a. y ∷ a ∷ all_of ms) one ∙ ap (λ l. y ∷ x ∷ l) tail;
      moved = IsPermutation-middle (m ∷ []) n ms;
    }

lift_chain : (xs ys zs : List Stamped) → Lifts xs ys → Lifts ys zs → Lifts xs zs
lift_chain xs ys zs g h ms e =
    let l = g ms e in
    let k = h l.marks l.are in
    record { marks = k.marks; are = k.are; moved = IsPermutation-trans ms l.marks k.marks l.moved k.moved }

lifts : (xs ys : List Stamped) → IsPermutation xs ys → Lifts xs ys
lifts = along_permutation Lifts lift_same lift_skip lift_turn lift_chain

-- ---- what one operation of a run does

record IsPush (o : Stamped) (r : Reply) (vs : List Taken) (shut : Bool) (next : Queue) : Type 0 where
  body : ℕ
  op : o.op ≡ Enq body
  reply : r ≡ Done
  before : shut ≡ false
  after : next ≡ record { values = vs ++ record { from = o.actor; body = body } ∷ []; shut = shut }

record IsTake (o : Stamped) (r : Reply) (vs : List Taken) (shut : Bool) (next : Queue) : Type 0 where
  value : Taken
  rest : List Taken
  op : o.op ≡ Deq
  reply : r ≡ Value value
  before : vs ≡ value ∷ rest
  after : next ≡ record { values = rest; shut = shut }

record IsEmpty (o : Stamped) (r : Reply) (vs : List Taken) (shut : Bool) (next : Queue) : Type 0 where
  op : o.op ≡ Deq
  reply : r ≡ Empty
  before : vs ≡ []
  unshut : shut ≡ false
  after : next ≡ record { values = vs; shut = shut }

record IsShut (o : Stamped) (r : Reply) (vs : List Taken) (shut : Bool) (next : Queue) : Type 0 where
  op : o.op ≡ Shut
  reply : r ≡ Done
  before : shut ≡ false
  after : next ≡ record { values = vs; shut = true }

-- refused, as by each queue that is shut alike and has no values where this one has none
record IsRefused (o : Stamped) (r : Reply) (vs : List Taken) (shut : Bool) (next : Queue) : Type 0 where
  refusal : Refusal
  reply : r ≡ Refused refusal
  after : next ≡ record { values = vs; shut = shut }
  again : (us : List Taken) → (vs ≡ [] → us ≡ []) → AgreesWithQueue (record { values = us; shut = shut }) o (Some (Refused refusal))

abbrev Move : (o : Stamped) (r : Reply) (vs : List Taken) (shut : Bool) (next : Queue) → Type 0
Move o r vs shut next =
    IsPush o r vs shut next ⊎ (IsTake o r vs shut next ⊎ (IsEmpty o r vs shut next ⊎ (IsShut o r vs shut next ⊎ IsRefused o r vs shut next)))

abbrev queue : List Taken → Bool → Queue
queue vs shut = record { values = vs; shut = shut }

done : (o : Stamped) (op : Op) (vs : List Taken) (shut : Bool) → o.op ≡ op → Done ≡ (response o.actor op (queue vs shut)).reply
    → Move o Done vs shut (response o.actor op (queue vs shut)).after
done o (Enq body) vs true e h = absurd cc
done o (Enq body) vs false e h = inl (record { body = body; op = e; reply = refl; before = refl; after = refl })
done o Deq [] true e h = absurd cc
done o Deq [] false e h = absurd cc
done o Deq (v ∷ vs) shut e h = absurd cc
done o Shut vs true e h = absurd cc
done o Shut vs false e h = inr (inr (inr (inl (record { op = e; reply = refl; before = refl; after = refl }))))

took : (o : Stamped) (op : Op) (v : Taken) (vs : List Taken) (shut : Bool) → o.op ≡ op → Value v ≡ (response o.actor op (queue vs shut)).reply
    → Move o (Value v) vs shut (response o.actor op (queue vs shut)).after
took o (Enq body) v vs true e h = absurd cc
took o (Enq body) v vs false e h = absurd cc
took o Deq v [] true e h = absurd cc
took o Deq v [] false e h = absurd cc
took o Deq v (w ∷ vs) shut e h = inr (inl (record { value = w; rest = vs; op = e; reply = h; before = refl; after = refl }))
took o Shut v vs true e h = absurd cc
took o Shut v vs false e h = absurd cc

found_empty : (o : Stamped) (op : Op) (vs : List Taken) (shut : Bool) → o.op ≡ op → Empty ≡ (response o.actor op (queue vs shut)).reply
    → Move o Empty vs shut (response o.actor op (queue vs shut)).after
found_empty o (Enq body) vs true e h = absurd cc
found_empty o (Enq body) vs false e h = absurd cc
found_empty o Deq [] true e h = absurd cc
found_empty o Deq [] false e h = inr (inr (inl (record { op = e; reply = refl; before = refl; unshut = refl; after = refl })))
found_empty o Deq (v ∷ vs) shut e h = absurd cc
found_empty o Shut vs true e h = absurd cc
found_empty o Shut vs false e h = absurd cc

refused_again : (actor : ℕ) (op : Op) (vs us : List Taken) (shut : Bool) → (vs ≡ [] → us ≡ []) → Refused Closed ≡ (response actor op (queue vs shut)).reply
    → Refused Closed ≡ (response actor op (queue us shut)).reply
refused_again actor (Enq body) vs us true k h = refl
refused_again actor (Enq body) vs us false k h = absurd cc
refused_again actor Deq [] us true k h = subst (λ us. Refused Closed ≡ (response actor Deq (queue us true)).reply) (sym (k refl)) refl
refused_again actor Deq [] us false k h = absurd cc
refused_again actor Deq (v ∷ vs) us shut k h = absurd cc
refused_again actor Shut vs us true k h = refl
refused_again actor Shut vs us false k h = absurd cc

move : (o : Stamped) (r : Reply) (vs : List Taken) (shut : Bool) → AgreesWithQueue (queue vs shut) o (Some r)
    → Move o r vs shut (answer (queue vs shut) o (Some r)).after
move o Done vs shut h = done o o.op vs shut refl h
move o (Value v) vs shut h = took o o.op v vs shut refl h
move o Empty vs shut h = found_empty o o.op vs shut refl h
move o (Refused refusal) vs shut h = inr (inr (inr (inr (record { refusal = refusal; reply = refl; after = refl; again = go h }))))
  where
    go : (leaves refusal ≡ true) ⊎ ((refusal ≡ Closed) × (Refused Closed ≡ (response o.actor o.op (queue vs shut)).reply))
        → (us : List Taken) → (vs ≡ [] → us ≡ []) → AgreesWithQueue (queue us shut) o (Some (Refused refusal))
    go (inl l) us k = inl l
    go (inr l) us k = inr (l.0, refused_again o.actor o.op vs us shut k l.1)

-- ---- an order is walked along

pending_is : (o : Stamped) → IsCall o → o.reply ≡ None → IsPending o
pending_is o c e = go o.last refl (subst (λ r. IsSome o.last → IsSome r) e c.ended.0)
  where
    go : (last : Option ℕ) → o.last ≡ last → (IsSome last → IsSome {T = Reply} None) → IsPending o
    go None f h = record { not_ended = f; not_told = e }
    go (Some last) f h = let k : false ≡ true = h refl in absurd cc

-- a value in the queue, and whether its push is in the part
record Held : Type 0 where
  value : Taken
  is_in : Bool

abbrev values : List Held → List Taken
values cs = map (λ c. c.value) cs

abbrev ins : List Held → List Taken
ins cs = values (filter (λ c. c.is_in) cs)

-- the pops and pushes of these operations are counted
module _ (part : List Stamped) where
  -- an operation is in the part
  record IsIn (o : Stamped) : Type 0 where
    taken : (v : Taken) → o.reply ≡ Some (Value v) → takes_of (same_value v) part ≡ 0 → ⊥
    pushed : (body : ℕ) → o.op ≡ Enq body → is_not_refused o.reply ≡ true → pushes_of (same_value (record { from = o.actor; body = body })) part ≡ 0 → ⊥

  -- what is known of an operation, by whether it is in the part
  abbrev Fate : Bool → Stamped → Type 0
  Fate true o = IsIn o
  Fate false o = MayGo part o.actor o.op o.reply

  abbrev HasFate : Marked → Type 0
  HasFate m = Fate m.is_in m.operation × IsCall m.operation

  -- what is known of a value in the queue
  abbrev Kept : Bool → Taken → Type 0
  Kept true v = pushes_of (same_value v) part ≡ 0 → ⊥
  Kept false v = takes_of (same_value v) part ≡ 0

  abbrev IsKnown : Held → Type 0
  IsKnown c = Kept c.is_in c.value

  record Walked (order : List Answered) (ms : List Marked) (us : List Taken) (shut : Bool) : Type 0 where
    kept : List Answered
    out : List Stamped
    each : IsPermutation (part_of ms) (operations_of kept ++ out)
    pending : AllByRecursion IsPending out
    told : AllByRecursion GivesRecordedReply kept
    sub : (o : Stamped) → AllByRecursion (MayComeBefore o) (operations_of order) → AllByRecursion (MayComeBefore o) (operations_of kept)
    timely : KeepsTime (operations_of kept)
    runs : IsRun (queue us shut) kept

  module _ (a : Answered) (order : List Answered) (m : Marked) (ms : List Marked) (same : m.operation ≡ a.operation) (us : List Taken) (shut : Bool) where
    in_part : m.is_in ≡ true → part_of (m ∷ ms) ≡ a.operation ∷ part_of ms
    in_part e = ap (λ b. all_of (cond b (m ∷ filter (λ m. m.is_in) ms) (filter (λ m. m.is_in) ms))) e ∙ ap (λ o. o ∷ part_of ms) same

    not_in_part : m.is_in ≡ false → part_of (m ∷ ms) ≡ part_of ms
    not_in_part e = ap (λ b. all_of (cond b (m ∷ filter (λ m. m.is_in) ms) (filter (λ m. m.is_in) ms))) e

    keep : m.is_in ≡ true → GivesRecordedReply a → AllByRecursion (MayComeBefore a.operation) (operations_of order)
        → AgreesWithQueue (queue us shut) a.operation (Some a.reply) → (later : List Taken) (closed : Bool)
        → (answer (queue us shut) a.operation (Some a.reply)).after ≡ queue later closed → Walked order ms later closed → Walked (a ∷ order) (m ∷ ms) us shut
    keep e told before agrees later closed next w = record {
      kept = a ∷ w.kept;
      out = w.out;
      each = subst (λ os. IsPermutation os (a.operation ∷ (operations_of w.kept ++ w.out))) (sym (in_part e)) (IsPermutation-cons a.operation _ _ w.each);
      pending = w.pending;
      told = (told, w.told);
      sub = λ o h. (h.0, w.sub o h.1);
      timely = (w.sub a.operation before, w.timely);
      runs = (agrees, subst (λ q. IsRun q w.kept) (sym next) w.runs);
    }

    skip : m.is_in ≡ false → Walked order ms us shut → Walked (a ∷ order) (m ∷ ms) us shut
    skip e w = record {
      kept = w.kept;
      out = w.out;
      each = subst (λ os. IsPermutation os (operations_of w.kept ++ w.out)) (sym (not_in_part e)) w.each;
      pending = w.pending;
      told = w.told;
      sub = λ o h. w.sub o h.1;
      timely = w.timely;
      runs = w.runs;
    }

    aside : m.is_in ≡ true → IsPending a.operation → Walked order ms us shut → Walked (a ∷ order) (m ∷ ms) us shut
    aside e p w = record {
      kept = w.kept;
      out = a.operation ∷ w.out;
      each = subst (λ os. IsPermutation os (operations_of w.kept ++ a.operation ∷ w.out)) (sym (in_part e))
          (IsPermutation-trans _ _ _ (IsPermutation-cons a.operation _ _ w.each) (IsPermutation-sym _ _ (IsPermutation-middle (operations_of w.kept) a.operation w.out)));
      pending = (p, w.pending);
      told = w.told;
      sub = λ o h. w.sub o h.1;
      timely = w.timely;
      runs = w.runs;
    }

  -- what is known of the rest of an order, where these values are in the queue
  record Ahead (order : List Answered) (left : List Stamped) (ms : List Marked) (cs : List Held) (shut : Bool) : Type 0 where
    are : all_of ms ≡ operations_of order ++ left
    pending : AllByRecursion IsPending left
    told : AllByRecursion GivesRecordedReply order
    timely : KeepsTime (operations_of order)
    runs : IsRun (queue (values cs) shut) order
    fates : AllByRecursion HasFate ms
    known : AllByRecursion IsKnown cs

  abbrev GoesOn : List Answered → List Stamped → Type 0
  GoesOn order left = (ms : List Marked) (cs : List Held) (shut : Bool) → Ahead order left ms cs shut → Walked order ms (ins cs) shut

  not_refused : (told : Option Reply) (r : Reply) → IfSome told (λ told. r ≡ told) → r ≡ Done → is_not_refused told ≡ true
  not_refused None r g e = refl
  not_refused (Some Done) r g e = refl
  not_refused (Some (Value v)) r g e = refl
  not_refused (Some Empty) r g e = refl
  not_refused (Some (Refused refusal)) r g e = let no : Refused refusal ≡ Done = sym g ∙ e in absurd cc

  -- a push that isn't in the part, which was done
  goes_untaken : (actor : ℕ) (op : Op) (told : Option Reply) (r : Reply) (body : ℕ) → op ≡ Enq body → IfSome told (λ told. r ≡ told) → r ≡ Done → MayGo part actor op told
      → takes_of (same_value (record { from = actor; body = body })) part ≡ 0
  goes_untaken actor op None r body e g d h = subst (λ op. MayGo part actor op None) e h
  goes_untaken actor op (Some Done) r body e g d h = subst (λ op. MayGo part actor op (Some Done)) e h
  goes_untaken actor op (Some (Value v)) r body e g d h = let no : Value v ≡ Done = sym g ∙ d in absurd cc
  goes_untaken actor op (Some Empty) r body e g d h = let no : Empty ≡ Done = sym g ∙ d in absurd cc
  goes_untaken actor op (Some (Refused refusal)) r body e g d h = let no : Refused refusal ≡ Done = sym g ∙ d in absurd cc

  -- a pop that isn't in the part, which took a value
  goes_unpushed : (actor : ℕ) (op : Op) (told : Option Reply) (r : Reply) (v : Taken) → op ≡ Deq → IfSome told (λ told. r ≡ told) → r ≡ Value v → MayGo part actor op told
      → pushes_of (same_value v) part ≡ 0
  goes_unpushed actor op None r v e g d h = absurd (subst (λ op. MayGo part actor op None) e h)
  goes_unpushed actor op (Some Done) r v e g d h = let no : Done ≡ Value v = sym g ∙ d in absurd cc
  goes_unpushed actor op (Some (Value w)) r v e g d h = let is : Value w ≡ Value v = sym g ∙ d in let same : w ≡ v = cc in subst (λ v. pushes_of (same_value v) part ≡ 0) same h
  goes_unpushed actor op (Some Empty) r v e g d h = let no : Empty ≡ Value v = sym g ∙ d in absurd cc
  goes_unpushed actor op (Some (Refused refusal)) r v e g d h = let no : Refused refusal ≡ Value v = sym g ∙ d in absurd cc

  -- a shut is in the part
  goes_unshut : (actor : ℕ) (op : Op) (told : Option Reply) (r : Reply) → op ≡ Shut → IfSome told (λ told. r ≡ told) → r ≡ Done → MayGo part actor op told → ⊥
  goes_unshut actor op None r e g d h = subst (λ op. MayGo part actor op None) e h
  goes_unshut actor op (Some Done) r e g d h = subst (λ op. MayGo part actor op (Some Done)) e h
  goes_unshut actor op (Some (Value v)) r e g d h = let no : Value v ≡ Done = sym g ∙ d in cc
  goes_unshut actor op (Some Empty) r e g d h = let no : Empty ≡ Done = sym g ∙ d in cc
  goes_unshut actor op (Some (Refused refusal)) r e g d h = let no : Refused refusal ≡ Done = sym g ∙ d in cc

  joined : (cs : List Held) (c : Held) → AllByRecursion IsKnown cs → IsKnown c → AllByRecursion IsKnown (cs ++ c ∷ [])
  joined [] c h k = (k, tt)
  joined (d ∷ cs) c h k = (h.0, joined cs c h.1 k)

  ins_joined : (cs : List Held) (v : Taken) (b : Bool) → ins (cs ++ record { value = v; is_in = b } ∷ []) ≡ ins cs ++ cond b (v ∷ []) []
  ins_joined cs v b =
      let c : Held = record { value = v; is_in = b } in
      ap values (filter-append (λ c. c.is_in) cs (c ∷ [])) ∙ map-append (λ c. c.value) (filter (λ c. c.is_in) cs) (filter (λ c. c.is_in) (c ∷ []))
      ∙ ap (λ vs. ins cs ++ vs) (one b)
    where
      one : (b : Bool) → values (filter (λ c. c.is_in) (record { value = v; is_in = b } ∷ [])) ≡ cond b (v ∷ []) []
      one true = refl
      one false = refl

  ins_cons : (c : Held) (cs : List Held) (b : Bool) → c.is_in ≡ b → ins (c ∷ cs) ≡ cond b (c.value ∷ ins cs) (ins cs)
  ins_cons c cs b e = ap (λ b. values (cond b (c ∷ filter (λ c. c.is_in) cs) (filter (λ c. c.is_in) cs))) e ∙ go b
    where
      go : (b : Bool) → values (cond b (c ∷ filter (λ c. c.is_in) cs) (filter (λ c. c.is_in) cs)) ≡ cond b (c.value ∷ ins cs) (ins cs)
      go true = refl
      go false = refl

  none_in : (cs : List Held) → values cs ≡ [] → ins cs ≡ []
  none_in [] e = refl
  none_in (c ∷ cs) e = absurd cc

  -- what a queue does that has other values, and is shut alike
  abbrev Does : Stamped → Reply → List Taken → Bool → Queue → Type 0
  Does o r us shut next = AgreesWithQueue (queue us shut) o (Some r) × ((answer (queue us shut) o (Some r)).after ≡ next)

  abbrev Gives : Stamped → Op → Reply → List Taken → Bool → Queue → Type 0
  Gives o op r us shut next = (r ≡ (response o.actor op (queue us shut)).reply) × ((response o.actor op (queue us shut)).after ≡ next)

  does_push : (o : Stamped) (r : Reply) (body : ℕ) (us : List Taken) (shut : Bool) → o.op ≡ Enq body → r ≡ Done → shut ≡ false
      → Does o r us shut (queue (us ++ record { from = o.actor; body = body } ∷ []) shut)
  does_push o r body us shut e f g =
      let next : Bool → Queue = λ b. queue (us ++ record { from = o.actor; body = body } ∷ []) b in
      let base : Gives o (Enq body) Done us false (next false) = (refl, refl) in
      let opened : Gives o (Enq body) Done us shut (next shut) = subst (λ b. Gives o (Enq body) Done us b (next b)) (sym g) base in
      let given : Gives o o.op Done us shut (next shut) = subst (λ op. Gives o op Done us shut (next shut)) (sym e) opened in
      subst (λ r. Does o r us shut (next shut)) (sym f) given

  does_take : (o : Stamped) (r : Reply) (v : Taken) (us : List Taken) (shut : Bool) → o.op ≡ Deq → r ≡ Value v → Does o r (v ∷ us) shut (queue us shut)
  does_take o r v us shut e f =
      let base : Gives o Deq (Value v) (v ∷ us) shut (queue us shut) = (refl, refl) in
      let given : Gives o o.op (Value v) (v ∷ us) shut (queue us shut) = subst (λ op. Gives o op (Value v) (v ∷ us) shut (queue us shut)) (sym e) base in
      subst (λ r. Does o r (v ∷ us) shut (queue us shut)) (sym f) given

  does_empty : (o : Stamped) (r : Reply) (us : List Taken) (shut : Bool) → o.op ≡ Deq → r ≡ Empty → us ≡ [] → shut ≡ false → Does o r us shut (queue us shut)
  does_empty o r us shut e f g k =
      let base : Gives o Deq Empty [] false (queue [] false) = (refl, refl) in
      let opened : Gives o Deq Empty [] shut (queue [] shut) = subst (λ b. Gives o Deq Empty [] b (queue [] b)) (sym k) base in
      let listed : Gives o Deq Empty us shut (queue us shut) = subst (λ us. Gives o Deq Empty us shut (queue us shut)) (sym g) opened in
      let given : Gives o o.op Empty us shut (queue us shut) = subst (λ op. Gives o op Empty us shut (queue us shut)) (sym e) listed in
      subst (λ r. Does o r us shut (queue us shut)) (sym f) given

  does_shut : (o : Stamped) (r : Reply) (us : List Taken) (shut : Bool) → o.op ≡ Shut → r ≡ Done → shut ≡ false → Does o r us shut (queue us true)
  does_shut o r us shut e f g =
      let base : Gives o Shut Done us false (queue us true) = (refl, refl) in
      let opened : Gives o Shut Done us shut (queue us true) = subst (λ b. Gives o Shut Done us b (queue us true)) (sym g) base in
      let given : Gives o o.op Done us shut (queue us true) = subst (λ op. Gives o op Done us shut (queue us true)) (sym e) opened in
      subst (λ r. Does o r us shut (queue us true)) (sym f) given

  does_refuse : (o : Stamped) (r : Reply) (refusal : Refusal) (us : List Taken) (shut : Bool) → r ≡ Refused refusal
      → AgreesWithQueue (queue us shut) o (Some (Refused refusal)) → Does o r us shut (queue us shut)
  does_refuse o r refusal us shut f h =
      let given : Does o (Refused refusal) us shut (queue us shut) = (h, refl) in
      subst (λ r. Does o r us shut (queue us shut)) (sym f) given

  -- ---- the first operation of the rest of an order

  module _ (a : Answered) (order : List Answered) (left : List Stamped) (more : GoesOn order left) (m : Marked) (ms : List Marked) (cs : List Held) (shut : Bool)
      (h : Ahead (a ∷ order) left (m ∷ ms) cs shut) where
    abbrev next : Queue
    next = (answer (queue (values cs) shut) a.operation (Some a.reply)).after

    same : m.operation ≡ a.operation
    same = let all : m.operation ∷ all_of ms ≡ a.operation ∷ (operations_of order ++ left) = h.are in cc

    tail : all_of ms ≡ operations_of order ++ left
    tail = let all : m.operation ∷ all_of ms ≡ a.operation ∷ (operations_of order ++ left) = h.are in cc

    later : (ds : List Held) (closed : Bool) → next ≡ queue (values ds) closed → AllByRecursion IsKnown ds → Walked order ms (ins ds) closed
    later ds closed e known =
        more ms ds closed
        (record { are = tail; pending = h.pending; told = h.told.1; timely = h.timely.1; runs = subst (λ q. IsRun q order) e h.runs.1; fates = h.fates.1; known = known })

    fate : (b : Bool) → m.is_in ≡ b → Fate b a.operation
    fate b e = subst (λ o. Fate b o) same (subst (λ b. Fate b m.operation) e h.fates.0.0)

    call : IsCall a.operation
    call = subst IsCall same h.fates.0.1

    abbrev Goal : List Taken → Type 0
    Goal us = Walked (a ∷ order) (m ∷ ms) us shut

    kept_by : (us later : List Taken) (closed : Bool) → m.is_in ≡ true → Does a.operation a.reply us shut (queue later closed) → Walked order ms later closed → Goal us
    kept_by us later closed e d w = keep a order m ms same us shut e h.told.0 h.timely.0 d.0 later closed d.1 w

    pushes : (p : IsPush a.operation a.reply (values cs) shut next) (b : Bool) → m.is_in ≡ b → Kept b (record { from = a.operation.actor; body = p.body }) → Goal (ins cs)
    pushes p b e known = go b e (later ds shut after (joined cs c h.known known))
      where
        v : Taken
        v = record { from = a.operation.actor; body = p.body }

        c : Held
        c = record { value = v; is_in = b }

        ds : List Held
        ds = cs ++ c ∷ []

        after : next ≡ queue (values ds) shut
        after = p.after ∙ ap (λ vs. queue vs shut) (sym (map-append (λ c. c.value) cs (c ∷ [])))

        go : (d : Bool) → m.is_in ≡ d → Walked order ms (ins ds) shut → Goal (ins cs)
        go true f w =
            let same_b : b ≡ true = sym e ∙ f in
            kept_by (ins cs) (ins cs ++ v ∷ []) shut f (does_push a.operation a.reply p.body (ins cs) shut p.op p.reply p.before)
            (subst (λ us. Walked order ms us shut) (ins_joined cs v b ∙ ap (λ b. ins cs ++ cond b (v ∷ []) []) same_b) w)
        go false f w =
            let same_b : b ≡ false = sym e ∙ f in
            skip a order m ms same (ins cs) shut f
            (subst (λ us. Walked order ms us shut) (ins_joined cs v b ∙ ap (λ b. ins cs ++ cond b (v ∷ []) []) same_b ∙ append-nil (ins cs)) w)

    push_known : (p : IsPush a.operation a.reply (values cs) shut next) (b : Bool) → Fate b a.operation → Kept b (record { from = a.operation.actor; body = p.body })
    push_known p true f = f.pushed p.body p.op (not_refused a.operation.reply a.reply h.told.0 p.reply)
    push_known p false f = goes_untaken a.operation.actor a.operation.op a.operation.reply a.reply p.body p.op h.told.0 p.reply f

    takes : (t : IsTake a.operation a.reply (values cs) shut next) (ds : List Held) → cs ≡ ds → Goal (ins cs)
    takes t [] e = let none : [] ≡ t.value ∷ t.rest = sym (ap values e) ∙ t.before in absurd cc
    takes t (c ∷ ds) e =
        subst (λ cs. Goal (ins cs)) (sym e) (subst Goal (sym (ins_cons c ds c.is_in refl)) (go c.is_in refl m.is_in refl))
      where
        all : c.value ∷ values ds ≡ t.value ∷ t.rest
        all = sym (ap values e) ∙ t.before

        front : c.value ≡ t.value
        front = cc

        rest : values ds ≡ t.rest
        rest = cc

        known : AllByRecursion IsKnown (c ∷ ds)
        known = subst (AllByRecursion IsKnown) e h.known

        behind : Walked order ms (ins ds) shut
        behind = later ds shut (t.after ∙ ap (λ vs. queue vs shut) (sym rest)) known.1

        of_front : (b : Bool) → c.is_in ≡ b → Kept b t.value
        of_front b f = subst (Kept b) front (subst (λ b. Kept b c.value) f known.0)

        told_out : (told : Option Reply) → a.operation.reply ≡ told → IfSome told (λ told. a.reply ≡ told) → takes_of (same_value t.value) part ≡ 0 → m.is_in ≡ true → Goal (ins ds)
        told_out None f g k d = aside a order m ms same (ins ds) shut d (pending_is a.operation call f) behind
        told_out (Some r) f g k d =
            let is : a.operation.reply ≡ Some (Value t.value) = f ∙ ap Some (sym g ∙ t.reply) in
            absurd ((fate true d).taken t.value is k)

        go : (b : Bool) → c.is_in ≡ b → (d : Bool) → m.is_in ≡ d → Goal (cond b (c.value ∷ ins ds) (ins ds))
        go true f true d =
            kept_by (c.value ∷ ins ds) (ins ds) shut d (does_take a.operation a.reply c.value (ins ds) shut t.op (t.reply ∙ ap Value (sym front))) behind
        go true f false d =
            absurd (of_front true f (goes_unpushed a.operation.actor a.operation.op a.operation.reply a.reply t.value t.op h.told.0 t.reply (fate false d)))
        go false f true d = told_out a.operation.reply refl h.told.0 (of_front false f) d
        go false f false d = skip a order m ms same (ins ds) shut d behind

    -- what leaves the values as they are
    stays : (closed : Bool) → next ≡ queue (values cs) closed → ((us : List Taken) → (values cs ≡ [] → us ≡ []) → Does a.operation a.reply us shut (queue us closed))
        → (d : Bool) → m.is_in ≡ d → (m.is_in ≡ false → closed ≡ shut) → Goal (ins cs)
    stays closed e does true d k = kept_by (ins cs) (ins cs) closed d (does (ins cs) (none_in cs)) (later cs closed e h.known)
    stays closed e does false d k = skip a order m ms same (ins cs) shut d (subst (λ b. Walked order ms (ins cs) b) (k d) (later cs closed e h.known))

    goes : Move a.operation a.reply (values cs) shut next → Goal (ins cs)
    goes (inl p) = pushes p m.is_in refl (push_known p m.is_in (fate m.is_in refl))
    goes (inr (inl t)) = takes t cs refl
    goes (inr (inr (inl s))) =
        stays shut s.after (λ us none. does_empty a.operation a.reply us shut s.op s.reply (none s.before) s.unshut) m.is_in refl (λ d. refl)
    goes (inr (inr (inr (inl s)))) =
        stays true s.after (λ us none. does_shut a.operation a.reply us shut s.op s.reply s.before) m.is_in refl
        (λ d. absurd (goes_unshut a.operation.actor a.operation.op a.operation.reply a.reply s.op h.told.0 s.reply (fate false d)))
    goes (inr (inr (inr (inr s)))) =
        stays shut s.after (λ us none. does_refuse a.operation a.reply s.refusal us shut s.reply (s.again us none)) m.is_in refl (λ d. refl)

  part_all : (P : Stamped → Type 0) (ms : List Marked) → AllByRecursion P (all_of ms) → AllByRecursion P (part_of ms)
  part_all P [] h = tt
  part_all P (m ∷ ms) h = go m.is_in (part_all P ms h.1)
    where
      go : (b : Bool) → AllByRecursion P (part_of ms) → AllByRecursion P (all_of (cond b (m ∷ filter (λ m. m.is_in) ms) (filter (λ m. m.is_in) ms)))
      go true k = (h.0, k)
      go false k = k

  walk : (order : List Answered) (left : List Stamped) → GoesOn order left
  walk [] left ms cs shut h = record {
    kept = [];
    out = part_of ms;
    each = IsPermutation-refl (part_of ms);
    pending = part_all IsPending ms (subst (AllByRecursion IsPending) (sym h.are) h.pending);
    told = tt;
    sub = λ o k. tt;
    timely = tt;
    runs = tt;
  }
  walk (a ∷ order) left [] cs shut h = let none : [] ≡ a.operation ∷ (operations_of order ++ left) = h.are in absurd cc
  walk (a ∷ order) left (m ∷ ms) cs shut h = goes a order left (walk order left) m ms cs shut h (move a.operation a.reply (values cs) shut h.runs.0)

-- ---- the part

-- no test that no operation of a list passes is passed by one of it
abbrev Counts : List Stamped → Stamped → Type 0
Counts part o = (test : Stamped → Bool) → count_by test part ≡ 0 → test o ≡ false

counts_all : (part : List Stamped) → AllByRecursion (Counts part) part
counts_all [] = tt
counts_all (o ∷ os) = (here, weaker os (counts_all os))
  where
    more : (test : Stamped → Bool) → count_by test (o ∷ os) ≡ one_if (test o) + count_by test os
    more test = sum_by-cons (λ x. cond (test x) 1 0) o os

    here : Counts (o ∷ os) o
    here test e = go (test o) refl
      where
        go : (b : Bool) → test o ≡ b → b ≡ false
        go true f = let m = more test in let one : one_if (test o) ≡ one_if true = ap one_if f in absurd (omega (arith, e, m, one))
        go false f = refl

    weaker : (xs : List Stamped) → AllByRecursion (Counts os) xs → AllByRecursion (Counts (o ∷ os)) xs
    weaker [] h = tt
    weaker (x ∷ xs) h = ((λ test e. let m = more test in h.0 test (omega (arith, e, m))), weaker xs h.1)

module _ (part : List Stamped) where
  is_in : (o : Stamped) → Counts part o → IsIn part o
  is_in o c = record {
    taken = λ v e k.
        let no = c (λ o. is_told_in (same_value v) o.reply) k in
        let yes : is_told_in (same_value v) o.reply ≡ true = ap (is_told_in (same_value v)) e ∙ same_itself v in
        let never : true ≡ false = sym yes ∙ no in
        cc;
    pushed = λ body e u k.
        let v : Taken = record { from = o.actor; body = body } in
        let no = c (pushes_in (same_value v)) k in
        let one : is_push_in (same_value v) o.actor o.op ≡ true = ap (is_push_in (same_value v) o.actor) e ∙ same_itself v in
        let yes : pushes_in (same_value v) o ≡ true = ap (λ b. b && is_push_in (same_value v) o.actor o.op) u ∙ one in
        let never : true ≡ false = sym yes ∙ no in
        cc;
  }

  fates : (ms : List Marked) → AllByRecursion (Counts part) (part_of ms) → AllByRecursion (MayBeOut part) ms → AllByRecursion IsCall (all_of ms) → AllByRecursion (HasFate part) ms
  fates [] c out calls = tt
  fates (m ∷ ms) c out calls = go m.is_in refl c (λ c. fates ms c out.1 calls.1)
    where
      go : (b : Bool) → m.is_in ≡ b → AllByRecursion (Counts part) (all_of (cond b (m ∷ filter (λ m. m.is_in) ms) (filter (λ m. m.is_in) ms)))
          → (AllByRecursion (Counts part) (part_of ms) → AllByRecursion (HasFate part) ms)
          → (Fate part m.is_in m.operation × IsCall m.operation) × AllByRecursion (HasFate part) ms
      go true e c more = ((subst (λ b. Fate part b m.operation) (sym e) (is_in m.operation c.0), calls.0), more c.1)
      go false e c more = ((subst (λ b. Fate part b m.operation) (sym e) (out.0 e), calls.0), more c)

pub part_is_of_queue : (ms : List Marked) → All (MayBeOut (part_of ms)) ms → IsOfQueue (all_of ms) → IsOfQueue (part_of ms)
part_is_of_queue ms out h = record {
  calls = All-from_recursion IsCall part (part_all part IsCall ms (recursion_from_All IsCall (all_of ms) h.calls));
  linearizable = record {
    order = w.kept;
    left_out = w.out;
    each_once = IsPermutation-trans part (part_of l.marks) _ (IsPermutation-map (λ m. m.operation) _ _ (filter_moved (λ m. m.is_in) ms l.marks l.moved)) w.each;
    only_pending_left_out = w.pending;
    replies = w.told;
    timely = w.timely;
    runs = w.runs;
  };
}
  where
    part : List Stamped
    part = part_of ms

    line : IsLinearizable (all_of ms)
    line = h.linearizable

    l : Lifted ms (operations_of line.order ++ line.left_out)
    l = lifts (all_of ms) (operations_of line.order ++ line.left_out) line.each_once ms refl

    all : AllByRecursion (HasFate part) ms
    all = fates part ms (counts_all part) (recursion_from_All (MayBeOut part) ms out) (recursion_from_All IsCall (all_of ms) h.calls)

    w : Walked part line.order l.marks [] false
    w = walk part line.order line.left_out l.marks [] false (record {
      are = l.are;
      pending = line.only_pending_left_out;
      told = line.replies;
      timely = line.timely;
      runs = line.runs;
      fates = recursion_from_All (HasFate part) l.marks (All-permutation (HasFate part) ms l.marks l.moved (All-from_recursion (HasFate part) ms all));
      known = tt;
    })
