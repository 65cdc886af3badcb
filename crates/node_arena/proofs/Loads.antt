-- What a push needs out with its seat stays out with it, what a pop takes comes out, and which deed each adds.
use Rattle.std.proofs.Common.{◌≡◌, ℕ, Bool, true, false, if◌then◌else◌, Option, Some, List, [], ◌∷◌, ◌++◌, suc, length, sym, refl, ap, subst, ◌∙◌, append-nil, append_assoc, length-append, arith}
use Rattle.std.proofs.Math.Nat.{ℕ_set}
use Rattle.std.proofs.Math.Logic.{∥∥₁_elim}
use Rattle.std.proofs.lemmas.List.{append_cancel_left}
use Rattle.line_table.specs.declared.lines.Line.{Line}
use Rattle.history.specs.declared.operations.Entry.{Entry}
use Rattle.history.specs.declared.operations.Entry.TheVariants.{Push, Pop, Shut}
use Rattle.history.specs.declared.operations.Taken.{Taken}
use Rattle.node_arena.specs.Traces.{entries_at}
use Rattle.node_arena.specs.Prologues.{Prologue, after_prologue}
use Rattle.node_arena.specs.Deeds.{Item, item, Deed, pushed, popped, closed, Runs, Matches}
use Rattle.node_arena.specs.Beside.{EffectBy, KnowsBy, slots_in}
use Rattle.node_arena.specs.Machine.{Held}
use Rattle.node_arena.specs.Arenas.{Arena}
use Rattle.node_arena.specs.declared.seats.Seat.{Seat}
use Rattle.node_arena.specs.Seats.{IsSeat, KeepsSlots, DidStep, HasNoSlot, carries_of, deeds_of, view, keeping}
use Rattle.node_arena.specs.Hands.{HasSlot, AddsOwn}
use Rattle.node_arena.proofs.Lifts.{none_held}
use Rattle.node_arena.proofs.Moved.{effect, hand_there}
use Rattle.node_arena.proofs.Paths.{quiet_slots}
use Rattle.node_arena.specs.Loads.{IsLoaded, IsBare, PopsFront, TakesSlot, GivesSlot}

-- what is in the pocket has no part in which slots are out
pub kept_slots : {T : Type 0} (s t : Seat T) (p : Option Held) (n : ℕ) → KeepsSlots s t → KeepsSlots s (keeping t p n)
kept_slots s t p n k = record { same = k.same; hand = k.hand; tries = k.tries; number = k.number; more = record { between = k.more.between; deeds = k.more.deeds } }

abbrev kept_adds : {T : Type 0} (s t : Seat T) (p : Option Held) (n : ℕ) (d : Deed T) → AddsOwn s t d → AddsOwn s (keeping t p n) d
kept_adds s t p n d a = record { between = a.between; deeds = a.deeds }

pub kept_gives : {T : Type 0} (r : Arena) (body : ℕ) (s t : Seat T) (p : Option Held) (n : ℕ) → GivesSlot r body s t → GivesSlot r body s (keeping t p n)
kept_gives r body s t p n gives carried = let e = gives carried in (e.0, (e.1.0, e.1.1, kept_adds s t p n (pushed (view s).number e.1.0) e.1.2), e.2)

pub kept_takes : {T : Type 0} (r : Arena) (v : Taken) (s t : Seat T) (p : Option Held) (n : ℕ) → TakesSlot r v s t → TakesSlot r v s (keeping t p n)
kept_takes r v s t p n takes carried =
    let e = takes carried in
    (e.0, e.1, e.2, record { adds = kept_adds s t p n (popped (view s).number (item v.from e.0)) e.3.adds; rest = e.3.rest; shut = e.3.shut; stood = e.3.stood })

-- over lines that move no slot
pub still_loaded : {T : Type 0} (r : Arena) (body : ℕ) (s t : Seat T) → KeepsSlots s t → IsLoaded r body s → IsLoaded r body t
still_loaded r body s t k loaded carried = let l = loaded carried in (l.0, k.same ∙ l.1, k.hand ∙ l.2, l.3)

pub still_bare : {T : Type 0} (r : Arena) (s t : Seat T) → KeepsSlots s t → IsBare r s → IsBare r t
still_bare r s t k bare carried = let none_out = bare carried in (ap length k.same ∙ none_out.0, ap slots_in k.hand ∙ none_out.1)

-- by another name of the body
pub loaded_as : {T : Type 0} (r : Arena) (b body : ℕ) (s : Seat T) → b ≡ body → IsLoaded r b s → IsLoaded r body s
loaded_as r b body s e loaded = subst (λ (k : ℕ). IsLoaded r k s) e loaded

-- there are as many deeds as entries
module _ {T : Type 0} where
  pub length-matches : (es : List Entry) (ds : List (Deed T)) → Matches es ds → length ds ≡ length es
  length-matches [] [] h = refl
  length-matches (Push n b ∷ es) (pushed m x ∷ ds) h = ap suc (length-matches es ds h.1)
  length-matches (Pop n t ∷ es) (popped m u ∷ ds) h = ap suc (length-matches es ds h.2)
  length-matches (Shut n ∷ es) (closed m ∷ ds) h = ap suc (length-matches es ds h.1)
  length-matches es ds h = absurd h

  -- before a pop its value stood at the front
  pub runs_to_pop : (q : List (Item T)) (b : Bool) (ds es : List (Deed T)) (n : ℕ) (t : Item T) (q' : List (Item T)) (b' : Bool)
      → Runs q b (ds ++ popped n t ∷ es) q' b' → (rest : List (Item T)) × (c : Bool) × Runs q b ds (t ∷ rest) c
  runs_to_pop q b [] es n t q' b' h = (h.0, b, (h.1, refl))
  runs_to_pop q b (pushed m x ∷ ds) es n t q' b' h = let r = runs_to_pop (q ++ item m x ∷ []) b ds es n t q' b' h.1 in (r.0, r.1, (h.0, r.2))
  runs_to_pop q b (popped m u ∷ ds) es n t q' b' h = let r = runs_to_pop h.0 b ds es n t q' b' h.2 in (r.0, r.1, (h.0, h.1, r.2))
  runs_to_pop q b (closed m ∷ ds) es n t q' b' h = let r = runs_to_pop q true ds es n t q' b' h.1 in (r.0, r.1, (h.0, r.2))

  nothing_between : (ds es : List (Deed T)) → length (ds ++ es) ≡ length ds → ds ++ es ≡ ds
  nothing_between ds [] e = append-nil ds
  nothing_between ds (x ∷ xs) e = absurd (omega (arith, e, length-append ds (x ∷ xs)))

module _ {T : Type 0} (r : Arena) where
  -- a seat of an arena that carries values has seen as many deeds as entries
  pub length-deeds : (s : Seat T) → IsSeat r s → carries_of r ≡ true → length (deeds_of s) ≡ length (view s).seen
  length-deeds s is carried = ∥∥₁_elim is.sits.valued (ℕ_set (length (deeds_of s)) (length (view s).seen))
      (λ k. length-matches (view s).seen (deeds_of s) (subst (λ (b : Bool). KnowsBy b r.plan (view s).seen s.token.me.0) carried k).matches)

  -- where nothing more is seen of the queue, nothing more is seen of its values
  pub same_deeds : (s t : Seat T) → IsSeat r s → IsSeat r t → carries_of r ≡ true → KeepsSlots s t → (view t).seen ≡ (view s).seen → deeds_of t ≡ deeds_of s
  same_deeds s t is it carried k same =
      let long : length (deeds_of s ++ k.more.between) ≡ length (deeds_of s) = sym (ap length k.more.deeds) ∙ (length-deeds t it carried ∙ (ap length same ∙ sym (length-deeds s is carried))) in
      k.more.deeds ∙ nothing_between (deeds_of s) k.more.between long

  -- a deed behind lines that add none, and before such that see nothing
  abbrev pub then_adds : (s t u : Seat T) (d d' : Deed T) → d ≡ d' → KeepsSlots s t → AddsOwn t u d → AddsOwn s u d'
  then_adds s t u d d' same k adds =
      record {
        between = k.more.between ++ adds.between;
        deeds = adds.deeds ∙ (λ i. (k.more.deeds i ++ adds.between) ++ same i ∷ []) ∙ ap (λ ds. ds ++ d' ∷ []) (append_assoc (deeds_of s) k.more.between adds.between);
      }

  abbrev pub adds_then : (s t u : Seat T) (d : Deed T) → AddsOwn s t d → deeds_of u ≡ deeds_of t → AddsOwn s u d
  adds_then s t u d adds same = record { between = adds.between; deeds = same ∙ adds.deeds }

  -- a line that pushes gives the seat's slot
  pub gives_slot : (s t : Seat T) (prologue : Prologue) (l : Line) (n : ℕ) (d : DidStep r s t prologue l n) (me body : ℕ)
      → entries_at r.plan.setup d.told.was (view s).number (after_prologue r.plan.setup (view s).number prologue (view s).actor) l ≡ Push me body ∷ []
      → GivesSlot r body s t
  gives_slot s t prologue l n d me body pushes carried =
      let e = effect r s t prologue l n d carried (Push me body ∷ []) (d.told.mine ∙ ap (λ es. (view s).mine ++ es) pushes) in
      ((ap length e.2, ap slots_in e.3), (e.0, e.1, record { between = e.4.0; deeds = e.4.1 }), d.moves.3)

  pub then_gives : (body : ℕ) (s t u : Seat T) → KeepsSlots s t → GivesSlot r body t u → GivesSlot r body s u
  then_gives body s t u k gives carried =
      let e = gives carried in
      (e.0, (e.1.0, sym k.same ∙ e.1.1, then_adds s t u (pushed (view t).number e.1.0) (pushed (view s).number e.1.0) (ap (λ n. pushed n e.1.0) k.number) k e.1.2), e.2 ∙ k.tries)

  pub gives_then : (body : ℕ) (s t u : Seat T) → GivesSlot r body s t → IsSeat r t → IsSeat r u → KeepsSlots t u → (view u).seen ≡ (view t).seen → GivesSlot r body s u
  gives_then body s t u gives it iu k same carried =
      let e = gives carried in
      ((ap length k.same ∙ e.0.0, ap slots_in k.hand ∙ e.0.1), (e.1.0, e.1.1, adds_then s t u (pushed (view s).number e.1.0) e.1.2 (same_deeds t u it iu carried k same)), k.tries ∙ e.2)

  -- a line that pops takes the slot that its number names
  pub takes_slot : (s t : Seat T) (prologue : Prologue) (l : Line) (n : ℕ) (d : DidStep r s t prologue l n) (me : ℕ) (v : Taken)
      → entries_at r.plan.setup d.told.was (view s).number (after_prologue r.plan.setup (view s).number prologue (view s).actor) l ≡ Pop me v ∷ []
      → TakesSlot r v s t
  takes_slot s t prologue l n d me v pops carried =
      let e = effect r s t prologue l n d carried (Pop me v ∷ []) (d.told.mine ∙ ap (λ es. (view s).mine ++ es) pops) in
      let known = subst (λ (b : Bool). KnowsBy b r.plan (view t).seen t.token.me.0) carried d.valued in
      let stood = runs_to_pop [] false (deeds_of s ++ e.3.0) [] (view s).number (item v.from e.0) known.values known.shut (subst (λ ds. Runs [] false ds known.values known.shut) e.3.1 known.runs) in
      (e.0, e.1, e.2, record { adds = record { between = e.3.0; deeds = e.3.1 }; rest = stood.0; shut = stood.1; stood = stood.2 })

  -- behind lines that move none, and before such that see nothing
  pub then_takes : (v : Taken) (s t u : Seat T) → KeepsSlots s t → TakesSlot r v t u → TakesSlot r v s u
  then_takes v s t u k takes carried =
      let e = takes carried in
      let front = item v.from e.0 in (
        e.0,
        e.1 ∙ ap (λ held. (v.body, Some e.0) ∷ held) k.same,
        e.2,
        record {
          adds = then_adds s t u (popped (view t).number front) (popped (view s).number front) (ap (λ n. popped n front) k.number) k e.3.adds;
          rest = e.3.rest;
          shut = e.3.shut;
          stood = subst (λ ds. Runs [] false ds (front ∷ e.3.rest) e.3.shut) (ap (λ ds. ds ++ e.3.adds.between) k.more.deeds ∙ append_assoc (deeds_of s) k.more.between e.3.adds.between) e.3.stood;
        },
      )

  pub takes_then : (v : Taken) (s t u : Seat T) → TakesSlot r v s t → IsSeat r t → IsSeat r u → KeepsSlots t u → (view u).seen ≡ (view t).seen → TakesSlot r v s u
  takes_then v s t u takes it iu k same carried =
      let e = takes carried in (
        e.0,
        k.same ∙ e.1,
        k.hand ∙ e.2,
        record {
          adds = adds_then s t u (popped (view s).number (item v.from e.0)) e.3.adds (same_deeds t u it iu carried k same);
          rest = e.3.rest;
          shut = e.3.shut;
          stood = e.3.stood;
        },
      )

  -- a seat that had no slot has that of the value that it popped
  pub took_slot : (v : Taken) (s t : Seat T) → IsSeat r t → HasNoSlot s → carries_of r ≡ true → TakesSlot r v s t → (x : T) × HasSlot r t v.body (Some x) × PopsFront s t (item v.from x)
  took_slot v s t it none_out carried takes =
      let e = takes carried in
      (e.0, record { carries = carried; there = hand_there r t v.body it carried e.2; out = e.1 ∙ ap (λ held. (v.body, Some e.0) ∷ held) (none_held s.token.me.1 none_out.0); hand = e.2 }, e.3)

-- a line that shuts the queue, or doesn't, moves none
pub shut_slots : {T : Type 0} (r : Arena) (s t : Seat T) (prologue : Prologue) (l : Line) (n : ℕ) (d : DidStep r s t prologue l n) (me : ℕ)
    (won : Bool) → entries_at r.plan.setup d.told.was (view s).number (after_prologue r.plan.setup (view s).number prologue (view s).actor) l ≡
    (if won then Shut me ∷ [] else []) → KeepsSlots s t
shut_slots r s t prologue l n d me false adds = quiet_slots r s t prologue l n d adds
shut_slots {T} r s t prologue l n d me true adds =
    let same : d.moves.0 ≡ Shut me ∷ [] = append_cancel_left (view s).mine d.moves.0 (Shut me ∷ []) (sym d.moves.1 ∙ (d.told.mine ∙ ap (λ es. (view s).mine ++ es) adds)) in
    go r.plan.carries (subst (λ (es : List Entry). EffectBy r.plan.carries (view s).number es s.token.me t.token.me) same d.moves.2)
  where
    go : (b : Bool) → EffectBy b (view s).number (Shut me ∷ []) s.token.me t.token.me → KeepsSlots s t
    go true e = record {
      same = e.0;
      hand = e.1;
      tries = d.moves.3;
      number = d.told.number;
      more =
          record { between = e.2.0 ++ closed (view s).number ∷ []; deeds = e.2.1 ∙ append_assoc (deeds_of s) e.2.0 (closed (view s).number ∷ []) };
    }
    go false e = record { same = e.0; hand = e.1; tries = d.moves.3; number = d.told.number; more = record { between = []; deeds = e.2 ∙ sym (append-nil (deeds_of s)) } }
