-- The words of a queue that lie first in a table, before the flags of its slots.
use Rattle.std.proofs.Common.{◌≡◌, ℕ, ◌+◌, ◌-◌, ◌*◌, ◌<◌, ◌≤◌, zero, suc, Bool, List, [], ◌∷◌, length, take, get_or, sym, ap, subst, ◌∙◌, arith}
use Rattle.std.proofs.lemmas.List.{get_or-take}
use Rattle.counted_ref.specs.Ref.{Ref, IsSplit, ref_of}
use Rattle.history.specs.declared.operations.Taken.{Taken}
use Rattle.history.specs.declared.rests.Rest.{Rest}
use Rattle.line_steps.specs.Words.{value_of}
use Rattle.node_arena.specs.Places.{place, shared_words}
use Rattle.node_arena.specs.Remains.{ref_at, front_of, HasNode, HaveValues, AreLeft, IsQueue}
use Rattle.node_arena.proofs.Placed.{place_there, length-shared_words, get_or-shared_words}
use Rattle.node_arena.proofs.Lefts.{same_values}
use Rattle.node_arena.proofs.ArenaEnds.{Rests}

-- some words are the first ones of more
pub record LieFirstIn (words more : List ℕ) : Type 0 where
  pub less : length words ≤ length more
  pub same : (i : ℕ) → i < length words → get_or more i 0 ≡ get_or words i 0

-- those of the first places of a table are the first ones of all
pub shared_first : (m : ℕ) (table : List ℕ) → LieFirstIn (shared_words (take m table)) (shared_words table)
shared_first m table =
    let short = length-shared_words (take m table) in
    let long = length-shared_words table in
    let le : length (take m table) ≤ m = taken_most m table in
    let all : length (take m table) ≤ length table = taken_few m table in
    record {
      less = omega (arith, short, long, all);
      same = λ i h.
          let there : i < length (take m table) - 42 = omega (arith, h, short) in
          let within = place_there (length (take m table)) i there in
          get_or-shared_words table i (omega (arith, there, all)) ∙ sym (get_or-take m table (place i) 0 (omega (arith, within, le))) ∙ sym (get_or-shared_words (take m table) i there);
    }
  where
    taken_most : (n : ℕ) (xs : List ℕ) → length (take n xs) ≤ n
    taken_most zero xs = omega arith
    taken_most (suc n) [] = omega arith
    taken_most (suc n) (x ∷ xs) = omega (arith, taken_most n xs)

    taken_few : (n : ℕ) (xs : List ℕ) → length (take n xs) ≤ length xs
    taken_few zero xs = omega arith
    taken_few (suc n) [] = omega arith
    taken_few (suc n) (x ∷ xs) = omega (arith, taken_few n xs)

module _ (bits : ℕ) (words more : List ℕ) (b : LieFirstIn words more) where
  -- a reference is the same in both
  ref_same : (i : ℕ) → i < length words → ref_at bits more i ≡ ref_at bits words i
  ref_same i there = ap (ref_of bits) (b.same i there)

  -- so are the values of a chain
  values_up : (shut : Bool) (node : ℕ) (vs : List Taken) → HaveValues bits words shut node vs → HaveValues bits more shut node vs
  values_up shut node [] h = h
  values_up shut node (v ∷ vs) h =
      let there : HasNode words node = h.2 in
      let less = b.less in (
        h.0,
        h.1,
        omega (arith, there, less),
        h.3 ∙ ap value_of (sym (b.same (5 + 2 * node) there)),
        subst (λ (x : Ref). HaveValues bits more shut x.node vs) (sym (ref_same (4 + 2 * node) (omega (arith, there)))) (values_up shut (ref_at bits words (4 + 2 * node)).node vs h.4),
      )

  module _ (most : ℕ) (q : IsQueue bits words most) where
    -- and the front
    front_up : front_of bits more ≡ front_of bits words
    front_up =
        let there : HasNode words (ref_at bits words 2).node = q.dummy in
        ap (λ (x : Ref). (ref_at bits more (4 + 2 * x.node)).node) (ref_same 2 q.head) ∙ ap (λ (x : Ref). x.node) (ref_same (4 + 2 * (ref_at bits words 2).node) (omega (arith, there)))

    chain_up : HaveValues bits more q.behind.shut (front_of bits more) q.behind.values
    chain_up = subst (λ n. HaveValues bits more q.behind.shut n q.behind.values) (sym front_up) (values_up q.behind.shut (front_of bits words) q.behind.values q.behind.chain)

    -- the words of a queue, with more behind them, are those of a queue
    pub queue_up : IsQueue bits more most
    queue_up =
        let less = b.less in
        let head = q.head in
        let dummy : HasNode words (ref_at bits words 2).node = q.dummy in
        let few = q.behind.few in
        record {
          head = omega (arith, head, less);
          dummy = subst (λ (x : Ref). HasNode more x.node) (sym (ref_same 2 q.head)) (omega (arith, dummy, less));
          behind = record {
            shut = q.behind.shut;
            values = q.behind.values;
            chain = chain_up;
            room = q.behind.room;
            few = omega (arith, few, less);
          };
        }

    -- its values are those of the first ones
    left_down : IsSplit bits → (shut : Bool) (vs : List Taken) → AreLeft bits more shut vs → AreLeft bits words shut vs
    left_down split shut vs h =
        let same = same_values bits split more q.behind.shut shut (front_of bits more) q.behind.values vs chain_up h in
        subst (λ (y : Bool × List Taken). AreLeft bits words y.0 y.1) (λ i. (same.1 i, same.0 i)) q.behind.chain

    -- what is told of them is so of the first ones
    pub rests_down : IsSplit bits → (pushes pops : ℕ) (shut : Bool) (rest : Rest) → Rests bits more pushes pops shut rest → Rests bits words pushes pops shut rest
    rests_down split pushes pops shut rest h = record { left = left_down split _ _ h.left; taken = h.taken ∙ ap (λ (x : Ref). x.count) (ref_same 2 q.head); whole = h.whole }
