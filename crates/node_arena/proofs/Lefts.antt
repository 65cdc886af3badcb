-- The values left in a queue, by the words of its table.
use Rattle.std.proofs.Common.{◌≡◌, ◌≢◌, ℕ, ◌+◌, ◌*◌, ◌≤◌, ◌<◌, Bool, true, false, nat_eq, zero, suc, List, [], ◌∷◌, ◌++◌, length, get_or, ◌⊎◌, inl}
use Rattle.std.proofs.Common.{inr, eq-eqb, ne_eqb, refl, sym, subst, ◌∙◌, append-nil, append_assoc, arith}
use mathlib.Core.Option.{some, some-injective, some-ne-none}
use lib.ListN.{get_elem?}
use Rattle.counted_ref.specs.Ref.{IsSplit, reserved_node}
use Rattle.counted_ref.proofs.Words.{span_least}
use Rattle.history.specs.declared.operations.Taken.{Taken}
use Rattle.line_steps.specs.Words.{value_of}
use Rattle.node_arena.specs.Remains.{ref_at, HasNode, HaveValues, HasValues}

pub got_word : (words : List ℕ) (place word : ℕ) → get_elem? words place ≡ some word → get_or words place 0 ≡ word
got_word [] place word e = absurd (some-ne-none word (sym e))
got_word (w ∷ ws) zero word e = some-injective w word e
got_word (w ∷ ws) (suc i) word e = got_word ws i word e

-- on the way along a chain: some values were read, and others follow, for which there is room
pub record Walks (bits : ℕ) (words : List ℕ) (first node : ℕ) (read : List Taken) (len most : ℕ) : Type 0 where
  pub shut : Bool
  pub rest : List Taken
  pub chain : HaveValues bits words shut node rest
  pub room : len + length rest ≤ most
  pub few : len + length rest ≤ length words
  pub so_far : (values : List Taken) → HaveValues bits words shut node values → HaveValues bits words shut first (read ++ values)

-- at the first node
pub walks-none : (bits : ℕ) (words : List ℕ) (first len most : ℕ) → len ≡ 0 → HasValues bits words first most → Walks bits words first first [] len most
walks-none bits words first len most none h =
    record { shut = h.shut; rest = h.values; chain = h.chain; room = omega (arith, none, h.room); few = omega (arith, none, h.few); so_far = λ values c. c }

-- a node that isn't the chain's end has a value
pub record HasOne (bits : ℕ) (words : List ℕ) (shut : Bool) (node : ℕ) (rest : List Taken) : Type 0 where
  pub others : List Taken
  pub some : 1 ≤ node
  pub linked : node < reserved_node bits
  pub there : HasNode words node
  pub len : length rest ≡ length others + 1
  pub chain : HaveValues bits words shut (ref_at bits words (4 + 2 * node)).node others

pub has_one : (bits : ℕ) (words : List ℕ) (shut : Bool) (node : ℕ) (rest : List Taken) → node ≢ 0 → node ≢ reserved_node bits → HaveValues bits words shut node rest → HasOne bits words shut node rest
has_one bits words true node [] ne linked h = absurd (linked h)
has_one bits words false node [] ne linked h = absurd (ne h)
has_one bits words shut node (v ∷ vs) ne linked h = record { others = vs; some = h.0; linked = h.1; there = h.2; len = omega arith; chain = h.4 }

-- one value more was read
pub walks-more : (bits : ℕ) (words : List ℕ) (first node next : ℕ) (read : List Taken) (value : Taken) (len len' most most' : ℕ)
    → (w : Walks bits words first node read len most) → node ≢ 0 → node ≢ reserved_node bits
    → value ≡ value_of (get_or words (5 + 2 * node) 0) → next ≡ (ref_at bits words (4 + 2 * node)).node → len' ≡ len + 1 → most ≤ most' → Walks bits words first next (read ++ value ∷ []) len' most'
walks-more bits words first node next read value len len' most most' w ne linked is to longer more =
    let o : HasOne bits words w.shut node w.rest = has_one bits words w.shut node w.rest ne linked w.chain in
    record {
      shut = w.shut;
      rest = o.others;
      chain = subst (λ n. HaveValues bits words w.shut n o.others) (sym to) o.chain;
      room = omega (arith, w.room, o.len, longer, more);
      few = omega (arith, w.few, o.len, longer);
      so_far = λ values c. subst (HaveValues bits words w.shut first) (sym (append_assoc read (value ∷ []) values))
          (w.so_far (value ∷ values) (o.some, o.linked, o.there, is, subst (λ n. HaveValues bits words w.shut n values) to c));
    }

-- at an end all values were read
walks-end : (bits : ℕ) → IsSplit bits → (words : List ℕ) (first node : ℕ) (read rest : List Taken) (shut : Bool) → (node ≡ 0)
    ⊎ (node ≡ reserved_node bits) → HaveValues bits words shut node rest → ((values : List Taken) → HaveValues bits words shut node values
    → HaveValues bits words shut first (read ++ values)) → HaveValues bits words (nat_eq node (reserved_node bits)) first read
walks-end bits split words first node read [] true end chain so_far =
    subst (λ b. HaveValues bits words b first read) (sym (eq-eqb node (reserved_node bits) chain)) (subst (HaveValues bits words true first) (append-nil read) (so_far [] chain))
walks-end bits split words first node read [] false end chain so_far =
    subst (λ b. HaveValues bits words b first read) (sym (ne_eqb node (reserved_node bits) (λ e. omega (arith, chain, e, span_least bits split))))
    (subst (HaveValues bits words false first) (append-nil read) (so_far [] chain))
walks-end bits split words first node read (v ∷ vs) shut (inl none) chain so_far = absurd (let low = chain.0 in omega (arith, none, low))
walks-end bits split words first node read (v ∷ vs) shut (inr end) chain so_far = absurd (let high = chain.1 in omega (arith, end, high))

pub walks-all : (bits : ℕ) → IsSplit bits → (words : List ℕ) (first node end : ℕ) (read : List Taken) (len most : ℕ) → end ≡ reserved_node bits
    → Walks bits words first node read len most → (node ≡ 0) ⊎ (node ≡ end) → HaveValues bits words (nat_eq node end) first read
walks-all bits split words first node end read len most is w =
    subst (λ e. (node ≡ 0) ⊎ (node ≡ e) → HaveValues bits words (nat_eq node e) first read) (sym is) (λ at. walks-end bits split words first node read w.rest w.shut at w.chain w.so_far)

-- the values from a node on are no others
pub same_values : (bits : ℕ) → IsSplit bits → (words : List ℕ) (shut also : Bool) (node : ℕ) (us vs : List Taken) → HaveValues bits words shut node us
    → HaveValues bits words also node vs → (us ≡ vs) × (shut ≡ also)
same_values bits split words true true node [] [] g h = (refl, refl)
same_values bits split words false false node [] [] g h = (refl, refl)
same_values bits split words true false node [] [] g h = absurd (omega (arith, g, h, span_least bits split))
same_values bits split words false true node [] [] g h = absurd (omega (arith, g, h, span_least bits split))
same_values bits split words true also node [] (v ∷ vs) g h = absurd (let high = h.1 in omega (arith, g, high))
same_values bits split words false also node [] (v ∷ vs) g h = absurd (let low = h.0 in omega (arith, g, low))
same_values bits split words shut true node (u ∷ us) [] g h = absurd (let high = g.1 in omega (arith, h, high))
same_values bits split words shut false node (u ∷ us) [] g h = absurd (let low = g.0 in omega (arith, h, low))
same_values bits split words shut also node (u ∷ us) (v ∷ vs) g h =
    let one : u ≡ v = g.3 ∙ sym h.3 in
    let more = same_values bits split words shut also (ref_at bits words (4 + 2 * node)).node us vs g.4 h.4 in
    ((λ i. one i ∷ more.0 i), more.1)
