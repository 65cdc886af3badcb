-- What loads of Head and of Tail tell of how many values there are.
use Rattle.std.proofs.Common.{◌≡◌, ◌≢◌, ℕ, suc, ◌+◌, ◌-◌, ◌%◌, ◌^◌, ◌<◌, ◌≤◌, Bool, true, false, List, [], ◌∷◌, length, sym, refl, ap, ◌∙◌, subst, arith}
use Rattle.std.specs.List.{count_by}
use Rattle.std.proofs.lemmas.List.Sums.{sum_by-append}
use Rattle.history.specs.declared.operations.Taken.{Taken}
use Rattle.history.specs.Entries.{is_push, is_pop, Leads}
use Rattle.history.specs.Seats.{Known}
use Rattle.history.specs.Answers.{SeesMore}
use Rattle.history.proofs.Learning.{sees_itself, sees_then}
use Rattle.history.proofs.Sums.{pushes-Leads}
use Rattle.node_arena.specs.declared.emptiness.Emptiness.TheVariants.{Empty, ShutEmpty, Holds, Moved}
use Rattle.node_arena.specs.declared.lengths.Len.{Len}
use Rattle.node_arena.specs.Looks.{WasMeanwhile, LeadsToSome, FoundSo}
use Rattle.ring_queue.specs.Words.{tail_word}
use Rattle.ring_queue.specs.Plans.{Layout}
use Rattle.ring_queue.specs.Steps.{HoldsSoMany}
use Rattle.ring_queue.specs.Lengths.{WasSoLong, LeavesPushes}

pops_grow : (k k' : Known) → SeesMore k k' → count_by is_pop k.seen ≤ count_by is_pop k'.seen
pops_grow k k' f = let e : count_by is_pop k'.seen ≡ count_by is_pop k.seen + count_by is_pop f.between = ap (count_by is_pop) f.seen ∙ sum_by-append _ k.seen f.between in omega (arith, e)

none_of : (vs : List Taken) → length vs ≡ 0 → vs ≡ []
none_of [] e = refl
none_of (x ∷ xs) e = absurd (let f : suc (length xs) ≡ 0 = e in omega (arith, f))

was_meanwhile : (a c d : Known) → SeesMore a c → SeesMore c d → WasMeanwhile a c.seen d
was_meanwhile a c d f g = record { more = sees_then a c d f g; begins = (f.between, sym f.seen); ends = (g.between, sym g.seen) }

-- a seat that knew this much read Head, there with as many pops seen, and then Tail
module _ (z : Layout) (k b c : Known) (n head : ℕ) (first : SeesMore k b) (counts : head ≡ z.slots + count_by is_pop b.seen) (next : SeesMore b c) (h : HoldsSoMany z n c.seen) where
  sees : SeesMore k c
  sees = sees_then k b c first next

  none_there : n % 2 ^ 62 ≡ head → length h.values ≡ 0
  none_there at = let more = pops_grow b c next in let places = h.places in omega (arith, at, places, more, counts)

  -- Tail is at Head
  pub empty_found : head < 2 ^ 62 → n ≡ head → FoundSo k Empty c
  empty_found small at = go h.shut refl
    where
      go : (s : Bool) → h.shut ≡ s → FoundSo k Empty c
      go true f = absurd (let bit : n ≡ n % 2 ^ 62 + 2 ^ 62 = h.bit ∙ ap (tail_word (n % 2 ^ 62)) f in omega (arith, bit, at, small))
      go false f = (
        c.seen,
        was_meanwhile k c c sees (sees_itself c),
        subst (λ (vs : List Taken). Leads c.seen false vs) (none_of h.values (none_there (omega (arith, at, small)))) (subst (λ x. Leads c.seen x h.values) f h.leads),
      )

  -- and the queue is shut
  pub shut_empty_found : head < 2 ^ 62 → n ≡ head + 2 ^ 62 → FoundSo k ShutEmpty c
  shut_empty_found small at = go h.shut refl
    where
      go : (s : Bool) → h.shut ≡ s → FoundSo k ShutEmpty c
      go false f = absurd (let bit : n ≡ n % 2 ^ 62 = h.bit ∙ ap (tail_word (n % 2 ^ 62)) f in omega (arith, bit, at))
      go true f = (
        c.seen,
        was_meanwhile k c c sees (sees_itself c),
        subst (λ (vs : List Taken). Leads c.seen true vs) (none_of h.values (none_there (omega (arith, at, small)))) (subst (λ x. Leads c.seen x h.values) f h.leads),
      )

  -- Head, read again, isn't below Tail
  pub moved_found : (d : Known) (last : ℕ) → SeesMore c d → last ≡ z.slots + count_by is_pop d.seen → n % 2 ^ 62 ≢ head → n % 2 ^ 62 ≤ last → FoundSo k Moved d
  moved_found d last later counted apart le =
      let before = pops_grow k b first in
      let more = pops_grow b c next in
      let places = h.places in
      record { more = sees_then k c d sees later; pops = omega (arith, before, more, places, counted, counts, apart, le) }

  -- or it is
  pub holds_found : (d : Known) → SeesMore c d → LeadsToSome d.seen → FoundSo k Holds d
  holds_found d later some = let all = sees_then k c d sees later in (d.seen, was_meanwhile k d d all (sees_itself d), some)

  -- the length lies between what Tail is above Head as it was read again, and as it was read first
  pub so_long : (d : Known) (last : ℕ) (len : Len) → SeesMore c d → last ≡ z.slots + count_by is_pop d.seen → len.least ≡ n % 2 ^ 62 - last → len.most ≡ n % 2 ^ 62 - head → WasSoLong k len d
  so_long d last len later counted least most =
      let before = pops_grow k b first in
      let more = pops_grow b c next in
      let rest = pops_grow c d later in
      let places = h.places in
      record {
        now = c.seen;
        meanwhile = was_meanwhile k c d sees later;
        shut = h.shut;
        values = h.values;
        leads = h.leads;
        least = omega (arith, least, places, rest, counted);
        most = omega (arith, most, places, more, counts);
        near = omega (arith, least, most, places, before, more, rest, counts, counted);
      }

-- Tail, where it was read once, tells how many pushes are left
pub left_by_tail : (z : Layout) (k c : Known) (n left : ℕ) → SeesMore k c → HoldsSoMany z n c.seen → left ≡ z.limit - n % 2 ^ 62 → LeavesPushes z k left c
left_by_tail z k c n left sees h is =
    let counted : count_by is_push c.seen ≡ count_by is_pop c.seen + length h.values = pushes-Leads c.seen h.shut h.values h.leads in
    let places = h.places in
    record { now = c.seen; meanwhile = was_meanwhile k c c sees (sees_itself c); exact = omega (arith, is, places, counted) }
