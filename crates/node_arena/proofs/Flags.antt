-- Which slots have their flag up, at any moment.
use Rattle.std.proofs.Common.{◌≡◌, ◌≢◌, ◌⊎◌, ⊎_elim, inl, inr, ℕ, zero, suc, ◌<◌, Bool, true, List, [], ◌∷◌, map, Option, None, refl, sym, ap, ◌∙◌, subst, arith}
use mathlib.Core.Option.{some, some-injective, some-ne-none}
use lib.ListN.{get_elem?}
use Rattle.atomic_table.specs.Table.{State}
use Rattle.atomic_table.proofs.Lists.{at_map}
use Rattle.history.specs.declared.operations.Taken.{Taken}
use Rattle.node_arena.specs.Plans.{Layout}
use Rattle.node_arena.specs.Slots.{Lying, Place, free, held, queued, Home, Stands}
use Rattle.node_arena.specs.ValueHistories.{number_of}
use Rattle.node_arena.specs.Beside.{Beside, Carried, CarriedBy, HoldsFor, words_of, flag_at}
use Rattle.node_arena.specs.Flags.{IsOut, IsQueued, FlagsAreSo, EachFlagIsSo}

-- what stands at a place of a list that was made of another
of_map : {A B : Type 0} (f : A → B) (l : List A) (k : ℕ) (b : B) → get_elem? (map f l) k ≡ some b → (a : A) × (get_elem? l k ≡ some a) × (f a ≡ b)
of_map f [] k b e = absurd (some-ne-none b (sym e))
of_map f (x ∷ xs) zero b e = (x, refl, some-injective (f x) b e)
of_map f (x ∷ xs) (suc k) b e = of_map f xs k b e

-- the flag of a slot by where it stands
up_out : {T : Type 0} (flag : ℕ) (home : Home T) (p : Place) (j : ℕ) → p ≡ held j → Stands flag home p → flag ≡ 1
up_out flag home p j e s = subst (Stands flag home) e s

up_queued : {T : Type 0} (flag : ℕ) (home : Home T) (p : Place) (k : ℕ) → p ≡ queued k → Stands flag home p → flag ≡ 1
up_queued flag home p k e s = subst (Stands flag home) e s

down_home : {T : Type 0} (flag : ℕ) (home : Home T) (p : Place) → Stands flag home p → flag ≡ 0 → home ≡ some (some None)
down_home flag home free s down = s.1
down_home flag home (queued k) s down = absurd (omega (arith, s, down))
down_home flag home (held j) s down = absurd (omega (arith, s, down))

pub each_flag : {T : Type 0} → EachFlagIsSo T
each_flag {T} z s h carries =
    let c : Carried z h.base.trace.history s = subst (λ (b : Bool). CarriedBy b z h.base.trace.history s) carries h.values in
    let r = c.rides in
    let at = r.slotted in
    record {
      values = map number_of r.q;
      shut = r.shut;
      leads = r.leads;
      out = λ slot out. let there = at.out out.0 slot out.1 in (there.0, up_out _ _ (at.place slot) out.0 there.1 (at.stands slot there.0));
      queued = λ slot queue.
          let lies = of_map number_of r.q queue.0 queue.1 queue.2 in
          let same : lies.0.slot ≡ slot = ap (λ (t : Taken). t.body) lies.2 ∙ queue.3 in
          let there = at.lies queue.0 lies.0 lies.1 in
          subst (λ (i : ℕ). (i < z.setup.size) × (flag_at (words_of z) s.words i ≡ 1)) same (there.0, up_queued _ _ (at.place lies.0.slot) _ there.1 (at.stands lies.0.slot there.0));
      up = λ slot there up. ⊎_elim
          (λ out. inl out)
          (λ (queue : (k : ℕ) × (l : Lying T) × (get_elem? r.q k ≡ some l) × (l.slot ≡ slot)). inr (queue.0, number_of queue.1, at_map number_of r.q queue.0 queue.1 queue.2, queue.3))
          (at.why slot there up);
      down = λ slot there down. down_home _ _ (at.place slot) (at.stands slot there) down;
    }
