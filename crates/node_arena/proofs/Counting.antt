-- Which steps add to the history, by the form of their access: a seat counts its pushes, pops and shuts there.
use Rattle.std.proofs.Common.{◌≡◌, ◌≢◌, ℕ, ◌+◌, nat_lt, true, if◌then◌else◌, nat_eq, List, [], ◌∷◌, Some, sym, refl, ap, ◌∙◌, subst, eq-eqb, ne_eqb, arith}
use Rattle.std.specs.List.{count_by}
use Rattle.std.proofs.lemmas.Bool.{lt-ltb}
use Rattle.counted_ref.specs.Ref.{null, same_ref}
use Rattle.line_table.specs.declared.lines.Line.{Line}
use Rattle.line_table.specs.declared.lines.Line.TheVariants.{E9, D13, A5, B5, S4, S8}
use Rattle.history.specs.declared.operations.Entry.{Entry}
use Rattle.history.specs.declared.operations.Entry.TheVariants.{Push, Pop, Shut}
use Rattle.line_steps.specs.declared.actors.Setup.{Setup}
use Rattle.line_steps.specs.Actors.{Actor}
use Rattle.line_steps.specs.Memory.{Word, Head, Next, Content, content, Found, same}
use Rattle.line_steps.specs.Lines.{action}
use Rattle.step_machine.specs.Words.{encoded}
use Rattle.step_machine.specs.Machine.{actor_of}
use Rattle.step_machine.specs.Tables.{WordStep, load_at, store_at, and_at, exchange_at, word_step, ContentFits, ActionFits}
use Rattle.step_machine.proofs.Tables.{same_content}
use Rattle.step_machine.proofs.Fits.{shared_fits, access_fits}
use Rattle.step_machine.proofs.Reached.{reached_in_range}
use Rattle.node_arena.specs.Traces.{Traced, IsTraced, entries_of, entries_at, number_at}
use Rattle.history.specs.Entries.{is_push, is_pop, is_shut}
use Rattle.node_arena.specs.Seats.{pushes_at, pops_at, shut_by}
use Rattle.node_arena.proofs.Tracing.{traced_reached}

-- entries have as many pushes and pops as a line counts, and a shut where it is one
pub record Counts (l : Line) (es : List Entry) : Type 0 where
  pub pushes : count_by is_push es ≡ pushes_at l
  pub pops : count_by is_pop es ≡ pops_at l
  pub shut : (n : ℕ) → shut_by l (nat_lt 0 n) ≡ nat_lt 0 (n + count_by is_shut es)

-- no shut more is as before, and one more is one
none_more : (n : ℕ) → nat_lt 0 n ≡ nat_lt 0 (n + 0)
none_more n = ap (nat_lt 0) (let e : n ≡ n + 0 = omega arith in e)

one_more : (n : ℕ) → true ≡ nat_lt 0 (n + 1)
one_more n = sym (lt-ltb 0 (n + 1) (omega arith))

-- a load adds nothing
pub loads_nothing : (s : Setup) (me : ℕ) (a : Actor) (l : Line) (p : ℕ) (c : Found (action s me a l)) → word_step s.bits (action s me a l) ≡ load_at p → entries_of s me a l c ≡ []
loads_nothing s me a E9 p c e = cc
loads_nothing s me a D13 p c e = cc
loads_nothing s me a A5 p c e = cc
loads_nothing s me a B5 p c e = cc
loads_nothing s me a S4 p c e = cc
loads_nothing s me a S8 p c e = cc
loads_nothing s me a _ p c e = refl

-- a fetch_and adds nothing
pub clears_nothing : (s : Setup) (me : ℕ) (a : Actor) (l : Line) (p mask : ℕ) (c : Found (action s me a l)) → word_step s.bits (action s me a l) ≡ and_at p mask → entries_of s me a l c ≡ []
clears_nothing s me a E9 p mask c e = cc
clears_nothing s me a D13 p mask c e = cc
clears_nothing s me a A5 p mask c e = cc
clears_nothing s me a B5 p mask c e = cc
clears_nothing s me a S4 p mask c e = cc
clears_nothing s me a S8 p mask c e = cc
clears_nothing s me a _ p mask c e = refl

-- a store adds what its line counts
pub stores_counted : (s : Setup) (me : ℕ) (a : Actor) (l : Line) (p n : ℕ) (c : Found (action s me a l)) → word_step s.bits (action s me a l) ≡ store_at p n → Counts l (entries_of s me a l c)
stores_counted s me a E9 p n c e = cc
stores_counted s me a D13 p n c e = cc
stores_counted s me a A5 p n c e = cc
stores_counted s me a B5 p n c e = record { pushes = refl; pops = refl; shut = none_more }
stores_counted s me a S4 p n c e = cc
stores_counted s me a S8 p n c e = cc
stores_counted s me a _ p n c e = record { pushes = refl; pops = refl; shut = none_more }

-- the number that an exchange compares with
old_of : WordStep → ℕ
old_of (load_at p) = 0
old_of (store_at p n) = 0
old_of (and_at p mask) = 0
old_of (exchange_at p old new) = old

-- an actor that stands before a line whose access is an exchange
module _ (t : Traced) (me : ℕ) (a : Actor) (p old new : ℕ) (r : IsTraced t) (at : actor_of t.world me ≡ Some a) where
  -- whether the exchange is won, by the contents and by the numbers
  won_is : (l : Line) (x : Word) (was mine : Content x) → ContentFits t.world.setup.bits x was → ContentFits t.world.setup.bits x mine
      → encoded t.world.setup.bits x mine ≡ old → same x was mine ≡ nat_eq (encoded t.world.setup.bits x was) old
  won_is l x was mine f g e = same_content t.world.setup.bits (reached_in_range t.world (traced_reached t r)).sized.split x was mine f g ∙ ap (nat_eq (encoded t.world.setup.bits x was)) e

  fits : (x : Word) → ContentFits t.world.setup.bits x (content x t.world.shared)
  fits = shared_fits t.world (reached_in_range t.world (traced_reached t r))

  given : (l : Line) → a.line ≡ Some l → ActionFits t.world.setup.bits (action t.world.setup me a l)
  given l here = access_fits t.world me a l (reached_in_range t.world (traced_reached t r)) at here

  won_e9 : a.line ≡ Some E9 → word_step t.world.setup.bits (action t.world.setup me a E9) ≡ exchange_at p old new
      → same_ref (content (Next a.tail.node) t.world.shared) a.next ≡ nat_eq (number_at t.world.setup t me a E9) old
  unfolding old_of
  won_e9 here e = won_is E9 (Next a.tail.node) (content (Next a.tail.node) t.world.shared) a.next (fits (Next a.tail.node)) (given E9 here).0 (ap old_of e)

  won_a5 : a.line ≡ Some A5 → word_step t.world.setup.bits (action t.world.setup me a A5) ≡ exchange_at p old new
      → same_ref (content (Next a.tail.node) t.world.shared) null ≡ nat_eq (number_at t.world.setup t me a A5) old
  unfolding old_of
  won_a5 here e = won_is A5 (Next a.tail.node) (content (Next a.tail.node) t.world.shared) null (fits (Next a.tail.node)) (given A5 here).0 (ap old_of e)

  won_s4 : a.line ≡ Some S4 → word_step t.world.setup.bits (action t.world.setup me a S4) ≡ exchange_at p old new
      → same_ref (content (Next a.tail.node) t.world.shared) a.next ≡ nat_eq (number_at t.world.setup t me a S4) old
  unfolding old_of
  won_s4 here e = won_is S4 (Next a.tail.node) (content (Next a.tail.node) t.world.shared) a.next (fits (Next a.tail.node)) (given S4 here).0 (ap old_of e)

  won_s8 : a.line ≡ Some S8 → word_step t.world.setup.bits (action t.world.setup me a S8) ≡ exchange_at p old new
      → same_ref (content (Next a.tail.node) t.world.shared) null ≡ nat_eq (number_at t.world.setup t me a S8) old
  unfolding old_of
  won_s8 here e = won_is S8 (Next a.tail.node) (content (Next a.tail.node) t.world.shared) null (fits (Next a.tail.node)) (given S8 here).0 (ap old_of e)

  won_d13 : a.line ≡ Some D13 → word_step t.world.setup.bits (action t.world.setup me a D13) ≡ exchange_at p old new
      → same_ref t.world.shared.head a.head ≡ nat_eq (number_at t.world.setup t me a D13) old
  unfolding old_of
  won_d13 here e = won_is D13 Head t.world.shared.head a.head (fits Head) (given D13 here).0 (ap old_of e)

  -- an exchange that is won at E9 adds the push of its body
  pub wins_push : a.line ≡ Some E9 → word_step t.world.setup.bits (action t.world.setup me a E9) ≡ exchange_at p old new
      → number_at t.world.setup t me a E9 ≡ old → entries_at t.world.setup t me a E9 ≡ Push me a.val.body ∷ []
  wins_push here e n = ap (λ b. if b then Push me a.val.body ∷ [] else []) (won_e9 here e ∙ eq-eqb _ _ n)

  -- one that is won at D13 adds the pop of its value
  pub wins_pop : a.line ≡ Some D13 → word_step t.world.setup.bits (action t.world.setup me a D13) ≡ exchange_at p old new
      → number_at t.world.setup t me a D13 ≡ old → entries_at t.world.setup t me a D13 ≡ Pop me a.val ∷ []
  wins_pop here e n = ap (λ b. if b then Pop me a.val ∷ [] else []) (won_d13 here e ∙ eq-eqb _ _ n)

  -- an exchange that is won adds what its line counts
  pub wins_counted : (l : Line) → a.line ≡ Some l → word_step t.world.setup.bits (action t.world.setup me a l) ≡ exchange_at p old new
      → number_at t.world.setup t me a l ≡ old → Counts l (entries_at t.world.setup t me a l)
  wins_counted E9 here e n = subst (λ b. Counts E9 (if b then Push me a.val.body ∷ [] else [])) (sym (won_e9 here e ∙ eq-eqb _ _ n)) (record { pushes = refl; pops = refl; shut = none_more })
  wins_counted D13 here e n = subst (λ b. Counts D13 (if b then Pop me a.val ∷ [] else [])) (sym (won_d13 here e ∙ eq-eqb _ _ n)) (record { pushes = refl; pops = refl; shut = none_more })
  wins_counted A5 here e n = subst (λ b. Counts A5 (if b then Push me a.val.body ∷ [] else [])) (sym (won_a5 here e ∙ eq-eqb _ _ n)) (record { pushes = refl; pops = refl; shut = none_more })
  wins_counted B5 here e n = cc
  wins_counted S4 here e n = subst (λ b. Counts S4 (if b then Shut me ∷ [] else [])) (sym (won_s4 here e ∙ eq-eqb _ _ n)) (record { pushes = refl; pops = refl; shut = one_more })
  wins_counted S8 here e n = subst (λ b. Counts S8 (if b then Shut me ∷ [] else [])) (sym (won_s8 here e ∙ eq-eqb _ _ n)) (record { pushes = refl; pops = refl; shut = one_more })
  wins_counted _ here e n = record { pushes = refl; pops = refl; shut = none_more }

  -- an exchange that is lost adds nothing
  pub loses_nothing : (l : Line) → a.line ≡ Some l → word_step t.world.setup.bits (action t.world.setup me a l) ≡ exchange_at p old new
      → number_at t.world.setup t me a l ≢ old → entries_at t.world.setup t me a l ≡ []
  loses_nothing E9 here e n = ap (λ b. if b then Push me a.val.body ∷ [] else []) (won_e9 here e ∙ ne_eqb _ _ n)
  loses_nothing D13 here e n = ap (λ b. if b then Pop me a.val ∷ [] else []) (won_d13 here e ∙ ne_eqb _ _ n)
  loses_nothing A5 here e n = ap (λ b. if b then Push me a.val.body ∷ [] else []) (won_a5 here e ∙ ne_eqb _ _ n)
  loses_nothing B5 here e n = cc
  loses_nothing S4 here e n = ap (λ b. if b then Shut me ∷ [] else []) (won_s4 here e ∙ ne_eqb _ _ n)
  loses_nothing S8 here e n = ap (λ b. if b then Shut me ∷ [] else []) (won_s8 here e ∙ ne_eqb _ _ n)
  loses_nothing _ here e n = refl
