-- Looks one after another: no slot moves, and what is seen of values goes on.
use Rattle.std.proofs.Common.{◌≡◌, ℕ, true, ◌++◌, ap, ◌∙◌, append_assoc}
use Rattle.node_arena.specs.declared.seats.Seat.{Seat}
use Rattle.node_arena.specs.Arenas.{Arena}
use Rattle.node_arena.specs.Seats.{KeepsSlots, SeesMoreDeeds, carries_of, deeds_of}
use Rattle.node_arena.specs.Looks.{Looks}

module _ {T : Type 0} where
  more_on : (s t u : Seat T) → SeesMoreDeeds s t → SeesMoreDeeds t u → SeesMoreDeeds s u
  more_on s t u a b = record { between = a.between ++ b.between; deeds = b.deeds ∙ ap (λ ds. ds ++ b.between) a.deeds ∙ append_assoc (deeds_of s) a.between b.between }

  keeps_on : (s t u : Seat T) → KeepsSlots s t → KeepsSlots t u → KeepsSlots s u
  keeps_on s t u a b = record { same = b.same ∙ a.same; hand = b.hand ∙ a.hand; tries = b.tries ∙ a.tries; number = b.number ∙ a.number; more = more_on s t u a.more b.more }

  module _ (r : Arena) (s0 s1 s2 s3 : Seat T) (w0 w1 w2 n0 n1 n2 : ℕ) (a : Looks r s0 s1 w0 n0) (b : Looks r s1 s2 w1 n1) (c : Looks r s2 s3 w2 n2) where
    -- three looks
    pub three_keep : KeepsSlots s0 s3
    three_keep = keeps_on s0 s1 s3 a.slots (keeps_on s1 s2 s3 b.slots c.slots)

    pub three_more : carries_of r ≡ true → SeesMoreDeeds s0 s3
    three_more e = more_on s0 s1 s3 (a.values e) (more_on s1 s2 s3 (b.values e) (c.values e))

    module _ (s4 s5 : Seat T) (w3 w4 n3 n4 : ℕ) (d : Looks r s3 s4 w3 n3) (e : Looks r s4 s5 w4 n4) where
      -- five looks
      pub five_keep : KeepsSlots s0 s5
      five_keep = keeps_on s0 s3 s5 three_keep (keeps_on s3 s4 s5 d.slots e.slots)

      pub five_more : carries_of r ≡ true → SeesMoreDeeds s0 s5
      five_more f = more_on s0 s3 s5 (three_more f) (more_on s3 s4 s5 (d.values f) (e.values f))
