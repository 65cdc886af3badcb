-- Chains that are followed for one node more.
use Rattle.std.proofs.Common.{◌≡◌, ℕ, ◌-◌, ◌<◌, zero, suc, Bool, ◌++◌, sym, ap, ◌∙◌, arith, decimal, if◌then◌else◌, ne_eqb}
use Rattle.line_steps.specs.Memory.{Shared, Next}
use Rattle.step_machine.specs.declared.accesses.Contents.{Contents}
use Rattle.step_machine.specs.Accesses.{contents_in}
use Rattle.show_engine.specs.Chains.{arrow_text, links_text, node_in, rest_text, tail_node}

module _ (bits : ℕ) (s : Shared) (r : Contents) where
  -- a chain that has a node
  pub links_text-more : (most : ℕ) → 0 < most → (node_in r ≡ 0 → ⊥)
      → links_text bits s most r ≡ arrow_text (tail_node bits s) (node_in r) ++ decimal (node_in r) ++ links_text bits s (most - 1) (contents_in bits (Next (node_in r)) s)
  links_text-more zero some there = absurd (omega (arith, some))
  links_text-more (suc n) some there =
      let less : suc n - 1 ≡ n = omega arith in
      ap (λ (b : Bool). if b then rest_text r else arrow_text (tail_node bits s) (node_in r) ++ decimal (node_in r) ++ links_text bits s n
      (contents_in bits (Next (node_in r)) s)) (ne_eqb (node_in r) 0 there)
      ∙ ap (λ (k : ℕ). arrow_text (tail_node bits s) (node_in r) ++ decimal (node_in r) ++ links_text bits s k (contents_in bits (Next (node_in r)) s)) (sym less)
