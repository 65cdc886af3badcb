use Rattle.std.proofs.Common.{rules, List, All, inl, inr, subst}
use Rattle.std.proofs.lemmas.List.{take_all}
use Rattle.std.proofs.lemmas.List.Elements.{All-more, All-nil}
use Rattle.std.specs.Cmp.Lexicographic.{other_text}
use Rattle.engine_faults.specs.declared.lookups.Entry.{Entry}
use Rattle.engine_faults.specs.Entries.{IsCalled}
use Rattle.engine_faults.proofs.lookups.entry_named.Goals as goal

pub loop-entry-init : goal.loop-entry-init
loop-entry-init c = All-nil (λ (entry : Entry). ¬ IsCalled c.args.word.now entry)

pub loop-entry-preserved : goal.loop-entry-preserved
loop-entry-preserved c =
    All-more (λ (entry : Entry). ¬ IsCalled c.args.word.now entry) c.args.entries.now c.loop-entry.entry-index _ (search rules) c.loop-entry.invariant
    (λ called. elim called [
      | inl number ↦ other_text _ _ c.if-eq.ensures number
      | inr name ↦ other_text _ _ c.if-eq-2.ensures name
    ])

pub returns-clause-none : goal.returns-clause-none
returns-clause-none c =
    subst (λ (seen : List Entry). All (λ (entry : Entry). ¬ IsCalled c.args.word.now entry) seen) (take_all c.loop-entry.entry-index c.args.entries.now c.loop-entry-test.false) c.loop-entry.invariant
