use Rattle.std.proofs.Common.{◌≡◌, ◌∙◌, sym, subst, refl}
use Rattle.std.proofs.lemmas.Bool.{true≢false}
use Rattle.line_table.specs.declared.lines.Kind.{Kind}
use Rattle.line_table.specs.declared.lines.Kind.TheVariants.{NonBlocking, TwoLock}
use Rattle.node_arena.specs.Seats.{setup_of}
use Rattle.picked.specs.AnyValues.{arena_of}
use Rattle.picked.proofs.OfKind.{is_of_kind}
use Rattle.picked.proofs.Within.{as_same}
use Rattle.picked.proofs.kind_values.AnyValues.len.Goals as goal

abbrev OnlyNonBlocking : Kind → Type 0
OnlyNonBlocking NonBlocking = Unit {0}
OnlyNonBlocking TwoLock = ⊥

pub returns-in-NonBlocking-clause-none : goal.returns-in-NonBlocking-clause-none
returns-in-NonBlocking-clause-none g c = (
  λ none. absurd (true≢false none),
  λ e. absurd (subst OnlyNonBlocking (sym (is_of_kind NonBlocking refl refl refl refl refl c.in-NonBlocking.queue) ∙ as_same c.in-NonBlocking.is (λ q. (setup_of (arena_of q)).kind ≡ TwoLock) e) tt),
)

pub returns-in-TwoLock-clause-none : goal.returns-in-TwoLock-clause-none
returns-in-TwoLock-clause-none g c = (
  λ none. as_same (sym c.in-TwoLock.is) (λ q. (setup_of (arena_of q)).kind ≡ TwoLock) (is_of_kind TwoLock refl refl refl refl refl c.in-TwoLock.field-0),
  λ e. refl,
)
