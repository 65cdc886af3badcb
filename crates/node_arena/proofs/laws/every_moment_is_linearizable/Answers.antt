-- The world of the rule's trace is reached by moves.
use Rattle.std.proofs.Common.{◌≡◌, subst, sym, ap, ◌∙◌, Some}
use Rattle.history.specs.Entries.{own_entries}
use Rattle.step_machine.specs.Entries.{entries}
use Rattle.step_machine.specs.Machine.{IsReached, IsSized, run, opening}
use Rattle.step_machine.proofs.EachHistory.{reached_placed, reached_linearizable, histories_are_legal}
use Rattle.node_arena.specs.Moments.{EachMomentIsLinearizable}
use Rattle.node_arena.specs.Rule.{Fits}
use Rattle.node_arena.proofs.Tracing.{traced_reached}
use Rattle.node_arena.proofs.Histories.{history_is}
use Rattle.node_arena.proofs.laws.every_moment_is_linearizable.Goals as goal

each_moment : EachMomentIsLinearizable
each_moment z s h =
    let r : IsReached h.trace.world = traced_reached h.trace h.reached in
    let is : h.trace.history ≡ entries h.trace.world = history_is h.trace h.reached in
    record {
      actors = r.actors;
      sized = subst (λ t. IsSized t r.actors) h.setup r.sized;
      moves = r.moves;
      world = h.trace.world;
      led = subst (λ t. run r.moves (opening t r.actors) ≡ Some h.trace.world) h.setup r.led;
      count = h.actors;
      words = h.words;
      seats = λ j i u v at member. (h.fits j i u v at member).actor;
      own = λ j i u v at member. ap (own_entries v.number) (sym is) ∙ (h.fits j i u v at member).own;
      begins = λ j i u v at member. let f : Fits h.trace v = h.fits j i u v at member in (f.rest, sym f.begins ∙ is);
      placed = reached_placed h.trace.world r;
      legal = histories_are_legal h.trace.world r;
      linearizable = reached_linearizable h.trace.world r;
    }

pub returns : goal.returns
returns c = each_moment
