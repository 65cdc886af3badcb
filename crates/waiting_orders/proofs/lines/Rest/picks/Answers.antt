-- All that was kept, and all behind those that began by the limit.
use Rattle.std.proofs.Common.{◌≡◌, ◌++◌, ap, ◌∙◌}
use Rattle.waiting_orders.specs.Lines.{all_kept, later_to, view_left, view_picks}
use Rattle.waiting_orders.proofs.Leading.{picked_of}
use Rattle.waiting_orders.proofs.Picks.{picks_pushed, picked_are}
use Rattle.waiting_orders.proofs.lines.Rest.picks.Goals as goal

pub returns : goal.returns
returns c =
    let ops = c.args.operations.now in
    let left = view_left c.args.self.now in
    let until = c.until-until.result in
    let picks = view_picks c.push_all_later.new.picks.items in
    let made : picks ≡ all_kept ops left ++ later_to ops left until =
    c.in_ok-push_all_later.ensures
    ∙ ap (λ l. l ++ later_to ops left until) (c.in_ok-push_all_kept.ensures ∙ ap (λ l. view_picks l ++ all_kept ops left) c.new-picks.ensures.items) in
    record {
      all = picks_pushed ops left c.args.limit until picks c.until-until.ensures.past made;
      each = picked_are ops left until picks made;
      left = picked_of ops left until picks made;
    }
