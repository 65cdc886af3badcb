-- A shut comes behind all pushes, anything else at once.
use Rattle.std.proofs.Common.{◌-◌, ◌++◌, None, false, drop, sym, ap, ◌∙◌}
use Rattle.waiting_orders.specs.Listed.{put_by}
use Rattle.waiting_orders.proofs.Listing.{put_plain, put_shut}
use Rattle.waiting_orders.proofs.orders.Listing.put_other.Goals as goal

pub returns-then-shuts-clause-put : goal.returns-then-shuts-clause-put
returns-then-shuts-clause-put c = λ more.
    let old = c.args.self.now in
    let rest = drop old.next c.args.pushes.now in
    put_shut c.args.other.now c.args.pushes.now old c.put_all.new.self _ c.in_ok-push.ensures.items c.requires c.in_ok-put_all.ensures more
    ∙ ap (λ b. old.operations.items ++ put_by false None b c.args.other.now 0 (old.next - old.taken) rest more) (sym c.if-shuts.true ∙ c.shuts.ensures)

pub returns-clause-put : goal.returns-clause-put
returns-clause-put c = λ more.
    let old = c.args.self.now in
    let rest = drop old.next c.args.pushes.now in
    put_plain c.args.other.now old.operations.items _ (more (old.next - old.taken) rest) c.in_ok-push-2.ensures.items
    ∙ ap (λ b. old.operations.items ++ put_by false None b c.args.other.now 0 (old.next - old.taken) rest more) (sym c.if-shuts.false ∙ c.shuts.ensures)
