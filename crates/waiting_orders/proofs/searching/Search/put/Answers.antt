-- A state that is new goes last.
use Rattle.std.proofs.Common.{refl}
use Rattle.waiting_orders.proofs.Counting.{put_last, put_node}
use Rattle.waiting_orders.proofs.searching.Search.put.Goals as goal

pub returns : goal.returns
returns c = (put_last c.args.node c.args.self.now.done.keys c.insert.new.self.keys c.requires c.in_ok-insert.ensures.keys, refl, refl, put_node c.args.node c.args.self.now.done.keys c.insert.new.self.keys c.requires c.in_ok-insert.ensures.keys)
