use Rattle.std.proofs.Common.{◌+◌, ◌*◌, length}
use Rattle.tasks.proofs.crews.+crew.Given as goal

abbrev pub decreases-others : goal.decreases-others
decreases-others g l = 2 * length l.seats.items + 1

abbrev pub decreases-run_crew : goal.decreases-run_crew
decreases-run_crew g l = 2 * length l.seats.items
