-- Each call has a step less.
use Rattle.table.proofs.Cell.+depth_by.Given as goal

abbrev pub decreases-depth_by : goal.decreases-depth_by
decreases-depth_by l = l.left
