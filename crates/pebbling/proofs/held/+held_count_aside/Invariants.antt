-- `held::held_count_aside` ends: the level falls at each call. Assumes nothing.
use Rattle.pebbling.proofs.held.+held_count_aside.Given as goal

abbrev pub decreases-held_count_aside : goal.decreases-held_count_aside
decreases-held_count_aside l = l.k
