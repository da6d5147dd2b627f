-- `position_list::list_all` ends: the level falls at each call. Assumes nothing.
use Rattle.pebbling.proofs.position_list.+list_all.Given as goal

abbrev pub decreases-list_all : goal.decreases-list_all
decreases-list_all l = l.k
