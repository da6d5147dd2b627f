-- `slots::Pebbler::children` meets its contract. The highest bit of the rounds left names the highest child that runs; in its round 2^j it puts out alone, and
-- before that it prepares behind the children of the upper half, which move first. The level falls at each call. Assumes nothing.
use Rattle.slots.proofs.Pebbler.+children.Given as goal

abbrev pub decreases-children : goal.decreases-children
decreases-children l = l.self.k
