use Rattle.std.proofs.Common.{length}
use Rattle.agreement.proofs.places.+ends.Given as goal

abbrev pub decreases-Acts::after : goal.decreases-Acts::after
decreases-Acts::after l = length l.self.place.bytes.now

abbrev pub decreases-Place::after : goal.decreases-Place::after
decreases-Place::after l = length l.self.bytes.now
