use Rattle.vf_tables.specs.Sums.{elements_staged}
use Rattle.vf_tables.proofs.pieces.elements_left.Goals as goal

pub returns-in-Some : goal.returns-in-Some
returns-in-Some c = c.in-Some.ensures c.requires.0 c.requires.1 (elements_staged c.args.pieces.now) c.requires.2 c.requires.3 c.requires.4
