use Rattle.std.proofs.Common.{◌∙◌}
use Rattle.vf_transfer.proofs.Entries.{front_is}
use Rattle.vf_transfer.proofs.receiving.Receiving.front.Goals as goal

pub returns : goal.returns
returns c =
    rw (← c.self.view_is) (λ entries same. c.front.ensures.values ∙ front_is c.self.inside.checks entries same.checks c.front.ensures.within)
