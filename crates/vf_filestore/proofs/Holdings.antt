-- What parties and dockets hold stays usable where it changes places.
use Rattle.std.specs.List.{AllByRecursion}
use Rattle.vf_filestore.specs.Sound.{Holding, IsUsable, holding_by, holding_of_docket, holding_of_party}
use Rattle.vf_filestore.proofs.Lists.{all-permutation, all_right}
use Rattle.vf_filestore.proofs.Moving.{Has, Leaves, Stays}
use Rattle.vf_filestore.proofs.Soundness.{retains}

abbrev pub holdings_have : Has Holding
holdings_have = record { of_party = holding_of_party; of_docket = holding_of_docket }

pub holdings_left : Leaves holdings_have
holdings_left files party activity sound =
    let kept = retains party.history sound.sound.nested in
    λ i. holding_by (kept.opens i) (kept.moves i) (kept.selects i)

pub usable_stays : Stays (AllByRecursion IsUsable)
usable_stays = record { moves = all-permutation IsUsable; shrinks = all_right IsUsable }
