-- The responder that serves many associations (profile): the whole filestore, and of each link what was received and sent
-- on it. A link stands where a party of the filestore stands on it.
use Rattle.std.specs.Prelude.{ℕ, Bool, is_some, nat_eq, if◌then◌else◌}
use Rattle.vf_filestore.specs.State.{State, party_of}
use Rattle.vf_filestore.specs.Ranges.{IsReached}
use Rattle.vf_filestore.specs.Sound.{Begins}
use Rattle.vf_stack.specs.Association.{Association, beginning}
use Rattle.vf_tables.specs.declared.tables.Tables.{Tables}

pub record Serving : Type 0 where
  pub filestore : State
  pub associations : (link : ℕ) → Association

abbrev pub stands : (link : ℕ) → State → Bool
stands link state = is_some (party_of link state.parties)

-- the link with this association, and each other one with its own
abbrev pub with_association : (link : ℕ) → Association → Serving → Serving
with_association link association serving =
    record serving { associations = λ (other : ℕ). if nat_eq other link then association else serving.associations other }

-- before any link has arrived
abbrev pub unheard : State → Serving
unheard state = record { filestore = state; associations = λ (link : ℕ). beginning }

-- An incarnation of the responder begins with what a store keeps, whatever histories its dockets have, and with no party.
pub record IsBegun (tables : Tables) (serving : Serving) : Type 0 where
  pub begins : Begins tables serving.filestore
  pub reached : IsReached serving.filestore
