-- What the writes of a journal make of an image, and what a crash or a fault may leave of them (profile).
use Rattle.std.specs.Prelude.{◌≡◌, ℕ, ◌-◌, Bool, true, List, [], ◌∷◌, ◌++◌, take, drop, Option, Some}
use Rattle.vf_disk.specs.Disk.{overwritten}
use Rattle.vf_disk.specs.declared.step.Step.{Step}
use Rattle.vf_disk.specs.declared.step.Step.TheVariants.{Wrote, Synced}
use Rattle.vf_journal.specs.Layout.{anchor_place, new_journal, place_octets, selector_of, selector_place}

-- an image that a step makes of one of the images before
abbrev pub MadeBy : (List ℕ → List ℕ → Type 0) → (List ℕ → Type 0) → List ℕ → Type 0
MadeBy step before image = (from : List ℕ) × before from × step from image

-- a read gives an image with a property, whether the call at hand went well or not
abbrev pub Shows : Option (List ℕ) → (List ℕ → Type 0) → Type 0
Shows shown P = (image : List ℕ) × (shown ≡ Some image) × P image

-- after an append of an entry at the end of the selected area: the entry, and 1 at the gate before it
abbrev pub appended : List ℕ → ℕ → List ℕ → List ℕ
appended image end entry = overwritten (overwritten image end entry) (end - 1) (1 ∷ [])

-- after a prepare of an area at a place: the area, and its place in the anchor
abbrev pub prepared : List ℕ → ℕ → List ℕ → Bool → List ℕ
prepared image start area second = overwritten (overwritten image start area) (anchor_place second) (place_octets start)

-- after a switch: 0 or 1 at the selector
abbrev pub switched : List ℕ → Bool → List ℕ
switched image second = overwritten image selector_place (selector_of second ∷ [])

-- The calls of the disk that each call of a journal makes, one after the other. First a write with its sync.
abbrev pub written_steps : ℕ → List ℕ → List Step
written_steps at octets = Wrote at octets true ∷ Synced ∷ []

-- making a journal: a first octet that isn't the header's, all the others, and then the first
abbrev pub create_steps : List Step
create_steps = written_steps 0 (0 ∷ []) ++ written_steps 1 (drop 1 new_journal) ++ written_steps 0 (take 1 new_journal)

-- an append of an entry at the end of the selected area
abbrev pub append_steps : ℕ → List ℕ → List Step
append_steps end entry = written_steps end entry ++ written_steps (end - 1) (1 ∷ [])

-- a prepare of an area at a place, which an anchor is to name
abbrev pub prepare_steps : ℕ → List ℕ → Bool → List Step
prepare_steps start area second = Wrote start area true ∷ written_steps (anchor_place second) (place_octets start)

-- a switch to an anchor
abbrev pub switch_steps : Bool → List Step
switch_steps second = written_steps selector_place (selector_of second ∷ [])
