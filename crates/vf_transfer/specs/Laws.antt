-- How what an end keeps follows the transfer, and what a restart and a recovery leave of it.
use Rattle.std.specs.Prelude.{◌≡◌, ℕ, List, ◌∷◌, ◌++◌, Some, slice_get}
use Rattle.vf_base.specs.declared.element.Element.{Element}
use Rattle.vf_transfer.specs.Checks.{Checkpoints, Sender, RepresentChecks, RepresentsSent, advanced, offered}
use Rattle.vf_transfer.specs.Transfer.{Entry, IsKnown, NamesKnownChecks, Restart, Value, before, last_check, point, survivors}

-- the next value joins the transfer as it is sent
abbrev pub SendsNext : Type 0
SendsNext =
    (sender : Sender) (element : Element) (entries : List Entry) → slice_get sender.elements sender.sent ≡ Some element
    → RepresentsSent sender entries → RepresentsSent (advanced sender) (Value element ∷ entries)

-- the last check that was offered is the last one that stands
abbrev pub OffersLast : Type 0
OffersLast =
    (checks : Checkpoints) (entries : List Entry) → RepresentChecks checks entries → offered checks ≡ last_check checks.start entries

-- the last check that is acknowledged is one that stands, or the point from which the checks count
abbrev pub PointStands : Type 0
PointStands = (start : ℕ) (entries : List Entry) → NamesKnownChecks start entries → IsKnown start entries (point start entries)

-- The latest entries stand first, so `later ++ (Restart check ∷ earlier)` goes on after a restart. What then stands is
-- what stood before that check, and what stands of the later entries where they are a transfer of their own that
-- counts on from the check, as one that was recovered there is.
abbrev pub Recovers : Type 0
Recovers =
    (start check : ℕ) (earlier later : List Entry) → IsKnown start earlier check → NamesKnownChecks check later
    → (survivors start (later ++ (Restart check ∷ earlier)) ≡ before start earlier check ++ survivors check later)
    × (last_check start (later ++ (Restart check ∷ earlier)) ≡ last_check check later)
