-- What is asked of a party, by what its typed state keeps.
use Rattle.std.proofs.Common.{◌≡◌, ℕ, Option, Some, ap, sym, ◌∙◌}
use Rattle.std.specs.Prelude.{option_map}
use Rattle.vf_filestore.specs.History.{History}
use Rattle.vf_filestore.specs.Transfers.{Transfer, last_check, under_way}
use Rattle.vf_party_steps.specs.Writes.{IsWriting}
use Rattle.vf_party_steps.specs.declared.writing.Writing.{Writing}

-- the last check that stands of a write
pub write-check : (writing : Writing) (link : ℕ) (history : History) (number : ℕ) → IsWriting writing link history → number ≡ last_check history
    → Some number ≡ option_map (λ (transfer : Transfer). last_check history) (under_way history)
write-check writing link history number is same =
    ap (λ (check : ℕ). Some check) same ∙ sym (ap (λ (moving : Option Transfer). option_map (λ (transfer : Transfer). last_check history) moving) is.moved)
