-- A unit from 1 on is the content of its field.
use Rattle.std.proofs.Common.{◌≡◌, ℕ, zero, suc, ◌≤◌, refl, arith}
use Rattle.vf_base.specs.declared.access.FaduId.TheVariants as fadus
use Rattle.vf_pdu_fields.specs.Slots.{fadu_slot, num}

pub unit_slot : (n : ℕ) → 1 ≤ n → fadu_slot (fadus.Number n) ≡ num n
unit_slot zero h = absurd (omega arith)
unit_slot (suc n) h = refl

pub ruleset numbering = (unit_slot)
