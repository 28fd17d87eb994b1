-- Values that are spelled by a number are made of it again.
use Rattle.std.proofs.Common.{◌≡◌, ℕ, ◌<◌, Bool, true, false, nat_le, nat_lt, Some, refl, arith}
use Rattle.std.proofs.lemmas.Bool.Decides.{nat_tests}
use Rattle.vf_base.specs.declared.access.Context.TheVariants.{HA, FA, UA, US}
use Rattle.vf_base.specs.declared.access.FaduId.TheVariants.{Number}
use Rattle.vf_base.specs.declared.action.Control.{Control}
use Rattle.vf_base.specs.declared.action.Control.TheVariants.{NotRequired, Shared, Exclusive, NoAccess}
use Rattle.vf_tables.specs.declared.docket.Direction.{Direction}
use Rattle.vf_tables.specs.declared.docket.Direction.TheVariants.{Idle, Read, Write}
use Rattle.vf_tables.specs.declared.docket.Operation.TheVariants.{Insert, Replace, Extend}
use Rattle.vf_tables.specs.declared.task.Phase.{Phase}
use Rattle.vf_tables.specs.declared.task.Phase.TheVariants as phases
use Rattle.vf_tables.specs.declared.task.Way.{Way}
use Rattle.vf_tables.specs.declared.task.Way.TheVariants.{Get, Put}
use Rattle.vf_store_record.specs.Entries.{direction_number, direction_of, method_number, phase_number, phase_of, transfer_of, transfer_parts, way_number, way_of}
use Rattle.vf_store_record.specs.Fields.{control_number, control_of, fadu_of, moment_of, truth_number, truth_of}
use Rattle.vf_store_record.specs.declared.regimes.Transfer.{Transfer}

pub truth_known : (truth : Bool) → truth_of (truth_number truth) ≡ Some truth
truth_known true = refl
truth_known false = refl

pub control_known : (control : Control) → control_of (control_number control) ≡ Some control
control_known NotRequired = refl
control_known Shared = refl
control_known Exclusive = refl
control_known NoAccess = refl

pub moment_known : (seconds : ℕ) → seconds < 253402300800 → moment_of seconds ≡ Some seconds
moment_known seconds lt = let e : nat_lt seconds 253402300800 ≡ true = grind (arith, nat_tests) in rw e refl

pub way_known : (way : Way) → way_of (way_number way) ≡ Some way
way_known Get = refl
way_known Put = refl

pub phase_known : (phase : Phase) → phase_of (phase_number phase) ≡ Some phase
phase_known phases.New = refl
phase_known phases.Open = refl
phase_known phases.Whole = refl
phase_known phases.Concluded = refl

direction_known : (direction : Direction) → direction_of (direction_number direction) (method_number direction) ≡ Some direction
direction_known Idle = refl
direction_known (Read HA) = refl
direction_known (Read FA) = refl
direction_known (Read UA) = refl
direction_known (Read US) = refl
direction_known (Write Insert) = refl
direction_known (Write Replace) = refl
direction_known (Write Extend) = refl

pub transfer_known : (transfer : Transfer) → transfer_of (transfer_parts transfer) ≡ Some transfer
transfer_known transfer = rw (direction_known transfer.direction) refl

-- the number of a unit is none of those of the other identities
pub unit_known : (n : ℕ) → nat_le 1 n ≡ true → n < 4294967296 → fadu_of n ≡ Some (Number n)
unit_known n least most = grind (arith, nat_tests)
