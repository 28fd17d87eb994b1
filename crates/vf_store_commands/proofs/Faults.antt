-- What was printed, with other faults too.
use Rattle.std.proofs.Common.{◌≡◌, inl, inr, ⊎_elim, ℕ, true, false, nat_eq, List, [], ◌∷◌, Option, Some, None, Err, refl, sym, ap, subst, ◌∙◌}
use Rattle.std.proofs.lemmas.List.{append-nil}
use Rattle.vf_attr.specs.declared.file.File.{File}
use Rattle.vf_journal.specs.Answers.{is_fault}
use Rattle.vf_journal.specs.Image.{Refusal, refusal}
use Rattle.vf_journal.specs.declared.error.JournalError.{JournalError}
use Rattle.vf_journal.specs.declared.error.JournalError.TheVariants.{NotAStore, Full, DiskFault, NoMemory}
use Rattle.vf_store.specs.Answers.{IsOpenError}
use Rattle.vf_store_commands.specs.Listing.{PrintsOpened}
use Rattle.vf_store_commands.specs.Making.{IsOutside}
use Rattle.vf_cli_printing.specs.Printed.{IsOneOf, Printed, Prints, Wrote}
use Rattle.vf_store_commands.specs.ErrorLines.{PrintsError, no_store_line}
use Rattle.vf_store_commands.proofs.Statuses.{among, has_all}

pub more_faults : (faults others : List ℕ) (printed : Printed) (status : ℕ) (old new : Option (List ℕ)) → has_all others faults ≡ true → Prints faults printed status old new → Prints others printed status old new
more_faults faults others printed status old new all prints = ⊎_elim (λ whole. inl whole) (λ some. inr (among faults others status all some.0, some.1)) prints

-- with its own status, or one of the faults
pub status_of : (faults : List ℕ) (printed : Printed) (status : ℕ) (old new : Option (List ℕ)) → Prints faults printed status old new → IsOneOf (printed.status ∷ faults) status
status_of faults printed status old new prints = ⊎_elim (λ whole. inl whole.0) (λ some. inr some.0) prints

-- nothing was written before a fault
pub nothing : (faults : List ℕ) (printed : Printed) (status : ℕ) (old new : Option (List ℕ)) → IsOneOf faults status → Wrote [] old new → Prints faults printed status old new
nothing faults printed status old new is wrote = inr (is, ([], printed.octets, refl, wrote))

wrote_nothing : (old : Option (List ℕ)) → Wrote [] old old
wrote_nothing None = tt
wrote_nothing (Some octets) = ap Some (sym (append-nil octets))

pub nothing_at_all : (faults : List ℕ) (printed : Printed) (status : ℕ) (old : Option (List ℕ)) → IsOneOf faults status → Prints faults printed status old old
nothing_at_all faults printed status old is = nothing faults printed status old old is (wrote_nothing old)

module _ (image : List ℕ) (files : List File) (status : ℕ) (old new : Option (List ℕ)) where
  faulty : (refused : Option Refusal) → status ≡ 5 → Wrote [] old new → PrintsOpened refused files status old new
  faulty (Some refused) is wrote = nothing (4 ∷ 5 ∷ 9 ∷ []) (record { octets = no_store_line refused.place; status = 8 }) status old new (inr (inl is)) wrote
  faulty None is wrote = inl (inl is, wrote)

  pub error_printed : (error : JournalError) → IsOpenError image error → PrintsError error status old new → PrintsOpened (refusal image) files status old new
  error_printed (NotAStore place found expected) is prints =
      subst (λ (r : Option Refusal). PrintsOpened r files status old new) (sym is)
      (more_faults (4 ∷ 9 ∷ []) (4 ∷ 5 ∷ 9 ∷ []) (record { octets = no_store_line place; status = 8 }) status old new refl prints)
  error_printed (Full end limit) is prints = absurd is
  error_printed DiskFault is prints = faulty (refusal image) prints.0 prints.1
  error_printed NoMemory is prints = subst (λ (r : Option Refusal). PrintsOpened r files status old new) (sym is) (inl (inr (inl prints.0), prints.1))

other_than : (status number : ℕ) → nat_eq number 5 ≡ false → status ≡ number → nat_eq status 5 ≡ false
other_than status number apart is = ap (λ (n : ℕ). nat_eq n 5) is ∙ apart

not_five : (octets : List ℕ) (number status : ℕ) (old new : Option (List ℕ)) → nat_eq number 5 ≡ false → Prints (4 ∷ 9 ∷ []) (record { octets = octets; status = number }) status old new
    → nat_eq status 5 ≡ false
not_five octets number status old new apart prints =
    ⊎_elim (λ all. other_than status number apart all.0)
    (λ some. ⊎_elim (λ four. other_than status 4 refl four) (λ rest. ⊎_elim (λ nine. other_than status 9 refl nine) (λ none. absurd none) rest) some.0) prints

-- the disk failed exactly where the status says so
pub fault_is_five : (T : Type 0) (error : JournalError) (status : ℕ) (old new : Option (List ℕ)) → PrintsError error status old new → is_fault {T = T} (Err error) ≡ nat_eq status 5
fault_is_five T (NotAStore place found expected) status old new prints = sym (not_five (no_store_line place) 8 status old new refl prints)
fault_is_five T (Full length limit) status old new prints = sym (not_five _ 12 status old new refl prints)
fault_is_five T DiskFault status old new prints = sym (ap (λ (n : ℕ). nat_eq n 5) prints.0)
fault_is_five T NoMemory status old new prints = sym (other_than status 9 refl prints.0)

-- an error of the outside prints nothing
pub outside_printed : (printed : Printed) (error : JournalError) (status : ℕ) (old new : Option (List ℕ)) → IsOutside error → PrintsError error status old new
    → Prints (4 ∷ 5 ∷ 9 ∷ []) printed status old new
outside_printed printed (NotAStore place found expected) status old new outside prints = absurd outside
outside_printed printed (Full length limit) status old new outside prints = absurd outside
outside_printed printed DiskFault status old new outside prints = nothing (4 ∷ 5 ∷ 9 ∷ []) printed status old new (inr (inl prints.0)) prints.1
outside_printed printed NoMemory status old new outside prints = nothing (4 ∷ 5 ∷ 9 ∷ []) printed status old new (inr (inr (inl prints.0))) prints.1
