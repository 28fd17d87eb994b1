-- What is printed of a disk that holds a store, or none.
use Rattle.std.proofs.Common.{◌≡◌, ◌<◌, ◌≤◌, inl, inr, ℕ, Bool, true, false, nat_lt, if◌then◌else◌, List, [], ◌∷◌, Option, None, refl, ap, arith, sym, subst}
use Rattle.std.proofs.lemmas.Bool.Decides.{nat_tests}
use Rattle.vf_journal.specs.Image.{Refusal, refusal}
use Rattle.vf_journal.specs.JournalState.{JournalState}
use Rattle.vf_journal.specs.declared.error.JournalError.{JournalError}
use Rattle.vf_journal.specs.declared.error.JournalError.TheVariants.{NotAStore, Full, DiskFault, NoMemory}
use Rattle.vf_store.specs.Answers.{IsOpenError}
use Rattle.vf_tables.specs.Fitting.{stands_in}
use Rattle.vf_tables.specs.declared.tables.Tables.{Tables}
use Rattle.vf_cli_printing.specs.Printed.{IsOneOf, Printed, Prints}
use Rattle.vf_store_commands.specs.Dockets.{printed_of}
use Rattle.vf_store_commands.specs.Dropping.{IsDropError, KeepsWhereFull, drop_of, dropped_line, dropping, end_of_drop, printed_by_drop, printed_of_drop}
use Rattle.vf_store_commands.specs.ErrorLines.{PrintsError, full_line, no_store_line}
use Rattle.vf_store_commands.specs.declared.dropping.KeptEntry.{KeptEntry}
use Rattle.vf_store_commands.specs.declared.limits.TheConstants.{STORE_LIMIT}
use Rattle.vf_store_commands.proofs.Faults.{more_faults, nothing, status_of}
use Rattle.vf_store_commands.proofs.Statuses.{among, apart}

module _ (image : List ℕ) (status : ℕ) (old new : Option (List ℕ)) where
  -- the lines of a store
  pub lines_printed : (lines : List ℕ) → refusal image ≡ None → Prints (4 ∷ 9 ∷ []) (record { octets = lines; status = 0 }) status old new
      → Prints (4 ∷ 5 ∷ 9 ∷ []) (printed_of (refusal image) lines) status old new
  lines_printed lines none prints =
      subst (λ (r : Option Refusal). Prints (4 ∷ 5 ∷ 9 ∷ []) (printed_of r lines) status old new) (sym none)
      (more_faults (4 ∷ 9 ∷ []) (4 ∷ 5 ∷ 9 ∷ []) (record { octets = lines; status = 0 }) status old new refl prints)

  -- it couldn't be opened
  pub refusal_printed : (lines : List ℕ) (error : JournalError) → IsOpenError image error → PrintsError error status old new
      → Prints (4 ∷ 5 ∷ 9 ∷ []) (printed_of (refusal image) lines) status old new
  refusal_printed lines (NotAStore place found expected) is prints =
      subst (λ (r : Option Refusal). Prints (4 ∷ 5 ∷ 9 ∷ []) (printed_of r lines) status old new) (sym is)
      (more_faults (4 ∷ 9 ∷ []) (4 ∷ 5 ∷ 9 ∷ []) (record { octets = no_store_line place; status = 8 }) status old new refl prints)
  refusal_printed lines (Full end limit) is prints = absurd is
  refusal_printed lines DiskFault is prints = nothing (4 ∷ 5 ∷ 9 ∷ []) (printed_of (refusal image) lines) status old new (inr (inl prints.0)) prints.1
  refusal_printed lines NoMemory is prints = nothing (4 ∷ 5 ∷ 9 ∷ []) (printed_of (refusal image) lines) status old new (inr (inr (inl prints.0))) prints.1

-- a text was printed
pub all_printed : (octets : List ℕ) (number status : ℕ) (old new : Option (List ℕ)) (text : List ℕ) → text ≡ octets → Prints (4 ∷ []) (record { octets = text; status = number }) status old new
    → Prints (4 ∷ 5 ∷ 9 ∷ []) (record { octets = octets; status = number }) status old new
all_printed octets number status old new text is prints =
    subst (λ (l : List ℕ). Prints (4 ∷ 5 ∷ 9 ∷ []) (record { octets = l; status = number }) status old new) is
    (more_faults (4 ∷ []) (4 ∷ 5 ∷ 9 ∷ []) (record { octets = text; status = number }) status old new refl prints)

-- the record that drops it would end within the limit of a store, or past it
pub dropped_within : (end : ℕ) → end ≤ STORE_LIMIT → dropping end ≡ record { octets = dropped_line; status = 0 }
dropped_within end within =
    let test : nat_lt STORE_LIMIT end ≡ false = grind (arith, nat_tests) in
    ap (λ (past : Bool). if past then (let full : Printed = record { octets = full_line end STORE_LIMIT; status = 12 } in full) else record { octets = dropped_line; status = 0 }) test

dropped_past : (end : ℕ) → STORE_LIMIT < end → dropping end ≡ record { octets = full_line end STORE_LIMIT; status = 12 }
dropped_past end past =
    let test : nat_lt STORE_LIMIT end ≡ true = grind (arith, nat_tests) in
    ap (λ (past : Bool). if past then (let full : Printed = record { octets = full_line end STORE_LIMIT; status = 12 } in full) else record { octets = dropped_line; status = 0 }) test

-- the commit failed
pub error_dropped : (end : ℕ) (error : JournalError) (status : ℕ) (old new : Option (List ℕ)) → IsDropError end error → PrintsError error status old new
    → Prints (4 ∷ 5 ∷ 9 ∷ []) (dropping end) status old new
error_dropped end (NotAStore place found expected) status old new is prints = absurd is
error_dropped end (Full length bound) status old new is prints =
    let told : full_line length bound ≡ full_line end STORE_LIMIT = (λ i. full_line (is.1 i) (is.2 i)) in
    subst (λ (printed : Printed). Prints (4 ∷ 5 ∷ 9 ∷ []) printed status old new) (sym (dropped_past end is.0))
    (subst (λ (octets : List ℕ). Prints (4 ∷ 5 ∷ 9 ∷ []) (record { octets = octets; status = 12 }) status old new) told
    (more_faults (4 ∷ 9 ∷ []) (4 ∷ 5 ∷ 9 ∷ []) (record { octets = full_line length bound; status = 12 }) status old new refl prints))
error_dropped end DiskFault status old new is prints = nothing (4 ∷ 5 ∷ 9 ∷ []) (dropping end) status old new (inr (inl prints.0)) prints.1
error_dropped end NoMemory status old new is prints = nothing (4 ∷ 5 ∷ 9 ∷ []) (dropping end) status old new (inr (inr (inl prints.0))) prints.1

-- by which statuses that is told, and what stays where the store is full
pub error_ends : (end : ℕ) (error : JournalError) (status : ℕ) (old new : Option (List ℕ)) → IsDropError end error → PrintsError error status old new
    → IsOneOf (0 ∷ 1 ∷ 4 ∷ 5 ∷ 9 ∷ 12 ∷ []) status
error_ends end (NotAStore place found expected) status old new is prints = absurd is
error_ends end (Full length bound) status old new is prints =
    among (12 ∷ 4 ∷ 9 ∷ []) (0 ∷ 1 ∷ 4 ∷ 5 ∷ 9 ∷ 12 ∷ []) status refl (status_of (4 ∷ 9 ∷ []) (record { octets = full_line length bound; status = 12 }) status old new prints)
error_ends end DiskFault status old new is prints = among (5 ∷ []) (0 ∷ 1 ∷ 4 ∷ 5 ∷ 9 ∷ 12 ∷ []) status refl (inl prints.0)
error_ends end NoMemory status old new is prints = among (9 ∷ []) (0 ∷ 1 ∷ 4 ∷ 5 ∷ 9 ∷ 12 ∷ []) status refl (inl prints.0)

pub error_keeps : {D : Type 0} (disk back : D) (end : ℕ) (error : JournalError) (status : ℕ) (old new : Option (List ℕ)) → IsDropError end error → KeepsWhereFull error disk back
    → PrintsError error status old new → IsOneOf (1 ∷ 12 ∷ []) status → back ≡ disk
error_keeps disk back end (NotAStore place found expected) status old new is keeps prints one = absurd is
error_keeps disk back end (Full length bound) status old new is keeps prints one = keeps
error_keeps disk back end DiskFault status old new is keeps prints one = absurd (apart (5 ∷ []) (1 ∷ 12 ∷ []) status refl (inl prints.0) one)
error_keeps disk back end NoMemory status old new is keeps prints one = absurd (apart (9 ∷ []) (1 ∷ 12 ∷ []) status refl (inl prints.0) one)

module _ (image : List ℕ) (kept : KeptEntry) (journal : JournalState) (tables : Tables) (status : ℕ) (old new : Option (List ℕ)) where
  pub opened_drop : refusal image ≡ None → Prints (4 ∷ 5 ∷ 9 ∷ []) (printed_by_drop (stands_in tables (drop_of kept)) (end_of_drop kept journal tables)) status old new
      → Prints (4 ∷ 5 ∷ 9 ∷ []) (printed_of_drop (refusal image) kept journal tables) status old new
  opened_drop none prints = subst (λ (r : Option Refusal). Prints (4 ∷ 5 ∷ 9 ∷ []) (printed_of_drop r kept journal tables) status old new) (sym none) prints

  pub refused_drop : (error : JournalError) → IsOpenError image error → PrintsError error status old new → Prints (4 ∷ 5 ∷ 9 ∷ []) (printed_of_drop (refusal image) kept journal tables) status old new
  refused_drop (NotAStore place found expected) is prints =
      subst (λ (r : Option Refusal). Prints (4 ∷ 5 ∷ 9 ∷ []) (printed_of_drop r kept journal tables) status old new) (sym is)
      (more_faults (4 ∷ 9 ∷ []) (4 ∷ 5 ∷ 9 ∷ []) (record { octets = no_store_line place; status = 8 }) status old new refl prints)
  refused_drop (Full end limit) is prints = absurd is
  refused_drop DiskFault is prints = nothing (4 ∷ 5 ∷ 9 ∷ []) (printed_of_drop (refusal image) kept journal tables) status old new (inr (inl prints.0)) prints.1
  refused_drop NoMemory is prints = nothing (4 ∷ 5 ∷ 9 ∷ []) (printed_of_drop (refusal image) kept journal tables) status old new (inr (inr (inl prints.0))) prints.1
