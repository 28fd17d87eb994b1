-- A command that no fault of the outside keeps from its end has its own status, or that of want of memory.
use Rattle.std.proofs.Common.{◌≡◌, inl, inr, ⊎_elim, ℕ, Bool, true, false, not, ◌&&◌, List, [], ◌∷◌, nat_eq, nat_lt, if◌then◌else◌, Option, Some, None, Result, Ok, Err, arith, refl, subst, sym, ◌∙◌}
use Rattle.std.proofs.lemmas.Bool.Decides.{nat_tests}
use Rattle.vf_attr.specs.declared.file.File.{File}
use Rattle.vf_cli.specs.Ftam.{drop_statuses, generate_statuses, list_status, replay_status, serve_statuses, task_statuses}
use Rattle.vf_cli_dialogue.specs.Dialogue.{MeetsDialogue, dialogue}
use Rattle.vf_cli_replay.specs.Replayed.{EndsReplay, PrintsReplay, PrintsTold}
use Rattle.vf_cli_script.specs.Scripts.{told_by}
use Rattle.vf_cli_script.specs.declared.script.Script.{Script}
use Rattle.vf_cli_generate.specs.Generating.{EndsGenerate, PrintsMade, RefusesGenerate}
use Rattle.vf_cli_printing.specs.Printed.{IsOneOf, Printed, Prints, bad_line}
use Rattle.vf_cli_serve.specs.Served.{EndsServe, PrintsServed}
use Rattle.vf_cli_transact.specs.Lines.{PrintsAnswer, PrintsReport, failure_status, in_use}
use Rattle.vf_cli_transact.specs.Tasks.{EndsTask}
use Rattle.vf_initiator.specs.declared.doing.TaskError.{TaskError}
use Rattle.vf_initiator.specs.declared.doing.TaskError.TheVariants.{Refused, PeerFault, PeerAbort, OutOfPlace, Budget}
use Rattle.vf_initiator.specs.declared.plan.Report.{Report}
use Rattle.vf_journal.specs.Image.{Refusal, refusal}
use Rattle.vf_journal.specs.JournalState.{JournalState}
use Rattle.vf_journal.specs.declared.error.JournalError.{JournalError}
use Rattle.vf_journal.specs.declared.error.JournalError.TheVariants as errors
use Rattle.vf_responder.specs.Served.{Refuses}
use Rattle.vf_responder.specs.declared.error.ServeError.{ServeError}
use Rattle.vf_responder.specs.declared.error.ServeError.TheVariants.{Respond, LinksFault, NoMemory}
use Rattle.vf_responder.specs.declared.serving.Served.{Served}
use Rattle.vf_store_commands.specs.ErrorLines.{full_line, no_store_line}
use Rattle.vf_store_commands.specs.Dropping.{EndsDrop, drop_of, dropped_line, end_of_drop, printed_by_drop, printed_of_drop, unknown_line}
use Rattle.vf_store_commands.specs.Listing.{EndsList, PrintsOpened, file_lines}
use Rattle.vf_store_commands.specs.Making.{EndsInit}
use Rattle.vf_store_commands.specs.declared.dropping.KeptEntry.{KeptEntry}
use Rattle.vf_store_commands.specs.declared.limits.TheConstants.{STORE_LIMIT}
use Rattle.vf_tables.specs.Fitting.{stands_in}
use Rattle.vf_tables.specs.declared.tables.Tables.{Tables}
use Rattle.vf_transact.specs.Transaction.{Answer, DiskByCause, IsRefused, RefusesBy}
use Rattle.vf_transact.specs.declared.error.TransactError.TheVariants as tasks
use Rattle.vf_transact.specs.declared.error.TransactError.TheVariants.{Task, Broken, InUse, InputFault, OutputFault, Store}

-- STATUSES that a command never has
abbrev pub is_apart : List ℕ → ℕ → Bool
is_apart [] number = true
is_apart (other ∷ others) number = not (nat_eq other number) && is_apart others number

left_is : (one other : Bool) → (one && other) ≡ true → one ≡ true
left_is true other both = refl
left_is false other both = both

right_is : (one other : Bool) → (one && other) ≡ true → other ≡ true
right_is true other both = both
right_is false other both = absurd cc

differs : (other number : ℕ) → not (nat_eq other number) ≡ true → other ≡ number → ⊥
differs other number apart same = grind (arith, nat_tests)

never : (others : List ℕ) (number status : ℕ) → is_apart others number ≡ true → IsOneOf others status → status ≡ number → ⊥
never [] number status apart is e = is
never (other ∷ others) number status apart is e =
    ⊎_elim (λ here. differs other number (left_is _ _ apart) (sym here ∙ e)) (λ later. never others number status (right_is _ _ apart) later e) is

pub dialogue_never : (number status : ℕ) → is_apart (0 ∷ 7 ∷ 11 ∷ 3 ∷ 4 ∷ 9 ∷ []) number ≡ true → IsOneOf (0 ∷ 7 ∷ 11 ∷ 3 ∷ 4 ∷ 9 ∷ []) status → status ≡ number → ⊥
dialogue_never = never (0 ∷ 7 ∷ 11 ∷ 3 ∷ 4 ∷ 9 ∷ [])

pub init_never : (number status : ℕ) → is_apart (0 ∷ 3 ∷ 4 ∷ 5 ∷ 8 ∷ 9 ∷ 11 ∷ 12 ∷ []) number ≡ true → EndsInit status → status ≡ number → ⊥
init_never = never (0 ∷ 3 ∷ 4 ∷ 5 ∷ 8 ∷ 9 ∷ 11 ∷ 12 ∷ [])

pub list_never : (number status : ℕ) → is_apart (0 ∷ 4 ∷ 5 ∷ 8 ∷ 9 ∷ 12 ∷ []) number ≡ true → EndsList status → status ≡ number → ⊥
list_never = never (0 ∷ 4 ∷ 5 ∷ 8 ∷ 9 ∷ 12 ∷ [])

pub drop_never : (number status : ℕ) → is_apart (0 ∷ 1 ∷ 4 ∷ 5 ∷ 8 ∷ 9 ∷ 12 ∷ []) number ≡ true → EndsDrop status → status ≡ number → ⊥
drop_never = never (0 ∷ 1 ∷ 4 ∷ 5 ∷ 8 ∷ 9 ∷ 12 ∷ [])

pub replay_never : (number status : ℕ) → is_apart (0 ∷ 3 ∷ 4 ∷ 9 ∷ 11 ∷ []) number ≡ true → EndsReplay status → status ≡ number → ⊥
replay_never = never (0 ∷ 3 ∷ 4 ∷ 9 ∷ 11 ∷ [])

pub serve_never : (number status : ℕ) → is_apart (0 ∷ 4 ∷ 5 ∷ 8 ∷ 9 ∷ 10 ∷ 12 ∷ []) number ≡ true → EndsServe status → status ≡ number → ⊥
serve_never = never (0 ∷ 4 ∷ 5 ∷ 8 ∷ 9 ∷ 10 ∷ 12 ∷ [])

pub task_never : (number status : ℕ) → is_apart (0 ∷ 1 ∷ 3 ∷ 4 ∷ 5 ∷ 6 ∷ 7 ∷ 8 ∷ 9 ∷ 12 ∷ 13 ∷ []) number ≡ true → EndsTask status → status ≡ number → ⊥
task_never = never (0 ∷ 1 ∷ 3 ∷ 4 ∷ 5 ∷ 6 ∷ 7 ∷ 8 ∷ 9 ∷ 12 ∷ 13 ∷ [])

pub generate_never : (number status : ℕ) → is_apart (0 ∷ 4 ∷ 5 ∷ 8 ∷ 9 ∷ 12 ∷ []) number ≡ true → EndsGenerate status → status ≡ number → ⊥
generate_never = never (0 ∷ 4 ∷ 5 ∷ 8 ∷ 9 ∷ 12 ∷ [])

pub usage_never : (number status : ℕ) → is_apart (2 ∷ 4 ∷ []) number ≡ true → IsOneOf (2 ∷ 4 ∷ []) status → status ≡ number → ⊥
usage_never = never (2 ∷ 4 ∷ [])

-- STATUSES where nothing of the outside failed
module _ (status : ℕ) (three : status ≡ 3 → ⊥) (four : status ≡ 4 → ⊥) (five : status ≡ 5 → ⊥) where
  nine : IsOneOf (3 ∷ 4 ∷ 5 ∷ 9 ∷ []) status → status ≡ 9
  nine is =
      ⊎_elim (λ e. absurd (three e))
      (λ rest. ⊎_elim (λ e. absurd (four e)) (λ rest. ⊎_elim (λ e. absurd (five e)) (λ rest. ⊎_elim (λ e. e) (λ none. absurd none) rest) rest) rest) is

  pub ends : (faults : List ℕ) (printed : Printed) (old new : Option (List ℕ)) → (IsOneOf faults status → IsOneOf (3 ∷ 4 ∷ 5 ∷ 9 ∷ []) status)
      → Prints faults printed status old new → IsOneOf (printed.status ∷ 9 ∷ []) status
  ends faults printed old new among prints = ⊎_elim (λ all. inl all.0) (λ some. inr (inl (nine (among some.0)))) prints

  only_four : IsOneOf (4 ∷ []) status → IsOneOf (3 ∷ 4 ∷ 5 ∷ 9 ∷ []) status
  only_four is = ⊎_elim (λ e. inr (inl e)) (λ none. absurd none) is

  without_five : IsOneOf (3 ∷ 4 ∷ 9 ∷ []) status → IsOneOf (3 ∷ 4 ∷ 5 ∷ 9 ∷ []) status
  without_five is = ⊎_elim (λ e. inl e) (λ rest. ⊎_elim (λ e. inr (inl e)) (λ last. inr (inr (inr last))) rest) is

  pub usage_ends : (printed : Printed) (old new : Option (List ℕ)) → Prints (4 ∷ []) printed status old new → IsOneOf (printed.status ∷ 9 ∷ []) status
  usage_ends printed old new prints = ends (4 ∷ []) printed old new only_four prints

  pub dialogue_ends : (left old new : Option (List ℕ)) (lines : List ℕ) → left ≡ Some lines → MeetsDialogue status left old new
      → IsOneOf ((dialogue lines).status ∷ 9 ∷ []) status
  dialogue_ends left old new lines is meets =
      ends (3 ∷ 4 ∷ 9 ∷ []) (dialogue lines) old new without_five (subst (λ (l : Option (List ℕ)). MeetsDialogue status l old new) is meets)

  told_ends : (told : Result Script ℕ) (old new : Option (List ℕ)) → PrintsTold told status old new → IsOneOf (replay_status told ∷ 9 ∷ []) status
  told_ends (Ok script) old new prints = ends (4 ∷ []) (record { octets = prints.0; status = 0 }) old new only_four prints.1.1
  told_ends (Err number) old new prints = ends (4 ∷ []) (record { octets = bad_line number; status = 11 }) old new only_four prints

  pub replay_ends : (octets : List ℕ) (old new : Option (List ℕ)) → PrintsReplay octets status old new → IsOneOf (replay_status (told_by octets) ∷ 9 ∷ []) status
  replay_ends octets old new prints =
      ⊎_elim (λ nothing. inr (⊎_elim (λ e. absurd (three e)) (λ rest. rest) nothing.0)) (λ told. told_ends (told_by octets) old new told) prints

  pub list_ends : (refused : Option Refusal) (files : List File) (old new : Option (List ℕ)) → PrintsOpened refused files status old new
      → IsOneOf (list_status refused ∷ 9 ∷ []) status
  list_ends (Some refused) files old new prints =
      ends (4 ∷ 5 ∷ 9 ∷ []) (record { octets = no_store_line refused.place; status = 8 }) old new (λ is. inr is) prints
  list_ends None files old new prints =
      ⊎_elim (λ outside. inr (inl (nine (inr (inr outside.0)))))
      (λ printed. ⊎_elim (λ memory. inr (inl memory.0))
      (λ some. ends (4 ∷ []) (record { octets = file_lines some.0; status = 0 }) old new only_four some.2) printed) prints

-- the statuses of `serve`, in which nothing but the links failed
module _ (status : ℕ) (four : status ≡ 4 → ⊥) (five : status ≡ 5 → ⊥) where
  or_nine : (printed : Printed) (old new : Option (List ℕ)) → Prints (4 ∷ 9 ∷ []) printed status old new → IsOneOf (printed.status ∷ 9 ∷ []) status
  or_nine printed old new prints =
      ⊎_elim (λ all. inl all.0) (λ some. inr (⊎_elim (λ e. absurd (four e)) (λ rest. rest) some.0)) prints

  none_refused : (image : List ℕ) → None ≡ refusal image → IsOneOf (serve_statuses None) status → IsOneOf (serve_statuses (refusal image)) status
  none_refused image is ends = subst (λ (refused : Option Refusal). IsOneOf (serve_statuses refused) status) is ends

  at_nine : IsOneOf (9 ∷ []) status → IsOneOf (serve_statuses None) status
  at_nine nine = inr (⊎_elim (λ e. inl e) (λ none. absurd none) nine)

  pub serve_ends : (image : List ℕ) (answer : Result Served ServeError) (old new : Option (List ℕ)) → PrintsServed answer status old new → Refuses image answer
      → IsOneOf (serve_statuses (refusal image)) status
  serve_ends image (Ok served) old new prints is = none_refused image is (⊎_elim (λ e. inl e) at_nine (or_nine _ old new prints))
  serve_ends image (Err LinksFault) old new prints is = none_refused image is (inr (inr (inl prints.0)))
  serve_ends image (Err NoMemory) old new prints is = none_refused image is (inr (inl prints.0))
  serve_ends image (Err (Respond errors.DiskFault)) old new prints is = absurd (five prints.0)
  serve_ends image (Err (Respond errors.NoMemory)) old new prints is = none_refused image is (inr (inl prints.0))
  serve_ends image (Err (Respond (errors.Full length bound))) old new prints is =
      none_refused image is (⊎_elim (λ e. inr (inr (inr (inl e)))) at_nine (or_nine _ old new prints))
  serve_ends image (Err (Respond (errors.NotAStore place found expected))) old new prints is =
      subst (λ (refused : Option Refusal). IsOneOf (serve_statuses refused) status) is (or_nine _ old new prints)

-- the statuses of `drop`
module _ (status : ℕ) (three : status ≡ 3 → ⊥) (four : status ≡ 4 → ⊥) (five : status ≡ 5 → ⊥) where
  no_memory : IsOneOf (9 ∷ []) status → IsOneOf (drop_statuses None) status
  no_memory nine = ⊎_elim (λ e. inr (inr (inl e))) (λ none. absurd none) nine

  -- by whether the record of the drop would end past the limit
  limited_ends : (past : Bool) (end : ℕ) (old new : Option (List ℕ))
      → Prints (4 ∷ 5 ∷ 9 ∷ []) (if past then (let full : Printed = record { octets = full_line end STORE_LIMIT; status = 12 } in full) else record { octets = dropped_line; status = 0 }) status old new
      → IsOneOf (drop_statuses None) status
  limited_ends true end old new prints =
      ⊎_elim (λ e. inr (inr (inr (inl e)))) no_memory (ends status three four five (4 ∷ 5 ∷ 9 ∷ []) (record { octets = full_line end STORE_LIMIT; status = 12 }) old new (λ is. inr is) prints)
  limited_ends false end old new prints =
      ⊎_elim (λ e. inl e) no_memory (ends status three four five (4 ∷ 5 ∷ 9 ∷ []) (record { octets = dropped_line; status = 0 }) old new (λ is. inr is) prints)

  dropped_ends : (stands : Bool) (end : ℕ) (old new : Option (List ℕ)) → Prints (4 ∷ 5 ∷ 9 ∷ []) (printed_by_drop stands end) status old new → IsOneOf (drop_statuses None) status
  dropped_ends false end old new prints =
      ⊎_elim (λ e. inr (inl e)) no_memory (ends status three four five (4 ∷ 5 ∷ 9 ∷ []) (record { octets = unknown_line; status = 1 }) old new (λ is. inr is) prints)
  dropped_ends true end old new prints = limited_ends (nat_lt STORE_LIMIT end) end old new prints

  pub drop_ends : (refused : Option Refusal) (kept : KeptEntry) (journal : JournalState) (tables : Tables) (old new : Option (List ℕ))
      → Prints (4 ∷ 5 ∷ 9 ∷ []) (printed_of_drop refused kept journal tables) status old new → IsOneOf (drop_statuses refused) status
  drop_ends (Some refused) kept journal tables old new prints =
      ends status three four five (4 ∷ 5 ∷ 9 ∷ []) (record { octets = no_store_line refused.place; status = 8 }) old new (λ is. inr is) prints
  drop_ends None kept journal tables old new prints = dropped_ends (stands_in tables (drop_of kept)) (end_of_drop kept journal tables) old new prints

-- the statuses of `generate`
module _ (status : ℕ) (four : status ≡ 4 → ⊥) (five : status ≡ 5 → ⊥) where
  then_nine : IsOneOf (9 ∷ []) status → IsOneOf (generate_statuses None) status
  then_nine nine = ⊎_elim (λ e. inr (inl e)) (λ none. absurd none) nine

  pub generate_ends : (image : List ℕ) (tables : Tables) (answer : Result (Unit {0}) JournalError) (old new : Option (List ℕ)) → PrintsMade tables answer status old new → RefusesGenerate image answer
      → IsOneOf (generate_statuses (refusal image)) status
  generate_ends image tables (Ok done) old new prints is =
      subst (λ (refused : Option Refusal). IsOneOf (generate_statuses refused) status) is (⊎_elim (λ e. inl e) then_nine (or_nine status four five _ old new prints))
  generate_ends image tables (Err errors.DiskFault) old new prints is = absurd (five prints.0)
  generate_ends image tables (Err errors.NoMemory) old new prints is = subst (λ (refused : Option Refusal). IsOneOf (generate_statuses refused) status) is (inr (inl prints.0))
  generate_ends image tables (Err (errors.Full length bound)) old new prints is =
      subst (λ (refused : Option Refusal). IsOneOf (generate_statuses refused) status) is (⊎_elim (λ e. inr (inr (inl e))) then_nine (or_nine status four five _ old new prints))
  generate_ends image tables (Err (errors.NotAStore place found expected)) old new prints is =
      subst (λ (refused : Option Refusal). IsOneOf (generate_statuses refused) status) is (or_nine status four five _ old new prints)

-- the statuses of a task
module _ (status : ℕ) (three : status ≡ 3 → ⊥) (four : status ≡ 4 → ⊥) (five : status ≡ 5 → ⊥) where
  or_nine_at : (wanted : ℕ) → (status ≡ wanted → IsOneOf (task_statuses None) status) → IsOneOf (wanted ∷ 9 ∷ []) status → IsOneOf (task_statuses None) status
  or_nine_at wanted at is = ⊎_elim at (λ nine. ⊎_elim (λ e. inr (inr (inr (inr (inl e))))) (λ none. absurd none) nine) is

  failed_at : (error : TaskError) → IsOneOf (failure_status error ∷ 9 ∷ []) status → IsOneOf (task_statuses None) status
  failed_at (Refused diagnostic) = or_nine_at 1 (λ e. inr (inl e))
  failed_at (PeerFault layer name at) = or_nine_at 7 (λ e. inr (inr (inr (inl e))))
  failed_at (PeerAbort number) = or_nine_at 7 (λ e. inr (inr (inr (inl e))))
  failed_at (OutOfPlace after) = or_nine_at 7 (λ e. inr (inr (inr (inl e))))
  failed_at Budget = or_nine_at 7 (λ e. inr (inr (inr (inl e))))

  reported_at : (put : Bool) (report : Report) (old new : Option (List ℕ)) → PrintsReport put report status old new → IsOneOf (task_statuses None) status
  reported_at true report old new prints = or_nine_at 0 (λ e. inl e) (or_nine status four five _ old new prints)
  reported_at false report old new prints = inl prints.0

  only_thirteen : (old new : Option (List ℕ)) → Prints (4 ∷ []) in_use status old new → IsOneOf (task_statuses None) status
  only_thirteen old new prints =
      ⊎_elim (λ all. inr (inr (inr (inr (inr (inr (inl all.0))))))) (λ some. ⊎_elim (λ e. absurd (four e)) (λ none. absurd none) some.0) prints

  -- of a disk that has a store
  stored_at : (put : Bool) (shown : Option (List ℕ)) (image : List ℕ) (limit before after : ℕ) (answer : Answer) (old new : Option (List ℕ)) → shown ≡ Some image → refusal image ≡ None
      → PrintsAnswer put answer status old new → DiskByCause shown limit before after answer → IsOneOf (task_statuses None) status
  stored_at put shown image limit before after (Ok report) old new shows good prints cause = reported_at put report old new prints
  stored_at put shown image limit before after (Err (Task error)) old new shows good prints cause = failed_at error (or_nine status four five _ old new prints)
  stored_at put shown image limit before after (Err (Broken connections)) old new shows good prints cause = or_nine_at 6 (λ e. inr (inr (inl e))) (or_nine status four five _ old new prints)
  stored_at put shown image limit before after (Err InUse) old new shows good prints cause = only_thirteen old new prints
  stored_at put shown image limit before after (Err InputFault) old new shows good prints cause = absurd (three prints.0)
  stored_at put shown image limit before after (Err OutputFault) old new shows good prints cause = absurd (four prints.0)
  stored_at put shown image limit before after (Err tasks.NoMemory) old new shows good prints cause = inr (inr (inr (inr (inl prints.0))))
  stored_at put shown image limit before after (Err (Store errors.DiskFault)) old new shows good prints cause = absurd (five prints.0)
  stored_at put shown image limit before after (Err (Store errors.NoMemory)) old new shows good prints cause = inr (inr (inr (inr (inl prints.0))))
  stored_at put shown image limit before after (Err (Store (errors.Full length bound))) old new shows good prints cause =
      or_nine_at 12 (λ e. inr (inr (inr (inr (inr (inl e)))))) (or_nine status four five _ old new prints)
  stored_at put shown image limit before after (Err (Store (errors.NotAStore place found expected))) old new shows good prints cause =
      absurd (let wrong : None ≡ Some (let refused : Refusal = record { place = place; found = found; expected = expected } in refused) = sym good ∙ cause.0 image shows in cc)

  by_refusal : (put : Bool) (shown : Option (List ℕ)) (image : List ℕ) (limit before after : ℕ) (answer : Answer) (old new : Option (List ℕ)) (refused : Option Refusal) → shown ≡ Some image
      → refusal image ≡ refused → PrintsAnswer put answer status old new → DiskByCause shown limit before after answer → RefusesBy refused answer → IsOneOf (task_statuses refused) status
  by_refusal put shown image limit before after answer old new None shows good prints cause refuses = stored_at put shown image limit before after answer old new shows good prints cause
  by_refusal put shown image limit before after answer old new (Some refused) shows good prints cause refuses =
      ⊎_elim (λ none. or_nine status four five _ old new (subst (λ (a : Answer). PrintsAnswer put a status old new) none prints))
      (λ fault. let failed : PrintsAnswer put (let answer : Answer = Err (Store errors.DiskFault) in answer) status old new = subst (λ (a : Answer). PrintsAnswer put a status old new) fault prints in absurd (five failed.0))
      refuses

  pub task_ends : (put : Bool) (shown : Option (List ℕ)) (image : List ℕ) (limit before after : ℕ) (answer : Answer) (old new : Option (List ℕ)) → shown ≡ Some image
      → PrintsAnswer put answer status old new → DiskByCause shown limit before after answer → IsRefused image answer → IsOneOf (task_statuses (refusal image)) status
  task_ends put shown image limit before after answer old new shows prints cause refuses =
      by_refusal put shown image limit before after answer old new (refusal image) shows refl prints cause refuses

-- want of memory is a status of each command
pub task_nine : (refused : Option Refusal) (status : ℕ) → status ≡ 9 → IsOneOf (task_statuses refused) status
task_nine None status is = inr (inr (inr (inr (inl is))))
task_nine (Some refused) status is = inr (inl is)

pub drop_nine : (refused : Option Refusal) (status : ℕ) → status ≡ 9 → IsOneOf (drop_statuses refused) status
drop_nine None status is = inr (inr (inl is))
drop_nine (Some refused) status is = inr (inl is)

pub generate_nine : (refused : Option Refusal) (status : ℕ) → status ≡ 9 → IsOneOf (generate_statuses refused) status
generate_nine None status is = inr (inl is)
generate_nine (Some refused) status is = inr (inl is)
