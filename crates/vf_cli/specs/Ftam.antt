-- What the program prints, by its words (profile), and what its call owes of it.
use Rattle.std.specs.Prelude.{◌≡◌, ◌⊎◌, ℕ, Bool, true, false, List, [], ◌∷◌, ◌++◌, Option, None, Some, Result, Ok, Err, codes}
use Rattle.vf_cli_dialogue.specs.Dialogue.{MeetsDialogue, dialogue}
use Rattle.vf_cli_printing.specs.Printed.{IsOneOf, Printed, Prints, line_feed}
use Rattle.vf_cli_generate.specs.Generating.{DoesGenerate, EndsGenerate}
use Rattle.vf_cli_replay.specs.Replayed.{EndsReplay, PrintsReplay}
use Rattle.vf_cli_script.specs.Scripts.{told_by}
use Rattle.vf_cli_script.specs.declared.script.Script.{Script}
use Rattle.vf_cli_serve.specs.Served.{EndsServe}
use Rattle.vf_cli_transact.specs.Tasks.{DoesTask, Ends, EndsTask}
use Rattle.vf_disk.specs.Disk.{LeavesOnly}
use Rattle.vf_journal.specs.Image.{Refusal, refusal}
use Rattle.vf_store.specs.Represented.{Represents, RepresentsEither}
use Rattle.vf_store_commands.specs.Dockets.{PrintsDockets, printed_by_dockets}
use Rattle.vf_store_commands.specs.Dropping.{Drops, EndsDrop, PrintsDrop, without}
use Rattle.vf_store_commands.specs.Listing.{EndsList, PrintsList}
use Rattle.vf_store_commands.specs.Making.{EndsInit, IsAsBefore, printed_by_init}
use Rattle.vf_store_commands.specs.declared.dropping.KeptEntry.{KeptEntry}
use Rattle.vf_tables.specs.declared.tables.Tables.{Tables}
use Rattle.vf_cli_words.specs.declared.command.Command.{Command}
use Rattle.vf_cli_words.specs.declared.command.Command.TheVariants.{Dialogue, InitStore, ListFiles, ListDockets, DropKept, Replay, Serve, Put, Get, Generate}
use Rattle.vf_cli_words.specs.declared.words.Drawn.{Drawn}
use Rattle.vf_transact.specs.declared.words.PlanWords.{PlanWords}

-- words outside the grammar, and they alone
abbrev pub usage_line : List ℕ
usage_line = codes "usage" ++ line_feed ∷ []

abbrev pub usage : Printed
usage = record { octets = usage_line; status = 2 }

-- WHAT IS PRINTED. Of each command: by the octets of the disk and what the source had left before the call, and by what the
-- sink had taken before and after it. Where the disk or the source don't tell what they have, only the statuses of the
-- command are owed. What `drop` prints goes by its words too, what `serve` prints by its links, what `put` and `get` print by their
-- dial, and what `generate` prints by the files that it makes: each of these stands in a definition of its own.
abbrev pub MeetsInit : ℕ → (disk left old new : Option (List ℕ)) → Type 0
MeetsInit status disk left old new =
    EndsInit status
    × ((octets lines : List ℕ) → disk ≡ Some octets → left ≡ Some lines → Prints (3 ∷ 4 ∷ 5 ∷ 9 ∷ []) (printed_by_init octets lines) status old new)

abbrev pub MeetsList : ℕ → (disk old new : Option (List ℕ)) → Type 0
MeetsList status disk old new = EndsList status × ((image : List ℕ) → disk ≡ Some image → PrintsList image status old new)

abbrev pub MeetsDockets : ℕ → (disk old new : Option (List ℕ)) → Type 0
MeetsDockets status disk old new = EndsList status × ((image : List ℕ) → disk ≡ Some image → PrintsDockets image status old new)

abbrev pub MeetsReplay : ℕ → (left old new : Option (List ℕ)) → Type 0
MeetsReplay status left old new = EndsReplay status × ((octets : List ℕ) → left ≡ Some octets → PrintsReplay octets status old new)

-- what a call with this command, or with words outside the grammar, owes of what it prints and of its status
abbrev pub MeetsCommand : Option Command → ℕ → (disk left old new : Option (List ℕ)) → Type 0
MeetsCommand None status disk left old new = Prints (4 ∷ []) usage status old new
MeetsCommand (Some Dialogue) status disk left old new = MeetsDialogue status left old new
MeetsCommand (Some InitStore) status disk left old new = MeetsInit status disk left old new
MeetsCommand (Some ListFiles) status disk left old new = MeetsList status disk old new
MeetsCommand (Some ListDockets) status disk left old new = MeetsDockets status disk old new
MeetsCommand (Some DropKept) status disk left old new = EndsDrop status
MeetsCommand (Some Replay) status disk left old new = MeetsReplay status left old new
MeetsCommand (Some Serve) status disk left old new = EndsServe status
MeetsCommand (Some Put) status disk left old new = EndsTask status
MeetsCommand (Some Get) status disk left old new = EndsTask status
MeetsCommand (Some Generate) status disk left old new = EndsGenerate status

-- A task of these words was done, or memory was wanting for the words, and nothing was done.
abbrev pub DoesNothing : {D : Type 0} → (before after : D) → Ends → ℕ → Type 0
DoesNothing before after ends status = (status ≡ 9) × (after ≡ before) × (ends.output' ≡ ends.output) × (ends.dial' ≡ ends.dial)

abbrev pub DoesWords : {D : Type 0} → (D → Option (List ℕ)) → (D → List ℕ → Type 0) → (D → ℕ) → (D → ℕ → List ℕ → Type 0) → PlanWords → (before after : D) → (disk_faults disk_faults' : ℕ) → Ends → ℕ → Type 0
DoesWords shown may_leave moment left_since words before after disk_faults disk_faults' ends status =
    DoesNothing before after ends status ⊎ DoesTask shown may_leave moment left_since words before after disk_faults disk_faults' ends status

-- What was kept was dropped, or it is told why not: what is printed, what then stands on the disk, what stays as it was, and what
-- a crash leaves meanwhile.
pub record DropsKept {D : Type 0} (shown : D → Option (List ℕ)) (may_leave : D → List ℕ → Type 0) (moment : D → ℕ) (left_since : D → ℕ → List ℕ → Type 0) (kept : KeptEntry) (before after : D) (status : ℕ) (taken taken' : Option (List ℕ)) : Type 0 where
  pub prints : (image : List ℕ) → shown before ≡ Some image → PrintsDrop kept image status taken taken'
  pub drops : (image : List ℕ) (tables : Tables) → shown before ≡ Some image → Represents image tables → status ≡ 0 → Drops shown may_leave after kept tables
  pub keeps : IsOneOf (1 ∷ 8 ∷ 12 ∷ []) status → IsAsBefore shown may_leave before after
  pub any_moment : (image : List ℕ) (tables : Tables) → shown before ≡ Some image → Represents image tables → ((image : List ℕ) → may_leave before image → Represents image tables)
      → LeavesOnly moment left_since before after (RepresentsEither tables (without kept tables))

-- Memory was wanting for the words, and nothing was done.
abbrev pub LacksWords : {D : Type 0} → (before after : D) → (status : ℕ) → (taken taken' : Option (List ℕ)) → Type 0
LacksWords before after status taken taken' = (status ≡ 9) × (after ≡ before) × (taken' ≡ taken)

abbrev pub DropsWords : {D : Type 0} → (D → Option (List ℕ)) → (D → List ℕ → Type 0) → (D → ℕ) → (D → ℕ → List ℕ → Type 0) → KeptEntry → (before after : D) → (status : ℕ) → (taken taken' : Option (List ℕ)) → Type 0
DropsWords shown may_leave moment left_since kept before after status taken taken' =
    LacksWords before after status taken taken' ⊎ DropsKept shown may_leave moment left_since kept before after status taken taken'

-- The files that words ask for were made, or it is told why not.
abbrev pub MakesDrawn : {D : Type 0} → (D → Option (List ℕ)) → (D → ℕ) → (D → List ℕ → Type 0) → (D → ℕ) → (D → ℕ → List ℕ → Type 0) → Drawn → (before after : D) → (disk_faults disk_faults' : ℕ) → ℕ → (taken taken' : Option (List ℕ)) → Type 0
MakesDrawn shown size may_leave moment left_since drawn before after disk_faults disk_faults' status taken taken' =
    DoesGenerate shown size may_leave moment left_since drawn.number drawn.count before after disk_faults disk_faults' status taken taken'

-- STATUSES. The statuses of a command where neither the disk nor the input or the output fails, for a disk of these octets and
-- for its input: the one that it comes to, and 9 where memory is wanting. Of `serve` the links may fail, and the store may come
-- to be full, as it may be for `drop`.
abbrev pub list_status : Option Refusal → ℕ
list_status None = 0
list_status (Some refused) = 8

abbrev pub drop_statuses : Option Refusal → List ℕ
drop_statuses None = 0 ∷ 1 ∷ 9 ∷ 12 ∷ []
drop_statuses (Some refused) = 8 ∷ 9 ∷ []

abbrev pub serve_statuses : Option Refusal → List ℕ
serve_statuses None = 0 ∷ 9 ∷ 10 ∷ 12 ∷ []
serve_statuses (Some refused) = 8 ∷ 9 ∷ []

abbrev pub task_statuses : Option Refusal → List ℕ
task_statuses None = 0 ∷ 1 ∷ 6 ∷ 7 ∷ 9 ∷ 12 ∷ 13 ∷ []
task_statuses (Some refused) = 8 ∷ 9 ∷ []

abbrev pub generate_statuses : Option Refusal → List ℕ
generate_statuses None = 0 ∷ 9 ∷ 12 ∷ []
generate_statuses (Some refused) = 8 ∷ 9 ∷ []

abbrev pub replay_status : Result Script ℕ → ℕ
replay_status (Ok script) = 0
replay_status (Err number) = 11

abbrev pub statuses_of : Option Command → (disk input : List ℕ) → List ℕ
statuses_of None disk input = 2 ∷ 9 ∷ []
statuses_of (Some Dialogue) disk input = (dialogue input).status ∷ 9 ∷ []
statuses_of (Some InitStore) disk input = (printed_by_init disk input).status ∷ 9 ∷ []
statuses_of (Some ListFiles) disk input = list_status (refusal disk) ∷ 9 ∷ []
statuses_of (Some ListDockets) disk input = (printed_by_dockets disk).status ∷ 9 ∷ []
statuses_of (Some DropKept) disk input = drop_statuses (refusal disk)
statuses_of (Some Replay) disk input = replay_status (told_by input) ∷ 9 ∷ []
statuses_of (Some Serve) disk input = serve_statuses (refusal disk)
statuses_of (Some Put) disk input = task_statuses (refusal disk)
statuses_of (Some Get) disk input = task_statuses (refusal disk)
statuses_of (Some Generate) disk input = generate_statuses (refusal disk)

-- whether a command uses its disk
abbrev pub uses_disk : Option Command → Bool
uses_disk None = false
uses_disk (Some Dialogue) = false
uses_disk (Some InitStore) = true
uses_disk (Some ListFiles) = true
uses_disk (Some ListDockets) = true
uses_disk (Some DropKept) = true
uses_disk (Some Replay) = false
uses_disk (Some Serve) = true
uses_disk (Some Put) = true
uses_disk (Some Get) = true
uses_disk (Some Generate) = true

-- whether it only looks at its disk, which it syncs
abbrev pub only_looks : Option Command → Bool
only_looks None = false
only_looks (Some Dialogue) = false
only_looks (Some InitStore) = false
only_looks (Some ListFiles) = true
only_looks (Some ListDockets) = true
only_looks (Some DropKept) = false
only_looks (Some Replay) = false
only_looks (Some Serve) = false
only_looks (Some Put) = false
only_looks (Some Get) = false
only_looks (Some Generate) = false

-- whether it uses its links
abbrev pub uses_links : Option Command → Bool
uses_links None = false
uses_links (Some Dialogue) = false
uses_links (Some InitStore) = false
uses_links (Some ListFiles) = false
uses_links (Some ListDockets) = false
uses_links (Some DropKept) = false
uses_links (Some Replay) = false
uses_links (Some Serve) = true
uses_links (Some Put) = false
uses_links (Some Get) = false
uses_links (Some Generate) = false

-- whether it uses its dial
abbrev pub uses_dial : Option Command → Bool
uses_dial None = false
uses_dial (Some Dialogue) = false
uses_dial (Some InitStore) = false
uses_dial (Some ListFiles) = false
uses_dial (Some ListDockets) = false
uses_dial (Some DropKept) = false
uses_dial (Some Replay) = false
uses_dial (Some Serve) = false
uses_dial (Some Put) = true
uses_dial (Some Get) = true
uses_dial (Some Generate) = false
