-- What serving links gives, where the links tell their traffic (profile).
use Rattle.std.specs.Prelude.{◌≡◌, ℕ, ◌<◌, ◌⊎◌, ◌+◌, ◌&&◌, Bool, true, false, nat_eq, List, [], ◌∷◌, ◌++◌, count_by, length, min, take, ◌-◌, Option, None, Some, Result, Ok, Err, if◌then◌else◌}
use Rattle.std.specs.List.{flat_map, list_any}
use Rattle.vf_base.specs.Faults.{HasRisen, last_count}
use Rattle.vf_base.specs.Links.{Traffic, has_note}
use Rattle.vf_base.specs.Script.{is_arrival}
use Rattle.vf_base.specs.declared.events.ScriptEvent.{ScriptEvent}
use Rattle.vf_base.specs.declared.events.ScriptEvent.TheVariants.{Ended}
use Rattle.vf_disk.specs.Disk.{LeavesShown}
use Rattle.vf_journal.specs.Image.{Refusal, refusal}
use Rattle.vf_journal.specs.declared.error.JournalError.{JournalError}
use Rattle.vf_journal.specs.declared.error.JournalError.TheVariants as errors
use Rattle.vf_store.specs.Represented.{Represents}
use Rattle.vf_store.specs.StoreState.{StoreState}
use Rattle.vf_tables.specs.declared.tables.Tables.{Tables}
use Rattle.vf_responder.specs.Along.{RepresentsAlong, RepresentsPast}
use Rattle.vf_responder.specs.Answers.{at_end, spoken_in}
use Rattle.vf_responder.specs.Full.{AtFull, IsFullAfter, IsStoreOf}
use Rattle.vf_responder.specs.Run.{run, tables_in}
use Rattle.vf_responder.specs.Serving.{Serving}
use Rattle.vf_responder.specs.declared.event.Reply.{Reply}
use Rattle.vf_responder.specs.declared.error.ServeError.{ServeError}
use Rattle.vf_responder.specs.declared.error.ServeError.TheVariants.{Respond, LinksFault, NoMemory}
use Rattle.vf_responder.specs.declared.serving.Served.{Served}

-- links before the first event
abbrev pub untold : List ScriptEvent → Traffic
untold left = record { events = []; left = left; taken = λ link. []; shut = []; failed = [] }

-- A send that fails ends its link: behind the event in whose replies it failed stands that end.
abbrev pub breaks_at : ℕ → List (ℕ × ℕ) → List ScriptEvent
breaks_at count [] = []
breaks_at count (note ∷ notes) = if nat_eq note.1 count then Ended note.0 ∷ breaks_at count notes else breaks_at count notes

abbrev pub lived_from : ℕ → List (ℕ × ℕ) → List ScriptEvent → List ScriptEvent
lived_from count failed [] = []
lived_from count failed (event ∷ events) = event ∷ (breaks_at (count + 1) failed ++ lived_from (count + 1) failed events)

-- these first events, and all that were handed out, with these ends
abbrev pub lived_with : List ScriptEvent → Traffic → List ScriptEvent
lived_with events traffic = lived_from 0 traffic.failed events

abbrev pub lived : Traffic → List ScriptEvent
lived traffic = lived_with traffic.events traffic

abbrev pub octets_by : ℕ → Reply → List ℕ
octets_by link spoken = if nat_eq spoken.link link then spoken.octets else []

abbrev pub octets_on : ℕ → List Reply → List ℕ
octets_on link said = flat_map (octets_by link) said

abbrev pub is_shut : ℕ → List Reply → Bool
is_shut link said = list_any (λ (spoken : Reply). spoken.shut && nat_eq spoken.link link) said

-- What the run speaks to these first events, and of it on a link.
abbrev pub spoken_to : Serving → List ScriptEvent → Traffic → List Reply
spoken_to serving events traffic = spoken_in (run (lived_with events traffic) serving)

abbrev pub octets_to : (link : ℕ) → Serving → List ScriptEvent → Traffic → List ℕ
octets_to link serving events traffic = octets_on link (spoken_to serving events traffic)

abbrev pub IsFront : List ℕ → List ℕ → Type 0
IsFront front octets = (rest : List ℕ) × (octets ≡ front ++ rest)

-- the link is noted with so many events
abbrev pub is_noted_at : (link count : ℕ) → List (ℕ × ℕ) → Bool
is_noted_at link count notes = list_any (λ (note : ℕ × ℕ). nat_eq link note.0 && nat_eq count note.1) notes

-- WHAT WAS SENT where these first events were answered. On a link on which no send failed all that was said was taken. On one on
-- which a send failed in the replies to the last of the first `count` events, all that was said to the events before that one was
-- taken, and then a front of what was said to it. And these links were shut.
pub record IsSent (serving : Serving) (events : List ScriptEvent) (traffic : Traffic) : Type 0 where
  pub whole : (link : ℕ) → has_note link traffic.failed ≡ false → traffic.taken link ≡ octets_to link serving events traffic
  pub before : (link count : ℕ) → is_noted_at link count traffic.failed ≡ true → IsFront (octets_to link serving (take (count - 1) events) traffic) (traffic.taken link)
  pub within : (link count : ℕ) → is_noted_at link count traffic.failed ≡ true → IsFront (traffic.taken link) (octets_to link serving (take count events) traffic)
  pub shut : (link : ℕ) → has_note link traffic.shut ≡ is_shut link (spoken_to serving events traffic)

abbrev pub but_last : List ScriptEvent → List ScriptEvent
but_last [] = []
but_last (event ∷ []) = []
but_last (event ∷ next ∷ events) = event ∷ but_last (next ∷ events)

-- the events whose replies were sent: all, or all but the one in which the responder couldn't go on
abbrev pub answered : {T : Type 0} → Result T ServeError → Traffic → List ScriptEvent
answered (Err (Respond error)) traffic = but_last traffic.events
answered result traffic = traffic.events

-- a crash leaves one image, which represents the tables
abbrev pub IsLeft : {D : Type 0} → (D → Option (List ℕ)) → (D → List ℕ → Type 0) → D → Tables → Type 0
IsLeft shown may_leave disk tables =
    (image : List ℕ) × (shown disk ≡ Some image) × LeavesShown (shown disk) (may_leave disk) × Represents image tables

abbrev pub counts_of : List ScriptEvent → Served
counts_of events = record { links = min (count_by is_arrival events) last_count; events = min (length events) last_count }

abbrev pub EndsWell : {D : Type 0} → (D → Option (List ℕ)) → (D → List ℕ → Type 0) → D → Result Served ServeError → Traffic → Tables → Type 0
EndsWell shown may_leave disk (Ok served) traffic tables = (served ≡ counts_of traffic.events) × (traffic.left ≡ []) × IsLeft shown may_leave disk tables
EndsWell shown may_leave disk (Err LinksFault) traffic tables = IsLeft shown may_leave disk tables
EndsWell shown may_leave disk (Err NoMemory) traffic tables = IsLeft shown may_leave disk tables
EndsWell shown may_leave disk (Err (Respond error)) traffic tables = Unit {0}

-- Serving from a state: what was sent is what the run speaks to the events that were answered. At a good end, which comes where
-- no event is left, and where the links gave no next event, the disk keeps the tables after all of them; where the responder
-- couldn't go on, what was answered stands, as follows.
abbrev pub Serves : {D : Type 0} → (D → Option (List ℕ)) → (D → List ℕ → Type 0) → Serving → D → Result Served ServeError → Option Traffic → Type 0
Serves shown may_leave serving disk result None = ⊥
Serves shown may_leave serving disk result (Some traffic) =
    IsSent serving (answered result traffic) traffic
    × EndsWell shown may_leave disk result traffic (tables_in (at_end serving (run (lived traffic) serving)))

-- WHAT WAS ANSWERED STANDS. However serving ends, each image that a crash may leave then represents the tables after some
-- number of the answers, no fewer than those whose replies were sent.
abbrev pub KeepsAnswered : {D : Type 0} → (D → List ℕ → Type 0) → Serving → D → Result Served ServeError → Option Traffic → Type 0
KeepsAnswered may_leave serving disk result None = ⊥
KeepsAnswered may_leave serving disk result (Some traffic) =
    (image : List ℕ) → may_leave disk image
    → RepresentsPast (length (run (lived_with (answered result traffic) traffic) serving)) serving (run (lived traffic) serving) image

-- the images meanwhile
abbrev pub RepresentsServed : Serving → Option Traffic → List ℕ → Type 0
RepresentsServed serving None image = ⊥
RepresentsServed serving (Some traffic) image = RepresentsAlong serving (run (lived traffic) serving) image

-- REFUSALS. That the disk has no store is told exactly where its image isn't one, unless the disk fails.
abbrev pub refused_in : Result Served ServeError → Option Refusal
refused_in (Err (Respond (errors.NotAStore place found expected))) = Some (record { place = place; found = found; expected = expected })
refused_in result = None

abbrev pub Refuses : (image : List ℕ) → Result Served ServeError → Type 0
Refuses image (Err (Respond errors.DiskFault)) = Unit {0}
Refuses image result = refused_in result ≡ refusal image

-- A GOOD END, also where the links tell nothing: the peers are through, or no event may come any more.
abbrev pub IsThrough : (turns : ℕ) (through : Bool) → Type 0
IsThrough turns through = (turns ≡ 0) ⊎ (through ≡ true)

-- A FULL STORE is told at a message of the last event, after the events before it with the ends of links on which a send failed: the
-- record of what the message changes would end at this place.
pub record IsFullIn {D : Type 0} (serving : Serving) (store : StoreState D) (traffic : Traffic) (place : ℕ) : Type 0 where
  pub before : List ScriptEvent
  pub event : ScriptEvent
  pub events : traffic.events ≡ before ++ event ∷ []
  pub full : IsFullAfter serving (lived_with before traffic) event store place

abbrev pub IsFullBy : {D : Type 0} → Serving → StoreState D → Option Traffic → (place : ℕ) → Type 0
IsFullBy serving store None place = ⊥
IsFullBy serving store (Some traffic) place = IsFullIn serving store traffic place

-- in the store of the disk that is left
abbrev pub IsFullOn : {D : Type 0} → (size : D → ℕ) → (limit : ℕ) → Serving → D → Option Traffic → (place : ℕ) → Type 0
IsFullOn {D} size limit serving disk told place = (store : StoreState D) × IsStoreOf size limit disk store × IsFullBy serving store told place

abbrev pub WhereServedFull : Result Served ServeError → (ℕ → Type 0) → Type 0
WhereServedFull (Ok served) holds = Unit {0}
WhereServedFull (Err (Respond error)) holds = AtFull error holds
WhereServedFull (Err LinksFault) holds = Unit {0}
WhereServedFull (Err NoMemory) holds = Unit {0}

-- CAUSES. No count rises without a fault of its kind, and none is told without one. That the disk is full comes by both numbers.
abbrev pub RespondCauses : (limit disk_before disk_after : ℕ) → JournalError → Type 0
RespondCauses limit before after errors.DiskFault = HasRisen before after
RespondCauses limit before after (errors.Full length bound) = (limit < length) × (bound ≡ limit) × (after ≡ before)
RespondCauses limit before after (errors.NotAStore at found expected) = after ≡ before
RespondCauses limit before after errors.NoMemory = after ≡ before

abbrev pub ServeCauses : (limit disk_before disk_after links_before links_after : ℕ) → Result Served ServeError → Type 0
ServeCauses limit disk_before disk_after links_before links_after (Ok served) = (disk_after ≡ disk_before) × (links_after ≡ links_before)
ServeCauses limit disk_before disk_after links_before links_after (Err (Respond error)) =
    RespondCauses limit disk_before disk_after error × (links_after ≡ links_before)
ServeCauses limit disk_before disk_after links_before links_after (Err LinksFault) = (disk_after ≡ disk_before) × HasRisen links_before links_after
ServeCauses limit disk_before disk_after links_before links_after (Err NoMemory) = (disk_after ≡ disk_before) × (links_after ≡ links_before)
