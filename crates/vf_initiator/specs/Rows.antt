-- What an initiator says to each message, a line a row (profile): by what it waits for, the requests that it sends then and
-- how it stands after them. A message without a row is out of place.
use Rattle.std.specs.Prelude.{ℕ, pos, ◌+◌, ◌-◌, ◌*◌, Bool, true, false, ◌&&◌, not, bit_and, min, nat_eq, nat_le, nat_lt, List, [], ◌∷◌, ◌++◌, drop, Option, None, Some, is_some, if◌then◌else◌}
use Rattle.vf_base.specs.declared.diagnostic.Diagnostic.{Diagnostic}
use Rattle.vf_base.specs.declared.element.Element.{Element}
use Rattle.vf_initiator.specs.Asking.{abort, item, open_file, read, recover, select, terminate, write}
use Rattle.vf_initiator.specs.Assignments.{new_progress, values_of}
use Rattle.vf_initiator.specs.Gathering.{cut_to, has_room, kept_whole, with_value}
use Rattle.vf_initiator.specs.Values.{Saying, values}
use Rattle.vf_initiator.specs.declared.conduct.Conduct.{Conduct}
use Rattle.vf_initiator.specs.declared.conduct.Setting.{Setting}
use Rattle.vf_initiator.specs.declared.doing.Doing.{Doing}
use Rattle.vf_initiator.specs.declared.doing.Doing.TheVariants.{Ended, Failed}
use Rattle.vf_initiator.specs.declared.doing.TaskError.TheVariants as errors
use Rattle.vf_initiator.specs.declared.given.Given.{Given}
use Rattle.vf_initiator.specs.declared.heard.Heard.{Heard}
use Rattle.vf_initiator.specs.declared.heard.Heard.TheVariants as heard
use Rattle.vf_initiator.specs.declared.progress.Progress.{Progress}
use Rattle.vf_initiator.specs.declared.stage.Sent.{Sent}
use Rattle.vf_initiator.specs.declared.stage.Stage.{Stage}
use Rattle.vf_initiator.specs.declared.stage.Stage.TheVariants as stages
use Rattle.vf_pdu.specs.declared.pdu.Pdu.TheVariants.{CloseRequest, DeselectRequest, TransferEndRequest}
use Rattle.vf_stack.specs.declared.request.Request.{Request}
use Rattle.vf_stack.specs.declared.request.Request.TheVariants.{Acknowledge, Pass}
use Rattle.vf_tables.specs.declared.limits.TheConstants.{MOST_POINT, MOST_TRANSFERS}
use Rattle.vf_tables.specs.declared.task.Phase.{Phase}
use Rattle.vf_tables.specs.declared.task.Phase.TheVariants.{New, Open, Whole, Concluded}
use Rattle.vf_tables.specs.declared.task.Way.{Way}
use Rattle.vf_tables.specs.declared.task.Way.TheVariants.{Get, Put}

-- what is sent, and how the initiator then stands
pub record Step : Type 0 where
  pub said : List Request
  pub conduct : Conduct

abbrev pub step : List Request → Conduct → Step
step said c = record { said = said; conduct = c }

abbrev pub waits : Stage → Conduct → Conduct
waits stage c = record c { stage = stage }

abbrev pub progresses : Progress → Conduct → Conduct
progresses progress c = record c { progress = progress }

-- ---- the end of a task: nothing is said any more

abbrev pub ended : Doing → Conduct → Conduct
ended doing c = waits (stages.Over doing) c

abbrev pub refused_with : Diagnostic → Conduct → Conduct
refused_with diagnostic c = ended (Failed (errors.Refused diagnostic)) c

abbrev pub ended_so : Option Diagnostic → Conduct → Conduct
ended_so None c = ended Ended c
ended_so (Some diagnostic) c = refused_with diagnostic c

-- An outcome is kept as its number, 0 where there is none.
abbrev pub outcome_of : ℕ → Option Diagnostic
outcome_of number = if nat_eq number 0 then None else Some (record { number = number; first = pos 0; second = pos 0 })

abbrev pub number_of_outcome : Option Diagnostic → ℕ
number_of_outcome None = 0
number_of_outcome (Some diagnostic) = diagnostic.number

-- The transfer has an outcome, and the file is to be closed.
abbrev pub concludes : Conduct → Option Diagnostic → Step
concludes c outcome =
    step (item CloseRequest ∷ []) (waits (stages.Closing outcome) (progresses (record c.progress { outcome = number_of_outcome outcome; phase = Concluded }) c))

-- ---- a put: its values

-- As far as the window is free, those that aren't sent yet.
abbrev pub saying_on : Given → Setting → Conduct → Sent → Saying
saying_on given s c sent =
    values (record { checks = c.agreed.checks && s.token; every = given.assignment.every; window = c.agreed.window; point = c.progress.point }) s.serial sent (drop sent.values (values_of given))

abbrev pub sends_on : Given → Setting → Conduct → Sent → Step
sends_on given s c sent = let saying = saying_on given s c sent in step saying.said (waits (stages.Sending saying.sent) c)

abbrev pub sends_from : Given → Setting → Conduct → (point : ℕ) → Step
sends_from given s c point =
    sends_on given s c (record { start = point; serial = s.serial; offered = point; values = point * given.assignment.every; is_ended = false })

-- the checkpoint of a serial number, where it is sent and not acknowledged
abbrev pub is_open_check : Sent → (acknowledged point : ℕ) → Bool
is_open_check sent acknowledged point = nat_lt acknowledged point && nat_le point sent.offered

abbrev pub open_check : Sent → (acknowledged serial : ℕ) → Option ℕ
open_check sent acknowledged serial =
    let point = sent.start + (serial - sent.serial) + 1 in
    if nat_le sent.serial serial && is_open_check sent acknowledged point then Some point else None

abbrev pub acknowledges : Given → Setting → Conduct → Sent → Step
acknowledges given s c sent = if sent.is_ended then step [] c else sends_on given s c sent

abbrev pub acknowledged_at : Given → Setting → Conduct → Sent → Option ℕ → Option Step
acknowledged_at given s c sent None = None
acknowledged_at given s c sent (Some point) = Some (acknowledges given s (progresses (record c.progress { point = point }) c) sent)

abbrev pub acknowledged : Given → Setting → Conduct → Sent → (serial : ℕ) → Option Step
acknowledged given s c sent serial = acknowledged_at given s c sent (open_check sent c.progress.point serial)

abbrev pub sending : Given → Setting → Conduct → Sent → Heard → Option Step
sending given s c sent (heard.Acknowledged serial) = acknowledged given s c sent serial
sending given s c sent (heard.TransferEnded diagnostic) = if sent.is_ended then Some (concludes c diagnostic) else None
sending given s c sent message = None

-- ---- the transfer begins from its start

abbrev pub before : List Request → Step → Step
before said later = record { said = said ++ later.said; conduct = later.conduct }

abbrev pub transfers_by : Way → Given → Setting → Conduct → Step
transfers_by Put given s c = before (write given.assignment ∷ []) (sends_from given s c 0)
transfers_by Get given s c = step (read given.assignment ∷ []) (waits stages.Receiving c)

abbrev pub transfers : Given → Setting → Conduct → Step
transfers given s c = transfers_by given.assignment.way given s c

-- ---- F-SELECT, F-CREATE and F-OPEN

abbrev pub selects : Given → Conduct → Step
selects given c = step (select given.assignment ∷ []) (waits stages.Selecting c)

-- the answer to F-CREATE of a put, or to F-SELECT of a get: its diagnostic, if there is one
abbrev pub selection_in : Way → Heard → Option (Option Diagnostic)
selection_in Put (heard.Created diagnostic) = Some diagnostic
selection_in Get (heard.Selected diagnostic) = Some diagnostic
selection_in way message = None

-- The state is open from the moment at which F-OPEN is about to be sent.
abbrev pub opens : Given → Conduct → Step
opens given c = step (open_file given.assignment ∷ []) (waits stages.Opening (progresses (record c.progress { phase = Open }) c))

abbrev pub selected : Given → Conduct → Option (Option Diagnostic) → Option Step
selected given c None = None
selected given c (Some None) = Some (opens given c)
selected given c (Some (Some diagnostic)) = Some (step (terminate ∷ []) (refused_with diagnostic c))

abbrev pub selecting : Given → Conduct → Heard → Option Step
selecting given c message = selected given c (selection_in given.assignment.way message)

abbrev pub opening : Given → Setting → Conduct → Heard → Option Step
opening given s c (heard.Opened None) = Some (transfers given s c)
opening given s c (heard.Opened (Some diagnostic)) = Some (step (abort ∷ []) (refused_with diagnostic c))
opening given s c message = None

-- ---- F-INITIALIZE

-- A get passes the token to the other end, which may read on with it (profile).
abbrev pub passes : Way → Setting → List Request
passes Put s = []
passes Get s = if s.token then Pass ∷ [] else []

-- A task that was kept is recovered, and any other begins.
abbrev pub begins_with : Given → Setting → Conduct → (is_resumed : Bool) → Option ℕ → Step
begins_with given s c true (Some activity) =
    step (passes given.assignment.way s ++ recover activity c.progress ∷ []) (waits stages.Recovering c)
begins_with given s c is_resumed activity = selects given c

abbrev pub associated : Given → Setting → Conduct → Step
associated given s c = begins_with given s c given.assignment.is_resumed given.assignment.activity

-- Checks need an activity, and restart (64) or recovery (128).
abbrev pub agrees : Given → (units window : ℕ) → Conduct → Conduct
agrees given units window c =
    record c { agreed = record { checks = is_some given.assignment.activity && not (nat_eq (bit_and units 192) 0); window = window } }

abbrev pub associating : Given → Setting → Conduct → Heard → Option Step
associating given s c (heard.Accepted None units window) = Some (associated given s (agrees given units window c))
associating given s c (heard.Accepted (Some diagnostic) units window) = Some (step (abort ∷ []) (refused_with diagnostic c))
associating given s c (heard.Refused (Some diagnostic)) = Some (step [] (refused_with diagnostic c))
associating given s c message = None

-- ---- F-RECOVER

abbrev pub cuts : (pieces : ℕ) → Conduct → Conduct
cuts pieces c = record c { gathered = cut_to pieces c.gathered }

-- of a get: all its elements are kept
abbrev pub is_whole : Phase → Bool
is_whole New = false
is_whole Open = false
is_whole Whole = true
is_whole Concluded = true

abbrev pub is_concluded : Phase → Bool
is_concluded Concluded = true
is_concluded phase = false

-- The transfer that is kept goes on after a checkpoint that both ends keep.
abbrev pub goes_on : Way → Given → Setting → Conduct → (point : ℕ) → Step
goes_on Put given s c point = sends_from given s (progresses (record c.progress { point = point }) c) point
goes_on Get given s c point = step [] (waits stages.Receiving (cuts point (progresses (record c.progress { point = point; phase = Open }) c)))

abbrev pub going_on : Given → Setting → Conduct → (number point : ℕ) → Option Step
going_on given s c number point =
    if nat_eq number c.progress.number && nat_le point c.progress.point then Some (goes_on given.assignment.way given s c point) else None

-- A transfer of the number that is kept begins from its start.
abbrev pub restarted : Way → Progress → Progress
restarted Put progress = record progress { point = 0 }
restarted Get progress = record progress { point = 0; phase = Open }

abbrev pub begins_anew : Given → Setting → Conduct → Step
begins_anew given s c = transfers given s (cuts 0 (progresses (restarted given.assignment.way c.progress) c))

-- The transfer that is kept has ended at the other end, with this outcome. A get that hasn't all of its elements reads anew,
-- as a transfer of the next number.
abbrev pub has_ended : Way → Given → Setting → Conduct → (number last : ℕ) → Option Step
has_ended Put given s c number last = Some (concludes c (outcome_of last))
has_ended Get given s c number last =
    if is_whole c.progress.phase then Some (concludes c (outcome_of last))
    else if nat_le number MOST_TRANSFERS then Some (begins_anew given s (progresses (record c.progress { number = number }) c)) else None

-- No transfer is under way; the next one has this number, and the one before it this outcome.
abbrev pub standing : Given → Setting → Conduct → (number last : ℕ) → Option Step
standing given s c number last =
    if nat_eq number c.progress.number then Some (begins_anew given s c)
    else if nat_eq number (c.progress.number + 1) then has_ended given.assignment.way given s c number last else None

-- The other end keeps nothing of the activity (27): a task that is concluded ends, and any other begins as a new one.
abbrev pub forgotten : Given → Conduct → Step
forgotten given c =
    if is_concluded c.progress.phase then step (terminate ∷ []) (waits (stages.Terminating (outcome_of c.progress.outcome)) c)
    else selects given (cuts 0 (progresses new_progress c))

abbrev pub not_recovered : Given → Conduct → Diagnostic → Step
not_recovered given c diagnostic =
    if nat_eq diagnostic.number 27 then forgotten given c else step (terminate ∷ []) (refused_with diagnostic c)

abbrev pub recovered : Given → Setting → Conduct → (number point : ℕ) → (moving : Bool) → (last : ℕ) → Option Step
recovered given s c number point true last = going_on given s c number point
recovered given s c number point false last = standing given s c number last

abbrev pub recovering : Given → Setting → Conduct → Heard → Option Step
recovering given s c (heard.Recovered None number point moving last) = recovered given s c number point moving last
recovering given s c (heard.Recovered (Some diagnostic) number point moving last) = Some (not_recovered given c diagnostic)
recovering given s c message = None

-- ---- a get: values, checks and the end of the data

abbrev pub gathers : Conduct → Element → Conduct
gathers c element = record c { gathered = with_value c.gathered element }

abbrev pub keeps : Conduct → Conduct
keeps c = record c { gathered = kept_whole c.gathered }

-- What has come is kept, and the check is acknowledged.
abbrev pub checked : Conduct → (serial : ℕ) → Option Step
checked c serial =
    if nat_lt c.progress.point MOST_POINT
    then Some (step (Acknowledge serial ∷ []) (keeps (progresses (record c.progress { point = c.progress.point + 1 }) c))) else None

abbrev pub receiving : Conduct → Heard → Option Step
receiving c (heard.Value element) = if has_room c.gathered element then Some (step [] (gathers c element)) else None
receiving c (heard.Check serial) = checked c serial
receiving c (heard.DataEnded diagnostic) =
    Some (step (item TransferEndRequest ∷ []) (waits (stages.Received diagnostic) (keeps (progresses (record c.progress { phase = Whole }) c))))
receiving c message = None

-- The outcome is the diagnostic of the answer, else that of the end of the data.
abbrev pub or_else : Option Diagnostic → Option Diagnostic → Option Diagnostic
or_else (Some diagnostic) other = Some diagnostic
or_else None other = other

abbrev pub received : Conduct → Option Diagnostic → Heard → Option Step
received c data_end (heard.TransferEnded diagnostic) = Some (concludes c (or_else diagnostic data_end))
received c data_end message = None

-- ---- F-CLOSE, F-DESELECT and F-TERMINATE

abbrev pub closing : Conduct → Option Diagnostic → Heard → Option Step
closing c outcome (heard.Closed None) = Some (step (item DeselectRequest ∷ []) (waits (stages.Deselecting outcome) c))
closing c outcome (heard.Closed (Some diagnostic)) = Some (step (abort ∷ []) (refused_with diagnostic c))
closing c outcome message = None

abbrev pub deselecting : Conduct → Option Diagnostic → Heard → Option Step
deselecting c outcome (heard.Deselected None) = Some (step (terminate ∷ []) (waits (stages.Terminating outcome) c))
deselecting c outcome (heard.Deselected (Some diagnostic)) = Some (step (abort ∷ []) (refused_with diagnostic c))
deselecting c outcome message = None

abbrev pub terminating : Conduct → Option Diagnostic → Heard → Option Step
terminating c outcome heard.Terminated = Some (step [] (ended_so outcome c))
terminating c outcome message = None

-- ---- all rows

abbrev pub rows_of : Stage → Given → Setting → Conduct → Heard → Option Step
rows_of stages.Associating given s c message = associating given s c message
rows_of stages.Recovering given s c message = recovering given s c message
rows_of stages.Selecting given s c message = selecting given c message
rows_of stages.Opening given s c message = opening given s c message
rows_of (stages.Sending sent) given s c message = sending given s c sent message
rows_of stages.Receiving given s c message = receiving c message
rows_of (stages.Received diagnostic) given s c message = received c diagnostic message
rows_of (stages.Closing outcome) given s c message = closing c outcome message
rows_of (stages.Deselecting outcome) given s c message = deselecting c outcome message
rows_of (stages.Terminating outcome) given s c message = terminating c outcome message
rows_of (stages.Over how) given s c message = None

abbrev pub rows : Given → Setting → Conduct → Heard → Option Step
rows given s c message = rows_of c.stage given s c message

-- ---- a message

abbrev pub is_over : Stage → Bool
is_over (stages.Over how) = true
is_over stage = false

-- A message that is out of place fails the task, with the number of those before it that weren't.
abbrev pub out_of_place : Conduct → Conduct
out_of_place c = ended (Failed (errors.OutOfPlace c.good)) c

abbrev pub counted : Conduct → Conduct
counted c = record c { good = min (c.good + 1) 4294967295 }

abbrev pub placed : Conduct → Option Step → Step
placed c None = step [] (out_of_place c)
placed c (Some row) = step row.said (counted row.conduct)

-- A fault and an abort end it in each stage.
abbrev pub told : Given → Setting → Conduct → Heard → Step
told given s c (heard.Faulty layer name at) = step [] (ended (Failed (errors.PeerFault layer name at)) c)
told given s c (heard.Aborted number) = step [] (ended (Failed (errors.PeerAbort number)) c)
told given s c message = placed c (rows given s c message)

abbrev pub hears : Given → Setting → Conduct → Heard → Step
hears given s c message = if is_over c.stage then step [] c else told given s c message
