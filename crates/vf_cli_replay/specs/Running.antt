-- What happens on the links of an incarnation by the lines of a script, and what is printed of it (profile).
use Rattle.std.specs.Prelude.{◌≡◌, ℕ, Bool, true, false, not, ◌&&◌, nat_eq, List, [], ◌∷◌, ◌++◌, Option, None, Some, if◌then◌else◌}
use Rattle.std.specs.Map.{lookup}
use Rattle.vf_base.specs.declared.events.ScriptEvent.{ScriptEvent}
use Rattle.vf_base.specs.declared.events.ScriptEvent.TheVariants as events
use Rattle.vf_cli_script.specs.declared.line.Act.{Act}
use Rattle.vf_cli_script.specs.declared.line.Act.TheVariants as acts
use Rattle.vf_cli_script.specs.declared.line.LinkKind.{LinkKind}
use Rattle.vf_cli_script.specs.declared.line.LinkKind.TheVariants.{Raw, Plain, Sync}
use Rattle.vf_cli_script.specs.declared.line.LinkLine.{LinkLine}
use Rattle.vf_responder.specs.Answers.{at_end, spoken_in}
use Rattle.vf_responder.specs.Run.{trail}
use Rattle.vf_responder.specs.Serving.{Serving}
use Rattle.vf_responder.specs.declared.event.Reply.{Reply}
use Rattle.vf_tpkt.specs.Tpdu.{packet, request}
use Rattle.vf_cli_calling.specs.Calling.{Calling, begun, hearing}
use Rattle.vf_cli_calling.specs.Lines.{octets_line, shut_line}
use Rattle.vf_cli_replay.specs.Saying.{SaysLine}

-- THE CALLING ENDS of an incarnation, by their links
abbrev pub Ends : Type 0
Ends = List (ℕ × Calling)

abbrev pub end_on : ℕ → Ends → Option Calling
end_on link ends = lookup (nat_eq link) ends

abbrev pub with_end : ℕ → Calling → Ends → Ends
with_end link caller ends = (link, caller) ∷ ends

-- WHAT IS SENT in answer to an event. Octets of neighbouring replies on a link, none of which but the last shuts it, are heard at
-- once.
abbrev pub goes_on : Reply → List Reply → Bool
goes_on reply [] = false
goes_on reply (next ∷ later) = not reply.shut && nat_eq next.link reply.link

abbrev pub behind : List ℕ → Reply → Reply
behind octets reply = record { link = reply.link; octets = octets ++ reply.octets; shut = reply.shut }

-- the replies behind octets that go on in the first of them
abbrev pub joined_behind : List ℕ → List Reply → List Reply
joined_behind octets [] = []
joined_behind octets (reply ∷ later) =
    if goes_on reply later then joined_behind (octets ++ reply.octets) later else behind octets reply ∷ joined_behind [] later

abbrev pub joined : List Reply → List Reply
joined replies = joined_behind [] replies

-- A calling end hears it; on a link without one the octets are told. Then the link may be shut.
pub record Printing : Type 0 where
  pub lines : List ℕ
  pub ends : Ends

abbrev pub shut_after : Bool → ℕ → List ℕ
shut_after true link = shut_line link
shut_after false link = []

abbrev pub heard_by : Option Calling → (link : ℕ) → List ℕ → Ends → Printing
heard_by None link octets ends = record { lines = octets_line link octets; ends = ends }
heard_by (Some caller) link octets ends =
    let heard = hearing link caller octets in record { lines = heard.lines; ends = with_end link heard.caller ends }

abbrev pub heard_on : Reply → Ends → Printing
heard_on reply ends =
    let heard = heard_by (end_on reply.link ends) reply.link reply.octets ends in
    record { lines = heard.lines ++ shut_after reply.shut reply.link; ends = heard.ends }

abbrev pub heard_all : List Reply → Ends → Printing
heard_all [] ends = record { lines = []; ends = ends }
heard_all (reply ∷ later) ends =
    let first = heard_on reply ends in
    let others = heard_all later first.ends in
    record { lines = first.lines ++ others.lines; ends = others.ends }

-- AN EVENT comes to the responder, and what it sends is heard.
pub record Running : Type 0 where
  pub serving : Serving
  pub ends : Ends

-- what came to the responder, the lines of what it sent, and how it stands then
pub record Course : Type 0 where
  pub events : List ScriptEvent
  pub lines : List ℕ
  pub after : Running

abbrev pub no_course : Running → Course
no_course running = record { events = []; lines = []; after = running }

abbrev pub then_on : Course → Course → Course
then_on first later = record { events = first.events ++ later.events; lines = first.lines ++ later.lines; after = later.after }

abbrev pub answered : Running → ScriptEvent → Course
answered running event =
    let answers = trail event running.serving in
    let heard = heard_all (joined (spoken_in answers)) running.ends in
    record { events = event ∷ []; lines = heard.lines; after = record { serving = at_end running.serving answers; ends = heard.ends } }

-- the moment of what a calling end says
abbrev pub moment_of : Act → ℕ
moment_of (acts.Octets moment octets) = moment
moment_of (acts.Said moment messages) = moment
moment_of (acts.Check moment) = moment
moment_of (acts.Acknowledge moment point) = moment
moment_of (acts.Restart moment point) = moment
moment_of (acts.Pass moment) = moment
moment_of (acts.Arrive kind) = 0
moment_of acts.End = 0

-- A LINE has events come one after another, each by the calling ends as they are then. The first octets of a calling end, the CR of
-- its transport, come at moment 0. A line on a link that hasn't arrived has none.
pub data Event : Type 0 where
  Comes : ScriptEvent → Event
  Begins : (link : ℕ) (sync : Bool) → Event
  Speaks : (link : ℕ) → Act → Event

abbrev pub arrival_of : ℕ → LinkKind → List Event
arrival_of link Raw = Comes (events.Arrived link) ∷ []
arrival_of link Plain = Comes (events.Arrived link) ∷ Begins link false ∷ []
arrival_of link Sync = Comes (events.Arrived link) ∷ Begins link true ∷ []

abbrev pub events_by : ℕ → Act → List Event
events_by link (acts.Arrive kind) = arrival_of link kind
events_by link (acts.Octets moment octets) = Comes (events.Octets link moment octets) ∷ []
events_by link acts.End = Comes (events.Ended link) ∷ []
events_by link (acts.Said moment messages) = Speaks link (acts.Said moment messages) ∷ []
events_by link (acts.Check moment) = Speaks link (acts.Check moment) ∷ []
events_by link (acts.Acknowledge moment point) = Speaks link (acts.Acknowledge moment point) ∷ []
events_by link (acts.Restart moment point) = Speaks link (acts.Restart moment point) ∷ []
events_by link (acts.Pass moment) = Speaks link (acts.Pass moment) ∷ []

-- all of those of lines
abbrev pub events_of : List LinkLine → List Event
events_of [] = []
events_of (line ∷ later) = events_by line.link line.act ++ events_of later

-- WHAT COMES to the responder of it, and the calling ends then
abbrev pub Spoken : Running → ℕ → Act → Option Calling → Running → Option ScriptEvent → Type 0
Spoken running link act None now brought = (now ≡ running) × (brought ≡ None)
Spoken running link act (Some caller) now brought =
    (octets : List ℕ) × (later : Calling) × (SaysLine caller act octets later × (now ≡ record running { ends = with_end link later running.ends })
    × (brought ≡ Some (events.Octets link (moment_of act) octets)))

abbrev pub Brings : Running → Event → Running → Option ScriptEvent → Type 0
Brings running (Comes event) now brought = (now ≡ running) × (brought ≡ Some event)
Brings running (Begins link sync) now brought =
    (now ≡ record running { ends = with_end link (begun sync) running.ends }) × (brought ≡ Some (events.Octets link 0 (packet request)))
Brings running (Speaks link act) now brought = Spoken running link act (end_on link running.ends) now brought

abbrev pub answered_if : Running → Option ScriptEvent → Course
answered_if running None = no_course running
answered_if running (Some event) = answered running event

abbrev pub Goes : Running → Event → Course → Type 0
Goes running event course = (now : Running) × (brought : Option ScriptEvent) × (Brings running event now brought × (course ≡ answered_if now brought))

-- so many events, all of which are answered
abbrev pub GoesAlong : Running → List Event → Course → Type 0
GoesAlong running [] course = course ≡ no_course running
GoesAlong running (event ∷ later) course =
    (first others : Course) × (Goes running event first × GoesAlong first.after later others × (course ≡ then_on first others))

-- ONE EVENT MORE, behind so many of these that were answered: it comes too.
pub record IsWithin (running : Running) (all : List Event) : Type 0 where
  pub before : List Event
  pub event : Event
  pub later : List Event
  pub all_are : all ≡ before ++ event ∷ later
  pub course : Course
  pub goes : GoesAlong running before course
  pub now : Running
  pub brought : ScriptEvent
  pub brings : Brings course.after event now (Some brought)
