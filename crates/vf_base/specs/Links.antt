-- Links (profile): associations that arrive at one place, each with its number, and what comes and goes on them.
-- An object may tell its traffic, and then each call is exact; one over real sockets tells none, and then the
-- clauses on the traffic are empty.
use Rattle.std.specs.Prelude.{◌≡◌, ℕ, ◌<◌, ◌≤◌, ◌⊎◌, Bool, true, false, not, ◌&&◌, nat_eq, nat_lt, nat_le, List, [], ◌∷◌, ◌++◌, length, Option, None, Some, Result, Ok, Err, if◌then◌else◌}
use Rattle.std.specs.List.{list_any}
use Rattle.vf_base.specs.Faults.{HasRisen}
use Rattle.vf_base.specs.declared.errors.Failed.{Failed}
use Rattle.vf_base.specs.declared.events.LinkEvent.{LinkEvent}
use Rattle.vf_base.specs.declared.events.LinkEvent.TheVariants as given
use Rattle.vf_base.specs.declared.events.LinkFault.{LinkFault}
use Rattle.vf_base.specs.declared.events.LinkFault.TheVariants as fault
use Rattle.vf_base.specs.declared.events.ScriptEvent.{ScriptEvent}
use Rattle.vf_base.specs.declared.events.ScriptEvent.TheVariants as script

abbrev pub arrives : ℕ → ScriptEvent → Bool
arrives link (script.Arrived number) = nat_eq link number
arrives link (script.Octets number moment octets) = false
arrives link (script.Ended number) = false

abbrev pub has_arrived : ℕ → List ScriptEvent → Bool
has_arrived link events = list_any (arrives link) events

-- Notes on links: each with the number of events that were handed out before it.
abbrev pub has_note : ℕ → List (ℕ × ℕ) → Bool
has_note link notes = list_any (λ note. nat_eq link note.0) notes

-- a link that has arrived is noted at its first time alone
abbrev pub noted : ℕ → List ScriptEvent → List (ℕ × ℕ) → List (ℕ × ℕ)
noted link events notes =
    if has_arrived link events && not (has_note link notes) then notes ++ (link, length events) ∷ [] else notes

-- What is told: the events that were handed out, oldest first, and those that are left; the octets taken on each
-- link; the links that were shut; and those a send of which has failed, in the order of the first such sends.
pub record Traffic : Type 0 where
  pub events : List ScriptEvent
  pub left : List ScriptEvent
  pub taken : ℕ → List ℕ
  pub shut : List (ℕ × ℕ)
  pub failed : List (ℕ × ℕ)

-- the event of an answer, with the octets that came
abbrev pub event_of : LinkEvent → List ℕ → Option ScriptEvent
event_of (given.Arrived link) piece = Some (script.Arrived link)
event_of (given.Octets link moment) piece = Some (script.Octets link moment piece)
event_of (given.Ended link) piece = Some (script.Ended link)
event_of given.Done piece = None

-- the traffic after an event, or after the end
abbrev pub HandsOut : Traffic → Option Traffic → Option ScriptEvent → Type 0
HandsOut old new None = (old.left ≡ []) × (new ≡ Some old)
HandsOut old new (Some event) =
    (rest : List ScriptEvent) × (old.left ≡ event ∷ rest)
    × (new ≡ Some (record old { events = old.events ++ event ∷ []; left = rest }))

abbrev pub Nexts : Option Traffic → Option Traffic → List ℕ → Result LinkEvent LinkFault → Type 0
Nexts None new piece result = new ≡ None
Nexts (Some old) new piece (Ok event) = HandsOut old new (event_of event piece)
Nexts (Some old) new piece (Err fault) = new ≡ Some old

-- the piece has 1 to 65,536 octets where octets came, and none in every other case
abbrev pub FillsWith : List ℕ → LinkEvent → Type 0
FillsWith piece (given.Octets link moment) = (1 ≤ length piece) × (length piece ≤ 65536)
FillsWith piece (given.Arrived link) = piece ≡ []
FillsWith piece (given.Ended link) = piece ≡ []
FillsWith piece given.Done = piece ≡ []

abbrev pub Fills : List ℕ → Result LinkEvent LinkFault → Type 0
Fills piece (Ok event) = FillsWith piece event
Fills piece (Err fault) = piece ≡ []

-- the number of the last link that arrived, 0 before the first
abbrev pub RisesWith : ℕ → ℕ → LinkEvent → Type 0
RisesWith old new (given.Arrived link) = (old < link) × (new ≡ link)
RisesWith old new (given.Octets link moment) = new ≡ old
RisesWith old new (given.Ended link) = new ≡ old
RisesWith old new given.Done = new ≡ old

abbrev pub Rises : ℕ → ℕ → Result LinkEvent LinkFault → Type 0
Rises old new (Ok event) = RisesWith old new event
Rises old new (Err fault) = new ≡ old

-- Each event takes a turn. The end comes without a turn left, or where the peers are through.
abbrev pub TurnsWith : ℕ → ℕ → Bool → LinkEvent → Type 0
TurnsWith old new through (given.Arrived link) = new < old
TurnsWith old new through (given.Octets link moment) = new < old
TurnsWith old new through (given.Ended link) = new < old
TurnsWith old new through given.Done = (new ≤ old) × ((old ≡ 0) ⊎ (through ≡ true))

abbrev pub Turns : ℕ → ℕ → Bool → Result LinkEvent LinkFault → Type 0
Turns old new through (Ok event) = TurnsWith old new through event
Turns old new through (Err fault) = new ≤ old

-- the count of faults rises where the call failed, and stays in every other case
abbrev pub Counts : ℕ → ℕ → Result LinkEvent LinkFault → Type 0
Counts old new (Ok event) = new ≡ old
Counts old new (Err fault.Failed) = HasRisen old new
Counts old new (Err fault.NoMemory) = new ≡ old

-- so many octets more were taken on a link
abbrev pub after_octets : ℕ → List ℕ → Traffic → Traffic
after_octets link octets traffic =
    record traffic { taken = λ number. if nat_eq number link then traffic.taken number ++ octets else traffic.taken number }

abbrev pub after_fault : ℕ → Traffic → Traffic
after_fault link traffic = record traffic { failed = noted link traffic.events traffic.failed }

-- A send that fails has taken a prefix of its octets.
abbrev pub Sends : Option Traffic → Option Traffic → ℕ → List ℕ → Result (Unit {0}) Failed → Type 0
Sends None new link octets result = new ≡ None
Sends (Some old) new link octets (Ok done) = new ≡ Some (after_octets link octets old)
Sends (Some old) new link octets (Err failed) =
    (prefix rest : List ℕ) × (octets ≡ prefix ++ rest) × (new ≡ Some (after_fault link (after_octets link prefix old)))

abbrev pub after_shut : ℕ → Traffic → Traffic
after_shut link traffic = record traffic { shut = noted link traffic.events traffic.shut }

abbrev pub Shuts : Option Traffic → Option Traffic → ℕ → Type 0
Shuts None new link = new ≡ None
Shuts (Some old) new link = new ≡ Some (after_shut link old)

-- events as `next` may hand them out, the last link that arrived being given
abbrev pub is_script : ℕ → List ScriptEvent → Bool
is_script last [] = true
is_script last (script.Arrived link ∷ events) = nat_lt last link && is_script link events
is_script last (script.Octets link moment octets ∷ events) =
    nat_le 1 (length octets) && nat_le (length octets) 65536 && is_script last events
is_script last (script.Ended link ∷ events) = is_script last events
