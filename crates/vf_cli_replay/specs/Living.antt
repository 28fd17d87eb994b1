-- What the lives of a script come to (profile): each is an incarnation of the responder, and begins with what the one before it
-- left and with no party.
use Rattle.std.specs.Prelude.{◌≡◌, ◌⊎◌, ℕ, List, [], ◌∷◌, ◌++◌, map, Option, None, Some}
use Rattle.std.specs.List.{flat_map}
use Rattle.vf_base.specs.declared.events.ScriptEvent.{ScriptEvent}
use Rattle.vf_cli_script.specs.declared.line.Stop.{Stop}
use Rattle.vf_cli_script.specs.declared.script.Life.{Life}
use Rattle.vf_filestore.specs.State.{State}
use Rattle.vf_filestore.specs.Tables.{tables_of}
use Rattle.vf_incarnations.specs.Incarnations.{Incarnation, Episode, Incarnates, left_by}
use Rattle.vf_responder.specs.Serving.{unheard}
use Rattle.vf_store.specs.Represented.{Represents}
use Rattle.vf_cli_calling.specs.Lines.{full_line, stopped_line}
use Rattle.vf_cli_replay.specs.Calls.{Outcome, Through, Stopped, Filled, left_after, outcome}
use Rattle.vf_cli_replay.specs.Running.{Course, Event, GoesAlong, IsWithin, Running, events_of}

-- as its store is opened
abbrev pub opened : State → Running
opened state = record { serving = unheard state; ends = [] }

-- A LIFE as it was lived: the incarnation, the lines that are printed of it, and what it left of the disk
pub record Lived : Type 0 where
  pub incarnation : Incarnation
  pub lines : List ℕ
  pub left : List ℕ

-- It was through: all events of its lines were answered. Of its end nothing is printed.
abbrev pub through : Course → (left : List ℕ) → Lived
through course left = record { incarnation = record { events = course.events; stop = None }; lines = course.lines; left = left }

abbrev pub IsThrough : Life → (image : List ℕ) → State → Lived → Type 0
IsThrough life image state lived =
    (course : Course)
    × (GoesAlong (opened state) (events_of life.lines) course × (outcome life image state course.events ≡ Through)
    × (lived ≡ through course (left_after life image state course.events)))

-- It ended within one event more, with so many of the answers to it, of which nothing was sent; a line tells how it ended. All before
-- that went through.
abbrev pub with_last : {running : Running} → {all : List Event} → IsWithin running all → List ScriptEvent
with_last within = within.course.events ++ within.brought ∷ []

abbrev pub ended_within : {running : Running} → {all : List Event} → IsWithin running all → (answers : ℕ) → (line left : List ℕ) → Lived
ended_within within answers line left = record {
  incarnation = record { events = within.course.events; stop = Some (record { event = within.brought; answers = answers }) };
  lines = within.course.lines ++ line;
  left = left;
}

abbrev pub EndsWithin : Outcome → (line : List ℕ) → Life → (image : List ℕ) → State → Lived → Type 0
EndsWithin how line life image state lived =
    (within : IsWithin (opened state) (events_of life.lines)) × (answers : ℕ)
    × ((outcome life image state within.course.events ≡ Through) × (outcome life image state (with_last within) ≡ how)
    × (lived ≡ ended_within within answers line (left_after life image state (with_last within))))

-- The first call of the disk opens the store: a stop there comes before any event.
abbrev pub stopped_at_once : (left : List ℕ) → Lived
stopped_at_once left = record { incarnation = record { events = []; stop = None }; lines = stopped_line; left = left }

abbrev pub StopsAtOnce : Life → (image : List ℕ) → State → Lived → Type 0
StopsAtOnce life image state lived = (outcome life image state [] ≡ Stopped) × (lived ≡ stopped_at_once (left_after life image state []))

-- HOW IT ENDS. With no stop it is through or full.
abbrev pub GoesOn : Life → (image : List ℕ) → State → Lived → Type 0
GoesOn life image state lived = IsThrough life image state lived ⊎ EndsWithin Filled full_line life image state lived

abbrev pub Stops : Life → (image : List ℕ) → State → Lived → Type 0
Stops life image state lived = StopsAtOnce life image state lived ⊎ EndsWithin Stopped stopped_line life image state lived

abbrev pub EndsBy : Option Stop → Life → (image : List ℕ) → State → Lived → Type 0
EndsBy None life image state lived = GoesOn life image state lived
EndsBy (Some stop) life image state lived = GoesOn life image state lived ⊎ Stops life image state lived

-- What it left represents the tables after so many of the answers as were made: by that their number is told.
pub record Lives (life : Life) (image : List ℕ) (state : State) (lived : Lived) : Type 0 where
  pub ends : EndsBy life.stop life image state lived
  pub represents : Represents lived.left (tables_of (left_by lived.incarnation state))

-- ONE AFTER ANOTHER
abbrev pub LiveOn : (image : List ℕ) → State → List Life → List Lived → Type 0
LiveOn image state [] all = all ≡ []
LiveOn image state (life ∷ lives) all =
    (first : Lived) × (others : List Lived)
    × (Lives life image state first × LiveOn first.left (left_by first.incarnation state) lives others × (all ≡ first ∷ others))

abbrev pub episodes_of : List Lived → List Episode
episodes_of all = map (λ (lived : Lived). Incarnates lived.incarnation) all

abbrev pub lines_of : List Lived → List ℕ
lines_of all = flat_map (λ (lived : Lived). lived.lines) all
