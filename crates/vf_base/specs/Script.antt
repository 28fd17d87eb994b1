-- What links in memory hold (profile).
use Rattle.std.specs.Prelude.{◌≡◌, ℕ, Bool, true, false, nat_eq, List, [], map, if◌then◌else◌}
use Rattle.std.specs.List.{flat_map, IsDistinct}
use Rattle.vf_base.specs.Links.{Traffic, has_arrived, has_note}
use Rattle.vf_base.specs.Plans.{FailurePlan}
use Rattle.vf_base.specs.declared.events.ScriptEvent.{ScriptEvent}
use Rattle.vf_base.specs.declared.events.ScriptEvent.TheVariants as script
use Rattle.vf_base.specs.declared.events.Piece.{Piece}

-- the octets of a link among the pieces that were taken, in their order
abbrev pub octets_of : ℕ → List Piece → List ℕ
octets_of link pieces = flat_map (λ piece. if nat_eq link piece.link then piece.octets else []) pieces

pub record Script : Type 0 where
  pub events : List ScriptEvent
  pub left : List ScriptEvent
  pub pieces : List Piece
  pub shut : List (ℕ × ℕ)
  pub failed : List (ℕ × ℕ)
  pub last : ℕ
  pub plan : FailurePlan
  pub send_plan : FailurePlan
  pub faults : ℕ
  pub send_faults : ℕ

abbrev pub traffic_of : Script → Traffic
traffic_of links =
    record { events = links.events; left = links.left; taken = λ link. octets_of link links.pieces; shut = links.shut; failed = links.failed }

abbrev pub is_arrival : ScriptEvent → Bool
is_arrival (script.Arrived number) = true
is_arrival (script.Octets number moment octets) = false
is_arrival (script.Ended number) = false

abbrev pub link_of : ℕ × ℕ → ℕ
link_of note = note.0

-- each note is on another link that has arrived
abbrev pub OnceEach : List ScriptEvent → List (ℕ × ℕ) → Type 0
OnceEach events notes =
    IsDistinct nat_eq (map link_of notes) × ((link : ℕ) → has_note link notes ≡ true → has_arrived link events ≡ true)
