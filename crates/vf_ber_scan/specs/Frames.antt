-- The values that are open around a place, innermost first: how deep and how long a value may be there, and what is
-- left for the contents around it when it has ended.
use Rattle.std.specs.Prelude.{ℕ, zero, suc, ◌-◌, List, [], ◌∷◌, length, slice_index_or, Option, Some, None}
use Rattle.vf_base.specs.declared.limits.TheConstants.{MOST_VALUE_OCTETS}
use Rattle.vf_ber.specs.declared.limits.TheConstants.{MOST_DEPTH}
use Rattle.vf_ber.specs.declared.room.Room.{Room}
use Rattle.vf_ber.specs.declared.room.Room.TheVariants.{Exact, Within}
use Rattle.vf_ber.specs.Steps.{less}
use Rattle.vf_ber_scan.specs.declared.frames.Frame.{Frame}
use Rattle.vf_ber_scan.specs.declared.frames.Frame.TheVariants.{Definite, Indefinite}

-- the first frames of an array, the last of them first
abbrev pub innermost_first : ℕ → List Frame → List Frame
innermost_first zero held = []
innermost_first (suc n) held = slice_index_or held n (Definite 0) ∷ innermost_first n held

-- how deep a value may be
abbrev pub depth_in : List Frame → ℕ
depth_in frames = MOST_DEPTH - length frames

abbrev pub room_in : List Frame → Room
room_in [] = Within MOST_VALUE_OCTETS
room_in (Definite left ∷ frames) = Exact left
-- the end of contents takes two octets
room_in (Indefinite room ∷ frames) = less room 2

-- of an innermost one whose length is indefinite
abbrev pub end_room_in : List Frame → Option Room
end_room_in [] = None
end_room_in (Definite left ∷ frames) = None
end_room_in (Indefinite room ∷ frames) = Some room

-- after a value of so many octets
abbrev pub less_in : List Frame → ℕ → List Frame
less_in [] n = []
less_in (Definite left ∷ frames) n = Definite (left - n) ∷ frames
less_in (Indefinite room ∷ frames) n = Indefinite (less room n) ∷ frames

abbrev pub octets_in : Room → ℕ
octets_in (Exact most) = most
octets_in (Within most) = most

-- After a value of an indefinite length, in which so much room was left before its end of contents. Where the value
-- around it has an indefinite length too, two octets of its room were set aside for the end that is still to come.
abbrev pub ended_in : List Frame → Room → List Frame
ended_in [] room = []
ended_in (Definite left ∷ frames) room = Definite (octets_in room - 2) ∷ frames
ended_in (Indefinite around ∷ frames) room = Indefinite room ∷ frames
