-- What is known of a place by the values that are open around it.
use Rattle.std.specs.Prelude.{◌+◌, ◌^◌, ◌<◌, ◌≤◌, List, [], ◌∷◌, length}
use Rattle.std.specs.Coded.{×_prop, Unit-prop, le_prop}
use Rattle.vf_ber.specs.declared.limits.TheConstants.{MOST_DEPTH}
use Rattle.vf_ber.specs.Steps.{grown}
use Rattle.vf_ber_scan.specs.declared.frames.Frame.{Frame}
use Rattle.vf_ber_scan.specs.declared.frames.Frame.TheVariants.{Definite, Indefinite}
use Rattle.vf_ber_scan.specs.declared.place.Next.{Next}
use Rattle.vf_ber_scan.specs.declared.place.Next.TheVariants as nexts
use Rattle.vf_ber_scan.specs.declared.place.Place.{Place}
use Rattle.vf_ber_scan.specs.declared.place.Place.TheVariants.{Start, Second, Third, Length, Digits, Contents, End}

-- the innermost value isn't whole
abbrev pub IsGoing : List Frame → Type 0
IsGoing [] = Unit {0}
IsGoing (Definite left ∷ frames) = 0 < left
IsGoing (Indefinite room ∷ frames) = Unit {0}

abbrev pub IsOpen : Place → List Frame → Type 0
IsOpen Start frames = IsGoing frames
IsOpen (Second constructed) frames = length frames < MOST_DEPTH
IsOpen (Third constructed) frames = length frames < MOST_DEPTH
IsOpen (Length constructed prefix) frames = (length frames < MOST_DEPTH) × (prefix ≤ 3)
IsOpen (Digits constructed prefix more high) frames = (length frames < MOST_DEPTH) × (prefix ≤ 12) × (0 < more) × (grown more (high + 1) ≤ 2 ^ 64)
IsOpen (Contents left) frames = 0 < left
IsOpen (End room) frames = Unit {0}

abbrev pub IsOpenAfter : Next → List Frame → Type 0
IsOpenAfter (nexts.At place) frames = IsOpen place frames
IsOpenAfter (nexts.Ended whole) frames = Unit {0}

IsGoing-prop : (frames : List Frame) → IsProp (IsGoing frames)
IsGoing-prop [] = Unit-prop
IsGoing-prop (Definite left ∷ frames) = le_prop
IsGoing-prop (Indefinite room ∷ frames) = Unit-prop

pub IsOpen-prop : (place : Place) (frames : List Frame) → IsProp (IsOpen place frames)
IsOpen-prop Start frames = IsGoing-prop frames
IsOpen-prop (Second constructed) frames = le_prop
IsOpen-prop (Third constructed) frames = le_prop
IsOpen-prop (Length constructed prefix) frames = ×_prop le_prop le_prop
IsOpen-prop (Digits constructed prefix more high) frames = hlevel le_prop
IsOpen-prop (Contents left) frames = le_prop
IsOpen-prop (End room) frames = Unit-prop
