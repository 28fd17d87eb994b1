-- What octets come to, as the reading of a value goes on from a place in it. It reads what is left by the words of the
-- reading of all octets.
use Rattle.std.specs.Prelude.{◌≡◌, ℕ, zero, suc, ◌+◌, ◌-◌, Bool, true, false, ◌&&◌, nat_lt, List, [], ◌∷◌, length, drop, Option, Some, None, Ok, Err, if◌then◌else◌}
use Rattle.vf_ber.specs.declared.limits.TheConstants.{MOST_DEPTH}
use Rattle.vf_ber.specs.declared.fault.Fault.TheVariants as faults
use Rattle.vf_ber.specs.Reader.{Reads, digits_at, end_at, ended_at, parts_at, size_at, value_at}
use Rattle.vf_ber.specs.Steps.{less, second_fits}
use Rattle.vf_ber.specs.Reading.{bounded}
use Rattle.vf_ber_scan.specs.declared.frames.Frame.{Frame}
use Rattle.vf_ber_scan.specs.declared.frames.Frame.TheVariants.{Definite, Indefinite}
use Rattle.vf_ber_scan.specs.declared.place.Next.{Next}
use Rattle.vf_ber_scan.specs.declared.place.Next.TheVariants as nexts
use Rattle.vf_ber_scan.specs.declared.place.Place.{Place}
use Rattle.vf_ber_scan.specs.declared.place.Place.TheVariants.{Start, Second, Third, Length, Digits, Contents, End}
use Rattle.vf_ber_scan.specs.Frames.{depth_in, ended_in, less_in, room_in}
use Rattle.vf_ber_scan.specs.Places.{IsOpenAfter}
use Rattle.vf_ber_scan.specs.Progress.{Progress, Wanting, Whole, Faulty, ended}

-- by what is read first, or by what is read after it
abbrev pub then_progress : {X : Type 0} → Reads X → (X → List ℕ → Progress) → Progress
then_progress (Ok x) next = next x.0 x.1
then_progress (Err faults.Short) next = Wanting
then_progress (Err (faults.Bad left)) next = Faulty
then_progress (Err (faults.Deep left)) next = Faulty
then_progress (Err (faults.Long left)) next = Faulty
then_progress (Err faults.NoMemory) next = Wanting

-- in what is left of so many open values: where none is, the outermost value is whole
unfoldable pub left_progress : ℕ → List Frame → List ℕ → Progress
left_progress zero frames octets = Whole
left_progress (suc n) [] octets = Whole
left_progress (suc n) (Definite left ∷ frames) octets = then_progress (parts_at (value_at (MOST_DEPTH - suc n)) left left octets) (λ parts rest. left_progress n frames rest)
left_progress (suc n) (Indefinite room ∷ frames) octets =
    then_progress (ended_at (value_at (MOST_DEPTH - suc n)) (length octets) room octets)
    (λ parts rest. left_progress n (ended_in frames (less room (length octets - length rest - 2))) rest)

abbrev pub after : List Frame → List ℕ → Progress
after frames octets = left_progress (length frames) frames octets

-- where a value begins
abbrev pub value_progress : List Frame → List ℕ → Progress
value_progress frames octets =
    then_progress (value_at (depth_in frames) (room_in frames) octets) (λ tree rest. after (less_in frames (length octets - length rest)) rest)

-- after a value's identifier and length, which take so many octets
abbrev pub contents_progress : List Frame → ℕ → Bool → Option ℕ → List ℕ → Progress
contents_progress frames prefix constructed None octets = after (Indefinite (less (room_in frames) prefix) ∷ frames) octets
contents_progress frames prefix true (Some n) octets = after (Definite n ∷ less_in frames (prefix + n)) octets
contents_progress frames prefix false (Some n) octets = if nat_lt (length octets) n then Wanting else after (less_in frames (prefix + n)) (drop n octets)

-- after an identifier of so many octets
abbrev pub length_progress : List Frame → Bool → ℕ → List ℕ → Progress
length_progress frames constructed prefix octets =
    then_progress (size_at (depth_in frames) (room_in frames) prefix constructed octets)
    (λ size rest. contents_progress frames (prefix + length octets - length rest) constructed size rest)

abbrev pub third_progress : List Frame → Bool → List ℕ → Progress
third_progress frames constructed [] = Wanting
third_progress frames constructed (third ∷ octets) = if nat_lt third 128 then length_progress frames constructed 3 octets else Faulty

abbrev pub second_progress : List Frame → Bool → List ℕ → Progress
second_progress frames constructed [] = Wanting
second_progress frames constructed (second ∷ octets) =
    if nat_lt second 256 && second_fits bounded (room_in frames) second
    then (if nat_lt second 128 then length_progress frames constructed 2 octets else third_progress frames constructed octets)
    else Faulty

abbrev pub start_progress : List Frame → List ℕ → Progress
start_progress [] octets = value_progress [] octets
start_progress (frame ∷ frames) octets = after (frame ∷ frames) octets

abbrev pub progress_at : Place → List Frame → List ℕ → Progress
progress_at Start frames octets = start_progress frames octets
progress_at (Second constructed) frames octets = second_progress frames constructed octets
progress_at (Third constructed) frames octets = third_progress frames constructed octets
progress_at (Length constructed prefix) frames octets = length_progress frames constructed prefix octets
progress_at (Digits constructed prefix more high) frames octets =
    then_progress (digits_at (depth_in frames) (room_in frames) prefix constructed more high octets)
    (λ n rest. contents_progress frames prefix constructed (Some n) rest)
progress_at (Contents left) frames octets = if nat_lt (length octets) left then Wanting else after frames (drop left octets)
progress_at (End room) frames octets = then_progress (end_at octets) (λ parts rest. after (ended_in frames room) rest)

-- the same after an octet
abbrev pub goes_on : Next → List Frame → List ℕ → Progress
goes_on (nexts.At place) frames octets = progress_at place frames octets
goes_on (nexts.Ended whole) frames octets = ended whole

-- Whatever octets follow, the progress is that of the next place on.
pub record Leads (before : List ℕ → Progress) (next : Next) (frames : List Frame) : Type 0 where
  pub goes : (more : List ℕ) → before more ≡ goes_on next frames more
  pub is_open : IsOpenAfter next frames
