-- How dates and moments agree.
use Rattle.std.specs.Prelude.{◌≡◌, ℕ, ◌<◌, List, IsTrue}
use Rattle.vf_base.specs.Moment.{moment_text}
use Rattle.vf_pdu_fields.specs.Forms.{is_date}

-- a date is the text of a moment before the year 10000
abbrev pub DatesAreMoments : Type 0
DatesAreMoments = (text : List ℕ) → IsTrue (is_date text) → (seconds : ℕ) × (seconds < 253402300800) × (text ≡ moment_text seconds)

-- and the text of each such moment is a date
abbrev pub MomentsAreDates : Type 0
MomentsAreDates = (seconds : ℕ) → seconds < 253402300800 → IsTrue (is_date (moment_text seconds))
