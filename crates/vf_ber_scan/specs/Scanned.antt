-- What the calls of a scan answer, by the reading of the octets so far.
use Rattle.std.specs.Prelude.{◌≡◌, ◌≢◌, ℕ, ◌<◌, List, ◌++◌, take, Option, Some, None}
use Rattle.vf_ber.specs.Reader.{reading}
use Rattle.vf_ber.specs.Reading.{Reading, Read, Short, Bad, Deep, Long}
use Rattle.vf_ber_scan.specs.declared.scan.Scan.{Scan}
use Rattle.vf_ber_scan.specs.Progress.{progress_of}
use Rattle.vf_ber_scan.specs.Tells.{tells}

-- how many octets the value takes that is read
abbrev pub length_read : Reading → Option ℕ
length_read (Read tree n) = Some n
length_read Short = None
length_read (Bad at) = None
length_read (Deep at) = None
length_read (Long at) = None

-- The scan has taken these octets: more are wanting, and of any that follow it tells what the reading of all comes to.
pub record HasTaken (scan : Scan) (octets : List ℕ) : Type 0 where
  pub short : reading octets ≡ Short
  pub ahead : (more : List ℕ) → progress_of (reading (octets ++ more)) ≡ tells scan more

-- with so many octets of a piece after the octets, and no fewer, none are wanting
pub record IsFirstEnd (octets piece : List ℕ) (n : ℕ) : Type 0 where
  pub ended : reading (octets ++ take n piece) ≢ Short
  pub before : (m : ℕ) → m < n → reading (octets ++ take m piece) ≡ Short

-- what is answered to a piece after the octets, and the scan then: either octets are wanting after all of them, or the
-- first end is within the piece
abbrev pub IsFed : List ℕ → List ℕ → Option ℕ → Scan → Type 0
IsFed octets piece None scan = HasTaken scan (octets ++ piece)
IsFed octets piece (Some n) scan = IsFirstEnd octets piece n
