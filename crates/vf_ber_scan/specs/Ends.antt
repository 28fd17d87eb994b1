-- How a value ends in a piece.
use Rattle.std.specs.Prelude.{◌≡◌, ℕ, List, ◌++◌, take, Option, Some, None}
use Rattle.vf_ber.specs.Reader.{reading}
use Rattle.vf_ber_scan.specs.declared.scan.End.{End}
use Rattle.vf_ber_scan.specs.declared.scan.Scan.{Scan}
use Rattle.vf_ber_scan.specs.Progress.{ended, progress_of}
use Rattle.vf_ber_scan.specs.Scanned.{HasTaken, IsFirstEnd}

-- at the first end, and whatever follows it the value is whole, or it is faulty
pub record IsEnd (octets piece : List ℕ) (end : End) : Type 0 where
  pub first : IsFirstEnd octets piece end.len
  pub ends : (more : List ℕ) → progress_of (reading ((octets ++ take end.len piece) ++ more)) ≡ ended end.whole

abbrev pub IsEnded : List ℕ → List ℕ → Option End → Scan → Type 0
IsEnded octets piece None scan = HasTaken scan (octets ++ piece)
IsEnded octets piece (Some end) scan = IsEnd octets piece end
