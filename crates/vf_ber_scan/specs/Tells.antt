-- What a scan tells of any octets that follow those it has taken: what all of them come to. It keeps this as the place
-- in a value that they have come to and the values that are open around it, which no public clause speaks of.
use Rattle.std.specs.Prelude.{ℕ, List}
use Rattle.vf_ber_scan.specs.declared.scan.Scan.{Scan}
use Rattle.vf_ber_scan.specs.Continuation.{progress_at}
use Rattle.vf_ber_scan.specs.Progress.{Progress}

unfoldable pub tells : Scan → List ℕ → Progress
tells scan more = progress_at scan.place scan.frames more
