-- What a line of a script has the calling end of its link say (profile).
use Rattle.std.specs.Prelude.{◌≡◌, ℕ, List, []}
use Rattle.vf_cli_calling.specs.Calling.{Calling, SaysAcknowledgement, SaysAll, SaysCheck, SaysPass, SaysRestart}
use Rattle.vf_cli_script.specs.declared.line.Act.{Act}
use Rattle.vf_cli_script.specs.declared.line.Act.TheVariants as acts

abbrev pub SaysLine : Calling → Act → List ℕ → Calling → Type 0
SaysLine caller (acts.Said moment messages) octets later = SaysAll caller messages octets later
SaysLine caller (acts.Check moment) octets later = SaysCheck caller octets later
SaysLine caller (acts.Acknowledge moment point) octets later = SaysAcknowledgement caller point octets later
SaysLine caller (acts.Restart moment point) octets later = SaysRestart caller point octets later
SaysLine caller (acts.Pass moment) octets later = SaysPass caller octets later
SaysLine caller act octets later = (octets ≡ []) × (later ≡ caller)
