-- How an incarnation ends before its last line, as the code has it.
use Rattle.std.specs.Prelude.{ℕ, List, Option, None, Some}
use Rattle.vf_cli_calling.specs.Lines.{full_line, stopped_line}
use Rattle.vf_cli_replay.specs.declared.halt.Halt.{Halt}
use Rattle.vf_cli_replay.specs.declared.halt.Halt.TheVariants as halts
use Rattle.vf_journal.specs.declared.error.JournalError.{JournalError}
use Rattle.vf_journal.specs.declared.error.JournalError.TheVariants.{NotAStore, Full, DiskFault, NoMemory}

-- by what the responder answers
abbrev pub halt_by : JournalError → Option Halt
halt_by DiskFault = Some halts.Stopped
halt_by (Full length limit) = Some halts.Full
halt_by NoMemory = None
halt_by (NotAStore place found expected) = None

abbrev pub halt_line : Halt → List ℕ
halt_line halts.Stopped = stopped_line
halt_line halts.Full = full_line
