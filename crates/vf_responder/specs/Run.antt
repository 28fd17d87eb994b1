-- Runs of the responder over the events of its links (profile): links arrive, octets come on them, and they end.
use Rattle.std.specs.Prelude.{ℕ, List, [], ◌∷◌, ◌++◌, take, if◌then◌else◌}
use Rattle.vf_base.specs.declared.events.ScriptEvent.{ScriptEvent}
use Rattle.vf_base.specs.declared.events.ScriptEvent.TheVariants.{Arrived, Octets, Ended}
use Rattle.vf_filestore.specs.State.{party_of}
use Rattle.vf_tables.specs.declared.tables.Tables.{Tables}
use Rattle.vf_filestore.specs.Tables.{tables_of}
use Rattle.vf_responder.specs.Answers.{Answer, arrival, at_end, ended, octets_heard}
use Rattle.vf_responder.specs.Serving.{Serving, stands}

-- The answers to an event, the first of them first. A link that stands doesn't arrive again.
abbrev pub trail : ScriptEvent → Serving → List Answer
trail (Arrived link) serving = if stands link serving.filestore then [] else arrival link serving ∷ []
trail (Octets link moment octets) serving = octets_heard moment link serving octets
trail (Ended link) serving = ended serving (party_of link serving.filestore.parties)

-- those to events, one after another
abbrev pub run : List ScriptEvent → Serving → List Answer
run [] serving = []
run (event ∷ events) serving = let first = trail event serving in first ++ run events (at_end serving first)

-- the state after so many of the answers
abbrev pub after : ℕ → Serving → List Answer → Serving
after count serving answers = at_end serving (take count answers)

-- what a store keeps of it
abbrev pub tables_in : Serving → Tables
tables_in serving = tables_of serving.filestore
