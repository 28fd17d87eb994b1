-- What one end of an association has received and sent: the octets of the stream, the trace of its session connection, and
-- how receiving ended. The units of transport are those of the octets; what is sent doesn't change what octets tell.
use Rattle.std.specs.Prelude.{ℕ, Bool, true, false, List, []}
use Rattle.vf_session.specs.Trace.{Trace}
use Rattle.vf_session.specs.declared.units.TokenSide.{TokenSide}
use Rattle.vf_session.specs.declared.units.TokenSide.TheVariants.{Initiator, Responder}
use Rattle.vf_stack.specs.declared.ending.Ending.{Ending}
use Rattle.vf_stack.specs.declared.ending.Ending.TheVariants.{Open}
use Rattle.vf_tpkt.specs.declared.phase.Side.{Side}
use Rattle.vf_tpkt.specs.declared.phase.Side.TheVariants.{Calling, Called}

-- the units of session, and how receiving ended
pub record Exchange : Type 0 where
  pub trace : Trace
  pub ending : Ending

pub record Association : Type 0 where
  pub stream : List ℕ
  pub exchange : Exchange

abbrev pub beginning : Association
beginning = record { stream = []; exchange = record { trace = []; ending = Open } }

-- the end of the transport connection: the initiator calls
abbrev pub end_of : TokenSide → Side
end_of Initiator = Calling
end_of Responder = Called

-- nothing more is received
abbrev pub is_ended : Ending → Bool
is_ended Open = false
is_ended ending = true
