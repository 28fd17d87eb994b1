-- How much user data there is room for beside the other parameters of an SPDU, as its length is computed: what the
-- session's functions promise to one another.
use Rattle.std.specs.Prelude.{ℕ, ◌+◌, ◌-◌, Bool, true, false, ◌&&◌, nat_le, Option, None, Some}
use Rattle.vf_session.specs.declared.parameters.SayParameters.{SayParameters}
use Rattle.vf_session.specs.declared.parameters.SayParameters.TheVariants as head
use Rattle.vf_session.specs.declared.state.SessionState.{SessionState}
use Rattle.vf_session.specs.declared.units.TokenSide.{TokenSide}
use Rattle.vf_session.specs.Sending.{allows}
use Rattle.vf_session_spdu.specs.Numbers.{digit_count}
use Rattle.vf_session_spdu.specs.declared.limits.TheConstants.{MOST_PARAMETER_OCTETS}

abbrev pub connect_size : Bool → ℕ → ℕ
connect_size true serial = 17 + digit_count serial
connect_size false serial = 12

abbrev pub token_size : Option TokenSide → ℕ
token_size None = 0
token_size (Some side) = 3

-- The octets of user data among the parameters, of so many in all; those of a DT stand after them.
abbrev pub carried : SayParameters → ℕ → ℕ
carried (head.Data pass) count = 0
carried (head.Check serial) count = 0
carried (head.Acknowledge serial) count = 0
carried (head.Token to) count = 0
carried unit count = count

abbrev pub room : SayParameters → ℕ
room (head.Connect sync serial) = MOST_PARAMETER_OCTETS - 4 - connect_size sync serial
room (head.Accept sync serial) = MOST_PARAMETER_OCTETS - 4 - connect_size sync serial
room head.Refuse = MOST_PARAMETER_OCTETS - 5
room head.Finish = MOST_PARAMETER_OCTETS - 4
room head.Finished = MOST_PARAMETER_OCTETS - 4
room (head.Resync kind serial token) = MOST_PARAMETER_OCTETS - 9 - token_size token - digit_count serial
room (head.Resynced serial token) = MOST_PARAMETER_OCTETS - 6 - token_size token - digit_count serial
room head.Abort = MOST_PARAMETER_OCTETS - 7
room unit = 0

-- what may be sent, by the parameters of the unit and by how many octets of user data it has
abbrev pub may_by : TokenSide → Bool → SessionState → SayParameters → ℕ → Bool
may_by own offer s unit count = allows own offer s unit count && nat_le (carried unit count) (room unit)
