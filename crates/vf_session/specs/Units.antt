-- A unit, its parameters and its user data.
use Rattle.std.specs.Prelude.{ℕ, List, []}
use Rattle.vf_session.specs.declared.parameters.SayParameters.{SayParameters}
use Rattle.vf_session.specs.declared.parameters.SayParameters.TheVariants as head
use Rattle.vf_session.specs.declared.units.SessionSay.{SessionSay}
use Rattle.vf_session.specs.declared.units.SessionSay.TheVariants as say

abbrev pub parameters : SessionSay → SayParameters
parameters (say.Connect sync serial octets) = head.Connect sync serial
parameters (say.Accept sync serial octets) = head.Accept sync serial
parameters (say.Refuse octets) = head.Refuse
parameters (say.Finish octets) = head.Finish
parameters (say.Finished octets) = head.Finished
parameters (say.Data pass octets) = head.Data pass
parameters (say.Check serial) = head.Check serial
parameters (say.Acknowledge serial) = head.Acknowledge serial
parameters (say.Resync kind serial token octets) = head.Resync kind serial token
parameters (say.Resynced serial token octets) = head.Resynced serial token
parameters (say.Abort octets) = head.Abort
parameters (say.Token to) = head.Token to

-- none in a unit that has no place for any
abbrev pub user_data : SessionSay → List ℕ
user_data (say.Connect sync serial octets) = octets
user_data (say.Accept sync serial octets) = octets
user_data (say.Refuse octets) = octets
user_data (say.Finish octets) = octets
user_data (say.Finished octets) = octets
user_data (say.Data pass octets) = octets
user_data (say.Resync kind serial token octets) = octets
user_data (say.Resynced serial token octets) = octets
user_data (say.Abort octets) = octets
user_data unit = []

-- The unit with this user data; one without any where it has no place for them.
abbrev pub with_data : SayParameters → List ℕ → SessionSay
with_data (head.Connect sync serial) octets = say.Connect sync serial octets
with_data (head.Accept sync serial) octets = say.Accept sync serial octets
with_data head.Refuse octets = say.Refuse octets
with_data head.Finish octets = say.Finish octets
with_data head.Finished octets = say.Finished octets
with_data (head.Data pass) octets = say.Data pass octets
with_data (head.Check serial) octets = say.Check serial
with_data (head.Acknowledge serial) octets = say.Acknowledge serial
with_data (head.Resync kind serial token) octets = say.Resync kind serial token octets
with_data (head.Resynced serial token) octets = say.Resynced serial token octets
with_data head.Abort octets = say.Abort octets
with_data (head.Token to) octets = say.Token to
