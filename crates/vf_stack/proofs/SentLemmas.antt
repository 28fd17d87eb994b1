-- The SPDUs of a unit that may be sent are read again.
use Rattle.std.proofs.Common.{◌≡◌, ℕ, true, false, List, [], ◌∷◌, ◌++◌, refl, ap, ◌∙◌, append-nil, Ok}
use Rattle.std.specs.List.{AllByRecursion}
use Rattle.vf_session.specs.Sending.{spdus}
use Rattle.vf_session.specs.declared.units.SessionSay.{SessionSay}
use Rattle.vf_session.specs.declared.units.SessionSay.TheVariants as say
use Rattle.vf_session.specs.declared.units.TokenSide.{TokenSide}
use Rattle.vf_session_spdu.specs.Reading.{reading}
use Rattle.vf_session_spdu.specs.Spelling.{IsWritten, spelling}
use Rattle.vf_session_spdu.specs.declared.spdu.Spdu.{Spdu}
use Rattle.vf_session_spdu.proofs.RoundTrip.{reads-alone, reads-after}
use Rattle.vf_stack.specs.Sending.{tsdu_of}

one : (spdu : Spdu) → reading (spelling spdu) ≡ Ok (spdu ∷ []) → reading (spelling spdu ++ []) ≡ Ok (spdu ∷ [])
one spdu e = ap reading (append-nil (spelling spdu)) ∙ e

two : (gt spdu : Spdu) → reading (spelling gt ++ spelling spdu) ≡ Ok (gt ∷ spdu ∷ []) → reading (spelling gt ++ (spelling spdu ++ [])) ≡ Ok (gt ∷ spdu ∷ [])
two gt spdu e = ap (λ (octets : List ℕ). reading (spelling gt ++ octets)) (append-nil (spelling spdu)) ∙ e

pub tsdu-read : (own : TokenSide) (unit : SessionSay) → AllByRecursion IsWritten (spdus own unit) → reading (tsdu_of own unit) ≡ Ok (spdus own unit)
tsdu-read own (say.Connect sync serial octets) w = one _ (reads-alone _ w.0 refl)
tsdu-read own (say.Accept sync serial octets) w = one _ (reads-alone _ w.0 refl)
tsdu-read own (say.Refuse octets) w = one _ (reads-alone _ w.0 refl)
tsdu-read own (say.Finish octets) w = one _ (reads-alone _ w.0 refl)
tsdu-read own (say.Finished octets) w = one _ (reads-alone _ w.0 refl)
tsdu-read own (say.Data true octets) w = two _ _ (reads-after _ _ w.0 refl w.1.0 refl)
tsdu-read own (say.Data false octets) w = two _ _ (reads-after _ _ w.0 refl w.1.0 refl)
tsdu-read own (say.Check serial) w = two _ _ (reads-after _ _ w.0 refl w.1.0 refl)
tsdu-read own (say.Acknowledge serial) w = two _ _ (reads-after _ _ w.0 refl w.1.0 refl)
tsdu-read own (say.Resync kind serial token octets) w = two _ _ (reads-after _ _ w.0 refl w.1.0 refl)
tsdu-read own (say.Resynced serial token octets) w = two _ _ (reads-after _ _ w.0 refl w.1.0 refl)
tsdu-read own (say.Abort octets) w = one _ (reads-alone _ w.0 refl)
tsdu-read own (say.Token to) w = one _ (reads-alone _ w.0 refl)
