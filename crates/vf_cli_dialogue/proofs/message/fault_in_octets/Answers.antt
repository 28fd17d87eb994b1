use Rattle.std.proofs.Common.{◌≡◌, ℕ, List, Err, refl, sym, subst}
use Rattle.vf_ber.specs.declared.errors.BerError.{BerError}
use Rattle.vf_ber.specs.declared.errors.BerError.TheVariants as ber
use Rattle.vf_ber.specs.Reader.{reading}
use Rattle.vf_ber.specs.Results.{IsAnswer}
use Rattle.vf_ber.specs.Reading.{Reading, Short, Bad, Deep, Long, IsReading}
use Rattle.vf_cli_dialogue.specs.Conversation.{IsFault}
use Rattle.vf_cli_dialogue.proofs.ReadingLemmas.{reading_is}
use Rattle.vf_cli_dialogue.proofs.message.fault_in_octets.Goals as goal

answered : (octets : List ℕ) (error other : BerError) → error ≡ other → IsAnswer (Err error) octets → IsAnswer (Err other) octets
answered octets error other same is = subst (λ (e : BerError). IsAnswer (Err e) octets) same is

fault_at : (octets : List ℕ) (r : Reading) (at : ℕ) → IsReading octets r → IsFault r at → IsFault (reading octets) at
fault_at octets r at is there = subst (λ (x : Reading). IsFault x at) (sym (reading_is octets r is)) there

pub returns-in-Short : goal.returns-in-Short
returns-in-Short c = λ octets answer. reading_is octets Short (answered octets c.args.error.now ber.Short c.in-Short.is answer)

pub returns-in-Bad : goal.returns-in-Bad
returns-in-Bad c = λ octets answer.
    fault_at octets (Bad c.in-Bad.at) c.in-Bad.at (answered octets c.args.error.now (ber.Bad c.in-Bad.at) c.in-Bad.is answer) refl

pub returns-in-Deep : goal.returns-in-Deep
returns-in-Deep c = λ octets answer.
    fault_at octets (Deep c.in-Deep.at) c.in-Deep.at (answered octets c.args.error.now (ber.Deep c.in-Deep.at) c.in-Deep.is answer) refl

pub returns-in-Long : goal.returns-in-Long
returns-in-Long c = λ octets answer.
    fault_at octets (Long c.in-Long.at) c.in-Long.at (answered octets c.args.error.now (ber.Long c.in-Long.at) c.in-Long.is answer) refl
