use Rattle.std.proofs.Common.{◌≡◌, List, ℕ, sym, subst}
use Rattle.vf_ber.specs.declared.fault.Fault.{Fault}
use Rattle.vf_ber.specs.declared.fault.Fault.TheVariants as faults
use Rattle.vf_ber.specs.declared.room.Room.TheVariants.{Within}
use Rattle.vf_ber.specs.Steps.{Failed, Values}
use Rattle.vf_ber.specs.Reading.{IsReading, Short}
use Rattle.vf_ber.proofs.Readings.{none_short, bad_reading, deep_reading, long_reading}
use Rattle.vf_ber.proofs.reader.read_of.Goals as goal

failed_on : (octets others : List ℕ) (fault other : Fault) → octets ≡ others → fault ≡ other → Failed (Values 32 (Within 1048576)) others fault → Failed (Values 32 (Within 1048576)) octets other
failed_on octets others fault other o e f =
    subst (λ (x : Fault). Failed (Values 32 (Within 1048576)) octets x) e (subst (λ (x : List ℕ). Failed (Values 32 (Within 1048576)) x fault) (sym o) f)

pub returns-in_default : goal.returns-in_default
returns-in_default c = subst (λ (o : List ℕ). IsReading o Short) (sym c.in_default.ensures.parts) none_short

pub returns-in-Err-Bad : goal.returns-in-Err-Bad
returns-in-Err-Bad c =
    let same : c.in-Err-Bad.field-0 ≡ faults.Bad c.in-Err-Bad.left = cc in
    (bad_reading c.args.octets.now c.in-Err-Bad.left (failed_on _ _ _ _ c.in-Some.ensures.parts same c.in-Err-Bad.ensures.failed)).2

pub returns-in-Err-Deep : goal.returns-in-Err-Deep
returns-in-Err-Deep c =
    let same : c.in-Err-Deep.field-0 ≡ faults.Deep c.in-Err-Deep.left = cc in
    (deep_reading c.args.octets.now c.in-Err-Deep.left (failed_on _ _ _ _ c.in-Some.ensures.parts same c.in-Err-Deep.ensures.failed)).2

pub returns-in-Err-Long : goal.returns-in-Err-Long
returns-in-Err-Long c =
    let same : c.in-Err-Long.field-0 ≡ faults.Long c.in-Err-Long.left = cc in
    (long_reading c.args.octets.now c.in-Err-Long.left (failed_on _ _ _ _ c.in-Some.ensures.parts same c.in-Err-Long.ensures.failed)).2
