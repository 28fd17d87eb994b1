-- What holds where a call went well.
use Rattle.std.proofs.Common.{Result, Ok, Err, OnOk, IfOk}
use Rattle.vf_base.specs.declared.errors.NoMemory.{NoMemory}

pub on-ok : (r : Result (Unit {0}) NoMemory) (P Q : Type 0) → OnOk r P → (P → Q) → OnOk r Q
on-ok (Ok done) P Q p f = f p
on-ok (Err wanting) P Q p f = tt

pub if-ok : {A : Type 0} (r : Result A NoMemory) (P Q : A → Type 0) → IfOk r P → ((a : A) → P a → Q a) → IfOk r Q
if-ok (Ok a) P Q p f = f a p
if-ok (Err wanting) P Q p f = tt
