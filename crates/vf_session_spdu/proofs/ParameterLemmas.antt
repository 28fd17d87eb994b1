-- Parameters one after the other, wherever they stand.
use Rattle.std.proofs.Common.{◌≡◌, ℕ, ◌+◌, List, [], ◌∷◌, ◌++◌, length, Ok, refl, ap, ◌∙◌, append_assoc}
use Rattle.vf_session_spdu.specs.declared.spdu.Spdu.{Spdu}
use Rattle.vf_session_spdu.specs.Fields.{with_parts}
use Rattle.vf_session_spdu.specs.Numbers.{length_octets}
use Rattle.vf_session_spdu.specs.Parts.{Opening, parts_in, parts_by}
use Rattle.vf_session_spdu.specs.Spelling.{spelled}
use Rattle.vf_session_spdu.proofs.MeasureLemmas.{Indicates, length-written, parts-unit}
use Rattle.vf_session_spdu.proofs.PartLemmas.{with_parts-append}

abbrev pub TakesTo : Opening → List ℕ → Spdu → Spdu → Type 0
TakesTo opened octets spdu made = (place : ℕ) → with_parts spdu (parts_by opened place octets) ≡ Ok made

pub takes-none : (opened : Opening) (spdu : Spdu) → TakesTo opened [] spdu spdu
unfolding parts_in
takes-none opened spdu place = refl

pub takes-unit : (opened : Opening) (code : ℕ) (indicator value rest : List ℕ) (s s' s'' : Spdu) → Indicates (length value) indicator
    → ((at : ℕ) → with_parts s (opened at code value) ≡ Ok s') → TakesTo opened rest s' s'' → TakesTo opened (code ∷ ((indicator ++ value) ++ rest)) s s''
takes-unit opened code indicator value rest s s' s'' size first more place =
    let at = place + 1 + length indicator in
    ap (λ (o : List ℕ). with_parts s (parts_by opened place (code ∷ o))) (append_assoc indicator value rest)
    ∙ ap (with_parts s) (parts-unit opened place code indicator value rest size)
    ∙ with_parts-append s (opened at code value) (parts_by opened (at + length value) rest)
    ∙ rw (first at) (more (at + length value))

pub takes-spelled : (opened : Opening) (code : ℕ) (value rest : List ℕ) (s s' s'' : Spdu)
    → ((at : ℕ) → with_parts s (opened at code value) ≡ Ok s') → TakesTo opened rest s' s'' → TakesTo opened (spelled code value ++ rest) s s''
takes-spelled opened code value rest s s' s'' first more =
    takes-unit opened code (length_octets (length value)) value rest s s' s'' (length-written (length value)) first more
