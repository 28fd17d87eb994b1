-- The parts of an SPDU one after the other, as a loop does.
use Rattle.std.proofs.Common.{◌≡◌, ℕ, zero, suc, ◌+◌, ◌≤◌, ◌<◌, Bool, true, false, cond, List, [], ◌∷◌, ◌++◌, length, take, drop, get_or, Option, Some, None, Result, Ok, Err, refl, ap, sym, subst, ◌∙◌, arith, length-drop, nat_lt}
use Rattle.vf_session_spdu.specs.declared.errors.SpduError.{SpduError}
use Rattle.vf_session_spdu.specs.declared.errors.SpduError.TheVariants.{Length}
use Rattle.vf_session_spdu.specs.declared.errors.SpduError.TheVariants as errors
use Rattle.vf_session_spdu.specs.declared.spdu.Spdu.{Spdu}
use Rattle.vf_session_spdu.specs.Fields.{◌>>=◌, Fails, with_part, with_parts}
use Rattle.vf_session_spdu.specs.Numbers.{length_at}
use Rattle.vf_session_spdu.specs.Parts.{Measured, short, whole, measured, measured_by, Part, Opening, parts_in, parts_by, parts_after}

pub bind_ok : {A : Type 0} (r : Result A SpduError) → (r >>= (λ x. Ok x)) ≡ r
bind_ok (Ok x) = refl
bind_ok (Err e) = refl

with_parts-along : (r : Result Spdu SpduError) (ps qs : List Part) → ((s : Spdu) → with_parts s (ps ++ qs) ≡ (with_parts s ps >>= λ spdu. with_parts spdu qs))
    → (r >>= λ spdu. with_parts spdu (ps ++ qs)) ≡ ((r >>= λ spdu. with_parts spdu ps) >>= λ spdu. with_parts spdu qs)
with_parts-along (Ok spdu) ps qs h = h spdu
with_parts-along (Err e) ps qs h = refl

pub with_parts-append : (spdu : Spdu) (ps qs : List Part) → with_parts spdu (ps ++ qs) ≡ (with_parts spdu ps >>= λ spdu. with_parts spdu qs)
with_parts-append spdu [] qs = refl
with_parts-append spdu (p ∷ ps) qs = with_parts-along (with_part spdu p) ps qs (λ s. with_parts-append s ps qs)

chosen-whole : (b : Bool) (spelled : ℕ) (value more : List ℕ) (s : ℕ) (v m : List ℕ) → cond b short (whole spelled value more) ≡ whole s v m → more ≡ m
chosen-whole true spelled value more s v m h = absurd cc
chosen-whole false spelled value more s v m h = cc

measured_by-shorter : (o : List ℕ) (r : Option (ℕ × ℕ)) (s : ℕ) (v m : List ℕ) → measured_by o r ≡ whole s v m → length m ≤ length o
measured_by-shorter o None s v m h = absurd cc
measured_by-shorter o (Some (spelled, count)) s v m h =
    let e = ap length (chosen-whole (nat_lt (length o) (spelled + count)) spelled (take count (drop spelled o)) (drop (spelled + count) o) s v m h) in
    omega (arith, length-drop (spelled + count) o)

pub measured-shorter : (o : List ℕ) (s : ℕ) (v m : List ℕ) → measured o ≡ whole s v m → length m ≤ length o
measured-shorter o s v m h = measured_by-shorter o (length_at o) s v m h

after-same : (opened : Opening) (f g : ℕ → List ℕ → List Part) (place code : ℕ) (x : Measured) →
    ((s : ℕ) (v m : List ℕ) → x ≡ whole s v m → (at : ℕ) → f at m ≡ g at m) → parts_after opened f place code x ≡ parts_after opened g place code x
after-same opened f g place code short h = refl
after-same opened f g place code (whole s v m) h = ap (λ (ps : List Part). opened (place + 1 + s) code v ++ ps) (h s v m refl (place + 1 + s + length v))

parts_in-enough : (opened : Opening) (n k place : ℕ) (octets : List ℕ) → length octets ≤ n → length octets ≤ k → parts_in opened n place octets ≡ parts_in opened k place octets
unfolding parts_in
parts_in-enough opened zero zero place octets a b = refl
parts_in-enough opened zero (suc k) place [] a b = refl
parts_in-enough opened zero (suc k) place (x ∷ octets) a b = absurd (omega arith)
parts_in-enough opened (suc n) zero place [] a b = refl
parts_in-enough opened (suc n) zero place (x ∷ octets) a b = absurd (omega arith)
parts_in-enough opened (suc n) (suc k) place [] a b = refl
parts_in-enough opened (suc n) (suc k) place (x ∷ octets) a b =
    after-same opened (parts_in opened n) (parts_in opened k) place x (measured octets)
    (λ s v m e at. let shorter = measured-shorter octets s v m e in parts_in-enough opened n k at m (omega arith) (omega arith))

pub parts-measured : (opened : Opening) (place code : ℕ) (octets : List ℕ) → parts_by opened place (code ∷ octets) ≡ parts_after opened (parts_by opened) place code (measured octets)
unfolding parts_in
parts-measured opened place code octets =
    after-same opened (parts_in opened (length octets)) (parts_by opened) place code (measured octets)
    (λ s v m e at. let shorter = measured-shorter octets s v m e in parts_in-enough opened (length octets) (length m) at m (omega arith) (omega arith))

-- what a loop over the parts has left: from the SPDU as it is now, the rest gives what the whole gave
pub record Left (opened : Opening) (place : ℕ) (octets : List ℕ) (spdu : Spdu) (at : ℕ) (rest : List ℕ) (now : Spdu) : Type 0 where
  pub same : with_parts now (parts_by opened at rest) ≡ with_parts spdu (parts_by opened place octets)
  pub within : at + length rest ≤ place + length octets
  pub kind : now.kind ≡ spdu.kind

split : (rest : List ℕ) → 0 < length rest → rest ≡ get_or (take 1 rest) 0 0 ∷ drop 1 rest
split [] h = absurd (omega arith)
split (x ∷ rest) h = refl

after-whole : (opened : Opening) (at code s : ℕ) (v m : List ℕ) (now then : Spdu) → with_parts now (opened (at + 1 + s) code v) ≡ Ok then →
    with_parts now (parts_after opened (parts_by opened) at code (whole s v m)) ≡ with_parts then (parts_by opened (at + 1 + s + length v) m)
after-whole opened at code s v m now then h =
    with_parts-append now (opened (at + 1 + s) code v) (parts_by opened (at + 1 + s + length v) m) ∙ rw h refl

-- one part more
pub left-goes_on : (opened : Opening) (place : ℕ) (octets : List ℕ) (spdu : Spdu) (at : ℕ) (rest : List ℕ) (now then : Spdu) (code s : ℕ) (after v m : List ℕ)
    → Left opened place octets spdu at rest now → rest ≡ code ∷ after → measured after ≡ whole s v m → s + (length v + length m) ≡ length after
    → with_parts now (opened (at + 1 + s) code v) ≡ Ok then → then.kind ≡ now.kind → Left opened place octets spdu (at + 1 + s + length v) m then
left-goes_on opened place octets spdu at rest now then code s after v m l r f n h k =
    let first : with_parts now (parts_by opened at rest) ≡ with_parts then (parts_by opened (at + 1 + s + length v) m) =
    ap (λ (o : List ℕ). with_parts now (parts_by opened at o)) r ∙ ap (with_parts now) (parts-measured opened at code after) ∙ ap (λ (x : Measured). with_parts now (parts_after opened (parts_by opened) at code x)) f ∙ after-whole opened at code s v m now then h in
    let long : length rest ≡ suc (length after) = ap length r in
    let within = l.within in
    record { same = sym first ∙ l.same; within = omega arith; kind = k ∙ l.kind }

after-fault : (opened : Opening) (at code s : ℕ) (v m : List ℕ) (now : Spdu) (e : SpduError) → with_parts now (opened (at + 1 + s) code v) ≡ Err e →
    with_parts now (parts_after opened (parts_by opened) at code (whole s v m)) ≡ Err e
after-fault opened at code s v m now e h =
    with_parts-append now (opened (at + 1 + s) code v) (parts_by opened (at + 1 + s + length v) m) ∙ rw h refl

-- a part is faulty
pub left-fault : (opened : Opening) (place : ℕ) (octets : List ℕ) (spdu : Spdu) (at : ℕ) (rest : List ℕ) (now : Spdu) (code s : ℕ) (after v m : List ℕ) (e : SpduError)
    → Left opened place octets spdu at rest now → rest ≡ code ∷ after → measured after ≡ whole s v m
    → with_parts now (opened (at + 1 + s) code v) ≡ Err e → with_parts spdu (parts_by opened place octets) ≡ Err e
left-fault opened place octets spdu at rest now code s after v m e l r f h =
    sym l.same ∙ ap (λ (o : List ℕ). with_parts now (parts_by opened at o)) r ∙ ap (with_parts now) (parts-measured opened at code after) ∙ ap (λ (x : Measured). with_parts now (parts_after opened (parts_by opened) at code x)) f ∙ after-fault opened at code s v m now e h

-- a length is cut off
pub left-cut : (opened : Opening) (place : ℕ) (octets : List ℕ) (spdu : Spdu) (at : ℕ) (rest : List ℕ) (now : Spdu) (code : ℕ) (after : List ℕ)
    → Left opened place octets spdu at rest now → rest ≡ code ∷ after → measured after ≡ short
    → with_parts spdu (parts_by opened place octets) ≡ Err (Length (at + 1))
left-cut opened place octets spdu at rest now code after l r f =
    sym l.same ∙ ap (λ (o : List ℕ). with_parts now (parts_by opened at o)) r ∙ ap (with_parts now) (parts-measured opened at code after) ∙ ap (λ (x : Measured). with_parts now (parts_after opened (parts_by opened) at code x)) f

pub left-end : (opened : Opening) (place : ℕ) (octets : List ℕ) (spdu : Spdu) (at : ℕ) (rest : List ℕ) (now : Spdu)
    → Left opened place octets spdu at rest now → length rest < 1 → with_parts spdu (parts_by opened place octets) ≡ Ok now
unfolding parts_in
left-end opened place octets spdu at [] now l h = sym l.same
left-end opened place octets spdu at (x ∷ rest) now l h = absurd (omega arith)

pub rest-split : (rest identifier after : List ℕ) → 0 < length rest → identifier ≡ take 1 rest → after ≡ drop 1 rest → rest ≡ get_or identifier 0 0 ∷ after
rest-split rest identifier after h i b = split rest h ∙ rw (i, b) refl

-- ---- with the fault that the code answers

pub fails-along : {A B : Type 0} (e : SpduError) (r : Result A SpduError) (s : Result B SpduError) → ((f : SpduError) → r ≡ Err f → s ≡ Err f) → Fails e r → Fails e s
fails-along (errors.Code at) r s h f = h (errors.Code at) f
fails-along (errors.Length at) r s h f = h (errors.Length at) f
fails-along (errors.Missing code) r s h f = h (errors.Missing code) f
fails-along (errors.Value code) r s h f = h (errors.Value code) f
fails-along errors.NoMemory r s h f = tt

pub left-fails : (opened : Opening) (place : ℕ) (octets : List ℕ) (spdu : Spdu) (at : ℕ) (rest : List ℕ) (now : Spdu) (code s : ℕ) (after v m : List ℕ) (e : SpduError)
    → Left opened place octets spdu at rest now → rest ≡ code ∷ after → measured after ≡ whole s v m
    → Fails e (with_parts now (opened (at + 1 + s) code v)) → Fails e (with_parts spdu (parts_by opened place octets))
left-fails opened place octets spdu at rest now code s after v m e l r f h =
    fails-along e (with_parts now (opened (at + 1 + s) code v)) (with_parts spdu (parts_by opened place octets))
    (λ d g. left-fault opened place octets spdu at rest now code s after v m d l r f g) h

pub left-cut_fails : (opened : Opening) (place : ℕ) (octets : List ℕ) (spdu : Spdu) (at : ℕ) (rest : List ℕ) (now : Spdu) (code : ℕ) (after : List ℕ) (e : SpduError)
    → Left opened place octets spdu at rest now → rest ≡ code ∷ after → measured after ≡ short → e ≡ Length (at + 1)
    → Fails e (with_parts spdu (parts_by opened place octets))
left-cut_fails opened place octets spdu at rest now code after e l r f h =
    let P : SpduError → Type 0 = λ e. Fails e (with_parts spdu (parts_by opened place octets)) in
    subst P (sym h) (left-cut opened place octets spdu at rest now code after l r f)

-- one parameter alone
pub with_parts-one : (spdu : Spdu) (part : Part) → with_parts spdu (part ∷ []) ≡ with_part spdu part
with_parts-one spdu part = bind_ok (with_part spdu part)
