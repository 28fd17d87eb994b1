-- A TSDU is read as SPDUs exactly where it holds them.
use Rattle.std.proofs.Common.{◌≡◌, ℕ, suc, ◌+◌, ◌<◌, Bool, true, false, cond, nat_eq, List, [], ◌∷◌, ◌++◌, length, Option, Some, None, Result, Ok, refl, ap, sym, subst, ◌∙◌, arith, append_assoc, get_or, Fits, w8}
use Rattle.std.proofs.lemmas.Bool.Decides.{nat_tests}
use Rattle.std.proofs.lemmas.List.{append-nil}
use Rattle.std.specs.List.{AllByRecursion}
use Rattle.vf_base.specs.declared.spdu_kind.SpduKind.{SpduKind}
use Rattle.vf_base.specs.declared.spdu_kind.SpduKind.TheVariants.{CN, AC, RF, FN, DN, AB, AA, DT, GT, MIP, MIA, RS, RA}
use Rattle.vf_session_spdu.specs.declared.errors.SpduError.{SpduError}
use Rattle.vf_session_spdu.specs.declared.spdu.Spdu.{Spdu}
use Rattle.vf_session_spdu.specs.declared.spdu.SpduFields.{SpduFields}
use Rattle.vf_session_spdu.specs.Fields.{Fails, bare, with_octets, with_parts, complete}
use Rattle.vf_session_spdu.specs.Grammar.{IsLength, AreConcatenated, AreOctets, Element, SpellsElement, StandsIn, Filled, filled_in, filled, IsOfForm, IsThere, fields_of, data_of, HasData, Spells, goes_after, Holds}
use Rattle.vf_session_spdu.specs.Kinds.{code_of, first_kind, second_kind}
use Rattle.vf_session_spdu.specs.Parts.{Measured, short, whole, measured, parts, outer}
use Rattle.vf_session_spdu.specs.Reading.{Followed, assembled, followed, is_dt, is_gt, one, one_by, nothing_after, second, second_by, follows, first_by, reading}
use Rattle.vf_session_spdu.specs.Table.{rows}
use Rattle.vf_session_spdu.proofs.AfterLemmas.{after-bare, says, complete-there, there-complete}
use Rattle.vf_session_spdu.proofs.MeasureLemmas.{indicates, measured-unit}
use Rattle.vf_session_spdu.proofs.GrammarLemmas.{all-split, is_measured, concatenated-sound, concatenated-full, element-sound, element-full}
use Rattle.vf_session_spdu.proofs.ReadableLemmas.{bound, is_ok}

-- ---- the parameters of an SPDU

pub record Assembled (kind : SpduKind) (value : List ℕ) (s : Spdu) : Type 0 where
  pub elements : List Element
  pub concatenated : AreConcatenated SpellsElement elements value
  pub standing : AllByRecursion (StandsIn kind) elements
  pub formed : AllByRecursion IsOfForm (filled kind elements)
  pub there : AllByRecursion (IsThere (filled kind elements)) (rows kind)
  pub spdu_is : s ≡ says kind (filled kind elements)

assembled-sound : (kind : SpduKind) (place : ℕ) (value : List ℕ) (s : Spdu) → AreOctets value → assembled kind place value ≡ Ok s → Assembled kind value s
assembled-sound kind place value s o h =
    let b = bound (with_parts (bare kind) (parts kind place value)) complete s h in
    let r = concatenated-sound kind SpellsElement (StandsIn kind) (filled_in kind) (outer kind) (element-sound kind) (length value) place value (bare kind) b.0 (omega arith) refl o b.1 in
    let e : b.0 ≡ says kind (filled kind r.all) = r.is_after ∙ after-bare kind (filled kind r.all) in
    let c = complete-there kind (filled kind r.all) s (sym (ap complete e) ∙ b.2) in
    record { elements = r.all; concatenated = r.concatenated; standing = r.standing; formed = r.formed; there = c.0; spdu_is = c.1 }

assembled-full : (kind : SpduKind) (place : ℕ) (value : List ℕ) (elements : List Element) → AreConcatenated SpellsElement elements value → AllByRecursion (StandsIn kind) elements
    → AllByRecursion IsOfForm (filled kind elements) → AllByRecursion (IsThere (filled kind elements)) (rows kind) → assembled kind place value ≡ Ok (says kind (filled kind elements))
assembled-full kind place value elements concatenated standing formed there =
    let t = concatenated-full kind SpellsElement (StandsIn kind) (filled_in kind) (outer kind) (element-full kind) elements value (bare kind) refl concatenated standing formed place in
    rw t (ap complete (after-bare kind (filled kind elements)) ∙ there-complete kind (filled kind elements) there)

-- ---- an SPDU that was read

dt-data : (kind : SpduKind) (xs : List Filled) (more : List ℕ) → is_dt kind ≡ true → HasData kind xs more more
dt-data CN xs more h = absurd cc
dt-data AC xs more h = absurd cc
dt-data RF xs more h = absurd cc
dt-data FN xs more h = absurd cc
dt-data DN xs more h = absurd cc
dt-data AB xs more h = absurd cc
dt-data AA xs more h = absurd cc
dt-data DT xs more h = refl
dt-data GT xs more h = absurd cc
dt-data MIP xs more h = absurd cc
dt-data MIA xs more h = absurd cc
dt-data RS xs more h = absurd cc
dt-data RA xs more h = absurd cc

other-data : (kind : SpduKind) (xs : List Filled) → is_dt kind ≡ false → HasData kind xs (data_of xs) []
other-data CN xs h = (refl, refl)
other-data AC xs h = (refl, refl)
other-data RF xs h = (refl, refl)
other-data FN xs h = (refl, refl)
other-data DN xs h = (refl, refl)
other-data AB xs h = (refl, refl)
other-data AA xs h = (refl, refl)
other-data DT xs h = absurd cc
other-data GT xs h = (refl, refl)
other-data MIP xs h = (refl, refl)
other-data MIA xs h = (refl, refl)
other-data RS xs h = (refl, refl)
other-data RA xs h = (refl, refl)

spells-made : (kind : SpduKind) (indicator value o more octets : List ℕ) (s : Spdu) (a : Assembled kind value s) → IsLength (length value) indicator
    → HasData kind (filled kind a.elements) o more → octets ≡ (code_of kind ∷ (indicator ++ value)) ++ more
    → Spells (record { kind = kind; fields = fields_of (filled kind a.elements); octets = o }) octets
spells-made kind indicator value o more octets s a size d e =
    record {
      elements = a.elements;
      parameters = value;
      concatenated = a.concatenated;
      stand = a.standing;
      of_form = a.formed;
      complete = a.there;
      fields_are = refl;
      head = code_of kind ∷ (indicator ++ value);
      after = more;
      is_unit = (indicator, size, refl);
      has_data = d;
      octets_are = e;
    }

-- what was read of these octets, after an identifier
pub record Found (kind : SpduKind) (octets : List ℕ) (b : Followed) : Type 0 where
  pub used : List ℕ
  pub octets_are : octets ≡ used ++ b.more
  pub kind_is : b.spdu.kind ≡ kind
  pub spells : Spells b.spdu (code_of kind ∷ used)

found-by : (kind : SpduKind) (indicator value more : List ℕ) (s : Spdu) (at : ℕ) (d : Bool) → is_dt kind ≡ d → Assembled kind value s → IsLength (length value) indicator
    → Found kind (indicator ++ (value ++ more)) (cond d (record { spdu = with_octets s more; place = at; more = [] }) (record { spdu = s; place = at; more = more }))
found-by kind indicator value more s at true e a size =
    let xs = filled kind a.elements in
    let P : Spdu → Type 0 = λ s. Found kind (indicator ++ (value ++ more)) (record { spdu = with_octets s more; place = at; more = [] }) in
    subst P (sym a.spdu_is) (record {
      used = indicator ++ (value ++ more);
      octets_are = sym (append-nil (indicator ++ (value ++ more)));
      kind_is = refl;
      spells = spells-made kind indicator value more more (code_of kind ∷ (indicator ++ (value ++ more))) s a size (dt-data kind xs more e) (ap (λ (o : List ℕ). code_of kind ∷ o) (sym (append_assoc indicator value more)));
    })
found-by kind indicator value more s at false e a size =
    let xs = filled kind a.elements in
    let P : Spdu → Type 0 = λ s. Found kind (indicator ++ (value ++ more)) (record { spdu = s; place = at; more = more }) in
    subst P (sym a.spdu_is) (record {
      used = indicator ++ value;
      octets_are = sym (append_assoc indicator value more);
      kind_is = refl;
      spells = spells-made kind indicator value (data_of xs) [] (code_of kind ∷ (indicator ++ value)) s a size (other-data kind xs e) (ap (λ (o : List ℕ). code_of kind ∷ o) (sym (append-nil (indicator ++ value))));
    })

one-by-sound : (kind : SpduKind) (place : ℕ) (octets : List ℕ) (x : Measured) (b : Followed) → AreOctets octets → measured octets ≡ x → one_by kind place x ≡ Ok b → Found kind octets b
one-by-sound kind place octets short b o e h = absurd cc
one-by-sound kind place octets (whole z v m) b o e h =
    let f = is_measured octets z v m o e in
    let A : List ℕ → Type 0 = λ o. AreOctets o in
    let parts = all-split (λ (n : ℕ). n < 256) f.indicator (v ++ m) (subst A f.octets_are o) in
    let values = all-split (λ (n : ℕ). n < 256) v m parts.1 in
    let s = bound (assembled kind (place + 1 + z) v) (λ spdu. Ok (followed kind spdu (place + 1 + z + length v) m)) b h in
    let a = assembled-sound kind (place + 1 + z) v s.0 values.0 s.1 in
    let B : Followed → Type 0 = λ b. Found kind octets b in
    let C : List ℕ → Type 0 = λ o. Found kind o (followed kind s.0 (place + 1 + z + length v) m) in
    subst B (is_ok (followed kind s.0 (place + 1 + z + length v) m) b s.2) (subst C (sym f.octets_are) (found-by kind f.indicator v m s.0 (place + 1 + z + length v) (is_dt kind) refl a f.is_length))

one-sound : (kind : SpduKind) (place : ℕ) (octets : List ℕ) (b : Followed) → AreOctets octets → one kind place octets ≡ Ok b → Found kind octets b
one-sound kind place octets b o h = one-by-sound kind place octets (measured octets) b o refl h

-- ---- the kinds

abbrev pub Begins : ℕ → SpduKind → Type 0
Begins code kind = (code ≡ code_of kind) × (goes_after kind ≡ false)

begun : (b : Bool) (code n : ℕ) (k kind : SpduKind) (rest : Option SpduKind) → nat_eq code n ≡ b → Begins n k → (rest ≡ Some kind → Begins code kind) → cond b (Some k) rest ≡ Some kind → Begins code kind
begun true code n k kind rest t b more h =
    let e : k ≡ kind = cc in
    let c : code ≡ n = grind (arith, nat_tests) in
    let P : SpduKind → Type 0 = λ k. Begins code k in
    subst P e (c ∙ b.0, b.1)
begun false code n k kind rest t b more h = more h

pub begins-kind : (code : ℕ) (kind : SpduKind) → first_kind code ≡ Some kind → Begins code kind
begins-kind code kind =
    begun (nat_eq code 13) code 13 CN kind _ refl (refl, refl)
    (begun (nat_eq code 14) code 14 AC kind _ refl (refl, refl)
    (begun (nat_eq code 12) code 12 RF kind _ refl (refl, refl)
    (begun (nat_eq code 9) code 9 FN kind _ refl (refl, refl)
    (begun (nat_eq code 10) code 10 DN kind _ refl (refl, refl)
    (begun (nat_eq code 25) code 25 AB kind _ refl (refl, refl)
    (begun (nat_eq code 26) code 26 AA kind _ refl (refl, refl)
    (begun (nat_eq code 1) code 1 GT kind None refl (refl, refl) (λ h. absurd cc))))))))

kind-begins : (kind : SpduKind) → goes_after kind ≡ false → first_kind (code_of kind) ≡ Some kind
kind-begins CN h = refl
kind-begins AC h = refl
kind-begins RF h = refl
kind-begins FN h = refl
kind-begins DN h = refl
kind-begins AB h = refl
kind-begins AA h = refl
kind-begins DT h = absurd cc
kind-begins GT h = refl
kind-begins MIP h = absurd cc
kind-begins MIA h = absurd cc
kind-begins RS h = absurd cc
kind-begins RA h = absurd cc

abbrev pub Follows : ℕ → SpduKind → Type 0
Follows code kind = (code ≡ code_of kind) × (goes_after kind ≡ true)

follows-code : (b : Bool) (code n : ℕ) (k kind : SpduKind) (rest : Option SpduKind) → nat_eq code n ≡ b → Follows n k → (rest ≡ Some kind → Follows code kind) → cond b (Some k) rest ≡ Some kind → Follows code kind
follows-code true code n k kind rest t b more h =
    let e : k ≡ kind = cc in
    let c : code ≡ n = grind (arith, nat_tests) in
    let P : SpduKind → Type 0 = λ k. Follows code k in
    subst P e (c ∙ b.0, b.1)
follows-code false code n k kind rest t b more h = more h

pub follows-kind : (code : ℕ) (kind : SpduKind) → second_kind code ≡ Some kind → Follows code kind
follows-kind code kind =
    follows-code (nat_eq code 1) code 1 DT kind _ refl (refl, refl)
    (follows-code (nat_eq code 49) code 49 MIP kind _ refl (refl, refl)
    (follows-code (nat_eq code 50) code 50 MIA kind _ refl (refl, refl)
    (follows-code (nat_eq code 53) code 53 RS kind _ refl (refl, refl)
    (follows-code (nat_eq code 34) code 34 RA kind None refl (refl, refl) (λ h. absurd cc)))))

kind-follows : (kind : SpduKind) → goes_after kind ≡ true → second_kind (code_of kind) ≡ Some kind
kind-follows CN h = absurd cc
kind-follows AC h = absurd cc
kind-follows RF h = absurd cc
kind-follows FN h = absurd cc
kind-follows DN h = absurd cc
kind-follows AB h = absurd cc
kind-follows AA h = absurd cc
kind-follows DT h = refl
kind-follows GT h = absurd cc
kind-follows MIP h = refl
kind-follows MIA h = refl
kind-follows RS h = refl
kind-follows RA h = refl

-- ---- what was read is held

whole-spells : (kind : SpduKind) (code : ℕ) (octets : List ℕ) (b : Followed) → code ≡ code_of kind → (f : Found kind octets b) → b.more ≡ [] → Spells b.spdu (code ∷ octets)
whole-spells kind code octets b e f none =
    let all : f.used ≡ octets = sym (append-nil f.used) ∙ ap (λ (o : List ℕ). f.used ++ o) (sym none) ∙ sym f.octets_are in
    let P : List ℕ → Type 0 = λ o. Spells b.spdu o in
    subst P (ap (λ (o : List ℕ). code_of kind ∷ o) all ∙ ap (λ (c : ℕ). c ∷ octets) (sym e)) f.spells

alone-held : (kind : SpduKind) (code : ℕ) (octets : List ℕ) (b : Followed) → Begins code kind → Found kind octets b → b.more ≡ [] → Holds (code ∷ octets) (b.spdu ∷ [])
alone-held kind code octets b k f none = (ap goes_after f.kind_is ∙ k.1, whole-spells kind code octets b k.0 f none)

-- nothing stands after the last SPDU
last-is : (place : ℕ) (more : List ℕ) (spdus found : List Spdu) → nothing_after place more spdus ≡ Ok found → (more ≡ []) × (spdus ≡ found)
last-is place [] spdus found h = (refl, is_ok spdus found h)
last-is place (x ∷ more) spdus found h = absurd cc

pub gt-is : (kind : SpduKind) → is_gt kind ≡ true → kind ≡ GT
gt-is CN h = absurd cc
gt-is AC h = absurd cc
gt-is RF h = absurd cc
gt-is FN h = absurd cc
gt-is DN h = absurd cc
gt-is AB h = absurd cc
gt-is AA h = absurd cc
gt-is DT h = absurd cc
gt-is GT h = refl
gt-is MIP h = absurd cc
gt-is MIA h = absurd cc
gt-is RS h = absurd cc
gt-is RA h = absurd cc

-- a GT, and after it an SPDU
two-held : (kind : SpduKind) (code : ℕ) (octets : List ℕ) (b : Followed) (code' : ℕ) (octets' : List ℕ) (kind' : SpduKind) (b' : Followed) → Begins code kind → is_gt kind ≡ true → Found kind octets b → b.more ≡ code' ∷ octets'
    → Follows code' kind' → Found kind' octets' b' → b'.more ≡ [] → Holds (code ∷ octets) (b.spdu ∷ b'.spdu ∷ [])
two-held kind code octets b code' octets' kind' b' k g f more k' f' none = (
  f.kind_is ∙ gt-is kind g,
  ap goes_after f'.kind_is ∙ k'.1,
  code_of kind ∷ f.used,
  code' ∷ octets',
  f.spells,
  whole-spells kind' code' octets' b' k'.0 f' none,
  ap (λ (c : ℕ). c ∷ octets) k.0 ∙ ap (λ (o : List ℕ). code_of kind ∷ o) (f.octets_are ∙ ap (λ (o : List ℕ). f.used ++ o) more),
)

second-by-held : (kind : SpduKind) (code : ℕ) (octets : List ℕ) (b : Followed) (code' : ℕ) (octets' : List ℕ) (k' : Option SpduKind) (spdus : List Spdu) → Begins code kind → is_gt kind ≡ true → Found kind octets b
    → b.more ≡ code' ∷ octets' → AreOctets octets' → second_kind code' ≡ k' → second_by b.spdu b.place k' octets' ≡ Ok spdus → Holds (code ∷ octets) spdus
second-by-held kind code octets b code' octets' None spdus k g f more o e h = absurd cc
second-by-held kind code octets b code' octets' (Some kind') spdus k g f more o e h =
    let s = bound (one kind' b.place octets') (λ x. nothing_after x.place x.more (b.spdu ∷ x.spdu ∷ [])) spdus h in
    let l = last-is s.0.place s.0.more (b.spdu ∷ s.0.spdu ∷ []) spdus s.2 in
    let P : List Spdu → Type 0 = λ spdus. Holds (code ∷ octets) spdus in
    subst P l.1 (two-held kind code octets b code' octets' kind' s.0 k g f more (follows-kind code' kind' e) (one-sound kind' b.place octets' s.0 o s.1) l.0)

second-held : (kind : SpduKind) (code : ℕ) (octets : List ℕ) (b : Followed) (more : List ℕ) (spdus : List Spdu) → Begins code kind → is_gt kind ≡ true → Found kind octets b
    → b.more ≡ more → AreOctets more → second b.spdu b.place more ≡ Ok spdus → Holds (code ∷ octets) spdus
second-held kind code octets b [] spdus k g f e o h =
    let P : List Spdu → Type 0 = λ spdus. Holds (code ∷ octets) spdus in
    subst P (is_ok (b.spdu ∷ []) spdus h) (alone-held kind code octets b k f e)
second-held kind code octets b (code' ∷ octets') spdus k g f e o h = second-by-held kind code octets b code' octets' (second_kind code') spdus k g f e o.1 refl h

follows-held : (kind : SpduKind) (code : ℕ) (octets : List ℕ) (b : Followed) (spdus : List Spdu) (g : Bool) → is_gt kind ≡ g → Begins code kind → Found kind octets b → AreOctets octets
    → cond g (second b.spdu b.place b.more) (nothing_after b.place b.more (b.spdu ∷ [])) ≡ Ok spdus → Holds (code ∷ octets) spdus
follows-held kind code octets b spdus true e k f o h =
    let A : List ℕ → Type 0 = λ o. AreOctets o in
    let parts = all-split (λ (n : ℕ). n < 256) f.used b.more (subst A f.octets_are o) in
    second-held kind code octets b b.more spdus k e f refl parts.1 h
follows-held kind code octets b spdus false e k f o h =
    let l = last-is b.place b.more (b.spdu ∷ []) spdus h in
    let P : List Spdu → Type 0 = λ spdus. Holds (code ∷ octets) spdus in
    subst P l.1 (alone-held kind code octets b k f l.0)

first-held : (code : ℕ) (octets : List ℕ) (k : Option SpduKind) (spdus : List Spdu) → AreOctets octets → first_kind code ≡ k → first_by k octets ≡ Ok spdus → Holds (code ∷ octets) spdus
first-held code octets None spdus o e h = absurd cc
first-held code octets (Some kind) spdus o e h =
    let s = bound (one kind 0 octets) (follows kind) spdus h in
    follows-held kind code octets s.0 spdus (is_gt kind) refl (begins-kind code kind e) (one-sound kind 0 octets s.0 o s.1) o s.2

pub reading-held : (tsdu : List ℕ) (spdus : List Spdu) → AreOctets tsdu → reading tsdu ≡ Ok spdus → Holds tsdu spdus
reading-held [] spdus o h = absurd cc
reading-held (code ∷ octets) spdus o h = first-held code octets (first_kind code) spdus o.1 refl h

-- ---- what is held is read

one-measured : (kind : SpduKind) (place : ℕ) (indicator value more : List ℕ) (elements : List Element) → IsLength (length value) indicator → AreConcatenated SpellsElement elements value → AllByRecursion (StandsIn kind) elements
    → AllByRecursion IsOfForm (filled kind elements) → AllByRecursion (IsThere (filled kind elements)) (rows kind)
    → one kind place ((indicator ++ value) ++ more) ≡ Ok (followed kind (says kind (filled kind elements)) (place + 1 + length indicator + length value) more)
one-measured kind place indicator value more elements size concatenated standing formed there =
    ap (one kind place) (append_assoc indicator value more) ∙ ap (one_by kind place) (measured-unit indicator value more (indicates (length value) indicator size))
    ∙ rw (assembled-full kind (place + 1 + length indicator) value elements concatenated standing formed there) refl

same-after : (kind : SpduKind) (f f' : SpduFields) (o o' more more' : List ℕ) (at : ℕ) → f ≡ f' → o ≡ o' → more ≡ more' →
    (let b : Followed = record { spdu = record { kind = kind; fields = f; octets = o }; place = at; more = more } in
    let b' : Followed = record { spdu = record { kind = kind; fields = f'; octets = o' }; place = at; more = more' } in b ≡ b')
same-after kind f f' o o' more more' at e1 e2 e3 = cc

ended : (kind : SpduKind) (fields : SpduFields) (o : List ℕ) (xs : List Filled) (more : List ℕ) (at : ℕ) → fields ≡ fields_of xs → HasData kind xs o more
    → followed kind (says kind xs) at more ≡ record { spdu = record { kind = kind; fields = fields; octets = o }; place = at; more = [] }
ended CN fields o xs more at f d = same-after CN (fields_of xs) fields (data_of xs) o more [] at (sym f) (sym d.0) d.1
ended AC fields o xs more at f d = same-after AC (fields_of xs) fields (data_of xs) o more [] at (sym f) (sym d.0) d.1
ended RF fields o xs more at f d = same-after RF (fields_of xs) fields (data_of xs) o more [] at (sym f) (sym d.0) d.1
ended FN fields o xs more at f d = same-after FN (fields_of xs) fields (data_of xs) o more [] at (sym f) (sym d.0) d.1
ended DN fields o xs more at f d = same-after DN (fields_of xs) fields (data_of xs) o more [] at (sym f) (sym d.0) d.1
ended AB fields o xs more at f d = same-after AB (fields_of xs) fields (data_of xs) o more [] at (sym f) (sym d.0) d.1
ended AA fields o xs more at f d = same-after AA (fields_of xs) fields (data_of xs) o more [] at (sym f) (sym d.0) d.1
ended DT fields o xs more at f d = same-after DT (fields_of xs) fields more o [] [] at (sym f) (sym d) refl
ended GT fields o xs more at f d = same-after GT (fields_of xs) fields (data_of xs) o more [] at (sym f) (sym d.0) d.1
ended MIP fields o xs more at f d = same-after MIP (fields_of xs) fields (data_of xs) o more [] at (sym f) (sym d.0) d.1
ended MIA fields o xs more at f d = same-after MIA (fields_of xs) fields (data_of xs) o more [] at (sym f) (sym d.0) d.1
ended RS fields o xs more at f d = same-after RS (fields_of xs) fields (data_of xs) o more [] at (sym f) (sym d.0) d.1
ended RA fields o xs more at f d = same-after RA (fields_of xs) fields (data_of xs) o more [] at (sym f) (sym d.0) d.1

-- an SPDU at the end of its TSDU
pub record Last (spdu : Spdu) (place : ℕ) (octets : List ℕ) : Type 0 where
  pub rest : List ℕ
  pub at : ℕ
  pub octets_are : octets ≡ code_of spdu.kind ∷ rest
  pub one_is : one spdu.kind place rest ≡ Ok (record { spdu = spdu; place = at; more = [] })

last-full : (spdu : Spdu) (place : ℕ) (octets : List ℕ) → Spells spdu octets → Last spdu place octets
last-full spdu place octets s =
    let indicator = s.is_unit.0 in
    let at = place + 1 + length indicator + length s.parameters in
    record {
      rest = (indicator ++ s.parameters) ++ s.after;
      at = at;
      octets_are = s.octets_are ∙ ap (λ (o : List ℕ). o ++ s.after) s.is_unit.2;
      one_is = one-measured spdu.kind place indicator s.parameters s.after s.elements s.is_unit.1 s.concatenated s.stand s.of_form s.complete
          ∙ ap (λ (b : Followed). Ok b) (ended spdu.kind spdu.fields spdu.octets (filled spdu.kind s.elements) s.after at s.fields_are s.has_data);
    }

alone-by : (b : Bool) (spdu : Spdu) (at : ℕ) → cond b (second spdu at []) (nothing_after at [] (spdu ∷ [])) ≡ Ok (spdu ∷ [])
alone-by true spdu at = refl
alone-by false spdu at = refl

alone-full : (tsdu : List ℕ) (spdu : Spdu) → goes_after spdu.kind ≡ false → Spells spdu tsdu → reading tsdu ≡ Ok (spdu ∷ [])
alone-full tsdu spdu k s =
    let l = last-full spdu 0 tsdu s in
    ap reading l.octets_are ∙ ap (λ (kind : Option SpduKind). first_by kind l.rest) (kind-begins spdu.kind k) ∙ rw l.one_is (alone-by (is_gt spdu.kind) spdu l.at)

-- a GT before more
onward : (kind : SpduKind) (fields : SpduFields) (o : List ℕ) (xs : List Filled) (mine more : List ℕ) (at : ℕ) → kind ≡ GT → fields ≡ fields_of xs → HasData kind xs o mine
    → (mine ≡ []) × (followed kind (says kind xs) at more ≡ record { spdu = record { kind = kind; fields = fields; octets = o }; place = at; more = more })
onward CN fields o xs mine more at k f d = absurd cc
onward AC fields o xs mine more at k f d = absurd cc
onward RF fields o xs mine more at k f d = absurd cc
onward FN fields o xs mine more at k f d = absurd cc
onward DN fields o xs mine more at k f d = absurd cc
onward AB fields o xs mine more at k f d = absurd cc
onward AA fields o xs mine more at k f d = absurd cc
onward DT fields o xs mine more at k f d = absurd cc
onward GT fields o xs mine more at k f d = (d.1, same-after GT (fields_of xs) fields (data_of xs) o more more at (sym f) (sym d.0) refl)
onward MIP fields o xs mine more at k f d = absurd cc
onward MIA fields o xs mine more at k f d = absurd cc
onward RS fields o xs mine more at k f d = absurd cc
onward RA fields o xs mine more at k f d = absurd cc

pub record MeasuredGt (gt : Spdu) (octets more : List ℕ) : Type 0 where
  pub rest : List ℕ
  pub at : ℕ
  pub octets_are : octets ≡ code_of GT ∷ rest
  pub one_is : one GT 0 rest ≡ Ok (record { spdu = gt; place = at; more = more })

measured-full : (gt : Spdu) (octets more : List ℕ) → gt.kind ≡ GT → Spells gt octets → MeasuredGt gt (octets ++ more) more
measured-full gt octets more k s =
    let indicator = s.is_unit.0 in
    let at = 0 + 1 + length indicator + length s.parameters in
    let rest = (indicator ++ s.parameters) ++ more in
    let o = onward gt.kind gt.fields gt.octets (filled gt.kind s.elements) s.after more at k s.fields_are s.has_data in
    let own : octets ≡ code_of gt.kind ∷ (indicator ++ s.parameters) = s.octets_are ∙ ap (λ (b : List ℕ). s.head ++ b) o.0 ∙ append-nil s.head ∙ s.is_unit.2 in
    record {
      rest = rest;
      at = at;
      octets_are = ap (λ (o : List ℕ). o ++ more) own ∙ ap (λ (kind : SpduKind). code_of kind ∷ rest) k;
      one_is = ap (λ (kind : SpduKind). one kind 0 rest) (sym k)
          ∙ one-measured gt.kind 0 indicator s.parameters more s.elements s.is_unit.1 s.concatenated s.stand s.of_form s.complete ∙ ap (λ (b : Followed). Ok b) o.1;
    }

two-full : (tsdu : List ℕ) (gt spdu : Spdu) (first rest : List ℕ) → gt.kind ≡ GT → goes_after spdu.kind ≡ true → Spells gt first → Spells spdu rest → tsdu ≡ first ++ rest → reading tsdu ≡ Ok (gt ∷ spdu ∷ [])
two-full tsdu gt spdu first rest k k' s s' e =
    let f = measured-full gt first rest k s in
    let l = last-full spdu f.at rest s' in
    ap reading (e ∙ f.octets_are)
    ∙ rw f.one_is (ap (second gt f.at) l.octets_are ∙ ap (λ (kind : Option SpduKind). second_by gt f.at kind l.rest) (kind-follows spdu.kind k') ∙ rw l.one_is refl)

pub held-reading : (tsdu : List ℕ) (spdus : List Spdu) → Holds tsdu spdus → reading tsdu ≡ Ok spdus
held-reading tsdu [] h = absurd h
held-reading tsdu (spdu ∷ []) h = alone-full tsdu spdu h.0 h.1
held-reading tsdu (gt ∷ spdu ∷ []) (k, k', first, rest, s, s', e) = two-full tsdu gt spdu first rest k k' s s' e
held-reading tsdu (a ∷ b ∷ c ∷ more) h = absurd h

-- ---- as the reader answers

pub octets-are : (o : List ℕ) → ((i : ℕ) → Fits w8 (get_or o i 0)) → AreOctets o
octets-are [] h = tt
octets-are (x ∷ o) h = let small = h 0 in (omega arith, octets-are o (λ i. h (suc i)))

pub fails-held : (tsdu : List ℕ) (held : List Spdu) (fault : SpduError) → Holds tsdu held → Fails fault (reading tsdu) → Fails fault (let r : Result (List Spdu) SpduError = Ok held in r)
fails-held tsdu held fault h f =
    let P : Result (List Spdu) SpduError → Type 0 = λ r. Fails fault r in
    subst P (held-reading tsdu held h) f
