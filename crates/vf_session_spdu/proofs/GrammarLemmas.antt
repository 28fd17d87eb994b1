-- Parameters that are read are spelled so, and those that are spelled so are read.
use Rattle.std.proofs.Common.{◌≡◌, ℕ, zero, suc, ◌+◌, ◌*◌, ◌≤◌, ◌<◌, Bool, true, false, cond, nat_lt, List, [], ◌∷◌, ◌++◌, length, take, drop, get_or, Option, Some, None, unwrap_or, Ok, refl, ap, sym, subst, ◌∙◌, arith, inl, inr, append_assoc}
use Rattle.std.proofs.Math.Seq.{drop-append_seam, drop-append-add}
use Rattle.std.proofs.lemmas.Bool.Decides.{nat_tests}
use Rattle.std.proofs.lemmas.List.{length-append, take-append-drop, length-take-le}
use Rattle.std.specs.List.{AllByRecursion, flat_map}
use Rattle.vf_base.specs.declared.spdu_kind.SpduKind.{SpduKind}
use Rattle.vf_session_spdu.specs.declared.errors.SpduError.TheVariants.{Value}
use Rattle.vf_session_spdu.specs.declared.spdu.Spdu.{Spdu}
use Rattle.vf_session_spdu.specs.declared.table.Row.{Row}
use Rattle.vf_session_spdu.specs.Fields.{with_value, with_row, with_part, with_parts}
use Rattle.vf_session_spdu.specs.Grammar.{IsLength, AreConcatenated, AreOctets, Parameter, SpellsParameter, single, group, SpellsElement, StandsIn, Filled, filled_with, filled_by, filled_in, IsOfForm}
use Rattle.vf_session_spdu.specs.Numbers.{length_at}
use Rattle.vf_session_spdu.specs.Parts.{Measured, short, whole, measured, measured_by, parameter, Opening, parts_in, parts_by, parts_after, inner, outer}
use Rattle.vf_session_spdu.specs.Table.{row_at, fits, opens}
use Rattle.vf_session_spdu.proofs.AfterLemmas.{after, after-append, kind-after, value-steps}
use Rattle.vf_session_spdu.proofs.MeasureLemmas.{indicates}
use Rattle.vf_session_spdu.proofs.ParameterLemmas.{TakesTo, takes-none, takes-unit}
use Rattle.vf_session_spdu.proofs.PartLemmas.{bind_ok, with_parts-append, measured-shorter}
use Rattle.vf_session_spdu.proofs.ReadableLemmas.{bound, guarded, is_ok}

-- ---- lists of which something holds

pub all-append : {X : Type 0} (P : X → Type 0) (a b : List X) → AllByRecursion P a → AllByRecursion P b → AllByRecursion P (a ++ b)
all-append P [] b f g = g
all-append P (x ∷ a) b f g = (f.0, all-append P a b f.1 g)

pub all-split : {X : Type 0} (P : X → Type 0) (a b : List X) → AllByRecursion P (a ++ b) → AllByRecursion P a × AllByRecursion P b
all-split P [] b h = (tt, h)
all-split P (x ∷ a) b h = let r = all-split P a b h.1 in ((h.0, r.0), r.1)

-- ---- a length indicator that is found

record Indicated (octets : List ℕ) (s n : ℕ) : Type 0 where
  indicator : List ℕ
  rest : List ℕ
  is_length : IsLength n indicator
  size_is : length indicator ≡ s
  octets_are : octets ≡ indicator ++ rest

abbrev pair : ℕ → ℕ → Option (ℕ × ℕ)
pair a b = Some (a, b)

pair-is : (a b c d : ℕ) → pair a b ≡ pair c d → (a ≡ c) × (b ≡ d)
pair-is a b c d h =
    let first : Option (ℕ × ℕ) → ℕ = λ x. (unwrap_or x (0, 0)).0 in
    let second : Option (ℕ × ℕ) → ℕ = λ x. (unwrap_or x (0, 0)).1 in
    (ap first h, ap second h)

indicated-long : (a : ℕ) (r : List ℕ) (s n : ℕ) → a ≡ 255 → AreOctets r → cond (nat_lt (length (a ∷ r)) 3) None (pair 3 (get_or (a ∷ r) 1 0 * 256 + get_or (a ∷ r) 2 0)) ≡ pair s n → Indicated (a ∷ r) s n
indicated-long a [] s n e o h = absurd cc
indicated-long a (x ∷ []) s n e o h = absurd cc
indicated-long a (x ∷ y ∷ r) s n e o h =
    let t : nat_lt (length (a ∷ x ∷ y ∷ r)) 3 ≡ false = grind (arith, nat_tests) in
    let p = pair-is 3 (x * 256 + y) s n (rw t at h) in
    record { indicator = 255 ∷ x ∷ y ∷ []; rest = r; is_length = inr (x, y, o.0, o.1.0, sym p.1, refl); size_is = p.0; octets_are = ap (λ (k : ℕ). k ∷ x ∷ y ∷ r) e }

indicated-by : (a : ℕ) (r : List ℕ) (s n : ℕ) (b : Bool) → nat_lt a 255 ≡ b → a < 256 → AreOctets r
    → cond b (pair 1 a) (cond (nat_lt (length (a ∷ r)) 3) None (pair 3 (get_or (a ∷ r) 1 0 * 256 + get_or (a ∷ r) 2 0))) ≡ pair s n → Indicated (a ∷ r) s n
indicated-by a r s n true t small o h =
    let p = pair-is 1 a s n h in
    let few : a < 255 = grind (arith, nat_tests) in
    record { indicator = a ∷ []; rest = r; is_length = let P : ℕ → Type 0 = λ k. IsLength k (a ∷ []) in subst P p.1 (inl (few, refl)); size_is = p.0; octets_are = refl }
indicated-by a r s n false t small o h =
    let many : 255 ≤ a = grind (arith, nat_tests) in
    indicated-long a r s n (omega arith) o h

indicated : (octets : List ℕ) (s n : ℕ) → AreOctets octets → length_at octets ≡ Some (s, n) → Indicated octets s n
indicated [] s n o h = absurd cc
indicated (a ∷ r) s n o h =
    let t : nat_lt (length (a ∷ r)) 1 ≡ false = grind (arith, nat_tests) in
    indicated-by a r s n (nat_lt a 255) refl o.0 o.1 (rw t at h)

pub record IsMeasured (octets : List ℕ) (s : ℕ) (value more : List ℕ) : Type 0 where
  pub indicator : List ℕ
  pub is_length : IsLength (length value) indicator
  pub size_is : length indicator ≡ s
  pub octets_are : octets ≡ indicator ++ (value ++ more)

is_measured-at : (i rest : List ℕ) (n : ℕ) (v m : List ℕ) → IsLength n i → length i + n ≤ length (i ++ rest) → take n (drop (length i) (i ++ rest)) ≡ v → drop (length i + n) (i ++ rest) ≡ m → IsMeasured (i ++ rest) (length i) v m
is_measured-at i rest n v m size h t d =
    let whole-size = length-append i rest in
    let fits : n ≤ length rest = omega arith in
    let value_is : take n rest ≡ v = sym (ap (take n) (drop-append_seam i rest)) ∙ t in
    let rest-is : drop n rest ≡ m = sym (drop-append-add i rest n) ∙ d in
    let long : length v ≡ n = sym (ap length value_is) ∙ length-take-le n rest fits in
    let P : ℕ → Type 0 = λ k. IsLength k i in
    record {
      indicator = i;
      is_length = subst P (sym long) size;
      size_is = refl;
      octets_are = ap (λ (o : List ℕ). i ++ o) (sym (take-append-drop n rest) ∙ ap (λ (o : List ℕ). o ++ drop n rest) value_is ∙ ap (λ (o : List ℕ). v ++ o) rest-is);
    }

is_measured-by : (octets : List ℕ) (s n : ℕ) (b : Bool) (z : ℕ) (v m : List ℕ) → nat_lt (length octets) (s + n) ≡ b → Indicated octets s n
    → cond b short (whole s (take n (drop s octets)) (drop (s + n) octets)) ≡ whole z v m → IsMeasured octets z v m
is_measured-by octets s n true z v m t i h = absurd cc
is_measured-by octets s n false z v m t i h =
    let e = i.octets_are in
    let k = i.size_is in
    let first : s ≡ z = cc in
    let second : take n (drop s octets) ≡ v = cc in
    let third : drop (s + n) octets ≡ m = cc in
    let fits : s + n ≤ length octets = grind (arith, nat_tests) in
    let A : List ℕ → ℕ → Type 0 = λ o s. s + n ≤ length o in
    let B : List ℕ → ℕ → Type 0 = λ o s. take n (drop s o) ≡ v in
    let C : List ℕ → ℕ → Type 0 = λ o s. drop (s + n) o ≡ m in
    let F : List ℕ → ℕ → Type 0 = λ o s. IsMeasured o s v m in
    let a : length i.indicator + n ≤ length (i.indicator ++ i.rest) = subst (λ (s : ℕ). A (i.indicator ++ i.rest) s) (sym k) (subst (λ (o : List ℕ). A o s) e fits) in
    let b : take n (drop (length i.indicator) (i.indicator ++ i.rest)) ≡ v = subst (λ (s : ℕ). B (i.indicator ++ i.rest) s) (sym k) (subst (λ (o : List ℕ). B o s) e second) in
    let c : drop (length i.indicator + n) (i.indicator ++ i.rest) ≡ m = subst (λ (s : ℕ). C (i.indicator ++ i.rest) s) (sym k) (subst (λ (o : List ℕ). C o s) e third) in
    let f = is_measured-at i.indicator i.rest n v m i.is_length a b c in
    subst (λ (o : List ℕ). F o z) (sym e) (subst (λ (s : ℕ). F (i.indicator ++ i.rest) s) (k ∙ first) f)

is_measured-in : (octets : List ℕ) (r : Option (ℕ × ℕ)) (z : ℕ) (v m : List ℕ) → AreOctets octets → length_at octets ≡ r → measured_by octets r ≡ whole z v m → IsMeasured octets z v m
is_measured-in octets None z v m o e h = absurd cc
is_measured-in octets (Some (s, n)) z v m o e h = is_measured-by octets s n (nat_lt (length octets) (s + n)) z v m refl (indicated octets s n o e) h

pub is_measured : (octets : List ℕ) (z : ℕ) (v m : List ℕ) → AreOctets octets → measured octets ≡ whole z v m → IsMeasured octets z v m
is_measured octets z v m o h = is_measured-in octets (length_at octets) z v m o refl h

-- ---- one unit, and units one after the other

pub record One {A : Type 0} (spells : A → List ℕ → Type 0) (stands : A → Type 0) (f : A → List Filled) (s s' : Spdu) (octets : List ℕ) : Type 0 where
  pub one : A
  pub spelled : spells one octets
  pub standing : stands one
  pub formed : AllByRecursion IsOfForm (f one)
  pub is_after : s' ≡ after s (f one)

pub record Several {A : Type 0} (spells : A → List ℕ → Type 0) (stands : A → Type 0) (f : A → List Filled) (s s' : Spdu) (octets : List ℕ) : Type 0 where
  pub all : List A
  pub concatenated : AreConcatenated spells all octets
  pub standing : AllByRecursion stands all
  pub formed : AllByRecursion IsOfForm (flat_map f all)
  pub is_after : s' ≡ after s (flat_map f all)

abbrev Sound : {A : Type 0} → SpduKind → (A → List ℕ → Type 0) → (A → Type 0) → (A → List Filled) → Opening → Type 0
Sound {A} kind spells stands f opened =
    (s s' : Spdu) (at code : ℕ) (indicator value : List ℕ) → s.kind ≡ kind → AreOctets value → IsLength (length value) indicator
    → with_parts s (opened at code value) ≡ Ok s' → One spells stands f s s' (code ∷ (indicator ++ value))

none-several : {A : Type 0} (spells : A → List ℕ → Type 0) (stands : A → Type 0) (f : A → List Filled) (s s' : Spdu) → with_parts s [] ≡ Ok s' → Several spells stands f s s' []
none-several spells stands f s s' h = record { all = []; concatenated = refl; standing = tt; formed = tt; is_after = sym (is_ok s s' h) }

more-several : {A : Type 0} (spells : A → List ℕ → Type 0) (stands : A → Type 0) (f : A → List Filled) (s s1 s' : Spdu) (code : ℕ) (i v m more : List ℕ)
    → more ≡ i ++ (v ++ m) → One spells stands f s s1 (code ∷ (i ++ v)) → Several spells stands f s1 s' m → Several spells stands f s s' (code ∷ more)
more-several spells stands f s s1 s' code i v m more e x xs =
    record {
      all = x.one ∷ xs.all;
      concatenated = (code ∷ (i ++ v), m, x.spelled, xs.concatenated, ap (λ (o : List ℕ). code ∷ o) (e ∙ sym (append_assoc i v m)));
      standing = (x.standing, xs.standing);
      formed = all-append IsOfForm (f x.one) (flat_map f xs.all) x.formed xs.formed;
      is_after = xs.is_after ∙ ap (λ (s : Spdu). after s (flat_map f xs.all)) x.is_after ∙ sym (after-append (f x.one) (flat_map f xs.all) s);
    }

after-sound : {A : Type 0} (kind : SpduKind) (spells : A → List ℕ → Type 0) (stands : A → Type 0) (f : A → List Filled) (opened : Opening) → Sound kind spells stands f opened
    → (n place code : ℕ) (more : List ℕ) (x : Measured) (s s' : Spdu) → length more ≤ n → s.kind ≡ kind → AreOctets more → measured more ≡ x
    → ((at : ℕ) (o : List ℕ) (t : Spdu) → length o ≤ n → t.kind ≡ kind → AreOctets o → with_parts t (parts_in opened n at o) ≡ Ok s' → Several spells stands f t s' o)
    → with_parts s (parts_after opened (parts_in opened n) place code x) ≡ Ok s' → Several spells stands f s s' (code ∷ more)
after-sound kind spells stands f opened sound n place code more short s s' l k o e others h = absurd cc
after-sound kind spells stands f opened sound n place code more (whole z v m) s s' l k o e others h =
    let found = is_measured more z v m o e in
    let shorter = measured-shorter more z v m e in
    let P : List ℕ → Type 0 = λ o. AreOctets o in
    let parts = all-split (λ (n : ℕ). n < 256) found.indicator (v ++ m) (subst P found.octets_are o) in
    let values = all-split (λ (n : ℕ). n < 256) v m parts.1 in
    let at = place + 1 + z in
    let b = bound (with_parts s (opened at code v)) (λ s. with_parts s (parts_in opened n (at + length v) m)) s' (sym (with_parts-append s (opened at code v) (parts_in opened n (at + length v) m)) ∙ h) in
    let first = sound s b.0 at code found.indicator v k values.0 found.is_length b.1 in
    let kept : b.0.kind ≡ kind = ap (λ (s : Spdu). s.kind) first.is_after ∙ kind-after (f first.one) s ∙ k in
    let rest = others (at + length v) m b.0 (omega arith) kept values.1 b.2 in
    more-several spells stands f s b.0 s' code found.indicator v m more found.octets_are first rest

pub concatenated-sound : {A : Type 0} (kind : SpduKind) (spells : A → List ℕ → Type 0) (stands : A → Type 0) (f : A → List Filled) (opened : Opening) → Sound kind spells stands f opened
    → (n place : ℕ) (octets : List ℕ) (s s' : Spdu) → length octets ≤ n → s.kind ≡ kind → AreOctets octets → with_parts s (parts_in opened n place octets) ≡ Ok s' → Several spells stands f s s' octets
unfolding parts_in
concatenated-sound kind spells stands f opened sound zero place [] s s' l k o h = none-several spells stands f s s' h
concatenated-sound kind spells stands f opened sound zero place (code ∷ more) s s' l k o h = absurd (omega arith)
concatenated-sound kind spells stands f opened sound (suc n) place [] s s' l k o h = none-several spells stands f s s' h
concatenated-sound kind spells stands f opened sound (suc n) place (code ∷ more) s s' l k o h =
    after-sound kind spells stands f opened sound n place code more (measured more) s s' (omega arith) k o.1 refl
    (λ at o t l k oct h. concatenated-sound kind spells stands f opened sound n at o t s' l k oct h) h

-- and what is spelled so is taken
pub record Units (opened : Opening) (s s' : Spdu) (octets : List ℕ) : Type 0 where
  pub code : ℕ
  pub indicator : List ℕ
  pub value : List ℕ
  pub is_length : IsLength (length value) indicator
  pub octets_are : octets ≡ code ∷ (indicator ++ value)
  pub takes : (at : ℕ) → with_parts s (opened at code value) ≡ Ok s'

abbrev Full : {A : Type 0} → SpduKind → (A → List ℕ → Type 0) → (A → Type 0) → (A → List Filled) → Opening → Type 0
Full {A} kind spells stands f opened =
    (s : Spdu) (x : A) (octets : List ℕ) → s.kind ≡ kind → spells x octets → stands x → AllByRecursion IsOfForm (f x) → Units opened s (after s (f x)) octets

pub concatenated-full : {A : Type 0} (kind : SpduKind) (spells : A → List ℕ → Type 0) (stands : A → Type 0) (f : A → List Filled) (opened : Opening) → Full kind spells stands f opened
    → (xs : List A) (octets : List ℕ) (s : Spdu) → s.kind ≡ kind → AreConcatenated spells xs octets → AllByRecursion stands xs → AllByRecursion IsOfForm (flat_map f xs) → TakesTo opened octets s (after s (flat_map f xs))
concatenated-full kind spells stands f opened full [] octets s k j a b =
    let P : List ℕ → Type 0 = λ o. TakesTo opened o s s in subst P (sym j) (takes-none opened s)
concatenated-full kind spells stands f opened full (x ∷ xs) octets s k (first, rest, spelled, concatenated, e) a b =
    let forms = all-split IsOfForm (f x) (flat_map f xs) b in
    let u = full s x first k spelled a.0 forms.0 in
    let s1 = after s (f x) in
    let kept : s1.kind ≡ kind = kind-after (f x) s ∙ k in
    let others = concatenated-full kind spells stands f opened full xs rest s1 kept concatenated a.1 forms.1 in
    let whole : octets ≡ u.code ∷ ((u.indicator ++ u.value) ++ rest) = e ∙ ap (λ (o : List ℕ). o ++ rest) u.octets_are in
    let P : List ℕ → Type 0 = λ o. TakesTo opened o s (after s1 (flat_map f xs)) in
    let Q : Spdu → Type 0 = λ t. TakesTo opened octets s t in
    subst Q (sym (after-append (f x) (flat_map f xs) s)) (subst P (sym whole) (takes-unit opened u.code u.indicator u.value rest s s1 (after s1 (flat_map f xs)) (indicates (length u.value) u.indicator u.is_length) u.takes others))

-- ---- a parameter

row-sound : (s s' : Spdu) (kind : SpduKind) (holder code : ℕ) (v : List ℕ) (row : Option Row) → row_at kind holder code ≡ row → with_row row code v s ≡ Ok s'
    → AllByRecursion IsOfForm (filled_with v row) × (s' ≡ after s (filled_with v row))
row-sound s s' kind holder code v None e h = (tt, sym (is_ok s s' h))
row-sound s s' kind holder code v (Some row) e h =
    let g = guarded (fits row.form v) (with_value row.form code v s) s' (Value code) h in
    ((g.0, tt), sym g.1 ∙ value-steps kind holder code row e s v)

row-full : (s : Spdu) (kind : SpduKind) (holder code : ℕ) (v : List ℕ) (row : Option Row) → row_at kind holder code ≡ row → AllByRecursion IsOfForm (filled_with v row)
    → with_row row code v s ≡ Ok (after s (filled_with v row))
row-full s kind holder code v None e h = refl
row-full s kind holder code v (Some row) e h = rw h.0 (ap (λ (t : Spdu). Ok t) (value-steps kind holder code row e s v))

abbrev opens-parameter : ℕ → Opening
opens-parameter holder at code value = parameter holder code value ∷ []

abbrev any : Parameter → Type 0
any p = Unit {0}

parameter-sound : (kind : SpduKind) (holder : ℕ) → Sound kind SpellsParameter any (filled_by kind holder) (opens-parameter holder)
parameter-sound kind holder s s' at code indicator value k o size h =
    let with_part-so : with_row (row_at s.kind holder code) code value s ≡ Ok s' = sym (bind_ok (with_part s (parameter holder code value))) ∙ h in
    let with_part-at : with_row (row_at kind holder code) code value s ≡ Ok s' = sym (ap (λ (kind : SpduKind). with_row (row_at kind holder code) code value s) k) ∙ with_part-so in
    let r = row-sound s s' kind holder code value (row_at kind holder code) refl with_part-at in
    record { one = record { code = code; value = value }; spelled = (indicator, size, refl); standing = tt; formed = r.0; is_after = r.1 }

parameter-full : (kind : SpduKind) (holder : ℕ) → Full kind SpellsParameter any (filled_by kind holder) (opens-parameter holder)
parameter-full kind holder s p octets k (indicator, size, e) u formed =
    record {
      code = p.code;
      indicator = indicator;
      value = p.value;
      is_length = size;
      octets_are = e;
      takes = λ at. bind_ok (with_part s (parameter holder p.code p.value)) ∙ ap (λ (kind : SpduKind). with_row (row_at kind holder p.code) p.code p.value s) k ∙ row-full s kind holder p.code p.value (row_at kind holder p.code) refl formed;
    }

-- ---- an element

opens-five : (kind : SpduKind) (code : ℕ) → opens kind code ≡ true → code ≡ 5
opens-five kind code h = grind (arith, nat_tests)

any-all : (ps : List Parameter) → AllByRecursion any ps
any-all [] = tt
any-all (p ∷ ps) = (tt, any-all ps)

element-by : (kind : SpduKind) (s s' : Spdu) (at code : ℕ) (indicator value : List ℕ) (b : Bool) → opens kind code ≡ b → s.kind ≡ kind → AreOctets value → IsLength (length value) indicator
    → with_parts s (cond b (parts_by inner at value) (parameter 0 code value ∷ [])) ≡ Ok s' → One SpellsElement (StandsIn kind) (filled_in kind) s s' (code ∷ (indicator ++ value))
element-by kind s s' at code indicator value false e k o size h =
    let with_part-so : with_row (row_at s.kind 0 code) code value s ≡ Ok s' = sym (bind_ok (with_part s (parameter 0 code value))) ∙ h in
    let with_part-at : with_row (row_at kind 0 code) code value s ≡ Ok s' = sym (ap (λ (kind : SpduKind). with_row (row_at kind 0 code) code value s) k) ∙ with_part-so in
    let r = row-sound s s' kind 0 code value (row_at kind 0 code) refl with_part-at in
    record { one = single (record { code = code; value = value }); spelled = (indicator, size, refl); standing = e; formed = r.0; is_after = r.1 }
element-by kind s s' at code indicator value true e k o size h =
    let five = opens-five kind code e in
    let r = concatenated-sound kind SpellsParameter any (filled_by kind 5) inner (parameter-sound kind 5) (length value) at value s s' (omega arith) k o h in
    let P : ℕ → Type 0 = λ n. AllByRecursion IsOfForm (flat_map (filled_by kind n) r.all) in
    let Q : ℕ → Type 0 = λ n. s' ≡ after s (flat_map (filled_by kind n) r.all) in
    record { one = group code r.all; spelled = (value, r.concatenated, (indicator, size, refl)); standing = e; formed = subst P (sym five) r.formed; is_after = subst Q (sym five) r.is_after }

pub element-sound : (kind : SpduKind) → Sound kind SpellsElement (StandsIn kind) (filled_in kind) (outer kind)
element-sound kind s s' at code indicator value k o size h = element-by kind s s' at code indicator value (opens kind code) refl k o size h

element-full-by : (kind : SpduKind) (s t : Spdu) (code : ℕ) (value : List ℕ) (at : ℕ) (b : Bool) → opens kind code ≡ b → with_parts s (cond b (parts_by inner at value) (parameter 0 code value ∷ [])) ≡ Ok t → with_parts s (outer kind at code value) ≡ Ok t
element-full-by kind s t code value at b e h = ap (λ (b : Bool). with_parts s (cond b (parts_by inner at value) (parameter 0 code value ∷ []))) e ∙ h

pub element-full : (kind : SpduKind) → Full kind SpellsElement (StandsIn kind) (filled_in kind) (outer kind)
unfolding parameter-full
element-full kind s (single p) octets k spelled stands formed =
    let u = parameter-full kind 0 s p octets k spelled tt formed in
    record {
      code = u.code;
      indicator = u.indicator;
      value = u.value;
      is_length = u.is_length;
      octets_are = u.octets_are;
      takes = λ at. element-full-by kind s (after s (filled_by kind 0 p)) p.code p.value at false stands (u.takes at);
    }
element-full kind s (group code inside) octets k (contents, concatenated, (indicator, size, e)) stands formed =
    let five = opens-five kind code stands in
    let P : ℕ → Type 0 = λ n. AllByRecursion IsOfForm (flat_map (filled_by kind n) inside) in
    let Q : ℕ → Type 0 = λ n. TakesTo inner contents s (after s (flat_map (filled_by kind n) inside)) in
    let t : TakesTo inner contents s (after s (flat_map (filled_by kind code) inside)) =
    subst Q (sym five) (concatenated-full kind SpellsParameter any (filled_by kind 5) inner (parameter-full kind 5) inside contents s k concatenated (any-all inside) (subst P five formed)) in
    record {
      code = code;
      indicator = indicator;
      value = contents;
      is_length = size;
      octets_are = e;
      takes = λ at. element-full-by kind s (after s (flat_map (filled_by kind code) inside)) code contents at true stands (t at);
    }
