-- Holders put in order: where one stands among others, and what becomes of all of them where it is granted other controls,
-- goes, or is passed to another.
use Rattle.std.proofs.Common.{◌≡◌, ℕ, Bool, true, false, cond, not, List, [], ◌∷◌, ◌++◌, find, Option, None, Some, refl, ap, sym, subst, ◌∙◌}
use Rattle.std.specs.List.{AllByRecursion, fold}
use Rattle.std.specs.Option.{option_map, option_map_or}
use Rattle.std.specs.Str.{bytes_eq}
use Rattle.vf_base.specs.declared.action.Controls.{Controls}
use Rattle.vf_locks.specs.Holders.{controls_of, granted, in_order, is_same, others, passed, stands_before}
use Rattle.vf_locks.specs.declared.held.Held.{Held}
use Rattle.vf_locks.specs.declared.holder.Holder.{Holder}
use Rattle.vf_filestore.specs.Holders.{put_in_order}
use Rattle.vf_filestore.proofs.Filed.{same_name}
use Rattle.vf_filestore.proofs.HolderOrder.{ahead, one_before, same_itself}
use Rattle.vf_filestore.proofs.Lists.{all_append, all_left, all_right}

-- one that isn't this holder
abbrev pub IsOther : Holder → Held → Type 0
IsOther holder held = is_same held.holder holder ≡ false

-- ---- one more in order

-- two that differ come in either way round
swapped : (x y : Held) (helds : List Held) → IsOther x.holder y → in_order y (in_order x helds) ≡ in_order x (in_order y helds)
swapped x y [] apart = by (stands_before x.holder y.holder) (one_before x.holder y.holder apart)
  where
    by : (b : Bool) → stands_before y.holder x.holder ≡ not b → cond b (x ∷ y ∷ []) (y ∷ x ∷ []) ≡ in_order x (y ∷ [])
    by true flips = sym (λ i. cond (flips i) (y ∷ x ∷ []) (x ∷ y ∷ []))
    by false flips = sym (λ i. cond (flips i) (y ∷ x ∷ []) (x ∷ y ∷ []))
swapped x y (z ∷ helds) apart = by (stands_before z.holder x.holder) refl (stands_before z.holder y.holder) refl (swapped x y helds apart)
  where
    neither : stands_before z.holder x.holder ≡ false → stands_before z.holder y.holder ≡ false → (b : Bool) → stands_before y.holder x.holder ≡ not b
        → cond b (x ∷ in_order y (z ∷ helds)) (y ∷ x ∷ z ∷ helds) ≡ in_order x (y ∷ z ∷ helds)
    neither e f true flips =
        (λ i. x ∷ cond (f i) (z ∷ in_order y helds) (y ∷ z ∷ helds)) ∙ sym (λ i. cond (flips i) (y ∷ in_order x (z ∷ helds)) (x ∷ y ∷ z ∷ helds))
    neither e f false flips =
        sym ((λ i. cond (flips i) (y ∷ in_order x (z ∷ helds)) (x ∷ y ∷ z ∷ helds)) ∙ (λ i. y ∷ cond (e i) (z ∷ in_order x helds) (x ∷ z ∷ helds)))

    by : (p : Bool) → stands_before z.holder x.holder ≡ p → (q : Bool) → stands_before z.holder y.holder ≡ q → in_order y (in_order x helds) ≡ in_order x (in_order y helds)
        → in_order y (cond p (z ∷ in_order x helds) (x ∷ z ∷ helds)) ≡ in_order x (cond q (z ∷ in_order y helds) (y ∷ z ∷ helds))
    by true e true f rest =
        (λ i. cond (f i) (z ∷ in_order y (in_order x helds)) (y ∷ z ∷ in_order x helds)) ∙ ap (λ (list : List Held). z ∷ list) rest
        ∙ sym (λ i. cond (e i) (z ∷ in_order x (in_order y helds)) (x ∷ z ∷ in_order y helds))
    by true e false f rest =
        let first = ahead x.holder y.holder z.holder e f in
        (λ i. cond (f i) (z ∷ in_order y (in_order x helds)) (y ∷ z ∷ in_order x helds))
        ∙ sym ((λ i. cond (first i) (y ∷ in_order x (z ∷ helds)) (x ∷ y ∷ z ∷ helds)) ∙ (λ i. y ∷ cond (e i) (z ∷ in_order x helds) (x ∷ z ∷ helds)))
    by false e true f rest =
        let first = ahead y.holder x.holder z.holder f e in
        (λ i. cond (first i) (x ∷ in_order y (z ∷ helds)) (y ∷ x ∷ z ∷ helds)) ∙ (λ i. x ∷ cond (f i) (z ∷ in_order y helds) (y ∷ z ∷ helds))
        ∙ sym (λ i. cond (e i) (z ∷ in_order x (in_order y helds)) (x ∷ z ∷ in_order y helds))
    by false e false f rest = neither e f (stands_before x.holder y.holder) (one_before x.holder y.holder apart)

abbrev pub put_among : List Held → List Held → List Held
put_among ordered helds = fold (λ ordered held. in_order held ordered) ordered helds

put_past : (x : Held) (helds ordered : List Held) → AllByRecursion (IsOther x.holder) helds → put_among (in_order x ordered) helds ≡ in_order x (put_among ordered helds)
put_past x [] ordered off = refl
put_past x (y ∷ helds) ordered off = ap (λ ordered. put_among ordered helds) (swapped x y ordered off.0) ∙ put_past x helds (in_order y ordered) off.1

-- one that differs from those after it comes in last
pub put_last : (before : List Held) (x : Held) (after ordered : List Held) → AllByRecursion (IsOther x.holder) after → put_among ordered (before ++ x ∷ after) ≡ in_order x (put_among ordered (before ++ after))
put_last [] x after ordered off = put_past x after ordered off
put_last (y ∷ before) x after ordered off = put_last before x after (in_order y ordered) off

-- ---- what holds of all

pub all_into : (P : Held → Type 0) (x : Held) (helds : List Held) → P x → AllByRecursion P helds → AllByRecursion P (in_order x helds)
all_into P x [] here all = (here, tt)
all_into P x (y ∷ helds) here all = by (stands_before y.holder x.holder) (all_into P x helds here all.1)
  where
    by : (b : Bool) → AllByRecursion P (in_order x helds) → AllByRecursion P (cond b (y ∷ in_order x helds) (x ∷ y ∷ helds))
    by true rest = (all.0, rest)
    by false rest = (here, all)

all_among : (P : Held → Type 0) (helds ordered : List Held) → AllByRecursion P ordered → AllByRecursion P helds → AllByRecursion P (put_among ordered helds)
all_among P [] ordered was all = was
all_among P (x ∷ helds) ordered was all = all_among P helds (in_order x ordered) (all_into P x ordered all.0 was) all.1

pub all_ordered : (P : Held → Type 0) (helds : List Held) → AllByRecursion P helds → AllByRecursion P (put_in_order helds)
all_ordered P helds all = all_among P helds [] tt all

-- ---- the others, and the controls of one

pub others_all : (holder : Holder) (helds : List Held) → AllByRecursion (IsOther holder) helds → others holder helds ≡ helds
others_all holder [] off = refl
others_all holder (x ∷ helds) off =
    (λ i. cond (not (off.0 i)) (x ∷ others holder helds) (others holder helds)) ∙ ap (λ (list : List Held). x ∷ list) (others_all holder helds off.1)

others_past : (holder : Holder) (x : Held) (helds : List Held) → is_same x.holder holder ≡ true → others holder (in_order x helds) ≡ others holder helds
others_past holder x [] same = λ i. cond (not (same i)) (x ∷ []) []
others_past holder x (y ∷ helds) same = by (stands_before y.holder x.holder) (others_past holder x helds same)
  where
    by : (b : Bool) → others holder (in_order x helds) ≡ others holder helds → others holder (cond b (y ∷ in_order x helds) (x ∷ y ∷ helds)) ≡ others holder (y ∷ helds)
    by true rest = ap (λ (list : List Held). cond (not (is_same y.holder holder)) (y ∷ list) list) rest
    by false rest = λ i. cond (not (same i)) (x ∷ others holder (y ∷ helds)) (others holder (y ∷ helds))

abbrev controls_found : Option Held → Option Controls
controls_found one = option_map (λ (held : Held). held.controls) one

abbrev first_of : Holder → List Held → Option Held
first_of holder helds = find (λ (held : Held). is_same held.holder holder) helds

controls_none : (holder : Holder) (helds : List Held) → AllByRecursion (IsOther holder) helds → controls_of holder helds ≡ None
controls_none holder [] off = refl
controls_none holder (x ∷ helds) off = (λ i. controls_found (cond (off.0 i) (Some x) (first_of holder helds))) ∙ controls_none holder helds off.1

controls_past : (holder : Holder) (x : Held) (helds : List Held) → is_same x.holder holder ≡ true → AllByRecursion (IsOther holder) helds → controls_of holder (in_order x helds) ≡ Some x.controls
controls_past holder x [] same off = λ i. controls_found (cond (same i) (Some x) None)
controls_past holder x (y ∷ helds) same off = by (stands_before y.holder x.holder) (controls_past holder x helds same off.1)
  where
    by : (b : Bool) → controls_of holder (in_order x helds) ≡ Some x.controls → controls_of holder (cond b (y ∷ in_order x helds) (x ∷ y ∷ helds)) ≡ Some x.controls
    by true rest = (λ i. controls_found (cond (off.0 i) (Some y) (first_of holder (in_order x helds)))) ∙ rest
    by false rest = λ i. controls_found (cond (same i) (Some x) (first_of holder (y ∷ helds)))

-- ---- a holder among others

-- the holder with its controls, where it has any
abbrev pub own : Holder → Option Controls → List Held
own holder None = []
own holder (Some controls) = record { holder = holder; controls = controls } ∷ []

abbrev pub among : Holder → (before after : List Held) → Option Controls → List Held
among holder before after one = put_in_order (before ++ (own holder one ++ after))

-- those before and after it are others
pub record AreOthers (holder : Holder) (before after : List Held) : Type 0 where
  pub first : AllByRecursion (IsOther holder) before
  pub later : AllByRecursion (IsOther holder) after

all_others : (holder : Holder) (before after : List Held) → AreOthers holder before after → AllByRecursion (IsOther holder) (put_in_order (before ++ after))
all_others holder before after are = all_ordered (IsOther holder) (before ++ after) (all_append (IsOther holder) before after are.first are.later)

pub others_left : (holder : Holder) (before after : List Held) (one : Option Controls) → AreOthers holder before after → others holder (among holder before after one) ≡ put_in_order (before ++ after)
others_left holder before after None are = others_all holder (put_in_order (before ++ after)) (all_others holder before after are)
others_left holder before after (Some controls) are =
    let x : Held = record { holder = holder; controls = controls } in
    ap (others holder) (put_last before x after [] are.later) ∙ others_past holder x (put_in_order (before ++ after)) (same_itself holder)
    ∙ others_all holder (put_in_order (before ++ after)) (all_others holder before after are)

pub granted_among : (holder : Holder) (before after : List Held) (one : Option Controls) (wanted : Controls) → AreOthers holder before after
    → granted holder wanted (among holder before after one) ≡ among holder before after (Some wanted)
granted_among holder before after one wanted are =
    let x : Held = record { holder = holder; controls = wanted } in
    ap (in_order x) (others_left holder before after one are) ∙ sym (put_last before x after [] are.later)

pub controls_among : (holder : Holder) (before after : List Held) (one : Option Controls) → AreOthers holder before after → controls_of holder (among holder before after one) ≡ one
controls_among holder before after None are = controls_none holder (put_in_order (before ++ after)) (all_others holder before after are)
controls_among holder before after (Some controls) are =
    let x : Held = record { holder = holder; controls = controls } in
    ap (controls_of holder) (put_last before x after [] are.later)
    ∙ controls_past holder x (put_in_order (before ++ after)) (same_itself holder) (all_others holder before after are)

-- one that is none of them
pub controls_free : (holder to : Holder) (before after : List Held) (one : Option Controls) → is_same holder to ≡ false → AllByRecursion (IsOther to) (before ++ after)
    → controls_of to (among holder before after one) ≡ None
controls_free holder to before after one apart off =
    controls_none to (among holder before after one)
    (all_ordered (IsOther to) (before ++ (own holder one ++ after))
    (all_append (IsOther to) before (own holder one ++ after) (all_left (IsOther to) before after off)
    (all_append (IsOther to) (own holder one) after (mine one) (all_right (IsOther to) before after off))))
  where
    mine : (one : Option Controls) → AllByRecursion (IsOther to) (own holder one)
    mine None = tt
    mine (Some controls) = (apart, tt)

-- the other has its controls, wherever it stands among the same
pub passed_among : (from to : Holder) (before after first later : List Held) (controls : Controls) → AreOthers from before after → AllByRecursion (IsOther to) (before ++ after)
    → before ++ after ≡ first ++ later → passed from to (among from before after (Some controls)) ≡ among to first later (Some controls)
passed_among from to before after first later controls are off same =
    let x : Held = record { holder = to; controls = controls } in
    let all = among from before after (Some controls) in
    (λ i. option_map_or (λ (controls : Controls). granted to controls (others from all)) (controls_among from before after (Some controls) are i) all)
    ∙ ap (granted to controls) (others_left from before after (Some controls) are)
    ∙ ap (in_order x) (others_all to (put_in_order (before ++ after)) (all_ordered (IsOther to) (before ++ after) off))
    ∙ ap (λ (list : List Held). in_order x (put_in_order list)) same
    ∙ sym (put_last first x later [] (all_right (IsOther to) first later (subst (λ (list : List Held). AllByRecursion (IsOther to) list) same off)))

-- ---- the same of each file, where one holder's controls change on one of them

-- those before and after a holder, of each file
pub record Around (holder : Holder) : Type 0 where
  pub before : (file : List ℕ) → List Held
  pub after : (file : List ℕ) → List Held
  pub are : (file : List ℕ) → AreOthers holder (before file) (after file)

abbrev pub held_around : {holder : Holder} → Around holder → ((file : List ℕ) → Option Controls) → (file : List ℕ) → List Held
held_around {holder} around one file = among holder (around.before file) (around.after file) (one file)

-- what becomes of one file, and the others stay
abbrev pub Becomes : (file : List ℕ) → List Held → (was next : (file : List ℕ) → List Held) → Type 0
Becomes file helds was next = (other : List ℕ) → next other ≡ cond (bytes_eq file other) helds (was other)

pub becomes : (file : List ℕ) (helds : List Held) (was next : (file : List ℕ) → List Held) → next file ≡ helds → ((other : List ℕ) → bytes_eq file other ≡ false → next other ≡ was other) → Becomes file helds was next
becomes file helds was next here rest other = by (bytes_eq file other) refl
  where
    by : (b : Bool) → bytes_eq file other ≡ b → next other ≡ cond b helds (was other)
    by true e = ap next (sym (same_name file other e)) ∙ here
    by false e = rest other e

pub grants : {holder : Holder} (around : Around holder) (one next : (file : List ℕ) → Option Controls) (file : List ℕ) (controls : Controls) → next file ≡ Some controls
    → ((other : List ℕ) → bytes_eq file other ≡ false → next other ≡ one other)
    → Becomes file (granted holder controls (held_around around one file)) (held_around around one) (held_around around next)
grants {holder} around one next file controls here rest =
    becomes file (granted holder controls (held_around around one file)) (held_around around one) (held_around around next)
    (ap (among holder (around.before file) (around.after file)) here ∙ sym (granted_among holder (around.before file) (around.after file) (one file) controls (around.are file)))
    (λ other off. ap (among holder (around.before other) (around.after other)) (rest other off))

pub releases : {holder : Holder} (around : Around holder) (one : (file : List ℕ) → Option Controls) (file : List ℕ) → ((other : List ℕ) → bytes_eq file other ≡ false → one other ≡ None)
    → Becomes file (others holder (held_around around one file)) (held_around around one) (λ other. put_in_order (around.before other ++ around.after other))
releases {holder} around one file rest =
    becomes file (others holder (held_around around one file)) (held_around around one) (λ other. put_in_order (around.before other ++ around.after other))
    (sym (others_left holder (around.before file) (around.after file) (one file) (around.are file)))
    (λ other off. sym (ap (among holder (around.before other) (around.after other)) (rest other off)))

-- the same others stand around both holders
pub record AreSame {from to : Holder} (around : Around from) (later : Around to) : Type 0 where
  pub differ : is_same from to ≡ false
  pub off : (file : List ℕ) → AllByRecursion (IsOther to) (around.before file ++ around.after file)
  pub same : (file : List ℕ) → around.before file ++ around.after file ≡ later.before file ++ later.after file

pub passes : {from to : Holder} (around : Around from) (later : Around to) → AreSame around later → (one : (file : List ℕ) → Option Controls) (file : List ℕ) (controls : Controls) → one file ≡ Some controls
    → ((other : List ℕ) → bytes_eq file other ≡ false → one other ≡ None)
    → Becomes file (passed from to (held_around around one file)) (held_around around one) (held_around later one)
passes {from} {to} around later are one file controls here rest =
    becomes file (passed from to (held_around around one file)) (held_around around one) (held_around later one)
    (ap (among to (later.before file) (later.after file)) here
    ∙ sym (ap (λ (own : Option Controls). passed from to (among from (around.before file) (around.after file) own)) here
    ∙ passed_among from to (around.before file) (around.after file) (later.before file) (later.after file) controls (around.are file) (are.off file) (are.same file)))
    (λ other off. ap (among to (later.before other) (later.after other)) (rest other off)
    ∙ sym (ap (λ (own : Option Controls). among from (around.before other) (around.after other) own) (rest other off) ∙ ap put_in_order (are.same other)))
