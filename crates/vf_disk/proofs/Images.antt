-- What a crash may leave after a call, from what it may have left before.
use Rattle.std.proofs.Common.{◌≡◌, ◌⊎◌, inl, inr, ℕ, ◌+◌, ◌-◌, ◌<◌, ◌≤◌, min, max, Bool, true, false, ◌||◌, if◌then◌else◌, List, [], ◌∷◌, ◌++◌, length, get_or, take, drop, replicate, fold, refl, sym, ◌∙◌, ap, subst, arith, append_assoc, length-append, length-drop}
use Rattle.std.proofs.lemmas.List.{length-take, length-take-le, get_or-take, get_or-drop, get_or_append_left, get_or-append_right, ext_get_or, length-replicate, take_all, drop_all}
use Rattle.std.proofs.lemmas.Bool.{cases_lt}
use Rattle.std.proofs.lemmas.Bool.Decides.{nat_tests}
use Rattle.vf_disk.specs.Disk.{Torn, Shortened, Follows, Within, overwritten}
use Rattle.vf_disk.specs.declared.step.Step.{Step}
use Rattle.vf_disk.specs.declared.step.Step.TheVariants.{Wrote, CutTo, Synced}
use Rattle.vf_disk.specs.State.{State, IsImage, settled, after, state_of, lengthened, is_within, is_torn, filled_in, filled, left_by}
use Rattle.vf_disk.specs.declared.crash_form.CrashForm.{CrashForm}
use Rattle.vf_disk.specs.declared.crash_form.CrashForm.TheVariants.{Keep, Lose, Fill}
use Rattle.vf_disk.proofs.Patch.{patched, same_prefix, same_back, length-patched, patched_before, patched_in, patched_after}

-- what holds of the state after any calls
pub record IsSound (s : State) : Type 0 where
  pub shown : IsImage s s.shown
  pub made : IsImage s s.made
  pub base : s.least ≤ length s.synced
  pub order : s.least ≤ s.greatest
  pub room : length s.synced ≤ s.greatest

-- a place outside a range is torn exactly where it was before
still : (place : ℕ) (range : ℕ × ℕ) (ranges : List (ℕ × ℕ)) → is_within place range ≡ false → is_torn place ranges ≡ false → is_torn place (range ∷ ranges) ≡ false
still place range ranges out before = rw (out, before) refl

was : (place : ℕ) (range : ℕ × ℕ) (ranges : List (ℕ × ℕ)) → is_torn place (range ∷ ranges) ≡ false → is_torn place ranges ≡ false
was place range ranges now = or_right (is_within place range) (is_torn place ranges) now
  where
    or_right : (a b : Bool) → (a || b) ≡ false → b ≡ false
    or_right true b none = cc
    or_right false b none = none

outside : (place at count : ℕ) → (place < at) ⊎ (at + count ≤ place) → is_within place (at, count) ≡ false
outside place at count (inl lt) = grind (arith, nat_tests)
outside place at count (inr ge) = grind (arith, nat_tests)

not_within : (place at count : ℕ) (ranges : List (ℕ × ℕ)) → is_torn place ((at, count) ∷ ranges) ≡ false → (place < at) ⊎ (at + count ≤ place)
not_within place at count ranges now = elim (cases_lt place at) [
  | inl lt ↦ inl lt
  | inr ge ↦ elim (cases_lt place (at + count)) [
    | inl lt ↦ let inside : is_within place (at, count) ≡ true = grind (arith, nat_tests) in absurd (no (is_within place (at, count)) (is_torn place ranges) inside now)
    | inr over ↦ inr over
  ]
]
  where
    no : (a b : Bool) → a ≡ true → (a || b) ≡ false → ⊥
    no true b is none = cc
    no false b is none = cc

-- after a write
module _ (s : State) (at : ℕ) (octets : List ℕ) (good : Bool) where
  over : (x : List ℕ) → s.least ≤ length x → length x ≤ max s.greatest (at + length octets)
      → ((place : ℕ) → place < s.least → is_torn place s.ranges ≡ false → get_or x place 0 ≡ get_or s.synced place 0)
      → IsImage (after s (Wrote at octets good)) (overwritten x at octets)
  over x low high stays = record {
    no_shorter = omega (arith, long, length-take at x, length-drop (at + length octets) x);
    no_longer = omega (arith, long, length-take at x, length-drop (at + length octets) x);
    stays = λ place lt out. elim (not_within place at (length octets) s.ranges out) [
      | inl before ↦
          ap (λ (l : List ℕ). get_or l place 0) flat
          ∙ get_or_append_left (take at x) (octets ++ drop (at + length octets) x) 0 place (omega (arith, length-take at x))
          ∙ get_or-take at x place 0 before
          ∙ stays place lt (was place (at, length octets) s.ranges out)
      | inr tail ↦
          let prefix : length (take at x) ≡ at = length-take-le at x (omega arith) in
          let to : at + length octets + (place - at - length octets) ≡ place = omega arith in
          ap (λ (l : List ℕ). get_or l place 0) flat
          ∙ get_or-append_right (take at x) (octets ++ drop (at + length octets) x) at place 0 prefix (omega arith)
          ∙ get_or-append_right octets (drop (at + length octets) x) (length octets) (place - at) 0 refl (omega arith)
          ∙ get_or-drop (at + length octets) x (place - at - length octets) 0
          ∙ ap (λ (k : ℕ). get_or x k 0) to
          ∙ stays place lt (was place (at, length octets) s.ranges out)
    ];
  }
    where
      flat : overwritten x at octets ≡ take at x ++ (octets ++ drop (at + length octets) x)
      flat = append_assoc (take at x) octets (drop (at + length octets) x)

      long : length (overwritten x at octets) ≡ length (take at x) + (length octets + length (drop (at + length octets) x))
      long = ap length flat ∙ length-append (take at x) (octets ++ drop (at + length octets) x) ∙ ap (λ (k : ℕ). length (take at x) + k) (length-append octets (drop (at + length octets) x))

  untouched : (x : List ℕ) → IsImage s x → IsImage (after s (Wrote at octets good)) x
  untouched x image = record {
    no_shorter = image.no_shorter;
    no_longer = omega (arith, image.no_longer);
    stays = λ place lt out. image.stays place lt (was place (at, length octets) s.ranges out);
  }

  wrote_shown : (test : Bool) → IsImage s s.shown → IsImage (after s (Wrote at octets good)) (if test then overwritten s.shown at octets else s.shown)
  wrote_shown true image = over s.shown image.no_shorter (omega (arith, image.no_longer)) image.stays
  wrote_shown false image = untouched s.shown image

  wrote_made : IsImage s s.made → IsImage (after s (Wrote at octets good)) (overwritten (lengthened s.made at) at octets)
  wrote_made image =
      let long : length (lengthened s.made at) ≡ max (length s.made) at = omega (arith, length-append s.made (replicate (at - length s.made) 0), length-replicate {A = ℕ} (at - length s.made) 0) in
      over (lengthened s.made at) (omega (arith, image.no_shorter)) (omega (arith, image.no_longer)) (λ place lt out.
      get_or_append_left s.made (replicate (at - length s.made) 0) 0 place (omega (arith, image.no_shorter)) ∙ image.stays place lt out)

  wrote_sound : IsSound s → IsSound (after s (Wrote at octets good))
  wrote_sound sound = record {
    shown = wrote_shown good sound.shown;
    made = wrote_made sound.made;
    base = sound.base;
    order = omega (arith, sound.order);
    room = omega (arith, sound.room);
  }

  pub wrote_follows : IsSound s → at ≤ s.greatest → Follows (Torn at (length octets)) (IsImage s) (IsImage (after s (Wrote at octets good)))
  wrote_follows sound low image new = elim (cases_lt (length image) at) [
    | inl short ↦ (
      image,
      record {
        no_shorter = new.no_shorter;
        no_longer = omega arith;
        stays = λ place lt out. new.stays place lt (still place (at, length octets) s.ranges (outside place at (length octets) (inl (omega (arith, new.no_shorter)))) out);
      },
      record { before = refl; past = refl; no_shorter = omega arith; no_longer = omega arith },
    )
    | inr le ↦ torn sound low image new le
  ]
    where
      torn : IsSound s → at ≤ s.greatest → (image : List ℕ) → IsImage (after s (Wrote at octets good)) image → at ≤ length image
          → (before : List ℕ) × IsImage s before × Torn at (length octets) before image
      torn sound low image new le =
          let m = min s.least (at + length octets) in
          let in_base : m ≤ length s.synced = omega (arith, sound.base) in
          let whole = patched at m s.synced image in
          let long : length whole ≡ length image = omega (arith, length-patched at m s.synced image in_base le, new.no_shorter) in
          let before = take s.greatest whole in
          let size : length before ≡ min s.greatest (length image) = omega (arith, length-take s.greatest whole, long) in
          let head : (place : ℕ) → place < at → get_or before place 0 ≡ get_or image place 0 = λ place lt.
          get_or-take s.greatest whole place 0 (omega (arith, low)) ∙ patched_before at m s.synced image in_base le place lt in (
            before,
            record {
              no_shorter = omega (arith, size, sound.order, new.no_shorter);
              no_longer = omega (arith, size);
              stays = λ place lt out. elim (cases_lt place at) [
                | inl here ↦ head place here ∙ new.stays place lt (still place (at, length octets) s.ranges (outside place at (length octets) (inl here)) out)
                | inr past ↦ get_or-take s.greatest whole place 0 (omega (arith, sound.order)) ∙ elim (cases_lt place m) [
                  | inl inside ↦ patched_in at m s.synced image in_base le place past inside
                  | inr outer ↦ patched_after at m s.synced image in_base le place past outer ∙ new.stays place lt (still place (at, length octets) s.ranges (outside place at (length octets) (inr (omega arith))) out)
                ]
              ];
            },
            record {
              before = same_prefix at image before le (omega (arith, size)) (λ place lt. sym (head place lt));
              past = elim (cases_lt s.greatest (length image)) [
                | inl longer ↦ drop_all (at + length octets) image (omega (arith, new.no_longer)) ∙ sym (drop_all (at + length octets) before (omega (arith, size, new.no_longer)))
                | inr within ↦
                    same_back (at + length octets) image whole (sym long) (λ place ge. sym (patched_after at m s.synced image in_base le place (omega arith) (omega arith)))
                    ∙ ap (λ (l : List ℕ). drop (at + length octets) l) (sym (take_all s.greatest whole (omega (arith, long))))
              ];
              no_shorter = omega (arith, size);
              no_longer = omega (arith, size, new.no_longer);
            },
          )

-- after a cut
module _ (s : State) (to : ℕ) (good : Bool) where
  cut_image : (x : List ℕ) → IsImage s x → IsImage (after s (CutTo to good)) (take to x)
  cut_image x image = record {
    no_shorter = omega (arith, length-take to x, image.no_shorter);
    no_longer = omega (arith, length-take to x, image.no_longer);
    stays = λ place lt out. get_or-take to x place 0 (omega arith) ∙ image.stays place (omega arith) out;
  }

  uncut : (x : List ℕ) → IsImage s x → IsImage (after s (CutTo to good)) x
  uncut x image = record {
    no_shorter = omega (arith, image.no_shorter);
    no_longer = image.no_longer;
    stays = λ place lt out. image.stays place (omega arith) out;
  }

  cut_shown : (test : Bool) → IsImage s s.shown → IsImage (after s (CutTo to good)) (if test then take to s.shown else s.shown)
  cut_shown true image = cut_image s.shown image
  cut_shown false image = uncut s.shown image

  cut_sound : IsSound s → IsSound (after s (CutTo to good))
  cut_sound sound = record {
    shown = cut_shown good sound.shown;
    made = cut_image s.made sound.made;
    base = omega (arith, sound.base);
    order = omega (arith, sound.order);
    room = omega (arith, sound.room);
  }

  pub cut_follows : IsSound s → Follows (Shortened to) (IsImage s) (IsImage (after s (CutTo to good)))
  cut_follows sound image new = elim (cases_lt to s.least) [
    | inl lt ↦
        let in_image : to ≤ length image = omega (arith, new.no_shorter) in
        let before = patched to s.least s.synced image in
        let size = length-patched to s.least s.synced image sound.base in_image in (
          before,
          record {
            no_shorter = omega (arith, size);
            no_longer = omega (arith, size, new.no_longer, sound.order);
            stays = λ place here out. elim (cases_lt place to) [
              | inl prefix ↦ patched_before to s.least s.synced image sound.base in_image place prefix ∙ new.stays place (omega arith) out
              | inr back ↦ patched_in to s.least s.synced image sound.base in_image place back here
            ];
          },
          record {
            kept = same_prefix to image before in_image (omega (arith, size)) (λ place here. sym (patched_before to s.least s.synced image sound.base in_image place here));
            no_shorter = omega arith;
            no_longer = omega (arith, size);
          },
        )
    | inr ge ↦ (
      image,
      record {
        no_shorter = omega (arith, new.no_shorter);
        no_longer = new.no_longer;
        stays = λ place lt out. new.stays place (omega arith) out;
      },
      record { kept = refl; no_shorter = omega arith; no_longer = omega arith },
    )
  ]

-- after a sync
pub only_shown : (octets image : List ℕ) → IsImage (settled octets) image → image ≡ octets
only_shown octets image left =
    ext_get_or 0 image octets (omega (arith, left.no_shorter, left.no_longer)) (λ place lt. left.stays place (omega (arith, left.no_longer)) refl)

settled_image : (octets : List ℕ) → IsImage (settled octets) octets
settled_image octets = record { no_shorter = omega arith; no_longer = omega arith; stays = λ place lt out. refl }

settled_sound : (octets : List ℕ) → IsSound (settled octets)
settled_sound octets = record { shown = settled_image octets; made = settled_image octets; base = omega arith; order = omega arith; room = omega arith }

pub synced_within : (s : State) → IsSound s → Within (IsImage s) (IsImage (after s Synced))
synced_within s sound image left = subst (λ (l : List ℕ). IsImage s l) (sym (only_shown s.shown image left)) sound.shown

step_sound : (s : State) (step : Step) → IsSound s → IsSound (after s step)
step_sound s (Wrote at octets good) sound = wrote_sound s at octets good sound
step_sound s (CutTo to good) sound = cut_sound s to good sound
step_sound s Synced sound = settled_sound s.shown

goes_on : (s : State) (steps : List Step) → IsSound s → IsSound (fold after s steps)
goes_on s [] sound = sound
goes_on s (step ∷ steps) sound = goes_on (after s step) steps (step_sound s step sound)

-- whatever the calls
pub is_sound : (first : List ℕ) (steps : List Step) → IsSound (state_of first steps)
is_sound first steps = goes_on (settled first) steps (settled_sound first)

synced_image : (s : State) → IsSound s → IsImage s s.synced
synced_image s sound = record { no_shorter = sound.base; no_longer = sound.room; stays = λ place lt out. refl }

-- octets of one kind in a range keep the length and the other octets
fills : (octet : ℕ) (image : List ℕ) (at count : ℕ)
    → (length (filled_in octet image (at, count)) ≡ length image)
    × ((place : ℕ) → place < length image → (place < at) ⊎ (at + count ≤ place) → get_or (filled_in octet image (at, count)) place 0 ≡ get_or image place 0)
fills octet image at count = (long, stays)
  where
    size : ℕ
    size = min count (length image - at)

    middle : List ℕ
    middle = replicate (min count (length image - at)) octet

    flat : filled_in octet image (at, count) ≡ take at image ++ (replicate (min count (length image - at)) octet ++ drop (at + count) image)
    flat = append_assoc (take at image) (replicate (min count (length image - at)) octet) (drop (at + count) image)

    wide : length (replicate (min count (length image - at)) octet) ≡ min count (length image - at)
    wide = length-replicate {A = ℕ} (min count (length image - at)) octet

    long : length (filled_in octet image (at, count)) ≡ length image
    long = ap length flat ∙ omega (
      arith,
      length-append (take at image) (replicate (min count (length image - at)) octet ++ drop (at + count) image),
      length-append (replicate (min count (length image - at)) octet) (drop (at + count) image),
      wide,
      length-take at image,
      length-drop (at + count) image,
    )

    stays : (place : ℕ) → place < length image → (place < at) ⊎ (at + count ≤ place) → get_or (filled_in octet image (at, count)) place 0 ≡ get_or image place 0
    stays place lt (inl before) =
        ap (λ (l : List ℕ). get_or l place 0) flat
        ∙ get_or_append_left (take at image) (replicate (min count (length image - at)) octet ++ drop (at + count) image) 0 place (omega (arith, length-take at image))
        ∙ get_or-take at image place 0 before
    stays place lt (inr tail) =
        let whole : min count (length image - at) ≡ count = omega arith in
        let to : at + count + (place - at - count) ≡ place = omega arith in
        ap (λ (l : List ℕ). get_or l place 0) flat
        ∙ get_or-append_right (take at image) (replicate (min count (length image - at)) octet ++ drop (at + count) image) at place 0 (length-take-le at image (omega arith)) (omega arith)
        ∙ get_or-append_right (replicate (min count (length image - at)) octet) (drop (at + count) image) count (place - at) 0 (wide ∙ whole) (omega arith)
        ∙ get_or-drop (at + count) image (place - at - count) 0
        ∙ ap (λ (k : ℕ). get_or image k 0) to

fills_all : (octet : ℕ) (ranges : List (ℕ × ℕ)) (image : List ℕ)
    → (length (filled octet ranges image) ≡ length image)
    × ((place : ℕ) → place < length image → is_torn place ranges ≡ false → get_or (filled octet ranges image) place 0 ≡ get_or image place 0)
fills_all octet [] image = (refl, λ place lt out. refl)
fills_all octet ((at, count) ∷ ranges) image =
    let before = fills_all octet ranges image in
    let one = fills octet (filled octet ranges image) at count in
    (one.0 ∙ before.0, λ place lt out. one.1 place (omega (arith, before.0)) (not_within place at count ranges out) ∙ before.1 place lt (was place (at, count) ranges out))

-- each form of a crash leaves an image
pub form_image : (form : CrashForm) (s : State) → IsSound s → IsImage s (left_by form s)
form_image Keep s sound = sound.made
form_image Lose s sound = synced_image s sound
form_image (Fill octet) s sound =
    let all = fills_all octet s.ranges s.made in
    record {
      no_shorter = omega (arith, all.0, sound.made.no_shorter);
      no_longer = omega (arith, all.0, sound.made.no_longer);
      stays = λ place lt out. all.1 place (omega (arith, sound.made.no_shorter)) out ∙ sound.made.stays place lt out;
    }
