-- What octets that stand in parts are after one call more.
use Rattle.std.proofs.Common.{◌≡◌, ℕ, ◌+◌, ◌<◌, ◌≤◌, List, [], ◌∷◌, ◌++◌, length, get_or, take, drop, refl, sym, ◌∙◌, ap, subst, add-one, arith, append_assoc, length-append, length-drop}
use Rattle.std.proofs.lemmas.List.{append-nil, take-append-le, drop-append-le, take-append-drop, length-take-le, take_all, drop_all}
use Rattle.std.proofs.Math.Seq.{drop-cons, take-append_seam, drop-append_seam}
use Rattle.std.specs.Prelude.{suc}
use Rattle.vf_disk.specs.Disk.{overwritten}
use Rattle.vf_disk.specs.Parts.{IsSound, joined, loose, short_before}
use Rattle.vf_disk.specs.declared.part.Part.{Part}

-- short octets after the others stand after all
pub joined-append : (parts : List Part) (short more : List ℕ) → short_before parts ≤ length short → joined (short ++ more) parts ≡ joined short parts ++ more
joined-append [] short more within = refl
joined-append (part ∷ parts) short more within =
    let here : part.before ≤ length short = omega arith in
    let later : short_before parts ≤ length (drop part.before short) = omega (arith, length-drop part.before short) in
    let first = take-append-le part.before short more here in
    let rest = drop-append-le part.before short more here in
    let step = joined-append parts (drop part.before short) more later in
    rw (first, rest, step) (ap (λ (l : List ℕ). take part.before short ++ l) (sym (append_assoc part.octets (joined (drop part.before short) parts) more))
    ∙ sym (append_assoc (take part.before short) (part.octets ++ joined (drop part.before short) parts) more))

-- a string after all short octets stands after all
pub joined-string : (parts : List Part) (short : List ℕ) (part : Part) → short_before parts + part.before ≡ length short → joined short (parts ++ part ∷ []) ≡ joined short parts ++ part.octets
joined-string [] short part all =
    let full : take part.before short ≡ short = take_all part.before short (omega arith) in
    let none : drop part.before short ≡ [] = drop_all part.before short (omega arith) in
    rw (full, none) (ap (λ (l : List ℕ). short ++ l) (append-nil part.octets))
joined-string (other ∷ parts) short part all =
    let later : short_before parts + part.before ≡ length (drop other.before short) = omega (arith, length-drop other.before short) in
    let step = joined-string parts (drop other.before short) part later in
    rw step (ap (λ (l : List ℕ). take other.before short ++ l) (sym (append_assoc other.octets (joined (drop other.before short) parts) part.octets))
    ∙ sym (append_assoc (take other.before short) (other.octets ++ joined (drop other.before short) parts) part.octets))

pub short_before-append : (parts : List Part) (part : Part) → short_before (parts ++ part ∷ []) ≡ short_before parts + part.before
short_before-append [] part = omega arith
short_before-append (other ∷ parts) part = omega (arith, short_before-append parts part)

-- octets that are put over the first of a list
overwritten_front : (front back : List ℕ) (at : ℕ) (over : List ℕ) → at + length over ≤ length front → overwritten (front ++ back) at over ≡ overwritten front at over ++ back
overwritten_front front back at over le =
    let first = take-append-le at front back (omega arith) in
    let rest = drop-append-le (at + length over) front back le in
    rw (first, rest) (sym (append_assoc (take at front ++ over) (drop (at + length over) front) back))

pub length-overwritten : (old : List ℕ) (at : ℕ) (over : List ℕ) → at + length over ≤ length old → length (overwritten old at over) ≡ length old
length-overwritten old at over le =
    let front : length (take at old) ≡ at = length-take-le at old (omega arith) in
    omega (arith, front, length-append (take at old ++ over) (drop (at + length over) old), length-append (take at old) over, length-drop (at + length over) old)

-- octets that are put over the first short ones are put over the first of all
pub joined-overwritten : (parts : List Part) (short : List ℕ) (at : ℕ) (over : List ℕ) → short_before parts ≤ length short → at + length over ≤ loose short parts
    → joined (overwritten short at over) parts ≡ overwritten (joined short parts) at over
joined-overwritten [] short at over within le = refl
joined-overwritten (part ∷ parts) short at over within le =
    let front = take part.before short in
    let back = drop part.before short in
    let put = overwritten front at over in
    let size : length front ≡ part.before = length-take-le part.before short (omega arith) in
    let room : at + length over ≤ length front = omega (arith, size) in
    let split : overwritten short at over ≡ put ++ back = ap (λ (l : List ℕ). overwritten l at over) (sym (take-append-drop part.before short)) ∙ overwritten_front front back at over room in
    let long : length put ≡ part.before = length-overwritten front at over room ∙ size in
    let first : take part.before (overwritten short at over) ≡ put
    = ap (λ (l : List ℕ). take part.before l) split ∙ subst (λ (n : ℕ). take n (put ++ back) ≡ put) long (take-append_seam put back) in
    let rest : drop part.before (overwritten short at over) ≡ back
    = ap (λ (l : List ℕ). drop part.before l) split ∙ subst (λ (n : ℕ). drop n (put ++ back) ≡ back) long (drop-append_seam put back) in
    ap (λ (l : List ℕ). l ++ (part.octets ++ joined (drop part.before (overwritten short at over)) parts)) first
    ∙ ap (λ (l : List ℕ). put ++ (part.octets ++ joined l parts)) rest
    ∙ sym (overwritten_front front (part.octets ++ joined back parts) at over room)

loose_more : (parts : List Part) (short more : List ℕ) → loose short parts ≤ loose (short ++ more) parts
loose_more [] short more = omega (arith, length-append short more)
loose_more (part ∷ parts) short more = omega arith

loose_within : (parts : List Part) (short : List ℕ) → short_before parts ≤ length short → loose short parts ≤ length short
loose_within [] short within = omega arith
loose_within (part ∷ parts) short within = omega arith

module _ (short : List ℕ) (parts : List Part) (closed count : ℕ) (sound : IsSound short parts closed count) where
  pub in_short : short_before parts ≤ length short
  in_short = omega (arith, sound.closed_is, sound.within)

  pub items_short : (more now : List ℕ) → now ≡ short ++ more → joined now parts ≡ joined short parts ++ more
  items_short more now is = ap (λ (l : List ℕ). joined l parts) is ∙ joined-append parts short more in_short

  pub sound_short : (more now : List ℕ) (next : ℕ) → now ≡ short ++ more → next ≡ count + length more → IsSound now parts closed next
  sound_short more now next is counts = record {
    closed_is = sound.closed_is;
    within = omega (arith, sound.within, ap length is, length-append short more);
    counted = omega (arith, sound.counted, ap length (items_short more now is), length-append (joined short parts) more);
  }

  pub items_string : (part : Part) (now : List Part) → now ≡ parts ++ part ∷ [] → part.before + closed ≡ length short → joined short now ≡ joined short parts ++ part.octets
  items_string part now is all =
      ap (λ (l : List Part). joined short l) is ∙ joined-string parts short part (omega (arith, sound.closed_is))

  pub sound_string : (part : Part) (now : List Part) (last next : ℕ) → now ≡ parts ++ part ∷ [] → part.before + closed ≡ length short → last ≡ length short → next ≡ count + length part.octets
      → IsSound short now last next
  sound_string part now last next is all ends counts = record {
    closed_is = omega (arith, sound.closed_is, ap short_before is, short_before-append parts part);
    within = omega (arith, ends);
    counted = omega (arith, sound.counted, ap length (items_string part now is all), length-append (joined short parts) part.octets);
  }

  pub items_over : (at last : ℕ) (over now : List ℕ) → now ≡ overwritten (short ++ last ∷ []) at over → at + length over ≤ loose short parts
      → joined now parts ≡ overwritten (joined short parts ++ last ∷ []) at over
  items_over at last over now is le =
      let within : short_before parts ≤ length (short ++ last ∷ []) = omega (arith, in_short, length-append short (last ∷ [])) in
      ap (λ (l : List ℕ). joined l parts) is
      ∙ joined-overwritten parts (short ++ last ∷ []) at over within (omega (arith, loose_more parts short (last ∷ [])))
      ∙ ap (λ (l : List ℕ). overwritten l at over) (joined-append parts short (last ∷ []) in_short)

-- the next string of a row
pub next_part : (parts : List Part) (i : ℕ) (part : Part) → i < length parts → part ≡ get_or parts i part → drop i parts ≡ part ∷ drop (i + 1) parts
next_part parts i part less is = rw add-one (drop-cons parts i part less ∙ ap (λ (p : Part). p ∷ drop (suc i) parts) (sym is))

-- the short octets before the next string
pub next_short : (parts : List Part) (i : ℕ) (part : Part) (rest : ℕ) → i < length parts → part ≡ get_or parts i part → short_before (drop i parts) ≤ rest → part.before + short_before (drop (i + 1) parts) ≤ rest
next_short parts i part rest less is within = rw (next_part parts i part less is) at within

-- one part more of all octets is put after the others
pub next_joined : (parts : List Part) (i : ℕ) (part : Part) (out rest all : List ℕ) → i < length parts → part ≡ get_or parts i part → out ++ joined rest (drop i parts) ≡ all
    → ((out ++ take part.before rest) ++ part.octets) ++ joined (drop part.before rest) (drop (i + 1) parts) ≡ all
next_joined parts i part out rest all less is so_far =
    let later = joined (drop part.before rest) (drop (i + 1) parts) in
    let next : out ++ joined rest (drop i parts) ≡ out ++ (take part.before rest ++ (part.octets ++ later))
    = ap (λ (l : List Part). out ++ joined rest l) (next_part parts i part less is) in
    append_assoc (out ++ take part.before rest) part.octets later ∙ append_assoc out (take part.before rest) (part.octets ++ later) ∙ sym next ∙ so_far

-- before the first string
pub first_short : (short row : List ℕ) (parts strings : List Part) (closed count : ℕ) → IsSound short parts closed count → strings ≡ parts → row ≡ short → short_before strings ≤ length row
first_short short row parts strings closed count sound same_parts same_row = omega (arith, in_short short parts closed count sound, ap short_before same_parts, ap length same_row)

-- after the last string
pub last_joined : (parts : List Part) (i : ℕ) (out rest all : List ℕ) → length parts ≤ i → out ++ joined rest (drop i parts) ≡ all → out ++ rest ≡ all
last_joined parts i out rest all past so_far = rw (drop_all i parts past) at so_far

-- octets that are put over the first short ones, and one more
module _ (short : List ℕ) (parts : List Part) (closed count : ℕ) (sound : IsSound short parts closed count) where
  pub sound_over : (at last : ℕ) (over now : List ℕ) (next : ℕ) → now ≡ overwritten (short ++ last ∷ []) at over → at + length over ≤ loose short parts → at + length over ≤ count → next ≡ count + 1 → IsSound now parts closed next
  sound_over at last over now next is le inside counts =
      let all = joined short parts ++ last ∷ [] in
      let longer : length all ≡ length (joined short parts) + 1 = length-append (joined short parts) (last ∷ []) in
      let same : length (overwritten all at over) ≡ length all = length-overwritten all at over (omega (arith, longer, sound.counted)) in
      record {
        closed_is = sound.closed_is;
        within = omega (arith, ap length is, length-overwritten (short ++ last ∷ []) at over (omega (arith, loose_within parts short (in_short short parts closed count sound), length-append short (last ∷ []))), length-append short (last ∷ []), sound.within);
        counted = omega (arith, sound.counted, ap length (items_over short parts closed count sound at last over now is le), same, longer);
      }
