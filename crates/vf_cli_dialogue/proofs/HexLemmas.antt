-- Texts in hexadecimal, digit by digit.
use Rattle.std.proofs.Common.{◌≡◌, ℕ, zero, suc, ◌+◌, ◌-◌, ◌*◌, ◌/◌, ◌%◌, ◌<◌, ◌≤◌, List, [], ◌∷◌, ◌++◌, length, drop, take, get_or, refl, sym, ap, subst, ◌∙◌, arith, append_assoc, append-nil, length-drop, length-append, inl, inr}
use Rattle.std.specs.Prelude.{All, Option, Some, None, Bool, is_some, nat_lt, true, false, ◌⊎◌, ◌≢◌, if◌then◌else◌}
use Rattle.vf_cli_dialogue.specs.Lines.{IsInLine, line_feed}
use Rattle.std.proofs.lemmas.List.{drop_more, take_more}
use Rattle.std.proofs.lemmas.List.Elements.{All-append, All-cons, All-head, All-nil, All-tail}
use Rattle.vf_cli_dialogue.specs.Hex.{IsHalfOf, TakesOctets, TakesPairs, digit_of, first_half_of, half_of, half_text, hex_of, octet_before, octets_of}

pub length-hex_of : (octets : List ℕ) → length (hex_of octets) ≡ 2 * length octets
length-hex_of [] = refl
length-hex_of (octet ∷ octets) = omega (arith, length-hex_of octets)

pub hex_of-append : (xs ys : List ℕ) → hex_of (xs ++ ys) ≡ hex_of xs ++ hex_of ys
hex_of-append [] ys = refl
hex_of-append (x ∷ xs) ys = ap (λ l. digit_of (x / 16) ∷ digit_of (x % 16) ∷ l) (hex_of-append xs ys)

half_of-digit_of : (half : ℕ) → half < 16 → half_of (digit_of half) ≡ Some half
half_of-digit_of zero h = refl
half_of-digit_of (suc zero) h = refl
half_of-digit_of (suc (suc zero)) h = refl
half_of-digit_of (suc (suc (suc zero))) h = refl
half_of-digit_of (suc (suc (suc (suc zero)))) h = refl
half_of-digit_of (suc (suc (suc (suc (suc zero))))) h = refl
half_of-digit_of (suc (suc (suc (suc (suc (suc zero)))))) h = refl
half_of-digit_of (suc (suc (suc (suc (suc (suc (suc zero))))))) h = refl
half_of-digit_of (suc (suc (suc (suc (suc (suc (suc (suc zero)))))))) h = refl
half_of-digit_of (suc (suc (suc (suc (suc (suc (suc (suc (suc zero))))))))) h = refl
half_of-digit_of (suc (suc (suc (suc (suc (suc (suc (suc (suc (suc zero)))))))))) h = refl
half_of-digit_of (suc (suc (suc (suc (suc (suc (suc (suc (suc (suc (suc zero))))))))))) h = refl
half_of-digit_of (suc (suc (suc (suc (suc (suc (suc (suc (suc (suc (suc (suc zero)))))))))))) h = refl
half_of-digit_of (suc (suc (suc (suc (suc (suc (suc (suc (suc (suc (suc (suc (suc zero))))))))))))) h = refl
half_of-digit_of (suc (suc (suc (suc (suc (suc (suc (suc (suc (suc (suc (suc (suc (suc zero)))))))))))))) h = refl
half_of-digit_of (suc (suc (suc (suc (suc (suc (suc (suc (suc (suc (suc (suc (suc (suc (suc zero))))))))))))))) h = refl
half_of-digit_of (suc (suc (suc (suc (suc (suc (suc (suc (suc (suc (suc (suc (suc (suc (suc (suc more)))))))))))))))) h = absurd (omega arith)

-- what digits spell that were written for octets
pub octets_of-hex_of : (octets : List ℕ) → All (λ octet. octet < 256) octets → octets_of (hex_of octets) ≡ Some octets
octets_of-hex_of [] small = refl
octets_of-hex_of (octet ∷ octets) small =
    let below = All-head (λ octet. octet < 256) octet octets small in
    let high : half_of (digit_of (octet / 16)) ≡ Some (octet / 16) = half_of-digit_of (octet / 16) (omega arith) in
    let low : half_of (digit_of (octet % 16)) ≡ Some (octet % 16) = half_of-digit_of (octet % 16) (omega arith) in
    let same : octet / 16 * 16 + octet % 16 ≡ octet = omega arith in
    ap (λ h. octet_before h (half_of (digit_of (octet % 16))) (octets_of (hex_of octets))) high
    ∙ ap (λ l. octet_before (Some (octet / 16)) l (octets_of (hex_of octets))) low
    ∙ ap (λ o. octet_before (Some (octet / 16)) (Some (octet % 16)) o) (octets_of-hex_of octets (All-tail (λ octet. octet < 256) octet octets small))
    ∙ ap (λ (n : ℕ). Some (n ∷ octets)) same

pub no_octets : (high low : Option ℕ) → octet_before high low None ≡ None
no_octets None low = refl
no_octets (Some high) None = refl
no_octets (Some high) (Some low) = refl

no_low : (high : Option ℕ) (octets : Option (List ℕ)) → octet_before high None octets ≡ None
no_low None octets = refl
no_low (Some high) octets = refl

-- a last digit without a partner spells nothing
pub octets_of-half : (octets : List ℕ) (half : ℕ) → octets_of (hex_of octets ++ digit_of half ∷ []) ≡ None
octets_of-half [] half = refl
octets_of-half (octet ∷ octets) half =
    let first = half_of (digit_of (octet / 16)) in
    let second = half_of (digit_of (octet % 16)) in
    ap (λ o. octet_before first second o) (octets_of-half octets half) ∙ no_octets first second

-- nor does a text with an octet that is no digit
pub octets_of-stray : (text : List ℕ) (stray : ℕ) (more : List ℕ) → half_of stray ≡ None → octets_of (text ++ stray ∷ more) ≡ None
octets_of-stray [] stray [] bad = refl
octets_of-stray [] stray (next ∷ more) bad = ap (λ h. octet_before h (half_of next) (octets_of more)) bad
octets_of-stray (digit ∷ []) stray more bad =
    ap (λ l. octet_before (half_of digit) l (octets_of more)) bad ∙ no_low (half_of digit) (octets_of more)
octets_of-stray (high ∷ low ∷ text) stray more bad =
    ap (λ o. octet_before (half_of high) (half_of low) o) (octets_of-stray text stray more bad) ∙ no_octets (half_of high) (half_of low)

-- one octet of two halves
pub hex_of-one : (high low : ℕ) → high < 16 → low < 16 → hex_of ((high * 16 + low) ∷ []) ≡ digit_of high ∷ digit_of low ∷ []
hex_of-one high low h l =
    let first : (high * 16 + low) / 16 ≡ high = omega arith in
    let second : (high * 16 + low) % 16 ≡ low = omega arith in
    ap (λ (n : ℕ). digit_of n ∷ digit_of ((high * 16 + low) % 16) ∷ []) first ∙ ap (λ (n : ℕ). digit_of high ∷ digit_of n ∷ []) second

-- a pair of digits more
pub one_pair : (text octets : List ℕ) (place high low : ℕ) → 2 * place + 1 < length text → hex_of octets ≡ take (2 * place) text
    → IsHalfOf high (get_or text (2 * place) 0) → IsHalfOf low (get_or text (2 * place + 1) 0)
    → hex_of (octets ++ (high * 16 + low) ∷ []) ≡ take (2 * (place + 1)) text
one_pair text octets place high low within so_far is_high is_low =
    let above : take (2 * place + 1) text ≡ take (2 * place) text ++ get_or text (2 * place) 0 ∷ [] = take_more text (2 * place) 0 (omega arith) in
    let again : take (2 * place + 1 + 1) text ≡ take (2 * place + 1) text ++ get_or text (2 * place + 1) 0 ∷ [] = take_more text (2 * place + 1) 0 (omega arith) in
    let same : 2 * place + 1 + 1 ≡ 2 * (place + 1) = omega arith in
    hex_of-append octets ((high * 16 + low) ∷ [])
    ∙ ap (λ l. hex_of octets ++ l) (hex_of-one high low is_high.0 is_low.0)
    ∙ ap (λ l. l ++ digit_of high ∷ digit_of low ∷ []) so_far
    ∙ ap (λ d. take (2 * place) text ++ d ∷ digit_of low ∷ []) is_high.1
    ∙ ap (λ d. take (2 * place) text ++ get_or text (2 * place) 0 ∷ d ∷ []) is_low.1
    ∙ sym (append_assoc (take (2 * place) text) (get_or text (2 * place) 0 ∷ []) (get_or text (2 * place + 1) 0 ∷ []))
    ∙ ap (λ l. l ++ get_or text (2 * place + 1) 0 ∷ []) (sym above)
    ∙ sym again
    ∙ ap (λ (n : ℕ). take n text) same

first_half_of-drop : (text : List ℕ) (place : ℕ) → place < length text → first_half_of (drop place text) ≡ half_of (get_or text place 0)
first_half_of-drop text place within = ap first_half_of (drop_more text place 0 within)

none_some : (half : ℕ) (found : Option ℕ) → found ≡ None → found ≡ Some half → ⊥
none_some half found none some = absurd cc

other_half : (a b : Option ℕ) (half : ℕ) → (a ≡ None) ⊎ (b ≡ None) → a ≡ Some half → b ≡ None
other_half a b half (inl none) some = absurd (none_some half a none some)
other_half a b half (inr none) some = none

small_append : (xs ys : List ℕ) → All (λ octet. octet < 256) xs → All (λ octet. octet < 256) ys → All (λ octet. octet < 256) (xs ++ ys)
small_append xs ys = All-append (λ octet. octet < 256) xs ys

module _ (old new text : List ℕ) (count : ℕ) (pairs : TakesPairs old new text count) where
  appended : hex_of new ≡ hex_of old ++ take (2 * count) text
  appended = ap hex_of pairs.more.1 ∙ hex_of-append old pairs.more.0 ∙ ap (λ l. hex_of old ++ l) pairs.more.2

  -- no digit stands after pairs
  pub pairs_alone : first_half_of (drop (2 * count) text) ≡ None → TakesOctets old None new None text (2 * count)
  pairs_alone none = record {
    takes = record {
      within = pairs.within;
      digits = append-nil (hex_of new) ∙ appended ∙ ap (λ l. l ++ take (2 * count) text) (sym (append-nil (hex_of old)));
      stopped = λ within. sym (first_half_of-drop text (2 * count) within) ∙ none;
    };
    more = (pairs.more.0, pairs.more.1, pairs.more.3);
    small = tt;
  }

  -- one digit stands after pairs
  pub pairs_half : (half : ℕ) → first_half_of (drop (2 * count) text) ≡ Some half → IsHalfOf half (get_or (drop (2 * count) text) 0 0)
      → TakesOctets old None new (Some half) text (2 * count + 1)
  pairs_half half some is_half =
      let rest = drop (2 * count) text in
      let there : 2 * count < length text = there_by rest some (length-drop (2 * count) text) in
      let digit : get_or rest 0 0 ≡ get_or text (2 * count) 0 = ap (λ (l : List ℕ). get_or l 0 0) (drop_more text (2 * count) 0 there) in
      let first : half_of (get_or text (2 * count) 0) ≡ Some half = sym (first_half_of-drop text (2 * count) there) ∙ some in
      record {
        takes = record {
          within = omega arith;
          digits = ap (λ l. l ++ digit_of half ∷ []) (appended ∙ ap (λ l. l ++ take (2 * count) text) (sym (append-nil (hex_of old))))
              ∙ append_assoc (hex_of old ++ []) (take (2 * count) text) (digit_of half ∷ [])
              ∙ ap (λ d. (hex_of old ++ []) ++ (take (2 * count) text ++ d ∷ [])) (is_half.1 ∙ digit)
              ∙ ap (λ l. (hex_of old ++ []) ++ l) (sym (take_more text (2 * count) 0 there));
          stopped = λ within. other_half (half_of (get_or text (2 * count) 0)) (half_of (get_or text (2 * count + 1) 0)) half (pairs.stopped within) first;
        };
        more = (pairs.more.0, pairs.more.1, pairs.more.3);
        small = is_half.0;
      }
    where
      there_by : (rest : List ℕ) → first_half_of rest ≡ Some half → length rest ≡ length text - 2 * count → 2 * count < length text
      there_by [] some same = absurd cc
      there_by (digit ∷ rest) some same = omega (arith, same)

-- half an octet waits, and no digit comes
pub none_taken : (octets text : List ℕ) (high : ℕ) → high < 16 → first_half_of text ≡ None → TakesOctets octets (Some high) octets (Some high) text 0
none_taken octets text high small none = record {
  takes = record {
    within = omega arith;
    digits = sym (append-nil (hex_of octets ++ digit_of high ∷ []));
    stopped = λ within. sym (first_half_of-drop text 0 within) ∙ none;
  };
  more = ([], sym (append-nil octets), All-nil (λ octet. octet < 256));
  small = small;
}

-- its other half comes, and then others
pub one_taken : (old new text : List ℕ) (high low : ℕ) (last : Option ℕ) (count : ℕ) → high < 16 → first_half_of text ≡ Some low → IsHalfOf low (get_or text 0 0)
    → TakesOctets (old ++ (high * 16 + low) ∷ []) None new last (drop 1 text) count → TakesOctets old (Some high) new last text (1 + count)
one_taken old new [] high low last count small some is_low later = absurd cc
one_taken old new (digit ∷ text) high low last count small some is_low later =
    let octet = high * 16 + low in
    let below = is_low.0 in
    let start : hex_of (old ++ octet ∷ []) ++ [] ≡ (hex_of old ++ digit_of high ∷ []) ++ digit ∷ [] =
    append-nil (hex_of (old ++ octet ∷ [])) ∙ hex_of-append old (octet ∷ []) ∙ ap (λ l. hex_of old ++ l) (hex_of-one high low small is_low.0)
    ∙ ap (λ d. hex_of old ++ digit_of high ∷ d ∷ []) is_low.1 ∙ sym (append_assoc (hex_of old) (digit_of high ∷ []) (digit ∷ [])) in
    let within : count ≤ length text = later.takes.within in
    let next : suc count ≡ 1 + count = omega arith in
    record {
      takes = record {
        within = omega arith;
        digits = later.takes.digits ∙ ap (λ l. l ++ take count text) start ∙ append_assoc (hex_of old ++ digit_of high ∷ []) (digit ∷ []) (take count text)
            ∙ ap (λ (n : ℕ). (hex_of old ++ digit_of high ∷ []) ++ take n (digit ∷ text)) next;
        stopped = λ within. subst (λ (n : ℕ). half_of (get_or (digit ∷ text) n 0) ≡ None) next (later.takes.stopped (omega arith));
      };
      more = (
        octet ∷ later.more.0,
        later.more.1 ∙ append_assoc old (octet ∷ []) later.more.0,
        All-cons (λ octet. octet < 256) octet later.more.0 (omega arith) later.more.2,
      );
      small = later.small;
    }

-- all octets stay octets
pub octets_small : (old new text : List ℕ) (high last : Option ℕ) (count : ℕ) → TakesOctets old high new last text count
    → All (λ octet. octet < 256) old → All (λ octet. octet < 256) new
octets_small old new text high last count takes small =
    subst (All (λ octet. octet < 256)) (sym takes.more.1) (small_append old takes.more.0 small takes.more.2)

-- what a line's digits are, by whether half an octet waits
pub length_waiting : (octets now : List ℕ) (high : Option ℕ) (half : ℕ) → hex_of octets ++ half_text high ≡ now → high ≡ Some half
    → length now ≡ 2 * length octets + 1
length_waiting octets now high half is waits =
    let same : hex_of octets ++ digit_of half ∷ [] ≡ now = ap (λ h. hex_of octets ++ half_text h) (sym waits) ∙ is in
    let sum : length (hex_of octets ++ digit_of half ∷ []) ≡ length now = ap length same in
    omega (arith, sum, length-hex_of octets, length-append (hex_of octets) (digit_of half ∷ []))

pub whole_octets : (octets now : List ℕ) (high : Option ℕ) → hex_of octets ++ half_text high ≡ now → high ≡ None → hex_of octets ≡ now
whole_octets octets now high is none = sym (append-nil (hex_of octets)) ∙ ap (λ h. hex_of octets ++ half_text h) (sym none) ∙ is

pub length_whole : (octets now : List ℕ) (high : Option ℕ) → hex_of octets ++ half_text high ≡ now → high ≡ None → length now ≡ 2 * length octets
length_whole octets now high is none =
    let sum : length (hex_of octets) ≡ length now = ap length (whole_octets octets now high is none) in
    omega (arith, sum, length-hex_of octets)

-- half an octet that waits spells nothing
pub none_spelled : (octets now : List ℕ) (high : Option ℕ) → hex_of octets ++ half_text high ≡ now → is_some high ≡ true → octets_of now ≡ None
none_spelled octets now None is waits = absurd cc
none_spelled octets now (Some half) is waits = ap octets_of (sym is) ∙ octets_of-half octets half

-- no octets and no half octet are no digits; no octets and half an octet spell nothing
pub nothing_spelled : (octets now : List ℕ) (high : Option ℕ) → hex_of octets ++ half_text high ≡ now → octets ≡ [] → (now ≡ []) ⊎ (octets_of now ≡ None)
nothing_spelled octets now None is none = inl (sym is ∙ append-nil (hex_of octets) ∙ ap hex_of none)
nothing_spelled octets now (Some half) is none = inr (none_spelled octets now (Some half) is refl)

pub not_waiting : (high : Option ℕ) → is_some high ≡ false → high ≡ None
not_waiting None waits = refl
not_waiting (Some half) waits = absurd cc

pub spelled : (octets now : List ℕ) (high : Option ℕ) → hex_of octets ++ half_text high ≡ now → is_some high ≡ false → All (λ octet. octet < 256) octets
    → octets_of now ≡ Some octets
spelled octets now high is waits small = ap octets_of (sym (whole_octets octets now high is (not_waiting high waits))) ∙ octets_of-hex_of octets small

pub forgotten : (octets : List ℕ) (high : Option ℕ) → octets ≡ [] → is_some high ≡ false → hex_of octets ++ half_text high ≡ []
forgotten octets None none waits = append-nil (hex_of octets) ∙ ap hex_of none
forgotten octets (Some half) none waits = absurd cc

pub positive : (n : ℕ) → n ≢ 0 → 0 < n
positive zero other = absurd (other refl)
positive (suc n) other = omega arith

digit_of-no_feed : (half : ℕ) → digit_of half ≢ line_feed
digit_of-no_feed half = by (nat_lt half 10)
  where
    by : (low : Bool) → (if low then 48 + half else 55 + half) ≢ line_feed
    by true = λ e. omega (arith, e)
    by false = λ e. omega (arith, e)

-- no digit is a line feed
pub digits_in_line : (octets : List ℕ) (high : Option ℕ) → IsInLine (hex_of octets ++ half_text high)
digits_in_line [] None = All-nil (λ octet. octet ≢ line_feed)
digits_in_line [] (Some half) =
    All-cons (λ octet. octet ≢ line_feed) (digit_of half) [] (digit_of-no_feed half) (All-nil (λ octet. octet ≢ line_feed))
digits_in_line (octet ∷ octets) high =
    let rest = hex_of octets ++ half_text high in
    All-cons (λ octet. octet ≢ line_feed) (digit_of (octet / 16)) (digit_of (octet % 16) ∷ rest) (digit_of-no_feed (octet / 16))
    (All-cons (λ octet. octet ≢ line_feed) (digit_of (octet % 16)) rest (digit_of-no_feed (octet % 16)) (digits_in_line octets high))
