-- The digits of runs of octets, which are written at once.
use Rattle.std.proofs.Common.{◌≡◌, ℕ, ◌+◌, ◌-◌, ◌*◌, ◌/◌, ◌%◌, ◌<◌, ◌≤◌, List, [], ◌∷◌, ◌++◌, length, drop, take, set, get_or, sym, ap, ◌∙◌, arith, append_assoc}
use Rattle.std.proofs.Math.Seq.{take-add}
use Rattle.std.proofs.lemmas.List.{length-set, take-append-drop, take_all, take_more, take_more_set}
use Rattle.vf_cli_dialogue.specs.Hex.{digit_of, hex_of}
use Rattle.vf_cli_dialogue.specs.Lines.{hex_line, line_feed}
use Rattle.vf_cli_dialogue.proofs.HexLemmas.{hex_of-append}

-- the digits of one octet more are written into a run
pub digits_next : (octets digits : List ℕ) (place high low : ℕ) → place < length octets → 2 * place + 1 < length digits
    → high ≡ digit_of (get_or octets place 0 / 16) → low ≡ digit_of (get_or octets place 0 % 16)
    → take (2 * place) digits ≡ hex_of (take place octets)
    → take (2 * (place + 1)) (set (set digits (2 * place) high) (2 * place + 1) low) ≡ hex_of (take (place + 1) octets)
digits_next octets digits place high low below fits is_high is_low so_far =
    let octet = get_or octets place 0 in
    let once : List ℕ = set digits (2 * place) high in
    let twice : List ℕ = set once (2 * place + 1) low in
    let len : length once ≡ length digits = length-set digits (2 * place) high in
    let two : 2 * (place + 1) ≡ 2 * place + 1 + 1 = omega arith in
    let first : take (2 * place + 1) once ≡ take (2 * place) digits ++ high ∷ [] = take_more_set digits (2 * place) high (omega arith) in
    let second : take (2 * place + 1 + 1) twice ≡ take (2 * place + 1) once ++ low ∷ [] = take_more_set once (2 * place + 1) low (omega (arith, len)) in
    let next : hex_of (take (place + 1) octets) ≡ hex_of (take place octets) ++ digit_of (octet / 16) ∷ digit_of (octet % 16) ∷ [] =
    ap hex_of (take_more octets place 0 below) ∙ hex_of-append (take place octets) (octet ∷ []) in
    ap (λ (n : ℕ). take n twice) two
    ∙ second
    ∙ ap (λ (l : List ℕ). l ++ low ∷ []) (first ∙ ap (λ (l : List ℕ). l ++ high ∷ []) so_far)
    ∙ append_assoc (hex_of (take place octets)) (high ∷ []) (low ∷ [])
    ∙ ap (λ (n : ℕ). hex_of (take place octets) ++ n ∷ low ∷ []) is_high
    ∙ ap (λ (n : ℕ). hex_of (take place octets) ++ digit_of (octet / 16) ∷ n ∷ []) is_low
    ∙ sym next

pub digits_all : (octets digits : List ℕ) (place : ℕ) → place ≡ 32 → length octets ≡ 32 → length digits ≡ 64
    → take (2 * place) digits ≡ hex_of (take place octets) → digits ≡ hex_of octets
digits_all octets digits place all many twice so_far =
    sym (take_all (2 * place) digits (omega arith)) ∙ so_far ∙ ap hex_of (take_all place octets (omega arith))

-- a run of digits after others
pub run_put : (octets old text new digits : List ℕ) (run : ℕ) → 32 * run + 32 ≤ length octets
    → text ≡ old ++ hex_of (take (32 * run) octets) → digits ≡ hex_of (take (32 * run + 32 - 32 * run) (drop (32 * run) octets)) → new ≡ text ++ digits
    → new ≡ old ++ hex_of (take (32 * (run + 1)) octets)
run_put octets old text new digits run within so_far is_digits is_new =
    let at = 32 * run in
    let many : at + 32 - at ≡ 32 = omega arith in
    let next : at + 32 ≡ 32 * (run + 1) = omega arith in
    is_new
    ∙ ap (λ (l : List ℕ). l ++ digits) so_far
    ∙ append_assoc old (hex_of (take at octets)) digits
    ∙ ap (λ (l : List ℕ). old ++ (hex_of (take at octets) ++ l)) (is_digits ∙ ap (λ (n : ℕ). hex_of (take n (drop at octets))) many)
    ∙ ap (λ (l : List ℕ). old ++ l) (sym (hex_of-append (take at octets) (take 32 (drop at octets))))
    ∙ ap (λ (l : List ℕ). old ++ hex_of l) (sym (take-add at 32 octets))
    ∙ ap (λ (n : ℕ). old ++ hex_of (take n octets)) next

-- a line: runs, the octets after them and a line feed
pub line_put : (octets rest old first second new : List ℕ) (done : ℕ) → first ≡ old ++ hex_of (take done octets) → rest ≡ drop done octets
    → second ≡ first ++ hex_of rest → new ≡ second ++ line_feed ∷ [] → new ≡ old ++ hex_line octets
line_put octets rest old first second new done is_first is_rest is_second is_new =
    let front : List ℕ = take done octets in
    let back : List ℕ = drop done octets in
    let whole : hex_of front ++ hex_of back ≡ hex_of octets = sym (hex_of-append front back) ∙ ap hex_of (take-append-drop done octets) in
    let digits : second ≡ old ++ hex_of octets =
    is_second
    ∙ ap (λ (l : List ℕ). l ++ hex_of rest) is_first
    ∙ ap (λ (l : List ℕ). (old ++ hex_of front) ++ hex_of l) is_rest
    ∙ append_assoc old (hex_of front) (hex_of back)
    ∙ ap (λ (l : List ℕ). old ++ l) whole in
    is_new ∙ ap (λ (l : List ℕ). l ++ line_feed ∷ []) digits ∙ append_assoc old (hex_of octets) (line_feed ∷ [])
