-- The line that spells octets, as it is put after a text two digits at a time.
use Rattle.std.proofs.Common.{◌≡◌, ◌<◌, ◌+◌, ◌/◌, ◌%◌, ◌++◌, ℕ, List, [], ◌∷◌, ap, length, sym, take, ◌∙◌, get_or, append_assoc}
use Rattle.std.proofs.lemmas.List.{take_more}
use Rattle.vf_cli_dialogue.specs.Hex.{digit_of, hex_of}
use Rattle.vf_cli_dialogue.proofs.HexLemmas.{hex_of-append}

pub put_next : (octets old text : List ℕ) (count : ℕ) → count < length octets → text ≡ old ++ hex_of (take count octets)
    → (text ++ digit_of (get_or octets count 0 / 16) ∷ []) ++ digit_of (get_or octets count 0 % 16) ∷ [] ≡ old ++ hex_of (take (count + 1) octets)
put_next octets old text count below so_far =
    let octet = get_or octets count 0 in
    let digits : hex_of (take (count + 1) octets) ≡ hex_of (take count octets) ++ digit_of (octet / 16) ∷ digit_of (octet % 16) ∷ [] =
    ap hex_of (take_more octets count 0 below) ∙ hex_of-append (take count octets) (octet ∷ []) in
    append_assoc text (digit_of (octet / 16) ∷ []) (digit_of (octet % 16) ∷ [])
    ∙ ap (λ l. l ++ digit_of (octet / 16) ∷ digit_of (octet % 16) ∷ []) so_far
    ∙ append_assoc old (hex_of (take count octets)) (digit_of (octet / 16) ∷ digit_of (octet % 16) ∷ [])
    ∙ ap (λ l. old ++ l) (sym digits)
