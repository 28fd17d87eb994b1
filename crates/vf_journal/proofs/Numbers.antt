-- Places in eight octets, and lengths in four.
use Rattle.std.proofs.Common.{◌≡◌, ℕ, ◌<◌, ◌≤◌, ◌^◌, List, ◌++◌, length, take, refl, arith}
use Rattle.std.specs.Int.{to_be_bytes, w32, w64}
use Rattle.byteorder.specs.Numbers.{big_number-reads_back, length-bytes_high_first, big_from-append, big_from-take}
use Rattle.vf_journal.specs.Layout.{place_octets, place_named, length_octets, length_named}

pub length-place_octets : (place : ℕ) → length (place_octets place) ≡ 8
unfolding place_octets
length-place_octets place = length-bytes_high_first 8 place

pub place_read_back : (place : ℕ) (rest : List ℕ) → place < 2 ^ 64 → place_named (place_octets place ++ rest) ≡ place
unfolding place_octets place_named
place_read_back place rest small = big_number-reads_back 8 place rest small

pub place_named-take : (octets : List ℕ) → place_named (take 8 octets) ≡ place_named octets
unfolding place_named
place_named-take octets = big_from-take 0 8 8 octets (omega arith)

pub length-length_octets : (count : ℕ) → length (length_octets count) ≡ 4
unfolding length_octets
length-length_octets count = length-bytes_high_first 4 count

pub length_read_back : (count : ℕ) (rest : List ℕ) → count < 2 ^ 32 → length_named (length_octets count ++ rest) ≡ count
unfolding length_octets length_named
length_read_back count rest small = big_number-reads_back 4 count rest small

pub length_named-append : (octets rest : List ℕ) → 4 ≤ length octets → length_named (octets ++ rest) ≡ length_named octets
unfolding length_named
length_named-append octets rest long = big_from-append 4 octets rest long

-- as the code makes them
pub place_octets_are : (place : ℕ) → to_be_bytes w64 place ≡ place_octets place
unfolding place_octets
place_octets_are place = refl

pub length_octets_are : (count : ℕ) → to_be_bytes w32 count ≡ length_octets count
unfolding length_octets
length_octets_are count = refl
