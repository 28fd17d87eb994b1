-- Messages in octets, one value after another.
use Rattle.std.proofs.Common.{◌≡◌, ◌<◌, ◌≤◌, ℕ, zero, suc, ◌+◌, ◌-◌, List, [], ◌∷◌, ◌++◌, length, drop, take, Option, Some, None, Result, Ok, Err, refl, sym, ap, ◌∙◌, arith, append_assoc, append-nil}
use Rattle.std.specs.Option.{option_map}
use Rattle.std.proofs.lemmas.List.{length-take-le}
use Rattle.vf_ber.specs.Laws.{HasAReading, HasOneReading}
use Rattle.vf_ber.specs.Reader.{reading}
use Rattle.vf_ber.specs.Reading.{IsReading, Reading, Read, Short, Bad, Deep, Long}
use Rattle.vf_ber.specs.Tree.{Tree}
use Rattle.vf_ber.proofs.OneTree.{spelling_long}
use Rattle.vf_elements.specs.Messages.{message_in}
use Rattle.vf_elements.specs.declared.message.Message.{Message}
use Rattle.vf_pdu_fields.specs.Fault.{Fault}
use Rattle.vf_cli_script.specs.Statements.{after_value, in_front, meant, message_of, messages_after, messages_in}

-- a value has an octet at least
pub some_octets : (octets : List ℕ) (tree : Tree) (count : ℕ) → IsReading octets (Read tree count) → (0 < count) × (count ≤ length octets)
some_octets octets tree count (le, (spells, within)) =
    let long = spelling_long (take count octets) tree spells in
    let len = length-take-le count octets le in
    (omega arith, le)

pub is_reading : HasAReading → HasOneReading → (octets : List ℕ) (r : Reading) → IsReading octets r → reading octets ≡ r
is_reading some one octets r is = one octets (reading octets) r (some octets) is

abbrev pub IsNoValue : Reading → Type 0
IsNoValue (Read tree count) = ⊥
IsNoValue Short = Unit {0}
IsNoValue (Bad at) = Unit {0}
IsNoValue (Deep at) = Unit {0}
IsNoValue (Long at) = Unit {0}

-- octets that are read as no value
pub no_value : (octets : List ℕ) (r : Reading) → reading octets ≡ r → IsNoValue r → (tree : Tree) (count : ℕ) → reading octets ≡ Read tree count → ⊥
no_value octets (Read tree count) is nothing other number e = nothing
no_value octets Short is nothing tree count e = let other : Short ≡ Read tree count = sym is ∙ e in cc
no_value octets (Bad at) is nothing tree count e = let other : Bad at ≡ Read tree count = sym is ∙ e in cc
no_value octets (Deep at) is nothing tree count e = let other : Deep at ≡ Read tree count = sym is ∙ e in cc
no_value octets (Long at) is nothing tree count e = let other : Long at ≡ Read tree count = sym is ∙ e in cc

skip : (others : ℕ) (octets : List ℕ) → messages_after others octets ≡ messages_in (drop others octets)
unfolding messages_after
skip zero octets = refl
skip (suc others) [] = refl
skip (suc others) (octet ∷ octets) = skip others octets

behind : (count : ℕ) (octet : ℕ) (octets : List ℕ) → 0 < count → messages_after (count - 1) octets ≡ messages_in (drop count (octet ∷ octets))
behind zero octet octets some = absurd (omega (arith, some))
behind (suc count) octet octets some =
    let less : suc count - 1 ≡ count = omega arith in ap (λ (n : ℕ). messages_after n octets) less ∙ skip count octets

-- the message of the first value, and those behind it
pub messages_more : (octets : List ℕ) (tree : Tree) (count : ℕ) → reading octets ≡ Read tree count → 0 < count → 0 < length octets
    → messages_in octets ≡ in_front (message_in tree) (messages_in (drop count octets))
unfolding messages_after
messages_more [] tree count is some within = absurd (omega (arith, within))
messages_more (octet ∷ octets) tree count is some within = rw is (ap (in_front (message_in tree)) (behind count octet octets some))

-- no value stands there
pub messages_none : (octets : List ℕ) → 0 < length octets → ((tree : Tree) (count : ℕ) → reading octets ≡ Read tree count → ⊥) → messages_in octets ≡ None
unfolding messages_after
messages_none [] within none = absurd (omega (arith, within))
messages_none (octet ∷ octets) within none = by (reading (octet ∷ octets)) refl
  where
    by : (r : Reading) → reading (octet ∷ octets) ≡ r → after_value r (λ count. messages_after (count - 1) octets) ≡ None
    by (Read tree count) is = absurd (none tree count is)
    by Short is = refl
    by (Bad at) is = refl
    by (Deep at) is = refl
    by (Long at) is = refl

pub front_some : (read : Result Message Fault) (message : Message) (later : Option (List Message)) → Some message ≡ meant read
    → in_front read later ≡ option_map (λ (messages : List Message). message ∷ messages) later
front_some (Ok other) message later is = let same : message ≡ other = cc in ap (λ (m : Message). option_map (λ (messages : List Message). m ∷ messages) later) (sym same)
front_some (Err fault) message later is = absurd cc

pub front_none : (read : Result Message Fault) (later : Option (List Message)) → None ≡ meant read → in_front read later ≡ None
front_none (Ok other) later is = absurd cc
front_none (Err fault) later is = refl

-- so many messages in front of others
abbrev pub behind_all : List Message → Option (List Message) → Option (List Message)
behind_all before later = option_map (λ (messages : List Message). before ++ messages) later

pub one_more : (before : List Message) (message : Message) (later : Option (List Message))
    → behind_all before (option_map (λ (messages : List Message). message ∷ messages) later) ≡ behind_all (before ++ message ∷ []) later
one_more before message None = refl
one_more before message (Some messages) = ap (λ (l : List Message). Some l) (sym (append_assoc before (message ∷ []) messages))

pub none_before : (later : Option (List Message)) → behind_all [] later ≡ later
none_before None = refl
none_before (Some messages) = refl

pub all_before : (before : List Message) → behind_all before (Some []) ≡ Some before
all_before before = ap (λ (l : List Message). Some l) (append-nil before)

-- one message more
pub kept_more : (octets rest : List ℕ) (before pushed : List Message) (tree : Tree) (count : ℕ) (found : Option Message) (message : Message) (later : List ℕ)
    → messages_in octets ≡ behind_all before (messages_in rest) → reading rest ≡ Read tree count → (0 < count) × (count ≤ length rest) → found ≡ message_of tree → found ≡ Some message
    → pushed ≡ before ++ message ∷ [] → later ≡ drop count rest → messages_in octets ≡ behind_all pushed (messages_in later)
kept_more octets rest before pushed tree count found message later so_far is some gives told push split =
    so_far ∙ ap (behind_all before) (messages_more rest tree count is some.0 (omega (arith, some.0, some.1)))
    ∙ ap (behind_all before) (front_some (message_in tree) message (messages_in (drop count rest)) (sym told ∙ gives))
    ∙ one_more before message (messages_in (drop count rest))
    ∙ (λ i. behind_all (sym push i) (messages_in (sym split i)))

-- a value that means no message
pub kept_none : (octets rest : List ℕ) (before : List Message) (tree : Tree) (count : ℕ) (found : Option Message)
    → messages_in octets ≡ behind_all before (messages_in rest) → reading rest ≡ Read tree count → (0 < count) × (count ≤ length rest) → found ≡ message_of tree → found ≡ None
    → None ≡ messages_in octets
kept_none octets rest before tree count found so_far is some gives told =
    sym (so_far ∙ ap (behind_all before) (messages_more rest tree count is some.0 (omega (arith, some.0, some.1)) ∙ front_none (message_in tree) (messages_in (drop count rest)) (sym told ∙ gives)))

-- nothing is left
pub kept_all : (octets rest : List ℕ) (messages : List Message) → messages_in octets ≡ behind_all messages (messages_in rest) → length rest ≤ 0 → Some messages ≡ messages_in octets
unfolding messages_after
kept_all octets [] messages so_far few = sym (so_far ∙ all_before messages)
kept_all octets (octet ∷ rest) messages so_far few = absurd (omega (arith, few))
