-- A value of context class without parts: octets that begin with its identifier and the length 0 are read as it.
use Rattle.std.proofs.Common.{◌≡◌, ℕ, ◌+◌, ◌*◌, ◌≤◌, ◌<◌, true, List, [], ◌∷◌, ◌++◌, length, Option, Some, None, Ok, refl, ap, sym, subst, arith, inl}
use Rattle.std.specs.Prelude.{IfSome, nat_lt, unwrap_or}
use Rattle.std.proofs.lemmas.Bool.{lt-ltb}
use Rattle.vf_ber.specs.Reading.{IsReading, Read}
use Rattle.vf_ber.specs.Spelling.{identifier, spell}
use Rattle.vf_ber.specs.Tree.{Tag, Tree, built, none}
use Rattle.vf_cli_dialogue.specs.Alone.{alone}
use Rattle.vf_elements.specs.Messages.{message_in}
use Rattle.vf_elements.specs.declared.message.Message.TheVariants as messages
use Rattle.vf_pdu.specs.PduRows.{row_of}
use Rattle.vf_pdu.specs.PduValue.{value}
use Rattle.vf_pdu.specs.declared.pdu.Pdu.{Pdu}
use Rattle.vf_pdu.specs.declared.pdu.Pdu.TheVariants.{SelectResponse, DeselectResponse, CreateResponse, DeleteResponse, ChangeAttribResponse, CloseResponse, BeginGroupResponse, EndGroupResponse}

header_alone : (number : ℕ) → nat_lt number 31 ≡ true → (64 * 2 + (32 + number)) ∷ 0 ∷ [] ≡ identifier true (record { class = 2; number = number }) ++ (0 ∷ [])
header_alone number small = rw small refl

pub reads_alone : (number : ℕ) (rest : List ℕ) → number < 31 → IsReading ((64 * 2 + (32 + number)) ∷ 0 ∷ rest) (Read (built (record { class = 2; number = number }) none) 2)
reads_alone number rest small =
    let tag : Tag = record { class = 2; number = number } in
    let two : 2 ≤ length ((64 * 2 + (32 + number)) ∷ 0 ∷ rest) = omega arith in (
      two,
      (
        (
          record { class_within = omega arith; number_within = omega arith; some_value = omega arith },
          ([], refl, inl (0 ∷ [], inl (refl, omega arith), header_alone number (lt-ltb number 31 small))),
        ),
        (omega arith, omega arith),
      ),
    )

pub reads_octets : (octets : List ℕ) (number : ℕ) → number < 31 → ((rest : List ℕ) × (octets ≡ (64 * 2 + (32 + number)) ∷ 0 ∷ rest)) → IsReading octets (Read (built (record { class = 2; number = number }) none) 2)
reads_octets octets number small (rest, is) = subst (λ (all : List ℕ). IsReading all (Read (built (record { class = 2; number = number }) none) 2)) (sym is) (reads_alone number rest small)

-- the request that such a value means, where there is one
pub reads_request : (octets : List ℕ) (tree : Tree) (found : Option Pdu) → IsReading octets (Read tree 2) → IfSome found (λ request. message_in tree ≡ Ok (messages.Pdu request))
    → IfSome found (λ request. (tree : Tree) × IsReading octets (Read tree 2) × (message_in tree ≡ Ok (messages.Pdu request)))
reads_request octets tree (Some request) read means = (tree, read, means)
reads_request octets tree None read means = tt

pub alone_spells : (pdu : Pdu) (first : ℕ) → alone pdu ≡ Some first → spell (value pdu) ≡ first ∷ 0 ∷ []
unfolding row_of
alone_spells (SelectResponse None) first is = ap (λ (found : Option ℕ). unwrap_or found 0 ∷ 0 ∷ []) is
alone_spells (DeselectResponse None) first is = ap (λ (found : Option ℕ). unwrap_or found 0 ∷ 0 ∷ []) is
alone_spells (CreateResponse None) first is = ap (λ (found : Option ℕ). unwrap_or found 0 ∷ 0 ∷ []) is
alone_spells (DeleteResponse None) first is = ap (λ (found : Option ℕ). unwrap_or found 0 ∷ 0 ∷ []) is
alone_spells (ChangeAttribResponse None) first is = ap (λ (found : Option ℕ). unwrap_or found 0 ∷ 0 ∷ []) is
alone_spells (CloseResponse None) first is = ap (λ (found : Option ℕ). unwrap_or found 0 ∷ 0 ∷ []) is
alone_spells BeginGroupResponse first is = ap (λ (found : Option ℕ). unwrap_or found 0 ∷ 0 ∷ []) is
alone_spells EndGroupResponse first is = ap (λ (found : Option ℕ). unwrap_or found 0 ∷ 0 ∷ []) is
alone_spells pdu first is = absurd cc
