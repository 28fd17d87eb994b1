-- What was written, one part after another.
use Rattle.std.proofs.Common.{◌≡◌, ℕ, List, [], ◌++◌, Option, None, Some, refl, ap, sym, subst, ◌∙◌, append_assoc, append-nil}
use Rattle.vf_filestore.specs.State.{State}
use Rattle.vf_cli_dialogue.specs.Conversation.{IsQuiet}
use Rattle.vf_cli_dialogue.specs.Dialogue.{dialogue_from, received, joined, prints_after, said_to}
use Rattle.vf_cli_dialogue.specs.Lines.{Input, bad_at, bad_line, ended, piece_before}
use Rattle.vf_cli_printing.specs.Printed.{Wrote, WrotePrefix}

pub wrote_nothing : (taken : Option (List ℕ)) → Wrote [] taken taken
wrote_nothing None = tt
wrote_nothing (Some octets) = ap Some (sym (append-nil octets))

pub prefix_nothing : (octets : List ℕ) (taken : Option (List ℕ)) → WrotePrefix octets taken taken
prefix_nothing octets taken = ([], octets, refl, wrote_nothing taken)

pub wrote-wrote : (one two : List ℕ) (old between new : Option (List ℕ)) → Wrote one old between → Wrote two between new → Wrote (one ++ two) old new
wrote-wrote one two None between new first second = tt
wrote-wrote one two (Some octets) between new first second =
    subst (λ (o : Option (List ℕ)). Wrote two o new) first second ∙ ap Some (append_assoc octets one two)

pub wrote-prefix : (one two : List ℕ) (old between new : Option (List ℕ)) → Wrote one old between → WrotePrefix two between new → WrotePrefix (one ++ two) old new
wrote-prefix one two old between new first second = (
  one ++ second.0,
  second.1,
  ap (λ l. one ++ l) second.2 ∙ sym (append_assoc one second.0 second.1),
  wrote-wrote one second.0 old between new first second.3,
)

-- a prefix of a first part is a prefix of all
pub prefix-longer : (one two : List ℕ) (old new : Option (List ℕ)) → WrotePrefix one old new → WrotePrefix (one ++ two) old new
prefix-longer one two old new prefix =
    (prefix.0, prefix.1 ++ two, ap (λ l. l ++ two) prefix.2 ∙ append_assoc prefix.0 prefix.1 two, prefix.3)

module _ (state : State) (pending : List ℕ) where
  -- a piece joins the octets that were pending
  pub dialogue_from-piece : (piece : List ℕ) (later : Input) → dialogue_from state pending (piece_before piece later) ≡ dialogue_from state (pending ++ piece) later
  dialogue_from-piece piece later =
      ap (λ l. prints_after (said_to state (received l)) later.bad) (sym (append_assoc pending piece (joined later.pieces)))

  module _ (quiet : IsQuiet state pending) where
    pub dialogue_from-ended : dialogue_from state pending ended ≡ record { octets = []; status = 0 }
    dialogue_from-ended =
        ap (λ l. prints_after l None) (ap (λ l. said_to state (received l)) (append-nil pending) ∙ quiet)

    pub dialogue_from-bad : (number : ℕ) → dialogue_from state pending (bad_at number) ≡ record { octets = bad_line number; status = 11 }
    dialogue_from-bad number =
        ap (λ l. prints_after l (Some number)) (ap (λ l. said_to state (received l)) (append-nil pending) ∙ quiet)
