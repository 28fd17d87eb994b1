-- How what is still printed goes on, message by message.
use Rattle.std.proofs.Common.{◌≡◌, ℕ, Bool, true, false, ◌||◌, List, [], ◌∷◌, ◌++◌, Option, None, Some, refl, ap, sym, ◌∙◌, append_assoc, append-nil, drop, Ok}
use Rattle.std.specs.Prelude.{if◌then◌else◌}
use Rattle.std.specs.List.{flat_map, list_any}
use Rattle.std.proofs.lemmas.List.Folds.{list_any-append}
use Rattle.std.proofs.lemmas.Grind.{flat_map-append}
use Rattle.vf_ber.specs.Reader.{reading}
use Rattle.vf_ber.specs.Tree.{Tree}
use Rattle.vf_ber.specs.Reading.{Read, Short}
use Rattle.vf_elements.specs.Messages.{message_in}
use Rattle.vf_elements.specs.declared.message.Message.{Message}
use Rattle.vf_elements.specs.declared.message.Said.{Said}
use Rattle.vf_elements.specs.declared.message.Said.TheVariants as answers
use Rattle.vf_filestore.specs.State.{State, StandingParty, party_of}
use Rattle.vf_filestore.specs.Transition.{Turn, fault, fault_of, transition, transition_of}
use Rattle.vf_cli_dialogue.specs.Conversation.{Aborts, Continues, IsQuiet, printed_after}
use Rattle.vf_cli_dialogue.specs.Dialogue.{Faulty, Heard, Received, after_replies, dialogue_from, heard, is_abort, joined, link, outside, prints_after, received, received_first, reply, said_in, said_to, setting, turn}
use Rattle.vf_cli_printing.specs.Printed.{Printed}
use Rattle.vf_cli_dialogue.proofs.ReceivedLemmas.{received-read, received_prefix}

-- where no party stands nothing comes of what is received
turn-gone : (state : State) (thing : Received) → party_of link state.parties ≡ None → turn state thing ≡ record { sent = []; state = state }
turn-gone state (Heard message) gone = ap (transition_of state setting message) gone
turn-gone state (Faulty place) gone = ap (fault_of state outside place) gone

-- a link where no party stands is told nothing
pub said_to-gone : (state : State) (things : List Received) → party_of link state.parties ≡ None → said_to state things ≡ []
said_to-gone state [] gone = refl
said_to-gone state (thing ∷ things) gone =
    ap (λ (now : Turn). said_in now ++ (if list_any is_abort (said_in now) then [] else said_to now.state things)) (turn-gone state thing gone)
    ∙ said_to-gone state things gone

-- after what is said without an abort follows what is said in the state after it
pub said_to-goes : (state : State) (thing : Received) (things : List Received) → list_any is_abort (said_in (turn state thing)) ≡ false
    → said_to state (thing ∷ things) ≡ said_in (turn state thing) ++ said_to (turn state thing).state things
said_to-goes state thing things none =
    ap (λ (b : Bool). said_in (turn state thing) ++ (if b then [] else said_to (turn state thing).state things)) none

-- and after an abort nothing
pub said_to-abort : (state : State) (thing : Received) (things : List Received) → list_any is_abort (said_in (turn state thing)) ≡ true
    → said_to state (thing ∷ things) ≡ said_in (turn state thing)
said_to-abort state thing things abort =
    ap (λ (b : Bool). said_in (turn state thing) ++ (if b then [] else said_to (turn state thing).state things)) abort
    ∙ append-nil (said_in (turn state thing))

abbrev pub last : Bool → Option ℕ → Printed
last aborted bad = if aborted then record { octets = []; status = 7 } else after_replies bad

abbrev pub with_last : List ℕ → Printed → Printed
with_last lines last = record { octets = lines ++ last.octets; status = last.status }

-- what is said first is printed first, where no abort is among it
pub prints_after-append : (said later : List Said) (bad : Option ℕ) → list_any is_abort said ≡ false
    → prints_after (said ++ later) bad ≡ printed_after (flat_map reply said) (prints_after later bad)
prints_after-append said later bad none =
    let flag : list_any is_abort (said ++ later) ≡ list_any is_abort later =
    list_any-append is_abort said later ∙ ap (λ b. b || list_any is_abort later) none in
    let after = last (list_any is_abort later) bad in
    let octets : flat_map reply (said ++ later) ++ after.octets ≡ flat_map reply said ++ (flat_map reply later ++ after.octets) =
    ap (λ l. l ++ after.octets) (flat_map-append reply said later) ∙ append_assoc (flat_map reply said) (flat_map reply later) after.octets in
    ap (λ b. with_last (flat_map reply (said ++ later)) (last b bad)) flag
    ∙ (λ i. record { octets = octets i; status = after.status })

-- an abort ends what is printed
pub prints_after-abort : (said : List Said) (bad : Option ℕ) → list_any is_abort said ≡ true
    → prints_after said bad ≡ record { octets = flat_map reply said; status = 7 }
prints_after-abort said bad abort =
    ap (λ b. with_last (flat_map reply said) (last b bad)) abort
    ∙ (λ i. record { octets = append-nil (flat_map reply said) i; status = 7 })

-- What a first message of octets comes to, whatever follows.
module _ (state : State) (octets : List ℕ) (tree : Tree) (n : ℕ) (message : Message) (read : reading octets ≡ Read tree n) (means : message_in tree ≡ Ok message) where
  abbrev now : Turn
  now = transition state link setting message

  received_message : (more : List ℕ) → received (octets ++ more) ≡ Heard message ∷ received (drop n octets ++ more)
  received_message more = received-read octets more tree n read ∙ ap (λ o. heard o ∷ received (drop n octets ++ more)) means

  pub continues_message : list_any is_abort (said_in (transition state link setting message)) ≡ false
      → Continues state octets (flat_map reply (said_in (transition state link setting message))) (transition state link setting message).state (drop n octets)
  continues_message none = record {
    prints = λ input.
        let later = received (drop n octets ++ joined input.pieces) in
        ap (λ l. prints_after l input.bad) (ap (said_to state) (received_message (joined input.pieces)) ∙ said_to-goes state (Heard message) later none)
        ∙ prints_after-append (said_in now) (said_to now.state later) input.bad none;
  }

  pub aborts_message : list_any is_abort (said_in (transition state link setting message)) ≡ true
      → Aborts state octets (flat_map reply (said_in (transition state link setting message)))
  aborts_message abort = record {
    prints = λ input.
        let later = received (drop n octets ++ joined input.pieces) in
        ap (λ l. prints_after l input.bad) (ap (said_to state) (received_message (joined input.pieces)) ∙ said_to-abort state (Heard message) later abort)
        ∙ prints_after-abort (said_in now) input.bad abort;
  }

-- octets that are no message end the party
pub aborts_fault : (state : State) (party : StandingParty) (octets : List ℕ) (place : ℕ) → party_of link state.parties ≡ Some party
    → ((more : List ℕ) → (later : List Received) × (received (octets ++ more) ≡ Faulty place ∷ later))
    → Aborts state octets (reply (answers.Abort outside place))
aborts_fault state party octets place found faulty = record {
  prints = λ input.
      let there = faulty (joined input.pieces) in
      let said : List Said = answers.Abort outside place ∷ [] in
      let told : said_in (fault state link outside place) ≡ said = ap (λ (one : Option StandingParty). said_in (fault_of state outside place one)) found in
      ap (λ l. prints_after l input.bad)
      (ap (said_to state) there.1 ∙ said_to-abort state (Faulty place) there.0 (ap (list_any is_abort) told) ∙ told)
      ∙ prints_after-abort said input.bad refl
      ∙ (λ i. record { octets = append-nil (reply (answers.Abort outside place)) i; status = 7 });
}

module _ (first second third : State) (octets between rest said later : List ℕ) where
  pub continues-continues : Continues first octets said second between → Continues second between later third rest
      → Continues first octets (said ++ later) third rest
  continues-continues one two = record {
    prints = λ input. one.prints input ∙ ap (printed_after said) (two.prints input)
        ∙ (λ i. record { octets = sym (append_assoc said later (dialogue_from third rest input).octets) i; status = (dialogue_from third rest input).status });
  }

  pub continues-aborts : Continues first octets said second between → Aborts second between later → Aborts first octets (said ++ later)
  continues-aborts one two = record { prints = λ input. one.prints input ∙ ap (printed_after said) (two.prints input) }

-- nothing taken yet
pub continues_none : (state : State) (octets : List ℕ) → Continues state octets [] state octets
continues_none state octets = record { prints = λ input. refl }

-- a party that is gone is told nothing, whatever is left of the octets
pub continues_gone : (state : State) (octets rest : List ℕ) → party_of link state.parties ≡ None → Continues state octets [] state rest
continues_gone state octets rest gone = record {
  prints = λ input.
      ap (λ l. prints_after l input.bad) (said_to-gone state (received (octets ++ joined input.pieces)) gone)
      ∙ sym (ap (λ l. printed_after [] (prints_after l input.bad)) (said_to-gone state (received (rest ++ joined input.pieces)) gone));
}

pub quiet_gone : (state : State) (pending : List ℕ) → party_of link state.parties ≡ None → IsQuiet state pending
quiet_gone state pending gone = said_to-gone state (received pending) gone

pub quiet_short : (state : State) (pending : List ℕ) → reading pending ≡ Short → IsQuiet state pending
quiet_short state pending short = ap (said_to state) (received_prefix pending ∙ ap (received_first received pending) short)
