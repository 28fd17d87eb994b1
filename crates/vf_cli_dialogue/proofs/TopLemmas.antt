-- How the lines of a dialogue make the whole of it.
use Rattle.std.proofs.Common.{◌≡◌, ℕ, List, [], ◌++◌, Option, None, Some, refl, ap, sym, subst, ◌∙◌, append_assoc}
use Rattle.vf_filestore.specs.State.{State}
use Rattle.vf_cli_dialogue.specs.declared.conversation.Conversation.{Conversation}
use Rattle.vf_cli_dialogue.specs.Conversation.{IsInterrupted, PrintsAll, PrintsPrefix, Stands, Steps, Told, printed_after, octets_in}
use Rattle.vf_cli_dialogue.specs.Dialogue.{dialogue, dialogue_from, opened}
use Rattle.vf_cli_dialogue.specs.Dialogue.{EndsDialogue}
use Rattle.vf_cli_dialogue.specs.Lines.{Input, says}
use Rattle.vf_cli_printing.specs.Printed.{Wrote, WrotePrefix}
use Rattle.vf_cli_dialogue.specs.Reader.{Place, will_say}
use Rattle.vf_cli_dialogue.proofs.PrintedLemmas.{wrote-prefix, wrote-wrote, wrote_nothing}

-- The dialogue of all that the input says, as far as it has come: after what was written it goes on with what is
-- still said.
pub record SoFar (pending : List ℕ) (all now : Option Input) (old new : Option (List ℕ)) (conversation : Conversation) : Type 0 where
  pub state : State
  pub prefix : List ℕ
  pub stands : Stands conversation state
  pub wrote : Wrote prefix old new
  pub prints : Told all (λ input. (rest : Input) × (now ≡ Some rest)
      × (dialogue_from opened pending input ≡ printed_after prefix (dialogue_from state (octets_in conversation.stream) rest)))

pub so_far_begins : (conversation : Conversation) (all : Option Input) (taken : Option (List ℕ)) → Stands conversation opened
    → SoFar (octets_in conversation.stream) all all taken taken conversation
so_far_begins conversation all taken stands = record { state = opened; prefix = []; stands = stands; wrote = wrote_nothing taken; prints = by all }
  where
    by : (all : Option Input) → Told all (λ input. (rest : Input) × (all ≡ Some rest)
        × (dialogue_from opened (octets_in conversation.stream) input ≡ printed_after [] (dialogue_from opened (octets_in conversation.stream) rest)))
    by None = tt
    by (Some input) = (input, refl, refl)

module _ (pending : List ℕ) (all now : Option Input) (old between new : Option (List ℕ)) (conversation : Conversation)
    (so_far : SoFar pending all now old between conversation) where
  -- a line that was taken joins what was printed
  pub so_far_goes : (later : Option Input) (after : Conversation)
      → ((state : State) → Stands conversation state → Steps state (octets_in conversation.stream) now later between new after None)
      → SoFar pending all later old new after
  so_far_goes later after takes =
      let line = takes so_far.state so_far.stands in
      record {
        state = line.0;
        prefix = so_far.prefix ++ line.1;
        stands = line.2;
        wrote = wrote-wrote so_far.prefix line.1 old between new so_far.wrote line.3;
        prints = by all so_far.prints line.4;
      }
    where
      by : (all : Option Input)
          → Told all (λ input. (rest : Input) × (now ≡ Some rest)
          × (dialogue_from opened pending input ≡ printed_after so_far.prefix (dialogue_from so_far.state (octets_in conversation.stream) rest)))
          → Told now (λ input. (rest : Input) × (later ≡ Some rest)
          × (dialogue_from so_far.state (octets_in conversation.stream) input
          ≡ printed_after (takes so_far.state so_far.stands).1 (dialogue_from (takes so_far.state so_far.stands).0 (octets_in after.stream) rest)))
          → Told all (λ input. (rest : Input) × (later ≡ Some rest)
          × (dialogue_from opened pending input
          ≡ printed_after (so_far.prefix ++ (takes so_far.state so_far.stands).1) (dialogue_from (takes so_far.state so_far.stands).0 (octets_in after.stream) rest)))
      by None prints line = tt
      by (Some input) prints line =
          let goes = subst (λ (o : Option Input). Told o (λ input. (rest : Input) × (later ≡ Some rest)
          × (dialogue_from so_far.state (octets_in conversation.stream) input
          ≡ printed_after (takes so_far.state so_far.stands).1 (dialogue_from (takes so_far.state so_far.stands).0 (octets_in after.stream) rest)))) prints.1 line in
          let last = dialogue_from (takes so_far.state so_far.stands).0 (octets_in after.stream) goes.0 in (
            goes.0,
            goes.1,
            prints.2 ∙ ap (printed_after so_far.prefix) goes.2
                ∙ (λ i. record { octets = sym (append_assoc so_far.prefix (takes so_far.state so_far.stands).1 last.octets) i; status = last.status }),
          )

  -- a line that ends the dialogue ends what is printed
  pub so_far_ends : (later : Option Input) (after : Conversation) (status : ℕ)
      → ((state : State) → Stands conversation state → Steps state (octets_in conversation.stream) now later between new after (Some status))
      → (prefix : List ℕ) × Wrote prefix old new × Told all (λ input. dialogue_from opened pending input ≡ record { octets = prefix; status = status })
      × EndsDialogue status
  so_far_ends later after status takes =
      let line = takes so_far.state so_far.stands in
      (so_far.prefix ++ line.0, wrote-wrote so_far.prefix line.0 old between new so_far.wrote line.1, by all so_far.prints line.2, line.3)
    where
      by : (all : Option Input)
          → Told all (λ input. (rest : Input) × (now ≡ Some rest)
          × (dialogue_from opened pending input ≡ printed_after so_far.prefix (dialogue_from so_far.state (octets_in conversation.stream) rest)))
          → Told now (λ input. dialogue_from so_far.state (octets_in conversation.stream) input
          ≡ record { octets = (takes so_far.state so_far.stands).0; status = status })
          → Told all (λ input. dialogue_from opened pending input
          ≡ record { octets = so_far.prefix ++ (takes so_far.state so_far.stands).0; status = status })
      by None prints line = tt
      by (Some input) prints line =
          prints.2 ∙ ap (printed_after so_far.prefix) (subst (λ (o : Option Input). Told o (λ input. dialogue_from so_far.state (octets_in conversation.stream) input
          ≡ record { octets = (takes so_far.state so_far.stands).0; status = status })) prints.1 line)

  -- an interruption leaves a prefix of what would be printed
  pub so_far_stops : ((state : State) → Stands conversation state → IsInterrupted state (octets_in conversation.stream) now between new)
      → Told all (λ input. WrotePrefix (dialogue_from opened pending input).octets old new)
  so_far_stops stops = by all so_far.prints (stops so_far.state so_far.stands)
    where
      by : (all : Option Input)
          → Told all (λ input. (rest : Input) × (now ≡ Some rest)
          × (dialogue_from opened pending input ≡ printed_after so_far.prefix (dialogue_from so_far.state (octets_in conversation.stream) rest)))
          → IsInterrupted so_far.state (octets_in conversation.stream) now between new
          → Told all (λ input. WrotePrefix (dialogue_from opened pending input).octets old new)
      by None prints stop = tt
      by (Some input) prints stop =
          let rest = dialogue_from so_far.state (octets_in conversation.stream) prints.0 in
          let prefix = subst (λ (o : Option Input). IsInterrupted so_far.state (octets_in conversation.stream) o between new) prints.1 stop in
          subst (λ l. WrotePrefix l old new) (λ i. (sym prints.2 i).octets)
          (wrote-prefix so_far.prefix rest.octets old between new so_far.wrote prefix)

abbrev pub fresh : Place
fresh = record { count = 0; number = 1; ahead = [] }

module _ (reader : Place) (pending : List ℕ) (begins : reader ≡ fresh) (none : pending ≡ []) (old new : Option (List ℕ)) where
  -- what is printed to all that a fresh reader will say is the dialogue
  pub prints_all : (left : Option (List ℕ)) (prefix : List ℕ) (status : ℕ) → Wrote prefix old new
      → Told (will_say reader left) (λ input. dialogue_from opened pending input ≡ record { octets = prefix; status = status }) → PrintsAll left status old new
  prints_all None prefix status wrote told = tt
  prints_all (Some octets) prefix status wrote told =
      let prints : dialogue octets ≡ record { octets = prefix; status = status } =
      subst (λ l. dialogue_from opened l (says octets) ≡ record { octets = prefix; status = status }) none
      (subst (λ (p : Place). Told (will_say p (Some octets)) (λ input. dialogue_from opened pending input ≡ record { octets = prefix; status = status })) begins told) in
      ((λ i. (sym prints i).status), subst (λ l. Wrote l old new) (λ i. (sym prints i).octets) wrote)

  pub prints_prefix : (left : Option (List ℕ)) → Told (will_say reader left) (λ input. WrotePrefix (dialogue_from opened pending input).octets old new)
      → PrintsPrefix left old new
  prints_prefix None told = tt
  prints_prefix (Some octets) told =
      subst (λ l. WrotePrefix (dialogue_from opened l (says octets)).octets old new) none
      (subst (λ (p : Place). Told (will_say p (Some octets)) (λ input. WrotePrefix (dialogue_from opened pending input).octets old new)) begins told)
