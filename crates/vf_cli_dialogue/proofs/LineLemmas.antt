-- What comes of one line, by what the reader answered and what the party made of it.
use Rattle.std.specs.Prelude.{if◌then◌else◌}
use Rattle.std.proofs.Common.{◌≡◌, ℕ, refl, inl, inr, Bool, true, false, List, [], Option, None, Some, Result, Ok, Err, OnErr, ap, sym, subst, ◌∙◌}
use Rattle.vf_filestore.specs.State.{State}
use Rattle.vf_cli_dialogue.specs.declared.conversation.Conversation.{Conversation}
use Rattle.vf_cli_dialogue.specs.declared.conversation.Stream.{Stream}
use Rattle.vf_cli_dialogue.specs.declared.conversation.Stream.TheVariants as streams
use Rattle.vf_cli_dialogue.specs.declared.lines.NextLine.TheVariants.{Bad, End, Piece}
use Rattle.vf_cli_dialogue.specs.Conversation.{Adds, IsInterrupted, IsQuiet, Stands, StandsBy, Steps, TakesReady, Told, printed_after, is_ready, octets_in}
use Rattle.vf_cli_dialogue.specs.Dialogue.{dialogue_from}
use Rattle.vf_cli_dialogue.specs.Lines.{Input, bad_line}
use Rattle.vf_cli_printing.specs.Printed.{Wrote, WrotePrefix}
use Rattle.vf_cli_dialogue.specs.Reader.{Answers}
use Rattle.vf_cli_dialogue.proofs.ContinuesLemmas.{quiet_gone, quiet_short}
use Rattle.vf_cli_dialogue.proofs.PrintedLemmas.{dialogue_from-bad, dialogue_from-ended, dialogue_from-piece, prefix-longer, prefix_nothing, wrote_nothing}

-- what holds anyway holds where there is an error
pub on_err : {T E : Type 0} (result : Result T E) (P : Type 0) → P → OnErr result P
on_err (Ok x) P holds = tt
on_err (Err e) P holds = holds

pub interrupted_before : (state : State) (pending : List ℕ) (input : Option Input) (taken : Option (List ℕ)) → IsInterrupted state pending input taken taken
interrupted_before state pending None taken = tt
interrupted_before state pending (Some input) taken = prefix_nothing (dialogue_from state pending input).octets taken

-- a stream with nothing ready is told nothing more where the input ends
pub quiet_stands : (conversation : Conversation) (state : State) → is_ready conversation.stream ≡ false → Stands conversation state
    → IsQuiet state (octets_in conversation.stream)
quiet_stands conversation state ready stands = by conversation.stream ready stands
  where
    by : (stream : Stream) → is_ready stream ≡ false → StandsBy conversation.filestore conversation.scan state stream → IsQuiet state (octets_in stream)
    by streams.Gone ready stands = quiet_gone state [] stands
    by (streams.Waiting pending) ready stands = quiet_short state pending.items stands.1.short
    by (streams.Ready octets) ready stands = absurd cc
    by (streams.Pair first second) ready stands = absurd cc

module _ (state : State) (before : Conversation) (old new : Option (List ℕ)) where
  -- a prefix of the replies is a prefix of all that would be printed
  pub ready_interrupted : (aborted : Bool) (lines : List ℕ) (after : Conversation) → TakesReady state before [] lines after aborted → WrotePrefix lines old new
      → (input : Option Input) → IsInterrupted state (octets_in before.stream) input old new
  ready_interrupted aborted lines after takes prefix None = tt
  ready_interrupted true lines after takes prefix (Some input) =
      subst (λ l. WrotePrefix l old new) (takes.1 ∙ (λ i. (sym ((takes.2).prints input) i).octets)) prefix
  ready_interrupted false lines after takes prefix (Some input) =
      let next = (takes.2).0 in
      subst (λ l. WrotePrefix l old new) (λ i. (sym (((takes.2).2).prints input) i).octets)
      (prefix-longer takes.0 (dialogue_from next (octets_in after.stream) input).octets old new (subst (λ l. WrotePrefix l old new) takes.1 prefix))

  -- the replies are what is printed before what the next state prints, or all
  pub steps_ready : (aborted : Bool) (lines : List ℕ) (after : Conversation) → TakesReady state before [] lines after aborted → Wrote lines old new
      → (input : Option Input) → Steps state (octets_in before.stream) input input old new after (if aborted then Some 7 else None)
  steps_ready true lines after takes wrote input =
      (takes.0, subst (λ l. Wrote l old new) takes.1 wrote, by input, inr (inl refl))
    where
      by : (input : Option Input) → Told input (λ input. dialogue_from state (octets_in before.stream) input ≡ record { octets = takes.0; status = 7 })
      by None = tt
      by (Some input) = (takes.2).prints input
  steps_ready false lines after takes wrote input =
      ((takes.2).0, takes.0, (takes.2).1, subst (λ l. Wrote l old new) takes.1 wrote, by input)
    where
      by : (input : Option Input) → Told input (λ told. (rest : Input) × (input ≡ Some rest)
          × (dialogue_from state (octets_in before.stream) told ≡ printed_after takes.0 (dialogue_from (takes.2).0 (octets_in after.stream) rest)))
      by None = tt
      by (Some input) = (input, refl, ((takes.2).2).prints input)

module _ (state : State) (before : Conversation) (taken : Option (List ℕ)) (old_input new_input : Option Input) where
  -- a piece joins the octets that weren't taken
  pub steps_piece : (piece : List ℕ) (after : Conversation) → Answers old_input new_input piece (Ok Piece) → Adds state before piece after
      → Steps state (octets_in before.stream) old_input new_input taken taken after None
  steps_piece piece after answers adds = (state, [], adds.0, wrote_nothing taken, by old_input answers)
    where
      by : (old_input : Option Input) → Answers old_input new_input piece (Ok Piece) → Told old_input (λ input. (rest : Input) × (new_input ≡ Some rest)
          × (dialogue_from state (octets_in before.stream) input ≡ printed_after [] (dialogue_from state (octets_in after.stream) rest)))
      by None answers = tt
      by (Some all) answers = (
        answers.0,
        answers.1,
        ap (dialogue_from state (octets_in before.stream)) answers.2 ∙ dialogue_from-piece state (octets_in before.stream) piece answers.0 ∙ adds.1.prints answers.0,
      )

  module _ (ready : is_ready before.stream ≡ false) (stands : Stands before state) where
    -- the end of the input ends the dialogue
    pub steps_end : (piece : List ℕ) (after : Conversation) → Answers old_input new_input piece (Ok End)
        → Steps state (octets_in before.stream) old_input new_input taken taken after (Some 0)
    steps_end piece after answers = ([], wrote_nothing taken, by old_input answers, inl refl)
      where
        by : (old_input : Option Input) → Answers old_input new_input piece (Ok End)
            → Told old_input (λ input. dialogue_from state (octets_in before.stream) input ≡ record { octets = []; status = 0 })
        by None answers = tt
        by (Some all) answers =
            ap (dialogue_from state (octets_in before.stream)) answers.1
            ∙ dialogue_from-ended state (octets_in before.stream) (quiet_stands before state ready stands)

    bad_printed : (number : ℕ) (piece : List ℕ) (all : Input) → Answers (Some all) new_input piece (Ok (Bad number))
        → dialogue_from state (octets_in before.stream) all ≡ record { octets = bad_line number; status = 11 }
    bad_printed number piece all answers =
        ap (dialogue_from state (octets_in before.stream)) answers.1
        ∙ dialogue_from-bad state (octets_in before.stream) (quiet_stands before state ready stands) number

    -- a bad line ends the dialogue with its number
    pub steps_bad : (number : ℕ) (piece : List ℕ) (after : Conversation) (new : Option (List ℕ)) → Answers old_input new_input piece (Ok (Bad number))
        → Wrote (bad_line number) taken new → Steps state (octets_in before.stream) old_input new_input taken new after (Some 11)
    steps_bad number piece after new answers wrote = (bad_line number, wrote, by old_input answers, inr (inr refl))
      where
        by : (old_input : Option Input) → Answers old_input new_input piece (Ok (Bad number))
            → Told old_input (λ input. dialogue_from state (octets_in before.stream) input ≡ record { octets = bad_line number; status = 11 })
        by None answers = tt
        by (Some all) answers = bad_printed number piece all answers

    pub bad_interrupted : (number : ℕ) (piece : List ℕ) (new : Option (List ℕ)) → Answers old_input new_input piece (Ok (Bad number))
        → WrotePrefix (bad_line number) taken new → IsInterrupted state (octets_in before.stream) old_input taken new
    bad_interrupted number piece new answers prefix = by old_input answers
      where
        by : (old_input : Option Input) → Answers old_input new_input piece (Ok (Bad number)) → IsInterrupted state (octets_in before.stream) old_input taken new
        by None answers = tt
        by (Some all) answers = subst (λ l. WrotePrefix l taken new) (λ i. (sym (bad_printed number piece all answers) i).octets) prefix
