-- What the party takes from the first octets, and what is still printed after it.
use Rattle.std.proofs.Common.{◌≡◌, ℕ, List, [], ◌∷◌, ◌++◌, drop, Option, Some, Ok, refl, ap, sym, subst, ◌∙◌, append_assoc}
use Rattle.std.specs.List.{flat_map}
use Rattle.vf_ber.specs.Tree.{Tree}
use Rattle.vf_ber.specs.Reader.{reading}
use Rattle.vf_ber.specs.Reading.{Reading, Short, Bad, Deep, Long, Read}
use Rattle.vf_elements.specs.Messages.{message_in, place_of}
use Rattle.vf_elements.specs.declared.message.Message.{Message}
use Rattle.vf_elements.specs.declared.message.Said.TheVariants as answers
use Rattle.vf_filestore.specs.State.{State}
use Rattle.vf_filestore.specs.Transition.{transition}
use Rattle.vf_cli_dialogue.specs.declared.conversation.After.{After}
use Rattle.vf_cli_dialogue.specs.declared.conversation.After.TheVariants as after
use Rattle.vf_cli_dialogue.specs.declared.conversation.Filestore.{Filestore}
use Rattle.vf_cli_dialogue.specs.declared.conversation.First.{First}
use Rattle.vf_cli_dialogue.specs.Conversation.{Appends, Comes, Continues, Holds, IsFault, Makes, TakesFirst, Took}
use Rattle.vf_cli_dialogue.specs.Dialogue.{Faulty, Received, heard, link, outside, received, reply, said_in, setting}
use Rattle.vf_cli_dialogue.proofs.ContinuesLemmas.{aborts_fault, aborts_message, continues-aborts, continues-continues, continues_message}
use Rattle.vf_cli_dialogue.proofs.ReceivedLemmas.{received-read, received-settled}
use Rattle.vf_cli_dialogue.proofs.TurnLemmas.{found_here}

-- where a fault stands first, it is received first
same_fault : (things later : List Received) (place at : ℕ) → place ≡ at → things ≡ Faulty at ∷ later → things ≡ Faulty place ∷ later
same_fault things later place at there is = is ∙ ap (λ k. Faulty k ∷ later) (sym there)

faulty : (octets more : List ℕ) (place : ℕ) → IsFault (reading octets) place → (later : List Received) × (received (octets ++ more) ≡ Faulty place ∷ later)
faulty octets more place found = by (reading octets) refl found
  where
    by : (r : Reading) → reading octets ≡ r → IsFault r place → (later : List Received) × (received (octets ++ more) ≡ Faulty place ∷ later)
    by Short e found = absurd found
    by (Bad at) e found = ([], same_fault (received (octets ++ more)) [] place at found (received-settled octets more (Bad at) e tt))
    by (Deep at) e found = ([], same_fault (received (octets ++ more)) [] place at found (received-settled octets more (Deep at) e tt))
    by (Long at) e found = ([], same_fault (received (octets ++ more)) [] place at found (received-settled octets more (Long at) e tt))
    by (Read tree n) e found =
        let later = received (drop n octets ++ more) in (
          later,
          same_fault (received (octets ++ more)) later place (place_of found.0) found.2
              (received-read octets more tree n e ∙ ap (λ o. heard o ∷ later) found.1),
        )

module _ (state : State) (filestore : Filestore) (octets old new : List ℕ) (holds : Holds filestore state) where
  -- a fault is told
  pub takes_fault : (place : ℕ) (rest : List ℕ) → IsFault (reading octets) place → new ≡ old ++ reply (answers.Abort outside place)
      → Appends state octets old new filestore after.Aborted rest
  takes_fault place rest found written =
      (reply (answers.Abort outside place), written, aborts_fault state holds.goes.standing octets place (found_here state filestore holds) (λ more. faulty octets more place found))

module _ (state : State) (octets : List ℕ) (message : Message) (tree : Tree) (n : ℕ) (read : reading octets ≡ Read tree n) (means : message_in tree ≡ Ok message) (filestore : Filestore) where
  -- what comes of octets that begin with a message
  took : (ended : After) → Comes filestore (transition state link setting message) ended
      → Took state octets (flat_map reply (said_in (transition state link setting message))) filestore ended (drop n octets)
  took after.Goes comes = ((transition state link setting message).state, comes.0, continues_message state octets tree n message read means comes.1)
  took after.Gone comes = ((transition state link setting message).state, comes.0, continues_message state octets tree n message read means comes.1)
  took after.Aborted comes = aborts_message state octets tree n message read means comes

  -- what is printed goes on with what comes of a first message
  pub takes_message : (old new : List ℕ) (ended : After) → Makes (transition state link setting message) old new filestore ended
      → Appends state octets old new filestore ended (drop n octets)
  takes_message old new ended makes = (flat_map reply (said_in (transition state link setting message)), makes.said, took ended makes.comes)

module _ (first state : State) (octets between said old middle new : List ℕ) (before : Continues first octets said state between) (so_far : middle ≡ old ++ said) (filestore : Filestore) where
  written : (replies : List ℕ) → new ≡ middle ++ replies → new ≡ old ++ (said ++ replies)
  written replies is = is ∙ ap (λ l. l ++ replies) so_far ∙ append_assoc old said replies

  -- what was made of octets, after what was made of those before them
  appends_after : (rest : List ℕ) (ended : After) → Appends state between middle new filestore ended rest → Appends first octets old new filestore ended rest
  appends_after rest after.Goes there =
      let next = (there.2).0 in
      (said ++ there.0, written there.0 there.1, (next, (there.2).1, continues-continues first state next octets between rest said there.0 before (there.2).2))
  appends_after rest after.Gone there =
      let next = (there.2).0 in
      (said ++ there.0, written there.0 there.1, (next, (there.2).1, continues-continues first state next octets between rest said there.0 before (there.2).2))
  appends_after rest after.Aborted there =
      (said ++ there.0, written there.0 there.1, continues-aborts first state state octets between rest said there.0 before there.2)

  -- the same of the first octets, where these were taken
  pub appends_first : (left : List ℕ) (old_filestore : Filestore) (found : Option First) (it : First) → found ≡ Some it
      → left ≡ drop it.length between → TakesFirst state between middle new old_filestore filestore found
      → Appends first octets old new filestore it.after left
  appends_first left old_filestore found it is rest took =
      appends_after left it.after
      (subst (λ (l : List ℕ). Appends state between middle new filestore it.after l) (sym rest)
      (subst (λ (o : Option First). TakesFirst state between middle new old_filestore filestore o) is took))
