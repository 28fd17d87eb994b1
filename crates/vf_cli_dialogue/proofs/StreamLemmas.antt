-- A stream of octets, as it takes pieces and messages.
use Rattle.std.proofs.Common.{◌≡◌, ℕ, ◌<◌, ◌+◌, Bool, true, false, List, [], ◌++◌, length, refl, Option, None, Some, true≢false, append-nil, ap, sym, subst, ◌∙◌}
use Rattle.vf_ber.specs.Reader.{reading}
use Rattle.vf_ber.specs.Reading.{Short}
use Rattle.vf_ber_scan.specs.Scanned.{HasTaken}
use Rattle.vf_ber_scan.specs.declared.scan.Scan.{Scan}
use Rattle.vf_filestore.specs.State.{State, party_of}
use Rattle.vf_cli_dialogue.specs.declared.conversation.After.{After}
use Rattle.vf_cli_dialogue.specs.declared.conversation.After.TheVariants as after
use Rattle.vf_cli_dialogue.specs.declared.conversation.Filestore.{Filestore}
use Rattle.vf_cli_dialogue.specs.declared.conversation.Stream.{Stream}
use Rattle.vf_cli_dialogue.specs.declared.conversation.Stream.TheVariants as streams
use Rattle.vf_cli_dialogue.specs.Conversation.{Aborts, Appends, Continues, Goes, Holds, IsRest, IsTaking, StandsBy, is_ready, octets_in, size_of}
use Rattle.vf_cli_dialogue.specs.Dialogue.{link}
use Rattle.vf_cli_dialogue.proofs.ContinuesLemmas.{continues-continues, continues_gone, continues_none}
use Rattle.vf_cli_dialogue.proofs.ReadingLemmas.{reading_none}

pub not_ready : (stream : Stream) (is_so says : Bool) → is_ready stream ≡ is_so → is_ready stream ≡ says → is_so ≡ true → says ≡ false → ⊥
not_ready stream is_so says one two holds fails = absurd (true≢false (sym holds ∙ (sym one ∙ two) ∙ fails))

-- octets in a stream of another spelling
continues_as : (state next : State) (octets pending replies rest left : List ℕ) → octets ≡ pending → rest ≡ left
    → Continues state octets replies next rest → Continues state pending replies next left
continues_as state next octets pending replies rest left same tail continues =
    subst (λ (l : List ℕ). Continues state pending replies next l) tail (subst (λ (l : List ℕ). Continues state l replies next rest) same continues)

-- a party that holds takes the octets of its stream
taking_stands : (filestore : Filestore) (scan : Scan) (state : State) (stream : Stream) → Holds filestore state → IsTaking stream scan
    → StandsBy filestore scan state stream
taking_stands filestore scan state streams.Gone holds taking = absurd taking
taking_stands filestore scan state (streams.Waiting pending) holds taking = (holds, taking)
taking_stands filestore scan state (streams.Ready octets) holds taking = holds
taking_stands filestore scan state (streams.Pair first second) holds taking = holds

pub size_ready : (stream : Stream) → is_ready stream ≡ true → size_of stream ≡ length (octets_in stream) + 1
size_ready streams.Gone ready = absurd cc
size_ready (streams.Waiting pending) ready = absurd cc
size_ready (streams.Ready octets) ready = refl
size_ready (streams.Pair first second) ready = refl

-- the octets of a stream that is ready are taken by a party that holds
pub ready_holds : (filestore : Filestore) (scan : Scan) (state : State) (stream : Stream) → is_ready stream ≡ true → StandsBy filestore scan state stream
    → Holds filestore state
ready_holds filestore scan state streams.Gone ready stands = absurd cc
ready_holds filestore scan state (streams.Waiting pending) ready stands = absurd cc
ready_holds filestore scan state (streams.Ready octets) ready stands = stands
ready_holds filestore scan state (streams.Pair first second) ready stands = stands

-- a piece joins the octets that wait
pub piece_added : (state : State) (filestore : Filestore) (old_scan scan : Scan) (before stream : Stream) (octets piece : List ℕ)
    → octets_in before ≡ octets → (StandsBy filestore old_scan state before → Holds filestore state × HasTaken old_scan octets)
    → octets_in stream ≡ octets ++ piece → (HasTaken old_scan octets → IsTaking stream scan)
    → StandsBy filestore old_scan state before
    → StandsBy filestore scan state stream × Continues state (octets_in before ++ piece) [] state (octets_in stream)
piece_added state filestore old_scan scan before stream octets piece waits held joined takes standing =
    let there = held standing in (
      taking_stands filestore scan state stream there.0 (takes there.1),
      continues_as state state (octets ++ piece) (octets_in before ++ piece) [] (octets ++ piece) (octets_in stream)
          (ap (λ l. l ++ piece) (sym waits)) (sym joined) (continues_none state (octets ++ piece)),
    )

-- a party that is gone takes no piece
pub piece_gone : (state : State) (filestore : Filestore) (scan : Scan) (before stream : Stream) (piece : List ℕ)
    → before ≡ streams.Gone → stream ≡ streams.Gone → StandsBy filestore scan state before
    → StandsBy filestore scan state stream × Continues state (octets_in before ++ piece) [] state (octets_in stream)
piece_gone state filestore scan before stream piece gone still standing =
    let nobody : party_of link state.parties ≡ None = subst (StandsBy filestore scan state) gone standing in (
      subst (StandsBy filestore scan state) (sym still) nobody,
      continues_gone state (octets_in before ++ piece) (octets_in stream) nobody,
    )

-- where the party goes on and no more messages are to be taken, the rest is no whole message
pub rest_short : (is : After) (more : Bool) (rest : List ℕ) → is ≡ after.Goes → IsRest is more rest → more ≡ false → reading rest ≡ Short
rest_short is more rest goes left none =
    subst (λ (b : Bool). IsRest after.Goes b rest) none (subst (λ (a : After). IsRest a more rest) goes left)

-- nothing is left
pub none_left : (ended : After) → IsRest ended false []
none_left after.Goes = reading_none
none_left after.Gone = tt
none_left after.Aborted = tt

-- What was made of the octets of a stream.
module _ (state : State) (before : Stream) (octets : List ℕ) (same : octets_in before ≡ octets) (old new : List ℕ) (filestore : Filestore) (is : After) (rest : List ℕ)
    (appended : Appends state octets old new filestore is rest) where
  pub taken_goes : (scan : Scan) (stream : Stream) → is ≡ after.Goes → octets_in stream ≡ rest → IsTaking stream scan
      → (replies : List ℕ) × (new ≡ old ++ replies)
      × ((next : State) × StandsBy filestore scan next stream × Continues state (octets_in before) replies next (octets_in stream))
  taken_goes scan stream goes left taking =
      let took = subst (λ (a : After). Appends state octets old new filestore a rest) goes appended in
      (took.0, took.1, ((took.2).0, taking_stands filestore scan (took.2).0 stream (took.2).1 taking, continues_as state (took.2).0 octets (octets_in before) took.0 rest (octets_in stream) (sym same) (sym left) (took.2).2))

  pub taken_gone : (scan : Scan) (stream : Stream) → is ≡ after.Gone → stream ≡ streams.Gone
      → (replies : List ℕ) × (new ≡ old ++ replies)
      × ((next : State) × StandsBy filestore scan next stream × Continues state (octets_in before) replies next (octets_in stream))
  taken_gone scan stream gone still =
      let took = subst (λ (a : After). Appends state octets old new filestore a rest) gone appended in
      let next = (took.2).0 in
      let nobody = subst (StandsBy filestore scan next) (sym still) (took.2).1 in
      let later : Continues next rest [] next (octets_in stream) = continues_gone next rest (octets_in stream) (took.2).1 in
      let whole = continues-continues state next next octets rest (octets_in stream) took.0 [] (took.2).2 later in (
        took.0,
        took.1,
        (
          next,
          nobody,
          subst (λ (l : List ℕ). Continues state (octets_in before) l next (octets_in stream)) (append-nil took.0)
              (subst (λ (l : List ℕ). Continues state l (took.0 ++ []) next (octets_in stream)) (sym same) whole),
        ),
      )

  pub taken_aborted : is ≡ after.Aborted → (replies : List ℕ) × (new ≡ old ++ replies) × Aborts state (octets_in before) replies
  taken_aborted aborted =
      let took = subst (λ (a : After). Appends state octets old new filestore a rest) aborted appended in
      (took.0, took.1, subst (λ (l : List ℕ). Aborts state l took.0) (sym same) took.2)

pub goes_on : (old new : ℕ) (step : Option ℕ) → new < old → Goes old new step
goes_on old new None less = less
goes_on old new (Some status) less = tt
