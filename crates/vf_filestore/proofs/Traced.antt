-- What holds of each message of the traces of parties stays so where it holds of each message that comes.
use Rattle.std.proofs.Common.{◌≡◌, ℕ, not, List, ◌∷◌, ◌++◌, Some, ap, sym, subst, ◌∙◌}
use Rattle.std.specs.List.{AllByRecursion}
use Rattle.vf_elements.specs.declared.message.Message.{Message}
use Rattle.vf_filestore.specs.State.{StandingParty, is_of_link, party_of, with_party, without_party}
use Rattle.vf_filestore.proofs.Lists.{all-filter, all_append, all_left, all_right}
use Rattle.vf_filestore.proofs.Owned.{found_all}
use Rattle.vf_filestore.proofs.Parties.{located, with_at}
use Rattle.vf_filestore.proofs.Same.{with_trace}

abbrev IsTraced : (Message → Type 0) → StandingParty → Type 0
IsTraced Allowed party = AllByRecursion Allowed party.trace

module _ (Allowed : Message → Type 0) (parties : List StandingParty) where
  pub traced_found : (link : ℕ) (party : StandingParty) → AllByRecursion (λ (party : StandingParty). AllByRecursion Allowed party.trace) parties → party_of link parties ≡ Some party → AllByRecursion Allowed party.trace
  traced_found link party all found = found_all (IsTraced Allowed) (is_of_link link) parties party found all

  -- another one in the place of a party
  pub traced_next : (before after : List StandingParty) (party next : StandingParty) → parties ≡ before ++ party ∷ after → AllByRecursion Allowed next.trace
      → AllByRecursion (λ (party : StandingParty). AllByRecursion Allowed party.trace) parties → AllByRecursion (λ (party : StandingParty). AllByRecursion Allowed party.trace) (before ++ next ∷ after)
  traced_next before after party next is own all =
      let each = subst (λ (parties : List StandingParty). AllByRecursion (IsTraced Allowed) parties) is all in
      all_append (IsTraced Allowed) before (next ∷ after) (all_left (IsTraced Allowed) before (party ∷ after) each) (own, (all_right (IsTraced Allowed) before (party ∷ after) each).1)

  -- one message more
  pub traced_heard : (link : ℕ) (party : StandingParty) (message : Message) → Allowed message → AllByRecursion (λ (party : StandingParty). AllByRecursion Allowed party.trace) parties → party_of link parties ≡ Some party
      → AllByRecursion (λ (party : StandingParty). AllByRecursion Allowed party.trace) (with_party (with_trace party (message ∷ party.trace)) parties)
  traced_heard link party message allowed all found =
      let at = located link parties party found in
      let next = with_trace party (message ∷ party.trace) in
      let now : with_party next parties ≡ at.before ++ next ∷ at.after = ap (with_party next) at.is ∙ with_at link at.before at.after party next at.absent at.same at.same in
      subst (λ (parties : List StandingParty). AllByRecursion (IsTraced Allowed) parties) (sym now) (traced_next at.before at.after party next at.is (allowed, traced_found link party all found) all)

  -- without the party of a link
  pub traced_without : (link : ℕ) → AllByRecursion (λ (party : StandingParty). AllByRecursion Allowed party.trace) parties
      → AllByRecursion (λ (party : StandingParty). AllByRecursion Allowed party.trace) (without_party link parties)
  traced_without link all = all-filter (IsTraced Allowed) (λ party. not (is_of_link link party)) parties all
