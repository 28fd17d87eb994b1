-- A loop over the parts of what is answered: the disk along one part more, and the last one.
use Rattle.std.proofs.Common.{◌≡◌, ℕ, List, [], ◌∷◌, ◌++◌, length, None, refl, ap, sym, subst, ◌∙◌}
use Rattle.vf_disk.specs.Disk.{LeavesOnly}
use Rattle.vf_responder.proofs.ChainLemmas.{IsOnward, onward-all, onward-along, run-next}
use Rattle.vf_responder.proofs.LoopLemmas.{cut-onward, round-next}
use Rattle.vf_responder.proofs.TellLemmas.{heard-cut}
use Rattle.vf_responder.specs.Along.{RepresentsAlong}
use Rattle.vf_responder.specs.Answers.{Answer, at_end, octets_heard}
use Rattle.vf_responder.specs.Represents.{Answers, Does, Kept, Represents, link_of}
use Rattle.vf_responder.specs.Serving.{Serving}
use Rattle.vf_responder.specs.declared.event.Reply.{Reply}
use Rattle.vf_responder.specs.declared.link.Link.{Link}

-- the next part of a piece, cut into its front and what is left
module _ {D : Type 0} (moment number other : ℕ) (whole rest front more : List ℕ) (serving : Serving) (old mid : List Reply) (kept : Kept D)
    (same : other ≡ number) (cut : rest ≡ front ++ more)
    (o : IsOnward (octets_heard moment number serving whole) serving old kept mid (λ s. octets_heard moment number s rest)) where
  abbrev all : List Answer
  all = octets_heard moment number serving whole

  abbrev pub now : Serving
  now = at_end serving o.done

  pub now-represents : Represents kept now
  now-represents = o.answers.represents

  onward : IsOnward all serving old kept mid (λ s. octets_heard moment number s front ++ octets_heard moment number (at_end s (octets_heard moment number s front)) more)
  onward = cut-onward moment number all serving old mid kept rest front more cut o

  pub part-heard : (kept' : Kept D) (new : List Reply) → Does (λ s. octets_heard moment other s front) kept mid kept' new
      → IsOnward all serving old kept' new (λ s. octets_heard moment number s more)
  part-heard kept' new does =
      round-next all (λ n s. octets_heard moment n s front) (λ n s. octets_heard moment n s more) number other serving old mid new kept kept' same onward does

  pub part-run : (before between after : D) (clock : D → ℕ) (left_since : D → ℕ → List ℕ → Type 0) → LeavesOnly clock left_since before between (RepresentsAlong serving all)
      → LeavesOnly clock left_since between after (RepresentsAlong now (octets_heard moment other now front)) → LeavesOnly clock left_since before after (RepresentsAlong serving all)
  part-run before between after clock left_since first second =
      let next = octets_heard moment number now front in
      let later = octets_heard moment number (at_end now next) more in
      let one : LeavesOnly clock left_since between after (RepresentsAlong now next) =
      subst (λ (n : ℕ). LeavesOnly clock left_since between after (RepresentsAlong now (octets_heard moment n now front))) same second in
      run-next clock left_since before between after all serving now next first one
      (onward-along all serving old mid kept (λ s. octets_heard moment number s rest) o next later
      (ap (λ (octets : List ℕ). octets_heard moment number now octets) cut ∙ heard-cut moment number front more now))

-- nothing is left of it
pub none-left : {D : Type 0} (moment number : ℕ) (all : List Answer) (serving : Serving) (old new : List Reply) (kept : Kept D) (rest : List ℕ) → length rest ≡ 0
    → IsOnward all serving old kept new (λ s. octets_heard moment number s rest) → Answers all serving old kept new
none-left moment number all serving old new kept [] none o =
    onward-all all serving old new kept (λ s. octets_heard moment number s []) o refl
none-left moment number all serving old new kept (octet ∷ rest) none o = cc

-- no other link has its number
pub apart-on : (other number : ℕ) (links links' : List (ℕ × Link)) → other ≡ number → (link_of other links ≡ None → link_of other links' ≡ None) → link_of number links ≡ None → link_of number links' ≡ None
apart-on other number links links' same apart free =
    subst (λ (n : ℕ). link_of n links' ≡ None) same (apart (subst (λ (n : ℕ). link_of n links ≡ None) (sym same) free))
