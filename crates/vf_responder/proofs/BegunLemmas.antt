-- What a responder represents once it was opened, and while nothing is kept otherwise.
use Rattle.std.proofs.Common.{◌≡◌, ℕ, List, [], length, Option, ap, sym, subst, ◌∙◌}
use Rattle.std.specs.List.{IsDistinct}
use Rattle.std.specs.Map.{keys_of}
use Rattle.std.specs.Prelude.{nat_eq}
use Rattle.vf_disk.specs.Disk.{LeavesOnly}
use Rattle.vf_filestore.specs.HoldersAfter.{Keeps}
use Rattle.vf_filestore.specs.Sound.{Begins}
use Rattle.vf_filestore.specs.State.{State, StandingParty, party_of}
use Rattle.vf_store.specs.StoreState.{StoreState}
use Rattle.vf_tables.specs.declared.tables.Tables.{Tables}
use Rattle.vf_responder.proofs.StandLemmas.{at-none}
use Rattle.vf_responder.proofs.StoreLemmas.{idle-along}
use Rattle.vf_responder.specs.Along.{RepresentsAlong}
use Rattle.vf_responder.specs.Answers.{Answer}
use Rattle.vf_responder.specs.Represents.{KeepsAlong, Kept, Represents, link_of}
use Rattle.vf_responder.specs.Serving.{IsBegun, Serving}
use Rattle.vf_responder.specs.declared.link.Link.{Link}

none-distinct : IsDistinct nat_eq []
unfolding IsDistinct
none-distinct = tt

-- No link stands, and the holders are those of the dockets.
pub begun : {D : Type 0} (kept : Kept D) (tables : Tables) (serving : Serving) → kept.links ≡ [] → kept.store.tables ≡ tables
    → ((state : State) → Begins kept.store.tables state → Keeps kept.locks state) → IsBegun tables serving → Represents kept serving
begun kept tables serving none are holds is = record {
  tables = is.begins.kept ∙ sym are;
  held = holds serving.filestore (subst (λ (t : Tables). Begins t serving.filestore) (sym are) is.begins);
  links = λ number. at-none number (link_of number kept.links) (party_of number serving.filestore.parties) (serving.associations number)
      (ap (λ (links : List (ℕ × Link)). link_of number links) none) (ap (λ (parties : List StandingParty). party_of number parties) is.begins.alone);
  counted = ap (λ (links : List (ℕ × Link)). length links) none ∙ sym (ap (λ (parties : List StandingParty). length parties) is.begins.alone);
  distinct = subst (λ (links : List (ℕ × Link)). IsDistinct nat_eq (keys_of links)) (sym none) none-distinct;
  reached = is.reached;
}

-- No call of the disk was made.
pub still-along : {D : Type 0} (shown : D → Option (List ℕ)) (may_leave : D → List ℕ → Type 0) (moment : D → ℕ) (left_since : D → ℕ → List ℕ → Type 0)
    (only_now : (disk : D) (image : List ℕ) → left_since disk (moment disk) image → may_leave disk image)
    (answers : Serving → List Answer) (old new : Kept D) → new.store ≡ old.store → KeepsAlong answers shown may_leave moment left_since old new
still-along shown may_leave moment left_since only_now answers old new same serving represents stands =
    subst (λ (store : StoreState _). LeavesOnly moment left_since old.store.disk store.disk (RepresentsAlong serving (answers serving))) (sym same)
    (idle-along shown may_leave moment left_since only_now old.store serving (answers serving) stands represents.tables)
