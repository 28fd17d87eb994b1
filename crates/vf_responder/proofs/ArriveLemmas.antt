-- The answers to an arrival and to an end.
use Rattle.std.proofs.Common.{◌≡◌, ℕ, ◌+◌, ◌<◌, ◌≤◌, Bool, true, false, nat_eq, nat_lt, List, [], ◌∷◌, ◌++◌, length, Option, Some, None, refl, ap, sym, subst, ◌∙◌, append-nil, arith}
use Rattle.std.proofs.lemmas.Bool.Decides.{nat_tests}
use Rattle.std.specs.Prelude.{is_some, if◌then◌else◌}
use Rattle.vf_base.specs.declared.events.ScriptEvent.TheVariants as script
use Rattle.vf_filestore.specs.Dockets.{broken}
use Rattle.vf_filestore.specs.HoldersAfter.{Keeps}
use Rattle.vf_filestore.specs.Runs.{arrives}
use Rattle.vf_filestore.specs.State.{StandingParty, arrived, party_of}
use Rattle.vf_store.specs.StoreState.{StoreState}
use Rattle.vf_party.specs.Turns.{LeavesParty}
use Rattle.vf_stack.specs.Association.{Association, beginning}
use Rattle.vf_responder.proofs.MoveLemmas.{IsTakenOut, new-represents, out-represents, put-again, same-associations}
use Rattle.vf_responder.proofs.StandLemmas.{broken-off, on-link}
use Rattle.vf_responder.specs.Answers.{Answer, arrival, ended, speaking}
use Rattle.vf_responder.specs.Represents.{Answers, IsLink, IsLinkOf, Kept, Represents, link_of}
use Rattle.vf_responder.specs.Run.{trail}
use Rattle.vf_responder.specs.Serving.{Serving, stands, with_association}
use Rattle.vf_responder.specs.declared.event.Reply.{Reply}
use Rattle.vf_responder.specs.declared.link.Link.{Link}

stands-some : (number : ℕ) (l : Option Link) (p : Option StandingParty) (a : Association) → IsLinkOf number l p a → is_some l ≡ is_some p
stands-some number None None a is = refl
stands-some number None (Some party) a is = absurd is
stands-some number (Some link) None a is = absurd is
stands-some number (Some link) (Some party) a is = refl

pub is-none : (l : Option Link) → is_some l ≡ false → l ≡ None
is-none None e = refl
is-none (Some link) e = cc

-- an arrival where fewer links stand, or not
abbrev arrival-by : Bool → ℕ → Serving → Answer
arrival-by few number serving =
    if few then record { spoken = []; state = with_association number beginning (record serving { filestore = arrives number serving.filestore }) }
    else record { spoken = speaking number [] true; state = serving }

module _ {D : Type 0} (number : ℕ) (kept : Kept D) (serving : Serving) (old : List Reply) (represents : Represents kept serving) where
  stands-is : (b : Bool) → is_some (link_of number kept.links) ≡ b → stands number serving.filestore ≡ b
  stands-is b e = sym (stands-some number (link_of number kept.links) (party_of number serving.filestore.parties) (serving.associations number) (represents.links number)) ∙ e

  trail-by : (b : Bool) → stands number serving.filestore ≡ b → trail (script.Arrived number) serving ≡ (if b then [] else arrival number serving ∷ [])
  trail-by b e = ap (λ (one : Bool). if one then [] else arrival number serving ∷ []) e

  -- one that stands arrives no more
  pub arrived-again : is_some (link_of number kept.links) ≡ true → Answers (trail (script.Arrived number) serving) serving old kept old
  arrived-again e =
      subst (λ (all : List Answer). Answers all serving old kept old) (sym (trail-by true (stands-is true e)))
      (record { spoken = sym (append-nil old); represents = represents })

  -- one too many is shut
  pub arrived-full : (new : List Reply) → is_some (link_of number kept.links) ≡ false → 64 ≤ length kept.links → new ≡ old ++ speaking number [] true
      → Answers (trail (script.Arrived number) serving) serving old kept new
  arrived-full new e full spoken =
      let counted = represents.counted in
      let many : nat_lt (length serving.filestore.parties) 64 ≡ false = grind (arith, nat_tests) in
      subst (λ (all : List Answer). Answers all serving old kept new)
      (sym (trail-by false (stands-is false e) ∙ ap (λ (b : Bool). arrival-by b number serving ∷ []) many))
      (record { spoken = spoken ∙ ap (λ (l : List Reply). old ++ l) (sym (append-nil (speaking number [] true))); represents = represents })

-- and else it stands
pub arrived-new : {D : Type 0} (number : ℕ) (link : Link) (kept kept' : Kept D) (serving : Serving) (old : List Reply) → Represents kept serving
    → is_some (link_of number kept.links) ≡ false → length kept.links < 64 → link.number ≡ number → IsLink number link (arrived number) beginning
    → kept'.links ≡ kept.links ++ (link.number, link) ∷ [] → kept'.store.tables ≡ kept.store.tables → kept'.locks ≡ kept.locks
    → Answers (trail (script.Arrived number) serving) serving old kept' old
arrived-new number link kept kept' serving old represents e few numbered is links tables locks =
    let counted = represents.counted in
    let less : nat_lt (length serving.filestore.parties) 64 ≡ true = grind (arith, nat_tests) in
    subst (λ (all : List Answer). Answers all serving old kept' old)
    (sym (trail-by number kept serving old represents false (stands-is number kept serving old represents false e) ∙ ap (λ (b : Bool). arrival-by b number serving ∷ []) less))
    (record { spoken = sym (append-nil old); represents = new-represents number link kept kept' serving represents (is-none (link_of number kept.links) e) numbered is links tables locks })

-- ---- an end

pub ended-none : {D : Type 0} (number : ℕ) (kept : Kept D) (serving : Serving) (old : List Reply) → Represents kept serving → link_of number kept.links ≡ None
    → Answers (trail (script.Ended number) serving) serving old kept old
ended-none number kept serving old represents none =
    let nobody : is_some (party_of number serving.filestore.parties) ≡ false =
    sym (stands-some number (link_of number kept.links) (party_of number serving.filestore.parties) (serving.associations number) (represents.links number)) ∙ ap (λ (l : Option Link). is_some l) none in
    subst (λ (all : List Answer). Answers all serving old kept old) (sym (ended-by serving (party_of number serving.filestore.parties) nobody))
    (record { spoken = sym (append-nil old); represents = represents })
  where
    ended-by : (serving : Serving) (p : Option StandingParty) → is_some p ≡ false → ended serving p ≡ []
    ended-by serving None e = refl
    ended-by serving (Some party) e = cc

pub ended-one : {D : Type 0} (number : ℕ) (link : Link) (kept rest kept' : Kept D) (serving : Serving) (old : List Reply) → Represents kept serving → IsTakenOut number link kept rest
    → LeavesParty link.party rest.locks kept'.locks → kept'.links ≡ rest.links → kept'.store ≡ rest.store
    → link.number ≡ number → Answers (trail (script.Ended number) serving) serving old kept' old
ended-one {D} number link kept rest kept' serving old represents out leaves links store numbered =
    let again = out-represents number link kept rest serving represents out in
    let on = on-link link rest serving again in
    let n = on.party.link in
    let held : Keeps kept'.locks (broken n serving.filestore) =
    leaves rest.store.tables serving.filestore on.party (record { sound = again.reached.sound; kept = again.tables; held = again.held; stands = on.found }) on.is.represented in
    let gone = broken-off n link rest kept' serving (serving.associations n) on.party on.linked again on.found links (ap (λ (s : StoreState D). s.tables) store) held in
    let is : trail (script.Ended number) serving ≡ ended serving (Some on.party) =
    ap (λ (m : ℕ). ended serving (party_of m serving.filestore.parties)) (sym numbered ∙ on.linked) ∙ ap (λ (p : Option StandingParty). ended serving p) on.found in
    subst (λ (all : List Answer). Answers all serving old kept' old) (sym is)
    (record {
      spoken = sym (append-nil old);
      represents = same-associations kept' (with_association n (serving.associations n) (record serving { filestore = broken n serving.filestore })) serving.associations gone
          (λ q. put-again n q serving (nat_eq q n) refl);
    })
