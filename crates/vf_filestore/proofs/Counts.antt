-- Which links have a party, and how many, once a message is answered or an association is gone.
use Rattle.std.proofs.Common.{◌≡◌, ℕ, ◌+◌, ◌⊎◌, inl, inr, Bool, true, false, cond, ◌||◌, not, List, [], ◌∷◌, length, map, filter, nat_eq, Option, None, Some, refl, ap, sym, subst, ◌∙◌, arith}
use Rattle.std.specs.Prelude.{count_by, flat_map, is_some, nat_le}
use Rattle.std.specs.List.{AllByRecursion, IsDistinct, list_any}
use Rattle.std.proofs.lemmas.Bool.{eqb-true}
use Rattle.vf_elements.specs.declared.message.Message.{Message}
use Rattle.vf_elements.specs.declared.message.Message.TheVariants as messages
use Rattle.vf_pdu.specs.declared.pdu.Pdu.{Pdu}
use Rattle.vf_filestore.specs.Aborts.{Setting}
use Rattle.vf_filestore.specs.Conclusion.{Answered, concluded, concluding_entry, grants, has_abort, taken_up}
use Rattle.vf_filestore.specs.Decision.{Decision, Aborts, Refuses, Grants, Waits, Groups, Ends, Leaves, decision, trial_decision}
use Rattle.vf_filestore.specs.Dockets.{broken}
use Rattle.vf_filestore.specs.GivingWay.{AnswersCount, BreaksCount, gone_of}
use Rattle.vf_filestore.specs.Groups.{between, is_good, said_in_vain, said_of, trial, trial_by, trial_step}
use Rattle.vf_filestore.specs.History.{Given}
use Rattle.vf_filestore.specs.Replies.{refusal}
use Rattle.vf_filestore.specs.Sound.{link_of}
use Rattle.vf_filestore.specs.State.{State, StandingParty, party_of, with_party, without_party}
use Rattle.vf_filestore.specs.Transition.{answered, associates, leaves, met, with_message}
use Rattle.vf_filestore.proofs.Others.{breaks_leave_none}
use Rattle.vf_filestore.proofs.Parties.{located, nat_eq_flips}

-- ---- links

abbrev links_in : State → List ℕ
links_in state = map link_of state.parties

abbrev without_link : ℕ → List ℕ → List ℕ
without_link link links = filter (λ (one : ℕ). not (nat_eq one link)) links

put_links : (next : StandingParty) (parties : List StandingParty) → map link_of (with_party next parties) ≡ map link_of parties
put_links next [] = refl
put_links next (first ∷ parties) = by (nat_eq first.link next.link) refl (put_links next parties)
  where
    by : (b : Bool) → nat_eq first.link next.link ≡ b → map link_of (with_party next parties) ≡ map link_of parties
        → map link_of (cond b (next ∷ parties) (first ∷ with_party next parties)) ≡ first.link ∷ map link_of parties
    by true same rest = ap (λ (link : ℕ). link ∷ map link_of parties) (sym (eqb-true first.link next.link same))
    by false same rest = ap (λ (links : List ℕ). first.link ∷ links) rest

left_links : (gone : ℕ) (parties : List StandingParty) → map link_of (without_party gone parties) ≡ without_link gone (map link_of parties)
left_links gone [] = refl
left_links gone (first ∷ parties) = by (nat_eq first.link gone) (left_links gone parties)
  where
    by : (b : Bool) → map link_of (without_party gone parties) ≡ without_link gone (map link_of parties)
        → map link_of (cond (not b) (first ∷ without_party gone parties) (without_party gone parties)) ≡ cond (not b) (first.link ∷ without_link gone (map link_of parties)) (without_link gone (map link_of parties))
    by true rest = rest
    by false rest = ap (λ (links : List ℕ). first.link ∷ links) rest

left_twice : (link : ℕ) (links : List ℕ) → without_link link (without_link link links) ≡ without_link link links
left_twice link [] = refl
left_twice link (one ∷ links) = by (nat_eq one link) refl (left_twice link links)
  where
    by : (b : Bool) → nat_eq one link ≡ b → without_link link (without_link link links) ≡ without_link link links
        → without_link link (cond (not b) (one ∷ without_link link links) (without_link link links)) ≡ cond (not b) (one ∷ without_link link links) (without_link link links)
    by true is rest = rest
    by false is rest =
        (λ i. cond (not (is i)) (one ∷ without_link link (without_link link links)) (without_link link (without_link link links))) ∙ ap (λ (others : List ℕ). one ∷ others) rest

-- the same links have parties, or all but this one
abbrev LeavesOne : (link : ℕ) → (before after : List ℕ) → Type 0
LeavesOne link before after = (after ≡ before) ⊎ (after ≡ without_link link before)

then_leaves : (link : ℕ) (first second third : List ℕ) → LeavesOne link first second → LeavesOne link second third → LeavesOne link first third
then_leaves link first second third (inl a) (inl b) = inl (b ∙ a)
then_leaves link first second third (inl a) (inr b) = inr (b ∙ ap (without_link link) a)
then_leaves link first second third (inr a) (inl b) = inr (b ∙ a)
then_leaves link first second third (inr a) (inr b) = inr (b ∙ ap (without_link link) a ∙ left_twice link first)

broken_leaves : (link : ℕ) (state : State) → LeavesOne link (links_in state) (links_in (broken link state))
broken_leaves link state = inr (left_links link state.parties)

-- ---- an answer

module _ (link : ℕ) (setting : Setting) where
  granted_leaves : (state : State) (party : StandingParty) (message : Message) (given : Given) → party.link ≡ link
      → LeavesOne link (links_in state) (links_in (grants state party setting message given).state)
  granted_leaves state party message given same = by (has_abort (concluding_entry state party setting message given).said)
    where
      put : LeavesOne link (links_in state) (links_in (concluded state party (concluding_entry state party setting message given)))
      put = inl (put_links (record party { history = concluding_entry state party setting message given ∷ taken_up state party message }) state.parties)

      by : (b : Bool)
          → LeavesOne link (links_in state) (links_in (cond b (broken party.link (concluded state party (concluding_entry state party setting message given))) (concluded state party (concluding_entry state party setting message given))))
      by true =
          let after = concluded state party (concluding_entry state party setting message given) in
          then_leaves link (links_in state) (links_in after) (links_in (broken party.link after)) put
          (subst (λ (n : ℕ). LeavesOne link (links_in after) (links_in (broken n after))) (sym same) (broken_leaves link after))
      by false = put

  trial_leaves : (items : List Pdu) (state : State) → LeavesOne link (links_in state) (links_in (trial link setting items state).state)
  trial_leaves [] state = inl refl
  trial_leaves (item ∷ items) state = by (λ next. trial_leaves items next) (party_of link state.parties) refl
    where
      step : ((next : State) → LeavesOne link (links_in next) (links_in (trial link setting items next).state)) → (party : StandingParty) → party.link ≡ link → (one : Decision)
          → LeavesOne link (links_in state) (links_in (trial_step (trial link setting items) setting item state party one).state)
      step rest party same (Grants given) =
          let next = (grants state party setting (messages.Pdu item) given).state in
          then_leaves link (links_in state) (links_in next) (links_in (trial link setting items next).state) (granted_leaves state party (messages.Pdu item) given same) (rest next)
      step rest party same (Refuses diagnostic) = rest state
      step rest party same (Aborts number) = rest state
      step rest party same Waits = rest state
      step rest party same (Groups group) = rest state
      step rest party same Ends = rest state
      step rest party same Leaves = rest state

      by : ((next : State) → LeavesOne link (links_in next) (links_in (trial link setting items next).state)) → (one : Option StandingParty) → party_of link state.parties ≡ one
          → LeavesOne link (links_in state) (links_in (trial_by (trial link setting items) setting item state one).state)
      by rest None found = rest state
      by rest (Some party) found = step rest party (located link state.parties party found).same (trial_decision state party setting item)

  gone_leaves : (state : State) (party : StandingParty) → party.link ≡ link → LeavesOne link (links_in state) (links_in (broken party.link state))
  gone_leaves state party same = subst (λ (n : ℕ). LeavesOne link (links_in state) (links_in (broken n state))) (sym same) (broken_leaves link state)

  met_leaves : (state : State) (party : StandingParty) (message : Message) → party.link ≡ link → (one : Decision)
      → LeavesOne link (links_in state) (links_in (met state party setting message one).state)
  met_leaves state party message same (Aborts number) = gone_leaves state party same
  met_leaves state party message same (Refuses diagnostic) = by (associates message)
    where
      by : (b : Bool) → LeavesOne link (links_in state) (links_in (cond b (leaves state party (refusal diagnostic message)) (record { said = refusal diagnostic message; state = state })).state)
      by true = gone_leaves state party same
      by false = inl refl
  met_leaves state party message same (Grants given) = granted_leaves state party message given same
  met_leaves state party message same Waits = inl refl
  met_leaves state party message same (Groups group) = by (nat_le group.threshold (count_by is_good (trial party.link setting group.items state).tried))
    where
      by : (b : Bool)
          → LeavesOne link (links_in state) (links_in (cond {A = Answered} b
          (record { said = between (flat_map said_of (trial party.link setting group.items state).tried); state = (trial party.link setting group.items state).state })
          (record { said = between (flat_map said_in_vain (trial party.link setting group.items state).tried); state = state })).state)
      by true = subst (λ (n : ℕ). LeavesOne link (links_in state) (links_in (trial n setting group.items state).state)) (sym same) (trial_leaves group.items state)
      by false = inl refl
  met_leaves state party message same Ends = gone_leaves state party same
  met_leaves state party message same Leaves = gone_leaves state party same

  answered_leaves : (state : State) (party : StandingParty) (message : Message) → party.link ≡ link → LeavesOne link (links_in state) (links_in (answered state party setting message).state)
  answered_leaves state party message same =
      let heard = with_message message party in
      let hearing : State = record state { parties = with_party heard state.parties } in
      then_leaves link (links_in state) (links_in hearing) (links_in (answered state party setting message).state) (inl (put_links heard state.parties))
      (met_leaves hearing heard message same (decision state party setting message))

-- ---- how many

stands_is : (link : ℕ) (parties : List StandingParty) → is_some (party_of link parties) ≡ list_any (λ (one : ℕ). nat_eq one link) (map link_of parties)
stands_is link [] = refl
stands_is link (first ∷ parties) = by (nat_eq first.link link) (stands_is link parties)
  where
    by : (b : Bool) → is_some (party_of link parties) ≡ list_any (λ (one : ℕ). nat_eq one link) (map link_of parties)
        → is_some (cond b (Some first) (party_of link parties)) ≡ (b || list_any (λ (one : ℕ). nat_eq one link) (map link_of parties))
    by true rest = refl
    by false rest = rest

none_without : (link : ℕ) (links : List ℕ) → list_any (λ (one : ℕ). nat_eq one link) (without_link link links) ≡ false
none_without link [] = refl
none_without link (one ∷ links) = by (nat_eq one link) refl (none_without link links)
  where
    by : (b : Bool) → nat_eq one link ≡ b → list_any (λ (one : ℕ). nat_eq one link) (without_link link links) ≡ false
        → list_any (λ (one : ℕ). nat_eq one link) (cond (not b) (one ∷ without_link link links) (without_link link links)) ≡ false
    by true is rest = rest
    by false is rest = (λ i. is i || list_any (λ (one : ℕ). nat_eq one link) (without_link link links)) ∙ rest

all_stay : (link : ℕ) (links : List ℕ) → AllByRecursion (λ (one : ℕ). nat_eq link one ≡ false) links → without_link link links ≡ links
all_stay link [] off = refl
all_stay link (one ∷ links) off =
    (λ i. cond (not ((nat_eq_flips one link ∙ off.0) i)) (one ∷ without_link link links) (without_link link links)) ∙ ap (λ (others : List ℕ). one ∷ others) (all_stay link links off.1)

one_less : (link : ℕ) (links : List ℕ) → IsDistinct nat_eq links → list_any (λ (one : ℕ). nat_eq one link) links ≡ true → length (without_link link links) + 1 ≡ length links
unfolding IsDistinct
one_less link [] distinct there = absurd cc
one_less link (one ∷ links) distinct there = by (nat_eq one link) refl there (one_less link links distinct.1)
  where
    by : (b : Bool) → nat_eq one link ≡ b → (b || list_any (λ (one : ℕ). nat_eq one link) links) ≡ true
        → (list_any (λ (one : ℕ). nat_eq one link) links ≡ true → length (without_link link links) + 1 ≡ length links)
        → length (cond (not b) (one ∷ without_link link links) (without_link link links)) + 1 ≡ length (one ∷ links)
    by true is there rest =
        let same : without_link link links ≡ links =
        ap (λ (n : ℕ). without_link n links) (sym (eqb-true one link is)) ∙ all_stay one links distinct.0 in
        let count = ap length same in
        omega (arith, count)
    by false is there rest = let count = rest there in omega (arith, count)

length_links : (parties : List StandingParty) → length (map link_of parties) ≡ length parties
length_links [] = refl
length_links (first ∷ parties) = let rest = length_links parties in omega (arith, rest)

counted : (link : ℕ) (before after : List StandingParty) → IsDistinct nat_eq (map link_of before) → is_some (party_of link before) ≡ true
    → LeavesOne link (map link_of before) (map link_of after) → length after + gone_of (party_of link after) ≡ length before
counted link before after distinct there (inl same) =
    let stands : is_some (party_of link after) ≡ true = stands_is link after ∙ ap (list_any (λ (one : ℕ). nat_eq one link)) same ∙ sym (stands_is link before) ∙ there in
    let none : gone_of (party_of link after) ≡ 0 = ap (λ (b : Bool). cond b 0 1) stands in
    let count = sym (length_links after) ∙ ap length same ∙ length_links before in
    omega (arith, none, count)
counted link before after distinct there (inr less) =
    let gone : is_some (party_of link after) ≡ false = stands_is link after ∙ ap (list_any (λ (one : ℕ). nat_eq one link)) less ∙ none_without link (map link_of before) in
    let one : gone_of (party_of link after) ≡ 1 = ap (λ (b : Bool). cond b 0 1) gone in
    let was = one_less link (map link_of before) distinct (sym (stands_is link before) ∙ there) in
    let count = sym (length_links after) ∙ ap length less in
    let all = length_links before in
    omega (arith, one, was, count, all)

pub answers_count : AnswersCount
answers_count state party setting message sound found =
    counted party.link state.parties (answered state party setting message).state.parties sound.linked (ap is_some found) (answered_leaves party.link setting state party message refl)

pub breaks_count : BreaksCount
breaks_count state link party sound found =
    let count = counted link state.parties (broken link state).parties sound.linked (ap is_some found) (broken_leaves link state) in
    let one : gone_of (party_of link (broken link state).parties) ≡ 1 = ap gone_of (breaks_leave_none state link) in
    omega (arith, count, one)
