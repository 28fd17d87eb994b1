-- Few octets are heard as a whole: what they say, the state then and what the disk may represent meanwhile are those of all
-- that they tell, said at once.
use Rattle.std.proofs.Common.{◌≡◌, ◌<◌, ℕ, zero, suc, Bool, true, false, ◌⊎◌, inl, inr, List, [], ◌∷◌, ◌++◌, length, nat_eq, Option, None, Some, refl, ap, sym, subst, ◌∙◌, append-nil, arith}
use Rattle.std.specs.Prelude.{is_some, if◌then◌else◌}
use Rattle.vf_filestore.specs.State.{StandingParty, party_of}
use Rattle.vf_filestore.specs.Diagnostics.{superseded}
use Rattle.vf_filestore.specs.Runs.{Event}
use Rattle.vf_filestore.specs.Transition.{aborts, leaves}
use Rattle.vf_filestore.specs.Dockets.{broken}
use Rattle.vf_filestore.proofs.Others.{breaks_leave_none}
use Rattle.vf_filestore.proofs.Parties.{located}
use Rattle.vf_session.specs.Trace.{next}
use Rattle.vf_session.specs.declared.units.TokenSide.TheVariants.{Responder}
use Rattle.vf_stack.specs.Association.{Association, is_ended}
use Rattle.vf_stack.specs.Few.{IsLast, IsStill, TellsLast, lengthened}
use Rattle.vf_stack.specs.Receiving.{Fed, nothing_fed, octets_received, piece_received}
use Rattle.vf_stack.specs.declared.indication.Indication.{Indication}
use Rattle.vf_stack.specs.declared.indication.Indication.TheVariants as indications
use Rattle.vf_store.specs.Represented.{Represents as ImageRepresents}
use Rattle.vf_store.specs.StoreState.{StoreState}
use Rattle.vf_tables.specs.declared.tables.Tables.{Tables}
use Rattle.vf_responder.proofs.ChainLemmas.{at_end-join}
use Rattle.vf_responder.proofs.CommitLemmas.{commits-join}
use Rattle.vf_responder.proofs.CommitParts.{commits_octet, first-commits, gone-commits, told_all-each}
use Rattle.vf_responder.proofs.FewLemmas.{IsOver, says-over}
use Rattle.vf_responder.proofs.FullLemmas.{full-after, full-front}
use Rattle.vf_responder.proofs.StandLemmas.{with-own}
use Rattle.vf_responder.proofs.TellLemmas.{heard-gone}
use Rattle.vf_responder.specs.Along.{RepresentsAlong}
use Rattle.vf_responder.specs.Answers.{Answer, after_octet, answering, answering_on, at_end, breaking, given_to, giving_way, in_the_way, octet_heard, octets_heard, says, setting_at, speaking, spoken_in, told, told_all}
use Rattle.vf_responder.specs.AnswersTo.{to_ending, to_indications, to_octets}
use Rattle.vf_responder.specs.Commits.{Commit, commits, commits_heard, commits_told_all}
use Rattle.vf_responder.specs.Full.{IsFullAt}
use Rattle.vf_responder.specs.Meanings.{Meaning, meaning, transfer_check}
use Rattle.vf_responder.specs.Run.{tables_in}
use Rattle.vf_responder.specs.Serving.{Serving, stands, with_association}

-- what transport answers to octets that told so much, and the state then
abbrev pub heard_by : (link : ℕ) → Serving → Fed → Answer
heard_by link serving fed = record { spoken = speaking link fed.answers false; state = with_association link fed.association serving }

-- all that is answered to them
abbrev pub whole : (moment link : ℕ) → Serving → Fed → List Answer
whole moment link serving fed =
    let heard = heard_by link serving fed in
    let turns = told_all moment link heard.state fed.indications in
    heard ∷ turns ++ after_octet link (at_end heard.state turns)

-- The one answers say what the others do, to the same state, and have its tables where these have them.
pub record IsSame (serving : Serving) (ones others : List Answer) : Type 0 where
  pub spoken : spoken_in ones ≡ spoken_in others
  pub state : at_end serving ones ≡ at_end serving others
  pub along : (image : List ℕ) → RepresentsAlong serving others image → RepresentsAlong serving ones image

same-lists : (serving : Serving) (ones others : List Answer) → ones ≡ others → IsSame serving ones others
same-lists serving ones others same = record {
  spoken = ap spoken_in same;
  state = ap (at_end serving) same;
  along = λ image along. subst (λ (answers : List Answer). RepresentsAlong serving answers image) (sym same) along;
}

-- the state before them counts for its tables alone
along-from : (one other : Serving) (answers : List Answer) (image : List ℕ) → tables_in one ≡ tables_in other → RepresentsAlong one answers image → RepresentsAlong other answers image
along-from one other answers image same (zero, represents) = (zero, subst (λ (t : Tables). ImageRepresents image t) same represents)
along-from one other [] image same (suc count, represents) = (zero, subst (λ (t : Tables). ImageRepresents image t) same represents)
along-from one other (answer ∷ answers) image same (suc count, represents) = (suc count, represents)

-- ---- receiving stays ended

module _ (link : ℕ) where
  abbrev Over : Serving → Type 0
  Over serving = IsOver (serving.associations link)

  gives_over : (serving : Serving) (way : Option StandingParty) → Over serving → Over (at_end serving (giving_way serving way))
  gives_over serving None was = was
  gives_over serving (Some other) was = says-over link other.link (indications.Abort None) serving (aborts serving.filestore other superseded 0) was

  answers_over : (moment : ℕ) (indication : Indication) (serving : Serving) (party : StandingParty) (meant : Meaning) → Over serving → Over (at_end serving (answering moment indication serving party meant))
  answers_over moment indication serving party meant was =
      let first = giving_way serving (in_the_way serving.filestore party meant) in
      let now = at_end serving first in
      let given = given_to now.filestore party (setting_at moment (now.associations party.link) indication) meant in
      subst Over (sym (at_end-join serving first (says party.link indication now given ∷ [])))
      (says-over link party.link indication now given (gives_over serving (in_the_way serving.filestore party meant) was))

  on_over : (moment : ℕ) (indication : Indication) (serving : Serving) (party : Option StandingParty) → Over serving → Over (at_end serving (answering_on moment indication serving party))
  on_over moment indication serving None was = was
  on_over moment indication serving (Some party) was =
      answers_over moment indication serving party (meaning (next (serving.associations party.link).exchange.trace) (transfer_check party.history) indication) was

  told_over : (moment : ℕ) (serving : Serving) (indications : List Indication) → Over serving → Over (at_end serving (told_all moment link serving indications))
  told_over moment serving [] was = was
  told_over moment serving (indication ∷ later) was =
      let first = told moment link serving indication in
      subst Over (sym (at_end-join serving first (told_all moment link (at_end serving first) later)))
      (told_over moment (at_end serving first) later (on_over moment indication serving (party_of link serving.filestore.parties) was))

  -- ---- once it has ended the link doesn't stand

  abbrev breaking_by : Bool → Serving → StandingParty → List Answer
  breaking_by over serving party = if over then says party.link (indications.Abort None) serving (leaves serving.filestore party []) ∷ [] else []

  breaks : (serving : Serving) → Over serving → (party : Option StandingParty) → party_of link serving.filestore.parties ≡ party
      → stands link (at_end serving (breaking serving party)).filestore ≡ false
  breaks serving was None is = ap (λ (p : Option StandingParty). is_some p) is
  breaks serving was (Some party) is =
      let same : party.link ≡ link = (located link serving.filestore.parties party is).same in
      let over : is_ended (serving.associations party.link).exchange.ending ≡ true = ap (λ (n : ℕ). is_ended (serving.associations n).exchange.ending) same ∙ was in
      let gone : stands link (broken party.link serving.filestore) ≡ false =
      ap (λ (n : ℕ). stands link (broken n serving.filestore)) same ∙ ap (λ (p : Option StandingParty). is_some p) (breaks_leave_none serving.filestore link) in
      ap (λ (b : Bool). stands link (at_end serving (breaking_by b serving party)).filestore) over ∙ gone

  whole_breaks : (moment : ℕ) (serving : Serving) (fed : Fed) → is_ended fed.association.exchange.ending ≡ true → stands link (at_end serving (whole moment link serving fed)).filestore ≡ false
  whole_breaks moment serving fed ended =
      let heard = with_association link fed.association serving in
      let turns = told_all moment link heard fed.indications in
      let over : Over heard = ap (λ (a : Association). is_ended a.exchange.ending) (with-own link fed.association serving) ∙ ended in
      let s = at_end heard turns in
      ap (λ (one : Serving). stands link one.filestore) (at_end-join heard turns (after_octet link s))
      ∙ breaks s (told_over moment heard fed.indications over) (party_of link s.filestore.parties) refl

  -- ---- the octets

  first_heard : (moment octet : ℕ) (later : List ℕ) (serving : Serving) → stands link serving.filestore ≡ true
      → octets_heard moment link serving (octet ∷ later) ≡ octet_heard moment link serving octet ++ octets_heard moment link (at_end serving (octet_heard moment link serving octet)) later
  first_heard moment octet later serving there =
      let first = octet_heard moment link serving octet in
      ap (λ (b : Bool). if b then first ++ octets_heard moment link (at_end serving first) later else []) there

  -- no other says anything
  last_rest : (moment octet : ℕ) (later : List ℕ) (serving : Serving) → IsLast Responder (serving.associations link) octet later
      → octets_heard moment link (at_end serving (octet_heard moment link serving octet)) later ≡ []
  last_rest moment octet later serving last = by last.last
    where
      by : (later ≡ []) ⊎ (is_ended (piece_received Responder (serving.associations link) (octet ∷ [])).association.exchange.ending ≡ true)
          → octets_heard moment link (at_end serving (octet_heard moment link serving octet)) later ≡ []
      by (inl none) = ap (λ (octets : List ℕ). octets_heard moment link (at_end serving (octet_heard moment link serving octet)) octets) none
      by (inr ended) =
          heard-gone moment link (at_end serving (octet_heard moment link serving octet)) later
          (whole_breaks moment serving (piece_received Responder (serving.associations link) (octet ∷ [])) ended)

  last_heard : (moment octet : ℕ) (later : List ℕ) (serving : Serving) → stands link serving.filestore ≡ true → IsLast Responder (serving.associations link) octet later
      → octets_heard moment link serving (octet ∷ later) ≡ whole moment link serving (octets_received Responder (serving.associations link) (octet ∷ later))
  last_heard moment octet later serving there last =
      let first = octet_heard moment link serving octet in
      first_heard moment octet later serving there ∙ ap (λ (rest : List Answer). first ++ rest) (last_rest moment octet later serving last)
      ∙ append-nil first ∙ ap (λ (fed : Fed). whole moment link serving fed) (sym last.whole)

  -- ---- a silent octet

  goes_on : (serving : Serving) → is_ended (serving.associations link).exchange.ending ≡ false → (party : Option StandingParty) → party_of link serving.filestore.parties ≡ party → breaking serving party ≡ []
  goes_on serving goes None is = refl
  goes_on serving goes (Some party) is =
      let same : party.link ≡ link = (located link serving.filestore.parties party is).same in
      let off : is_ended (serving.associations party.link).exchange.ending ≡ false = ap (λ (n : ℕ). is_ended (serving.associations n).exchange.ending) same ∙ goes in
      ap (λ (b : Bool). breaking_by b serving party) off

  abbrev silent : Serving → Association → Answer
  silent serving a = record { spoken = []; state = with_association link a serving }

  whole_silent : (moment : ℕ) (serving : Serving) (a : Association) → is_ended a.exchange.ending ≡ false → whole moment link serving (nothing_fed a) ≡ silent serving a ∷ []
  whole_silent moment serving a goes =
      let now = with_association link a serving in
      ap (λ (rest : List Answer). silent serving a ∷ rest)
      (goes_on now (ap (λ (one : Association). is_ended one.exchange.ending) (with-own link a serving) ∙ goes) (party_of link now.filestore.parties) refl)

  with_twice : (serving : Serving) (one other : Association) → with_association link other (with_association link one serving) ≡ with_association link other serving
  with_twice serving one other = λ i. record { filestore = serving.filestore; associations = λ (n : ℕ). by n (nat_eq n link) i }
    where
      by : (n : ℕ) (b : Bool) → (if b then other else (if b then one else serving.associations n)) ≡ (if b then other else serving.associations n)
      by n true = refl
      by n false = refl

  -- the state that it begins with counts for the other links alone
  whole_from : (moment : ℕ) (serving : Serving) (one : Association) (fed : Fed) → whole moment link (with_association link one serving) fed ≡ whole moment link serving fed
  whole_from moment serving one fed =
      ap (λ (now : Serving).
      let heard : Answer = record { spoken = speaking link fed.answers false; state = now } in
      let turns = told_all moment link heard.state fed.indications in heard ∷ turns ++ after_octet link (at_end heard.state turns))
      (with_twice serving one fed.association)

  abbrev Heard : (moment octet : ℕ) (later : List ℕ) → Serving → Type 0
  Heard moment octet later serving =
      IsSame serving (octets_heard moment link serving (octet ∷ later)) (whole moment link serving (octets_received Responder (serving.associations link) (octet ∷ later)))

  still_heard : (moment octet after : ℕ) (later : List ℕ) (serving : Serving) → stands link serving.filestore ≡ true → IsStill Responder (serving.associations link) octet (after ∷ later)
      → Heard moment after later (with_association link (lengthened (serving.associations link) (octet ∷ [])) serving) → Heard moment octet (after ∷ later) serving
  still_heard moment octet after later serving there still rest =
      let a = serving.associations link in
      let a1 = lengthened a (octet ∷ []) in
      let now = with_association link a1 serving in
      let octets = after ∷ later in
      let fed = octets_received Responder a (octet ∷ octets) in
      let first : octet_heard moment link serving octet ≡ silent serving a1 ∷ [] = ap (λ (f : Fed). whole moment link serving f) still.nothing ∙ whole_silent moment serving a1 still.goes in
      let all : octets_heard moment link serving (octet ∷ octets) ≡ silent serving a1 ∷ octets_heard moment link now octets =
      first_heard moment octet octets serving there ∙ ap (λ (first : List Answer). first ++ octets_heard moment link (at_end serving first) octets) first in
      let feds : octets_received Responder (now.associations link) octets ≡ fed =
      ap (λ (one : Association). octets_received Responder one octets) (with-own link a1 serving) ∙ sym still.others in
      let same : whole moment link now (octets_received Responder (now.associations link) octets) ≡ whole moment link serving fed =
      ap (λ (f : Fed). whole moment link now f) feds ∙ whole_from moment serving a1 fed in
      record {
        spoken = ap spoken_in all ∙ rest.spoken ∙ ap spoken_in same;
        state = ap (at_end serving) all ∙ rest.state ∙ ap (at_end now) same;
        along = λ image along.
            let one : RepresentsAlong now (whole moment link now (octets_received Responder (now.associations link) octets)) image =
            subst (λ (answers : List Answer). RepresentsAlong now answers image) (sym same) (along-from serving now (whole moment link serving fed) image refl along) in
            let two = rest.along image one in
            let three : RepresentsAlong serving (silent serving a1 ∷ octets_heard moment link now octets) image = (suc two.0, two.1) in
            subst (λ (answers : List Answer). RepresentsAlong serving answers image) (sym all) three;
      }

  only_still : (octet : ℕ) (serving : Serving) → IsStill Responder (serving.associations link) octet [] → IsLast Responder (serving.associations link) octet []
  only_still octet serving still = record { last = inl refl; whole = still.others ∙ sym still.nothing }

  few : (moment octet : ℕ) (later : List ℕ) (serving : Serving) → stands link serving.filestore ≡ true → TellsLast Responder (serving.associations link) (octet ∷ later) → Heard moment octet later serving
  few moment octet later serving there (inr last) =
      same-lists serving (octets_heard moment link serving (octet ∷ later)) (whole moment link serving (octets_received Responder (serving.associations link) (octet ∷ later)))
      (last_heard moment octet later serving there last)
  few moment octet [] serving there (inl (still, rest)) =
      same-lists serving (octets_heard moment link serving (octet ∷ [])) (whole moment link serving (octets_received Responder (serving.associations link) (octet ∷ [])))
      (last_heard moment octet [] serving there (only_still octet serving still))
  few moment octet (after ∷ later) serving there (inl (still, rest)) =
      let a1 = lengthened (serving.associations link) (octet ∷ []) in
      still_heard moment octet after later serving there still
      (few moment after later (with_association link a1 serving) there
      (subst (λ (one : Association). TellsLast Responder one (after ∷ later)) (sym (with-own link a1 serving)) rest))

  -- ---- a message without room

  abbrev Turned : {D : Type 0} (moment : ℕ) (store : StoreState D) (place : ℕ) → Serving → Fed → Type 0
  Turned moment store place serving fed =
      let heard = heard_by link serving fed in IsFullAt (told_all moment link heard.state fed.indications) heard.state store place

  turned_whole : {D : Type 0} (moment : ℕ) (store : StoreState D) (place : ℕ) (serving : Serving) (fed : Fed) → Turned moment store place serving fed → IsFullAt (whole moment link serving fed) serving store place
  turned_whole moment store place serving fed full =
      let heard = heard_by link serving fed in
      let turns = told_all moment link heard.state fed.indications in
      let rest = after_octet link (at_end heard.state turns) in
      full-after store place (heard ∷ []) (turns ++ rest) serving (full-front store place turns rest heard.state full)

  -- the state that it begins with counts for the other links alone
  turned_from : {D : Type 0} (moment : ℕ) (store : StoreState D) (place : ℕ) (serving : Serving) (one : Association) (fed : Fed) → Turned moment store place serving fed → Turned moment store place (with_association link one serving) fed
  turned_from moment store place serving one fed full =
      subst (λ (now : Serving). IsFullAt (told_all moment link now fed.indications) now store place) (sym (with_twice serving one fed.association)) full

  last_full : {D : Type 0} (moment octet : ℕ) (later : List ℕ) (store : StoreState D) (place : ℕ) (serving : Serving) → stands link serving.filestore ≡ true → IsLast Responder (serving.associations link) octet later
      → Turned moment store place serving (octets_received Responder (serving.associations link) (octet ∷ later)) → IsFullAt (octets_heard moment link serving (octet ∷ later)) serving store place
  last_full moment octet later store place serving there last full =
      subst (λ (answers : List Answer). IsFullAt answers serving store place) (sym (last_heard moment octet later serving there last))
      (turned_whole moment store place serving (octets_received Responder (serving.associations link) (octet ∷ later)) full)

  few_full : {D : Type 0} (moment octet : ℕ) (later : List ℕ) (store : StoreState D) (place : ℕ) (serving : Serving) → stands link serving.filestore ≡ true → TellsLast Responder (serving.associations link) (octet ∷ later)
      → Turned moment store place serving (octets_received Responder (serving.associations link) (octet ∷ later)) → IsFullAt (octets_heard moment link serving (octet ∷ later)) serving store place
  few_full moment octet later store place serving there (inr last) full = last_full moment octet later store place serving there last full
  few_full moment octet [] store place serving there (inl (still, rest)) full = last_full moment octet [] store place serving there (only_still octet serving still) full
  few_full moment octet (after ∷ later) store place serving there (inl (still, rest)) full =
      let a = serving.associations link in
      let a1 = lengthened a (octet ∷ []) in
      let now = with_association link a1 serving in
      let octets = after ∷ later in
      let fed = octets_received Responder a (octet ∷ octets) in
      let first : octet_heard moment link serving octet ≡ silent serving a1 ∷ [] = ap (λ (f : Fed). whole moment link serving f) still.nothing ∙ whole_silent moment serving a1 still.goes in
      let all : octets_heard moment link serving (octet ∷ octets) ≡ silent serving a1 ∷ octets_heard moment link now octets =
      first_heard moment octet octets serving there ∙ ap (λ (first : List Answer). first ++ octets_heard moment link (at_end serving first) octets) first in
      let feds : octets_received Responder (now.associations link) octets ≡ fed =
      ap (λ (one : Association). octets_received Responder one octets) (with-own link a1 serving) ∙ sym still.others in
      let turned : Turned moment store place now (octets_received Responder (now.associations link) octets) =
      subst (λ (f : Fed). Turned moment store place now f) (sym feds) (turned_from moment store place serving a1 fed full) in
      subst (λ (answers : List Answer). IsFullAt answers serving store place) (sym all)
      (full-after store place (silent serving a1 ∷ []) (octets_heard moment link now octets) serving
      (few_full moment after later store place now there
      (subst (λ (one : Association). TellsLast Responder one (after ∷ later)) (sym (with-own link a1 serving)) rest) turned))

  -- ---- the commits

  abbrev whole_to : (moment : ℕ) → Serving → Fed → List (Option Event)
  whole_to moment serving fed =
      let heard = (heard_by link serving fed).state in
      let now = at_end heard (told_all moment link heard fed.indications) in
      None ∷ to_indications moment link heard fed.indications ++ to_ending now (party_of link now.filestore.parties)

  abbrev commits_fed : (moment : ℕ) → Serving → Fed → List Commit
  commits_fed moment serving fed = commits serving (whole moment link serving fed) (whole_to moment serving fed)

  -- the state that it begins with counts for the other links alone
  from_commits : (moment : ℕ) (serving : Serving) (one : Association) (fed : Fed) → commits_fed moment (with_association link one serving) fed ≡ commits_fed moment serving fed
  from_commits moment serving one fed =
      ap (λ (heard : Serving).
      let turns = told_all moment link heard fed.indications in
      let now = at_end heard turns in
      commits heard (turns ++ after_octet link now) (to_indications moment link heard fed.indications ++ to_ending now (party_of link now.filestore.parties)))
      (with_twice serving one fed.association)

  silent_commits : (moment : ℕ) (serving : Serving) (a : Association) → is_ended a.exchange.ending ≡ false → commits_fed moment serving (nothing_fed a) ≡ []
  silent_commits moment serving a goes =
      ap (λ (answers : List Answer). commits serving answers (whole_to moment serving (nothing_fed a))) (whole_silent moment serving a goes)

  last_commits : (moment octet : ℕ) (later : List ℕ) (serving : Serving) → stands link serving.filestore ≡ true → IsLast Responder (serving.associations link) octet later
      → commits_heard moment link serving (octet ∷ later) ≡ commits_fed moment serving (octets_received Responder (serving.associations link) (octet ∷ later))
  last_commits moment octet later serving there last =
      let now = at_end serving (octet_heard moment link serving octet) in
      let one = commits_octet moment link serving octet in
      first-commits moment link serving octet later there
      ∙ ap (λ (rest : List Commit). one ++ rest) (gone-commits now (octets_heard moment link now later) (to_octets moment link now later) (last_rest moment octet later serving last))
      ∙ append-nil one ∙ ap (λ (fed : Fed). commits_fed moment serving fed) (sym last.whole)

  few_commits : (moment octet : ℕ) (later : List ℕ) (serving : Serving) → stands link serving.filestore ≡ true → TellsLast Responder (serving.associations link) (octet ∷ later)
      → commits_heard moment link serving (octet ∷ later) ≡ commits_fed moment serving (octets_received Responder (serving.associations link) (octet ∷ later))
  few_commits moment octet later serving there (inr last) = last_commits moment octet later serving there last
  few_commits moment octet [] serving there (inl (still, rest)) = last_commits moment octet [] serving there (only_still octet serving still)
  few_commits moment octet (after ∷ later) serving there (inl (still, rest)) =
      let a = serving.associations link in
      let a1 = lengthened a (octet ∷ []) in
      let now = with_association link a1 serving in
      let octets = after ∷ later in
      let fed = octets_received Responder a (octet ∷ octets) in
      let first : octet_heard moment link serving octet ≡ silent serving a1 ∷ [] = ap (λ (f : Fed). whole moment link serving f) still.nothing ∙ whole_silent moment serving a1 still.goes in
      let none : commits_octet moment link serving octet ≡ [] = ap (λ (f : Fed). commits_fed moment serving f) still.nothing ∙ silent_commits moment serving a1 still.goes in
      let feds : octets_received Responder (now.associations link) octets ≡ fed =
      ap (λ (one : Association). octets_received Responder one octets) (with-own link a1 serving) ∙ sym still.others in
      first-commits moment link serving octet octets there
      ∙ ap (λ (one : List Commit). one ++ commits_heard moment link (at_end serving (octet_heard moment link serving octet)) octets) none
      ∙ ap (λ (answers : List Answer). commits_heard moment link (at_end serving answers) octets) first
      ∙ few_commits moment after later now there (subst (λ (one : Association). TellsLast Responder one (after ∷ later)) (sym (with-own link a1 serving)) rest)
      ∙ ap (λ (f : Fed). commits_fed moment now f) feds ∙ from_commits moment serving a1 fed

-- Some octets, of which only the last tells something or one that ends receiving
pub few-heard : (moment link : ℕ) (octets : List ℕ) (serving : Serving) → 0 < length octets → stands link serving.filestore ≡ true → TellsLast Responder (serving.associations link) octets
    → IsSame serving (octets_heard moment link serving octets) (whole moment link serving (octets_received Responder (serving.associations link) octets))
few-heard moment link [] serving some there tells = absurd (omega arith)
few-heard moment link (octet ∷ later) serving some there tells = few link moment octet later serving there tells

-- A message of what these tell has no room.
pub few-heard-full : {D : Type 0} (moment link : ℕ) (octets : List ℕ) (serving : Serving) (store : StoreState D) (place : ℕ) → 0 < length octets → stands link serving.filestore ≡ true
    → TellsLast Responder (serving.associations link) octets
    → (let heard = heard_by link serving (octets_received Responder (serving.associations link) octets) in
    IsFullAt (told_all moment link heard.state (octets_received Responder (serving.associations link) octets).indications) heard.state store place)
    → IsFullAt (octets_heard moment link serving octets) serving store place
few-heard-full moment link [] serving store place some there tells full = absurd (omega arith)
few-heard-full moment link (octet ∷ later) serving store place some there tells full = few_full link moment octet later store place serving there tells full

-- The commits of these octets are those of what they tell, and then of a break.
pub few-heard-commits : (moment link : ℕ) (octets : List ℕ) (serving : Serving) → 0 < length octets → stands link serving.filestore ≡ true → TellsLast Responder (serving.associations link) octets
    → (let fed = octets_received Responder (serving.associations link) octets in
    let heard = (heard_by link serving fed).state in
    let now = at_end heard (told_all moment link heard fed.indications) in
    commits_heard moment link serving octets
    ≡ commits_told_all moment link heard fed.indications ++ commits now (after_octet link now) (to_ending now (party_of link now.filestore.parties)))
few-heard-commits moment link [] serving some there tells = absurd (omega arith)
few-heard-commits moment link (octet ∷ later) serving some there tells =
    let fed = octets_received Responder (serving.associations link) (octet ∷ later) in
    let heard = (heard_by link serving fed).state in
    let turns = told_all moment link heard fed.indications in
    let now = at_end heard turns in
    few_commits link moment octet later serving there tells
    ∙ commits-join heard turns (after_octet link now) (to_indications moment link heard fed.indications) (to_ending now (party_of link now.filestore.parties))
    (told_all-each moment link heard fed.indications)
