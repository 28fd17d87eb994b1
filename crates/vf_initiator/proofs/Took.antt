-- What is kept after octets were taken at once.
use Rattle.std.proofs.Common.{◌≡◌, ◌≤◌, ◌<◌, ◌+◌, ℕ, Bool, true, false, cond, not, ◌&&◌, nat_le, min, List, [], ◌∷◌, ◌++◌, length, refl, sym, ap, subst, ◌∙◌, append-nil, append_assoc, length-append, arith, ◌⊎◌, inl, inr}
use Rattle.std.proofs.lemmas.Bool.Decides.{nat_tests}
use Rattle.vf_initiator.proofs.Ended.{ended_over, fed_stays, looked, over_spent, over_takes, received_stream, takes_more}
use Rattle.vf_initiator.proofs.Taking.{few_taken, single}
use Rattle.vf_initiator.proofs.Saying.{owes_of, all_said}
use Rattle.vf_initiator.specs.Few.{AreFew, OwesOnward, TakesAtOnce, TakesOn, TakesOnward, fed_of, received}
use Rattle.vf_initiator.specs.Owed.{IsSameEnd, LeadsAnswers, SaysAll, LeadsGreeting, offer_by, unless_ended, unless_spent}
use Rattle.vf_initiator.specs.Gathering.{marked}
use Rattle.vf_initiator.specs.Keeping.{changes_since, mark_of}
use Rattle.vf_initiator.specs.Says.{doing_in}
use Rattle.vf_initiator.specs.declared.doing.Doing.{Doing}
use Rattle.vf_initiator.specs.declared.mark.Mark.{Mark}
use Rattle.vf_tables.specs.declared.change.Change.{Change}
use Rattle.vf_initiator.specs.Represents.{Holds, Lags, Owes, Represents, TakesPiece, TakesWaiting, resumed}
use Rattle.vf_initiator.specs.Rows.{ended, is_over}
use Rattle.vf_initiator.specs.Talking.{AnswersAll, Greets, Takes, Talk, released, within_budget}
use Rattle.vf_initiator.specs.declared.conduct.Conduct.{Conduct}
use Rattle.vf_initiator.specs.declared.doing.Doing.TheVariants.{Failed}
use Rattle.vf_initiator.specs.declared.doing.TaskError.TheVariants.{Budget}
use Rattle.vf_initiator.specs.declared.given.Given.{Given}
use Rattle.vf_initiator.specs.declared.initiator.Initiator.{Initiator}
use Rattle.vf_session.specs.declared.units.TokenSide.{TokenSide}
use Rattle.vf_session.specs.declared.units.TokenSide.TheVariants.{Initiator as Calls}
use Rattle.vf_stack.specs.Association.{Association, is_ended}
use Rattle.vf_stack.specs.Few.{FewTellLast, TellsLast}
use Rattle.vf_stack.specs.Receiving.{Fed, octets_received}
use Rattle.vf_stack.specs.Represents.{Feeds, side_of}
use Rattle.vf_stack.specs.declared.ending.Ending.{Ending}
use Rattle.vf_stack.specs.declared.indication.Indication.{Indication}

-- ---- one by one

taken : (i : Initiator) (talk : Talk) (piece octets : List ℕ) (talk' : Talk) → Represents i talk → is_over talk.conduct.stage ≡ false → 1 ≤ length piece → AreFew i piece → FewTellLast i.stack talk.association piece
    → TakesAtOnce i.given (offer_by i.given) talk piece octets talk' → Takes i.given (offer_by i.given) talk piece octets talk'
taken i talk [] octets talk' is goes some few law at_once = absurd (omega (arith, some))
taken i talk (octet ∷ []) octets talk' is goes some few law at_once = single i.given (offer_by i.given) talk octet octets talk' goes at_once
taken i talk (octet ∷ (next ∷ later)) octets talk' is goes some (inl one) law at_once = absurd (omega (arith, one))
taken i talk (octet ∷ (next ∷ later)) octets talk' is goes some (inr few) law at_once =
    let tells : TellsLast Calls talk.association (octet ∷ (next ∷ later)) =
    subst (λ (o : TokenSide). TellsLast o talk.association (octet ∷ (next ∷ later))) is.holds.side (law is.holds.association few.1) in
    let count = is.octets goes in
    let within : length talk.association.stream + length (octet ∷ (next ∷ later)) ≤ 1073741824 = omega (arith, count, few.2) in
    few_taken i.given (offer_by i.given) talk (octet ∷ (next ∷ later)) octets talk' goes (sym is.holds.greeting ∙ few.0) tells some within at_once

-- ---- the octets are counted

spent_same : (m n : ℕ) → m ≡ min n 18446744073709551615 → nat_le 1073741824 m ≡ nat_le 1073741824 n
spent_same m n is = grind (arith, nat_tests)

same_spent : (e : Bool) (m n : ℕ) (c : Conduct) → (e ≡ false → m ≡ min n 18446744073709551615) → (e ≡ true → is_over c.stage ≡ true) → unless_spent m c ≡ unless_spent n c
same_spent true m n c count over = over_spent m c (over refl) ∙ sym (over_spent n c (over refl))
same_spent false m n c count over =
    ap (λ (t : Bool). cond (not (is_over c.stage) && t) (ended (Failed Budget) c) c) (spent_same m n (count refl))

not_spent : (n : ℕ) → nat_le 1073741824 n ≡ false → n < 1073741824
not_spent n is = grind (arith, nat_tests)

few_by : (over spent : Bool) (n : ℕ) (c : Conduct) → is_over c.stage ≡ over → nat_le 1073741824 n ≡ spent → is_over (cond (not over && spent) (ended (Failed Budget) c) c).stage ≡ false → n < 1073741824
few_by true spent n c o s goes = absurd (let e : true ≡ false = sym o ∙ goes in cc)
few_by false true n c o s goes = absurd (let e : true ≡ false = goes in cc)
few_by false false n c o s goes = not_spent n s

still_few : (n : ℕ) (c : Conduct) → is_over (unless_spent n c).stage ≡ false → n < 1073741824
still_few n c goes = few_by (is_over c.stage) (nat_le 1073741824 n) n c refl refl goes

-- a task that goes on isn't on a connection that has ended
goes_unended : (e : Bool) (n : ℕ) (c : Conduct) → (e ≡ true → is_over c.stage ≡ true) → is_over (unless_spent n c).stage ≡ false → e ≡ false
goes_unended false n c over goes = refl
goes_unended true n c over goes =
    let still : is_over c.stage ≡ false = ap (λ (d : Conduct). is_over d.stage) (sym (over_spent n c (over refl))) ∙ goes in
    absurd (let e : true ≡ false = sym (over refl) ∙ still in cc)

same_count : (octets before m n : ℕ) → octets ≡ before → m ≡ min (octets + n) 18446744073709551615 → (all : ℕ) → all ≡ before + n → m ≡ min all 18446744073709551615
same_count octets before m n is count all sum = omega (arith, is, count, sum)

exact : (m n : ℕ) → m ≡ min n 18446744073709551615 → n < 1073741824 → m ≡ n
exact m n is few = omega (arith, is, few)

ended_false : (t e : Bool) → (t ≡ true → e ≡ true) → e ≡ false → t ≡ false
ended_false false e on unset = refl
ended_false true e on unset = absurd (let f : true ≡ false = sym (on refl) ∙ unset in cc)

owes_so : (i i3 i4 : Initiator) (answered : Talk) (rest : List ℕ) → (lags : Lags i3 answered rest) → is_ended lags.now.exchange.ending ≡ is_ended answered.association.exchange.ending
    → i4 ≡ record i3 { conduct = unless_spent i3.octets (unless_ended (is_ended i3.stack.exchange.ending) i3.conduct) }
    → (is_ended answered.association.exchange.ending ≡ false → i3.octets ≡ min (length answered.association.stream) 18446744073709551615)
    → Owes i4 (within_budget (released answered)) rest
owes_so i i3 i4 answered rest lags lasts is count =
    let holds = lags.holds in
    let e : Bool = is_ended answered.association.exchange.ending in
    let n : ℕ = length answered.association.stream in
    let c : Conduct = unless_ended e answered.conduct in
    let after : Talk = record answered { conduct = unless_spent n c } in
    let ended_is : is_ended i3.stack.exchange.ending ≡ e = ap (λ (x : Ending). is_ended x) holds.association.stands.ending_is ∙ lasts in
    let here : unless_ended (is_ended i3.stack.exchange.ending) i3.conduct ≡ c =
    ap (λ (t : Bool). unless_ended t i3.conduct) ended_is ∙ ap (λ (d : Conduct). unless_ended e d) holds.conduct in
    let over : e ≡ true → is_over c.stage ≡ true = λ (x : e ≡ true). ended_over e answered.conduct x in
    let conduct : unless_spent i3.octets (unless_ended (is_ended i3.stack.exchange.ending) i3.conduct) ≡ unless_spent n c =
    ap (λ (d : Conduct). unless_spent i3.octets d) here ∙ same_spent e i3.octets n c count over in
    let kept : Owes (record i3 { conduct = unless_spent i3.octets (unless_ended (is_ended i3.stack.exchange.ending) i3.conduct) }) after rest =
    record {
      lags =
          record {
            now = lags.now;
            holds = record { association = holds.association; side = holds.side; offer = holds.offer; greeting = holds.greeting; conduct = conduct };
            sends = lags.sends;
          };
      octets = λ goes. exact i3.octets n (count (goes_unended e n c over goes)) (still_few n c goes);
    } in
    subst (λ (t : Talk). Owes i4 t rest) (sym (looked answered)) (subst (λ (j : Initiator). Owes j after rest) (sym is) kept)

-- ---- all of it

pub took_few : (i i1 i2 i3 i4 : Initiator) (talk : Talk) (piece : List ℕ) (told : List Indication) (out out1 out2 out3 : List ℕ)
    → Represents i talk → is_over talk.conduct.stage ≡ false → 1 ≤ length piece → AreFew i piece → FewTellLast i.stack talk.association piece
    → Feeds (octets_received (side_of i.stack) talk.association piece) [] out i1.stack told out1 → IsSameEnd i.stack i1.stack
    → i1.given ≡ i.given → i1.greeting ≡ i.greeting → i1.conduct ≡ i.conduct → i1.octets ≡ min (i.octets + length piece) 18446744073709551615
    → ((t : Talk) → Holds i1 t → LeadsGreeting i1 t out1 i2 out2) → ((t : Talk) → Holds i2 t → LeadsAnswers i2 t told out2 i3 out3)
    → i4 ≡ record i3 { conduct = unless_spent i3.octets (unless_ended (is_ended i3.stack.exchange.ending) i3.conduct) }
    → TakesOn i talk piece out i4 out3
took_few i i1 i2 i3 i4 talk piece told out out1 out2 out3 is goes some few law feeds same given greeting conduct count greets hears look =
    let a : Association = talk.association in
    let fed : Fed = fed_of talk piece in
    let f : Feeds fed [] out i1.stack told out1 = subst (λ (o : TokenSide). Feeds (octets_received o a piece) [] out i1.stack told out1) is.holds.side feeds in
    let now : Talk = received talk fed in
    let holds : Holds i1 now =
    record {
      association = f.represents;
      side = same.0 ∙ is.holds.side;
      offer = same.1 ∙ (is.holds.offer ∙ ap offer_by (sym given));
      greeting = greeting ∙ is.holds.greeting;
      conduct = conduct ∙ is.holds.conduct;
    } in
    let g = greets now holds in
    let h = hears g.after g.holds in
    let greeted : Greets (offer_by i.given) now now.greeting g.octets g.after = subst (λ (x : Given). Greets (offer_by x) now now.greeting g.octets g.after) given g.step in
    let heard : AnswersAll i.given (offer_by i.given) g.after told h.octets h.after =
    subst (λ (x : Given). AnswersAll x (offer_by x) g.after told h.octets h.after) (g.given_is ∙ given) h.step in
    let answered : AnswersAll i.given (offer_by i.given) g.after fed.indications h.octets h.after = subst (λ (x : List Indication). AnswersAll i.given (offer_by i.given) g.after x h.octets h.after) f.indications heard in
    let octets : List ℕ = (fed.answers ++ g.octets) ++ h.octets in
    let after : Talk = within_budget (released h.after) in
    let at_once : TakesAtOnce i.given (offer_by i.given) talk piece octets after =
    record { greeted = g.after; answered = h.after; greeting_octets = g.octets; answer_octets = h.octets; greets = greeted; answers = answered; octets_are = refl; talk_is = refl } in
    let stays = fed_stays i.given (offer_by i.given) now fed octets after at_once in
    let counted : is_ended h.after.association.exchange.ending ≡ false → i3.octets ≡ min (length h.after.association.stream) 18446744073709551615 =
    λ (unset : is_ended h.after.association.exchange.ending ≡ false).
    let unended : is_ended fed.association.exchange.ending ≡ false = ended_false (is_ended fed.association.exchange.ending) (is_ended h.after.association.exchange.ending) stays.ended unset in
    let stream : h.after.association.stream ≡ a.stream ++ piece = stays.stream ∙ received_stream Calls a piece unended in
    let sum : length h.after.association.stream ≡ length a.stream + length piece = ap (λ (s : List ℕ). length s) stream ∙ length-append a.stream piece in
    same_count i.octets (length a.stream) i3.octets (length piece) (is.octets goes) (h.count_is ∙ (g.count_is ∙ count)) (length h.after.association.stream) sum in
    record {
      octets = octets;
      later = h.later;
      after = after;
      takes = taken i talk piece octets after is goes some few law at_once;
      owes = owes_so i i3 i4 h.after h.later h.lags h.lasts look counted;
      given_is = ap (λ (x : Initiator). x.given) look ∙ (h.given_is ∙ (g.given_is ∙ given));
      sent =
          h.sent ∙ (ap (λ (o : List ℕ). o ++ h.octets) g.sent
          ∙ (ap (λ (o : List ℕ). (o ++ g.octets) ++ h.octets) f.answered
          ∙ (ap (λ (o : List ℕ). o ++ h.octets) (append_assoc out fed.answers g.octets) ∙ append_assoc out (fed.answers ++ g.octets) h.octets)));
    }

-- ---- a few at a time

pub took_none : (i : Initiator) (talk : Talk) (piece out : List ℕ) → Represents i talk → OwesOnward i talk piece out i out piece
took_none i talk piece out is =
    record { octets = []; later = []; now = talk; owes = owes_of i talk is; given_is = refl; sent = refl; onward = λ more after takes. takes }

-- what waited is spelled, and more is taken
took_said : (i now then : Initiator) (talk : Talk) (piece out out' out'' rest : List ℕ) → OwesOnward i talk piece out now out' rest
    → ((t : Talk) (r : List ℕ) → Lags now t r → SaysAll now t r out' then out'') → TakesOnward i talk piece out then out'' rest
took_said i now then talk piece out out' out'' rest before says =
    let all = says before.now before.later before.owes.lags in
    record {
      octets = before.octets;
      now = before.now;
      represents = all_said now then before.now before.later out' out'' before.owes all;
      given_is = all.given_is ∙ before.given_is;
      sent = all.sent ∙ before.sent;
      onward = before.onward;
    }

took_few_more : (i now then : Initiator) (talk : Talk) (piece out out' out'' rest front left : List ℕ) → rest ≡ front ++ left → (before : TakesOnward i talk piece out now out' rest) → is_over before.now.conduct.stage ≡ false
    → ((t : Talk) → Represents now t → is_over t.conduct.stage ≡ false → TakesOn now t front out' then out'')
    → OwesOnward i talk piece out then out'' left
took_few_more i now then talk piece out out' out'' rest front left is before goes few =
    let next = few before.now before.represents goes in
    let takes : Takes i.given (offer_by i.given) before.now front next.octets next.after =
    subst (λ (x : Given). Takes x (offer_by x) before.now front next.octets next.after) before.given_is next.takes in
    record {
      octets = before.octets ++ next.octets;
      later = next.later;
      now = next.after;
      owes = next.owes;
      given_is = next.given_is ∙ before.given_is;
      sent = next.sent ∙ (ap (λ (o : List ℕ). o ++ next.octets) before.sent ∙ append_assoc out before.octets next.octets);
      onward = λ later after more.
          subst (λ (o : List ℕ). Takes i.given (offer_by i.given) talk piece o after) (sym (append_assoc before.octets next.octets later))
          (before.onward (next.octets ++ later) after
          (subst (λ (r : List ℕ). Takes i.given (offer_by i.given) before.now r (next.octets ++ later) after) (sym is)
          (takes_more i.given (offer_by i.given) before.now front next.octets next.after left later after takes more)));
    }

pub took_on : (i now mid then : Initiator) (talk : Talk) (piece out out' out'' out3 rest front left : List ℕ) → rest ≡ front ++ left → is_over now.conduct.stage ≡ false
    → OwesOnward i talk piece out now out' rest → ((t : Talk) (r : List ℕ) → Lags now t r → SaysAll now t r out' mid out'')
    → ((t : Talk) → Represents mid t → is_over t.conduct.stage ≡ false → TakesOn mid t front out'' then out3)
    → OwesOnward i talk piece out then out3 left
unfolding took_said
took_on i now mid then talk piece out out' out'' out3 rest front left is goes before says few =
    took_few_more i mid then talk piece out out'' out3 rest front left is (took_said i now mid talk piece out out' out'' rest before says)
    (ap (λ (c : Conduct). is_over c.stage) (sym before.owes.lags.holds.conduct) ∙ goes) few

no_octets : (given : Given) (offer : Bool) (talk : Talk) (rest : List ℕ) → (length rest ≡ 0) ⊎ (is_over talk.conduct.stage ≡ true) → Takes given offer talk rest [] talk
no_octets given offer talk [] done = (refl, refl)
no_octets given offer talk (octet ∷ rest) (inl none) = absurd (omega (arith, none))
no_octets given offer talk (octet ∷ rest) (inr over) = over_takes given offer talk (octet ∷ rest) over

pub took_all : (i now : Initiator) (talk : Talk) (piece out out' rest : List ℕ) → (length rest ≡ 0) ⊎ (is_over now.conduct.stage ≡ true) → OwesOnward i talk piece out now out' rest → TakesOn i talk piece out now out'
took_all i now talk piece out out' rest done last =
    let so : (length rest ≡ 0) ⊎ (is_over last.now.conduct.stage ≡ true) =
    subst (λ (c : Conduct). (length rest ≡ 0) ⊎ (is_over c.stage ≡ true)) last.owes.lags.holds.conduct done in
    record {
      octets = last.octets;
      later = last.later;
      after = last.now;
      takes =
          subst (λ (o : List ℕ). Takes i.given (offer_by i.given) talk piece o last.now) (append-nil last.octets)
          (last.onward [] last.now (no_octets i.given (offer_by i.given) last.now rest so));
      owes = last.owes;
      given_is = last.given_is;
      sent = last.sent;
    }

-- ---- a piece, and the changes for it

pub took_piece : (i i2 : Initiator) (c1 : Conduct) (mark : Mark) (talk : Talk) (piece : List ℕ) (changes changes' : List Change) (out out' : List ℕ) (stand : Doing)
    → Represents i talk → c1 ≡ record i.conduct { gathered = marked i.conduct.gathered } → mark ≡ mark_of i.given i.conduct
    → ((t : Talk) → Represents (record i { conduct = c1 }) t → TakesOn (record i { conduct = c1 }) t piece out i2 out')
    → changes' ≡ changes ++ changes_since i2.given mark i2.conduct → stand ≡ doing_in i2.conduct.stage
    → TakesWaiting i talk piece changes out i2 changes' out' stand
took_piece i i2 c1 mark talk piece changes changes' out out' stand is marks marked_so takes put stands =
    let conduct : c1 ≡ record talk.conduct { gathered = marked talk.conduct.gathered } = marks ∙ ap (λ (c : Conduct). record c { gathered = marked c.gathered }) is.holds.conduct in
    let begun : Represents (record i { conduct = c1 }) (resumed talk) =
    record {
      holds = record { association = is.holds.association; side = is.holds.side; offer = is.holds.offer; greeting = is.holds.greeting; conduct = conduct };
      octets = is.octets;
      waits = is.waits;
    } in
    let t = takes (resumed talk) begun in
    let mark_is : mark ≡ mark_of i.given talk.conduct = marked_so ∙ ap (λ (c : Conduct). mark_of i.given c) is.holds.conduct in
    record {
      after = t.after;
      octets = t.octets;
      rest = t.later;
      takes = t.takes;
      owes = t.owes;
      given_is = t.given_is;
      sent = t.sent;
      changed =
          put
          ∙ (ap (λ (g : Given). changes ++ changes_since g mark i2.conduct) t.given_is
          ∙ (ap (λ (m : Mark). changes ++ changes_since i.given m i2.conduct) mark_is
          ∙ ap (λ (c : Conduct). changes ++ changes_since i.given (mark_of i.given talk.conduct) c) t.owes.lags.holds.conduct));
      doing_is = stands ∙ ap (λ (c : Conduct). doing_in c.stage) t.owes.lags.holds.conduct;
    }

-- What is sent was collected first, and then appended.
pub took_appended : (i i2 : Initiator) (talk : Talk) (piece : List ℕ) (changes changes' : List Change) (none sent appended out out' : List ℕ) (stand : Doing)
    → none ≡ [] → appended ≡ sent → out' ≡ out ++ appended → TakesWaiting i talk piece changes none i2 changes' sent stand → TakesWaiting i talk piece changes out i2 changes' out' stand
took_appended i i2 talk piece changes changes' none sent appended out out' stand empty same is t =
    record {
      after = t.after;
      octets = t.octets;
      rest = t.rest;
      takes = t.takes;
      owes = t.owes;
      given_is = t.given_is;
      sent =
          ap (λ (o : List ℕ). o ++ t.rest) (is ∙ ap (λ (o : List ℕ). out ++ o) same)
          ∙ (append_assoc out sent t.rest ∙ ap (λ (o : List ℕ). out ++ o) (t.sent ∙ ap (λ (o : List ℕ). o ++ t.octets) empty));
      changed = t.changed;
      doing_is = t.doing_is;
    }

-- All that waited was spelled then.
pub took_whole : (i i2 i3 : Initiator) (talk : Talk) (piece : List ℕ) (changes changes' : List Change) (none sent sent' out out' : List ℕ) (stand : Doing)
    → none ≡ [] → out' ≡ out ++ sent' → TakesWaiting i talk piece changes none i2 changes' sent stand → ((t : Talk) (r : List ℕ) → Lags i2 t r → SaysAll i2 t r sent i3 sent')
    → TakesPiece i talk piece changes out i3 changes' out' stand
took_whole i i2 i3 talk piece changes changes' none sent sent' out out' stand empty is t says =
    let all = says t.after t.rest t.owes.lags in
    record {
      after = t.after;
      octets = t.octets;
      takes = t.takes;
      represents = all_said i2 i3 t.after t.rest sent sent' t.owes all;
      given_is = all.given_is ∙ t.given_is;
      sent = is ∙ ap (λ (o : List ℕ). out ++ o) (all.sent ∙ (t.sent ∙ ap (λ (o : List ℕ). o ++ t.octets) empty));
      changed = t.changed;
      doing_is = t.doing_is;
    }
