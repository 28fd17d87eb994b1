-- Histories are sound where others that are sound have the same, where files go on, and where they are retained or
-- taken up again.
use Rattle.std.proofs.Common.{◌≡◌, ℕ, Bool, true, false, cond, List, [], ◌∷◌, ◌++◌, is_some, Option, None, Some, refl, ap, sym, subst, ◌∙◌, arith}
use Rattle.std.specs.Prelude.{IfSome, IsSome}
use Rattle.vf_attr.specs.declared.file.File.{File}
use Rattle.vf_base.specs.declared.access.Context.{Context}
use Rattle.vf_base.specs.declared.access.FaduId.{FaduId}
use Rattle.vf_base.specs.declared.element.Element.{Element}
use Rattle.vf_elements.specs.declared.message.Message.{Message}
use Rattle.vf_elements.specs.declared.message.Message.TheVariants as messages
use Rattle.vf_elements.specs.declared.message.Said.{Said}
use Rattle.vf_elements.specs.declared.message.Said.TheVariants as answers
use Rattle.vf_pdu.specs.declared.pdu.Pdu.TheVariants.{InitializeRequest, InitializeResponse}
use Rattle.vf_transfer.specs.Transfer.{NamesKnownChecks}
use Rattle.vf_tree.specs.Contexts.{shown}
use Rattle.vf_filestore.specs.Dockets.{retained, secured, since_selection}
use Rattle.vf_filestore.specs.Files.{file_named}
use Rattle.vf_filestore.specs.History.{Association, Given, Nothing, Made, Refused, Showed, Placed, Resumed, History, Regime, Selection, agreeing, association, associating, regime, selection}
use Rattle.vf_filestore.specs.Sound.{IsFaithful, IsMoving, IsNested, IsShown, IsShownIn, IsSoundDocket, IsSoundIn, IsThere, file_of}
use Rattle.vf_filestore.specs.State.{activity_in}
use Rattle.vf_filestore.specs.Transfers.{Movement, Reads, Writes, Transfer, happened, under_way}
use Rattle.vf_filestore.proofs.Alike.{AreAlike, AreMovingAlike, alike_after, alike_none}
use Rattle.vf_filestore.proofs.Filed.{Continues, IsFoundNext, IsNext}
use Rattle.vf_filestore.proofs.Nested.{nests}
use Rattle.vf_filestore.proofs.Retained.{alike_placed, alike_since, bare_since, nested_since, secured_alike}
use Rattle.vf_filestore.proofs.Views as views
use Rattle.vf_filestore.proofs.Views.{View, view}

-- ---- histories that are alike

pub moving_happens : (history other : History) → AreAlike history other → IsSome (under_way history) → happened other ≡ happened history
moving_happens history other alike some = by (under_way history) alike.moving some
  where
    by : (one : Option Transfer) → IfSome one (AreMovingAlike history other) → IsSome one → happened other ≡ happened history
    by None moving some = absurd cc
    by (Some transfer) moving some = moving.happens

pub sound_alike : (files : List File) (history other : History) → AreAlike history other → IsNested other → IsSoundIn files history → IsSoundIn files other
sound_alike files history other alike nested sound = record {
  nested = nested;
  there = subst (λ (one : Option Selection). IfSome one (IsThere files)) (sym alike.selects) sound.there;
  moving =
      subst (λ (one : Option Transfer). IfSome one (IsMoving (file_of files (selection other)) other)) (sym alike.moves)
      (subst (λ (one : Option Selection). IfSome (under_way history) (IsMoving (file_of files one) other)) (sym alike.selects)
      (by (under_way history) alike.moving sound.moving));
}
  where
    by : (one : Option Transfer) → IfSome one (AreMovingAlike history other) → IfSome one (IsMoving (file_of files (selection history)) history)
        → IfSome one (IsMoving (file_of files (selection history)) other)
    by None same moving = tt
    by (Some transfer) same moving =
        record { named = subst (λ entries. NamesKnownChecks 0 entries) (sym same.happens) moving.named; faithful = moving.faithful }

-- ---- files go on

shown_next : (file later : File) (fadu : FaduId) (context : Context) (version : ℕ) (elements : List Element) (position : ℕ) → IsNext file later
    → IsShown file fadu context version elements position → IsShown later fadu context version elements position
shown_next file later fadu context version elements position next was = record {
  rising = omega (arith, next.rises, was.rising);
  same = λ is.
      let before : file.version ≡ version = omega (arith, next.rises, was.rising, is) in
      let kept = next.same (is ∙ sym before) in
      let showed = was.same before in
      (showed.0, ap (λ tree. shown tree showed.0 fadu context) kept ∙ showed.1);
}

shown_later : (file later : File) (fadu : FaduId) (context : Context) (given : Given) → IsNext file later → IsShownIn (Some file) fadu context given → IsShownIn (Some later) fadu context given
shown_later file later fadu context (Showed version elements position) next was = shown_next file later fadu context version elements position next was
shown_later file later fadu context Nothing next was = tt
shown_later file later fadu context Made next was = tt
shown_later file later fadu context (Refused version number) next was = tt
shown_later file later fadu context (Placed position) next was = tt
shown_later file later fadu context (Resumed goes_on point) next was = tt

faithful_later : (found later : Option File) (movement : Movement) (given : Given) → IsSome found → IfSome found (λ file. IsFoundNext file later)
    → IsFaithful found movement given → IsFaithful later movement given
faithful_later found later (Writes operation fadu) given some goes was = tt
faithful_later None later (Reads fadu context) given some goes was = absurd cc
faithful_later (Some file) later (Reads fadu context) given some goes was =
    subst (λ (one : Option File). IsShownIn one fadu context given) (sym goes.is) (shown_later file goes.later fadu context given goes.next was)

there_later : (found later : Option File) → IsSome found → IfSome found (λ file. IsFoundNext file later) → IsSome later
there_later None later some goes = absurd cc
there_later (Some file) later some goes = ap is_some goes.is

pub sound_continues : (files later : List File) (history : History) → IfSome (selection history) (λ one. Continues files later one.file)
    → IsSoundIn files history → IsSoundIn later history
sound_continues files later history goes sound = record {
  nested = sound.nested;
  there = there (selection history) goes sound.there;
  moving = moving (selection history) (under_way history) goes sound.there sound.moving;
}
  where
    there : (one : Option Selection) → IfSome one (λ one. Continues files later one.file) → IfSome one (IsThere files) → IfSome one (IsThere later)
    there None goes is = tt
    there (Some selection) goes is = there_later (file_named selection.file files) (file_named selection.file later) is goes

    faithful : (one : Option Selection) (movement : Movement) (given : Given) → IfSome one (λ one. Continues files later one.file) → IfSome one (IsThere files)
        → IsFaithful (file_of files one) movement given → IsFaithful (file_of later one) movement given
    faithful None (Reads fadu context) given goes is was = tt
    faithful None (Writes operation fadu) given goes is was = tt
    faithful (Some selection) movement given goes is was =
        faithful_later (file_named selection.file files) (file_named selection.file later) movement given is goes was

    moving : (one : Option Selection) (transfer : Option Transfer) → IfSome one (λ one. Continues files later one.file) → IfSome one (IsThere files)
        → IfSome transfer (IsMoving (file_of files one) history) → IfSome transfer (IsMoving (file_of later one) history)
    moving one None goes is was = tt
    moving one (Some transfer) goes is was = record { named = was.named; faithful = faithful one transfer.movement transfer.given goes is was.faithful }

-- ---- what is retained

pub record IsRetainedAs (history other : History) : Type 0 where
  pub selects : selection other ≡ selection history
  pub opens : regime other ≡ regime history
  pub moves : under_way other ≡ under_way history
  pub nested : IsNested other
  pub named : IsSome (under_way history) → NamesKnownChecks 0 (happened history) → NamesKnownChecks 0 (happened other)
  pub bare : IsSome (selection history) → association other ≡ None

pub retains : (history : History) → IsNested history → IsRetainedAs history (retained history)
retains history nested = by (is_some (under_way history)) refl
  where
    by : (b : Bool) → is_some (under_way history) ≡ b → IsRetainedAs history (since_selection (cond b (secured history) history))
    by true is =
        let first = secured_alike history nested is in
        let since = alike_since (secured history) first.nested in
        record {
          selects = since.selects ∙ first.selects;
          opens = since.opens ∙ first.opens;
          moves = since.moves ∙ first.moves;
          nested = nested_since (secured history) first.nested;
          named = λ some named.
              subst (λ entries. NamesKnownChecks 0 entries) (sym (moving_happens (secured history) (since_selection (secured history)) since (ap is_some first.moves ∙ is)))
              (first.named named);
          bare = λ some. bare_since (secured history) first.nested (ap is_some first.selects ∙ some);
        }
    by false is =
        let since = alike_since history nested in
        record {
          selects = since.selects;
          opens = since.opens;
          moves = since.moves;
          nested = nested_since history nested;
          named = λ some named. absurd cc;
          bare = λ some. bare_since history nested some;
        }

pub opened_some : (one : Option Regime) (activity : ℕ) → activity_in one ≡ Some activity → IsSome one
opened_some None activity is = absurd cc
opened_some (Some regime) activity is = refl

-- the docket of a recoverable open is sound
pub sound_left : (files : List File) (identity : List ℕ) (activity : ℕ) (history : History) → activity_in (regime history) ≡ Some activity → IsSoundIn files history
    → IsSoundDocket files (record { identity = identity; activity = activity; history = retained history })
sound_left files identity activity history opened sound =
    let kept = retains history sound.nested in
    let selected = (nests history sound.nested).regimes (opened_some (regime history) activity opened) in
    record {
      bare = kept.bare selected;
      selected = ap is_some kept.selects ∙ selected;
      opened = ap activity_in kept.opens ∙ opened;
      sound = record {
        nested = kept.nested;
        there = subst (λ (one : Option Selection). IfSome one (IsThere files)) (sym kept.selects) sound.there;
        moving =
            subst (λ (one : Option Transfer). IfSome one (IsMoving (file_of files (selection (retained history))) (retained history))) (sym kept.moves)
            (subst (λ (one : Option Selection). IfSome (under_way history) (IsMoving (file_of files one) (retained history))) (sym kept.selects)
            (by (under_way history) kept.named sound.moving));
      };
    }
  where
    by : (one : Option Transfer) → (IsSome one → NamesKnownChecks 0 (happened history) → NamesKnownChecks 0 (happened (retained history)))
        → IfSome one (IsMoving (file_of files (selection history)) history) → IfSome one (IsMoving (file_of files (selection history)) (retained history))
    by None named moving = tt
    by (Some transfer) named moving = record { named = named refl moving.named; faithful = moving.faithful }

-- ---- what is taken up again

pub alike_resumed : (docket party : History) → selection party ≡ None → regime party ≡ None → under_way party ≡ None → AreAlike docket (docket ++ party)
alike_resumed [] party s r t = alike_none [] party refl refl refl s r t
alike_resumed (entry ∷ docket) party s r t = alike_after entry docket (docket ++ party) (alike_resumed docket party s r t)

pub nested_resumed : (docket party : History) → selection party ≡ None → regime party ≡ None → under_way party ≡ None → IsNested docket → IsNested party → IsNested (docket ++ party)
nested_resumed [] party s r t nested before = before
nested_resumed (entry ∷ docket) party s r t nested before =
    (alike_placed docket (docket ++ party) entry.message (alike_resumed docket party s r t) nested.0, nested_resumed docket party s r t nested.1 before)

-- an entry after which there is no association leaves any as it is
record IsUnassociated (message : Message) (said : List Said) (before : Option Association) : Type 0 where
  none : before ≡ None
  same : (other : Option Association) → associating message said other ≡ other

agreed_none : (identity : Option (List ℕ)) (units : ℕ) (password : Option (List ℕ)) (window : ℕ) (said : List Said) (before : Option Association)
    → agreeing identity said before ≡ None → IsUnassociated (messages.Pdu (InitializeRequest units identity password window)) said before
agreed_none identity units password window [] before is = record { none = is; same = λ other. refl }
agreed_none identity units password window (answers.Pdu (InitializeResponse diagnostic agreed size) ∷ later) before is = absurd cc
agreed_none identity units password window (answers.Pdu pdu ∷ later) before is = record { none = is; same = λ other. refl }
agreed_none identity units password window (answers.Element element ∷ later) before is = record { none = is; same = λ other. refl }
agreed_none identity units password window (answers.Check point ∷ later) before is = record { none = is; same = λ other. refl }
agreed_none identity units password window (answers.Acknowledge point ∷ later) before is = record { none = is; same = λ other. refl }
agreed_none identity units password window (answers.Abort number place ∷ later) before is = record { none = is; same = λ other. refl }

unassociated : (message : Message) (said : List Said) (before : Option Association) → View message → associating message said before ≡ None → IsUnassociated message said before
unassociated message said before (views.initializes units identity password window) is = agreed_none identity units password window said before is
unassociated message said before (views.selects name requested controls password) is = record { none = is; same = λ other. refl }
unassociated message said before (views.creates over name contents permitted terms requested controls password) is = record { none = is; same = λ other. refl }
unassociated message said before (views.changes name permitted terms number) is = record { none = is; same = λ other. refl }
unassociated message said before views.deselects is = record { none = is; same = λ other. refl }
unassociated message said before views.deletes is = record { none = is; same = λ other. refl }
unassociated message said before (views.opens mode contents controls activity) is = record { none = is; same = λ other. refl }
unassociated message said before views.closes is = record { none = is; same = λ other. refl }
unassociated message said before (views.reads fadu context) is = record { none = is; same = λ other. refl }
unassociated message said before (views.writes operation fadu) is = record { none = is; same = λ other. refl }
unassociated message said before views.ends is = record { none = is; same = λ other. refl }
unassociated message said before (views.cancels diagnostic) is = record { none = is; same = λ other. refl }
unassociated message said before (views.others one facts) is = record { none = sym (facts.associates said before) ∙ is; same = facts.associates said }

pub association_resumed : (docket party : History) → association docket ≡ None → association (docket ++ party) ≡ association party
association_resumed [] party bare = refl
association_resumed (entry ∷ docket) party bare =
    let facts = unassociated entry.message entry.said (association docket) (view entry.message) bare in
    facts.same (association (docket ++ party)) ∙ association_resumed docket party facts.none
