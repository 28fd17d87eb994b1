-- The changes that a message makes in what a store keeps (profile). They are one record of the store.
use Rattle.std.specs.Prelude.{ℕ, List, [], ◌∷◌, ◌++◌, Option, None, Some}
use Rattle.vf_elements.specs.declared.message.Message.{Message}
use Rattle.vf_pdu.specs.declared.pdu.Pdu.{Pdu}
use Rattle.vf_tables.specs.declared.change.Change.{Change}
use Rattle.vf_filestore.specs.Aborts.{Setting}
use Rattle.vf_filestore.specs.Changes.{delta}
use Rattle.vf_filestore.specs.Decision.{Decision, Groups, decision}
use Rattle.vf_filestore.specs.Dockets.{broken}
use Rattle.vf_filestore.specs.Groups.{groups, trial}
use Rattle.vf_filestore.specs.Stage.{Group}
use Rattle.vf_filestore.specs.State.{State, StandingParty, party_of, with_party}
use Rattle.vf_filestore.specs.Tables.{tables_of}
use Rattle.vf_filestore.specs.Transition.{answered, superseded_by, with_message}

-- the changes from what is kept of a state to what is kept of another
abbrev pub changes_between : (before after : State) → List Change
changes_between before after = delta (tables_of before) (tables_of after)

-- those of each item of a group that is performed, one item after another
abbrev pub changes_by_items : (link : ℕ) → Setting → List Pdu → State → List Change
changes_by_items link setting [] state = []
changes_by_items link setting (item ∷ items) state =
    let next = (trial link setting (item ∷ []) state).state in
    changes_between state next ++ changes_by_items link setting items next

abbrev pub where_any : (changes others : List Change) → List Change
where_any [] others = []
where_any (change ∷ changes) others = others

-- A group makes the changes of its items. It makes none where it leaves all as it was, as one does that isn't performed.
abbrev pub changes_by_group : State → StandingParty → Setting → Group → List Change
changes_by_group state party setting group =
    where_any (changes_between state (groups state party setting group).state) (changes_by_items party.link setting group.items state)

abbrev pub changes_where : State → StandingParty → Setting → Message → Decision → List Change
changes_where state party setting message (Groups group) =
    let heard = with_message message party in
    changes_by_group (record state { parties = with_party heard state.parties }) heard setting group
changes_where state party setting message _ = changes_between state (answered state party setting message).state

-- an association that gives way leaves its docket
abbrev pub given_way : Option StandingParty → State → State
given_way None state = state
given_way (Some other) state = broken other.link state

abbrev pub changes_of_party : State → Setting → Message → Option StandingParty → List Change
changes_of_party state setting message None = []
changes_of_party state setting message (Some party) =
    let before = given_way (superseded_by state party message) state in
    changes_where before party setting message (decision before party setting message)

-- the changes by a message on a link
abbrev pub changes_by : State → (link : ℕ) → Setting → Message → List Change
changes_by state link setting message = changes_of_party state setting message (party_of link state.parties)
