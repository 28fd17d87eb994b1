-- What a line of a script says (profile): its words, the first of which tells how many others there are and what they mean.
use Rattle.std.specs.Prelude.{◌≡◌, ◌≤◌, ◌<◌, ℕ, zero, suc, ◌-◌, Bool, nat_le, List, [], ◌∷◌, length, Option, Some, None, option_and_then, Result, Ok, Err, codes, if◌then◌else◌}
use Rattle.std.specs.Option.{option_map}
use Rattle.vf_base.specs.Name.{is_name}
use Rattle.vf_ber.specs.Reader.{reading}
use Rattle.vf_ber.specs.Reading.{Reading, Read}
use Rattle.vf_ber.specs.Tree.{Tree}
use Rattle.vf_ber.specs.Views.{tree_of}
use Rattle.vf_ber.specs.declared.value.Value.{Value}
use Rattle.vf_disk.specs.declared.crash_form.CrashForm.{CrashForm}
use Rattle.vf_disk.specs.declared.crash_form.CrashForm.TheVariants.{Keep, Lose, Fill}
use Rattle.vf_elements.specs.Messages.{message_in}
use Rattle.vf_elements.specs.declared.message.Message.{Message}
use Rattle.vf_pdu_fields.specs.Fault.{Fault}
use Rattle.vf_tables.specs.declared.limits.TheConstants.{MOST_PASSWORD_OCTETS}
use Rattle.vf_cli_script.specs.declared.line.Act.{Act}
use Rattle.vf_cli_script.specs.declared.line.Act.TheVariants as acts
use Rattle.vf_cli_script.specs.declared.line.LinkKind.{LinkKind}
use Rattle.vf_cli_script.specs.declared.line.LinkKind.TheVariants.{Raw, Plain, Sync}
use Rattle.vf_cli_script.specs.declared.line.Statement.{Statement}
use Rattle.vf_cli_script.specs.declared.line.Statement.TheVariants.{Limit, User, Life, Link}
use Rattle.vf_cli_script.specs.Words.{count_in, is_word, moment_in, number_in, octet_in, octets_in, point_in, words_of}

-- a word of the grammar
abbrev pub is : List ℕ → List ℕ → Bool
is word name = is_word word name

-- MESSAGES, one after another: each is the value that the octets begin with, and means one.
abbrev pub in_front : Result Message Fault → Option (List Message) → Option (List Message)
in_front (Ok message) later = option_map (λ (messages : List Message). message ∷ messages) later
in_front (Err fault) later = None

abbrev pub after_value : Reading → (ℕ → Option (List Message)) → Option (List Message)
after_value (Read tree count) later = in_front (message_in tree) (later count)
after_value _ later = None

-- behind so many octets, the others of the value before
unfoldable pub messages_after : ℕ → List ℕ → Option (List Message)
messages_after others [] = Some []
messages_after (suc others) (octet ∷ octets) = messages_after others octets
messages_after zero (octet ∷ octets) = after_value (reading (octet ∷ octets)) (λ count. messages_after (count - 1) octets)

abbrev pub messages_in : List ℕ → Option (List Message)
messages_in octets = messages_after 0 octets

-- what is read of octets as a value, and as a message
abbrev pub value_of : Option (Value × ℕ) → List ℕ → Type 0
value_of (Some read) octets = reading octets ≡ Read (tree_of read.0) read.1
value_of None octets = (tree : Tree) (count : ℕ) → reading octets ≡ Read tree count → ⊥

abbrev pub meant : Result Message Fault → Option Message
meant (Ok message) = Some message
meant (Err fault) = None

abbrev pub message_of : Tree → Option Message
message_of tree = meant (message_in tree)

abbrev pub IsLess : ℕ → List ℕ → Type 0
IsLess count octets = (0 < count) × (count ≤ length octets)

-- LINKS have numbers from 1 to 4,294,967,295.
abbrev pub with_act : Option Act → ℕ → Option Statement
with_act None link = None
with_act (Some act) link = Some (Link (record { link = link; act = act }))

abbrev pub on_link : List ℕ → Option Act → Option Statement
on_link link act = option_and_then (with_act act) (count_in link)

-- INCARNATIONS that stop at a call of their disk, from 1
abbrev pub stopping : Option CrashForm → ℕ → Option Statement
stopping None call = None
stopping (Some form) call = Some (Life (Some (record { call = call; form = form })))

abbrev pub life_of : List ℕ → Option CrashForm → Option Statement
life_of call form = option_and_then (stopping form) (count_in call)

abbrev pub form_of : List ℕ → Option CrashForm
form_of word = if is word (codes "keep") then Some Keep else if is word (codes "lose") then Some Lose else None

abbrev pub filled_form : List ℕ → List ℕ → Option CrashForm
filled_form word digits = if is word (codes "fill") then option_map (λ (octet : ℕ). Fill octet) (octet_in digits) else None

-- USERS have passwords of 1 to 255 octets.
abbrev pub with_password : List ℕ → Option (List ℕ) → Option Statement
with_password identity None = None
with_password identity (Some password) =
    if nat_le (length password) MOST_PASSWORD_OCTETS then Some (User (record { identity = identity; password = Some password })) else None

abbrev pub user_of : List ℕ → List ℕ → Option Statement
user_of identity digits = if is_name identity then with_password identity (octets_in digits) else None

-- ENDS of links
abbrev pub kind_of : List ℕ → Option LinkKind
kind_of word = if is word (codes "raw") then Some Raw else if is word (codes "plain") then Some Plain else if is word (codes "sync") then Some Sync else None

-- LINES of one word: `life`; of two: `limit N` and `end L`; of three: `user NAME HEX`, `life N keep`, `life N lose`, `arrive L KIND`,
-- `check L M` and `pass L M`; and of four: `life N fill HH`, `octets L M HEX`, `said L M HEX`, `ack L M K` and `restart L M K`. L is
-- the number of a link, M a moment and K the number of a checkpoint.
abbrev pub of_one : List ℕ → Option Statement
of_one name = if is name (codes "life") then Some (Life None) else None

abbrev pub of_two : List ℕ → List ℕ → Option Statement
of_two name first =
    if is name (codes "limit") then option_map (λ (limit : ℕ). Limit limit) (number_in first 18446744073709551615)
    else if is name (codes "end") then on_link first (Some acts.End)
    else None

abbrev pub act_of_three : List ℕ → List ℕ → Option Act
act_of_three name second =
    if is name (codes "arrive") then option_map (λ (kind : LinkKind). acts.Arrive kind) (kind_of second)
    else if is name (codes "check") then option_map (λ (moment : ℕ). acts.Check moment) (moment_in second)
    else if is name (codes "pass") then option_map (λ (moment : ℕ). acts.Pass moment) (moment_in second)
    else None

abbrev pub of_three : List ℕ → List ℕ → List ℕ → Option Statement
of_three name first second =
    if is name (codes "user") then user_of first second
    else if is name (codes "life") then life_of first (form_of second)
    else on_link first (act_of_three name second)

abbrev pub octets_act : List ℕ → List ℕ → Option Act
octets_act moment digits =
    option_and_then (λ (at : ℕ). option_map (λ (octets : List ℕ). acts.Octets at octets) (octets_in digits)) (moment_in moment)

abbrev pub said_act : List ℕ → List ℕ → Option Act
said_act moment digits =
    option_and_then (λ (at : ℕ). option_map (λ (messages : List Message). acts.Said at messages) (option_and_then messages_in (octets_in digits))) (moment_in moment)

abbrev pub act_of_four : List ℕ → List ℕ → List ℕ → Option Act
act_of_four name second third =
    if is name (codes "ack") then option_and_then (λ (at : ℕ). option_map (λ (point : ℕ). acts.Acknowledge at point) (point_in third)) (moment_in second)
    else if is name (codes "restart") then option_and_then (λ (at : ℕ). option_map (λ (point : ℕ). acts.Restart at point) (point_in third)) (moment_in second)
    else None

abbrev pub of_four : List ℕ → List ℕ → List ℕ → List ℕ → Option Statement
of_four name first second third =
    if is name (codes "life") then life_of first (filled_form second third)
    else if is name (codes "octets") then on_link first (octets_act second third)
    else if is name (codes "said") then on_link first (said_act second third)
    else on_link first (act_of_four name second third)

abbrev pub of_words : List (List ℕ) → Option Statement
of_words (name ∷ []) = of_one name
of_words (name ∷ first ∷ []) = of_two name first
of_words (name ∷ first ∷ second ∷ []) = of_three name first second
of_words (name ∷ first ∷ second ∷ third ∷ []) = of_four name first second third
of_words _ = None

-- what a line says, without its line feed; nothing where it is outside the grammar
abbrev pub statement_of : List ℕ → Option Statement
statement_of line = of_words (words_of line)
