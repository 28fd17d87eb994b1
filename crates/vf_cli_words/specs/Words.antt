-- The words of a command line (profile), without the program's name: first the name of a command, then its options, each of
-- which is `--name=value`, parted at its first `=`, or `--name` and a value. An option stands once.
use Rattle.std.specs.Prelude.{ℕ, ◌+◌, ◌*◌, ◌-◌, Bool, true, false, ◌&&◌, not, List, [], ◌∷◌, drop, fold, get_or, set, take, Option, Some, None, is_none, is_some, option_and_then, codes, if◌then◌else◌, nat_eq, nat_le}
use Rattle.std.specs.Cmp.Lexicographic.{pointwise}
use Rattle.std.specs.List.{list_all, position}
use Rattle.std.specs.Option.{option_map, unwrap_or}
use Rattle.vf_base.specs.Name.{is_name}
use Rattle.vf_cli_words.specs.declared.command.Command.{Command}
use Rattle.vf_cli_words.specs.declared.command.Command.TheVariants.{Dialogue, InitStore, ListFiles, ListDockets, DropKept, Replay, Serve, Put, Get, Generate}
use Rattle.vf_cli_words.specs.declared.command.Wanted.{Wanted}
use Rattle.vf_cli_words.specs.declared.words.Drawn.{Drawn}
use Rattle.vf_cli_words.specs.declared.options.Key.{Key}
use Rattle.vf_cli_words.specs.declared.options.Key.TheVariants.{Store, Host, Port, Name, User, Password, Kind, Activity, Tries, Every, Idle, Number, Count}
use Rattle.vf_cli_words.specs.declared.options.Range.{Range}
use Rattle.vf_cli_words.specs.declared.options.Use.{Use}
use Rattle.vf_cli_words.specs.declared.options.Use.TheVariants.{Required, Optional, Unknown}

abbrev pub is_word : List ℕ → List ℕ → Bool
is_word one other = pointwise nat_eq one other

-- VALUES. A value has 1 to 255 printable characters of ASCII, and doesn't begin with `-`.
abbrev pub begins_with_dash : List ℕ → Bool
begins_with_dash [] = false
begins_with_dash (octet ∷ octets) = nat_eq octet 45

abbrev pub is_value : List ℕ → Bool
is_value text = not (begins_with_dash text) && is_name text

-- NUMBERS are decimal digits without leading zeros.
abbrev pub is_digit : ℕ → Bool
is_digit octet = nat_le 48 octet && nat_le octet 57

-- no digit, or a zero before others
abbrev pub begins_badly : List ℕ → Bool
begins_badly [] = true
begins_badly (digit ∷ []) = false
begins_badly (digit ∷ next ∷ digits) = nat_eq digit 48

abbrev pub with_digit : ℕ → ℕ → ℕ
with_digit number digit = 10 * number + (digit - 48)

abbrev pub number_of : List ℕ → ℕ
number_of digits = fold with_digit 0 digits

abbrev pub is_number : List ℕ → Bool
is_number digits = not (begins_badly digits) && list_all is_digit digits

-- the number of a range that a value spells
abbrev pub is_in : ℕ → Range → Bool
is_in number range = nat_le range.least number && nat_le number range.most

abbrev pub number_in : List ℕ → Range → Option ℕ
number_in value range = if is_number value && is_in (number_of value) range then Some (number_of value) else None

-- OPTIONS, in the order of their table: the name of each,
abbrev pub all_keys : List Key
all_keys = Store ∷ Host ∷ Port ∷ Name ∷ User ∷ Password ∷ Kind ∷ Activity ∷ Tries ∷ Every ∷ Idle ∷ Number ∷ Count ∷ []

abbrev pub key_named : List ℕ → Option Key
key_named name =
    if is_word name (codes "--store") then Some Store
    else if is_word name (codes "--host") then Some Host
    else if is_word name (codes "--port") then Some Port
    else if is_word name (codes "--name") then Some Name
    else if is_word name (codes "--user") then Some User
    else if is_word name (codes "--password") then Some Password
    else if is_word name (codes "--kind") then Some Kind
    else if is_word name (codes "--activity") then Some Activity
    else if is_word name (codes "--tries") then Some Tries
    else if is_word name (codes "--every") then Some Every
    else if is_word name (codes "--idle") then Some Idle
    else if is_word name (codes "--number") then Some Number
    else if is_word name (codes "--count") then Some Count
    else None

-- its place in the table,
abbrev pub place_of : Key → ℕ
place_of Store = 0
place_of Host = 1
place_of Port = 2
place_of Name = 3
place_of User = 4
place_of Password = 5
place_of Kind = 6
place_of Activity = 7
place_of Tries = 8
place_of Every = 9
place_of Idle = 10
place_of Number = 11
place_of Count = 12

-- and the range of one that is a number.
abbrev pub from_to : (least most : ℕ) → Option Range
from_to least most = Some (record { least = least; most = most })

abbrev pub range_of : Key → Option Range
range_of Store = None
range_of Host = None
range_of Port = from_to 1 65535
range_of Name = None
range_of User = None
range_of Password = None
range_of Kind = from_to 1 3
range_of Activity = from_to 1 2147483647
range_of Tries = from_to 0 100
range_of Every = from_to 1 10000
range_of Idle = from_to 1 1000000000
range_of Number = from_to 0 4294967295
range_of Count = from_to 1 1000

-- Which options a command has: none,
abbrev pub no_options : Key → Use
no_options key = Unknown

-- a store alone,
abbrev pub a_store : Key → Use
a_store Store = Required
a_store key = Unknown

-- what a store keeps, by its activity,
abbrev pub a_drop : Key → Use
a_drop Store = Required
a_drop Activity = Required
a_drop User = Optional
a_drop key = Unknown

-- a place to serve at,
abbrev pub a_place : Key → Use
a_place Store = Required
a_place Port = Required
a_place Idle = Optional
a_place key = Unknown

-- a task with a host,
abbrev pub a_task : Key → Use
a_task Store = Required
a_task Host = Required
a_task Port = Required
a_task Name = Required
a_task User = Required
a_task Password = Optional
a_task Kind = Optional
a_task Activity = Optional
a_task Tries = Optional
a_task Every = Optional
a_task key = Unknown

-- or files to be drawn.
abbrev pub a_draw : Key → Use
a_draw Store = Required
a_draw Number = Required
a_draw Count = Required
a_draw key = Unknown

abbrev pub use_of : Command → Key → Use
use_of Dialogue key = no_options key
use_of InitStore key = a_store key
use_of ListFiles key = a_store key
use_of ListDockets key = a_store key
use_of DropKept key = a_drop key
use_of Replay key = no_options key
use_of Serve key = a_place key
use_of Put key = a_task key
use_of Get key = a_task key
use_of Generate key = a_draw key

-- WHAT WORDS GIVE: a value or none for each option, in the order of the table
abbrev pub Given : Type 0
Given = List (Option (List ℕ))

abbrev pub nothing_given : Given
nothing_given = None ∷ None ∷ None ∷ None ∷ None ∷ None ∷ None ∷ None ∷ None ∷ None ∷ None ∷ None ∷ None ∷ []

abbrev pub value_of : Key → Given → Option (List ℕ)
value_of key given = get_or given (place_of key) None

-- an option more, which didn't stand before
abbrev pub with_value : Option Key → Given → (value : List ℕ) → Option Given
with_value None given value = None
with_value (Some key) given value = if is_none (value_of key given) then Some (set given (place_of key) (Some value)) else None

abbrev pub with_option : Given → (name value : List ℕ) → Option Given
with_option given name value = if is_value value then with_value (key_named name) given value else None

-- a word with `=` is an option with its value, which are parted at the first one
abbrev pub is_equals : ℕ → Bool
is_equals octet = nat_eq octet 61

abbrev pub with_parted : Option ℕ → Given → List ℕ → Option Given
with_parted None given word = None
with_parted (Some place) given word = with_option given (take place word) (drop (place + 1) word)

-- the options that these words give, after others
abbrev pub given_after : Given → List (List ℕ) → Option Given
given_after given [] = Some given
given_after given (word ∷ []) = with_parted (position is_equals word) given word
given_after given (word ∷ value ∷ words) =
    if is_some (position is_equals word) then option_and_then (λ (more : Given). given_after more (value ∷ words)) (with_parted (position is_equals word) given word)
    else option_and_then (λ (more : Given). given_after more words) (with_option given word value)

abbrev pub given_in : List (List ℕ) → Option Given
given_in words = given_after nothing_given words

-- Each option that is given has a value.
abbrev pub is_given : Option (List ℕ) → Bool
is_given None = true
is_given (Some value) = is_value value

abbrev pub are_values : Given → Bool
are_values given = list_all is_given given

-- the number that an option gives
abbrev pub number_by : Option Range → Option (List ℕ) → Option ℕ
number_by (Some range) (Some value) = number_in value range
number_by range value = None

abbrev pub number_at : Key → Given → Option ℕ
number_at key given = number_by (range_of key) (value_of key given)

-- Options fit a command where the required ones are there, no other one is, and numbers are in their ranges.
abbrev pub fits_range : Option Range → List ℕ → Bool
fits_range None value = true
fits_range (Some range) value = is_some (number_in value range)

abbrev pub fits_use : Use → Option Range → Option (List ℕ) → Bool
fits_use Required range None = false
fits_use Required range (Some value) = fits_range range value
fits_use Optional range None = true
fits_use Optional range (Some value) = fits_range range value
fits_use Unknown range None = true
fits_use Unknown range (Some value) = false

abbrev pub fits : Command → Given → Key → Bool
fits command given key = fits_use (use_of command key) (range_of key) (value_of key given)

abbrev pub all_fit : Command → Given → Bool
all_fit command given = list_all (fits command given) all_keys

-- COMMANDS, by their names
abbrev pub command_named : List ℕ → Option Command
command_named name =
    if is_word name (codes "dialogue") then Some Dialogue
    else if is_word name (codes "init") then Some InitStore
    else if is_word name (codes "list") then Some ListFiles
    else if is_word name (codes "dockets") then Some ListDockets
    else if is_word name (codes "drop") then Some DropKept
    else if is_word name (codes "replay") then Some Replay
    else if is_word name (codes "serve") then Some Serve
    else if is_word name (codes "put") then Some Put
    else if is_word name (codes "get") then Some Get
    else if is_word name (codes "generate") then Some Generate
    else None

-- a command with its options
pub record Asked : Type 0 where
  pub command : Command
  pub given : Given

abbrev pub asked_with : Option Command → Option Given → Option Asked
asked_with None given = None
asked_with (Some command) None = None
asked_with (Some command) (Some given) = if all_fit command given then Some (record { command = command; given = given }) else None

-- what words ask for; nothing where they are outside the grammar
abbrev pub asked_by : List (List ℕ) → Option Asked
asked_by [] = None
asked_by (name ∷ options) = asked_with (command_named name) (given_in options)

abbrev pub command_of : List (List ℕ) → Option Command
command_of words = option_map (λ (asked : Asked). asked.command) (asked_by words)

-- WHAT A COMMAND WANTS of the outside
abbrev pub wanted_with : Given → Wanted
wanted_with given =
    record { store = value_of Store given; host = value_of Host given; port = number_at Port given; idle = unwrap_or (number_at Idle given) 1000000 }

abbrev pub wanted_of : List (List ℕ) → Option Wanted
wanted_of words = option_map (λ (asked : Asked). wanted_with asked.given) (asked_by words)

-- THE FILES that `generate` makes: the number with which their drawing begins, and how many there are
abbrev pub drawn_by : Option ℕ → Option ℕ → Option Drawn
drawn_by (Some number) (Some count) = Some (record { number = number; count = count })
drawn_by number count = None

abbrev pub drawn_for : Command → Given → Option Drawn
drawn_for Generate given = drawn_by (number_at Number given) (number_at Count given)
drawn_for command given = None

abbrev pub drawn_in : List (List ℕ) → Option Drawn
drawn_in words = option_and_then (λ (asked : Asked). drawn_for asked.command asked.given) (asked_by words)
