-- A script (profile): lines, each of which ends with a line feed and says something. Users stand before the first incarnation;
-- what happens on a link stands in an incarnation in which the link arrives, before or after that line.
use Rattle.std.specs.Prelude.{◌≡◌, ℕ, ◌+◌, Bool, true, false, ◌&&◌, not, find, is_none, is_some, nat_eq, nat_lt, List, [], ◌∷◌, ◌++◌, length, take, Option, Some, None, Result, Ok, Err, if◌then◌else◌}
use Rattle.std.specs.List.{slice_split}
use Rattle.std.specs.Map.{lookup}
use Rattle.std.specs.Option.{option_map}
use Rattle.vf_tables.specs.Entries.{is_user}
use Rattle.vf_tables.specs.declared.limits.TheConstants.{MOST_USERS}
use Rattle.vf_tables.specs.declared.user.User.{User}
use Rattle.vf_cli_script.specs.declared.input.TheConstants.{INPUT_LIMIT}
use Rattle.vf_cli_script.specs.declared.line.Act.{Act}
use Rattle.vf_cli_script.specs.declared.line.Act.TheVariants as acts
use Rattle.vf_cli_script.specs.declared.line.LinkKind.{LinkKind}
use Rattle.vf_cli_script.specs.declared.line.LinkKind.TheVariants.{Raw, Plain, Sync}
use Rattle.vf_cli_script.specs.declared.line.LinkLine.{LinkLine}
use Rattle.vf_cli_script.specs.declared.line.Statement.{Statement}
use Rattle.vf_cli_script.specs.declared.line.Statement.TheVariants as says
use Rattle.vf_cli_script.specs.declared.line.Stop.{Stop}
use Rattle.vf_cli_script.specs.declared.script.Life.{Life}
use Rattle.vf_cli_script.specs.declared.script.Script.{Script}
use Rattle.vf_cli_script.specs.declared.script.Told.{Told}
use Rattle.vf_cli_script.specs.declared.script.Told.TheVariants as told
use Rattle.vf_cli_script.specs.declared.reading.TheConstants.{USUAL_LIMIT}
use Rattle.vf_cli_script.specs.Statements.{statement_of}

-- LINES. What stands behind the last line feed is outside the grammar, unless it is nothing and the input isn't cut off there.
abbrev pub is_feed : ℕ → Bool
is_feed octet = nat_eq octet 10

abbrev pub unended : (is_cut : Bool) → List ℕ → List (Option Statement)
unended is_cut rest = if nat_eq (length rest) 0 && not is_cut then [] else None ∷ []

-- what lines say, and what stands behind the last one
abbrev pub said_by : (is_cut : Bool) → List (List ℕ) → List (Option Statement)
said_by is_cut [] = []
said_by is_cut (rest ∷ []) = unended is_cut rest
said_by is_cut (line ∷ other ∷ others) = statement_of line ∷ said_by is_cut (other ∷ others)

-- An input is cut off after so many octets: the line that ends after them is bad.
unfoldable pub statements_within : (limit : ℕ) → List ℕ → List (Option Statement)
statements_within limit octets = said_by (nat_lt limit (length octets)) (slice_split is_feed (take limit octets))

abbrev pub statements_in : List ℕ → List (Option Statement)
statements_in octets = statements_within INPUT_LIMIT octets

-- ARRIVALS up to the next incarnation, in their order; the first one of a link counts
abbrev pub arrival_of : ℕ → Act → List (ℕ × LinkKind) → List (ℕ × LinkKind)
arrival_of link (acts.Arrive kind) later = (link, kind) ∷ later
arrival_of link _ later = later

abbrev pub arrivals_of : List (Option Statement) → List (ℕ × LinkKind)
arrivals_of [] = []
arrivals_of (None ∷ later) = arrivals_of later
arrivals_of (Some (says.Limit limit) ∷ later) = arrivals_of later
arrivals_of (Some (says.User user) ∷ later) = arrivals_of later
arrivals_of (Some (says.Life stop) ∷ later) = []
arrivals_of (Some (says.Link line) ∷ later) = arrival_of line.link line.act (arrivals_of later)

abbrev pub kind_in : List (ℕ × LinkKind) → ℕ → Option LinkKind
kind_in arrivals link = lookup (nat_eq link) arrivals

-- WHAT HAPPENS on a link is something that its end can do. Links arrive by rising numbers.
abbrev pub is_raw : LinkKind → Bool
is_raw Raw = true
is_raw Plain = false
is_raw Sync = false

abbrev pub suits_act : ℕ → Act → LinkKind → (last : ℕ) → Bool
suits_act link (acts.Arrive arriving) kind last = nat_lt last link
suits_act link (acts.Octets moment octets) kind last = is_raw kind
suits_act link acts.End kind last = true
suits_act link _ kind last = not (is_raw kind)

abbrev pub suits : LinkLine → LinkKind → (last : ℕ) → Bool
suits line kind last = suits_act line.link line.act kind last

abbrev pub last_by : ℕ → Act → ℕ → ℕ
last_by link (acts.Arrive kind) last = link
last_by link _ last = last

abbrev pub last_of : LinkLine → (last : ℕ) → ℕ
last_of line last = last_by line.link line.act last

-- A SCRIPT so far: its users, the incarnations that are over, the one that things happen in, the limit of those to come, the end
-- that a link arrives with in that one, and the last link that has arrived, or 0
pub record Progress : Type 0 where
  pub users : List User
  pub lives : List Life
  pub life : Option Life
  pub limit : ℕ
  pub kind_of : ℕ → Option LinkKind
  pub last : ℕ

abbrev pub begun : Progress
begun = record { users = []; lives = []; life = None; limit = USUAL_LIMIT; kind_of = λ link. None; last = 0 }

abbrev pub lives_of : List Life → Option Life → List Life
lives_of lives None = lives
lives_of lives (Some life) = lives ++ life ∷ []

-- A user comes before the first incarnation, no other has its name, and there are 256 of them at most.
abbrev pub is_welcome : Progress → User → Bool
is_welcome so_far user = is_none so_far.life && nat_lt (length so_far.users) MOST_USERS && is_none (find (is_user user.identity) so_far.users)

abbrev pub with_user : Progress → User → Option Progress
with_user so_far user = if is_welcome so_far user then Some (record so_far { users = so_far.users ++ user ∷ [] }) else None

-- an incarnation, before these statements
abbrev pub with_life : Progress → Option Stop → List (Option Statement) → Progress
with_life so_far stop later = record so_far {
  lives = lives_of so_far.lives so_far.life;
  life = Some (record { limit = so_far.limit; stop = stop; lines = [] });
  kind_of = kind_in (arrivals_of later);
  last = 0;
}

-- Something happens on a link within an incarnation in which the link arrives.
abbrev pub is_apt_on : Option LinkKind → LinkLine → (last : ℕ) → Bool
is_apt_on None line last = false
is_apt_on (Some kind) line last = suits line kind last

abbrev pub is_apt : Progress → LinkLine → Bool
is_apt so_far line = is_some so_far.life && is_apt_on (so_far.kind_of line.link) line so_far.last

abbrev pub with_last : LinkLine → Life → Life
with_last line life = record life { lines = life.lines ++ line ∷ [] }

abbrev pub with_line : Progress → LinkLine → Option Progress
with_line so_far line =
    if is_apt so_far line then Some (record so_far { life = option_map (with_last line) so_far.life; last = last_of line so_far.last }) else None

-- what a line adds, before those that come later; nothing where it is bad
abbrev pub with_statement : Progress → Option Statement → List (Option Statement) → Option Progress
with_statement so_far None later = None
with_statement so_far (Some (says.Limit limit)) later = Some (record so_far { limit = limit })
with_statement so_far (Some (says.User user)) later = with_user so_far user
with_statement so_far (Some (says.Life stop)) later = Some (with_life so_far stop later)
with_statement so_far (Some (says.Link line)) later = with_line so_far line

-- the script, or the number of its first bad line, where so many lines come before these
abbrev pub go_on : Option Progress → ℕ → (Progress → Result Script ℕ) → Result Script ℕ
go_on None number later = Err number
go_on (Some so_far) number later = later so_far

abbrev pub script_of : Progress → Script
script_of so_far = record { users = so_far.users; lives = lives_of so_far.lives so_far.life }

unfoldable pub script_from : Progress → ℕ → List (Option Statement) → Result Script ℕ
script_from so_far before [] = Ok (script_of so_far)
script_from so_far before (statement ∷ later) =
    go_on (with_statement so_far statement later) (before + 1) (λ so_far. script_from so_far (before + 1) later)

-- what octets are: a script, or lines of which the first bad one has this number
abbrev pub told_by : List ℕ → Result Script ℕ
told_by octets = script_from begun 0 (statements_in octets)

abbrev pub IsTold : Result Script ℕ → Told → Type 0
IsTold meant (told.Script script) = meant ≡ Ok script
IsTold meant (told.Bad number) = meant ≡ Err number

abbrev pub IfScript : Told → Type 0 → Type 0
IfScript (told.Script script) p = p
IfScript (told.Bad number) p = Unit {0}
