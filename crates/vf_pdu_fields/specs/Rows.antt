-- How the fields of PDUs, of data elements and of what is inside them are written as rows of a table (profile).
use Rattle.std.specs.Prelude.{ℕ, pos, List, [], ◌∷◌}
use Rattle.vf_pdu_fields.specs.Content.{Content, Number}
use Rattle.vf_pdu_fields.specs.declared.limits.TheConstants.{MOST_ACTIVITY, MOST_POINT}

-- what a number is from and to
pub data Range : Type 0 where
  -- any of 64 bits
  Any : Range
  FromTo : ℕ → ℕ → Range
  -- the identity of a FADU: begin 0, end -1, first -2, last -3, current -4, next -5, previous -6, and the number of
  -- a unit, from 1 on
  Fadu : Range

pub data Simple : Type 0 where
  Integer : Range → Simple
  Boolean : Simple
  -- a name of 1 to 255 octets
  Text : Simple
  -- at most 255 octets
  String : Simple
  -- so many concurrency controls, an octet each: not required 0, shared 1, exclusive 2, no access 3
  Controls : ℕ → Simple
  Oid : Simple
  -- a moment as YYYYMMDDHHMMSSZ
  Date : Simple

pub data Need : Type 0 where
  required : Need
  optional : Need
  -- an absent field means this
  default : Content → Need

mutual
  pub data Form : Type 0 where
    one : Simple → Form
    -- a constructed value of these fields
    sequence : Row → Form
    -- a constructed value of at most 256 parts, each a universal SEQUENCE of these fields
    list : Row → Form

  -- the fields in the order of their tags, which rise
  pub data Row : Type 0 where
    end : Row
    field : ℕ → Form → Need → Row → Row

-- how a row is written below
pub record Field : Type 0 where
  pub tag : ℕ
  pub form : Form
  pub need : Need

abbrev pub row : List Field → Row
row [] = end
row (f ∷ fs) = field f.tag f.form f.need (row fs)

abbrev pub a : ℕ → Form → Need → Field
a tag form need = record { tag = tag; form = form; need = need }

abbrev pub int : ℕ → ℕ → Form
int low high = one (Integer (FromTo low high))

abbrev pub natural : ℕ → Content
natural n = Number (pos n)

abbrev pub or : ℕ → Need
or n = default (natural n)

abbrev pub fadu : Form
fadu = one (Integer Fadu)

abbrev pub activity : Form
activity = int 1 MOST_ACTIVITY

abbrev pub point : Form
point = int 0 MOST_POINT
