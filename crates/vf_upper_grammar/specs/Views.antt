-- Texts and parts of the code apart from where they lie in memory.
use Rattle.vf_upper_grammar.specs.declared.text.Header.{Header}
use Rattle.vf_upper_grammar.specs.declared.text.Part.{Part}
use Rattle.vf_upper_grammar.specs.declared.text.Piece.{Piece}
use Rattle.vf_upper_grammar.specs.declared.text.Text.{Text}
use Rattle.vf_upper_grammar.specs.Parts as parts

abbrev pub text_of : Text → parts.Text
text_of text = record { octets = text.octets.now; at = text.at; whole = text.whole }

abbrev pub part_of : Part → parts.Part
part_of part = record { at = part.at; first = part.first; contents = text_of part.contents; after = part.after }

abbrev pub header_of : Header → parts.Header
header_of header = record { count = header.count; rest = header.rest.now }

abbrev pub first_part_of : Part × Text → parts.FirstPart
first_part_of first_part = record { part = part_of first_part.0; rest = text_of first_part.1 }

abbrev pub piece_of : Piece → parts.Piece
piece_of piece = record { octets = piece.octets.now; whole = piece.whole; rest = piece.rest.now }
