-- A parameter that is made of contents in range has these contents.
use Rattle.std.proofs.Common.{◌≡◌, true, [], ◌∷◌, refl}
use Rattle.std.specs.Option.{option_map}
use Rattle.vf_pdu_fields.specs.Contained.{arcs_in, octets_in}
use Rattle.vf_pdu_fields.specs.Content.{Content, Arcs, Octets, Slot}
use Rattle.vf_pdu_fields.specs.Meaning.{fits}
use Rattle.vf_pdu_fields.specs.Rows.{Oid, Date, required, optional, one}
use Rattle.vf_pdu_fields.specs.Slots.{maybe_octets, num}
use Rattle.vf_pdu_fields.proofs.Whole.{Fits, arcs_whole, date_whole, has_integer, has_number, list_whole, may_integer, may_string, may_text, may_whole, needs_number, needs_text, next, sequence_whole, there_whole}
use Rattle.vf_pdu_parameters.specs.ContainedParameters.{attributes_at, attributes_in, contents_at, contents_in, diagnostic_at, diagnostic_in, grant_at, grants_in, stamp_at, stamp_in, term_at, terms_in}
use Rattle.vf_pdu_parameters.specs.ParameterSlots.{attribute_slots, attributes_content, contents_content, contents_slots, diagnostic_content, diagnostic_slots, grants_content, maybe_contents, maybe_diagnostic, maybe_stamp, stamp_content, stamp_slots, terms_content}
use Rattle.vf_pdu_parameters.specs.Parameters.{attribute_fields, attributes, contents, contents_fields, diagnostic, diagnostic_fields, grant, grants, stamp, stamp_fields, term, terms}

pub diagnostic_whole : (content : Content) → fits diagnostic content ≡ true → diagnostic_content (diagnostic_in content) ≡ content
diagnostic_whole =
    sequence_whole diagnostic_fields diagnostic_slots diagnostic_at
    (λ number fn first ff second fs. next (needs_number 1 65535 number fn) (next (has_integer first ff) (next (has_integer second fs) refl)))

pub contents_whole : (content : Content) → fits contents content ≡ true → contents_content (contents_in content) ≡ content
contents_whole =
    sequence_whole contents_fields contents_slots contents_at
    (λ kind fk class fc longest fl significance fs. next (there_whole (one Oid) required (λ x. x) Arcs arcs_in arcs_whole kind fk)
    (next (has_number 0 255 25 class fc) (next (has_number 0 4294967295 0 longest fl) (next (has_number 0 255 0 significance fs) refl))))

pub stamp_whole : (content : Content) → fits stamp content ≡ true → stamp_content (stamp_in content) ≡ content
stamp_whole =
    sequence_whole stamp_fields stamp_slots stamp_at
    (λ date fd identity fi. next (there_whole (one Date) required (λ x. x) Octets octets_in date_whole date fd) (next (needs_text identity fi) refl))

pub terms_whole : (content : Content) → fits terms content ≡ true → terms_content (terms_in content) ≡ content
terms_whole =
    list_whole term (λ t. maybe_octets t.identity ∷ num t.actions.value ∷ maybe_octets t.password ∷ []) term_at
    (λ identity fi actions fa password fp. next (may_text identity fi) (next (needs_number 0 255 actions fa) (next (may_string password fp) refl)))

pub grants_whole : (content : Content) → fits grants content ≡ true → grants_content (grants_in content) ≡ content
grants_whole =
    list_whole grant (λ g. maybe_octets g.identity ∷ num g.actions.value ∷ []) grant_at
    (λ identity fi actions fa. next (may_text identity fi) (next (needs_number 0 255 actions fa) refl))

pub may_stamp : (slot : Slot) → Fits stamp optional slot → maybe_stamp (option_map stamp_in slot) ≡ slot
may_stamp slot h = may_whole stamp stamp_content stamp_in stamp_whole slot h

pub may_contents : (slot : Slot) → Fits contents optional slot → maybe_contents (option_map contents_in slot) ≡ slot
may_contents slot h = may_whole contents contents_content contents_in contents_whole slot h

pub may_diagnostic : (slot : Slot) → Fits diagnostic optional slot → maybe_diagnostic (option_map diagnostic_in slot) ≡ slot
may_diagnostic slot h = may_whole diagnostic diagnostic_content diagnostic_in diagnostic_whole slot h

pub attributes_whole : (content : Content) → fits attributes content ≡ true → attributes_content (attributes_in content) ≡ content
attributes_whole =
    sequence_whole attribute_fields attribute_slots attributes_at
    (λ name fn permitted fp kind fk terms ft created fc modified fm read fr changed fg size fs.
    next (may_text name fn) (next (may_integer permitted fp) (next (may_contents kind fk)
    (next (may_whole grants grants_content grants_in grants_whole terms ft)
    (next (may_stamp created fc) (next (may_stamp modified fm) (next (may_stamp read fr) (next (may_stamp changed fg)
    (next (may_integer size fs) refl)))))))))
