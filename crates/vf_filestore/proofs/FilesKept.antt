-- Files stay filled with strings of their document types, and their terms few.
use Rattle.std.proofs.Common.{◌≡◌, true, false, ◌&&◌, option_map, List, [], ◌∷◌, length, Option, None, Some, refl, ap, ◌∙◌}
use Rattle.std.specs.Prelude.{IfSome, nat_le}
use Rattle.std.specs.List.{AllByRecursion, list_all}
use Rattle.std.specs.Option.{option_map_or}
use Rattle.std.proofs.lemmas.Bool.{le-leb}
use Rattle.vf_attr.specs.declared.file.File.{File}
use Rattle.vf_base.specs.declared.access.Constraint.{Constraint}
use Rattle.vf_base.specs.declared.access.Constraint.TheVariants.{Unstructured, SequentialFlat}
use Rattle.vf_doctype.specs.DocumentTypes.{constraint_of, doc_type}
use Rattle.vf_doctype.specs.declared.doc_type.DocType.{DocType}
use Rattle.vf_pdu_fields.proofs.Plain.{some_is}
use Rattle.vf_tables.specs.Fitting.{is_constraint}
use Rattle.vf_tables.specs.Validity.{is_file_of, is_valid_file}
use Rattle.vf_tables.specs.declared.limits.TheConstants.{MOST_TERMS}
use Rattle.vf_filestore.specs.Conclusion.{concluding_entry, taken_up}
use Rattle.vf_filestore.specs.Keeping.{AreFew, AreFilesKept, HasFewTerms, IsFilled, all_strings, is_taken}
use Rattle.vf_filestore.specs.Sound.{IsLimited}
use Rattle.vf_filestore.proofs.FilesLater.{ChangesTerms, IsAnyStamp, NewTerms, brings_terms, message_goes}
use Rattle.vf_filestore.proofs.FilesOf.{files_survive}
use Rattle.vf_filestore.proofs.Leading.{both}
use Rattle.vf_filestore.proofs.Preserved.{Stays}
use Rattle.vf_filestore.proofs.Traced.{traced_found, traced_heard, traced_next, traced_without}
use Rattle.vf_filestore.proofs.UnitsMade.{makes_taken}

-- ---- states

pub files_stay : Stays HasFewTerms AreFilesKept
files_stay = record {
  breaks = λ link state sound kept. record { files = kept.files; traces = traced_without HasFewTerms state.parties link kept.traces };
  hears = λ state link party message few kept found. record { files = kept.files; traces = traced_heard HasFewTerms state.parties link party message few kept.traces found };
  traces = λ state link party kept found. traced_found HasFewTerms state.parties link party kept.traces found;
  grants = λ state party setting message given trace before after sound kept sound_after is allowed traces granting due. record {
    files = message_goes IsAnyStamp (ChangesTerms AreFew) (NewTerms AreFew) IsFilled (files_survive AreFew is_taken makes_taken) state party setting.moment given message tt
        (brings_terms AreFew message allowed) kept.files;
    traces =
        traced_next HasFewTerms state.parties before after party (record party { trace = trace; history = concluding_entry state party setting message given ∷ taken_up state party message }) is traces
        kept.traces;
  };
}

-- ---- files that are valid

pub constraint_same : (constraint : Constraint) → is_constraint constraint constraint ≡ true
constraint_same Unstructured = refl
constraint_same SequentialFlat = refl

file_valid : (file : File) → IsFilled file → IsLimited file → is_valid_file file ≡ true
file_valid file filled limited = by (doc_type file.contents) filled.strings limited.typed
  where
    by : (doc : Option DocType) → IfSome doc (λ (doc : DocType). all_strings (is_taken doc) file.tree.units ≡ true) → option_map (λ (doc : DocType). constraint_of doc.kind) doc ≡ Some file.tree.constraint
        → (nat_le (length file.terms) MOST_TERMS && option_map_or (is_file_of file) doc false) ≡ true
    by None fit typed = absurd cc
    by (Some doc) fit typed =
        let same : constraint_of doc.kind ≡ file.tree.constraint = some_is (constraint_of doc.kind) file.tree.constraint typed in
        let constraint : is_constraint (constraint_of doc.kind) file.tree.constraint ≡ true = ap (λ (one : Constraint). is_constraint one file.tree.constraint) same ∙ constraint_same file.tree.constraint in
        λ i. le-leb (length file.terms) MOST_TERMS filled.terms i && (constraint i && fit i)

pub files_valid : (files : List File) → AllByRecursion IsFilled files → AllByRecursion IsLimited files → list_all is_valid_file files ≡ true
files_valid [] filled limited = refl
files_valid (file ∷ files) filled limited = both (is_valid_file file) (list_all is_valid_file files) (file_valid file filled.0 limited.0) (files_valid files filled.1 limited.1)
