-- How long and how deep the values of data elements are at most.
use Rattle.std.proofs.Common.{ℕ, ◌+◌, ◌≤◌, Bool, true, false, List, [], ◌∷◌, length, arith, length-append, inl, inr}
use Rattle.std.specs.Prelude.{Option, Some, None, IsTrue}
use Rattle.std.proofs.lemmas.Bool.Decides.{nat_tests}
use Rattle.vf_base.specs.Name.{is_name}
use Rattle.vf_base.specs.declared.element.Element.TheVariants.{Descriptor, Enter, Exit, Text, Binary}
use Rattle.vf_ber.specs.Limits.{IsTooLarge}
use Rattle.vf_ber.specs.Spelling.{header, spell, spells}
use Rattle.vf_ber.specs.Tree.{Tag, Tree, plain, none}
use Rattle.vf_elements.specs.ElementValue.{IsNamed, descriptor_parts, filled_part}
use Rattle.vf_elements.specs.Elements.{application, octet_string}
use Rattle.vf_elements.specs.Sizes.{ElementIsWithin}
use Rattle.vf_pdu_fields.specs.Meaning.{context, universal}
use Rattle.vf_pdu_fields.proofs.Sizes.{FitIn, built-fits}

header-short : (constructed : Bool) (tag : Tag) (n : ℕ) → length (header constructed tag n) ≤ 7
header-short constructed tag n = grind (arith, nat_tests, length-append)

plain-short : (tag : Tag) (octets : List ℕ) → length (spell (plain tag octets)) ≤ length octets + 7
plain-short tag octets = omega (arith, header-short false tag (length octets), length-append (header false tag (length octets)) octets)

name-short : (name : List ℕ) → IsTrue (is_name name) → length name ≤ 255
name-short name is = grind (arith, nat_tests)

plain-within : (tag : Tag) (octets : List ℕ) → length octets ≤ 65536 → IsTooLarge (plain tag octets) → ⊥
plain-within tag octets short (inl deep) = omega (arith, deep)
plain-within tag octets short (inr long) = omega (arith, long, short, plain-short tag octets)

filled-fits : (filled : Bool) → FitIn (filled_part filled) 8 1
filled-fits true = record { short = omega arith; shallow = omega arith }
filled-fits false =
    let part : Tree = plain (context 1) (0 ∷ []) in
    record { short = omega (arith, plain-short (context 1) (0 ∷ []), length-append (spell part) (spells none)); shallow = omega arith }

parts-fit : (name : Option (List ℕ)) (filled : Bool) → IsNamed name → FitIn (descriptor_parts name filled) 270 1
parts-fit None filled named = let fit = filled-fits filled in record { short = omega (arith, fit.short); shallow = fit.shallow }
parts-fit (Some name) filled named =
    let fit = filled-fits filled in
    let part : Tree = plain (context 0) name in
    record {
      short = omega (arith, fit.short, plain-short (context 0) name, name-short name named, length-append (spell part) (spells (filled_part filled)));
      shallow = omega (arith, fit.shallow);
    }

pub within : ElementIsWithin
within (Descriptor name filled) writable short (inl deep) =
    let fit = built-fits (application 0) (descriptor_parts name filled) 270 1 (parts-fit name filled writable) in omega (arith, deep, fit.shallow)
within (Descriptor name filled) writable short (inr long) =
    let fit = built-fits (application 0) (descriptor_parts name filled) 270 1 (parts-fit name filled writable) in omega (arith, long, fit.short)
within Enter writable short large = plain-within (application 1) [] (omega arith) large
within Exit writable short large = plain-within (application 2) [] (omega arith) large
within (Text class octets) writable short large = plain-within (universal class) octets short large
within (Binary octets) writable short large = plain-within (universal octet_string) octets short large
