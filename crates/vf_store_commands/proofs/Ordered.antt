-- Files in order, behind references, and their lines.
use Rattle.std.proofs.Common.{◌≡◌, ℕ, ◌+◌, ◌<◌, List, [], ◌∷◌, ◌++◌, length, map, take, get_or, Bor, ap, ◌∙◌, arith}
use Rattle.std.proofs.lemmas.List.{get_or-map, length-map, map_more, append-nil}
use Rattle.std.proofs.lemmas.List.Concat.{flat_map-append}
use Rattle.std.specs.Cmp.Lexicographic.{slice_cmp}
use Rattle.std.specs.List.Sorted.{IsSortedBy, IsSortedByKey}
use Rattle.std.specs.Ordering.{is_lt, nat_cmp}
use Rattle.vf_attr.specs.declared.file.File.{File}
use Rattle.vf_store_commands.specs.Listing.{file_line, file_lines}

abbrev pub behind : List (Bor File) → List File
behind files = map (λ (file : Bor File). file.now) files

-- references in the order of the names of their files lead to files in that order
pub order_behind : (files : List (Bor File)) → IsSortedBy (λ (one other : Bor File). is_lt (slice_cmp nat_cmp one.now.name other.now.name)) files
    → IsSortedByKey (λ (file : File). file.name) (slice_cmp nat_cmp) (behind files)
order_behind files order = λ k d low high.
    let within : k + 1 < length files = simp length-map at high in
    let at : Bor File = record { ref_ptr = (0, 0); now = d } in
    ap (λ (file : File). is_lt (slice_cmp nat_cmp file.name (get_or (behind files) k d).name)) (get_or-map (λ (file : Bor File). file.now) files (k + 1) at d within)
    ∙ ap (λ (file : File). is_lt (slice_cmp nat_cmp (get_or files (k + 1) at).now.name file.name)) (get_or-map (λ (file : Bor File). file.now) files k at d (omega arith))
    ∙ order k at low within

-- one line more
pub lines_more : (files : List (Bor File)) (k : ℕ) (d : Bor File) → k < length files
    → file_lines (behind (take (k + 1) files)) ≡ file_lines (behind (take k files)) ++ file_line (get_or files k d).now
lines_more files k d within =
    ap file_lines (map_more (λ (file : Bor File). file.now) files k d within)
    ∙ flat_map-append file_line (behind (take k files)) ((get_or files k d).now ∷ [])
    ∙ ap (λ (l : List ℕ). file_lines (behind (take k files)) ++ l) (append-nil (file_line (get_or files k d).now))
