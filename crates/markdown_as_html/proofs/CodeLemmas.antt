-- Code between fences is printed line by line, and what comes after as a text of its own.
use Rattle.std.proofs.Common.{◌≡◌, ℕ, false, List, [], ◌∷◌, ◌++◌, map, flat_map, refl, ap, ◌∙◌}
use Rattle.std.specs.Prelude.{None}
use Rattle.markdown_marks.specs.Bytes.{without_blanks}
use Rattle.markdown_marks.specs.Headings.{without_end}
use Rattle.markdown_marks.specs.Remaining.{Remaining}
use Rattle.markdown_leaves.specs.Gather.{trimmed}
use Rattle.markdown_leaves.specs.Parts.{BlockContent, PartContent, block}
use Rattle.markdown_leaves.specs.Told.{parts_of}
use Rattle.markdown_laws.specs.Fences.{unindented}
use Rattle.markdown_laws.proofs.FenceLemmas.{code_of, taken, lines_of, begun_code, code_read}
use Rattle.markdown_as_html.specs.Blocks.{Blocks, leaf as leaf_block, with_leaf, outermost, still_to_come}
use Rattle.markdown_as_html.specs.Defined.{Defined, definitions_of, parts_defined}
use Rattle.markdown_as_html.specs.Html.{html_of, parts_html, blocks_html, html_of_code, code_line, language_in, language_html}
use Rattle.markdown_as_html.specs.Printed.{CodeIsPrinted, printed_line}

in_front : (b : BlockContent) (blocks : List Blocks) → outermost (with_leaf b blocks) ≡ leaf_block b (outermost blocks)
in_front b [] = refl
in_front b (inner ∷ outer) = refl

code_in_front : (lines : List Remaining) (parts : List PartContent) → parts_html (block (code_of lines) ∷ parts) ≡ blocks_html (definitions_of parts) false None (leaf_block (code_of lines) (outermost (still_to_come parts)))
unfolding still_to_come parts_defined
code_in_front lines parts = ap (blocks_html (definitions_of parts) false None) (in_front (code_of lines) (still_to_come parts))

first_printed : (text : Remaining) (lines : List Remaining) (defined : Defined) (after : Blocks)
    → blocks_html defined false None (leaf_block (code_of (trimmed text ∷ lines)) after)
    ≡ html_of_code (language_html (language_in (without_end 32 9 (without_blanks text.bytes)))) (flat_map code_line lines) ++ blocks_html defined false None after
unfolding blocks_html
first_printed text lines defined after = refl

lines_printed : (indent : ℕ) (lines : List (List ℕ)) → flat_map code_line (map (taken indent) lines) ≡ flat_map printed_line (map (unindented indent) lines)
lines_printed indent [] = refl
lines_printed indent (line ∷ lines) = ap (λ (bs : List ℕ). printed_line (unindented indent line) ++ bs) (lines_printed indent lines)

parts_printed : (text : Remaining) (indent : ℕ) (lines : List (List ℕ)) (parts : List PartContent)
    → parts_html (block (code_of (lines_of text indent lines)) ∷ parts)
    ≡ html_of_code (language_html (language_in (without_end 32 9 (without_blanks text.bytes)))) (flat_map printed_line (map (unindented indent) lines)) ++ parts_html parts
parts_printed text indent lines parts =
    code_in_front (lines_of text indent lines) parts
    ∙ first_printed text (map (taken indent) lines) (definitions_of parts) (outermost (still_to_come parts))
    ∙ ap (λ (bs : List ℕ). html_of_code (language_html (language_in (without_end 32 9 (without_blanks text.bytes)))) bs ++ parts_html parts) (lines_printed indent lines)

-- code between fences is printed line by line, and what comes after as a text of its own
pub printed : CodeIsPrinted
unfolding html_of
printed text after first last fence lines indent sign length are h inside closing =
    let found = begun_code indent sign length first fence h in
    ap parts_html (code_read text after first last lines indent sign length found.0 are found.2 inside closing)
    ∙ parts_printed found.0 indent lines (parts_of after)
    ∙ ap (λ (info : List ℕ). html_of_code (language_html (language_in (without_end 32 9 (without_blanks info)))) (flat_map printed_line (map (unindented indent) lines)) ++ parts_html (parts_of after)) found.1
