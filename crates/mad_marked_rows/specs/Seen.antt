-- The characters of a composite with marks, each in the style that its row shows it in.
use Rattle.std.specs.Prelude.{ℕ, ◌+◌, Bool, List, [], ◌∷◌, ◌++◌, map, chars, if◌then◌else◌}
use Rattle.mad_md.specs.Flagged.{Flags, flagged_of, flags_of, run_of}
use Rattle.mad_md.specs.declared.compound.Compound.{Compound}
use Rattle.mad_term.specs.declared.attribute.Attribute.TheVariants.{Reverse}
use Rattle.mad_term.specs.declared.styles.ContentStyle.{ContentStyle}
use Rattle.mad_style.specs.CompoundStyles.{attribute_added}
use Rattle.mad_style.specs.StyledChars.{char_alone, char_style, styled_char}
use Rattle.mad_style.specs.declared.compound_styles.CompoundStyle.{CompoundStyle}
use Rattle.mad_style.specs.declared.kinds.CompositeKind.{CompositeKind}
use Rattle.mad_style.specs.declared.line_styles.LineStyle.{LineStyle}
use Rattle.mad_format.specs.declared.composite.FmtComposite.{FmtComposite}
use Rattle.mad_rows.specs.RowStyles.{compound_style, line_style}
use Rattle.mad_rows.specs.declared.row_skin.RowSkin.{RowSkin}
use Rattle.mad_mark_runs.specs.declared.mark_runs.MarkRun.{MarkRun}
use Rattle.mad_marks.specs.RowMarks.{counted}
use Rattle.mad_marked_rows.specs.MarkedTexts.{Letter, letters_of, next_value}
use Rattle.mad_marked_rows.specs.declared.seen.SeenChar.{SeenChar}

-- a character of a part, in the style that the part's mark makes of another
abbrev pub seen_char : (ℕ → ContentStyle → ContentStyle) → CompoundStyle → ℕ → ℕ → SeenChar
seen_char paint style value c = record { value = value; char = styled_char (record { object_style = paint value style.object_style }) c }

-- those behind a character in a part of this value
abbrev pub seen_from : (ℕ → ContentStyle → ContentStyle) → CompoundStyle → ℕ → List Letter → List SeenChar
seen_from paint style v [] = []
seen_from paint style v (c ∷ cs) = seen_char paint style (next_value v c.value c.char) c.char ∷ seen_from paint style (next_value v c.value c.char) cs

-- of a text that is counted
abbrev pub seen_letters : (ℕ → ContentStyle → ContentStyle) → CompoundStyle → List Letter → List SeenChar
seen_letters paint style [] = []
seen_letters paint style (c ∷ cs) = seen_char paint style c.value c.char ∷ seen_from paint style c.value cs

-- the same, before which so many counted characters stand
abbrev pub counted_text : (ℕ → ContentStyle → ContentStyle) → List MarkRun → CompoundStyle → ℕ → List ℕ → List SeenChar
counted_text paint runs style n cs = seen_letters paint style (letters_of runs n cs)

-- of one that isn't
abbrev pub bare_text : CompoundStyle → List ℕ → List SeenChar
bare_text style cs = map (λ c. record { value = 0; char = styled_char style c }) cs

-- of a compound
abbrev pub seen_compound : (ℕ → ContentStyle → ContentStyle) → (Flags → Bool) → List MarkRun → RowSkin → LineStyle → ℕ → Compound → List SeenChar
seen_compound paint has runs skin style n k =
    if has (flags_of k) then counted_text paint runs (compound_style skin style (run_of k)) n (chars k.src.now) else bare_text (compound_style skin style (run_of k)) (chars k.src.now)

-- of compounds in a row
abbrev pub seen_compounds : (ℕ → ContentStyle → ContentStyle) → (Flags → Bool) → List MarkRun → RowSkin → LineStyle → ℕ → List Compound → List SeenChar
seen_compounds paint has runs skin style n [] = []
seen_compounds paint has runs skin style n (k ∷ ks) = seen_compound paint has runs skin style n k ++ seen_compounds paint has runs skin style (n + counted has (flagged_of k)) ks

-- of a composite, before which so many counted characters of the text stand
abbrev pub seen_text : (ℕ → ContentStyle → ContentStyle) → (CompositeKind → Flags → Bool) → List MarkRun → RowSkin → ℕ → FmtComposite → List SeenChar
seen_text paint has runs skin n l = seen_compounds paint (has l.kind) runs skin (line_style skin l.kind) n l.compounds.items

-- with colors exchanged; its mark stays
abbrev pub reversed : SeenChar → SeenChar
reversed s = record { value = s.value; char = styled_char (attribute_added (char_style s.char) Reverse) (char_alone s.char) }
