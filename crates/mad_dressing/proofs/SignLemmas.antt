-- Signs in front of pictures leave the text as it is.
use Rattle.std.proofs.Common.{◌≡◌, ◌⊎◌, inl, inr, ℕ, Bool, true, false, if◌then◌else◌, List, [], ◌∷◌, ◌++◌, map, Some, None, refl, ap, sym, subst, ◌∙◌, append_assoc, append-nil, not, ◌&&◌}
use Rattle.std.specs.Prelude.{chars}
use Rattle.std.specs.List.{AllByRecursion, AllZip, Contains}
use Rattle.std.proofs.lemmas.List.Elements.{All-contains_itself, recursion_from_All}
use Rattle.mad_md.specs.Flagged.{FlaggedChar, Flags, Run, flagged, unflagged}
use Rattle.mad_md.specs.Lines.{LineContent, StyledRuns, normal, table_row, table_rule, horizontal_rule}
use Rattle.mad_sections.specs.Sections.{SectionContent}
use Rattle.mad_sections.specs.TableTexts.{runs_text}
use Rattle.mad_sections.specs.UnfoldLaws.{IsMadeOfBoth, row_text}
use Rattle.mad_dressing.specs.DressLaws.{AreMarkedLines, HasMarks, IsMark, IsMarkedLine, IsMarkedText, all_text, said_text}
use Rattle.mad_dressing.specs.PictureSigns.{have_pictures, pictured, pictured_line, pictured_runs, pictured_text, sign_flags, sign_for, sign_if, sign_text}
use Rattle.mad_dressing.specs.WordMarks.{begin_code, begins_strong, end_flags, is_rule, marked_line, marked_lines, marked_text, start_flags, worded, worded_if}
use Rattle.mad_dressing.proofs.MarkLemmas.{each_line_marked, more_marks, no_text, own_text, runs_both, same_lines, same_text, text_marked, worded_text}

-- ---- marks, and marks between what has some

-- a text with marks that has marks itself
abbrev Woven : (FlaggedChar → Type 0) → (own shown : List FlaggedChar) → Type 0
Woven P own shown = (all : List FlaggedChar) × IsMadeOfBoth own all shown × AllByRecursion P all

-- one character more, where the rest is woven by `next`
weave : (P : FlaggedChar → Type 0) (own marks mid shown : List FlaggedChar) (z : FlaggedChar) → ((o m : List FlaggedChar) → IsMadeOfBoth o m mid → AllByRecursion P m → Woven P o shown)
    → IsMadeOfBoth own marks (z ∷ mid) → AllByRecursion P marks → Woven P own (z ∷ shown)
weave P own marks mid shown z next (inl (rest, is, more)) p = let w = next rest marks more p in (w.0, inl (rest, is, w.1), w.2)
weave P own marks mid shown z next (inr (rest, is, more)) p =
    let s = subst (AllByRecursion P) is p in
    let w = next own rest more s.1 in
    (z ∷ w.0, inr (w.0, refl, w.1), (s.0, w.2))

woven : (P : FlaggedChar → Type 0) (own marks mid signs shown : List FlaggedChar) → IsMadeOfBoth own marks mid → IsMadeOfBoth mid signs shown → AllByRecursion P marks → AllByRecursion P signs → Woven P own shown
woven P own marks mid signs [] h k p q = let none : IsMadeOfBoth own marks [] = subst (IsMadeOfBoth own marks) k.0 h in ([], (none.0, refl), tt)
woven P own marks mid signs (z ∷ zs) h (inl (rest, is, more)) p q =
    weave P own marks rest zs z (λ o m k r. woven P o m rest signs zs k more r q) (subst (IsMadeOfBoth own marks) is h) p
woven P own marks mid signs (z ∷ zs) h (inr (rest, is, more)) p q =
    let s = subst (AllByRecursion P) is q in
    let w = woven P own marks mid rest zs h more p s.1 in
    (z ∷ w.0, inr (w.0, refl, w.1), (s.0, w.2))

-- ---- texts with signs

-- the sign of the pictures
module _ (sign : ℕ) where
  marks_both : (own mid shown : List FlaggedChar) → HasMarks sign own mid → HasMarks sign mid shown → HasMarks sign own shown
  marks_both own mid shown h k =
      let w = woven (IsMark sign) own h.marks mid k.marks shown h.made k.made h.are_marks k.are_marks in
      record { marks = w.0; made = w.1; are_marks = w.2 }

  each_sign : (cs : List ℕ) → AllByRecursion (Contains (chars (sign_text sign))) cs → AllByRecursion (IsMark sign) (flagged sign_flags cs)
  each_sign [] h = tt
  each_sign (c ∷ cs) h = (inr (refl, h.0), each_sign cs h.1)

  sign_is : AllByRecursion (IsMark sign) (flagged sign_flags (chars (sign_text sign)))
  sign_is = let cs : List ℕ = chars (sign_text sign) in each_sign cs (recursion_from_All (Contains cs) cs (All-contains_itself cs))

  signs_are : (there : Bool) → AllByRecursion (IsMark sign) (runs_text (sign_if there (sign_text sign)))
  signs_are true = subst (AllByRecursion (IsMark sign)) (sym (append-nil (flagged sign_flags (chars (sign_text sign))))) sign_is
  signs_are false = tt

  -- the text of runs with signs, in front of another
  runs_signed : (runs : List Run) (own shown : List FlaggedChar) → HasMarks sign own shown → HasMarks sign (runs_text runs ++ own) (runs_text (pictured_runs (sign_text sign) runs) ++ shown)
  runs_signed [] own shown h = h
  runs_signed (run ∷ runs) own shown h =
      let front = sign_if run.flags.picture (sign_text sign) in
      let more = pictured_runs (sign_text sign) runs in
      let text = flagged run.flags (chars run.text) in
      let whole : runs_text (front ++ (run ∷ more)) ++ shown ≡ runs_text front ++ (text ++ (runs_text more ++ shown)) =
      ap (λ (t : List FlaggedChar). t ++ shown) (runs_both sign front (run ∷ more)) ∙ append_assoc (runs_text front) (text ++ runs_text more) shown
      ∙ ap (λ (t : List FlaggedChar). runs_text front ++ t) (append_assoc text (runs_text more) shown) in
      let said : text ++ (runs_text runs ++ own) ≡ runs_text (run ∷ runs) ++ own = sym (append_assoc text (runs_text runs) own) in
      subst (λ (t : List FlaggedChar). HasMarks sign t (runs_text (front ++ (run ∷ more)) ++ shown)) said
      (subst (HasMarks sign (text ++ (runs_text runs ++ own))) (sym whole)
      (more_marks sign (runs_text front) (text ++ (runs_text runs ++ own)) (text ++ (runs_text more ++ shown)) (signs_are run.flags.picture)
      (own_text sign text (runs_text runs ++ own) (runs_text more ++ shown) (runs_signed runs own shown h))))

  cells_signed : (cells : List StyledRuns) (own shown : List FlaggedChar) → HasMarks sign own shown → HasMarks sign (row_text cells ++ own) (row_text (map (pictured_text (sign_text sign)) cells) ++ shown)
  cells_signed [] own shown h = h
  cells_signed (cell ∷ cells) own shown h =
      let others = map (pictured_text (sign_text sign)) cells in
      let first = runs_text (pictured_runs (sign_text sign) cell.runs) in
      subst (λ (t : List FlaggedChar). HasMarks sign t ((first ++ row_text others) ++ shown)) (sym (append_assoc (runs_text cell.runs) (row_text cells) own))
      (subst (HasMarks sign (runs_text cell.runs ++ (row_text cells ++ own))) (sym (append_assoc first (row_text others) shown))
      (runs_signed cell.runs (row_text cells ++ own) (row_text others ++ shown) (cells_signed cells own shown h)))

  line_signed : (line : LineContent) (own shown : List FlaggedChar) → HasMarks sign own shown → HasMarks sign (said_text line ++ own) (said_text (pictured_line (sign_text sign) line) ++ shown)
  line_signed (normal said) own shown h = runs_signed said.runs own shown h
  line_signed (table_row cells) own shown h = cells_signed cells own shown h
  line_signed (table_rule aligns) own shown h = h
  line_signed horizontal_rule own shown h = h

  lines_signed : (lines : List LineContent) → HasMarks sign (all_text lines) (all_text (map (pictured_line (sign_text sign)) lines))
  lines_signed [] = no_text sign
  lines_signed (line ∷ lines) = line_signed line (all_text lines) (all_text (map (pictured_line (sign_text sign)) lines)) (lines_signed lines)

  signed_by : (code have : Bool) (s : SectionContent) → HasMarks sign (all_text s.lines) (all_text (pictured (if code then None else if have then Some (sign_text sign) else None) s).lines)
  signed_by true have s = same_text sign (all_text s.lines)
  signed_by false true s = lines_signed s.lines
  signed_by false false s = same_text sign (all_text s.lines)

  -- the text of a section with marks at its words and the signs of its pictures
  pub filled_text : (words : Bool) (s : SectionContent) → HasMarks sign (all_text s.lines) (all_text (pictured (sign_for sign s.lines) (worded words s)).lines)
  filled_text words s =
      let own = worded words s in
      marks_both (all_text s.lines) (all_text own.lines) (all_text (pictured (sign_for sign s.lines) own).lines) (worded_text sign words s) (signed_by (begin_code s.lines) (have_pictures s.lines) own)

  -- ---- line by line

  text_signed : (said : StyledRuns) → IsMarkedText sign said (pictured_text (sign_text sign) said)
  text_signed said =
      let own = runs_text said.runs in
      let shown = runs_text (pictured_runs (sign_text sign) said.runs) in
      record {
        style = refl;
        text = subst (λ (t : List FlaggedChar). HasMarks sign t shown) (append-nil own) (subst (HasMarks sign (own ++ [])) (append-nil shown) (runs_signed said.runs [] [] (no_text sign)));
      }

  both_texts : (own mid shown : StyledRuns) → IsMarkedText sign own mid → IsMarkedText sign mid shown → IsMarkedText sign own shown
  both_texts own mid shown h k = record { style = h.style ∙ k.style; text = marks_both (runs_text own.runs) (runs_text mid.runs) (runs_text shown.runs) h.text k.text }

  each_cell_signed : (cells : List StyledRuns) → AllZip (IsMarkedText sign) cells (map (pictured_text (sign_text sign)) cells)
  each_cell_signed [] = tt
  each_cell_signed (cell ∷ cells) = (text_signed cell, each_cell_signed cells)

  own_line_signed : (line : LineContent) → IsMarkedLine sign line (pictured_line (sign_text sign) line)
  own_line_signed (normal said) = text_signed said
  own_line_signed (table_row cells) = each_cell_signed cells
  own_line_signed (table_rule aligns) = refl
  own_line_signed horizontal_rule = tt

  each_line_signed : (lines : List LineContent) → AreMarkedLines sign lines (map (pictured_line (sign_text sign)) lines)
  each_line_signed [] = tt
  each_line_signed (line ∷ lines) = (own_line_signed line, each_line_signed lines)

  both_of : (strong : Bool) (before after : Flags) (said : StyledRuns) → IsMarkedText sign said (pictured_text (sign_text sign) (marked_text strong before after said))
  both_of strong before after said =
      let own = marked_text strong before after said in
      both_texts said own (pictured_text (sign_text sign) own) (text_marked sign strong before after said) (text_signed own)

  each_cell_both : (strong : Bool) (cells : List StyledRuns) → AllZip (IsMarkedText sign) cells (map (pictured_text (sign_text sign)) (map (marked_text strong unflagged unflagged) cells))
  each_cell_both strong [] = tt
  each_cell_both strong (cell ∷ cells) = (both_of strong unflagged unflagged cell, each_cell_both strong cells)

  line_both : (strong : Bool) (before : Flags) (next : List LineContent) (line : LineContent) → IsMarkedLine sign line (pictured_line (sign_text sign) (marked_line strong before next line))
  line_both strong before next (normal said) = both_of strong before (start_flags next) said
  line_both strong before next (table_row cells) = each_cell_both strong cells
  line_both strong before next (table_rule aligns) = refl
  line_both strong before next horizontal_rule = tt

  each_line_both : (strong : Bool) (before : Flags) (lines : List LineContent) → AreMarkedLines sign lines (map (pictured_line (sign_text sign)) (marked_lines strong before lines))
  each_line_both strong before [] = tt
  each_line_both strong before (line ∷ lines) = (line_both strong before lines line, each_line_both (strong && is_rule line) (end_flags strong line) lines)

  filled_by_both : (there code have : Bool) (s : SectionContent) → AreMarkedLines sign s.lines (pictured (if code then None else if have then Some (sign_text sign) else None) (worded_if there s)).lines
  filled_by_both true true have s = each_line_marked sign (begins_strong s) unflagged s.lines
  filled_by_both true false true s = each_line_both (begins_strong s) unflagged s.lines
  filled_by_both true false false s = each_line_marked sign (begins_strong s) unflagged s.lines
  filled_by_both false true have s = same_lines sign s.lines
  filled_by_both false false true s = each_line_signed s.lines
  filled_by_both false false false s = same_lines sign s.lines

  -- the lines of a section with marks at its words and the signs of its pictures
  pub filled_lines : (words : Bool) (s : SectionContent) → AreMarkedLines sign s.lines (pictured (sign_for sign s.lines) (worded words s)).lines
  filled_lines words s = filled_by_both (words && not (begin_code s.lines)) (begin_code s.lines) (have_pictures s.lines) s

-- ---- without pictures

unsigned_by : (sign : List ℕ) (code have : Bool) (s : SectionContent) → have ≡ false → pictured (if code then None else if have then Some sign else None) s ≡ s
unsigned_by sign true have s none = refl
unsigned_by sign false have s none = ap (λ (t : Bool). pictured (if t then Some sign else None) s) none

-- where nothing is said of a picture there are no signs
pub unsigned : (sign : ℕ) (lines : List LineContent) (s : SectionContent) → have_pictures lines ≡ false → pictured (sign_for sign lines) s ≡ s
unsigned sign lines s none = unsigned_by (sign_text sign) (begin_code lines) (have_pictures lines) s none

-- nor are there any in code
pub code_unsigned : (sign : ℕ) (lines : List LineContent) (s : SectionContent) → begin_code lines ≡ true → pictured (sign_for sign lines) s ≡ s
code_unsigned sign lines s is = ap (λ (t : Bool). pictured (if t then None else if have_pictures lines then Some (sign_text sign) else None) s) is
