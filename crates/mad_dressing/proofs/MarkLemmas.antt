-- Marks at words leave the text as it is.
use Rattle.std.proofs.Common.{◌≡◌, ◌<◌, ◌⊎◌, inl, inr, ℕ, Bool, true, false, if◌then◌else◌, ◌&&◌, not, List, [], ◌∷◌, ◌++◌, map, refl, ap, sym, subst, ◌∙◌, arith, append_assoc, append-nil}
use Rattle.std.specs.Prelude.{chars, codes}
use Rattle.std.specs.List.{AllByRecursion, AllZip, flat_map}
use Rattle.std.proofs.lemmas.Grind.{flat_map-append}
use Rattle.std.proofs.lemmas.Str.{chars-IsAscii}
use Rattle.std.proofs.lemmas.Str.Ascii.{IsAscii-cons, IsAscii-nil}
use Rattle.mad_md.specs.Flagged.{FlaggedChar, Flags, Run, flagged, unflagged}
use Rattle.mad_md.specs.Lines.{LineContent, StyledRuns, normal, table_row, table_rule, horizontal_rule}
use Rattle.mad_sections.specs.Sections.{SectionContent}
use Rattle.mad_sections.specs.TableTexts.{runs_text}
use Rattle.mad_sections.specs.UnfoldLaws.{IsMadeOfBoth, row_text}
use Rattle.mad_sections.specs.declared.gutters.Gutter.{Gutter}
use Rattle.mad_dressing.specs.DressLaws.{AreMarkedLines, HasMarks, IsMark, IsMarkedLine, IsMarkedText, all_text, is_mark, said_text}
use Rattle.mad_dressing.specs.WordMarks.{beginnings, endings, end_flags, end_in_alert, first_flags, is_alert, is_rule, mark_if, marked_flags, marked_line, marked_lines, marked_runs, marked_text, start_flags, worded, worded_if, begin_code, begins_strong}

-- ---- texts with marks

made_behind : (front own marks shown : List FlaggedChar) → IsMadeOfBoth own marks shown → IsMadeOfBoth (front ++ own) marks (front ++ shown)
made_behind [] own marks shown h = h
made_behind (f ∷ front) own marks shown h = inl (front ++ own, refl, made_behind front own marks shown h)

made_marked : (front own marks shown : List FlaggedChar) → IsMadeOfBoth own marks shown → IsMadeOfBoth own (front ++ marks) (front ++ shown)
made_marked [] own marks shown h = h
made_marked (f ∷ front) own marks shown h = inr (front ++ marks, refl, made_marked front own marks shown h)

all_both : {A : Type 0} (P : A → Type 0) (xs ys : List A) → AllByRecursion P xs → AllByRecursion P ys → AllByRecursion P (xs ++ ys)
all_both P [] ys h k = k
all_both P (x ∷ xs) ys h k = (h.0, all_both P xs ys h.1 k)

-- the sign of pictures that marks stand beside
module _ (sign : ℕ) where
  -- no text has no marks
  pub no_text : HasMarks sign [] []
  no_text = record { marks = []; made = (refl, refl); are_marks = tt }

  -- a text of its own in front
  pub own_text : (front own shown : List FlaggedChar) → HasMarks sign own shown → HasMarks sign (front ++ own) (front ++ shown)
  own_text front own shown h = record { marks = h.marks; made = made_behind front own h.marks shown h.made; are_marks = h.are_marks }

  -- marks in front
  pub more_marks : (front own shown : List FlaggedChar) → AllByRecursion (IsMark sign) front → HasMarks sign own shown → HasMarks sign own (front ++ shown)
  more_marks front own shown k h =
      record { marks = front ++ h.marks; made = made_marked front own h.marks shown h.made; are_marks = all_both (IsMark sign) front h.marks k h.are_marks }

  -- ---- runs

  -- the text of runs and others
  pub runs_both : (xs ys : List Run) → runs_text (xs ++ ys) ≡ runs_text xs ++ runs_text ys
  runs_both xs ys = flat_map-append (λ (run : Run). flagged run.flags (chars run.text)) xs ys

  -- runs are marks alone
  abbrev AreMarks : List Run → Type 0
  AreMarks runs = AllByRecursion (IsMark sign) (runs_text runs)

  both_marks : (xs ys : List Run) → AreMarks xs → AreMarks ys → AreMarks (xs ++ ys)
  both_marks xs ys h k = subst (AllByRecursion (IsMark sign)) (sym (runs_both xs ys)) (all_both (IsMark sign) (runs_text xs) (runs_text ys) h k)

  no_mark : AreMarks []
  no_mark = tt

  mark_alone : (c : ℕ) → c < 128 → is_mark c ≡ true → AreMarks (record { flags = unflagged; text = c ∷ [] } ∷ [])
  mark_alone c small is =
      let cs : chars (c ∷ []) ≡ c ∷ [] = chars-IsAscii (c ∷ []) (IsAscii-cons c [] small IsAscii-nil) in
      subst (λ (text : List ℕ). AllByRecursion (IsMark sign) (flagged unflagged text ++ [])) (sym cs) (inl (refl, is), tt)

  mark_there : (there : Bool) (c : ℕ) → c < 128 → is_mark c ≡ true → AreMarks (mark_if there (c ∷ []))
  mark_there true c small is = mark_alone c small is
  mark_there false c small is = tt

  beginnings_are : (before own : Flags) → AreMarks (beginnings before own)
  beginnings_are before own =
      let link = own.link && not before.link in
      let italic = own.italic && not before.italic in
      let bold = own.bold && not before.bold in
      let strikeout = own.strikeout && not before.strikeout in
      let code = own.code && not before.code in
      both_marks (mark_if link (codes "[")) _ (mark_there link 91 (omega arith) refl)
      (both_marks (mark_if italic (codes "_")) _ (mark_there italic 95 (omega arith) refl)
      (both_marks (mark_if bold (codes "*")) _ (mark_there bold 42 (omega arith) refl)
      (both_marks (mark_if strikeout (codes "~")) (mark_if code (codes "`")) (mark_there strikeout 126 (omega arith) refl) (mark_there code 96 (omega arith) refl))))

  endings_are : (own after : Flags) → AreMarks (endings own after)
  endings_are own after =
      let link = own.link && not after.link in
      let italic = own.italic && not after.italic in
      let bold = own.bold && not after.bold in
      let strikeout = own.strikeout && not after.strikeout in
      let code = own.code && not after.code in
      both_marks (mark_if code (codes "`")) _ (mark_there code 96 (omega arith) refl)
      (both_marks (mark_if strikeout (codes "~")) _ (mark_there strikeout 126 (omega arith) refl)
      (both_marks (mark_if bold (codes "*")) _ (mark_there bold 42 (omega arith) refl)
      (both_marks (mark_if italic (codes "_")) (mark_if link (codes "]")) (mark_there italic 95 (omega arith) refl) (mark_there link 93 (omega arith) refl))))

  -- the text of runs with marks, in front of another
  runs_marked : (strong : Bool) (before after : Flags) (runs : List Run) (own shown : List FlaggedChar) → HasMarks sign own shown → HasMarks sign (runs_text runs ++ own) (runs_text (marked_runs strong before after runs) ++ shown)
  runs_marked strong before after [] own shown h = h
  runs_marked strong before after (run ∷ runs) own shown h =
      let flags = marked_flags strong run in
      let front = beginnings before flags in
      let back = endings flags (first_flags strong after runs) in
      let more = marked_runs strong flags after runs in
      let text = flagged run.flags (chars run.text) in
      let rest = runs_marked strong flags after runs own shown h in
      let behind : runs_text (back ++ more) ++ shown ≡ runs_text back ++ (runs_text more ++ shown) =
      ap (λ (t : List FlaggedChar). t ++ shown) (runs_both back more) ∙ append_assoc (runs_text back) (runs_text more) shown in
      let whole : runs_text (front ++ (run ∷ (back ++ more))) ++ shown ≡ runs_text front ++ (text ++ (runs_text back ++ (runs_text more ++ shown))) =
      ap (λ (t : List FlaggedChar). t ++ shown) (runs_both front (run ∷ (back ++ more))) ∙ append_assoc (runs_text front) (text ++ runs_text (back ++ more)) shown
      ∙ ap (λ (t : List FlaggedChar). runs_text front ++ t) (append_assoc text (runs_text (back ++ more)) shown ∙ ap (λ (t : List FlaggedChar). text ++ t) behind) in
      let said : text ++ (runs_text runs ++ own) ≡ runs_text (run ∷ runs) ++ own = sym (append_assoc text (runs_text runs) own) in
      subst (λ (t : List FlaggedChar). HasMarks sign t (runs_text (front ++ (run ∷ (back ++ more))) ++ shown)) said
      (subst (HasMarks sign (text ++ (runs_text runs ++ own))) (sym whole)
      (more_marks (runs_text front) (text ++ (runs_text runs ++ own)) (text ++ (runs_text back ++ (runs_text more ++ shown))) (beginnings_are before flags)
      (own_text text (runs_text runs ++ own) (runs_text back ++ (runs_text more ++ shown))
      (more_marks (runs_text back) (runs_text runs ++ own) (runs_text more ++ shown) (endings_are flags (first_flags strong after runs)) rest))))

  -- ---- lines

  cells_marked : (strong : Bool) (cells : List StyledRuns) (own shown : List FlaggedChar) → HasMarks sign own shown → HasMarks sign (row_text cells ++ own) (row_text (map (marked_text strong unflagged unflagged) cells) ++ shown)
  cells_marked strong [] own shown h = h
  cells_marked strong (cell ∷ cells) own shown h =
      let marked = map (marked_text strong unflagged unflagged) cells in
      let first = runs_text (marked_runs strong unflagged unflagged cell.runs) in
      subst (λ (t : List FlaggedChar). HasMarks sign t ((first ++ row_text marked) ++ shown)) (sym (append_assoc (runs_text cell.runs) (row_text cells) own))
      (subst (HasMarks sign (runs_text cell.runs ++ (row_text cells ++ own))) (sym (append_assoc first (row_text marked) shown))
      (runs_marked strong unflagged unflagged cell.runs (row_text cells ++ own) (row_text marked ++ shown) (cells_marked strong cells own shown h)))

  line_marked : (strong : Bool) (before : Flags) (next : List LineContent) (line : LineContent) (own shown : List FlaggedChar) → HasMarks sign own shown → HasMarks sign (said_text line ++ own) (said_text (marked_line strong before next line) ++ shown)
  line_marked strong before next (normal said) own shown h = runs_marked strong before (start_flags next) said.runs own shown h
  line_marked strong before next (table_row cells) own shown h = cells_marked strong cells own shown h
  line_marked strong before next (table_rule aligns) own shown h = h
  line_marked strong before next horizontal_rule own shown h = h

  pub lines_marked : (strong : Bool) (before : Flags) (lines : List LineContent) → HasMarks sign (all_text lines) (all_text (marked_lines strong before lines))
  lines_marked strong before [] = no_text
  lines_marked strong before (line ∷ lines) =
      let more = marked_lines (strong && is_rule line) (end_flags strong line) lines in
      line_marked strong before lines line (all_text lines) (all_text more) (lines_marked (strong && is_rule line) (end_flags strong line) lines)

  -- a text is itself without marks
  pub same_text : (text : List FlaggedChar) → HasMarks sign text text
  same_text text = subst (λ (t : List FlaggedChar). HasMarks sign t t) (append-nil text) (own_text text [] [] no_text)

  text_by : (t : Bool) (section : SectionContent) → HasMarks sign (all_text section.lines) (all_text (worded_if t section).lines)
  text_by true section = lines_marked (begins_strong section) unflagged section.lines
  text_by false section = same_text (all_text section.lines)

  -- the text of a section with marks at its words, or as it is
  pub worded_text : (words : Bool) (section : SectionContent) → HasMarks sign (all_text section.lines) (all_text (worded words section).lines)
  worded_text words section = text_by (words && not (begin_code section.lines)) section

  -- ---- line by line

  same_said : (said : StyledRuns) → (IsMarkedText sign) said said
  same_said said = record { style = refl; text = same_text (runs_text said.runs) }

  same_cells : (cells : List StyledRuns) → AllZip (IsMarkedText sign) cells cells
  same_cells [] = tt
  same_cells (cell ∷ cells) = (same_said cell, same_cells cells)

  same_line : (line : LineContent) → (IsMarkedLine sign) line line
  same_line (normal said) = same_said said
  same_line (table_row cells) = same_cells cells
  same_line (table_rule aligns) = refl
  same_line horizontal_rule = tt

  -- lines are themselves without marks
  pub same_lines : (lines : List LineContent) → AreMarkedLines sign lines lines
  same_lines [] = tt
  same_lines (line ∷ lines) = (same_line line, same_lines lines)

  -- a composite or a cell is itself with marks at its words
  pub text_marked : (strong : Bool) (before after : Flags) (said : StyledRuns) → (IsMarkedText sign) said (marked_text strong before after said)
  text_marked strong before after said =
      let own = runs_text said.runs in
      let shown = runs_text (marked_runs strong before after said.runs) in
      record {
        style = refl;
        text = subst (λ (t : List FlaggedChar). HasMarks sign t shown) (append-nil own) (subst (HasMarks sign (own ++ [])) (append-nil shown) (runs_marked strong before after said.runs [] [] no_text));
      }

  each_cell_marked : (strong : Bool) (cells : List StyledRuns) → AllZip (IsMarkedText sign) cells (map (marked_text strong unflagged unflagged) cells)
  each_cell_marked strong [] = tt
  each_cell_marked strong (cell ∷ cells) = (text_marked strong unflagged unflagged cell, each_cell_marked strong cells)

  own_line_marked : (strong : Bool) (before : Flags) (next : List LineContent) (line : LineContent) → (IsMarkedLine sign) line (marked_line strong before next line)
  own_line_marked strong before next (normal said) = text_marked strong before (start_flags next) said
  own_line_marked strong before next (table_row cells) = each_cell_marked strong cells
  own_line_marked strong before next (table_rule aligns) = refl
  own_line_marked strong before next horizontal_rule = tt

  -- lines are themselves with marks at their words
  pub each_line_marked : (strong : Bool) (before : Flags) (lines : List LineContent) → AreMarkedLines sign lines (marked_lines strong before lines)
  each_line_marked strong before [] = tt
  each_line_marked strong before (line ∷ lines) = (own_line_marked strong before lines line, each_line_marked (strong && is_rule line) (end_flags strong line) lines)

  lines_by : (t : Bool) (section : SectionContent) → AreMarkedLines sign section.lines (worded_if t section).lines
  lines_by true section = each_line_marked (begins_strong section) unflagged section.lines
  lines_by false section = same_lines section.lines

  -- the lines of a section with marks at its words, or as they are
  pub worded_lines : (words : Bool) (section : SectionContent) → AreMarkedLines sign section.lines (worded words section).lines
  worded_lines words section = lines_by (words && not (begin_code section.lines)) section

-- ---- the bar of an alert

-- whether the last of gutters is one, where it was so before them
abbrev pub ends_from : Bool → List Gutter → Bool
ends_from last [] = last
ends_from last (g ∷ gs) = end_in_alert (g ∷ gs)

-- where no gutter was before, it is as the last one is
pub ends_none : (gs : List Gutter) → ends_from false gs ≡ end_in_alert gs
ends_none [] = refl
ends_none (g ∷ gs) = refl

pub next_ends : (last : Bool) (g : Gutter) (gs : List Gutter) → ends_from (is_alert g) gs ≡ ends_from last (g ∷ gs)
next_ends last g [] = refl
next_ends last g (h ∷ gs) = refl
