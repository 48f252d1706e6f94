-- Parts that were taken: rows that are kept, or lines that wait to follow them.
use Rattle.std.proofs.Common.{◌≡◌, ℕ, Bool, true, false, not, List, [], ◌∷◌, ◌++◌, length, ◌<◌, Option, Some, None, Result, Ok, Err, nat_lt, refl, ap, sym, ◌∙◌, subst, append_assoc, append-nil}
use Rattle.std.proofs.lemmas.Grind.{flat_map-append}
use Rattle.std.specs.Prelude.{if◌then◌else◌}
use Rattle.std.specs.Result.{IsErrAnd}
use Rattle.mad_md.specs.Lines.{LineContent, StyledRuns, normal}
use Rattle.mad_term.specs.Trace.{Trace}
use Rattle.mad_term.specs.declared.errors.Error.{Error}
use Rattle.mad_style.specs.Kinds.{kind_of}
use Rattle.mad_blocks.specs.LayoutParts.{is_code_kind, wrap_width, IsLineAt}
use Rattle.mad_blocks.specs.Layouts.{IsLayoutAt}
use Rattle.mad_blocks.specs.PartCursors.{LaidPart, LaysPart}
use Rattle.mad_blocks.specs.TableCursors.{IsFirstTable, TableBecomes}
use Rattle.mad_blocks.specs.TextParts.{is_text}
use Rattle.mad_blocks.specs.declared.table_cursor.TableCursor.{TableCursor}
use Rattle.mad_blocks.proofs.PartCursorLemmas.{LaidSoFar, laid_more, laid_none, laid_shorter, laid_whole, single_laid}
use Rattle.mad_format.specs.CompositeWraps.{IsCompositeWrap}
use Rattle.mad_format.specs.FmtLines.{IsCompositeRead}
use Rattle.mad_format.specs.declared.composite.FmtComposite.{FmtComposite}
use Rattle.mad_format.specs.declared.line.FmtLine.{FmtLine}
use Rattle.mad_format.specs.declared.line.FmtLine.TheVariants.{Normal}
use Rattle.mad_layout.specs.UnmarkedRows.{HandsOnUnmarked}
use Rattle.mad_layout.specs.WrittenParts.{TakesRead, TakesReadOrNone, TakenPart, TakesPart, WritesPartsOf}
use Rattle.mad_layout.proofs.UnmarkedLineLemmas.{written_unmarked, written_unmarked_refused}
use Rattle.mad_layout.proofs.WrittenLemmas.{WrittenSoFar}
use Rattle.mad_read_rows.specs.ReadRows.{PutsReadOrNone}
use Rattle.mad_rows.specs.Rows.{line_bytes, text_bytes}
use Rattle.mad_rows.specs.RowStyles.{line_rules}
use Rattle.mad_rows.specs.declared.row_skin.RowSkin.{RowSkin}

-- ---- a composite

some_only : (v w : ℕ) (b : Bool) → (if b then None else Some v) ≡ Some w → Some v ≡ Some w
some_only v w true h = absurd (cc)
some_only v w false h = h

-- a width that lines are wrapped at is the width
width_is : (width : Option ℕ) (w : ℕ) → wrap_width width ≡ Some w → width ≡ Some w
width_is None w h = absurd (cc)
width_is (Some v) w h = some_only v w (nat_lt v 3) h

-- rows of what becomes of a composite at a width
pub read_taken : (skin : RowSkin) (width : Option ℕ) (w : ℕ) (said : StyledRuns) (old : List ℕ) (done : Bool) (new : List ℕ) → wrap_width width ≡ Some w → PutsReadOrNone skin w said old done new → TakesReadOrNone skin width said old done new
read_taken skin width w said old false new is h = h
read_taken skin width w said old true new is (source, read, own, put, becomes) = record {
  source = source;
  read = read;
  own = own;
  becomes = subst (λ (v : Option ℕ). IsLineAt IsCompositeWrap (line_rules skin) v (Normal source) own) (sym is) becomes;
  rows = append-nil new ∙ put ∙ ap (λ (v : Option ℕ). old ++ text_bytes skin v own) (sym (width_is width w is));
}

-- lines of it, where there were none
pub read_laid : (skin : RowSkin) (width : Option ℕ) (said : StyledRuns) (source : FmtComposite) (own before after : List FmtLine) (old new : List ℕ) → IsCompositeRead (line_rules skin) said source → before ≡ [] → after ≡ before ++ own
    → IsLineAt IsCompositeWrap (line_rules skin) (wrap_width width) (Normal source) own → new ≡ old → TakesRead skin width said old new after
read_laid skin width said source own before after old new read none pushed becomes same = record {
  source = source;
  read = read;
  own = own;
  becomes = becomes;
  rows = ap (λ (b : List ℕ). b ++ text_bytes skin width after) same ∙ ap (λ (ls : List FmtLine). old ++ text_bytes skin width ls) (pushed ∙ ap (λ (ls : List FmtLine). ls ++ own) none);
}

-- ---- a part

no_code : (b : Bool) → not b ≡ true → b ≡ false
no_code true h = absurd (cc)
no_code false h = refl

-- a composite that was next
pub text_taken : (skin : RowSkin) (width : Option ℕ) (said : StyledRuns) (before after : List LineContent) (old new : List ℕ) (lines : List FmtLine) → before ≡ normal said ∷ after → is_text (normal said) ≡ true
    → TakesRead skin width said old new lines → TakenPart skin width before old after new lines
text_taken skin width said before after old new lines is text h = record {
  own = h.own;
  part = subst (λ (cs : List LineContent). LaidPart (line_rules skin) width cs [] after h.own) (sym is)
      (single_laid (line_rules skin) width (normal said) after (Normal h.source) [] h.own h.own (no_code (is_code_kind (kind_of said.style)) text) refl h.read refl h.becomes);
  rows = h.rows;
}

-- a part that was laid out, where no lines were
pub laid_taken : (skin : RowSkin) (width : Option ℕ) (before mid after : List LineContent) (rows : List ℕ) (old new : List FmtLine) (found : Bool) → mid ≡ before → old ≡ [] → LaysPart (line_rules skin) width mid old found after new
    → TakesPart skin width before rows found after rows new
laid_taken skin width before mid after rows old new true same none h = record {
  own = new;
  part = subst (λ (ls : List FmtLine). LaidPart (line_rules skin) width before ls after new) none (subst (λ (cs : List LineContent). LaidPart (line_rules skin) width cs old after new) same h);
  rows = refl;
}
laid_taken skin width before mid after rows old new false same none h = (sym same ∙ h.0, h.1, refl, h.2 ∙ none)

-- ---- a table, line by line

-- whatever the lines that are left become, their rows follow those of the lines that were laid out
abbrev pub TableRowsSoFar : RowSkin → Option ℕ → TableCursor → List ℕ → TableCursor → List ℕ → Type 0
TableRowsSoFar skin width first old table rows =
    (more : List FmtLine) → TableBecomes (line_rules skin) table more → (own : List FmtLine) × TableBecomes (line_rules skin) first own × (rows ++ text_bytes skin width more ≡ old ++ text_bytes skin width own)

-- the rows of one line more were written
pub table_rows_more : (skin : RowSkin) (width : Option ℕ) (first table next : TableCursor) (old rows new : List ℕ) (was now own : List FmtLine) → TableRowsSoFar skin width first old table rows → was ≡ [] → now ≡ was ++ own
    → ((more : List FmtLine) → TableBecomes (line_rules skin) next more → TableBecomes (line_rules skin) table (own ++ more)) → new ≡ rows ++ text_bytes skin width now → TableRowsSoFar skin width first old next new
table_rows_more skin width first table next old rows new was now own held none pushed becomes put more left =
    let all = held (own ++ more) (becomes more left) in
    let are : new ≡ rows ++ text_bytes skin width own = put ∙ ap (λ (ls : List FmtLine). rows ++ text_bytes skin width ls) (pushed ∙ ap (λ (ls : List FmtLine). ls ++ own) none) in (
      all.0,
      all.1,
      ap (λ (b : List ℕ). b ++ text_bytes skin width more) are ∙ append_assoc rows (text_bytes skin width own) (text_bytes skin width more) ∙ ap (λ (b : List ℕ). rows ++ b) (sym (flat_map-append (line_bytes skin width) own more)) ∙ all.2,
    )

-- no line is left: the table's rows are written
pub table_rows_end : (skin : RowSkin) (width : Option ℕ) (first table : TableCursor) (old rows new : List ℕ) → TableRowsSoFar skin width first old table rows → TableBecomes (line_rules skin) table [] → new ≡ rows
    → (own : List FmtLine) × TableBecomes (line_rules skin) first own × (new ≡ old ++ text_bytes skin width own)
table_rows_end skin width first table old rows new held none same = let all = held [] none in (all.0, all.1, same ∙ sym (append-nil rows) ∙ all.2)

-- the rows of a table that was next
pub table_taken : (skin : RowSkin) (width : Option ℕ) (before after : List LineContent) (table : TableCursor) (old new : List ℕ) (lines : List FmtLine) → IsFirstTable (line_rules skin) width before table after → lines ≡ []
    → (own : List FmtLine) × TableBecomes (line_rules skin) table own × (new ≡ old ++ text_bytes skin width own) → TakenPart skin width before old after new lines
table_taken skin width before after table old new lines is none (own, becomes, put) = record {
  own = own;
  part = is [] own becomes;
  rows = ap (λ (ls : List FmtLine). new ++ text_bytes skin width ls) none ∙ append-nil new ∙ put;
}

-- ---- a part that was taken, and the unmarked lines after it

handed_as : {T : Type 0} (skin : RowSkin) (width : Option ℕ) (left later rest : List LineContent) (lines : List FmtLine) (rows new_rows kept : List ℕ) (r : Result T Error) (mid end : Trace) → (t : TakenPart skin width left rows later new_rows lines)
    → HandsOnUnmarked skin width later (new_rows ++ text_bytes skin width lines) mid r end kept rest → HandsOnUnmarked skin width later (rows ++ text_bytes skin width t.own) mid r end kept rest
handed_as {T} skin width left later rest lines rows new_rows kept r mid end t q = subst (λ (b : List ℕ). HandsOnUnmarked skin width later b mid r end kept rest) t.rows q

-- they are handed on
pub taken_written : (skin : RowSkin) (width : Option ℕ) (all left later rest : List LineContent) (lines : List FmtLine) (rows new_rows kept : List ℕ) (old mid end : Trace) → WrittenSoFar skin width all left rows old mid
    → TakenPart skin width left rows later new_rows lines → HandsOnUnmarked {T = Unit {0}} skin width later (new_rows ++ text_bytes skin width lines) mid (Ok (tt {0})) end kept rest → WrittenSoFar skin width all rest kept old end
taken_written skin width all left later rest lines rows new_rows kept old mid end h t q =
    written_unmarked skin width all left later rest [] t.own rows kept old mid end h t.part refl (handed_as skin width left later rest lines rows new_rows kept (Ok (tt {0})) mid end t q)

-- they are refused
pub taken_refused : {T : Type 0} (skin : RowSkin) (width : Option ℕ) (all left later rest : List LineContent) (lines : List FmtLine) (rows new_rows kept : List ℕ) (r : Result T Error) (e : Error) (old mid end : Trace) → WrittenSoFar skin width all left rows old mid
    → TakenPart skin width left rows later new_rows lines → HandsOnUnmarked {T = Unit {0}} skin width later (new_rows ++ text_bytes skin width lines) mid (Err e) end kept rest → IsErrAnd r (λ d. d ≡ e) → WritesPartsOf skin width all old r end
taken_refused {T} skin width all left later rest lines rows new_rows kept r e old mid end h t q is =
    written_unmarked_refused skin width all left later rest [] t.own rows kept r e old mid end h t.part refl (handed_as skin width left later rest lines rows new_rows kept (Err e) mid end t q) is

-- after a part that was taken fewer lines are left
pub taken_shorter : (skin : RowSkin) (width : Option ℕ) (left later : List LineContent) (lines : List FmtLine) (rows new_rows : List ℕ) → TakenPart skin width left rows later new_rows lines → length later < length left
taken_shorter skin width left later lines rows new_rows t = laid_shorter (line_rules skin) width left later [] t.own t.part

-- ---- parts that are only put after rows

-- the parts so far are laid out, and their bytes come after those that were there
pub record RowsSoFar (skin : RowSkin) (width : Option ℕ) (all left : List LineContent) (old new : List ℕ) : Type 0 where
  pub done : List FmtLine
  pub laid : LaidSoFar (line_rules skin) width all left done
  pub bytes : new ≡ old ++ text_bytes skin width done

-- no part is put yet
pub rows_start : (skin : RowSkin) (width : Option ℕ) (all : List LineContent) (old : List ℕ) → RowsSoFar skin width all all old old
rows_start skin width all old = record { done = []; laid = laid_none (line_rules skin) width all; bytes = sym (append-nil old) }

-- one more part is put
pub rows_more : (skin : RowSkin) (width : Option ℕ) (all left later : List LineContent) (lines : List FmtLine) (old rows mid new : List ℕ) → RowsSoFar skin width all left old rows → TakenPart skin width left rows later mid lines
    → new ≡ mid ++ text_bytes skin width lines → RowsSoFar skin width all later old new
rows_more skin width all left later lines old rows mid new h t put = record {
  done = h.done ++ t.part.own;
  laid = laid_more (line_rules skin) width all left later h.done [] t.own h.laid t.part;
  bytes = put ∙ t.rows ∙ ap (λ (b : List ℕ). b ++ text_bytes skin width t.own) h.bytes ∙ append_assoc old (text_bytes skin width h.done) (text_bytes skin width t.own)
      ∙ ap (λ (ls : List FmtLine). old ++ (text_bytes skin width h.done ++ text_bytes skin width ls)) t.part.added ∙ ap (λ (b : List ℕ). old ++ b) (sym (flat_map-append (line_bytes skin width) h.done t.part.own));
}

-- where no line is left, the rows of a layout of the text are put
pub rows_end : (skin : RowSkin) (width : Option ℕ) (all left : List LineContent) (old rows new : List ℕ) → RowsSoFar skin width all left old rows → left ≡ [] → new ≡ rows
    → (lines : List FmtLine) × IsLayoutAt (line_rules skin) width all lines × (new ≡ old ++ text_bytes skin width lines)
rows_end skin width all left old rows new h none same = (h.done, laid_whole (line_rules skin) width all left h.done h.done h.laid none refl, same ∙ h.bytes)
