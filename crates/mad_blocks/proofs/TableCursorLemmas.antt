-- Tables among the parts of a text, line by line.
use Rattle.std.proofs.Common.{◌≡◌, ℕ, true, List, [], ◌∷◌, ◌++◌, Option, refl, ap, sym, ◌∙◌, subst, append_assoc}
use Rattle.std.specs.List.{AllByRecursion}
use Rattle.std.proofs.lemmas.List.{append-nil}
use Rattle.mad_md.specs.Lines.{LineContent}
use Rattle.mad_measure.proofs.AllLemmas.{all_push}
use Rattle.mad_format.specs.CompositeWraps.{IsCompositeWrap}
use Rattle.mad_format.specs.LineRules.{LineRules}
use Rattle.mad_format.specs.declared.line.FmtLine.{FmtLine}
use Rattle.mad_blocks.specs.LayoutParts.{table_width}
use Rattle.mad_blocks.specs.Layouts.{AreRead}
use Rattle.mad_blocks.specs.PartCursors.{LaidPart, NoneNext}
use Rattle.mad_blocks.specs.TableCursors.{TableBecomes}
use Rattle.mad_blocks.specs.Tables.{columns_count, IsTableLaidOutBy}
use Rattle.mad_blocks.specs.TextParts.{is_table}
use Rattle.mad_blocks.specs.declared.table_cursor.TableCursor.{TableCursor}
use Rattle.mad_blocks.proofs.PartCursorLemmas.{table_part}

-- ---- a table is read

-- The lines that were read are the first and those after it so far, all of a table.
pub record TableSoFar (first : LineContent) (before left read : List LineContent) : Type 0 where
  pub others : List LineContent
  pub joins : before ≡ others ++ left
  pub told : AllByRecursion (λ c. is_table c ≡ true) others
  pub are : read ≡ first ∷ others

-- the first line was read
pub table_begun : (first : LineContent) (before read : List LineContent) → read ≡ first ∷ [] → TableSoFar first before before read
table_begun first before read is = record { others = []; joins = refl; told = tt; are = is }

-- one line more was read
pub table_goes_on : (first : LineContent) (before left after read new : List LineContent) (c : LineContent) → TableSoFar first before left read → left ≡ c ∷ after → is_table c ≡ true → new ≡ read ++ c ∷ [] → TableSoFar first before after new
table_goes_on first before left after read new c h next on pushed = record {
  others = h.others ++ c ∷ [];
  joins = h.joins ∙ ap (λ (cs : List LineContent). h.others ++ cs) next ∙ sym (append_assoc h.others (c ∷ []) after);
  told = all_push (λ d. is_table d ≡ true) h.others c h.told on;
  are = pushed ∙ ap (λ (cs : List LineContent). cs ++ c ∷ []) h.are;
}

-- what becomes of the whole table is what its part becomes
pub table_whole : (skin : LineRules) (width : Option ℕ) (first : LineContent) (before left after said : List LineContent) (wide : ℕ) (lines own : List FmtLine) → is_table first ≡ true → TableSoFar first before left said → after ≡ left → NoneNext is_table left → wide ≡ table_width width
    → (read : List FmtLine) × AreRead skin said read × IsTableLaidOutBy IsCompositeWrap skin (columns_count read) wide read own → LaidPart skin width (first ∷ before) lines after (lines ++ own)
table_whole skin width first before left after said wide lines own on h same none is (read, reads, laid) =
    subst (λ (cs : List LineContent). LaidPart skin width (first ∷ before) lines cs (lines ++ own)) (sym same)
    (table_part skin width first before left read lines (lines ++ own) own on (record { others = h.others; joins = h.joins; told = h.told; reads = subst (λ (cs : List LineContent). AreRead skin cs read) h.are reads }) none refl
    (subst (λ (n : ℕ). IsTableLaidOutBy IsCompositeWrap skin (columns_count read) n read own) is laid))

-- ---- and laid out

-- whatever the lines that are left become is the rest of the part
abbrev pub PartSoFar : LineRules → Option ℕ → List LineContent → List FmtLine → List LineContent → TableCursor → List FmtLine → Type 0
PartSoFar skin width before lines after table now = (more : List FmtLine) → TableBecomes skin table more → LaidPart skin width before lines after (now ++ more)

-- one line more was laid out
pub part_goes_on : (skin : LineRules) (width : Option ℕ) (before : List LineContent) (lines : List FmtLine) (after : List LineContent) (old new : TableCursor) (was now own : List FmtLine) → PartSoFar skin width before lines after old was → now ≡ was ++ own
    → ((more : List FmtLine) → TableBecomes skin new more → TableBecomes skin old (own ++ more)) → PartSoFar skin width before lines after new now
part_goes_on skin width before lines after old new was now own h pushed becomes more left =
    subst (λ (ls : List FmtLine). LaidPart skin width before lines after ls) (sym (append_assoc was own more) ∙ ap (λ (ls : List FmtLine). ls ++ more) (sym pushed)) (h (own ++ more) (becomes more left))

-- no line is left: the part is laid out
pub part_ends : (skin : LineRules) (width : Option ℕ) (before : List LineContent) (lines : List FmtLine) (after : List LineContent) (table : TableCursor) (was now : List FmtLine) → PartSoFar skin width before lines after table was → now ≡ was → TableBecomes skin table [] → LaidPart skin width before lines after now
part_ends skin width before lines after table was now h same none = subst (λ (ls : List FmtLine). LaidPart skin width before lines after ls) (append-nil was ∙ sym same) (h [] none)
