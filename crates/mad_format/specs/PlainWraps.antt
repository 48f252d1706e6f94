-- Wrapping a plain text: each of its lines by itself, as one compound without flags, in lines without indents.
use Rattle.std.specs.Prelude.{◌≡◌, ℕ, ◌<◌, ◌≤◌, false, List, [], ◌∷◌, ◌++◌, map, chars, length}
use Rattle.std.specs.List.{AllByRecursion, flat_map}
use Rattle.std.specs.Str.{skip_leading_whitespace}
use Rattle.mad_characters.specs.Columns.{char_columns}
use Rattle.mad_md.specs.Flagged.{unflagged, run_of, flagged_text}
use Rattle.mad_md.specs.Parts.{AreParts, line_spans, line_text}
use Rattle.mad_md.specs.Tables.{plain_text}
use Rattle.mad_md.specs.declared.compound.Compound.{Compound}
use Rattle.mad_measure.specs.TextColumns.{columns}
use Rattle.mad_measure.specs.declared.tokens.Token.{Token}
use Rattle.mad_wrap.specs.Breaks.{LineAndGap, TrimmingBreak}
use Rattle.mad_wrap.specs.CleanCut.{AreTexts}
use Rattle.mad_wrap.specs.Keeps.{Keeps}
use Rattle.mad_wrap.specs.LeastWrap.{AreTokensIn, IsWrap}
use Rattle.mad_wrap.specs.declared.room.Room.{Room}
use Rattle.mad_format.specs.Lists.{EachBecomes}

-- the room of lines without indents
abbrev pub plain_room : ℕ → Room
plain_room width = record { first = 0; other = 0; width = width; whole_words = false }

-- The lines are a plain text's line, wrapped at a width. It is read as the compound `source`, without flags.
pub record IsPlainWrap (width : ℕ) (line : List ℕ) (lines : List (List ℕ)) : Type 0 where
  pub source : Compound
  pub plain : run_of source ≡ record { flags = unflagged; text = line }
  -- no character is lost but whitespace between lines and after the last
  pub keeps : Keeps (plain_text line) (map plain_text lines)
  -- each line fits, where each character does
  pub fits : AllByRecursion (λ c. char_columns c ≤ width) (chars line) → AllByRecursion (λ l. columns (chars l) ≤ width) lines
  -- no fitting break has fewer lines, whether blanks are dropped after its last line or not
  pub least : (ts : List Token) → AreTokensIn (plain_room width) (source ∷ []) ts → (breaks : List (LineAndGap Token)) → TrimmingBreak (plain_room width) ts breaks → length lines ≤ length breaks
  -- a line that fits stays
  pub stays : columns (chars line) ≤ width → lines ≡ line ∷ []
  -- any other is wrapped as the one compound
  pub wrapped : width < columns (chars line) → (wrap : List (List Compound)) × IsWrap (plain_room width) (source ∷ []) wrap × (map flagged_text wrap ≡ map plain_text lines)

-- The lines are a plain text wrapped at a width: it is cut into lines, and each of them is wrapped by itself.
pub record IsTextWrap (width : ℕ) (text : List ℕ) (lines : List (List ℕ)) : Type 0 where
  pub parts : List (List ℕ)
  pub cut : AreParts text parts
  pub each : EachBecomes (λ span. IsPlainWrap width (line_text text span)) (line_spans parts) lines

-- ---- lines as slices of a text

-- the characters of compounds in a row
abbrev pub chars_of : List Compound → List ℕ
chars_of ps = flat_map (λ p. chars p.src.now) ps

-- Each line is a front of what is left of the text; then the whitespace after it is dropped.
abbrev pub AreFronts : List ℕ → List (List Compound) → Type 0
AreFronts text [] = Unit {0}
AreFronts text (line ∷ lines) = AreTexts line × ((rest : List ℕ) × (text ≡ chars_of line ++ rest) × AreFronts (skip_leading_whitespace rest) lines)

-- a front of the text are the characters of these compounds
pub record IsFront (text : List ℕ) (ps : List Compound) : Type 0 where
  pub texts : AreTexts ps
  pub rest : List ℕ
  pub parts : text ≡ chars_of ps ++ rest
