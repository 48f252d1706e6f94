-- Rows of composites that were read, written without a layout in between.
use Rattle.std.specs.Str.{bytes_eq}
use Rattle.std.specs.Prelude.{◌≡◌, ℕ, Bool, true, false, List, [], ◌∷◌, ◌++◌, Some}
use Rattle.mad_md.specs.Flagged.{Run, flags_of, run_of}
use Rattle.mad_md.specs.Lines.{StyledRuns}
use Rattle.mad_md.specs.declared.compound.Compound.{Compound}
use Rattle.mad_style.specs.declared.line_styles.LineStyle.{LineStyle}
use Rattle.mad_style.specs.StyledChars.{char_style}
use Rattle.mad_term.specs.Styles.{IsUnstyled, piece_bytes}
use Rattle.mad_measure.specs.Tokens.{token_run, AreTokensOf}
use Rattle.mad_measure.specs.declared.tokens.Token.{Token}
use Rattle.mad_wrap.specs.Rooms.{token_limit}
use Rattle.mad_wrap.specs.Writings.{AreRows}
use Rattle.mad_wrap.specs.declared.room.Room.{Room}
use Rattle.mad_draw.specs.Pieces.{pieces_bytes, spaces}
use Rattle.mad_format.specs.FmtLines.{IsCompositeRead}
use Rattle.mad_format.specs.Indents.{follow_up}
use Rattle.mad_format.specs.WrappedLines.{IsWrapped}
use Rattle.mad_format.specs.declared.composite.FmtComposite.{FmtComposite}
use Rattle.mad_format.specs.declared.line.FmtLine.{FmtLine}
use Rattle.mad_rows.specs.RowStyles.{ellipsis_bytes, line_rules}
use Rattle.mad_rows.specs.Rows.{run_piece, prefix_pieces, text_bytes}
use Rattle.mad_rows.specs.declared.composites.CompositeFront.{CompositeFront}
use Rattle.mad_rows.specs.declared.row_skin.RowSkin.{RowSkin}

-- what is written of a text with flags, in a line of this style
abbrev pub run_bytes : RowSkin → LineStyle → Run → List ℕ
run_bytes skin style p = piece_bytes (run_piece skin style p).style (run_piece skin style p).text

-- and of a token
abbrev pub token_bytes : RowSkin → LineStyle → Token → List ℕ
token_bytes skin style t = run_bytes skin style (token_run t)

-- what is in front of a row's text
abbrev pub front_bytes : CompositeFront → List ℕ
front_bytes c = pieces_bytes (spaces c.skin.now.paragraph.compound_style c.outer ++ (spaces c.style.now.compound_style c.inner ++ prefix_pieces c.skin.now c.kind))

-- what is in front of the rows after the first
abbrev pub later_front : CompositeFront → CompositeFront
later_front c = record c { kind = follow_up c.kind }

-- bullets, and the spaces beside them, have no style
pub record HasPlainMarks (skin : RowSkin) : Type 0 where
  pub spaces : IsUnstyled skin.paragraph.compound_style.object_style
  pub bullet : IsUnstyled (char_style skin.bullet).object_style

-- each part of the compound is written as it is, in a line of this style
abbrev pub IsPlainIn : RowSkin → LineStyle → Compound → Type 0
IsPlainIn skin style p = (text : List ℕ) → run_bytes skin style (record { flags = flags_of p; text = text }) ≡ text

-- The compound, if it isn't an ellipsis, is written between these commands.
abbrev pub IsBetween : RowSkin → LineStyle → List ℕ → List ℕ → Compound → Type 0
IsBetween skin style open_bytes close_bytes p = bytes_eq p.src.now ellipsis_bytes ≡ false → run_bytes skin style (run_of p) ≡ open_bytes ++ (p.src.now ++ close_bytes)

-- After the bytes that were there come the rows of the compounds' tokens by first fit: what is in front of the first, the rows, a newline.
pub record WritesWrap (front : CompositeFront) (r : Room) (ps : List Compound) (old new : List ℕ) : Type 0 where
  pub tokens : List Token
  pub cut : AreTokensOf (token_limit r) ps tokens
  pub out : List ℕ
  pub rows : AreRows (token_bytes front.skin.now front.style.now) (front_bytes (later_front front)) r tokens out
  pub bytes : new ≡ old ++ (front_bytes front ++ (out ++ 10 ∷ []))

-- After the bytes that were there come the rows of the lines that a composite becomes which says this.
abbrev pub PutsRead : RowSkin → ℕ → StyledRuns → List ℕ → List ℕ → Type 0
PutsRead skin width said old new =
    (source : FmtComposite) × IsCompositeRead (line_rules skin) said source × (own : List FmtLine) × (new ≡ old ++ text_bytes skin (Some width) own) × IsWrapped (line_rules skin) width source own

-- so they do, or nothing was put
abbrev pub PutsReadOrNone : RowSkin → ℕ → StyledRuns → List ℕ → Bool → List ℕ → Type 0
PutsReadOrNone skin width said old true new = PutsRead skin width said old new
PutsReadOrNone skin width said old false new = new ≡ old
