-- What a crop writer writes of what it is given, and how many of its columns it takes off for it.
use Rattle.std.specs.Prelude.{◌≡◌, ◌⊎◌, ℕ, zero, suc, ◌+◌, ◌-◌, ◌<◌, ◌≤◌, ◌==◌, min, List, [], ◌∷◌, ◌++◌, length, take, replicate, Option, Some, None, IsNone, Result, Ok, Err, IsOk, IsErrOf, encode_utf8_all, if◌then◌else◌}
use Rattle.std.specs.List.{AllByRecursion}
use Rattle.mad_characters.specs.Columns.{char_columns}
use Rattle.mad_term.specs.declared.errors.Error.{Error}
use Rattle.mad_term.specs.declared.errors.Error.TheVariants.{IO, InsufficientWidth, Memory}
use Rattle.mad_term.specs.Draws.{Draws}
use Rattle.mad_term.specs.Styles.{piece_bytes}
use Rattle.mad_term.specs.Trace.{Trace}
use Rattle.mad_style.specs.declared.compound_styles.CompoundStyle.{CompoundStyle}
use Rattle.mad_style.specs.declared.styled_chars.StyledChar.{StyledChar}
use Rattle.mad_measure.specs.RunningWidths.{IsLongestFront, tabs_replaced, running_width, backward}
use Rattle.mad_measure.specs.TextColumns.{columns}
use Rattle.mad_draw.specs.Fillings.{filling_pieces}
use Rattle.mad_draw.specs.Pieces.{pieces_bytes}

-- what a tab is written as where nothing else is asked for: two spaces
abbrev pub default_tab : List ℕ
default_tab = 32 ∷ 32 ∷ []

-- what a crop writer is given: characters that are measured in columns, one character, characters that are counted, a character so many
-- times
pub data Given : Type 0 where
  Text : List ℕ → Given
  Char : ℕ → Given
  Counted : List ℕ → Given
  Filled : ℕ → ℕ → Given

-- ---- what is kept

-- what a crop writer writes, if it writes, and the columns that it takes off for it
pub record Crop : Type 0 where
  pub written : Option (List ℕ)
  pub taken : ℕ

-- nothing is written
abbrev pub nothing : Crop
nothing = record { written = None; taken = 0 }

-- these characters are written, for so many columns
abbrev pub some : List ℕ → ℕ → Crop
some cs taken = record { written = Some cs; taken = taken }

-- a character `n` times, each for a column; nothing of none
abbrev pub filled : ℕ → ℕ → Crop
filled c zero = nothing
filled c (suc n) = some (replicate (suc n) c) (suc n)

-- What is kept where so many columns are left. Of a text the longest front that stays within them, its tabs replaced. A character that
-- leaves a column over. Of counted characters the first ones, each for a column. With no column left nothing is written.
abbrev pub IsKept : ℕ → Given → Crop → Type 0
IsKept allowed (Text cs) crop =
    (allowed ≡ 0 → crop ≡ nothing)
    × (0 < allowed → (front : List ℕ) × IsLongestFront allowed front cs × (crop ≡ some (tabs_replaced front) (running_width front)))
IsKept allowed (Char c) crop = (char_columns c < allowed → crop ≡ some (c ∷ []) (char_columns c)) × (allowed ≤ char_columns c → crop ≡ nothing)
IsKept allowed (Counted cs) crop =
    (allowed ≡ 0 → crop ≡ nothing) × (0 < allowed → crop ≡ some (take allowed cs) (min allowed (length cs)))
IsKept allowed (Filled c n) crop = crop ≡ filled c (min n allowed)

-- ---- what a call does

-- the bytes of characters without style, and of characters in a style, as one piece
abbrev pub unstyled_bytes : List ℕ → List ℕ
unstyled_bytes cs = encode_utf8_all cs

-- the bytes of characters in a style, as one piece
abbrev pub styled_bytes : CompoundStyle → List ℕ → List ℕ
styled_bytes style cs = piece_bytes style.object_style (encode_utf8_all cs)

-- the bytes of as many characters, all of them this one in its style, in pieces of at most 1000
abbrev pub filled_bytes : StyledChar → List ℕ → List ℕ
filled_bytes c cs = pieces_bytes (filling_pieces c (length cs))

-- the bytes of what is written
abbrev pub written_bytes : (List ℕ → List ℕ) → Option (List ℕ) → List ℕ
written_bytes bytes None = []
written_bytes bytes (Some cs) = bytes cs

-- a command's bytes: none where no column is left
abbrev pub unless_full : ℕ → List ℕ → List ℕ
unless_full allowed bytes = if allowed == 0 then [] else bytes

-- the columns that are left where the call is refused by this error: out of memory takes none off
abbrev pub left_at : Error → ℕ → ℕ → ℕ
left_at Memory allowed taken = allowed
left_at (IO e) allowed taken = allowed - taken
left_at (InsufficientWidth e) allowed taken = allowed - taken

-- the columns that are left after a call that was to take some off
abbrev pub left_after : {T : Type 0} → Result T Error → ℕ → ℕ → ℕ
left_after (Ok x) allowed taken = allowed - taken
left_after (Err e) allowed taken = left_at e allowed taken

-- What a call does: the bytes of what is kept go out. It succeeds where nothing is. Out of memory comes before any did, and takes nothing
-- off.
pub record Crops {T : Type 0} (bytes : List ℕ → List ℕ) (given : Given) (old : Trace) (allowed : ℕ) (r : Result T Error) (new : Trace) (left : ℕ) : Type 0 where
  pub crop : Crop
  pub kept : IsKept allowed given crop
  pub draws : Draws old (written_bytes bytes crop.written) r new
  pub succeeds : IsNone crop.written → IsOk r
  pub leaves : left ≡ left_after r allowed crop.taken
  pub early : IsErrOf r Memory → new ≡ old

-- ---- never more columns than the limit

-- No backspace is in its text, and each character that is counted takes as many columns as P says.
abbrev pub IsMeasured : (ℕ → Type 0) → Given → Type 0
IsMeasured P (Text cs) = backward cs ≡ 0
IsMeasured P (Char c) = Unit {0}
IsMeasured P (Counted cs) = AllByRecursion P cs
IsMeasured P (Filled c n) = P c

-- the characters that were written
abbrev pub written_chars : Option (List ℕ) → List ℕ
written_chars None = []
written_chars (Some cs) = cs

-- Given all this in order, with so many columns allowed at first, these characters are written and so many columns are left. Of a call that
-- is out of memory nothing is.
abbrev pub AreKept : ℕ → List Given → List ℕ → ℕ → Type 0
AreKept allowed [] cs left = (cs ≡ []) × (left ≡ allowed)
AreKept allowed (given ∷ others) cs left =
    (crop : Crop) × (rest : List ℕ) × (IsKept allowed given crop ⊎ (crop ≡ nothing)) × (cs ≡ written_chars crop.written ++ rest)
    × AreKept (allowed - crop.taken) others rest left

-- Whatever a crop writer is given, in any order, it never writes more columns in all than it was allowed, where no text has a backspace and
-- each character that is counted takes one column at most. Where each takes one column, what it wrote and what is left are together just
-- what it was allowed.
pub record KeepsTheLimit : Type 0 where
  pub at_most : (limit : ℕ) (given : List Given) (cs : List ℕ) (left : ℕ) → AllByRecursion (IsMeasured (λ c. char_columns c ≤ 1)) given → AreKept limit given cs left
      → columns cs + left ≤ limit
  pub exactly : (limit : ℕ) (given : List Given) (cs : List ℕ) (left : ℕ) → AllByRecursion (IsMeasured (λ c. char_columns c ≡ 1)) given → AreKept limit given cs left
      → columns cs + left ≡ limit
