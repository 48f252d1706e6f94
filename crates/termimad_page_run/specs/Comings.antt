-- A text that comes: where it comes from, and what was read of it.
use Rattle.std.specs.Prelude.{◌≡◌, ◌⊎◌, ℕ, ◌==◌, ◌&&◌, ◌||◌, nat_lt, not, Bool, true, false, List, [], ◌∷◌, ◌++◌, length, take, codes, Option, Some, None, if◌then◌else◌}
use Rattle.std.specs.Str.Lossy.{utf8_lossy}
use Rattle.mad_growth.specs.Growth.{AreWholeLines, IsReadOn, IsReadUpTo}
use Rattle.mad_term.specs.Trace.{Trace, ahead_all, failed, IsAtItsEnd}
use Rattle.mad_term.specs.declared.errors.Error.{Error}
use Rattle.mad_term.specs.declared.errors.Error.TheVariants.{IO, InsufficientWidth, Memory}
use Rattle.markdown_lines.specs.Texts.{behind_mark}

-- ---- what is known of it

-- What its two sources have left, the byte of its mark, if that was read, and whether no more comes and all was read.
pub record Arrival : Type 0 where
  pub text : Trace
  pub mark : Trace
  pub ended : Option ℕ
  pub is_whole : Bool

abbrev pub arrival : Trace → Trace → Option ℕ → Bool → Arrival
arrival text mark ended is_whole = record { text = text; mark = mark; ended = ended; is_whole = is_whole }

-- the mark had its byte, or none, as far as it tells that
abbrev pub IsMarkRead : Trace → Option ℕ → Trace → Type 0
IsMarkRead old None new = (new ≡ old) × IsAtItsEnd new
IsMarkRead old (Some byte) new = old ≡ ahead_all (byte ∷ []) new

-- The mark was looked at, unless its byte was read before.
pub record IsLooked (old new : Arrival) : Type 0 where
  pub before : (byte : ℕ) → old.ended ≡ Some byte → new ≡ old
  pub mark : old.ended ≡ None → IsMarkRead old.mark new.ended new.mark
  pub text : new.text ≡ old.text
  pub is_whole : new.is_whole ≡ old.is_whole

-- the mark failed
abbrev pub IsUnlooked : Arrival → Error → Arrival → Type 0
IsUnlooked old (IO e) new = new ≡ record old { mark = failed old.mark }
IsUnlooked old (InsufficientWidth e) new = ⊥
IsUnlooked old Memory new = ⊥

-- ---- reading on

-- whether no more comes and all was read, after so many bytes of a reading: the mark has its byte, and the source had no more; without a reading it stays so
abbrev pub is_whole_after : Option ℕ → Bool → ℕ → ℕ → Bool
is_whole_after None was_whole count most = false
is_whole_after (Some byte) was_whole count most = nat_lt count most || (was_whole && (most == 0))

-- The mark is looked at first. Then what has come since stands behind what is fresh.
pub record IsMore (most : ℕ) (old : Arrival) (fresh : List ℕ) (new : Arrival) (longer : List ℕ) : Type 0 where
  pub mid : Arrival
  pub looked : IsLooked old mid
  pub count : ℕ
  pub read : IsReadOn mid.text fresh most count new.text longer
  pub rest : new ≡ record mid { text = new.text; is_whole = is_whole_after mid.ended mid.is_whole count most }

-- the same up to a fault of the reading
pub record IsReadingCut (old : Arrival) (fresh : List ℕ) (e : Error) (new : Arrival) (longer : List ℕ) : Type 0 where
  pub mid : Arrival
  pub looked : IsLooked old mid
  pub read : IsReadUpTo mid.text fresh e new.text longer
  pub rest : new ≡ record mid { text = new.text }

-- the same up to a fault
abbrev pub IsMoreUpTo : Arrival → List ℕ → Error → Arrival → List ℕ → Type 0
IsMoreUpTo old fresh e new longer = (IsUnlooked old e new × (longer ≡ fresh)) ⊎ IsReadingCut old fresh e new longer

-- ---- what is shown of it

-- so many bytes of it are shown: those in whole lines, or all where no more comes
abbrev pub AreShown : Bool → List ℕ → ℕ → Type 0
AreShown true read count = count ≡ length read
AreShown false read count = AreWholeLines read count

-- the front of what was read that is shown
abbrev pub IsFrontShown : List ℕ → Bool → List ℕ → Type 0
IsFrontShown read is_whole front = (count : ℕ) × AreShown is_whole read count × (front ≡ take count read)

-- the text that bytes are which come: each part that isn't UTF-8 is U+FFFD, and a byte order mark at the front is none of it
abbrev pub text_come : List ℕ → List ℕ
text_come bytes = behind_mark (utf8_lossy bytes)

-- what is said behind the name where a text was cut off, whose mark is `c` (99) then
abbrev pub cut_words : ℕ → List ℕ
cut_words byte = if byte == 99 then codes " (its beginning)" else []

-- what is said where all has come, of which some wasn't read
abbrev pub left_words : Bool → List ℕ
left_words is_whole = if is_whole then [] else codes "  more is there"

-- what is said behind the name
abbrev pub name_suffix : Option ℕ → Bool → List ℕ
name_suffix None is_whole = codes "  more comes"
name_suffix (Some byte) is_whole = cut_words byte ++ left_words is_whole

-- the name with that behind it
abbrev pub name_coming : List ℕ → Option ℕ → Bool → List ℕ
name_coming name ended is_whole = name ++ name_suffix ended is_whole
