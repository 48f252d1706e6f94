-- All lines of a text, and the signs in front of them.
use Rattle.std.specs.Prelude.{◌≡◌, ◌⊎◌, ℕ, ◌≤◌, Bool, true, false, not, ◌||◌, ◌==◌, List, [], ◌∷◌, ◌++◌, map, length, replicate, Option, Some, None, is_some}
use Rattle.markdown_marks.specs.Remaining.{Remaining}
use Rattle.markdown_marks.specs.declared.items.Marker.{Marker}
use Rattle.markdown_blocks.specs.Lines.{text_lines}
use Rattle.markdown_leaves.specs.Parts.{PartContent, begins, ends, block}
use Rattle.markdown_leaves.specs.Told.{parts_of}
use Rattle.markdown_leaves.specs.declared.parts.Kind.{Kind}
use Rattle.markdown_leaves.specs.declared.parts.Kind.TheVariants.{Heading, Fenced}
use Rattle.markdown_sign_laws.specs.Fences.{IsFence}
use Rattle.markdown_sign_laws.specs.Headings.{IsHeading}
use Rattle.markdown_sign_laws.specs.Markers.{IsBullet, IsNumber}
use Rattle.markdown_sign_laws.specs.Underlines.{IsUnderline}
use Rattle.markdown_sign_laws.specs.Words.{is_space_or_tab, are_blanks}

-- ---- signs of containers

-- a blank, or the sign > of a quote
abbrev pub is_quote_or_blank : ℕ → Bool
is_quote_or_blank b = is_space_or_tab b || (b == 62)

-- bytes are the marker of an item, and then these
pub record IsMarker (bytes behind : List ℕ) : Type 0 where
  pub marker : Marker
  pub said : IsBullet marker bytes ⊎ IsNumber marker bytes
  pub sign : List ℕ
  pub long : length sign ≡ marker.length
  pub whole : bytes ≡ sign ++ behind

-- Bytes are one sign, and then others: a blank, the sign > of a quote, or the marker of an item where one may begin.
abbrev pub IsOneSign : (begun : Bool) → (bytes behind : List ℕ) → Type 0
IsOneSign begun bytes behind = ((sign : ℕ) × (is_quote_or_blank sign ≡ true) × (bytes ≡ sign ∷ behind)) ⊎ ((begun ≡ true) × IsMarker bytes behind)

-- Bytes are signs, one after the other, and then others: each of these lists is what is left behind one more sign.
abbrev pub AreSigns : (begun : Bool) → (bytes : List ℕ) → List (List ℕ) → (behind : List ℕ) → Type 0
AreSigns begun bytes [] behind = bytes ≡ behind
AreSigns begun bytes (rest ∷ others) behind = IsOneSign begun bytes rest × AreSigns begun rest others behind

-- a line is signs of quotes and items, if items may begin in it, and then these bytes
pub record IsBehindSigns (begun : Bool) (line behind : List ℕ) : Type 0 where
  pub rests : List (List ℕ)
  pub signs : AreSigns begun line rests behind

-- ---- lines that are told

-- a line that is told: whether it is the first one of a leaf, and of which kind that is; and its text
pub record ToldLine : Type 0 where
  pub first : Option Kind
  pub text : List ℕ

-- bytes are a text with blanks at both ends
pub record IsBetweenBlanks (bytes text : List ℕ) : Type 0 where
  pub front : List ℕ
  pub back : List ℕ
  pub blank_front : are_blanks front ≡ true
  pub blank_back : are_blanks back ≡ true
  pub whole : bytes ≡ front ++ (text ++ back)

-- What is behind the signs of a heading is its text with blanks at both ends, or with signs # behind these, which close it: a blank is before them, or there
-- is no text.
pub record HasHeadingText (bytes text : List ℕ) : Type 0 where
  pub inner : List ℕ
  pub between : IsBetweenBlanks inner text
  pub closing : List ℕ
  pub closed : (closing ≡ []) ⊎ ((count : ℕ) × (blanks : List ℕ) × (are_blanks blanks ≡ true) × (closing ≡ replicate count 35 ++ blanks) × (((length text == 0) || not (length between.back == 0)) ≡ true))
  pub whole : bytes ≡ inner ++ closing

-- Bytes are the sign of a leaf of this kind and its first text: the signs # of a heading, as many as its level, or a fence and its info.
abbrev pub HasOwnSign : Kind → (bytes text : List ℕ) → Type 0
HasOwnSign (Heading level) bytes text = (h : IsHeading level bytes) × HasHeadingText h.behind text
HasOwnSign Fenced bytes text = (sign : ℕ) × (length : ℕ) × (f : IsFence sign length bytes) × IsBetweenBlanks f.info text
HasOwnSign _ bytes text = ⊥

-- only the first line of a leaf has its sign
abbrev pub HasSignOf : Option Kind → (bytes text : List ℕ) → Type 0
HasSignOf None bytes text = ⊥
HasSignOf (Some kind) bytes text = HasOwnSign kind bytes text

-- A line is told so: behind the signs of its containers, and behind that of its leaf where it is the first one of this. Items begin in such a line alone.
pub record IsToldSo (line : List ℕ) (told : ToldLine) : Type 0 where
  pub behind : List ℕ
  pub front : IsBehindSigns (is_some told.first) line behind
  pub own : (behind ≡ told.text) ⊎ HasSignOf told.first behind told.text

-- Bytes are the end of a fence: three or more of one of its signs, and then blanks alone.
pub record IsFenceEnd (bytes : List ℕ) : Type 0 where
  pub sign : ℕ
  pub of_sign : (sign ≡ 96) ⊎ (sign ≡ 126)
  pub count : ℕ
  pub enough : 3 ≤ count
  pub blanks : List ℕ
  pub blank : are_blanks blanks ≡ true
  pub whole : bytes ≡ replicate count sign ++ blanks

-- A line that is told as none has nothing behind its signs. Or it has the end of a fence, or what underlines a heading; then no item begins in it.
pub record HasNoText (line : List ℕ) : Type 0 where
  pub begun : Bool
  pub behind : List ℕ
  pub front : IsBehindSigns begun line behind
  pub none : (are_blanks behind ≡ true) ⊎ ((begun ≡ false) × (IsFenceEnd behind ⊎ (IsUnderline 61 behind ⊎ IsUnderline 45 behind)))

-- lines are told one after the other, or have no text
abbrev pub AreToldSo : List (List ℕ) → List ToldLine → Type 0
AreToldSo [] [] = Unit {0}
AreToldSo [] (one ∷ told) = ⊥
AreToldSo (line ∷ lines) [] = HasNoText line × AreToldSo lines []
AreToldSo (line ∷ lines) (one ∷ told) = (HasNoText line × AreToldSo lines (one ∷ told)) ⊎ (IsToldSo line one × AreToldSo lines told)

-- ---- the lines of parts

-- the bytes of a line that isn't the first of its leaf
abbrev pub further : Remaining → ToldLine
further line = record { first = None; text = line.bytes }

-- the lines of a leaf
abbrev pub leaf_lines : Kind → List Remaining → List ToldLine
leaf_lines kind [] = []
leaf_lines kind (line ∷ lines) = record { first = Some kind; text = line.bytes } ∷ map further lines

-- the lines of all leaves
abbrev pub all_told : List PartContent → List ToldLine
all_told [] = []
all_told (begins container apart ∷ parts) = all_told parts
all_told (ends ∷ parts) = all_told parts
all_told (block leaf ∷ parts) = leaf_lines leaf.kind leaf.lines ++ all_told parts

-- The parts of a text tell all its lines in their order, each once, but for those that have no text. In front of what is told of a line are signs, and
-- behind it nothing but the end of a heading, or blanks behind the info of a fence.
abbrev pub AllLinesAreTold : Type 0
AllLinesAreTold = (text : List ℕ) → AreToldSo (text_lines text) (all_told (parts_of text))
