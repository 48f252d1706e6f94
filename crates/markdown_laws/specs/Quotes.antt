-- Block quotes.
use Rattle.std.specs.Prelude.{◌≡◌, ℕ, zero, suc, ◌<◌, Bool, true, false, not, ◌||◌, ◌==◌, List, [], ◌∷◌, ◌++◌, map, length, drop, replicate, is_none, if◌then◌else◌}
use Rattle.std.specs.List.{list_all}
use Rattle.markdown_marks.specs.Bytes.{first}
use Rattle.markdown_marks.specs.Remaining.{Remaining, whole}
use Rattle.markdown_blocks.specs.Containers.{goes_on}
use Rattle.markdown_blocks.specs.Lines.{text_lines}
use Rattle.markdown_blocks.specs.declared.containers.Container.TheVariants.{Quote}
use Rattle.markdown_leaves.specs.Parts.{BlockContent, PartContent, begins, ends, block}
use Rattle.markdown_leaves.specs.Told.{parts_of}
use Rattle.markdown_laws.specs.Fences.{BeginsCode, IsCode, is_inside, text_of}

-- no byte of the line is a tab
abbrev pub has_no_tab : List ℕ → Bool
has_no_tab line = list_all (λ b. not (b == 9)) line

-- the sign > of a quote, with the space that follows it or without one
abbrev pub quote_sign : Bool → List ℕ
quote_sign spaced = if spaced then 62 ∷ 32 ∷ [] else 62 ∷ []

-- A line of a quote: at most three spaces, the sign > and a space that follows it, or the sign > and no space that follows it. Then comes the line
-- that the quote holds.
pub record IsQuoted (line held : List ℕ) : Type 0 where
  pub indent : ℕ
  pub few : indent < 4
  pub spaced : Bool
  pub taken : (spaced || not (first held == 32)) ≡ true
  pub whole : line ≡ replicate indent 32 ++ (quote_sign spaced ++ held)

-- as many lines of a quote as it holds
abbrev pub AreQuoted : (lines held : List (List ℕ)) → Type 0
AreQuoted [] [] = Unit {0}
AreQuoted (line ∷ lines) (one ∷ held) = IsQuoted line one × AreQuoted lines held
AreQuoted _ _ = ⊥

-- containers begin one in the other, and never more than so many
abbrev pub has_room : ℕ → List PartContent → Bool
has_room room [] = true
has_room zero (begins container apart ∷ parts) = false
has_room (suc room) (begins container apart ∷ parts) = has_room room parts
has_room room (ends ∷ parts) = has_room (suc room) parts
has_room room (block leaf ∷ parts) = has_room room parts

-- a part with the text of its lines, whatever column they stand at
abbrev pub spelled : PartContent → PartContent
spelled (begins container apart) = begins container apart
spelled ends = ends
spelled (block leaf) = block (record leaf { lines = map (λ (line : Remaining). whole (text_of line)) leaf.lines })

-- A text all of whose lines have a sign > in front is a quote, which holds what the lines without the signs are. They have no tabs, and 63 containers at most are in it.
abbrev pub QuoteHoldsItsLines : Type 0
QuoteHoldsItsLines = (text held : List ℕ)
    → AreQuoted (text_lines text) (text_lines held) → (length held == 0) ≡ false → list_all has_no_tab (text_lines held) ≡ true → has_room 63 (parts_of held) ≡ true
    → map spelled (parts_of text) ≡ begins Quote false ∷ (map spelled (parts_of held) ++ ends ∷ [])

-- there is no further line, or one that has no sign > of a quote in front
abbrev pub begins_outside : List (List ℕ) → Bool
begins_outside [] = true
begins_outside (line ∷ lines) = is_none (goes_on Quote false (whole line))

-- Code that begins a quote, and that no line closes, ends with the quote. What comes after is read as a text of its own.
abbrev pub FenceEndsWithItsQuote : Type 0
FenceEndsWithItsQuote = (text after first fence : List ℕ) (quoted lines : List (List ℕ)) (indent sign length : ℕ)
    → text_lines text ≡ quoted ++ text_lines after → AreQuoted quoted (first ∷ lines) → list_all has_no_tab (first ∷ lines) ≡ true
    → BeginsCode first indent sign length fence → list_all (is_inside sign length) lines ≡ true → begins_outside (text_lines after) ≡ true
    → (code : BlockContent) × IsCode code (drop length fence) indent lines × (map spelled (parts_of text) ≡ begins Quote false ∷ spelled (block code) ∷ ends ∷ map spelled (parts_of after))
