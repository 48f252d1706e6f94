-- Where an item ends.
use Rattle.std.specs.Prelude.{◌≡◌, ◌⊎◌, ℕ, ◌<◌, true, false, List, [], ◌∷◌, ◌++◌, map, replicate}
use Rattle.std.specs.List.{list_all}
use Rattle.markdown_marks.specs.declared.items.Marker.{Marker}
use Rattle.markdown_blocks.specs.Lines.{text_lines}
use Rattle.markdown_blocks.specs.declared.containers.Container.TheVariants.{Item}
use Rattle.markdown_leaves.specs.Parts.{PartContent, begins, ends}
use Rattle.markdown_leaves.specs.Told.{parts_of}
use Rattle.markdown_laws.specs.Items.{AreIndented, BeginsItem, begins_text}
use Rattle.markdown_laws.specs.Quotes.{has_no_tab, has_room, spelled}
use Rattle.markdown_sign_laws.specs.Ends.{EndsBlank, EndsInBlock}
use Rattle.markdown_sign_laws.specs.Words.{is_space_or_tab}

-- a line is fewer spaces than so many, and then a byte that is no blank
pub record IsLess (content : ℕ) (line : List ℕ) : Type 0 where
  pub spaces : ℕ
  pub fewer : spaces < content
  pub byte : ℕ
  pub solid : is_space_or_tab byte ≡ false
  pub behind : List ℕ
  pub whole : line ≡ replicate spaces 32 ++ byte ∷ behind

-- there is no further line, or one that is so
abbrev pub BeginsLess : ℕ → List (List ℕ) → Type 0
BeginsLess content [] = Unit {0}
BeginsLess content (line ∷ lines) = IsLess content line

-- an item that holds these parts, and then those of a text
abbrev pub item_then : (marker : Marker) (content : ℕ) (inner : List PartContent) (after : List ℕ) → List PartContent
item_then marker content inner after = begins (Item marker.sign marker.number content) false ∷ (inner ++ ends ∷ map spelled (parts_of after))

-- An item whose last line is blank ends at a line that is indented by less than its content. What comes after is read as a text of its own with an empty line
-- in front, or without one, as where the blank line is a line of code.
abbrev pub ItemEndsAtLess : Type 0
ItemEndsAtLess = (text held after first one : List ℕ) (lines others : List (List ℕ)) (marker : Marker) (content : ℕ)
    → text_lines text ≡ first ∷ (lines ++ text_lines after) → text_lines held ≡ one ∷ others → BeginsItem first one marker content → AreIndented content lines others
    → begins_text one ≡ true → list_all has_no_tab (text_lines held) ≡ true → has_room 63 (parts_of held) ≡ true → EndsBlank (text_lines held) → BeginsLess content (text_lines after)
    → (map spelled (parts_of text) ≡ item_then marker content (map spelled (parts_of held)) (10 ∷ after)) ⊎ (map spelled (parts_of text) ≡ item_then marker content (map spelled (parts_of held)) after)

-- So it is where the last leaf that the item holds is no paragraph.
abbrev pub ItemEndsBehindBlock : Type 0
ItemEndsBehindBlock = (text held after first one : List ℕ) (lines others : List (List ℕ)) (marker : Marker) (content : ℕ)
    → text_lines text ≡ first ∷ (lines ++ text_lines after) → text_lines held ≡ one ∷ others → BeginsItem first one marker content → AreIndented content lines others
    → begins_text one ≡ true → list_all has_no_tab (text_lines held) ≡ true → has_room 63 (parts_of held) ≡ true → EndsInBlock (parts_of held) → BeginsLess content (text_lines after)
    → (map spelled (parts_of text) ≡ item_then marker content (map spelled (parts_of held)) (10 ∷ after)) ⊎ (map spelled (parts_of text) ≡ item_then marker content (map spelled (parts_of held)) after)
