-- Items of lists.
use Rattle.std.specs.Prelude.{◌≡◌, ℕ, ◌+◌, ◌<◌, ◌≤◌, Bool, true, false, not, ◌||◌, ◌&&◌, ◌==◌, nat_le, List, [], ◌∷◌, ◌++◌, map, length, drop, replicate, Some}
use Rattle.std.specs.List.{list_all}
use Rattle.markdown_marks.specs.Bytes.{is_blank}
use Rattle.markdown_marks.specs.Items.{marker_start}
use Rattle.markdown_marks.specs.Marks.{is_rule}
use Rattle.markdown_marks.specs.Remaining.{whole, columns_in_front}
use Rattle.markdown_marks.specs.declared.items.Marker.{Marker}
use Rattle.markdown_blocks.specs.Lines.{text_lines}
use Rattle.markdown_blocks.specs.declared.containers.Container.TheVariants.{Item}
use Rattle.markdown_leaves.specs.Parts.{BlockContent, PartContent, begins, ends, block}
use Rattle.markdown_leaves.specs.Told.{parts_of}
use Rattle.markdown_laws.specs.Fences.{BeginsCode, IsCode, is_inside}
use Rattle.markdown_laws.specs.Quotes.{has_no_tab, has_room, spelled}

-- A line begins an item: at most three spaces, a marker, one to four spaces, and then the first line that the item holds, which begins with no space.
-- The line is no thematic break.
pub record BeginsItem (line held : List ℕ) (marker : Marker) (content : ℕ) : Type 0 where
  pub indent : ℕ
  pub few : indent < 4
  pub bytes : List ℕ
  pub whole : line ≡ replicate indent 32 ++ bytes
  pub start : marker_start bytes ≡ Some marker
  pub no_break : is_rule bytes ≡ false
  pub gap : ℕ
  pub some : 0 < gap
  pub most : gap ≤ 4
  pub behind : drop marker.length bytes ≡ replicate gap 32 ++ held
  pub column : content ≡ indent + marker.length + gap

-- A further line of an item is indented by as many spaces as its content, or by fewer where nothing follows them.
pub record IsIndented (content : ℕ) (line held : List ℕ) : Type 0 where
  pub spaces : ℕ
  pub enough : ((spaces == content) || ((length held == 0) && nat_le spaces content)) ≡ true
  pub whole : line ≡ replicate spaces 32 ++ held

-- as many lines as the item holds
abbrev pub AreIndented : ℕ → (lines held : List (List ℕ)) → Type 0
AreIndented content [] [] = Unit {0}
AreIndented content (line ∷ lines) (one ∷ held) = IsIndented content line one × AreIndented content lines held
AreIndented content _ _ = ⊥

-- the line has a byte besides spaces and signs > of quotes, and begins with no space
abbrev pub begins_text : List ℕ → Bool
begins_text [] = false
begins_text (b ∷ bs) = not (b == 32) && not (list_all (λ c. (c == 62) || (c == 32)) (b ∷ bs))

-- A text of a line with a marker, and of lines that are indented as what follows it, is an item, which holds what the lines without the marker and the indent are.
-- They have no tabs, and 63 containers at most are in it.
abbrev pub ItemHoldsItsLines : Type 0
ItemHoldsItsLines = (text held first one : List ℕ) (lines others : List (List ℕ)) (marker : Marker) (content : ℕ)
    → text_lines text ≡ first ∷ lines → text_lines held ≡ one ∷ others → BeginsItem first one marker content → AreIndented content lines others
    → begins_text one ≡ true → list_all has_no_tab (text_lines held) ≡ true → has_room 63 (parts_of held) ≡ true
    → map spelled (parts_of text) ≡ begins (Item marker.sign marker.number content) false ∷ (map spelled (parts_of held) ++ ends ∷ [])

-- there is no further line, or one that isn't blank and that is indented by less than the content of the item
abbrev pub begins_less : ℕ → List (List ℕ) → Bool
begins_less content [] = true
begins_less content (line ∷ lines) = not (is_blank line) && not (columns_in_front content (whole line) == content)

-- Code that begins an item, and that no line closes, ends with the item. What comes after is read as a text of its own.
abbrev pub FenceEndsWithItsItem : Type 0
FenceEndsWithItsItem = (text after first one fence : List ℕ) (lines others : List (List ℕ)) (marker : Marker) (content sign length : ℕ)
    → text_lines text ≡ first ∷ (lines ++ text_lines after) → BeginsItem first one marker content → AreIndented content lines others
    → begins_text one ≡ true → list_all has_no_tab (one ∷ others) ≡ true
    → BeginsCode one 0 sign length fence → list_all (is_inside sign length) others ≡ true → begins_less content (text_lines after) ≡ true
    → (code : BlockContent) × IsCode code (drop length fence) 0 others
    × (map spelled (parts_of text) ≡ begins (Item marker.sign marker.number content) false ∷ spelled (block code) ∷ ends ∷ map spelled (parts_of after))
