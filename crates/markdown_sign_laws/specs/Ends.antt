-- Where a quote ends.
use Rattle.std.specs.Prelude.{◌≡◌, ℕ, Bool, true, false, ◌==◌, List, [], ◌∷◌, ◌++◌, map, length, replicate}
use Rattle.std.specs.List.{list_all}
use Rattle.markdown_blocks.specs.Lines.{text_lines}
use Rattle.markdown_blocks.specs.declared.containers.Container.TheVariants.{Quote}
use Rattle.markdown_leaves.specs.Parts.{BlockContent, PartContent, begins, ends, block}
use Rattle.markdown_leaves.specs.Told.{parts_of}
use Rattle.markdown_leaves.specs.declared.parts.Kind.{Kind}
use Rattle.markdown_leaves.specs.declared.parts.Kind.TheVariants.{Paragraph, Definitions}
use Rattle.markdown_laws.specs.Quotes.{AreQuoted, has_no_tab, has_room, spelled}
use Rattle.markdown_sign_laws.specs.QuoteSigns.{HasQuoteSign}
use Rattle.markdown_sign_laws.specs.Words.{are_blanks}

-- there is no further line, or one of blanks alone
abbrev pub begins_blank : List (List ℕ) → Bool
begins_blank [] = true
begins_blank (line ∷ lines) = are_blanks line

-- The first lines of a text each have a sign > in front, and behind them is no line or a blank one. They are a quote, which holds what they are without the
-- signs. What comes after is read as a text of its own.
abbrev pub QuoteEndsAtBlank : Type 0
QuoteEndsAtBlank = (text held after : List ℕ) (quoted : List (List ℕ)) → text_lines text ≡ quoted ++ text_lines after
    → AreQuoted quoted (text_lines held) → (length held == 0) ≡ false → list_all has_no_tab (text_lines held) ≡ true → has_room 63 (parts_of held) ≡ true → begins_blank (text_lines after) ≡ true
    → map spelled (parts_of text) ≡ begins Quote false ∷ (map spelled (parts_of held) ++ ends ∷ map spelled (parts_of after))

-- the last of some lines is one of blanks alone
pub record EndsBlank (lines : List (List ℕ)) : Type 0 where
  pub before : List (List ℕ)
  pub last : List ℕ
  pub blank : are_blanks last ≡ true
  pub whole : lines ≡ before ++ last ∷ []

-- there is no further line, or one without the sign > of a quote
abbrev pub BeginsUnsigned : List (List ℕ) → Type 0
BeginsUnsigned [] = Unit {0}
BeginsUnsigned (line ∷ lines) = HasQuoteSign line → ⊥

-- So it is where the last line that the quote holds is blank, and behind the quote is no line or one without the sign.
abbrev pub QuoteEndsBehindBlank : Type 0
QuoteEndsBehindBlank = (text held after : List ℕ) (quoted : List (List ℕ)) → text_lines text ≡ quoted ++ text_lines after
    → AreQuoted quoted (text_lines held) → (length held == 0) ≡ false → list_all has_no_tab (text_lines held) ≡ true → has_room 63 (parts_of held) ≡ true
    → EndsBlank (text_lines held) → BeginsUnsigned (text_lines after)
    → map spelled (parts_of text) ≡ begins Quote false ∷ (map spelled (parts_of held) ++ ends ∷ map spelled (parts_of after))

-- a paragraph, or the definitions of links at the begin of one
abbrev pub is_words : Kind → Bool
is_words Paragraph = true
is_words Definitions = true
is_words _ = false

-- The last of some parts, but for the ends of containers, is a leaf that is neither: code, html, a table, a heading or a rule.
pub record EndsInBlock (parts : List PartContent) : Type 0 where
  pub before : List PartContent
  pub leaf : BlockContent
  pub count : ℕ
  pub no_words : is_words leaf.kind ≡ false
  pub whole : parts ≡ before ++ block leaf ∷ replicate count ends

-- So it is where the last leaf that the quote holds is no paragraph, though code may be open in it.
abbrev pub QuoteEndsBehindBlock : Type 0
QuoteEndsBehindBlock = (text held after : List ℕ) (quoted : List (List ℕ)) → text_lines text ≡ quoted ++ text_lines after
    → AreQuoted quoted (text_lines held) → (length held == 0) ≡ false → list_all has_no_tab (text_lines held) ≡ true → has_room 63 (parts_of held) ≡ true
    → EndsInBlock (parts_of held) → BeginsUnsigned (text_lines after)
    → map spelled (parts_of text) ≡ begins Quote false ∷ (map spelled (parts_of held) ++ ends ∷ map spelled (parts_of after))
