-- Plain texts: no line begins with a sign that something else than a paragraph begins with.
use Rattle.std.specs.Prelude.{◌≡◌, ℕ, Bool, true, false, not, ◌||◌, ◌==◌, List, [], ◌∷◌, map}
use Rattle.std.specs.List.{list_all, slice_split}
use Rattle.std.specs.Char.{is_ascii_digit}
use Rattle.markdown_marks.specs.Remaining.{whole}
use Rattle.markdown_blocks.specs.Lines.{text_lines}
use Rattle.markdown_leaves.specs.Parts.{PartContent, block}
use Rattle.markdown_leaves.specs.Told.{parts_of}
use Rattle.markdown_leaves.specs.declared.parts.Kind.TheVariants.{Paragraph}

-- a space, a tab, or one of # * + - : < = > [ _ ` | ~
abbrev pub is_sign : ℕ → Bool
is_sign b =
    (b == 32) || (b == 9) || (b == 35) || (b == 42) || (b == 43) || (b == 45) || (b == 58) || (b == 60) || (b == 61) || (b == 62) || (b == 91)
    || (b == 95) || (b == 96) || (b == 124) || (b == 126)

-- such a sign, or a digit
abbrev pub is_special : ℕ → Bool
is_special b = is_ascii_digit b || is_sign b

-- an empty line, or one that begins with another byte
abbrev pub is_plain : List ℕ → Bool
is_plain [] = true
is_plain (b ∷ bs) = not (is_special b)

-- a line that has no byte
abbrev pub is_empty : List ℕ → Bool
is_empty [] = true
is_empty (b ∷ bs) = false

-- a paragraph that has these lines, behind an empty line or not
abbrev pub paragraph : Bool → List (List ℕ) → PartContent
paragraph apart lines = block (record { kind = Paragraph; apart = apart; lines = map whole lines })

-- These are the lines between empty ones. Those that stand together are a paragraph; each but the first is behind an empty line.
abbrev pub paragraphs : (apart : Bool) → List (List (List ℕ)) → List PartContent
paragraphs apart [] = []
paragraphs apart ([] ∷ groups) = paragraphs true groups
paragraphs apart ((line ∷ lines) ∷ groups) = paragraph apart (line ∷ lines) ∷ paragraphs true groups

-- A plain text is paragraphs: what stands between empty lines.
abbrev pub PlainTextIsParagraphs : Type 0
PlainTextIsParagraphs = (text : List ℕ) → list_all is_plain (text_lines text) ≡ true → parts_of text ≡ paragraphs false (slice_split is_empty (text_lines text))
