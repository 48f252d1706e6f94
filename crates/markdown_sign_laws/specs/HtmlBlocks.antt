-- Blocks of html that a sign ends: comments, instructions, declarations and CDATA sections.
use Rattle.std.specs.Prelude.{◌≡◌, ℕ, Bool, true, false, not, List, [], ◌∷◌, ◌++◌, map, codes, Some}
use Rattle.std.specs.List.{list_all}
use Rattle.markdown_html.specs.Starts.{html_start}
use Rattle.markdown_html.specs.declared.starts.Ending.{Ending}
use Rattle.markdown_html.specs.declared.starts.Ending.TheVariants.{BlankLine, Comment, Instruction, Declaration, Cdata}
use Rattle.markdown_blocks.specs.Lines.{text_lines}
use Rattle.markdown_leaves.specs.Parts.{BlockContent, block}
use Rattle.markdown_leaves.specs.Told.{parts_of}
use Rattle.markdown_leaves.specs.declared.parts.Kind.TheVariants.{Html}
use Rattle.markdown_laws.specs.Fences.{text_of}
use Rattle.markdown_sign_laws.specs.Blocks.{IsBehind}
use Rattle.markdown_sign_laws.specs.Words.{are_blanks}

-- what ends html of this kind, if it is a sign: that of a comment, an instruction, a declaration or a CDATA section
abbrev pub IsSignOf : Ending → List ℕ → Type 0
IsSignOf Comment end = end ≡ codes "-->"
IsSignOf Instruction end = end ≡ codes "?>"
IsSignOf Declaration end = end ≡ codes ">"
IsSignOf Cdata end = end ≡ codes "]]>"
IsSignOf _ end = ⊥

-- bytes begin html that this sign ends
abbrev pub BeginsHtml : (end bytes : List ℕ) → Type 0
BeginsHtml end bytes = (ending : Ending) × (html_start false bytes ≡ Some ending) × IsSignOf ending end

-- these bytes are somewhere in others
pub record Has (bytes all : List ℕ) : Type 0 where
  pub before : List ℕ
  pub behind : List ℕ
  pub whole : all ≡ before ++ (bytes ++ behind)

-- no line of these has the sign
abbrev pub NoneHas : List ℕ → List (List ℕ) → Type 0
NoneHas end [] = Unit {0}
NoneHas end (line ∷ lines) = (Has end line → ⊥) × NoneHas end lines

-- html that has these lines as they are
pub record IsHtml (html : BlockContent) (lines : List (List ℕ)) : Type 0 where
  pub kind : html.kind ≡ Html
  pub apart : html.apart ≡ false
  pub said : map text_of html.lines ≡ lines

-- A text begins with a line that begins html, and that doesn't have its end. The lines up to the first that has it are html, blank ones too. Then come the parts of the text behind them.
abbrev pub HtmlIsRead : Type 0
HtmlIsRead = (text after first last bytes end : List ℕ) (lines : List (List ℕ)) (indent : ℕ) → text_lines text ≡ first ∷ (lines ++ last ∷ text_lines after)
    → IsBehind first indent bytes → BeginsHtml end bytes → NoneHas end (bytes ∷ lines) → Has end last
    → (html : BlockContent) × IsHtml html (first ∷ (lines ++ last ∷ [])) × (parts_of text ≡ block html ∷ parts_of after)

-- Where the first line has the end, it is html by itself.
abbrev pub HtmlLineIsRead : Type 0
HtmlLineIsRead = (text after first bytes end : List ℕ) (indent : ℕ) → text_lines text ≡ first ∷ text_lines after → IsBehind first indent bytes → BeginsHtml end bytes → Has end bytes
    → (html : BlockContent) × IsHtml html (first ∷ []) × (parts_of text ≡ block html ∷ parts_of after)

-- Where no line has the end, html is all of the text.
abbrev pub OpenHtmlIsRead : Type 0
OpenHtmlIsRead = (text first bytes end : List ℕ) (lines : List (List ℕ)) (indent : ℕ) → text_lines text ≡ first ∷ lines → IsBehind first indent bytes → BeginsHtml end bytes → NoneHas end (bytes ∷ lines)
    → (html : BlockContent) × IsHtml html (first ∷ lines) × (parts_of text ≡ block html ∷ [])

-- no line of these is blank
abbrev pub none_blank : List (List ℕ) → Bool
none_blank lines = list_all (λ (line : List ℕ). not (are_blanks line)) lines

-- Other html ends before a blank line: it begins with the tag of a block, or with another tag alone. Then come the parts of an empty line and of the text behind it.
abbrev pub HtmlEndsAtBlank : Type 0
HtmlEndsAtBlank = (text after first last bytes : List ℕ) (lines : List (List ℕ)) (indent : ℕ) → text_lines text ≡ first ∷ (lines ++ last ∷ text_lines after)
    → IsBehind first indent bytes → html_start false bytes ≡ Some BlankLine → none_blank lines ≡ true → are_blanks last ≡ true
    → (html : BlockContent) × IsHtml html (first ∷ lines) × (parts_of text ≡ block html ∷ parts_of (10 ∷ after))
