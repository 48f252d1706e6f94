-- What is shown of one piece.
use Rattle.std.specs.Prelude.{ℕ, ◌+◌, Bool, true, if◌then◌else◌, List, [], ◌∷◌, ◌++◌, take, drop, map, replicate, chars, Option, Some, None}
use Rattle.markdown_emphasis.specs.declared.runs.Sign.{Sign}
use Rattle.markdown_emphasis.specs.declared.runs.Sign.TheVariants.{Star, Underscore, Tilde}
use Rattle.markdown_brackets.specs.declared.brackets.Link.{Link}
use Rattle.markdown_brackets.specs.declared.targets.Target.{Target}
use Rattle.std.specs.Str.Lossy.{utf8_lossy}
use Rattle.markdown_spans.specs.Code.{unpadded}
use Rattle.markdown_spans.specs.Attributes.{value_text}
use Rattle.markdown_spans.specs.declared.attributes.Value.{Value}
use Rattle.markdown_spans.specs.declared.attributes.Html.{Html}
use Rattle.markdown_spans.specs.declared.attributes.Html.TheVariants.{Break, Alternative, Source}
use Rattle.markdown_pieces.specs.declared.pieces.Kind.{Kind}
use Rattle.markdown_pieces.specs.declared.pieces.Kind.TheVariants.{Plain, Shown, Code as CodeKind, Address, Bare, Html as HtmlKind, Soft, Hard, Run as RunKind, Opening, Closing}
use Rattle.markdown_pieces.specs.declared.pieces.Piece.{Piece}
use Rattle.markdown_link_parts.specs.Texts.{file_name, file_part}
use Rattle.markdown_inlines.specs.declared.links.Over.{Over}
use Rattle.markdown_inlines.specs.Printable.{shown_char}

-- the character that each mark of a run is
abbrev pub sign_char : Sign → ℕ
sign_char Star = 42
sign_char Underscore = 95
sign_char Tilde = 126

-- of a text, each of its characters
abbrev pub shown_text : List ℕ → List ℕ
shown_text text = map shown_char (chars text)

-- one character or two
abbrev pub character_shown : ℕ → Option ℕ → List ℕ
character_shown c None = shown_char c ∷ []
character_shown c (Some d) = shown_char c ∷ shown_char d ∷ []

-- so many bytes from a place on
abbrev pub part : List ℕ → ℕ → ℕ → List ℕ
part text at len = take len (drop at text)

-- the alternative text of an image, of whose tag these are the bytes after the sign <
abbrev pub alternative_text : List ℕ → Value → List ℕ
alternative_text tag value = utf8_lossy (value_text tag value)

-- the name of the file to which an image's address leads
abbrev pub source_name : List ℕ → Value → List ℕ
source_name tag value = utf8_lossy (file_part (value_text tag value))

-- of raw html at a place
abbrev pub html_shown : Html → List ℕ → ℕ → List ℕ
html_shown Break text at = 10 ∷ []
html_shown (Alternative value) text at = shown_text (alternative_text (drop (at + 1) text) value)
html_shown (Source value) text at = shown_text (source_name (drop (at + 1) text) value)
html_shown _ text at = []

-- an opening bracket is shown where no link or image begins there
abbrev pub opening_shown : (image opens : Bool) → List ℕ
opening_shown image opens = if opens then [] else if image then 33 ∷ 91 ∷ [] else 91 ∷ []

-- a closing bracket is shown where it closes none
abbrev pub closing_shown : Option Link → List ℕ
closing_shown None = 93 ∷ []
closing_shown (Some link) = []

-- of a piece of a text at a place: so many of its marks are left; it opens a link or doesn't
abbrev pub kind_characters : Kind → List ℕ → (at more left : ℕ) → Bool → List ℕ
kind_characters Plain text at more left opens = shown_text (part text at (more + 1))
kind_characters (Shown c second) text at more left opens = character_shown c second
kind_characters (CodeKind code) text at more left opens = shown_text (unpadded (part text (at + code.marks) code.len))
kind_characters (Address len scheme) text at more left opens = shown_text (part text (at + 1) len)
kind_characters (Bare scheme) text at more left opens = shown_text (part text at (more + 1))
kind_characters (HtmlKind html) text at more left opens = html_shown html text at
kind_characters Soft text at more left opens = 32 ∷ []
kind_characters Hard text at more left opens = 10 ∷ []
kind_characters (RunKind run) text at more left opens = replicate left (sign_char run.sign)
kind_characters (Opening image) text at more left opens = opening_shown image opens
kind_characters (Closing link) text at more left opens = closing_shown link

-- the characters that a piece says itself
abbrev pub characters : List ℕ → ℕ → Piece → ℕ → Bool → List ℕ
characters text at p left opens = kind_characters p.kind text at p.more left opens

-- ---- names of pictures

-- the name of the file to which these parentheses lead; a definition says none
abbrev pub name_by : Option ℕ → List ℕ → List ℕ
name_by None link = file_name link
name_by (Some index) link = []

-- of what follows a closing bracket from a place on
abbrev pub target_name : Target → List ℕ → ℕ → List ℕ
target_name target text at = name_by target.definition (part text at target.len)

-- of the image that is closed at a place, if it has nothing between its brackets
abbrev pub name_shown : Bool → Kind → List ℕ → ℕ → List ℕ
name_shown true (Closing (Some link)) text at = shown_text (target_name link.target text (at + 1))
name_shown _ _ text at = []

-- the characters that are shown of a piece: what it says itself, and the name of an image's file that has nothing between its brackets
abbrev pub piece_shown : List ℕ → ℕ → Piece → ℕ → Over → List ℕ
piece_shown text at p left over = characters text at p left over.opens ++ name_shown over.silent p.kind text at
