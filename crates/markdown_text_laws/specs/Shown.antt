-- What is shown of a leaf's text: each of its words, and no markup.
use Rattle.std.specs.Prelude.{◌≡◌, ℕ, suc, ◌+◌, ◌-◌, ◌≤◌, ◌==◌, ◌&&◌, Bool, true, false, List, [], ◌∷◌, ◌++◌, map, length, take, drop, replicate, Option, Some, None, if◌then◌else◌}
use Rattle.std.specs.List.{list_any}
use Rattle.markdown_emphasis.specs.declared.runs.Pair.{Pair}
use Rattle.markdown_emphasis.specs.Left.{taken_at}
use Rattle.markdown_brackets.specs.declared.brackets.Link.{Link}
use Rattle.markdown_spans.specs.Code.{unpadded}
use Rattle.markdown_pieces.specs.declared.pieces.Kind.{Kind}
use Rattle.markdown_pieces.specs.declared.pieces.Kind.TheVariants.{Plain, Shown, Code, Address, Bare, Html, Soft, Hard, Run, Opening, Closing}
use Rattle.markdown_pieces.specs.declared.pieces.Piece.{Piece}
use Rattle.markdown_pieces.specs.Cut.{CutText, cut_text}
use Rattle.markdown_inlines.specs.Inlines.{char_of, leaf_text}
use Rattle.markdown_inlines.specs.Left.{marks_of}
use Rattle.markdown_inlines.specs.Parts.{character_shown, html_shown, shown_text, sign_char, target_name}

-- the sign of an image and its bracket, or a bracket alone
abbrev pub bracket : Bool → List ℕ
bracket true = 33 ∷ 91 ∷ []
bracket false = 91 ∷ []

-- a piece closes the link or the image that the piece of this index opens
abbrev pub closes : ℕ → Kind → Bool
closes index (Closing (Some link)) = link.opener == index
closes index _ = false

-- one of these pieces does
abbrev pub is_closed : ℕ → List Piece → Bool
is_closed index pieces = list_any (λ (p : Piece). closes index p.kind) pieces

-- the image, whose closing bracket has this index, has nothing between its brackets
abbrev pub is_empty_image : (index : ℕ) → Link → Bool
is_empty_image index link = link.image && (link.opener + 1 == index)

-- A closing bracket is shown where it closes none. With one that does nothing is shown, nor of its destination, but for the name of the file to which that of an
-- image leads that has nothing between its brackets.
abbrev pub shown_of_closing : (index : ℕ) → Option Link → (rest : List ℕ) → List ℕ
shown_of_closing index None rest = 93 ∷ []
shown_of_closing index (Some link) rest = if is_empty_image index link then shown_text (target_name link.target rest 1) else []

-- What is shown of a piece of this index, that begins what is left of a text; these pairs match, and these pieces come behind it. Words and bare addresses are
-- shown as they are, code and addresses without what stands around them, and an escape or an entity as what it stands for. The end of a line is a space or a
-- newline, without the blanks before it. Of a run of marks all are shown that no pair takes. Of raw html a break or an image's text is shown. An opening
-- bracket is shown unless a piece behind it closes it.
abbrev pub shown_of_piece : List Pair → (index : ℕ) → (behind : List Piece) → Kind → (more : ℕ) (rest : List ℕ) → List ℕ
shown_of_piece pairs index behind Plain more rest = shown_text (take (suc more) rest)
shown_of_piece pairs index behind (Bare scheme) more rest = shown_text (take (suc more) rest)
shown_of_piece pairs index behind (Shown c second) more rest = character_shown c second
shown_of_piece pairs index behind (Code code) more rest = shown_text (unpadded (take code.len (drop code.marks rest)))
shown_of_piece pairs index behind (Address len scheme) more rest = shown_text (take len (drop 1 rest))
shown_of_piece pairs index behind (Html html) more rest = html_shown html rest 0
shown_of_piece pairs index behind Soft more rest = 32 ∷ []
shown_of_piece pairs index behind Hard more rest = 10 ∷ []
shown_of_piece pairs index behind (Run run) more rest = replicate (run.count - taken_at pairs index) (sign_char run.sign)
shown_of_piece pairs index behind (Opening image) more rest = if is_closed index behind then [] else bracket image
shown_of_piece pairs index behind (Closing link) more rest = shown_of_closing index link rest

-- each piece is shown, one after the other, and nothing else is
abbrev pub AreShown : List Pair → (index : ℕ) (rest : List ℕ) → List Piece → List ℕ → Type 0
AreShown pairs index rest [] shown = shown ≡ []
AreShown pairs index rest (p ∷ ps) shown =
    (later : List ℕ) × (shown ≡ shown_of_piece pairs index ps p.kind p.more rest ++ later) × AreShown pairs (index + 1) (drop (suc p.more) rest) ps later

-- pairs take of each piece no more marks than it has
abbrev pub TakeWhatThereIs : List Pair → List Piece → Type 0
TakeWhatThereIs pairs pieces = (before behind : List Piece) (p : Piece) → pieces ≡ before ++ p ∷ behind → taken_at pairs (length before) ≤ marks_of p.kind

-- These characters are shown of a text that is cut so.
pub record IsShownText (cut : CutText) (text shown : List ℕ) : Type 0 where
  pub are : AreShown cut.pairs 0 text cut.pieces shown
  pub enough : TakeWhatThereIs cut.pairs cut.pieces

-- Each piece of a leaf's text is shown once, in order, or is markup, by this list. What pairs take of a run and what is shown of it are all its marks.
abbrev pub EachPieceIsShown : Type 0
EachPieceIsShown = (labels : List (List ℕ)) (text : List ℕ) → IsShownText (cut_text labels text) text (map char_of (leaf_text labels text))
