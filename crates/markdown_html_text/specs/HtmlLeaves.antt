-- A block of html as leaves: each tag of a heading begins another one.
use Rattle.std.specs.Prelude.{ℕ, zero, suc, ◌==◌, ◌&&◌, not, Bool, if◌then◌else◌, List, [], ◌∷◌, ◌++◌, length, Option, Some, None, codes}
use Rattle.markdown_html.specs.Starts.{without_slash}
use Rattle.markdown_spans.specs.Attributes.{is_tag_named}
use Rattle.markdown_html_text.specs.Markup.{is_tag, markup_of}
use Rattle.markdown_html_text.specs.declared.markup.Markup.{Markup}

-- the level of the heading that the name in front says, or 0
abbrev pub level_named : List ℕ → ℕ
level_named tag =
    if is_tag_named (codes "h1") tag then 1
    else if is_tag_named (codes "h2") tag then 2
    else if is_tag_named (codes "h3") tag then 3
    else if is_tag_named (codes "h4") tag then 4
    else if is_tag_named (codes "h5") tag then 5
    else if is_tag_named (codes "h6") tag then 6
    else 0

-- after a sign < a tag of a heading stands, which may close it
abbrev pub is_heading_tag : List ℕ → Bool
is_heading_tag bytes = is_tag (without_slash bytes) && not (level_named (without_slash bytes) == 0)

-- a heading begins or ends with this byte, after which these are
abbrev pub begins_leaf : ℕ → List ℕ → Bool
begins_leaf b bs = (b == 60) && is_heading_tag bs

-- how many bytes markup has after its sign <
abbrev pub markup_len : Option Markup → ℕ
markup_len None = 0
markup_len (Some markup) = markup.len

-- how many bytes belong to a byte
abbrev pub markup_more : ℕ → List ℕ → ℕ
markup_more b bs = if b == 60 then markup_len (markup_of bs) else 0

-- a leaf before others; an empty one is none
abbrev pub with_leaf : List ℕ → List (List ℕ) → List (List ℕ)
with_leaf leaf leaves = if length leaf == 0 then leaves else leaf ∷ leaves

-- the leaf that has begun, and then these bytes, of which so many belong to what was read last
unfoldable pub leaves_from : List ℕ → ℕ → List ℕ → List (List ℕ)
leaves_from begun skip [] = begun ∷ []
leaves_from begun (suc skip) (b ∷ bs) = leaves_from (begun ++ b ∷ []) skip bs
leaves_from begun zero (b ∷ bs) =
    if begins_leaf b bs then with_leaf begun (leaves_from (b ∷ []) (markup_more b bs) bs)
    else leaves_from (begun ++ b ∷ []) (markup_more b bs) bs

-- the leaves of a block with this text
abbrev pub html_leaves : List ℕ → List (List ℕ)
html_leaves text = leaves_from [] 0 text

-- the level of the heading that a leaf is, or 0: its tag is in front
abbrev pub html_level : List ℕ → ℕ
html_level [] = 0
html_level (b ∷ bs) = if (b == 60) && is_tag bs then level_named bs else 0
