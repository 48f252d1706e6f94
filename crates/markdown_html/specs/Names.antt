-- Names of tags, in letters of any case.
use Rattle.std.specs.Prelude.{ℕ, Bool, true, false, ◌||◌, ◌&&◌, ◌==◌, List, [], ◌∷◌, take, drop, codes}
use Rattle.std.specs.Char.{is_ascii_alphanumeric, to_ascii_lowercase}
use Rattle.std.specs.List.{list_any, prefix_len}
use Rattle.markdown_marks.specs.Bytes.{is_blank_byte, first}

-- the letters and digits in front
abbrev pub word_len : List ℕ → ℕ
word_len bytes = prefix_len is_ascii_alphanumeric bytes

-- a name in small letters, and a word in any
unfoldable pub same_letters : List ℕ → List ℕ → Bool
same_letters [] [] = true
same_letters [] (w ∷ ws) = false
same_letters (n ∷ ns) [] = false
same_letters (n ∷ ns) (w ∷ ws) = (n == to_ascii_lowercase w) && same_letters ns ws

-- a word is one of these names, in letters of any case
abbrev pub is_among : List (List ℕ) → List ℕ → Bool
is_among names word = list_any (λ name. same_letters name word) names

-- the names of the tags whose content is raw
unfoldable pub raw_names : List (List ℕ)
raw_names = codes "script" ∷ codes "pre" ∷ codes "style" ∷ codes "textarea" ∷ []

-- the names of the tags of blocks
unfoldable pub block_names : List (List ℕ)
block_names =
    codes "address" ∷ codes "article" ∷ codes "aside" ∷ codes "base" ∷ codes "basefont" ∷ codes "blockquote" ∷ codes "body" ∷ codes "caption" ∷
    codes "center" ∷ codes "col" ∷ codes "colgroup" ∷ codes "dd" ∷ codes "details" ∷ codes "dialog" ∷ codes "dir" ∷ codes "div" ∷
    codes "dl" ∷ codes "dt" ∷ codes "fieldset" ∷ codes "figcaption" ∷ codes "figure" ∷ codes "footer" ∷ codes "form" ∷ codes "frame" ∷
    codes "frameset" ∷ codes "h1" ∷ codes "h2" ∷ codes "h3" ∷ codes "h4" ∷ codes "h5" ∷ codes "h6" ∷ codes "head" ∷
    codes "header" ∷ codes "hr" ∷ codes "html" ∷ codes "iframe" ∷ codes "legend" ∷ codes "li" ∷ codes "link" ∷ codes "main" ∷
    codes "menu" ∷ codes "menuitem" ∷ codes "nav" ∷ codes "noframes" ∷ codes "ol" ∷ codes "optgroup" ∷ codes "option" ∷ codes "p" ∷
    codes "param" ∷ codes "search" ∷ codes "section" ∷ codes "summary" ∷ codes "table" ∷ codes "tbody" ∷ codes "td" ∷ codes "tfoot" ∷
    codes "th" ∷ codes "thead" ∷ codes "title" ∷ codes "tr" ∷ codes "track" ∷ codes "ul" ∷ []

-- the word that letters and digits in front are
abbrev pub word : List ℕ → List ℕ
word bytes = take (word_len bytes) bytes

-- what follows the word in front
abbrev pub after_word : List ℕ → List ℕ
after_word bytes = drop (word_len bytes) bytes

-- A name of a tag ends here: a blank, > or nothing follows, or, where a slash may stand, />.
abbrev pub ends_name : Bool → List ℕ → Bool
ends_name slash [] = true
ends_name slash (b ∷ bs) = is_blank_byte b || (b == 62) || (slash && (b == 47) && (first bs == 62))

-- the name of a tag whose content isn't read as html
abbrev pub is_raw_tag : List ℕ → Bool
is_raw_tag bytes = is_among raw_names (word bytes) && ends_name false (after_word bytes)

-- the name of a tag of a block
abbrev pub is_block_tag : List ℕ → Bool
is_block_tag bytes = is_among block_names (word bytes) && ends_name true (after_word bytes)
