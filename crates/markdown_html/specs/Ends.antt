-- Where blocks of html end.
use Rattle.std.specs.Prelude.{ℕ, Bool, false, ◌||◌, ◌&&◌, ◌==◌, List, [], ◌∷◌, drop, codes}
use Rattle.markdown_marks.specs.Bytes.{first}
use Rattle.markdown_html.specs.Names.{raw_names, is_among, word, after_word}
use Rattle.markdown_html.specs.Starts.{begins}
use Rattle.markdown_html.specs.declared.starts.Ending.{Ending}
use Rattle.markdown_html.specs.declared.starts.Ending.TheVariants.{RawTag, Comment, Instruction, Declaration, Cdata, BlankLine}

-- whether these bytes are somewhere
unfoldable pub contains : List ℕ → List ℕ → Bool
contains needle [] = false
contains needle (b ∷ bs) = begins (b ∷ bs) needle || contains needle bs

-- a name, and >
abbrev pub ends_tag : List ℕ → Bool
ends_tag bytes = is_among raw_names (word bytes) && (first (after_word bytes) == 62)

-- a closing tag in front, of those whose content is raw
abbrev pub closes_raw : List ℕ → Bool
closes_raw bytes = begins bytes (codes "</") && ends_tag (drop 2 bytes)

-- such a closing tag is somewhere
unfoldable pub has_raw_end : List ℕ → Bool
has_raw_end [] = false
has_raw_end (b ∷ bs) = closes_raw (b ∷ bs) || has_raw_end bs

-- Whether the block ends with this line, which belongs to it. A blank line, which doesn't, is no such end.
unfoldable pub ends_html : Ending → List ℕ → Bool
ends_html RawTag bytes = has_raw_end bytes
ends_html Comment bytes = contains (codes "-->") bytes
ends_html Instruction bytes = contains (codes "?>") bytes
ends_html Declaration bytes = contains (codes ">") bytes
ends_html Cdata bytes = contains (codes "]]>") bytes
ends_html BlankLine bytes = false
