-- The texts of destinations and titles, and the names of files.
use Rattle.std.specs.Prelude.{ℕ, ◌-◌, ◌==◌, ◌||◌, Bool, true, not, List, length, take, drop}
use Rattle.std.specs.List.{prefix_len, suffix_len}
use Rattle.std.specs.Str.Lossy.{utf8_lossy}
use Rattle.markdown_spans.specs.Decoded.{decoded}
use Rattle.markdown_link_parts.specs.Parts.{inline_destination}

-- without escapes and entities
abbrev pub text_of : List ℕ → List ℕ
text_of bytes = utf8_lossy (decoded true bytes)

-- ---- names of files

-- a query begins with ? and a fragment with #; no other byte ends the path of an address
abbrev pub is_path_byte : ℕ → Bool
is_path_byte b = not ((b == 63) || (b == 35))

-- a slash parts the names of a path; no other byte does
abbrev pub is_name_byte : ℕ → Bool
is_name_byte b = not (b == 47)

-- how many bytes of an address are its path
abbrev pub path_len : List ℕ → ℕ
path_len address = prefix_len is_path_byte address

-- the last name of a path: what stands behind its last slash
abbrev pub last_name : List ℕ → List ℕ
last_name path = drop (length path - suffix_len is_name_byte path) path

-- the name of the file to which an address leads; it may be empty
abbrev pub file_part : List ℕ → List ℕ
file_part address = last_name (take (path_len address) address)

-- so it is of what stands in parentheses behind a link, whose escapes and entities are what they stand for
abbrev pub file_name : List ℕ → List ℕ
file_name link = utf8_lossy (file_part (decoded true (inline_destination link)))
