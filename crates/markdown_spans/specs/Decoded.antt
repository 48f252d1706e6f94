-- A text without its entities and escapes: what they stand for is in their place.
use Rattle.std.specs.Prelude.{ℕ, zero, suc, ◌==◌, ◌&&◌, Bool, if◌then◌else◌, List, [], ◌∷◌, ◌++◌, Option, Some, None, encode_utf8}
use Rattle.markdown_spans.specs.declared.entities.Escape.{Escape}
use Rattle.markdown_spans.specs.declared.entities.Escape.TheVariants.{Sign, Break, Itself}
use Rattle.markdown_spans.specs.declared.entities.Entity.{Entity}
use Rattle.markdown_spans.specs.Entities.{escape_of, entity_of}

-- what some bytes stand for, and how many are left of them after the first
pub record Part : Type 0 where
  pub bytes : List ℕ
  pub more : ℕ

-- a byte that stands for itself
abbrev pub itself : ℕ → Part
itself b = record { bytes = b ∷ []; more = 0 }

-- the bytes of a second character, if there is one
abbrev pub second_bytes : Option ℕ → List ℕ
second_bytes None = []
second_bytes (Some c) = encode_utf8 c

-- the entity that is found; else the byte stands for itself
abbrev pub entity_part : ℕ → Option Entity → Part
entity_part b None = itself b
entity_part b (Some entity) = record { bytes = encode_utf8 entity.shown ++ second_bytes entity.second; more = entity.len }

-- a sign that is escaped stands for itself; no other backslash escapes anything
abbrev pub escape_part : ℕ → Escape → Part
escape_part b (Sign sign) = record { bytes = sign ∷ []; more = 1 }
escape_part b Break = itself b
escape_part b Itself = itself b

-- a byte, and those after it
abbrev pub part_of : Bool → ℕ → List ℕ → Part
part_of escapes b bs = if b == 38 then entity_part b (entity_of bs) else if escapes && (b == 92) then escape_part b (escape_of bs) else itself b

-- so many bytes belong to the last part still
unfoldable pub decoded_from : Bool → ℕ → List ℕ → List ℕ
decoded_from escapes skip [] = []
decoded_from escapes (suc skip) (b ∷ bs) = decoded_from escapes skip bs
decoded_from escapes zero (b ∷ bs) = (part_of escapes b bs).bytes ++ decoded_from escapes (part_of escapes b bs).more bs

-- with escapes, or with entities alone
abbrev pub decoded : Bool → List ℕ → List ℕ
decoded escapes bytes = decoded_from escapes 0 bytes
