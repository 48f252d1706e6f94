-- What the parts of a text say, whatever the addresses of their lines.
use Rattle.std.specs.Prelude.{Bool, List, map}
use Rattle.markdown_marks.specs.Remaining.{Remaining, remaining}
use Rattle.markdown_blocks.specs.declared.containers.Container.{Container}
use Rattle.markdown_leaves.specs.declared.parts.Block.{Block}
use Rattle.markdown_leaves.specs.declared.parts.Kind.{Kind}
use Rattle.markdown_leaves.specs.declared.parts.Part.{Part}
use Rattle.markdown_leaves.specs.declared.parts.Part.TheVariants.{Begins, Ends, Block as BlockPart}

-- a leaf, whether blank lines are before it, and its lines
pub record BlockContent : Type 0 where
  pub kind : Kind
  pub apart : Bool
  pub lines : List Remaining

-- what a leaf of the code says
abbrev pub block_of : Block → BlockContent
block_of leaf = record { kind = leaf.kind; apart = leaf.apart; lines = map remaining leaf.lines.items }

-- a container begins or ends, or a leaf is told
pub data PartContent : Type 0 where
  begins : Container → Bool → PartContent
  ends : PartContent
  block : BlockContent → PartContent

-- what a part of the code says
abbrev pub part_of : Part → PartContent
part_of (Begins container apart) = begins container apart
part_of Ends = ends
part_of (BlockPart leaf) = block (block_of leaf)
