-- The blocks of a text as a tree.
use Rattle.std.specs.Prelude.{Bool, List, [], ◌∷◌}
use Rattle.markdown_blocks.specs.declared.containers.Container.{Container}
use Rattle.markdown_leaves.specs.Parts.{BlockContent, PartContent, begins, ends, block}

-- Blocks that follow one another in a container: a leaf, or a container with its own blocks, and then others. With a container goes
-- whether blank lines are before it.
pub data Blocks : Type 0 where
  no_more : Blocks
  leaf : BlockContent → Blocks → Blocks
  holds : Container → (apart : Bool) → (inner after : Blocks) → Blocks

-- a leaf before the blocks of the innermost container
abbrev pub with_leaf : BlockContent → List Blocks → List Blocks
with_leaf b [] = leaf b no_more ∷ []
with_leaf b (inner ∷ outer) = leaf b inner ∷ outer

-- The innermost blocks are all that a container holds, which is a block before those around it.
abbrev pub with_container : Container → Bool → List Blocks → List Blocks
with_container container apart (inner ∷ (after ∷ outer)) = holds container apart inner after ∷ outer
with_container container apart _ = []

-- From these parts on: the blocks that are still to come of each container that is open, the innermost first.
unfoldable pub still_to_come : List PartContent → List Blocks
still_to_come [] = no_more ∷ []
still_to_come (begins container apart ∷ parts) = with_container container apart (still_to_come parts)
still_to_come (ends ∷ parts) = no_more ∷ still_to_come parts
still_to_come (block b ∷ parts) = with_leaf b (still_to_come parts)

-- the first of these: where no container is open, they are the blocks of the text
abbrev pub outermost : List Blocks → Blocks
outermost [] = no_more
outermost (blocks ∷ others) = blocks

-- the blocks that these parts are
abbrev pub tree_of : List PartContent → Blocks
tree_of parts = outermost (still_to_come parts)
