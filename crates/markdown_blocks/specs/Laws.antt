-- What holds of each line, whatever it is.
use Rattle.std.specs.Prelude.{◌≡◌, ◌≤◌, ◌+◌, List, length, take}
use Rattle.markdown_blocks.specs.Steps.{State, Step}
use Rattle.markdown_blocks.specs.declared.containers.Container.{Container}

-- Containers that stay are the first of those that were open, and the same as before. With those that begin they are all that are open, and
-- there are never more than 64.
pub record IsPlaced (before : State) (done : Step) : Type 0 where
  pub within : done.line.kept ≤ length before.containers
  pub stays : take done.line.kept done.state.containers ≡ take done.line.kept before.containers
  pub counted : length done.state.containers ≡ done.line.kept + done.line.opened
  pub bounded : length before.containers ≤ 64 → length done.state.containers ≤ 64

-- the second list begins with the first
abbrev pub HasFront : List Container → List Container → Type 0
HasFront front containers = take (length front) containers ≡ front

-- Containers may have been added, and nothing else has changed.
pub record IsGrown (before after : State) : Type 0 where
  pub containers : HasFront before.containers after.containers
  pub leaf : after.leaf ≡ before.leaf
  pub defining : after.defining ≡ before.defining
  pub cells : after.cells ≡ before.cells
