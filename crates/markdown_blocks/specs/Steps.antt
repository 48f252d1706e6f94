-- One line: what it does to the containers and leaves that are open, and what it is.
use Rattle.std.specs.Prelude.{ℕ, ◌-◌, false, not, ◌&&◌, ◌==◌, List, ◌++◌, length, take, if◌then◌else◌}
use Rattle.markdown_marks.specs.Remaining.{Remaining, remaining, whole, take_columns}
use Rattle.markdown_blocks.specs.Containers.{Matched, matched, Opens, opened, ends_in_item}
use Rattle.markdown_blocks.specs.Leaves.{is_paragraph, is_table, is_bare, going_on, margin, joining_or_row, leaf_start, deed_of, leaf_after, only_defines, defining_after, cells_after}
use Rattle.markdown_blocks.specs.declared.containers.Container.{Container}
use Rattle.markdown_blocks.specs.declared.leaves.Leaf.{Leaf}
use Rattle.markdown_blocks.specs.declared.leaves.Leaf.TheVariants.{Nothing}
use Rattle.markdown_blocks.specs.declared.leaves.Joining.{Joining}
use Rattle.markdown_blocks.specs.declared.leaves.Going.{Going}
use Rattle.markdown_blocks.specs.declared.leaves.Going.TheVariants.{No, On, Last, Ends}
use Rattle.markdown_blocks.specs.declared.leaves.Deed.{Deed}
use Rattle.markdown_blocks.specs.declared.leaves.Deed.TheVariants.{GoesOn, Closes}
use Rattle.markdown_blocks.specs.declared.reader.LineRead.{LineRead}
use Rattle.markdown_blocks.specs.declared.reader.BlockReader.{BlockReader}

-- The containers that are open, from the outermost on, and the leaf in the last of them. A paragraph that may be definitions alone has its text.
-- With a paragraph goes how many cells its last line has.
pub record State : Type 0 where
  pub containers : List Container
  pub leaf : Leaf
  pub defining : List ℕ
  pub cells : ℕ

-- the state that the code's reader is in
abbrev pub state_of : BlockReader → State
state_of reader = record { containers = reader.containers.items; leaf = reader.leaf; defining = reader.defining.items; cells = reader.cells }

-- What a line is: so many of the open containers stay, so many begin, this is done to the leaves, with this text.
pub record Line : Type 0 where
  pub kept : ℕ
  pub opened : ℕ
  pub deed : Deed
  pub text : Remaining

-- what the code says a line is
abbrev pub line_of : LineRead → Line
line_of read = record { kept = read.kept; opened = read.opened; deed = read.deed; text = remaining read.text }

-- What one line does: the state after it, and what the line is.
pub record Step : Type 0 where
  pub state : State
  pub line : Line

-- a line in which no container ends or begins
abbrev pub same_containers : State → Leaf → Deed → Remaining → Step
same_containers state leaf deed text = record {
  state = record state { leaf = leaf };
  line = record { kept = length state.containers; opened = 0; deed = deed; text = text };
}

-- A paragraph that goes on keeps all containers, even those that don't go on in this line.
abbrev pub kept_after : Deed → ℕ → ℕ → ℕ
kept_after GoesOn count all = all
kept_after _ count all = count

-- a line that does this
abbrev pub line_done : State → ℕ → Opens → Deed → Remaining → Step
line_done state count opens deed text = record {
  state = record {
    containers = take (kept_after deed count (length state.containers)) state.containers ++ opens.containers;
    leaf = leaf_after (ends_in_item false opens.containers) state.leaf deed;
    defining = defining_after deed state.defining text;
    cells = cells_after (leaf_after (ends_in_item false opens.containers) state.leaf deed) text;
  };
  line = record { kept = kept_after deed count (length state.containers); opened = length opens.containers; deed = deed; text = text };
}

-- whether a line may be a paragraph's next one: no container may begin in it, nor may it underline definitions
abbrev pub joining_after : State → ℕ → Opens → Joining
joining_after state count opens =
    joining_or_row (is_table state.leaf && (length opens.containers == 0) && (count == length state.containers))
    (is_paragraph state.leaf && (length opens.containers == 0) && not (only_defines state.defining (count == length state.containers) opens.rest)) (count == length state.containers)

-- a line in which so many containers go on, and these begin
abbrev pub line_after : State → ℕ → Opens → Step
line_after state count opens =
    line_done state count opens (deed_of (joining_after state count opens) state.cells (leaf_start (joining_after state count opens) opens.rest)) (leaf_start (joining_after state count opens) opens.rest).text

-- a line that the open leaf doesn't take unseen
unfoldable pub begun_line : State → Matched → Step
begun_line state found =
    line_after state found.count (opened (64 - found.count) (is_paragraph state.leaf && (found.count == length state.containers)) found.rest)

-- a line in which all containers go on, by what the open leaf makes of it
abbrev pub matched_line : Going → State → Matched → Step
matched_line No state found = begun_line state found
matched_line On state found = same_containers state state.leaf GoesOn (take_columns (margin state.leaf) found.rest)
matched_line Last state found = same_containers state Nothing GoesOn (take_columns (margin state.leaf) found.rest)
matched_line Ends state found = same_containers state Nothing Closes found.rest

-- a line in which so many containers go on
unfoldable pub line_step : State → Matched → Step
line_step state found = if found.count == length state.containers then matched_line (going_on state.leaf found.rest) state found else begun_line state found

-- one line
unfoldable pub step : State → List ℕ → Step
step state line = line_step state (matched (is_bare state.leaf) state.containers (whole line))
