-- A blank line at the end of a text.
use Rattle.std.specs.Prelude.{◌≡◌, ◌⊎◌, ℕ, Bool, true, false, List, [], ◌∷◌, ◌++◌, replicate}
use Rattle.markdown_marks.specs.Bytes.{is_blank}
use Rattle.markdown_marks.specs.Remaining.{Remaining}
use Rattle.markdown_blocks.specs.Lines.{text_lines}
use Rattle.markdown_leaves.specs.Parts.{BlockContent, PartContent, ends, block}
use Rattle.markdown_leaves.specs.Told.{parts_of}
use Rattle.markdown_leaves.specs.declared.parts.Kind.{Kind}
use Rattle.markdown_leaves.specs.declared.parts.Kind.TheVariants.{Fenced, Html}

-- code between fences, or html: their blank lines are text
abbrev pub keeps_blanks : Kind → Bool
keeps_blanks Fenced = true
keeps_blanks Html = true
keeps_blanks _ = false

-- These are the other parts with a blank line more, which is the last of the last leaf. That is code between fences or html, and only ends of containers
-- follow it.
pub record HasLineMore (without with : List PartContent) : Type 0 where
  pub before : List PartContent
  pub leaf : BlockContent
  pub keeps : keeps_blanks leaf.kind ≡ true
  pub line : Remaining
  pub blank : is_blank line.bytes ≡ true
  pub closing : ℕ
  pub less : without ≡ before ++ block leaf ∷ replicate closing ends
  pub more : with ≡ before ++ block (record leaf { lines = leaf.lines ++ line ∷ [] }) ∷ replicate closing ends

-- A blank line at the end of a text changes none of its parts, or it is one line more of the last leaf, which is code between fences or html. The law doesn't say
-- where it is which.
abbrev pub LastBlankIsNothing : Type 0
LastBlankIsNothing = (text other blank : List ℕ) → text_lines other ≡ text_lines text ++ blank ∷ [] → is_blank blank ≡ true
    → (parts_of other ≡ parts_of text) ⊎ HasLineMore (parts_of text) (parts_of other)
