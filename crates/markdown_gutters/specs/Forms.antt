-- How a leaf stands on a page, behind the gutters of the open containers.
use Rattle.std.specs.Prelude.{Bool, true, false, List, [], ◌∷◌, ◌++◌, Option, Some, None}
use Rattle.mad_sections.specs.declared.gutters.Gutter.{Gutter}
use Rattle.mad_sections.specs.declared.gutters.Gutter.TheVariants.{Bullet, Code}
use Rattle.markdown_gutters.specs.declared.forms.Form.{Form}
use Rattle.markdown_gutters.specs.declared.forms.Form.TheVariants.{Words, Listed, Boxed}

-- all but words wants blank rows beside it
abbrev pub is_big : Form → Bool
is_big Words = false
is_big _ = true

-- the gutters in front of a leaf: those of the open containers, and of code its box
abbrev pub leaf_gutters : Form → List Gutter → List Gutter
leaf_gutters Boxed gutters = gutters ++ Code ∷ []
leaf_gutters _ gutters = gutters

-- of a table those of its items, if it is shown as a list: a bullet stands behind those of the open containers
abbrev pub items_gutters : Form → List Gutter → Option (List Gutter)
items_gutters Listed gutters = Some (gutters ++ Bullet ∷ [])
items_gutters _ gutters = None
