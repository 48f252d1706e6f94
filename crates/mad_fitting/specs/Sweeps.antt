-- Compounds that are cut as they are passed over.
use Rattle.std.specs.Prelude.{◌≡◌, ℕ, ◌+◌, ◌-◌, ◌<◌, ◌≤◌, ◌⊎◌, List, [], ◌∷◌, ◌++◌, drop, length, map, slice_range, take}
use Rattle.mad_md.specs.Flagged.{FlaggedChar, flags_of, flagged_text}
use Rattle.mad_md.specs.declared.compound.Compound.{Compound}
use Rattle.mad_measure.specs.TextColumns.{width_of}
use Rattle.mad_fitting.specs.CenteredCuts.{IsCenteredCut}
use Rattle.mad_fitting.specs.Cuts.{IsTextPart}
use Rattle.mad_fitting.specs.Ellipses.{IsEllipsis, IsShortened}
use Rattle.mad_fitting.specs.Filled.{NoneEmpty}
use Rattle.mad_fitting.specs.Parts.{gain_of}
use Rattle.mad_fitting.specs.Order.{room_of}
use Rattle.mad_fitting.specs.Turns.{AreCut, CutsEach}
use Rattle.mad_fitting.specs.declared.centered.Cut.{Cut}
use Rattle.mad_fitting.specs.declared.gains.Gain.{Gain}
use Rattle.mad_fitting.specs.declared.gains.Parts.{Parts}
use Rattle.mad_fitting.specs.declared.parts.Run.{Run}
use Rattle.mad_fitting.specs.declared.sweeping.Sweep.{Sweep}
use Rattle.mad_fitting.specs.declared.turns.Turns.{Turns}

-- the parts of a text from a byte on, one behind the other
abbrev pub AreInOrder : List ℕ → ℕ → List Run → Type 0
AreInOrder text from [] = Unit {0}
AreInOrder text from (part ∷ parts) = IsTextPart 0 text part × (from ≤ part.start) × AreInOrder text part.end parts

-- the part as it lies behind so many bytes
pub record IsMoved (part : Run) (bytes : ℕ) (moved : Run) : Type 0 where
  pub compound : moved.compound ≡ part.compound
  pub start : moved.start ≡ part.start - bytes
  pub end : moved.end ≡ part.end - bytes

-- the parts of a text, of which the first has this number, are what the turns are of
pub record FollowTurns (text : List ℕ) (parts : List Run) (number : ℕ) (turns : Turns) : Type 0 where
  pub more : List Gain
  pub gains : drop number turns.gains.items ≡ map (gain_of text) parts ++ more

-- compounds become others, with ellipses in place of parts, so that so many columns go
pub record IsThinnedBy (gone : ℕ) (before after : List Compound) : Type 0 where
  pub more : ℕ
  pub shortened : (n : ℕ) (text : List FlaggedChar) → IsShortened n text before → IsShortened (n + more) text after
  pub some : 0 < gone → 0 < more
  pub columns : width_of (flagged_text before) ≡ width_of (flagged_text after) + gone
  pub none_empty : NoneEmpty before → NoneEmpty after

-- A part of a compound is cut by so many columns: these compounds come in front of what is left, and so much is gained.
pub record Cuts (amount : ℕ) (p : Compound) (part : Run) (here : List Compound) (rest : Compound) (gone : ℕ) : Type 0 where
  pub cut : Cut
  pub centered : 0 < amount → IsCenteredCut amount (slice_range p.src.now part.start part.end) cut
  pub stays : (amount ≡ 0) ⊎ (cut.columns < 2) → (here ≡ []) × (rest ≡ p) × (gone ≡ 0)
  pub goes : 0 < amount → 2 ≤ cut.columns → (head : Compound) × (mark : Compound) × (here ≡ head ∷ mark ∷ []) × (head.src.now ≡ take (part.start + cut.start) p.src.now) × (flags_of head ≡ flags_of p) × IsEllipsis mark
      × (rest.src.now ≡ drop (part.start + cut.end) p.src.now) × (flags_of rest ≡ flags_of p) × (gone ≡ cut.columns - 1)

-- the same, of a sweep
pub record Sweeps (amount : ℕ) (p : Compound) (part : Run) (before : Sweep) (rest : Compound) (after : Sweep) : Type 0 where
  pub here : List Compound
  pub gone : ℕ
  pub cuts : Cuts amount p part here rest gone
  pub added : after.compounds.items ≡ before.compounds.items ++ here
  pub left : after.left ≡ before.left - gone
  pub most : gone ≤ amount + 2
  pub thinned : (done others : List Compound) → IsThinnedBy gone (done ++ p ∷ others) ((done ++ here) ++ rest ∷ others)

-- The next compound is passed over and its parts are cut in their turns, the first of which has this number.
pub record PassesOver (p : Compound) (parts : List Run) (turns : Turns) (number : ℕ) (before after : Sweep) : Type 0 where
  pub here : List Compound
  pub gone : ℕ
  pub added : after.compounds.items ≡ before.compounds.items ++ here
  pub left : after.left ≡ before.left - gone
  pub cut : AreCut turns.excess turns.gains.items number p 0 parts here
  pub thinned : (done others : List Compound) → IsThinnedBy gone (done ++ p ∷ others) ((done ++ here) ++ others)
  pub room : (more : List Gain) → gone + room_of turns (number + length parts) more ≤ room_of turns number (map (gain_of p.src.now) parts ++ more)

-- All parts of the compounds are cut in their turns.
pub record SweepsAll (kind : Parts) (ps : List Compound) (turns : Turns) (after : Sweep) : Type 0 where
  pub gone : ℕ
  pub left : after.left ≡ turns.excess - gone
  pub most : gone ≤ turns.excess + 2
  pub cut : CutsEach turns.excess turns.gains.items kind 0 ps after.compounds.items
  pub thinned : IsThinnedBy gone ps after.compounds.items
