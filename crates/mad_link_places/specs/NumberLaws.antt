-- Laws of places.
use Rattle.std.specs.Prelude.{◌≡◌, ℕ, Bool, true, List, ◌∷◌, ◌++◌}
use Rattle.std.specs.List.{AllByRecursion}
use Rattle.mad_mark_runs.specs.Marks.{value_at}
use Rattle.mad_mark_runs.specs.declared.mark_runs.MarkRun.{MarkRun}
use Rattle.mad_link_places.specs.LinkPlaces.{is_counted, number_of, text_places, text_walked}
use Rattle.mad_link_places.specs.declared.places.LinkPlace.{LinkPlace}
use Rattle.mad_link_places.specs.declared.places.Walk.{Walk}

-- A place is that of a character of this text, which belongs to a link: it is in the column behind what comes before it, and the number is that of the
-- character's own mark.
pub record StandsAt (marks : List MarkRun) (before row : ℕ) (linked : Bool) (w : Walk) (text : List ℕ) (place : LinkPlace) : Type 0 where
  pub front : List ℕ
  pub char : ℕ
  pub back : List ℕ
  pub whole : text ≡ front ++ char ∷ back
  pub counted : is_counted linked char ≡ true
  pub row_is : place.row ≡ row
  pub column : place.column ≡ (text_walked marks linked w front).column
  pub number : place.number ≡ number_of before (value_at marks (text_walked marks linked w front).number)

-- THE LAW: each number stands at a character of its link
abbrev pub NumbersStandAtLinks : Type 0
NumbersStandAtLinks =
    (marks : List MarkRun) (before row : ℕ) (linked : Bool) (w : Walk) (text : List ℕ) → AllByRecursion (StandsAt marks before row linked w text) (text_places marks before row linked w text)
