-- A session whose text has grown.
use Rattle.std.specs.Prelude.{◌≡◌, ℕ, Bool, List, length, map, Option, Some, None, string_bytes}
use Rattle.mad_field.specs.Fields.{Field}
use Rattle.mad_outline.specs.Sources.{PageAt}
use Rattle.mad_page.specs.declared.page.Page.{Page}
use Rattle.mad_page_skin.specs.declared.page_skin.PageSkin.{PageSkin}
use Rattle.mad_pager.specs.Sessions.{State, IsLaidFor}
use Rattle.mad_pager.specs.declared.sizes.ScreenSize.{ScreenSize}
use Rattle.mad_patterns.specs.Readings.{Reading, reading_of}
use Rattle.mad_search.specs.KeptRows.{row_in_parts}
use Rattle.mad_regrown.specs.declared.session.Kept.{Kept}

-- what of a session doesn't hang on its text, where its sections began, and which row was found
pub record KeptState : Type 0 where
  pub page : Page
  pub starts : List ℕ
  pub field : Field
  pub is_typing : Bool
  pub types_back : Bool
  pub sought : List ℕ
  pub reading : Reading
  pub is_backward : Bool
  pub past : List (List ℕ)
  pub back : ℕ
  pub found : Option ℕ
  pub is_missing : Bool
  pub told : Option ScreenSize

-- that of what is kept
abbrev pub kept_state : Kept → KeptState
kept_state k = record {
  page = k.page;
  starts = k.starts.items;
  field = k.field;
  is_typing = k.is_typing;
  types_back = k.types_back;
  sought = string_bytes k.sought;
  reading = reading_of k.reading;
  is_backward = k.is_backward;
  past = map string_bytes k.past.items;
  back = k.back;
  found = k.found;
  is_missing = k.is_missing;
  told = k.told;
}

-- that of a session
abbrev pub kept_from : State → KeptState
kept_from s = record {
  page = s.page;
  starts = s.laid.starts.items;
  field = s.field;
  is_typing = s.is_typing;
  types_back = s.types_back;
  sought = s.sought;
  reading = s.reading;
  is_backward = s.is_backward;
  past = s.past;
  back = s.back;
  found = s.found;
  is_missing = s.is_missing;
  told = s.told;
}

-- the row that was found last, in a longer text
abbrev pub kept_found : List ℕ → List ℕ → Option ℕ → Option ℕ
kept_found old new None = None
kept_found old new (Some row) = Some (row_in_parts old new row)

-- The text has grown: it is laid out for the screen that there is. What was on top stays there, and so does what was found, by the sections of the text.
-- What is typed and sought is as before.
pub record IsGrown (skin : PageSkin) (text : PageAt) (kept : KeptState) (new : State) : Type 0 where
  pub laid : IsLaidFor skin text kept.page.columns new.laid
  pub page : new.page ≡ record kept.page { height = length new.laid.lines.items; top = row_in_parts kept.starts new.laid.starts.items kept.page.top }
  pub found : new.found ≡ kept_found kept.starts new.laid.starts.items kept.found
  pub rest : kept_from (record new { page = kept.page; found = kept.found }) ≡ record kept { starts = new.laid.starts.items }
