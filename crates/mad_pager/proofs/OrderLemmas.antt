-- What a session keeps, whatever events say.
use Rattle.std.proofs.Common.{◌≡◌, ℕ, ◌+◌, ◌-◌, ◌*◌, ◌<◌, ◌==◌, Option, Some, None, inl, inr, Bool, true, false, List, [], ◌∷◌, ◌++◌, take, drop, nat_lt, length, min, refl, ap, sym, ◌∙◌, subst, arith, not, if◌then◌else◌}
use Rattle.std.specs.Str.{chars}
use Rattle.std.proofs.lemmas.List.{take-append-drop}
use Rattle.std.proofs.lemmas.Bool.{cases_eq}
use Rattle.std.proofs.lemmas.Bool.Decides.{nat_tests}
use Rattle.mad_outline.specs.Sources.{PageAt}
use Rattle.mad_characters.specs.Columns.{char_columns}
use Rattle.mad_term.specs.declared.events.Event.{Event}
use Rattle.mad_term.specs.declared.events.Event.TheVariants.{Key, Mouse, Resize, FocusGained, FocusLost}
use Rattle.mad_term.specs.declared.keys.KeyCode.{KeyCode}
use Rattle.mad_term.specs.declared.keys.KeyCode.TheVariants.{Char, Enter, Esc, Backspace, Delete, Home, End, Up, Down, Left, Right, PageUp, PageDown, Insert, Tab, BackTab, F, Null}
use Rattle.mad_term.specs.declared.keys.KeyEvent.{KeyEvent}
use Rattle.mad_term.specs.declared.mouse.MouseEventKind.{MouseEventKind}
use Rattle.mad_term.specs.declared.mouse.MouseButton.TheVariants as button
use Rattle.mad_term.specs.declared.mouse.MouseEventKind.TheVariants as mouse
use Rattle.mad_term.specs.Events.{modifier_bits}
use Rattle.mad_measure.specs.declared.area.Area.{Area}
use Rattle.mad_measure.proofs.AllLemmas.{all_front, all_back, all_joined}
use Rattle.mad_edit_lines.specs.TextLines.{is_accepted, accepted, lines}
use Rattle.mad_edit.specs.Editor.{Editor, cursor_line, replaced, without}
use Rattle.mad_field.specs.Fields.{Field}
use Rattle.mad_field.specs.Edits.{Outcome, edited, edited_if, is_wide, moved_down, moved_to_line, moved_up}
use Rattle.mad_field.specs.Keys.{key_outcome, moved_by, removal, selecting_if}
use Rattle.mad_field.specs.Keys as keys
use Rattle.mad_page.specs.PageKeys.{after_command, after_key, after_kind, command_of, moved}
use Rattle.mad_page.specs.Pages.{begun_at, in_sight, is_on_bar, shows_row}
use Rattle.mad_page.specs.declared.commands.Command.{Command}
use Rattle.mad_page.specs.declared.commands.Command.TheVariants.{Moves, Counts, Colon, Tells, Asks}
use Rattle.mad_page.specs.declared.commands.Motion.{Motion}
use Rattle.mad_page.specs.declared.commands.Motion.TheVariants as motion
use Rattle.mad_page.specs.declared.commands.Ask.{Ask}
use Rattle.mad_page.specs.declared.commands.Ask.TheVariants.{Search, SearchBack, Next, Previous, NextHeader, PreviousHeader, Forget}
use Rattle.mad_search.specs.Headers.{next_header, previous_header}
use Rattle.mad_pager.specs.declared.sizes.ScreenSize.{ScreenSize}
use Rattle.mad_page.specs.declared.page.Files.{Files}
use Rattle.mad_page.specs.declared.page.Page.{Page}
use Rattle.mad_pages.specs.declared.paged.PagedPage.{PagedPage}
use Rattle.mad_page_skin.specs.declared.page_skin.PageSkin.{PageSkin}
use Rattle.mad_pager.proofs.PagerSteps.{turn_after}
use Rattle.mad_pager.specs.Screens.{IsFieldInRow, IsOrderly, TakeColumns}
use Rattle.mad_pager.specs.Sessions.{State, at_found, at_header, begun_recall, begun_search, char_key, char_typed, earlier, further_back, pasted, pasted_code, recalled, seeking, text_typed, wanted, IsAnyKeyStep, IsFound, IsAsked, IsEventStep, IsKeyStep, IsLaidAnew, IsLaidFor, IsMovedTo, IsResized, IsSettled, IsStart, IsTypeStep, field_row, typed}

-- ---- what is typed

front_takes : (n : ℕ) (cs : List ℕ) → TakeColumns cs → TakeColumns (take n cs)
front_takes n cs h = all_front (λ (c : ℕ). 0 < char_columns c) (take n cs) (drop n cs) (subst TakeColumns (sym (take-append-drop n cs)) h)

back_takes : (n : ℕ) (cs : List ℕ) → TakeColumns cs → TakeColumns (drop n cs)
back_takes n cs h = all_back (λ (c : ℕ). 0 < char_columns c) (take n cs) (drop n cs) (subst TakeColumns (sym (take-append-drop n cs)) h)

both_take : (a b : List ℕ) → TakeColumns a → TakeColumns b → TakeColumns (a ++ b)
both_take a b h k = all_joined (λ (c : ℕ). 0 < char_columns c) a b h k

without_takes : (cs : List ℕ) (from to : ℕ) → TakeColumns cs → TakeColumns (without cs from to)
without_takes cs from to h = both_take (take from cs) (drop to cs) (front_takes from cs h) (back_takes to cs h)

accepted_takes : (c : ℕ) (b : Bool) → 0 < char_columns c → TakeColumns (if b then c ∷ [] else [])
accepted_takes c true h = (h, tt)
accepted_takes c false h = tt

replaced_takes : (cs new : List ℕ) (from to : ℕ) → TakeColumns cs → TakeColumns (accepted new) → TakeColumns (replaced cs from to new)
replaced_takes cs new from to h k = both_take (take from cs) (accepted new ++ drop to cs) (front_takes from cs h) (both_take (accepted new) (drop to cs) k (back_takes to cs h))

-- ---- fields

-- the field has the same area, and what is typed in it takes columns
record IsKept (old new : Field) : Type 0 where
  area : new.area ≡ old.area
  typed : TakeColumns new.content.text

either : (b : Bool) (f : Field) (o p : Outcome) → IsKept f o.field → IsKept f p.field → IsKept f (if b then o else p).field
either true f o p h k = h
either false f o p h k = k

either_field : (b : Bool) (f g h : Field) → IsKept f g → IsKept f h → IsKept f (if b then g else h)
either_field true f g h a b = a
either_field false f g h a b = b

stays : (f : Field) → TakeColumns f.content.text → IsKept f f
stays f h = record { area = refl; typed = h }

same_text : (f : Field) (e : Editor) → e.text ≡ f.content.text → TakeColumns f.content.text → IsKept f (edited f e)
same_text f e same h = record { area = refl; typed = subst TakeColumns (sym same) h }

up_same : (b : Bool) (e other : Editor) → other.text ≡ e.text → (if b then e else other).text ≡ e.text
up_same true e other h = refl
up_same false e other h = h

up_text : (n : ℕ) (e : Editor) → (moved_up n e).text ≡ e.text
up_text n e = up_same (n == 0) e (moved_to_line e (cursor_line e - n)) refl

down_text : (n : ℕ) (e : Editor) → (moved_down n e).text ≡ e.text
down_text n e = up_same (n == 0) e (moved_to_line e (min (cursor_line e + n) (length (lines e.text) - 1))) refl

selected : (shift : Bool) (f : Field) → (selecting_if shift f).content.text ≡ f.content.text
selected true f = up_same _ f.content _ refl
selected false f = refl

moves : (can : Bool) (f g : Field) (e : Editor) → e.text ≡ g.content.text → g.area ≡ f.area → TakeColumns g.content.text → IsKept f (edited_if can g e).field
moves true f g e same area h = record { area = area; typed = subst TakeColumns (sym same) h }
moves false f g e same area h = record { area = area; typed = h }

moved_kept : (code : KeyCode) (f g : Field) → g.area ≡ f.area → TakeColumns g.content.text → IsKept f (moved_by code g).field
moved_kept Home f g area h = moves _ f g _ refl area h
moved_kept End f g area h = moves _ f g _ refl area h
moved_kept Up f g area h = moves (nat_lt 0 (cursor_line g.content)) f g (moved_up 1 g.content) (up_text 1 g.content) area h
moved_kept Down f g area h = moves (nat_lt (cursor_line g.content + 1) (length (lines g.content.text))) f g (moved_down 1 g.content) (down_text 1 g.content) area h
moved_kept Left f g area h = moves _ f g _ refl area h
moved_kept Right f g area h = moves _ f g _ refl area h
moved_kept PageUp f g area h = moves (nat_lt 0 (cursor_line g.content)) f g (moved_up g.area.height g.content) (up_text g.area.height g.content) area h
moved_kept PageDown f g area h = moves (nat_lt (cursor_line g.content + 1) (length (lines g.content.text))) f g (moved_down g.area.height g.content) (down_text g.area.height g.content) area h
moved_kept _ f g area h = record { area = area; typed = h }

removal_kept : (f : Field) (from to : ℕ) → TakeColumns f.content.text → IsKept f (removal f from to).field
removal_kept f from to h =
    either (is_wide f.content) f _ _ (record { area = refl; typed = replaced_takes f.content.text [] _ _ h tt })
    (either (nat_lt from to) f _ _ (record { area = refl; typed = without_takes f.content.text from to h }) (stays f h))

char_kept : (f : Field) (c : ℕ) → 0 < char_columns c → TakeColumns f.content.text → IsKept f (keys.typed f c).field
char_kept f c takes h =
    either (is_wide f.content) f _ _ (record { area = refl; typed = replaced_takes f.content.text (c ∷ []) _ _ h (accepted_takes c (is_accepted c) takes) })
    (either (is_accepted c) f _ _ (record { area = refl; typed = replaced_takes f.content.text (c ∷ []) _ _ h (accepted_takes c (is_accepted c) takes) }) (stays f h))

key_kept : (code : KeyCode) (shift : Bool) (f : Field) → ((c : ℕ) → code ≡ Char c → 0 < char_columns c) → TakeColumns f.content.text → IsKept f (key_outcome code shift f).field
key_kept Backspace shift f takes h = removal_kept f _ _ h
key_kept Delete shift f takes h = removal_kept f _ _ h
key_kept (Char c) shift f takes h = char_kept f c (takes c refl) h
key_kept code shift f takes h = moved_kept code f (selecting_if shift f) refl (subst TakeColumns (sym (selected shift f)) h)

typed_kept : (key : KeyEvent) (f : Field) → ((c : ℕ) → key.code ≡ Char c → 0 < char_columns c) → TakeColumns f.content.text → IsKept f (typed key f)
typed_kept key f takes h =
    either_field (modifier_bits key.modifiers == 0) f _ _ (key_kept key.code false f takes h)
    (either_field (modifier_bits key.modifiers == 1) f _ _ (key_kept key.code true f takes h) (stays f h))

-- ---- pages

-- the page is on a screen of the same size
record IsSamePlace (p q : Page) : Type 0 where
  columns : q.columns ≡ p.columns
  rows : q.rows ≡ p.rows

either_place : (b : Bool) (p x y : Page) → IsSamePlace p x → IsSamePlace p y → IsSamePlace p (if b then x else y)
either_place true p x y h k = h
either_place false p x y h k = k

motion_place : (motion : Motion) (p : Page) → IsSamePlace p (moved motion p)
motion_place motion.End p = either_place (p.count == 0) p _ _ (record { columns = refl; rows = refl }) (record { columns = refl; rows = refl })
motion_place _ p = record { columns = refl; rows = refl }

command_place : (command : Command) (p : Page) → IsSamePlace p (after_command command p).page
command_place (Moves motion) p = let h = motion_place motion p in record { columns = h.columns; rows = h.rows }
command_place (Counts digit) p = record { columns = refl; rows = refl }
command_place Colon p = record { columns = refl; rows = refl }
command_place Tells p = record { columns = refl; rows = refl }
command_place (Asks ask) p = record { columns = refl; rows = refl }

key_place : (key : KeyEvent) (p : Page) → IsSamePlace p (after_key key p).page
key_place key p = elim p.has_colon as (λ (b : Bool). IsSamePlace p (turn_after b key p).page) [ true ↦ record { columns = refl; rows = refl } | false ↦ let h = command_place (command_of key) (record p { tells = false }) in record { columns = h.columns; rows = h.rows } ]

mouse_place : (kind : MouseEventKind) (x y : ℕ) (p : Page) → IsSamePlace p (after_kind kind x y p)
mouse_place (mouse.Down button.Left) x y p = either_place (is_on_bar p x y) p _ _ (record { columns = refl; rows = refl }) (record { columns = refl; rows = refl })
mouse_place (mouse.Drag button.Left) x y p = either_place p.holds_bar p _ _ (record { columns = refl; rows = refl }) (record { columns = refl; rows = refl })
mouse_place (mouse.Up button.Left) x y p = record { columns = refl; rows = refl }
mouse_place _ x y p = record { columns = refl; rows = refl }

-- ---- sessions

kept_order : (skin : PageSkin) (text : PageAt) (s new : State) → new.laid ≡ s.laid → IsSamePlace s.page new.page → IsKept s.field new.field → IsOrderly skin text s → IsOrderly skin text new
kept_order skin text s new same place kept h = record {
  laid = subst (λ (n : ℕ). IsLaidFor skin text n new.laid) (sym place.columns) (subst (λ (l : PagedPage). IsLaidFor skin text s.page.columns l) (sym same) h.laid);
  field = record {
    area = kept.area ∙ (h.field.area ∙ (ap (λ (n : ℕ). field_row n s.page.rows) (sym place.columns) ∙ ap (λ (n : ℕ). field_row new.page.columns n) (sym place.rows)));
    typed = kept.typed;
  };
}

-- another page, or another thing that is sought
same_order : (skin : PageSkin) (text : PageAt) (s mid new : State) → new ≡ mid → mid.laid ≡ s.laid → IsSamePlace s.page mid.page → IsKept s.field mid.field → IsOrderly skin text s → IsOrderly skin text new
same_order skin text s mid new e same place kept h = subst (λ (x : State). IsOrderly skin text x) (sym e) (kept_order skin text s mid same place kept h)

still : (p : Page) → IsSamePlace p p
still p = record { columns = refl; rows = refl }

-- a search leaves it orderly
found_order : (skin : PageSkin) (text : PageAt) (row : Option ℕ) (s new : State) → new ≡ at_found row s → IsOrderly skin text s → IsOrderly skin text new
found_order skin text None s new e h = same_order skin text s _ new e refl (still s.page) (stays s.field h.field.typed) h
found_order skin text (Some row) s new e h =
    same_order skin text s _ new e refl (either_place (shows_row s.page row) s.page _ _ (still s.page) (record { columns = refl; rows = refl })) (stays s.field h.field.typed) h

-- nor does a header that is put on top
pub header_order : (skin : PageSkin) (text : PageAt) (row : Option ℕ) (s new : State) → new ≡ at_header row s → IsOrderly skin text s → IsOrderly skin text new
header_order skin text None s new e h = same_order skin text s _ new e refl (still s.page) (stays s.field h.field.typed) h
header_order skin text (Some row) s new e h = same_order skin text s _ new e refl (record { columns = refl; rows = refl }) (stays s.field h.field.typed) h

-- on whatever way
found_way : (skin : PageSkin) (text : PageAt) (backward : Bool) (s new : State) → IsFound backward s new → IsOrderly skin text s → IsOrderly skin text new
found_way skin text false s new (row, next, e) h = found_order skin text row s new e h
found_way skin text true s new (row, previous, e) h = found_order skin text row s new e h

-- nor does an empty field
begun_order : (skin : PageSkin) (text : PageAt) (backward : Bool) (s new : State) → new ≡ begun_search backward s → IsOrderly skin text s → IsOrderly skin text new
begun_order skin text backward s new e h = subst (λ (x : State). IsOrderly skin text x) (sym e) (record { laid = h.laid; field = record { area = refl; typed = tt } })

asked_order : (skin : PageSkin) (text : PageAt) (ask : Ask) (s new : State) → IsAsked ask s new → IsOrderly skin text s → IsOrderly skin text new
asked_order skin text Search s new e h = begun_order skin text false s new e h
asked_order skin text SearchBack s new e h = begun_order skin text true s new e h
asked_order skin text Next s new step h = found_way skin text s.is_backward s new step h
asked_order skin text Previous s new step h = found_way skin text (not s.is_backward) s new step h
asked_order skin text NextHeader s new e h = header_order skin text (next_header s.laid.lines.items s.laid.starts.items s.page.top) s new e h
asked_order skin text PreviousHeader s new e h = header_order skin text (previous_header s.laid.lines.items s.laid.starts.items s.page.top) s new e h
asked_order skin text Forget s new e h = same_order skin text s _ new e refl (still s.page) (stays s.field h.field.typed) h
asked_order skin text _ s new e h = same_order skin text s s new e refl (still s.page) (stays s.field h.field.typed) h

key_order : (skin : PageSkin) (text : PageAt) (key : KeyEvent) (s new : State) → IsKeyStep key s new → IsOrderly skin text s → IsOrderly skin text new
key_order skin text key s new step h =
    asked_order skin text (after_key key s.page).ask (record s { page = (after_key key s.page).page }) new step
    (kept_order skin text s (record s { page = (after_key key s.page).page }) refl (key_place key s.page) (stays s.field h.field.typed) h)

-- a key that is no character
other_order : (skin : PageSkin) (text : PageAt) (code : KeyCode) (key : KeyEvent) (s new : State) → ((c : ℕ) → code ≡ Char c → ⊥) → key.code ≡ code → new ≡ record s { field = typed key s.field } → IsOrderly skin text s
    → IsOrderly skin text new
other_order skin text code key s new other is e h =
    same_order skin text s (record s { field = typed key s.field }) new e refl (still s.page) (typed_kept key s.field (λ c at. absurd (other c (sym is ∙ at))) h.field.typed) h

char_field : (c : ℕ) (key : KeyEvent) (f : Field) (b : Bool) → key.code ≡ Char c → (b ≡ false → 0 < char_columns c) → TakeColumns f.content.text → IsKept f (if b then f else typed key f)
char_field c key f true is takes h = stays f h
char_field c key f false is takes h = typed_kept key f (λ d at. let same : Char c ≡ Char d = sym is ∙ at in let e : c ≡ d = cc in subst (λ (n : ℕ). 0 < char_columns n) e (takes refl)) h

takes_some : (c : ℕ) → (char_columns c == 0) ≡ false → 0 < char_columns c
takes_some c e = grind (arith, nat_tests)

-- a character that is typed
char_order : (skin : PageSkin) (text : PageAt) (c : ℕ) (key : KeyEvent) (s : State) → key.code ≡ Char c → IsOrderly skin text s → IsOrderly skin text (char_typed c key s)
char_order skin text c key s is h = kept_order skin text s (char_typed c key s) refl (still s.page) (char_field c key s.field (char_columns c == 0) is (takes_some c) h.field.typed) h

-- and so all of a text
text_order : (skin : PageSkin) (text : PageAt) (cs : List ℕ) (s : State) → IsOrderly skin text s → IsOrderly skin text (text_typed cs s)
text_order skin text [] s h = h
text_order skin text (c ∷ cs) s h = text_order skin text cs (char_typed c (char_key c) s) (char_order skin text c (char_key c) s refl h)

-- an earlier text in an empty field
recalled_order : (skin : PageSkin) (text : PageAt) (back : ℕ) (s new : State) → new ≡ recalled back s → IsOrderly skin text s → IsOrderly skin text new
recalled_order skin text back s new e h =
    subst (λ (x : State). IsOrderly skin text x) (sym e) (text_order skin text (chars (earlier s.past back)) (begun_recall back s) (record { laid = h.laid; field = record { area = refl; typed = tt } }))

type_order : (skin : PageSkin) (text : PageAt) (code : KeyCode) (key : KeyEvent) (s new : State) → key.code ≡ code → IsTypeStep code key s new → IsOrderly skin text s → IsOrderly skin text new
type_order skin text Enter key s new is step h =
    found_way skin text s.types_back (seeking (wanted s) step.0 s) new step.2 (record { laid = h.laid; field = record { area = h.field.area; typed = h.field.typed } })
type_order skin text Esc key s new is e h = same_order skin text s _ new e refl (still s.page) (stays s.field h.field.typed) h
type_order skin text (Char c) key s new is e h = subst (λ (x : State). IsOrderly skin text x) (sym e) (char_order skin text c key s is h)
type_order skin text Backspace key s new is e h = other_order skin text Backspace key s new (λ c at. cc) is e h
type_order skin text Delete key s new is e h = other_order skin text Delete key s new (λ c at. cc) is e h
type_order skin text Insert key s new is e h = other_order skin text Insert key s new (λ c at. cc) is e h
type_order skin text Tab key s new is e h = other_order skin text Tab key s new (λ c at. cc) is e h
type_order skin text BackTab key s new is e h = other_order skin text BackTab key s new (λ c at. cc) is e h
type_order skin text Home key s new is e h = other_order skin text Home key s new (λ c at. cc) is e h
type_order skin text End key s new is e h = other_order skin text End key s new (λ c at. cc) is e h
type_order skin text Up key s new is e h = recalled_order skin text (further_back s) s new e h
type_order skin text Down key s new is e h = recalled_order skin text (s.back - 1) s new e h
type_order skin text Left key s new is e h = other_order skin text Left key s new (λ c at. cc) is e h
type_order skin text Right key s new is e h = other_order skin text Right key s new (λ c at. cc) is e h
type_order skin text PageUp key s new is e h = other_order skin text PageUp key s new (λ c at. cc) is e h
type_order skin text PageDown key s new is e h = other_order skin text PageDown key s new (λ c at. cc) is e h
type_order skin text (F n) key s new is e h = other_order skin text (F n) key s new (λ c at. cc) is e h
type_order skin text Null key s new is e h = other_order skin text Null key s new (λ c at. cc) is e h

-- so does a key of a pasted text
pasted_key_order : (skin : PageSkin) (text : PageAt) (code : KeyCode) (key : KeyEvent) (s : State) → key.code ≡ code → IsOrderly skin text s → IsOrderly skin text (pasted_code code key s)
pasted_key_order skin text (Char c) key s is h = type_order skin text (Char c) key s _ is refl h
pasted_key_order skin text _ key s is h = h

pasted_typing : (skin : PageSkin) (text : PageAt) (key : KeyEvent) (s : State) (b : Bool) → IsOrderly skin text s → IsOrderly skin text (if b then pasted_code key.code key s else s)
pasted_typing skin text key s true h = pasted_key_order skin text key.code key s refl h
pasted_typing skin text key s false h = h

-- and an event of one
pub pasted_order : (skin : PageSkin) (text : PageAt) (event : Event) (s : State) → IsOrderly skin text s → IsOrderly skin text (pasted event s)
pasted_order skin text (Key key) s h = pasted_typing skin text key s s.is_typing h
pasted_order skin text _ s h = h

any_key_order : (skin : PageSkin) (text : PageAt) (key : KeyEvent) (s new : State) (b : Bool) → s.is_typing ≡ b → IsAnyKeyStep key s new → IsOrderly skin text s → IsOrderly skin text new
any_key_order skin text key s new true is step h = type_order skin text key.code key s new refl (step.typing is) h
any_key_order skin text key s new false is step h = key_order skin text key s new (step.other is) h

-- a field that was given the last row of another screen
moved_area : (columns rows : ℕ) (s : State) (new : Field) → s.field.area ≡ field_row s.page.columns s.page.rows → IsMovedTo (field_row columns rows) s.field new → (new.area ≡ field_row columns rows) × (new.content ≡ s.field.content)
moved_area columns rows s new at h =
    elim (cases_eq (columns - 1) (s.page.columns - 1)) [
      | inl wide ↦ elim (cases_eq (rows - 1) (s.page.rows - 1)) [
        | inl high ↦
            let place : field_row columns rows ≡ s.field.area = cc in
            let e = h.same place in
            (ap (λ (f : Field). f.area) e ∙ sym place, ap (λ (f : Field). f.content) e)
        | inr low ↦ let e = h.other (λ place. low (ap (λ (a : Area). a.top) (place ∙ at))) in (ap (λ (f : Field). f.area) e, ap (λ (f : Field). f.content) e)
      ]
      | inr narrow ↦ let e = h.other (λ place. narrow (ap (λ (a : Area). a.width) (place ∙ at))) in (ap (λ (f : Field). f.area) e, ap (λ (f : Field). f.content) e)
    ]

-- it is so on a screen of another size, whatever was laid out before
pub resized_order : (skin : PageSkin) (text : PageAt) (columns rows : ℕ) (s new : State) → IsResized skin text columns rows s new → IsFieldInRow s → IsOrderly skin text new
resized_order skin text columns rows s new step h =
    let moved = moved_area columns rows s new.field h.area step.field in
    let wide : new.page.columns ≡ columns = ap (λ (p : Page). p.columns) step.page in
    let high : new.page.rows ≡ rows = ap (λ (p : Page). p.rows) step.page in
    record {
      laid = subst (λ (n : ℕ). IsLaidFor skin text n new.laid) (sym wide) step.laid;
      field = record {
        area = moved.0 ∙ (ap (λ (n : ℕ). field_row n rows) (sym wide) ∙ ap (λ (n : ℕ). field_row new.page.columns n) (sym high));
        typed = subst (λ (e : Editor). TakeColumns e.text) (sym moved.1) h.typed;
      };
    }

heard_order : (skin : PageSkin) (text : PageAt) (b : Bool) (columns rows : ℕ) (s new : State)
    → new ≡ (if b then s else record s { told = Some (record { columns = columns; rows = rows }) }) → IsOrderly skin text s → IsOrderly skin text new
heard_order skin text true columns rows s new e h = same_order skin text s _ new e refl (still s.page) (stays s.field h.field.typed) h
heard_order skin text false columns rows s new e h = same_order skin text s _ new e refl (still s.page) (stays s.field h.field.typed) h

settled_at : (skin : PageSkin) (text : PageAt) (told : Option ScreenSize) (s new : State) → IsLaidAnew told skin text s new → IsOrderly skin text s → IsOrderly skin text new
settled_at skin text None s new e h = subst (λ (x : State). IsOrderly skin text x) (sym e) h
settled_at skin text (Some size) s new step h = resized_order skin text size.columns size.rows s new step h.field

-- so does a row that is brought on the screen
pub sight_order : (skin : PageSkin) (text : PageAt) (row : ℕ) (s : State) → IsOrderly skin text s → IsOrderly skin text (record s { page = in_sight s.page row })
sight_order skin text row s h =
    kept_order skin text s (record s { page = in_sight s.page row }) refl (either_place (shows_row s.page row) s.page _ _ (still s.page) (record { columns = refl; rows = refl })) (stays s.field h.field.typed) h

-- a text that is laid out anew leaves a session orderly
pub settled_order : (skin : PageSkin) (text : PageAt) (s new : State) → IsSettled skin text s new → IsOrderly skin text s → IsOrderly skin text new
settled_order skin text s new step h = settled_at skin text s.told s new step h

-- and so does an event
pub event_order : (skin : PageSkin) (text : PageAt) (event : Event) (s new : State) → IsEventStep skin text event s new → IsOrderly skin text s → IsOrderly skin text new
event_order skin text (Key key) s new step h = any_key_order skin text key s new s.is_typing refl step h
event_order skin text (Mouse m) s new e h = same_order skin text s _ new e refl (mouse_place m.kind m.column m.row s.page) (stays s.field h.field.typed) h
event_order skin text (Resize columns rows) s new e h = heard_order skin text (nat_lt 1000000 (columns * rows)) columns rows s new e h
event_order skin text FocusGained s new e h = same_order skin text s s new e refl (still s.page) (stays s.field h.field.typed) h
event_order skin text FocusLost s new e h = same_order skin text s s new e refl (still s.page) (stays s.field h.field.typed) h

-- so does a row that is put on top
pub row_order : (skin : PageSkin) (text : PageAt) (number : ℕ) (s : State) → IsOrderly skin text s → IsOrderly skin text (record s { page = begun_at number s.page })
row_order skin text number s h = kept_order skin text s (record s { page = begun_at number s.page }) refl (record { columns = refl; rows = refl }) (stays s.field h.field.typed) h

-- a session is so from its start on
pub start_order : (skin : PageSkin) (text : PageAt) (columns rows : ℕ) (files : Files) (s : State) → IsStart skin text columns rows files s → IsOrderly skin text s
start_order skin text columns rows files s h =
    let wide : s.page.columns ≡ columns = ap (λ (p : Page). p.columns) h.page in
    let high : s.page.rows ≡ rows = ap (λ (p : Page). p.rows) h.page in
    record {
      laid = subst (λ (n : ℕ). IsLaidFor skin text n s.laid) (sym wide) h.laid;
      field = record {
        area = ap (λ (f : Field). f.area) h.field ∙ (ap (λ (n : ℕ). field_row n rows) (sym wide) ∙ ap (λ (n : ℕ). field_row s.page.columns n) (sym high));
        typed = subst (λ (f : Field). TakeColumns f.content.text) (sym h.field) tt;
      };
    }
