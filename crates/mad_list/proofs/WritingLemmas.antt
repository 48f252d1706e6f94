-- What a list that went out shows on a screen.
use Rattle.std.proofs.Common.{◌≡◌, ℕ, List, [], Result, Ok, Err, inl, inr, sym, ◌∙◌, subst}
use Rattle.std.specs.Prelude.{IsErrAnd, OnOk}
use Rattle.std.specs.declared.alloc.AllocError.{AllocError}
use Rattle.std.specs.declared.io.Error as io
use Rattle.mad_term.specs.Draws.{AndFlushes, Draws, DrawsSome}
use Rattle.mad_term.specs.Trace.{Trace, TookWith, failed}
use Rattle.mad_term.specs.declared.errors.Error.{Error}
use Rattle.mad_term.specs.declared.errors.Error.TheVariants.{IO}
use Rattle.mad_term.proofs.Exits.{flushing_refused}
use Rattle.mad_term.proofs.Traces.{flush_failed, took_with}
use Rattle.mad_measure.specs.Areas.{IsWithinLimits}
use Rattle.mad_list_columns.specs.Drawing.{DrawnRow}
use Rattle.mad_list_columns.specs.Shown.{IsKnownLook, IsListShown}
use Rattle.mad_list_columns.specs.Writing.{HasList}
use Rattle.mad_list_columns.specs.declared.cells.ListViewCell.{ListViewCell}
use Rattle.mad_list_columns.specs.declared.columns.ListViewColumn.{ListViewColumn}
use Rattle.mad_list_columns.specs.declared.drawing.ListStyle.{ListStyle}
use Rattle.mad_list_columns.proofs.ShownLemmas.{list_shown}
use Rattle.mad_list.specs.Lists.{AreRowsOf, ShowsListOf, list_columns, list_rows, list_style, list_text}
use Rattle.mad_list.specs.declared.list_view.ListView.{ListView}

-- the text is that of the list, with rows that the code of its columns makes
abbrev pub IsTextOf : {T E F O : Type 0} → (E → T → Result ListViewCell AllocError → Type 0) → ListView T E F O → List ℕ → Type 0
IsTextOf {T} {E} extracts list text = (drawn : List (DrawnRow T E)) × AreRowsOf extracts list drawn × (text ≡ list_text list drawn)

-- what the list writes into an empty text is the text of the list
pub is_text : {T E F O : Type 0} (extracts : E → T → Result ListViewCell AllocError → Type 0) (list : ListView T E F O) (style : ListStyle) (columns : List (ListViewColumn E)) (old new text : List ℕ) → style ≡ list_style list.skin.now → columns ≡ list_columns list → old ≡ [] → text ≡ new → HasList extracts style columns list.area (list_rows list) old new → IsTextOf extracts list text
is_text {T} {E} {F} {O} extracts list style columns old new text is_style is_columns none same has =
    let styled : HasList extracts (list_style list.skin.now) columns list.area (list_rows list) old new = subst (λ (s : ListStyle). HasList extracts s columns list.area (list_rows list) old new) is_style has in
    let columned : HasList extracts (list_style list.skin.now) (list_columns list) list.area (list_rows list) old new = subst (λ (cs : List (ListViewColumn E)). HasList extracts (list_style list.skin.now) cs list.area (list_rows list) old new) is_columns styled in
    let done : HasList extracts (list_style list.skin.now) (list_columns list) list.area (list_rows list) [] new = subst (λ (bs : List ℕ). HasList extracts (list_style list.skin.now) (list_columns list) list.area (list_rows list) bs new) none columned in
    (done.0, done.1, same ∙ done.2)

-- it goes out
pub text_drawn : {T E F O X : Type 0} (extracts : E → T → Result ListViewCell AllocError → Type 0) (list : ListView T E F O) (text : List ℕ) (r : Result X Error) (old new : Trace) → IsTextOf extracts list text → Draws old text r new → DrawsSome (AreRowsOf extracts list) (list_text list) old r new
text_drawn extracts list text r old new is draws = inl (is.0, is.1, subst (λ (t : List ℕ). Draws old t r new) is.2 draws)

-- and shows the list
pub text_shows : {T E F O : Type 0} (extracts : E → T → Result ListViewCell AllocError → Type 0) (list : ListView T E F O) (text : List ℕ) → IsWithinLimits list.area → IsKnownLook (list_style list.skin.now) → IsTextOf extracts list text → ShowsListOf extracts list text
text_shows {T} {E} {F} {O} extracts list text limits known is = (
  is.0,
  is.1,
  λ fits. subst (λ (bytes : List ℕ). IsListShown (list_style list.skin.now) (list_columns list) list.area (list_rows list) is.0 bytes) (sym is.2)
      (list_shown extracts (list_style list.skin.now) (list_columns list) list.area (list_rows list) is.0 limits known is.1 fits),
)

-- what a text does that went out
pub done_where_drawn : {T : Type 0} (r : Result T Error) (old new : Trace) (text : List ℕ) (P : List ℕ → Type 0) → Draws old text r new → P text → OnOk r (TookWith old new P)
done_where_drawn {T} (Ok x) old new text P h p = took_with old new text P h p
done_where_drawn {T} (Err e) old new text P h p = tt

-- the flush failed after a text
pub not_flushed : {T E F O U X : Type 0} (extracts : E → T → Result ListViewCell AllocError → Type 0) (list : ListView T E F O) (r : Result X Error) (done : U) (e : io.Error) (old mid new : Trace) → DrawsSome {T = U} (AreRowsOf extracts list) (list_text list) old (Ok done) mid → new ≡ failed mid → IsErrAnd r (λ x. x ≡ IO e)
    → AndFlushes {T = X} (DrawsSome {T = X} (AreRowsOf extracts list) (list_text list)) old r new
not_flushed {T} {E} {F} {O} {U} {X} extracts list r done e old mid new (inl h) fault is =
    flushing_refused {T = X} (DrawsSome {T = X} (AreRowsOf extracts list) (list_text list)) r (IO e) old new is (inl (h.0, h.1, flush_failed old mid new (list_text list h.0) h.2 fault))
not_flushed extracts list r done e old mid new (inr h) fault is = absurd (cc)
