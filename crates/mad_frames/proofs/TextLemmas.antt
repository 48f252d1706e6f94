-- A text that begins with a move to the first position leads on from wherever the cursor is.
use Rattle.std.proofs.Common.{◌≡◌, ℕ, ◌<◌, List, [], ◌∷◌, ◌++◌, Some, refl, ap, sym, ◌∙◌, subst, arith, lit<}
use Rattle.std.specs.Prelude.{option_and_then}
use Rattle.std.specs.Str.{chars}
use Rattle.std.proofs.lemmas.Str.{chars-append}
use Rattle.mad_term.specs.declared.commands.ClearType.TheVariants.{All}
use Rattle.mad_term.specs.Commands.{clear_bytes, move_to_bytes, sgr_bytes}
use Rattle.mad_screen.specs.Glyph.{Glyph, Look}
use Rattle.mad_screen.specs.Grid.{Grid, IsGrid, empty_grid, plain_pen}
use Rattle.mad_screen.specs.Terminal.{Leads, after_bytes, feed_all, resting}
use Rattle.mad_screen.proofs.CommandsRead.{move_read}
use Rattle.mad_screen.proofs.Paints.{read_leads}
use Rattle.mad_screen.proofs.Reading.{feed_all-append, then_leads}
use Rattle.mad_screen.proofs.ReadingBack.{read_was}
use Rattle.mad_frames.specs.Changes.{SameSize, ShowsCells}
use Rattle.mad_frames.specs.Frames.{FrameState, MayShow, new_frame}
use Rattle.mad_frames.specs.Mending.{mended}
use Rattle.mad_frames.specs.Scrolling.{ReadsTo, BringTo, Bring}
use Rattle.mad_frames.specs.Whole.{IsWholeGrid}
use Rattle.mad_frames.proofs.FrameLemmas.{cleared, false_known}
use Rattle.mad_frames.proofs.MendLemmas.{empty_stays, whole_screen_stays}
use Rattle.mad_frames.proofs.ScrollLemmas.{plain_reads, reads_both}

-- ---- a text after a move

-- what is read after a front of a text
rest_leads : (g mid new : Grid) (front rest : List ℕ) → Leads (resting g) front (resting mid) → Leads (resting g) (front ++ rest) (resting new) → Leads (resting mid) rest (resting new)
unfolding Leads
rest_leads g mid new front rest p q = sym (feed_all-append front rest (resting g) ∙ ap (option_and_then (feed_all rest)) p) ∙ q

-- two screens that differ in their cursor alone, once it was moved
same_moved : (t g : Grid) → t.width ≡ g.width → t.height ≡ g.height → t.cells ≡ g.cells → t.pen ≡ g.pen → record g { x = 0; y = 0 } ≡ record t { x = 0; y = 0 }
same_moved t g width height cells pen =
    ap (λ (w : ℕ). let r : Grid = record { width = w; height = g.height; cells = g.cells; x = 0; y = 0; pen = g.pen } in r) (sym width)
    ∙ ap (λ (h : ℕ). let r : Grid = record { width = t.width; height = h; cells = g.cells; x = 0; y = 0; pen = g.pen } in r) (sym height)
    ∙ ap (λ (l : List Glyph). let r : Grid = record { width = t.width; height = t.height; cells = l; x = 0; y = 0; pen = g.pen } in r) (sym cells)
    ∙ ap (λ (p : Look). let r : Grid = record { width = t.width; height = t.height; cells = t.cells; x = 0; y = 0; pen = p } in r) (sym pen)

home_read : (t g new : Grid) (text rest : List ℕ) → 0 < g.width → 0 < g.height → t.width ≡ g.width → t.height ≡ g.height → t.cells ≡ g.cells → t.pen ≡ g.pen → text ≡ move_to_bytes 0 0 ++ rest → after_bytes g text ≡ Some new → after_bytes t text ≡ Some new
home_read t g new text rest wide high width height cells pen e read =
    let move : List ℕ = move_to_bytes 0 0 in
    let there : Grid = record g { x = 0; y = 0 } in
    let here : Grid = record t { x = 0; y = 0 } in
    let whole = read_was g new text read in
    let moved = read_was g there move (move_read g 0 0 wide high (lit< tt) (lit< tt)) in
    let also = read_was t here move (move_read t 0 0 (omega arith) (omega arith) (lit< tt) (lit< tt)) in
    let split : chars text ≡ chars move ++ chars rest = ap chars e ∙ chars-append move rest moved.0 in
    let behind : Leads (resting there) (chars rest) (resting new) =
    rest_leads g there new (chars move) (chars rest) moved.1 (subst (λ (cs : List ℕ). Leads (resting g) cs (resting new)) split whole.1) in
    let from : Leads (resting here) (chars rest) (resting new) = subst (λ (m : Grid). Leads (resting m) (chars rest) (resting new)) (same_moved t g width height cells pen) behind in
    read_leads t new text whole.0
    (subst (λ (cs : List ℕ). Leads (resting t) cs (resting new)) (sym split) (then_leads (resting t) (resting here) (resting new) (chars move) (chars rest) also.1 from))

-- it leads on from the cells of whole characters
pub text_brings : (old new : Grid) (text rest : List ℕ) → IsGrid old → old.pen ≡ plain_pen → IsWholeGrid old → IsGrid new → new.pen ≡ plain_pen → IsWholeGrid new → 0 < old.width → 0 < old.height → text ≡ move_to_bytes 0 0 ++ rest → after_bytes old text ≡ Some new → BringTo (mended old) (mended new) text
text_brings old new text rest old_grid old_pen old_whole new_grid new_pen new_whole wide high e read t shows =
    let cells : t.cells ≡ old.cells = shows.cells ∙ ap (λ (g : Grid). g.cells) (whole_screen_stays old old_grid.full old_whole) in
    let again : after_bytes t text ≡ Some new = home_read t old new text rest wide high (sym shows.size.width) (sym shows.size.height) cells (shows.pen ∙ sym old_pen) e read in (
      new,
      plain_reads t new text again,
      record {
        grid = new_grid;
        pen = new_pen;
        size = record { width = refl; height = refl };
        cells = ap (λ (g : Grid). g.cells) (sym (whole_screen_stays new new_grid.full new_whole));
      },
    )

-- ---- a terminal that is made blank

-- what leads on from a blank screen leads there from any, once the terminal is made blank
pub clearing_brings : (blank next : Grid) (bytes all : List ℕ) → blank ≡ empty_grid blank.width blank.height → SameSize blank next → BringTo (mended blank) (mended next) bytes → all ≡ (sgr_bytes (0 ∷ []) ++ clear_bytes All) ++ bytes → Bring (mended next) all
clearing_brings blank next bytes all is same brings e t grid size =
    let f : FrameState = new_frame blank.width blank.height in
    let may : MayShow f t = record { grid = grid; size = record { width = same.width ∙ size.width; height = same.height ∙ size.height }; shows = false_known (mended f.base) t } in
    let s = cleared f t may in
    let stays : empty_grid blank.width blank.height ≡ mended blank = sym (empty_stays blank.width blank.height) ∙ ap mended (sym is) in
    let r = brings s.0 (subst (λ (g : Grid). ShowsCells g s.0) stays s.2) in
    let both : ReadsTo t ((sgr_bytes (0 ∷ []) ++ clear_bytes All) ++ bytes) r.0 = reads_both t s.0 r.0 (sgr_bytes (0 ∷ []) ++ clear_bytes All) bytes (plain_reads t s.0 (sgr_bytes (0 ∷ []) ++ clear_bytes All) s.1) r.1 in
    (r.0, subst (λ l. ReadsTo t l r.0) (sym e) both, r.2)
