-- Texts that are written part by part, line by line.
use Rattle.std.proofs.Common.{◌≡◌, ℕ, ◌+◌, ◌<◌, List, [], ◌++◌, length, take, drop, get_or, Option, Result, Ok, Err, OnOk, ap, sym, ◌∙◌, subst, append_assoc}
use Rattle.std.specs.Result.{IsErrAnd}
use Rattle.std.proofs.lemmas.Grind.{flat_map-append}
use Rattle.std.proofs.lemmas.List.{append-nil, take-append-drop}
use Rattle.mad_md.specs.Lines.{LineContent}
use Rattle.mad_term.specs.Draws.{Refused}
use Rattle.mad_term.specs.Trace.{Trace, after}
use Rattle.mad_term.specs.declared.errors.Error.{Error}
use Rattle.mad_term.specs.declared.errors.Error.TheVariants.{Memory}
use Rattle.mad_term.proofs.Exits.{refused_exit, refused_in_first, refused_in_second}
use Rattle.mad_term.proofs.Traces.{took_none, took_both, stopped_before}
use Rattle.mad_blocks.specs.TextParts.{text_parts}
use Rattle.mad_format.specs.declared.line.FmtLine.{FmtLine}
use Rattle.mad_blocks.proofs.LayoutJoins.{apart_parts}
use Rattle.mad_blocks.proofs.PartCursorLemmas.{LaidSoFar, laid_none}
use Rattle.mad_rows.specs.RowStyles.{line_rules}
use Rattle.mad_rows.specs.Rows.{line_bytes, text_bytes}
use Rattle.mad_rows.proofs.PieceLemmas.{rows_with}
use Rattle.mad_layout.specs.WrittenParts.{WritesPartsOf, HandsOn}
use Rattle.mad_rows.specs.declared.row_skin.RowSkin.{RowSkin}

-- ---- rows that are kept

-- no memory for more of them
pub handed_early : {T : Type 0} (r : Result T Error) (old : Trace) (bytes kept : List ℕ) → IsErrAnd r (λ d. d ≡ Memory) → HandsOn old bytes r old kept
handed_early {T} (Ok x) old bytes kept is = absurd is
handed_early {T} (Err e) old bytes kept is = subst (λ (d : Error). Refused old bytes d old) (sym is) (stopped_before old bytes)

-- the bytes were refused, as the call answers
pub hands_refused : {T : Type 0} (r : Result T Error) (e : Error) (old new : Trace) (bytes kept : List ℕ) → IsErrAnd r (λ d. d ≡ e) → Refused old bytes e new → HandsOn old bytes r new kept
hands_refused {T} (Ok x) e old new bytes kept is h = absurd is
hands_refused {T} (Err d) e old new bytes kept is h = subst (λ (f : Error). Refused old bytes f new) (sym is) h

-- ---- what is written so far

-- The parts so far are laid out, and their bytes went out or are kept.
pub record WrittenSoFar (skin : RowSkin) (width : Option ℕ) (all left : List LineContent) (kept : List ℕ) (old new : Trace) : Type 0 where
  pub done : List FmtLine
  pub laid : LaidSoFar (line_rules skin) width all left done
  pub sent : List ℕ
  pub bytes : text_bytes skin width done ≡ sent ++ kept
  pub went : new ≡ after old sent

-- no part is written yet
pub written_start : (skin : RowSkin) (width : Option ℕ) (all : List LineContent) (kept : List ℕ) (old : Trace) → kept ≡ [] → WrittenSoFar skin width all all kept old old
written_start skin width all kept old nothing = record { done = []; laid = laid_none (line_rules skin) width all; sent = []; bytes = sym nothing; went = took_none old }

more_bytes : (skin : RowSkin) (width : Option ℕ) (done own : List FmtLine) (sent kept : List ℕ) → text_bytes skin width done ≡ sent ++ kept → text_bytes skin width (done ++ own) ≡ sent ++ (kept ++ text_bytes skin width own)
more_bytes skin width done own sent kept h =
    flat_map-append (line_bytes skin width) done own ∙ ap (λ (b : List ℕ). b ++ text_bytes skin width own) h ∙ append_assoc sent kept (text_bytes skin width own)

-- more lines are handed on
pub written_more : (skin : RowSkin) (width : Option ℕ) (all left later : List LineContent) (own : List FmtLine) (kept new_kept : List ℕ) (old mid new : Trace) → (h : WrittenSoFar skin width all left kept old mid)
    → LaidSoFar (line_rules skin) width all later (h.done ++ own) → HandsOn {T = Unit {0}} mid (kept ++ text_bytes skin width own) (Ok (tt {0})) new new_kept → WrittenSoFar skin width all later new_kept old new
written_more skin width all left later own kept new_kept old mid new h laid (sent, both, went) = record {
  done = h.done ++ own;
  laid = laid;
  sent = h.sent ++ sent;
  bytes = more_bytes skin width h.done own h.sent kept h.bytes ∙ ap (λ (b : List ℕ). h.sent ++ b) both ∙ sym (append_assoc h.sent sent new_kept);
  went = took_both old mid new h.sent sent h.went went;
}

-- ---- exits

-- a refusal owes no whole
pub no_whole : {T : Type 0} (r : Result T Error) (e : Error) (P : Type 0) → IsErrAnd r (λ d. d ≡ e) → OnOk r P
no_whole {T} (Ok x) e P h = absurd h
no_whole {T} (Err d) e P h = tt

-- more lines were refused
pub written_refused : {T : Type 0} (skin : RowSkin) (width : Option ℕ) (all left later : List LineContent) (own : List FmtLine) (kept : List ℕ) (r : Result T Error) (e : Error) (old mid new : Trace)
    → (h : WrittenSoFar skin width all left kept old mid) → LaidSoFar (line_rules skin) width all later (h.done ++ own) → IsErrAnd r (λ d. d ≡ e) → Refused mid (kept ++ text_bytes skin width own) e new
    → WritesPartsOf skin width all old r new
written_refused {T} skin width all left later own kept r e old mid new h laid is refused = record {
  front = laid.front;
  rest = later;
  joins = laid.joins;
  parts = ap text_parts laid.joins ∙ apart_parts laid.front later laid.whole;
  all = no_whole r e (later ≡ []) is;
  lines = h.done ++ own;
  layout = laid.layout;
  drawn = refused_exit r e old new (text_bytes skin width (h.done ++ own)) is
      (subst (λ (b : List ℕ). Refused old b e new) (sym (more_bytes skin width h.done own h.sent kept h.bytes)) (refused_in_second e old mid new h.sent (kept ++ text_bytes skin width own) h.went refused));
}

-- a fault cut the bytes short that are kept
pub written_cut_short : {T : Type 0} (skin : RowSkin) (width : Option ℕ) (all left : List LineContent) (kept : List ℕ) (r : Result T Error) (e : Error) (old mid new : Trace)
    → WrittenSoFar skin width all left kept old mid → IsErrAnd r (λ d. d ≡ e) → Refused mid kept e new → WritesPartsOf skin width all old r new
written_cut_short {T} skin width all left kept r e old mid new h is refused =
    written_refused skin width all left left [] kept r e old mid new h (subst (LaidSoFar (line_rules skin) width all left) (sym (append-nil h.done)) h.laid) is (subst (λ (b : List ℕ). Refused mid b e new) (sym (append-nil kept)) refused)

-- out of memory, with bytes that are kept
pub written_early : {T : Type 0} (skin : RowSkin) (width : Option ℕ) (all left : List LineContent) (kept : List ℕ) (r : Result T Error) (old new : Trace)
    → WrittenSoFar skin width all left kept old new → IsErrAnd r (λ d. d ≡ Memory) → WritesPartsOf skin width all old r new
written_early {T} skin width all left kept r old new h is = written_cut_short skin width all left kept r Memory old new new h is (stopped_before new kept)

-- all went out
pub written_whole : (skin : RowSkin) (width : Option ℕ) (all left : List LineContent) (kept : List ℕ) (old mid new : Trace)
    → WrittenSoFar skin width all left kept old mid → left ≡ [] → new ≡ after mid kept → WritesPartsOf {T = Unit {0}} skin width all old (Ok (tt {0})) new
written_whole skin width all left kept old mid new h none went = record {
  front = h.laid.front;
  rest = left;
  joins = h.laid.joins;
  parts = ap text_parts h.laid.joins ∙ apart_parts h.laid.front left h.laid.whole;
  all = none;
  lines = h.done;
  layout = h.laid.layout;
  drawn = took_both old mid new h.sent kept h.went went ∙ ap (after old) (sym h.bytes);
}

-- ---- rows handed on, line by line

-- all rows: those down to a line, its own, and those after it
rows_around : (skin : RowSkin) (width : Option ℕ) (kept : List ℕ) (lines : List FmtLine) (i : ℕ) (x : FmtLine) → i < length lines → x ≡ get_or lines i x
    → kept ++ text_bytes skin width lines ≡ ((kept ++ text_bytes skin width (take i lines)) ++ line_bytes skin width x) ++ text_bytes skin width (drop (i + 1) lines)
rows_around skin width kept lines i x inside here =
    ap (λ (ls : List FmtLine). kept ++ text_bytes skin width ls) (sym (take-append-drop (i + 1) lines))
    ∙ ap (λ (t : List ℕ). kept ++ t) (flat_map-append (line_bytes skin width) (take (i + 1) lines) (drop (i + 1) lines))
    ∙ sym (append_assoc kept (text_bytes skin width (take (i + 1) lines)) (text_bytes skin width (drop (i + 1) lines)))
    ∙ ap (λ (t : List ℕ). t ++ text_bytes skin width (drop (i + 1) lines)) (rows_with skin width kept lines i x inside here)

-- the rows down to a line were handed on, and so is its own
pub row_handed : (skin : RowSkin) (width : Option ℕ) (lines : List FmtLine) (i : ℕ) (x : FmtLine) (first kept put new_kept : List ℕ) (old mid new : Trace) → i < length lines → x ≡ get_or lines i x
    → HandsOn {T = Unit {0}} old (first ++ text_bytes skin width (take i lines)) (Ok (tt {0})) mid kept → put ≡ kept ++ line_bytes skin width x
    → HandsOn {T = Unit {0}} mid put (Ok (tt {0})) new new_kept → HandsOn {T = Unit {0}} old (first ++ text_bytes skin width (take (i + 1) lines)) (Ok (tt {0})) new new_kept
row_handed skin width lines i x first kept put new_kept old mid new inside here (sent, is, went) row (more, both, goes) = (
  sent ++ more,
  rows_with skin width first lines i x inside here ∙ ap (λ (t : List ℕ). t ++ line_bytes skin width x) is ∙ append_assoc sent kept (line_bytes skin width x)
      ∙ ap (λ (t : List ℕ). sent ++ t) (sym row ∙ both) ∙ sym (append_assoc sent more new_kept),
  took_both old mid new sent more went goes,
)

-- a row was refused, or there was no memory for it
pub row_refused : {T : Type 0} (skin : RowSkin) (width : Option ℕ) (lines : List FmtLine) (i : ℕ) (x : FmtLine) (first kept put any : List ℕ) (r : Result T Error) (e : Error) (old mid new : Trace) → i < length lines → x ≡ get_or lines i x
    → HandsOn {T = Unit {0}} old (first ++ text_bytes skin width (take i lines)) (Ok (tt {0})) mid kept → put ≡ kept ++ line_bytes skin width x
    → IsErrAnd r (λ f. f ≡ e) → Refused mid put e new → HandsOn old (first ++ text_bytes skin width lines) r new any
row_refused {T} skin width lines i x first kept put any r e old mid new inside here (sent, is, went) row error refused =
    let own : List ℕ = line_bytes skin width x in
    let tail : List ℕ = text_bytes skin width (drop (i + 1) lines) in
    let whole : first ++ text_bytes skin width lines ≡ (sent ++ put) ++ tail =
    rows_around skin width first lines i x inside here ∙ ap (λ (t : List ℕ). (t ++ own) ++ tail) is ∙ ap (λ (t : List ℕ). t ++ tail) (append_assoc sent kept own ∙ ap (λ (t : List ℕ). sent ++ t) (sym row)) in
    hands_refused r e old new (first ++ text_bytes skin width lines) any error
    (subst (λ (b : List ℕ). Refused old b e new) (sym whole) (refused_in_first e old new (sent ++ put) tail (refused_in_second e old mid new sent put went refused)))
