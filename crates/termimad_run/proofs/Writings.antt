-- Writing a line.
use Rattle.std.proofs.Common.{◌≡◌, ◌≢◌, ℕ, List, [], ◌∷◌, ◌++◌, Option, Some, None, MatchOption, unwrap_or, Result, Ok, Err, Bor, ap, sym, ◌∙◌, subst, inl, inr, append_assoc}
use Rattle.std.specs.Result.{IsErrAnd}
use Rattle.std.proofs.lemmas.Result.{err_from_is_err_and}
use Rattle.mad_term.specs.declared.errors.Error.{Error}
use Rattle.mad_term.specs.declared.errors.Error.TheVariants.{Memory}
use Rattle.mad_term.specs.Trace.{Trace, after}
use Rattle.mad_term.specs.Draws.{Refused}
use Rattle.mad_layout.specs.Inlines.{WritesInline}
use Rattle.mad_layout.specs.RowSkins.{row_skin}
use Rattle.mad_layout.specs.declared.MadSkin.{MadSkin}
use Rattle.termimad_run.specs.LineEnds.{IsWithoutLineEnd}
use Rattle.termimad_run.specs.ProgramRuns.{WritesLine}
use Rattle.mad_term.proofs.Exits.{refused_exit, refused_in_first, refused_in_second}
use Rattle.mad_term.proofs.Traces.{took_both}

-- the line was refused, and its newline was not reached
pub line_refused : {T : Type 0} (skin : MadSkin) (line : List ℕ) (old : Trace) (r : Result T Error) (e : Error) (new : Trace) → IsErrAnd r (λ d. d ≡ e) → WritesInline {T = Unit {0}} (row_skin skin) line old (Err e) new → WritesLine skin line old r new
line_refused skin line old r e new is (inl (items, reads, drawn)) = inl (items, reads, refused_exit r e old new _ is (refused_in_first e old new _ _ drawn))
line_refused skin line old r e new is (inr (memory, kept)) =
    let p = err_from_is_err_and r is in
    let wanted : e ≡ Memory = cc in
    inr (p.1 ∙ ap Err (p.2 ∙ wanted), kept)

-- the line went out, and then its newline was refused
pub line_cut : {T : Type 0} (skin : MadSkin) (line : List ℕ) (old mid : Trace) (r : Result T Error) (e : Error) (new : Trace) → IsErrAnd r (λ d. d ≡ e) → WritesInline {T = Unit {0}} (row_skin skin) line old (Ok (tt {0})) mid → Refused mid (10 ∷ []) e new → WritesLine skin line old r new
line_cut skin line old mid r e new is (inl (items, reads, drawn)) cut = inl (items, reads, refused_exit r e old new _ is (refused_in_second e old mid new _ (10 ∷ []) drawn cut))
line_cut skin line old mid r e new is (inr (memory, kept)) cut = absurd (cc)

-- both went out
pub line_whole : (skin : MadSkin) (line : List ℕ) (old mid new : Trace) → WritesInline {T = Unit {0}} (row_skin skin) line old (Ok (tt {0})) mid → new ≡ after mid (10 ∷ []) → WritesLine {T = Unit {0}} skin line old (Ok (tt {0})) new
line_whole skin line old mid new (inl (items, reads, drawn)) whole = inl (items, reads, took_both old mid new _ (10 ∷ []) drawn whole)
line_whole skin line old mid new (inr (memory, kept)) whole = absurd (cc)

-- The line that a text holds which ends in a newline.
pub line_found : (text : List ℕ) (line : Bor (List ℕ)) (stripped : Option (Bor (List ℕ))) (result : Bor (List ℕ)) → text ≡ line.now ++ (10 ∷ []) → MatchOption stripped ((front : List ℕ) → line.now ≢ front ++ (13 ∷ [])) (λ x. line.now ≡ x.now ++ (13 ∷ [])) → result ≡ unwrap_or stripped line → IsWithoutLineEnd text result.now
line_found text line None result p none is =
    subst (λ (r : Bor (List ℕ)). IsWithoutLineEnd text r.now) (sym is) (inr (inl (p, λ ends. none ends.0 ends.1)))
line_found text line (Some front) result p some is =
    subst (λ (r : Bor (List ℕ)). IsWithoutLineEnd text r.now) (sym is) (inl (p ∙ ap (λ s. s ++ (10 ∷ [])) some ∙ append_assoc front.now (13 ∷ []) (10 ∷ [])))
