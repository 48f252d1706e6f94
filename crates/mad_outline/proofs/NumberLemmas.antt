-- Numbers of links, along what is equal.
use Rattle.std.proofs.Common.{◌≡◌, ℕ, ◌+◌, List, ◌++◌, Result, OnOk, ap, ◌∙◌}
use Rattle.std.proofs.lemmas.Result.{on_ok_weaker}
use Rattle.mad_format.specs.declared.line.FmtLine.{FmtLine}
use Rattle.mad_link_places.specs.LinkPlaces.{section_places}
use Rattle.mad_link_places.specs.declared.places.LinkPlace.{LinkPlace}
use Rattle.mad_mark_runs.specs.declared.mark_runs.MarkRun.{MarkRun}

-- the numbers of a section are put; up to which section links have numbers doesn't matter
pub numbers_put : {T E : Type 0} (r : Result T E) (old new : List LinkPlace) (given_marks marks : List MarkRun) (given_before before given_row row given_hidden hidden given_shown shown : ℕ) (given_rows rows : List FmtLine)
    → given_marks ≡ marks → given_before ≡ before → given_row ≡ row → given_hidden ≡ hidden → given_shown ≡ shown → given_rows ≡ rows → OnOk r (new ≡ old ++ section_places given_marks given_before given_row given_hidden given_shown given_rows)
    → OnOk r ((to : ℕ) → new ≡ old ++ section_places marks before row hidden shown rows)
numbers_put r old new given_marks marks given_before before given_row row given_hidden hidden given_shown shown given_rows rows a b c d e f h =
    on_ok_weaker r (λ put to.
    put
    ∙ ap (λ (m : List MarkRun). old ++ section_places m given_before given_row given_hidden given_shown given_rows) a
    ∙ ap (λ (n : ℕ). old ++ section_places marks n given_row given_hidden given_shown given_rows) b
    ∙ ap (λ (n : ℕ). old ++ section_places marks before n given_hidden given_shown given_rows) c
    ∙ ap (λ (n : ℕ). old ++ section_places marks before row n given_shown given_rows) d
    ∙ ap (λ (n : ℕ). old ++ section_places marks before row hidden n given_rows) e
    ∙ ap (λ (l : List FmtLine). old ++ section_places marks before row hidden shown l) f) h
