-- Places of links that are put one after the other.
use Rattle.std.proofs.Common.{◌≡◌, ℕ, ◌+◌, Bool, List, [], ◌∷◌, ◌++◌, chars, refl, ap, sym, ◌∙◌, arith, append_assoc, append-nil}
use Rattle.mad_md.specs.Flagged.{flags_of}
use Rattle.mad_md.specs.declared.compound.Compound.{Compound}
use Rattle.mad_style.specs.declared.kinds.CompositeKind.{CompositeKind}
use Rattle.mad_format.specs.declared.line.FmtLine.{FmtLine}
use Rattle.mad_mark_runs.specs.declared.mark_runs.MarkRun.{MarkRun}
use Rattle.mad_marks.specs.LineMarks.{has_mark}
use Rattle.mad_link_places.specs.LinkPlaces.{line_count, line_places, line_walked, link_mark, next_row, place_at, row_places, row_walked, rows_count, rows_places, text_places, text_walked, walked}
use Rattle.mad_link_places.specs.declared.places.LinkPlace.{LinkPlace}
use Rattle.mad_link_places.specs.declared.places.Walk.{Walk}

-- ---- counts

-- a line more is counted
pub count_more : (count made new whole : ℕ) (line : FmtLine) (lines : List FmtLine) → count + rows_count (line ∷ lines) ≡ whole → made ≡ line_count line → new ≡ count + made → new + rows_count lines ≡ whole
count_more count made new whole line lines h is sum = omega (arith, h, is, sum)

-- all are counted
pub count_all : (count whole : ℕ) (lines : List FmtLine) → count + rows_count lines ≡ whole → lines ≡ [] → count ≡ whole
count_all count whole lines h none = omega (arith, h, ap rows_count none)

-- ---- texts

-- the places in a text and one character more
text_joined : (marks : List MarkRun) (before row : ℕ) (linked : Bool) (w : Walk) (cs : List ℕ) (c : ℕ)
    → text_places marks before row linked w (cs ++ c ∷ []) ≡ text_places marks before row linked w cs ++ place_at before row (text_walked marks linked w cs) (link_mark marks linked (text_walked marks linked w cs).number c)
text_joined marks before row linked w [] c = append-nil (place_at before row w (link_mark marks linked w.number c))
text_joined marks before row linked w (d ∷ cs) c =
    let here = place_at before row w (link_mark marks linked w.number d) in
    let on = walked marks linked w d in
    ap (λ (l : List LinkPlace). here ++ l) (text_joined marks before row linked on cs c)
    ∙ sym (append_assoc here (text_places marks before row linked on cs) (place_at before row (text_walked marks linked on cs) (link_mark marks linked (text_walked marks linked on cs).number c)))

walk_joined : (marks : List MarkRun) (linked : Bool) (w : Walk) (cs : List ℕ) (c : ℕ) → text_walked marks linked w (cs ++ c ∷ []) ≡ walked marks linked (text_walked marks linked w cs) c
walk_joined marks linked w [] c = refl
walk_joined marks linked w (d ∷ cs) c = walk_joined marks linked (walked marks linked w d) cs c

-- a character more is walked over
pub text_walk_put : (marks : List MarkRun) (linked : Bool) (start mid new : Walk) (cs : List ℕ) (c : ℕ) → mid ≡ text_walked marks linked start cs → new ≡ walked marks linked mid c → new ≡ text_walked marks linked start (cs ++ c ∷ [])
text_walk_put marks linked start mid new cs c so is = is ∙ ap (λ (w : Walk). walked marks linked w c) so ∙ sym (walk_joined marks linked start cs c)

-- its place is put after those before
pub text_put : (marks : List MarkRun) (before row : ℕ) (linked : Bool) (start mid : Walk) (cs : List ℕ) (c : ℕ) (old done new : List LinkPlace)
    → done ≡ old ++ text_places marks before row linked start cs → mid ≡ text_walked marks linked start cs → new ≡ done ++ place_at before row mid (link_mark marks linked mid.number c)
    → new ≡ old ++ text_places marks before row linked start (cs ++ c ∷ [])
text_put marks before row linked start mid cs c old done new so at put =
    let here : Walk → List LinkPlace = λ w. place_at before row w (link_mark marks linked w.number c) in
    let there = text_places marks before row linked start cs in
    put
    ∙ ap (λ (l : List LinkPlace). l ++ here mid) so
    ∙ ap (λ (w : Walk). (old ++ there) ++ here w) at
    ∙ append_assoc old there (here (text_walked marks linked start cs))
    ∙ ap (λ (l : List LinkPlace). old ++ l) (sym (text_joined marks before row linked start cs c))

-- ---- compounds

-- a compound more is put, of those that are left
pub row_more : (marks : List MarkRun) (before row : ℕ) (kind : CompositeKind) (w on : Walk) (linked : Bool) (k : Compound) (ks : List Compound) (done new whole : List LinkPlace)
    → done ++ row_places marks before row kind w (k ∷ ks) ≡ whole → linked ≡ has_mark kind (flags_of k) → new ≡ done ++ text_places marks before row linked w (chars k.src.now) → on ≡ text_walked marks linked w (chars k.src.now)
    → new ++ row_places marks before row kind on ks ≡ whole
row_more marks before row kind w on linked k ks done new whole h is put walk =
    let here : Bool → List LinkPlace = λ b. text_places marks before row b w (chars k.src.now) in
    let there : Bool → Walk = λ b. text_walked marks b w (chars k.src.now) in
    let rest : Walk → List LinkPlace = λ x. row_places marks before row kind x ks in
    ap (λ (l : List LinkPlace). l ++ rest on) (put ∙ ap (λ (b : Bool). done ++ here b) is)
    ∙ ap (λ (x : Walk). (done ++ here (has_mark kind (flags_of k))) ++ rest x) (walk ∙ ap there is)
    ∙ append_assoc done (here (has_mark kind (flags_of k))) (rest (there (has_mark kind (flags_of k))))
    ∙ h

-- all are put
pub row_all : (marks : List MarkRun) (before row : ℕ) (kind : CompositeKind) (w : Walk) (ks : List Compound) (done whole : List LinkPlace) → done ++ row_places marks before row kind w ks ≡ whole → ks ≡ [] → done ≡ whole
row_all marks before row kind w ks done whole h none = sym (append-nil done) ∙ ap (λ (l : List Compound). done ++ row_places marks before row kind w l) (sym none) ∙ h

-- a compound more is walked over
pub walk_more : (marks : List MarkRun) (kind : CompositeKind) (w on whole : Walk) (linked : Bool) (k : Compound) (ks : List Compound)
    → row_walked marks kind w (k ∷ ks) ≡ whole → linked ≡ has_mark kind (flags_of k) → on ≡ text_walked marks linked w (chars k.src.now) → row_walked marks kind on ks ≡ whole
walk_more marks kind w on whole linked k ks h is walk =
    ap (λ (x : Walk). row_walked marks kind x ks) (walk ∙ ap (λ (b : Bool). text_walked marks b w (chars k.src.now)) is) ∙ h

-- all are
pub walk_all : (marks : List MarkRun) (kind : CompositeKind) (w whole : Walk) (ks : List Compound) → row_walked marks kind w ks ≡ whole → ks ≡ [] → w ≡ whole
walk_all marks kind w whole ks h none = ap (λ (l : List Compound). row_walked marks kind w l) (sym none) ∙ h

-- ---- rows

-- a row more is put, of those that are left
pub rows_more : (marks next_marks : List MarkRun) (before next_before row below : ℕ) (w on next : Walk) (line : FmtLine) (lines : List FmtLine) (done new whole : List LinkPlace)
    → done ++ rows_places marks before row w (line ∷ lines) ≡ whole → new ≡ done ++ line_places marks before row w line → on ≡ line_walked marks w line → next ≡ next_row on
    → next_marks ≡ marks → next_before ≡ before → below ≡ row + 1 → new ++ rows_places next_marks next_before below next lines ≡ whole
rows_more marks next_marks before next_before row below w on next line lines done new whole h put walk start same same_before down =
    let here = line_places marks before row w line in
    let rest : List MarkRun → ℕ → ℕ → Walk → List LinkPlace = λ m b r x. rows_places m b r x lines in
    ap (λ (l : List LinkPlace). l ++ rest next_marks next_before below next) put
    ∙ ap (λ (m : List MarkRun). (done ++ here) ++ rest m next_before below next) same
    ∙ ap (λ (b : ℕ). (done ++ here) ++ rest marks b below next) same_before
    ∙ ap (λ (r : ℕ). (done ++ here) ++ rest marks before r next) down
    ∙ ap (λ (x : Walk). (done ++ here) ++ rest marks before (row + 1) x) (start ∙ ap next_row walk)
    ∙ append_assoc done here (rest marks before (row + 1) (next_row (line_walked marks w line)))
    ∙ h

-- all are put
pub rows_all : (marks : List MarkRun) (before row : ℕ) (w : Walk) (lines : List FmtLine) (done whole : List LinkPlace) → done ++ rows_places marks before row w lines ≡ whole → lines ≡ [] → done ≡ whole
rows_all marks before row w lines done whole h none = sym (append-nil done) ∙ ap (λ (l : List FmtLine). done ++ rows_places marks before row w l) (sym none) ∙ h
