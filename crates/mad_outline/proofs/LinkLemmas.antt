-- Links in lines, one after the other.
use Rattle.std.proofs.Common.{◌≡◌, ℕ, ◌+◌, ◌-◌, ◌≤◌, List, [], ◌++◌, ◌∷◌, drop, take, length, map, get_or, Result, OnOk, sym, ap, ◌∙◌, arith, append_assoc, append-nil}
use Rattle.std.proofs.lemmas.List.{map-append, take_all}
use Rattle.std.proofs.lemmas.Result.{on_ok_weaker}
use Rattle.mad_md.specs.Flagged.{Run}
use Rattle.mad_md.specs.Lines.{LineContent, content_of, normal}
use Rattle.mad_md.specs.declared.composite.CompositeStyle.TheVariants.{OrderedListItem, Paragraph}
use Rattle.mad_md.specs.declared.line.Line.{Line}
use Rattle.mad_mark_runs.specs.declared.mark_runs.MarkRun.{MarkRun}
use Rattle.markdown_reader.specs.MarkdownSays.{LinkSaid}
use Rattle.mad_outline.specs.LinkLists.{link_lines, links_lines, marks_up_to, number_after, raw_line, runs_with}

-- the lines of a link more are put, of those that are left
pub links_more : (n mark next_n next_mark passed : ℕ) (marks left_marks : List MarkRun) (runs left_runs text : List Run) (link : LinkSaid) (links : List LinkSaid) (done new whole : List LineContent)
    → done ++ links_lines n mark marks runs (link ∷ links) ≡ whole → passed ≡ marks_up_to mark marks → text ≡ runs_with mark (take passed marks) runs → new ≡ done ++ link_lines n text link.address
    → left_marks ≡ drop passed marks → left_runs ≡ drop passed runs → next_n ≡ n + 1 → next_mark ≡ mark + 1
    → new ++ links_lines next_n next_mark left_marks left_runs links ≡ whole
links_more n mark next_n next_mark passed marks left_marks runs left_runs text link links done new whole h far is put lm lr nn nm =
    let p : ℕ = marks_up_to mark marks in
    let here : List LineContent = link_lines n (runs_with mark (take p marks) runs) link.address in
    let rest : ℕ → ℕ → List MarkRun → List Run → List LineContent = λ a b m r. links_lines a b m r links in
    ap (λ (l : List LineContent). l ++ rest next_n next_mark left_marks left_runs) (put ∙ ap (λ (t : List Run). done ++ link_lines n t link.address) (is ∙ ap (λ (k : ℕ). runs_with mark (take k marks) runs) far))
    ∙ ap (λ (a : ℕ). (done ++ here) ++ rest a next_mark left_marks left_runs) nn
    ∙ ap (λ (b : ℕ). (done ++ here) ++ rest (n + 1) b left_marks left_runs) nm
    ∙ ap (λ (m : List MarkRun). (done ++ here) ++ rest (n + 1) (mark + 1) m left_runs) (lm ∙ ap (λ (k : ℕ). drop k marks) far)
    ∙ ap (λ (r : List Run). (done ++ here) ++ rest (n + 1) (mark + 1) (drop p marks) r) (lr ∙ ap (λ (k : ℕ). drop k runs) far)
    ∙ append_assoc done here (rest (n + 1) (mark + 1) (drop p marks) (drop p runs))
    ∙ h

-- all are put
pub links_all : (n mark : ℕ) (marks : List MarkRun) (runs : List Run) (links : List LinkSaid) (done whole : List LineContent) → done ++ links_lines n mark marks runs links ≡ whole → links ≡ [] → done ≡ whole
links_all n mark marks runs links done whole h none = sym (append-nil done) ∙ ap (λ (l : List LinkSaid). done ++ links_lines n mark marks runs l) (sym none) ∙ h

-- what is left begins with this one
pub begins_with : {A : Type 0} (xs : List A) (x : A) → 1 ≤ length xs → x ≡ get_or xs 0 x → xs ≡ x ∷ take (length xs - 1) (drop 1 xs)
begins_with [] x some is = absurd (omega arith)
begins_with {A = A} (y ∷ ys) x some is = ap (λ (z : A). z ∷ ys) (sym is) ∙ ap (λ (l : List A). x ∷ l) (sym (take_all (length (y ∷ ys) - 1) ys (omega arith)))

-- two lines are put
two_put : (old one two : List Line) (item last : Line) → one ≡ old ++ item ∷ [] → two ≡ one ++ last ∷ [] → map content_of two ≡ map content_of old ++ content_of item ∷ content_of last ∷ []
two_put old one two item last e f =
    ap (map content_of) (f ∙ ap (λ (l : List Line). l ++ last ∷ []) e ∙ append_assoc old (item ∷ []) (last ∷ [])) ∙ map-append content_of old (item ∷ last ∷ [])

-- the lines of a link are put
pub link_put : (old one two : List Line) (item last : Line) (n number : ℕ) (text : List Run) (address : List ℕ) → one ≡ old ++ item ∷ [] → two ≡ one ++ last ∷ [] → content_of item ≡ normal (record { style = OrderedListItem 0 number; runs = text })
    → number ≡ number_after n → content_of last ≡ raw_line Paragraph address → map content_of two ≡ map content_of old ++ link_lines n text address
link_put old one two item last n number text address e f said is address_said =
    two_put old one two item last e f
    ∙ ap (λ (l : LineContent). map content_of old ++ l ∷ content_of last ∷ []) (said ∙ ap (λ (k : ℕ). normal (record { style = OrderedListItem 0 k; runs = text })) is)
    ∙ ap (λ (l : LineContent). map content_of old ++ normal (record { style = OrderedListItem 0 (number_after n); runs = text }) ∷ l ∷ []) address_said

-- the links of a section are put, along what is equal; up to which section links have numbers doesn't matter
pub section_put : {T E : Type 0} (r : Result T E) (old new : List LineContent) (given_n n mark : ℕ) (given_marks marks : List MarkRun) (given_runs runs : List Run) (given_links links : List LinkSaid)
    → given_n ≡ n → given_marks ≡ marks → given_runs ≡ runs → given_links ≡ links → OnOk r (new ≡ old ++ links_lines given_n mark given_marks given_runs given_links)
    → OnOk r ((to : ℕ) → new ≡ old ++ links_lines n mark marks runs links)
section_put r old new given_n n mark given_marks marks given_runs runs given_links links a b c d h =
    on_ok_weaker r (λ put to.
    put
    ∙ ap (λ (k : ℕ). old ++ links_lines k mark given_marks given_runs given_links) a
    ∙ ap (λ (m : List MarkRun). old ++ links_lines n mark m given_runs given_links) b
    ∙ ap (λ (l : List Run). old ++ links_lines n mark marks l given_links) c
    ∙ ap (λ (l : List LinkSaid). old ++ links_lines n mark marks runs l) d) h
