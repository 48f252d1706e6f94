-- The marks of texts, one after the other.
use Rattle.std.proofs.Common.{◌≡◌, ℕ, zero, suc, ◌+◌, ◌<◌, ◌≤◌, List, [], ◌∷◌, ◌++◌, map, length, drop, get_or, refl, sym, ap, ◌∙◌, arith, append_assoc, append-nil}
use Rattle.std.specs.Prelude.{chars}
use Rattle.std.proofs.lemmas.List.{drop_more, drop_all}
use Rattle.mad_mark_runs.specs.Marks.{count_of}
use Rattle.mad_mark_runs.specs.Values.{end_from, run_behind}
use Rattle.mad_mark_runs.specs.declared.mark_runs.MarkRun.{MarkRun}
use Rattle.mad_mark_runs.proofs.ValueLemmas.{end_joined}
use Rattle.mad_link_marks.specs.LinkMarks.{first_link, marks_behind}

end_behind : (end value count : ℕ) → end_from end (run_behind end value count) ≡ end + count
end_behind end value zero = omega arith
end_behind end value (suc n) = refl

-- where the marks of one more text are put, those of the texts behind it are to come
pub marks_next : {S : Type 0} (bytes : S → List ℕ) (done now whole : List MarkRun) (numbers : List ℕ) (texts : List S) (index mark count n : ℕ) (d : S) → index < length numbers → index < length texts → mark ≡ first_link + get_or numbers index n
    → count ≡ count_of (chars (bytes (get_or texts index d))) → now ≡ done ++ run_behind (end_from 0 done) mark count → done ++ marks_behind (end_from 0 done) (drop index numbers) (map bytes (drop index texts)) ≡ whole
    → now ++ marks_behind (end_from 0 now) (drop (index + 1) numbers) (map bytes (drop (index + 1) texts)) ≡ whole
unfolding marks_behind
marks_next {S = S} bytes done now whole numbers texts index mark count n d in_numbers in_texts mark_is count_is now_is is =
    let end : ℕ = end_from 0 done in
    let number : ℕ = get_or numbers index n in
    let text : S = get_or texts index d in
    let others : List ℕ = drop (index + 1) numbers in
    let behind : List (List ℕ) = map bytes (drop (index + 1) texts) in
    let many : ℕ = count_of (chars (bytes text)) in
    let here : List MarkRun = run_behind end (first_link + number) many in
    let now_here : now ≡ done ++ here = now_is ∙ ap (λ (v : ℕ). done ++ run_behind end v count) mark_is ∙ ap (λ (k : ℕ). done ++ run_behind end (first_link + number) k) count_is in
    let ends : end_from 0 now ≡ end + many = ap (end_from 0) now_here ∙ end_joined 0 done here ∙ end_behind end (first_link + number) many in
    ap (λ (e : ℕ). now ++ marks_behind e others behind) ends
    ∙ ap (λ (l : List MarkRun). l ++ marks_behind (end + many) others behind) now_here
    ∙ append_assoc done here (marks_behind (end + many) others behind)
    ∙ sym (ap (λ (ns : List ℕ). done ++ marks_behind end ns (map bytes (drop index texts))) (drop_more numbers index n in_numbers)
    ∙ ap (λ (ts : List S). done ++ marks_behind end (number ∷ others) (map bytes ts)) (drop_more texts index d in_texts))
    ∙ is

-- where no number or no text is left, all are put
pub marks_done : {S : Type 0} (bytes : S → List ℕ) (done whole : List MarkRun) (end : ℕ) (numbers : List ℕ) (texts : List S) (index : ℕ) → length numbers ≤ index
    → done ++ marks_behind end (drop index numbers) (map bytes (drop index texts)) ≡ whole → done ≡ whole
unfolding marks_behind
marks_done bytes done whole end numbers texts index past is =
    sym (ap (λ (ns : List ℕ). done ++ marks_behind end ns (map bytes (drop index texts))) (drop_all index numbers past) ∙ append-nil done) ∙ is

-- the same where no text is left
pub texts_done : {S : Type 0} (bytes : S → List ℕ) (done whole : List MarkRun) (end : ℕ) (numbers : List ℕ) (texts : List S) (index : ℕ) → length texts ≤ index
    → done ++ marks_behind end (drop index numbers) (map bytes (drop index texts)) ≡ whole → done ≡ whole
unfolding marks_behind
texts_done {S = S} bytes done whole end numbers texts index past is =
    sym (ap (λ (ts : List S). done ++ marks_behind end (drop index numbers) (map bytes ts)) (drop_all index texts past) ∙ none done end (drop index numbers)) ∙ is
  where
    none : (done : List MarkRun) (end : ℕ) (numbers : List ℕ) → done ++ marks_behind end numbers [] ≡ done
    none done end [] = append-nil done
    none done end (n ∷ numbers) = append-nil done
