-- The marks of rows, by numbers.
use Rattle.std.proofs.Common.{◌≡◌, ℕ, suc, ◌+◌, ◌-◌, ◌≤◌, Bool, true, List, [], ◌∷◌, ◌++◌, length, refl, sym, ap, ◌∙◌, arith, filter}
use Rattle.std.specs.List.{AllByRecursion, flat_map}
use Rattle.mad_md.specs.Flagged.{FlaggedChar, flagged_text}
use Rattle.mad_format.specs.declared.composite.FmtComposite.{FmtComposite}
use Rattle.mad_format.specs.declared.line.FmtLine.{FmtLine}
use Rattle.mad_format.specs.declared.line.FmtLine.TheVariants.{Normal, TableRow, TableRule, HorizontalRule}
use Rattle.mad_mark_runs.specs.Marks.{next_start, value_at}
use Rattle.mad_mark_runs.specs.declared.mark_runs.MarkRun.{MarkRun}
use Rattle.mad_marks.specs.LineMarks.{all_counted, counted_in, has_mark}
use Rattle.mad_marks.specs.RowMarks.{MarkedChar, is_counted, numbered}
use Rattle.mad_marks.specs.RowNumbers.{count_in}
use Rattle.mad_marks.proofs.MarkLemmas.{are_numbered, numbered_joined}
use Rattle.mad_marked_rows.proofs.CursorLemmas.{from_start}
use Rattle.mad_sections.specs.declared.gutters.Gutter.{Gutter}
use Rattle.mad_pages.specs.PageRows.{behind, is_top, marks_from}
use Rattle.markdown_linked_pages.specs.MarkLaws.{IsNoTableRow, RowsHaveTheirMarks, line_marked, row_marked}

-- these runs say what the others say of the characters from the one before this number on
abbrev SayTheSame : List MarkRun → List MarkRun → ℕ → Type 0
SayTheSame marks runs m = (k : ℕ) → m ≤ suc k → value_at runs k ≡ value_at marks k

numbered_same : (marks runs : List MarkRun) (m : ℕ) (cs : List FlaggedChar) → SayTheSame marks runs m → numbered runs m cs ≡ numbered marks m cs
numbered_same marks runs m [] same = refl
numbered_same marks runs m (c ∷ cs) same =
    ap (λ (v : ℕ). record { value = v; char = c } ∷ numbered runs (m + 1) cs) (same m (omega arith)) ∙ ap (λ (l : List MarkedChar). record { value = value_at marks m; char = c } ∷ l) (numbered_same marks runs (m + 1) cs (λ k le. same k (omega (arith, le))))

-- without runs all have the same mark
none_numbered : (n m : ℕ) (cs : List FlaggedChar) → numbered [] n cs ≡ numbered [] m cs
none_numbered n m [] = refl
none_numbered n m (c ∷ cs) = ap (λ (l : List MarkedChar). record { value = 0; char = c } ∷ l) (none_numbered (n + 1) (m + 1) cs)

later_same : (marks runs : List MarkRun) (m next : ℕ) → m ≤ next → SayTheSame marks runs m → SayTheSame marks (marks_from runs next) next
later_same marks runs m next up same = λ k le. from_start runs (next - 1) k (omega (arith, le)) ∙ same k (omega (arith, le, up))

-- a row more
row_more : (marks : List MarkRun) (m : ℕ) (l : FmtComposite) (own rest : List MarkedChar) (lines : List FmtLine) → own ≡ numbered marks m (counted_in has_mark l) → rest ≡ numbered marks (m + count_in has_mark l) (all_counted has_mark lines)
    → own ++ rest ≡ numbered marks m (all_counted has_mark (Normal l ∷ lines))
row_more marks m l own rest lines first later =
    ap (λ (x : List MarkedChar). x ++ rest) first ∙ ap (λ (x : List MarkedChar). numbered marks m (counted_in has_mark l) ++ x) later ∙ sym (numbered_joined marks m (counted_in has_mark l) (all_counted has_mark lines))

-- where no runs are left
unmarked_rows : (gutters : List Gutter) (fresh : ℕ) (marks : List MarkRun) (n m : ℕ) (heads : Bool) (lines : List FmtLine) → SayTheSame marks [] m → AllByRecursion IsNoTableRow lines
    → flat_map row_marked (behind gutters fresh [] n heads lines) ≡ numbered marks m (all_counted has_mark lines)
unmarked_rows gutters fresh marks n m heads [] same none = refl
unmarked_rows gutters fresh marks n m heads (Normal l ∷ lines) same none =
    let cs = flagged_text l.compounds.items in
    row_more marks m l (line_marked [] n (Normal l)) (flat_map row_marked (behind gutters 0 [] n true lines)) lines
    (are_numbered (has_mark l.kind) [] n cs ∙ none_numbered n m (filter (is_counted (has_mark l.kind)) cs) ∙ numbered_same marks [] m (filter (is_counted (has_mark l.kind)) cs) same)
    (unmarked_rows gutters 0 marks n (m + count_in has_mark l) true lines (λ k le. same k (omega (arith, le))) none.1)
unmarked_rows gutters fresh marks n m heads (TableRow row ∷ lines) same none = absurd none.0
unmarked_rows gutters fresh marks n m heads (TableRule rule ∷ lines) same none = unmarked_rows gutters 0 marks n m (is_top rule.position) lines same none.1
unmarked_rows gutters fresh marks n m heads (HorizontalRule ∷ lines) same none = unmarked_rows gutters 0 marks n m true lines same none.1

marked_rows : (gutters : List Gutter) (fresh : ℕ) (marks runs : List MarkRun) (m : ℕ) (heads : Bool) (lines : List FmtLine) → SayTheSame marks runs m → AllByRecursion IsNoTableRow lines
    → flat_map row_marked (behind gutters fresh runs m heads lines) ≡ numbered marks m (all_counted has_mark lines)
marked_rows gutters fresh marks runs m heads [] same none = refl
marked_rows gutters fresh marks [] m heads (line ∷ lines) same none = unmarked_rows gutters fresh marks m m heads (line ∷ lines) same none
marked_rows gutters fresh marks (run ∷ runs) m heads (Normal l ∷ lines) same none =
    let cs = flagged_text l.compounds.items in
    let next : ℕ = m + count_in has_mark l in
    row_more marks m l (line_marked (run ∷ runs) m (Normal l)) (flat_map row_marked (behind gutters 0 (marks_from (run ∷ runs) next) next true lines)) lines
    (are_numbered (has_mark l.kind) (run ∷ runs) m cs ∙ numbered_same marks (run ∷ runs) m (filter (is_counted (has_mark l.kind)) cs) same)
    (marked_rows gutters 0 marks (marks_from (run ∷ runs) next) next true lines (later_same marks (run ∷ runs) m next (omega arith) same) none.1)
marked_rows gutters fresh marks (run ∷ runs) m heads (TableRow row ∷ lines) same none = absurd none.0
marked_rows gutters fresh marks (run ∷ runs) m heads (TableRule rule ∷ lines) same none =
    marked_rows gutters 0 marks (marks_from (run ∷ runs) m) m (is_top rule.position) lines (later_same marks (run ∷ runs) m m (omega arith) same) none.1
marked_rows gutters fresh marks (run ∷ runs) m heads (HorizontalRule ∷ lines) same none = marked_rows gutters 0 marks (marks_from (run ∷ runs) m) m true lines (later_same marks (run ∷ runs) m m (omega arith) same) none.1

-- THE LAW
pub rows_have_marks : RowsHaveTheirMarks
rows_have_marks gutters fresh marks lines none = marked_rows gutters fresh marks marks 0 true lines (λ k le. refl) none
