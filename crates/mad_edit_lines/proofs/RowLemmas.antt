-- The lines of a `Vec` of them.
use Rattle.std.proofs.Common.{ℕ, suc, ◌+◌, add-one, ◌<◌, ◌≡◌, List, [], length, take, drop, ◌++◌, set, get_or, sym, ◌∙◌, ap, map, Result, Ok, Err, OnErr}
use Rattle.std.proofs.lemmas.List.{get_or-map, map-set, set-get_or, length-map, map-append, take-map, drop-map}
use Rattle.mad_edit_lines.specs.declared.line.Line.{Line}
use Rattle.mad_edit_lines.specs.TextLines.{lines_of, chars_of, line_at}

-- a line that was read
pub line_read : (ls : List Line) (y : ℕ) (l : Line) → y < length ls → l ≡ get_or ls y l → chars_of l ≡ line_at (lines_of ls) y
line_read ls y l h e = ap chars_of e ∙ sym (get_or-map chars_of ls y l [] h)

-- a line that was written
pub line_written : (ls : List Line) (y : ℕ) (l : Line) → lines_of (set ls y l) ≡ set (lines_of ls) y (chars_of l)
line_written ls y l = map-set chars_of ls y l

-- what holds anyway holds where the call fails
pub always_err : {T E Q : Type 0} (r : Result T E) → Q → OnErr r Q
always_err (Ok x) q = tt
always_err (Err e) q = q

-- a line made of the old one
pub row_made : (ls : List Line) (y : ℕ) (old new : Line) (f : List ℕ → List ℕ) → y < length (lines_of ls) → old ≡ get_or ls y old → chars_of new ≡ f (chars_of old) → lines_of (set ls y new) ≡ set (lines_of ls) y (f (line_at (lines_of ls) y))
row_made ls y old new f h read made =
    let within = simp length-map at h in
    line_written ls y new ∙ ap (set (lines_of ls) y) (made ∙ ap f (line_read ls y old within read))

-- a line that stayed
pub row_kept : (ls : List Line) (y : ℕ) (old new : Line) → y < length (lines_of ls) → old ≡ get_or ls y old → chars_of new ≡ chars_of old → lines_of (set ls y new) ≡ lines_of ls
row_kept ls y old new h read same = row_made ls y old new (λ l. l) h read same ∙ set-get_or (lines_of ls) y []

-- lines that were put in place of others
pub rows_spliced : (ls made : List Line) (y z : ℕ) → lines_of (take y ls ++ (made ++ drop z ls)) ≡ take y (lines_of ls) ++ (lines_of made ++ drop z (lines_of ls))
rows_spliced ls made y z =
    map-append chars_of (take y ls) _
    ∙ ap (λ t. map chars_of (take y ls) ++ t) (map-append chars_of made _)
    ∙ ap (λ t. t ++ (lines_of made ++ map chars_of (drop z ls))) (sym (take-map chars_of y ls))
    ∙ ap (λ t. take y (lines_of ls) ++ (lines_of made ++ t)) (sym (drop-map chars_of z ls))

-- the lines of a list, one of whose lines others have replaced
pub rows_replaced : (ls made new : List Line) (y z : ℕ) → new ≡ take y ls ++ (made ++ drop (z + 1) ls) → lines_of new ≡ take y (lines_of ls) ++ (lines_of made ++ drop (suc z) (lines_of ls))
rows_replaced ls made new y z e = ap lines_of e ∙ rows_spliced ls made y (z + 1) ∙ ap (λ n. take y (lines_of ls) ++ (lines_of made ++ drop n (lines_of ls))) (add-one z)
