-- A blank line begins nothing, whatever is open.
use Rattle.std.proofs.Common.{◌≡◌, ℕ, zero, suc, ◌-◌, Bool, true, false, cond, ◌||◌, ◌&&◌, ◌==◌, List, [], ◌∷◌, ◌++◌, length, Option, None, refl, ap, subst, ◌∙◌}
use Rattle.std.proofs.lemmas.Bool.{and_parts, eqb-true}
use Rattle.std.specs.List.{list_all}
use Rattle.markdown_marks.specs.Bytes.{count_in_front, is_blank, is_blank_byte, is_run_alone}
use Rattle.markdown_marks.specs.Marks.{is_rule, underline_level}
use Rattle.markdown_marks.specs.Remaining.{Remaining, columns_in_front, take_columns}
use Rattle.markdown_blocks.specs.Containers.{Matched, Opened, Opens, container_after, container_start, matched, opened}
use Rattle.markdown_blocks.specs.KeptLines.{IsEndOf}
use Rattle.markdown_blocks.specs.Leaves.{is_paragraph, leaf_start}
use Rattle.markdown_blocks.specs.Steps.{State, begun_line, line_after, line_done}
use Rattle.markdown_blocks.specs.declared.containers.Container.{Container}
use Rattle.markdown_blocks.specs.declared.leaves.Deed.TheVariants.{Blank as BlankLine}
use Rattle.markdown_blocks.proofs.FrontLemmas.{matched_end, take_end}

-- ---- what is left of a blank line is blank

all_behind : (p : ℕ → Bool) (front end : List ℕ) → list_all p (front ++ end) ≡ true → list_all p end ≡ true
all_behind p [] end h = h
all_behind p (b ∷ bs) end h = all_behind p bs end (and_parts (p b) (list_all p (bs ++ end)) h).1

blank_end : (bytes end : List ℕ) → IsEndOf bytes end → is_blank bytes ≡ true → is_blank end ≡ true
unfolding is_blank
blank_end bytes end e h = all_behind is_blank_byte e.front end (subst (λ (bs : List ℕ). list_all is_blank_byte bs ≡ true) e.whole h)

pub blank_taken : (n : ℕ) (rest : Remaining) → is_blank rest.bytes ≡ true → is_blank (take_columns n rest).bytes ≡ true
blank_taken n rest h = blank_end rest.bytes (take_columns n rest).bytes (take_end n rest) h

pub blank_matched : (bare : Bool) (containers : List Container) (rest : Remaining) → is_blank rest.bytes ≡ true → is_blank (matched bare containers rest).rest.bytes ≡ true
blank_matched bare containers rest h = blank_end rest.bytes (matched bare containers rest).rest.bytes (matched_end bare containers rest) h

-- ---- no container begins

abbrev after : Bool → (indent column pending : ℕ) → List ℕ → Option Opened
after in_paragraph indent column pending bytes = container_after in_paragraph indent (record { column = column; pending = pending; bytes = bytes })

none_after : (in_paragraph : Bool) (indent column pending : ℕ) → after in_paragraph indent column pending [] ≡ None
unfolding is_rule underline_level is_run_alone count_in_front
none_after true indent column pending = refl
none_after false indent column pending = refl

space_after : (in_paragraph : Bool) (indent column pending : ℕ) (bs : List ℕ) → after in_paragraph indent column pending (32 ∷ bs) ≡ None
unfolding is_rule underline_level is_run_alone count_in_front
space_after true indent column pending bs = refl
space_after false indent column pending bs = refl

tab_after : (in_paragraph : Bool) (indent column pending : ℕ) (bs : List ℕ) → after in_paragraph indent column pending (9 ∷ bs) ≡ None
unfolding is_rule underline_level is_run_alone count_in_front
tab_after true indent column pending bs = refl
tab_after false indent column pending bs = refl

by_blank : (p q : Bool) (in_paragraph : Bool) (indent column pending b : ℕ) (bs : List ℕ) → (b == 32) ≡ p → (b == 9) ≡ q → (p || q) ≡ true → after in_paragraph indent column pending (b ∷ bs) ≡ None
by_blank true q in_paragraph indent column pending b bs e f h = ap (λ (c : ℕ). after in_paragraph indent column pending (c ∷ bs)) (eqb-true b 32 e) ∙ space_after in_paragraph indent column pending bs
by_blank false true in_paragraph indent column pending b bs e f h = ap (λ (c : ℕ). after in_paragraph indent column pending (c ∷ bs)) (eqb-true b 9 f) ∙ tab_after in_paragraph indent column pending bs
by_blank false false in_paragraph indent column pending b bs e f h = let no : false ≡ true = h in absurd (cc)

blank_after : (in_paragraph : Bool) (indent column pending : ℕ) (bytes : List ℕ) → is_blank bytes ≡ true → after in_paragraph indent column pending bytes ≡ None
unfolding is_blank
blank_after in_paragraph indent column pending [] h = none_after in_paragraph indent column pending
blank_after in_paragraph indent column pending (b ∷ bs) h =
    by_blank (b == 32) (b == 9) in_paragraph indent column pending b bs refl refl (and_parts (is_blank_byte b) (list_all is_blank_byte bs) h).0

either_none : (t : Bool) (o : Option Opened) → o ≡ None → cond t None o ≡ None
either_none true o e = refl
either_none false o e = e

none_starts : (in_paragraph : Bool) (rest : Remaining) → is_blank rest.bytes ≡ true → container_start in_paragraph rest ≡ None
unfolding container_start
none_starts in_paragraph rest h =
    let taken = take_columns 4 rest in
    either_none (columns_in_front 4 rest == 4) (container_after in_paragraph (columns_in_front 4 rest) taken)
    (blank_after in_paragraph (columns_in_front 4 rest) taken.column taken.pending taken.bytes (blank_taken 4 rest h))

-- nothing begins, and all of the line is left
abbrev pub no_opens : Remaining → Opens
no_opens rest = record { containers = []; rest = rest }

none_opened : (room : ℕ) (in_paragraph : Bool) (rest : Remaining) → is_blank rest.bytes ≡ true → opened room in_paragraph rest ≡ no_opens rest
unfolding opened
none_opened zero in_paragraph rest h = refl
none_opened (suc room) in_paragraph rest h = rw (none_starts in_paragraph rest h) refl

-- ---- and no leaf

blank_after_opens : (state : State) (count : ℕ) (rest : Remaining) → is_blank rest.bytes ≡ true → line_after state count (no_opens rest) ≡ line_done state count (no_opens rest) BlankLine rest
unfolding leaf_start
blank_after_opens state count rest h = rw h refl

-- a blank line that the open leaf doesn't take begins nothing
pub blank_begun : (state : State) (found : Matched) → is_blank found.rest.bytes ≡ true → begun_line state found ≡ line_done state found.count (no_opens found.rest) BlankLine found.rest
unfolding begun_line
blank_begun state found h =
    ap (λ (o : Opens). line_after state found.count o) (none_opened (64 - found.count) (is_paragraph state.leaf && (found.count == length state.containers)) found.rest h)
    ∙ blank_after_opens state found.count found.rest h
