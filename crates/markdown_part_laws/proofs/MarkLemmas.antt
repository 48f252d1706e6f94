-- A heading or code between fences ends a paragraph.
use Rattle.std.proofs.Common.{◌≡◌, ℕ, zero, suc, ◌<◌, Bool, true, false, ◌||◌, ◌==◌, List, [], ◌∷◌, ◌++◌, map, replicate, Option, Some, None, is_some, refl, sym, ap, subst, ◌∙◌, append_assoc, append-nil, arith}
use Rattle.std.proofs.lemmas.Bool.{eqb-true}
use Rattle.markdown_marks.specs.Bytes.{count_in_front, is_blank, is_run_alone}
use Rattle.markdown_marks.specs.Marks.{fence_start, heading_level, is_rule, underline_level}
use Rattle.markdown_marks.specs.Remaining.{Remaining, columns_in_front, one_column, skip, take_columns, whole}
use Rattle.markdown_marks.specs.Tables.{cell_count}
use Rattle.markdown_marks.specs.declared.marks.Fence.{Fence}
use Rattle.markdown_blocks.specs.Containers.{container_start, ends_in_item, matched, opened}
use Rattle.markdown_blocks.specs.Events.{events_from}
use Rattle.markdown_blocks.specs.Leaves.{going_on, leaf_start, mark_start}
use Rattle.markdown_blocks.specs.Steps.{begun_line, line_step, step}
use Rattle.markdown_blocks.specs.declared.leaves.Deed.{Deed}
use Rattle.markdown_blocks.specs.declared.leaves.Deed.TheVariants.{Begins, GoesOn, Heading as HeadingDeed}
use Rattle.markdown_blocks.specs.declared.leaves.Leaf.{Leaf}
use Rattle.markdown_blocks.specs.declared.leaves.Leaf.TheVariants.{Nothing as NothingLeaf, Fenced as FencedLeaf, Paragraph as ParagraphLeaf}
use Rattle.markdown_leaves.specs.Gather.{Gathering, begun_in, closed, closed_as_it_is, heading_line, line_done, nothing_told, trimmed}
use Rattle.markdown_leaves.specs.Parts.{PartContent}
use Rattle.markdown_leaves.specs.declared.parts.Kind.TheVariants.{Fenced, Heading}
use Rattle.markdown_laws.specs.Plain.{is_special, paragraph}
use Rattle.markdown_laws.specs.Quotes.{spelled}
use Rattle.markdown_laws.proofs.FenceLemmas.{ended, ended_behind, nothing_open, read_of}
use Rattle.markdown_laws.proofs.LineLemmas.{no_sign, state_with}
use Rattle.markdown_part_laws.specs.Interrupts.{AreWords, BeginsMark, ParagraphEndsAtMark}
use Rattle.markdown_part_laws.proofs.LastLemmas.{closed_kind, closed_none}
use Rattle.markdown_part_laws.proofs.ParagraphLemmas.{after_line, closed_inside, flat, inside_of, line_read, lines_more, words_after_inside, words_after_outside, words_of}
use Rattle.markdown_part_laws.proofs.TextLemmas.{at, begun, done_at, gone_on}

-- ---- the line

-- A line ends the paragraph that is open, and else does what it does where none is.
record EndsWords (line : List ℕ) : Type 0 where
  leaf : Leaf
  deed : Deed
  text : Remaining
  closes : (g : Gathering) → after_line deed text g ≡ after_line deed text (closed g)
  inside : (cells : ℕ) → step (state_with ParagraphLeaf cells) line ≡ done_at leaf 0 deed text
  outside : step (state_with NothingLeaf 0) line ≡ done_at leaf 0 deed text

heading_closes : (level : ℕ) (text : Remaining) (g : Gathering) → after_line (HeadingDeed level) text g ≡ after_line (HeadingDeed level) text (closed g)
unfolding line_done
heading_closes level text g = ap (λ (x : Gathering). record (closed_as_it_is (begun_in (Heading level) (heading_line text) x)) { fresh = false }) (sym (closed_none (closed g) (closed_kind g)))

fence_closes : (sign length indent : ℕ) (text : Remaining) (g : Gathering) → after_line (Begins (FencedLeaf sign length indent)) text g ≡ after_line (Begins (FencedLeaf sign length indent)) text (closed g)
unfolding line_done
fence_closes sign length indent text g = ap (λ (x : Gathering). record (begun_in Fenced (trimmed text) x) { fresh = false }) (sym (closed_none (closed g) (closed_kind g)))

heading_inside : (indent cells level : ℕ) (bs : List ℕ) → indent < 4 → heading_level (35 ∷ bs) ≡ Some level
    → step (state_with ParagraphLeaf cells) (replicate indent 32 ++ 35 ∷ bs) ≡ done_at NothingLeaf 0 (HeadingDeed level) (skip level (at indent (35 ∷ bs)))
unfolding step line_step begun_line matched opened going_on ends_in_item container_start leaf_start mark_start columns_in_front take_columns one_column is_blank is_rule underline_level is_run_alone count_in_front
heading_inside zero cells level bs few e = rw e refl
heading_inside (suc zero) cells level bs few e = rw e refl
heading_inside (suc (suc zero)) cells level bs few e = rw e refl
heading_inside (suc (suc (suc zero))) cells level bs few e = rw e refl
heading_inside (suc (suc (suc (suc n)))) cells level bs few e = absurd (omega (arith, few))

heading_outside : (indent level : ℕ) (bs : List ℕ) → indent < 4 → heading_level (35 ∷ bs) ≡ Some level
    → step (state_with NothingLeaf 0) (replicate indent 32 ++ 35 ∷ bs) ≡ done_at NothingLeaf 0 (HeadingDeed level) (skip level (at indent (35 ∷ bs)))
unfolding step line_step begun_line matched opened going_on ends_in_item container_start leaf_start mark_start columns_in_front take_columns one_column is_blank is_rule
heading_outside zero level bs few e = rw e refl
heading_outside (suc zero) level bs few e = rw e refl
heading_outside (suc (suc zero)) level bs few e = rw e refl
heading_outside (suc (suc (suc zero))) level bs few e = rw e refl
heading_outside (suc (suc (suc (suc n)))) level bs few e = absurd (omega (arith, few))

no_signs : (b : ℕ) (bs : List ℕ) → (b == 35) ≡ false → heading_level (b ∷ bs) ≡ None
unfolding heading_level count_in_front
no_signs b bs e = rw e refl

no_level : (level : ℕ) → heading_level [] ≡ Some level → ⊥
unfolding heading_level count_in_front
no_level level e = let no : None ≡ Some level = e in absurd (cc)

-- behind spaces a text begins what ends a paragraph
abbrev MarkAt : (indent b : ℕ) → List ℕ → Type 0
MarkAt indent b bs = EndsWords (replicate indent 32 ++ b ∷ bs)

heading_at : (t : Bool) (indent b level : ℕ) (bs : List ℕ) → (b == 35) ≡ t → indent < 4 → heading_level (b ∷ bs) ≡ Some level → MarkAt indent b bs
heading_at true indent b level bs e few h =
    let is : b ≡ 35 = eqb-true b 35 e in
    let start : heading_level (35 ∷ bs) ≡ Some level = ap (λ (c : ℕ). heading_level (c ∷ bs)) (sym is) ∙ h in
    subst (λ (c : ℕ). MarkAt indent c bs) (sym is)
    (record {
      leaf = NothingLeaf;
      deed = HeadingDeed level;
      text = skip level (at indent (35 ∷ bs));
      closes = heading_closes level (skip level (at indent (35 ∷ bs)));
      inside = λ cells. heading_inside indent cells level bs few start;
      outside = heading_outside indent level bs few start;
    })
heading_at false indent b level bs e few h = let no : None ≡ Some level = sym (no_signs b bs e) ∙ h in absurd (cc)

tick_inside : (indent cells : ℕ) (fence : Fence) (bs : List ℕ) → indent < 4 → fence_start (96 ∷ bs) ≡ Some fence
    → step (state_with ParagraphLeaf cells) (replicate indent 32 ++ 96 ∷ bs) ≡ done_at (FencedLeaf fence.sign fence.length indent) 0 (Begins (FencedLeaf fence.sign fence.length indent)) (skip fence.length (at indent (96 ∷ bs)))
unfolding step line_step begun_line matched opened going_on ends_in_item container_start leaf_start mark_start columns_in_front take_columns one_column is_blank is_rule heading_level underline_level is_run_alone count_in_front
tick_inside zero cells fence bs few e = rw e refl
tick_inside (suc zero) cells fence bs few e = rw e refl
tick_inside (suc (suc zero)) cells fence bs few e = rw e refl
tick_inside (suc (suc (suc zero))) cells fence bs few e = rw e refl
tick_inside (suc (suc (suc (suc n)))) cells fence bs few e = absurd (omega (arith, few))

tick_outside : (indent : ℕ) (fence : Fence) (bs : List ℕ) → indent < 4 → fence_start (96 ∷ bs) ≡ Some fence
    → step (state_with NothingLeaf 0) (replicate indent 32 ++ 96 ∷ bs) ≡ done_at (FencedLeaf fence.sign fence.length indent) 0 (Begins (FencedLeaf fence.sign fence.length indent)) (skip fence.length (at indent (96 ∷ bs)))
unfolding step line_step begun_line matched opened going_on ends_in_item container_start leaf_start mark_start columns_in_front take_columns one_column is_blank is_rule heading_level count_in_front
tick_outside zero fence bs few e = rw e refl
tick_outside (suc zero) fence bs few e = rw e refl
tick_outside (suc (suc zero)) fence bs few e = rw e refl
tick_outside (suc (suc (suc zero))) fence bs few e = rw e refl
tick_outside (suc (suc (suc (suc n)))) fence bs few e = absurd (omega (arith, few))

tilde_inside : (indent cells : ℕ) (fence : Fence) (bs : List ℕ) → indent < 4 → fence_start (126 ∷ bs) ≡ Some fence
    → step (state_with ParagraphLeaf cells) (replicate indent 32 ++ 126 ∷ bs) ≡ done_at (FencedLeaf fence.sign fence.length indent) 0 (Begins (FencedLeaf fence.sign fence.length indent)) (skip fence.length (at indent (126 ∷ bs)))
unfolding step line_step begun_line matched opened going_on ends_in_item container_start leaf_start mark_start columns_in_front take_columns one_column is_blank is_rule heading_level underline_level is_run_alone count_in_front
tilde_inside zero cells fence bs few e = rw e refl
tilde_inside (suc zero) cells fence bs few e = rw e refl
tilde_inside (suc (suc zero)) cells fence bs few e = rw e refl
tilde_inside (suc (suc (suc zero))) cells fence bs few e = rw e refl
tilde_inside (suc (suc (suc (suc n)))) cells fence bs few e = absurd (omega (arith, few))

tilde_outside : (indent : ℕ) (fence : Fence) (bs : List ℕ) → indent < 4 → fence_start (126 ∷ bs) ≡ Some fence
    → step (state_with NothingLeaf 0) (replicate indent 32 ++ 126 ∷ bs) ≡ done_at (FencedLeaf fence.sign fence.length indent) 0 (Begins (FencedLeaf fence.sign fence.length indent)) (skip fence.length (at indent (126 ∷ bs)))
unfolding step line_step begun_line matched opened going_on ends_in_item container_start leaf_start mark_start columns_in_front take_columns one_column is_blank is_rule heading_level count_in_front
tilde_outside zero fence bs few e = rw e refl
tilde_outside (suc zero) fence bs few e = rw e refl
tilde_outside (suc (suc zero)) fence bs few e = rw e refl
tilde_outside (suc (suc (suc zero))) fence bs few e = rw e refl
tilde_outside (suc (suc (suc (suc n)))) fence bs few e = absurd (omega (arith, few))

no_fence : (b : ℕ) (bs : List ℕ) → (b == 96) ≡ false → (b == 126) ≡ false → fence_start (b ∷ bs) ≡ None
unfolding fence_start
no_fence b bs e f = rw e (rw f refl)

none_fenced : (fence : Fence) → fence_start [] ≡ Some fence → ⊥
unfolding fence_start
none_fenced fence e = let no : None ≡ Some fence = e in absurd (cc)

fence_of : (indent b : ℕ) (fence : Fence) (bs : List ℕ) → ((cells : ℕ) → step (state_with ParagraphLeaf cells) (replicate indent 32 ++ b ∷ bs) ≡ done_at (FencedLeaf fence.sign fence.length indent) 0 (Begins (FencedLeaf fence.sign fence.length indent)) (skip fence.length (at indent (b ∷ bs))))
    → step (state_with NothingLeaf 0) (replicate indent 32 ++ b ∷ bs) ≡ done_at (FencedLeaf fence.sign fence.length indent) 0 (Begins (FencedLeaf fence.sign fence.length indent)) (skip fence.length (at indent (b ∷ bs))) → MarkAt indent b bs
fence_of indent b fence bs f g = record {
  leaf = FencedLeaf fence.sign fence.length indent;
  deed = Begins (FencedLeaf fence.sign fence.length indent);
  text = skip fence.length (at indent (b ∷ bs));
  closes = fence_closes fence.sign fence.length indent (skip fence.length (at indent (b ∷ bs)));
  inside = f;
  outside = g;
}

fence_at : (p q : Bool) (indent b : ℕ) (fence : Fence) (bs : List ℕ) → (b == 96) ≡ p → (b == 126) ≡ q → indent < 4 → fence_start (b ∷ bs) ≡ Some fence → MarkAt indent b bs
fence_at true q indent b fence bs e f few h =
    let is : b ≡ 96 = eqb-true b 96 e in
    let start : fence_start (96 ∷ bs) ≡ Some fence = ap (λ (c : ℕ). fence_start (c ∷ bs)) (sym is) ∙ h in
    subst (λ (c : ℕ). MarkAt indent c bs) (sym is) (fence_of indent 96 fence bs (λ cells. tick_inside indent cells fence bs few start) (tick_outside indent fence bs few start))
fence_at false true indent b fence bs e f few h =
    let is : b ≡ 126 = eqb-true b 126 f in
    let start : fence_start (126 ∷ bs) ≡ Some fence = ap (λ (c : ℕ). fence_start (c ∷ bs)) (sym is) ∙ h in
    subst (λ (c : ℕ). MarkAt indent c bs) (sym is) (fence_of indent 126 fence bs (λ cells. tilde_inside indent cells fence bs few start) (tilde_outside indent fence bs few start))
fence_at false false indent b fence bs e f few h = let no : None ≡ Some fence = sym (no_fence b bs e f) ∙ h in absurd (cc)

mark_by : (level : Option ℕ) (fence : Option Fence) (indent : ℕ) (bytes : List ℕ) → heading_level bytes ≡ level → fence_start bytes ≡ fence → (is_some level || is_some fence) ≡ true → indent < 4 → EndsWords (replicate indent 32 ++ bytes)
mark_by (Some level) fence indent [] e f h few = absurd (no_level level e)
mark_by (Some level) fence indent (b ∷ bs) e f h few = heading_at (b == 35) indent b level bs refl few e
mark_by None (Some fence) indent [] e f h few = absurd (none_fenced fence f)
mark_by None (Some fence) indent (b ∷ bs) e f h few = fence_at (b == 96) (b == 126) indent b fence bs refl refl few f
mark_by None None indent bytes e f h few = let no : false ≡ true = h in absurd (cc)

mark_ends : (line : List ℕ) → BeginsMark line → EndsWords line
mark_ends line m = subst (λ (l : List ℕ). EndsWords l) (sym m.whole) (mark_by (heading_level m.bytes) (fence_start m.bytes) m.indent m.bytes refl refl m.mark m.few)

-- ---- the paragraph before it

-- what is told where this line is the next one
abbrev told_here : List (List ℕ) → List PartContent
told_here lines = ended nothing_told (events_from (state_with NothingLeaf 0) lines)

interrupted : (line : List ℕ) (others : List (List ℕ)) (column b cells : ℕ) (bs : List ℕ) (more : List Remaining) → EndsWords line → (b == 91) ≡ false
    → ended (inside_of [] false (at column (b ∷ bs) ∷ more)) (events_from (state_with ParagraphLeaf cells) (line ∷ others)) ≡ words_of false (at column (b ∷ bs) ∷ more) ∷ told_here (line ∷ others)
interrupted line others column b cells bs more i e =
    let words = at column (b ∷ bs) ∷ more in
    line_read (inside_of [] false words) ParagraphLeaf i.leaf cells 0 i.deed i.text line others (i.inside cells)
    ∙ ap (λ (g : Gathering). ended g (events_from (state_with i.leaf 0) others)) (i.closes (inside_of [] false words) ∙ ap (λ (g : Gathering). after_line i.deed i.text g) (closed_inside [] false column b bs more e))
    ∙ sym (line_read (nothing_open (words_of false words ∷ [])) NothingLeaf i.leaf 0 0 i.deed i.text line others i.outside)
    ∙ ended_behind (words_of false words ∷ []) (events_from (state_with NothingLeaf 0) (line ∷ others))

-- the lines of a paragraph that is open, and then that line
abbrev ReadsOn : (lines texts : List (List ℕ)) (line : List ℕ) → List (List ℕ) → Type 0
ReadsOn lines texts line others =
    (column b cells : ℕ) (bs : List ℕ) (more : List Remaining) (before : List (List ℕ)) → (b == 91) ≡ false → map flat (at column (b ∷ bs) ∷ more) ≡ map whole before
    → map spelled (ended (inside_of [] false (at column (b ∷ bs) ∷ more)) (events_from (state_with ParagraphLeaf cells) (lines ++ line ∷ others))) ≡ paragraph false (before ++ texts) ∷ map spelled (told_here (line ∷ others))

ends_here : (line : List ℕ) (others : List (List ℕ)) → EndsWords line → ReadsOn [] [] line others
ends_here line others i column b cells bs more before e are =
    ap (map spelled) (interrupted line others column b cells bs more i e)
    ∙ ap (λ (ls : List Remaining). words_of false ls ∷ map spelled (told_here (line ∷ others))) are
    ∙ ap (λ (ls : List (List ℕ)). paragraph false ls ∷ map spelled (told_here (line ∷ others))) (sym (append-nil before))

goes_on : (front : List ℕ) (c : ℕ) (cs : List ℕ) (lines texts : List (List ℕ)) (line : List ℕ) (others : List (List ℕ)) → is_blank front ≡ true → is_special c ≡ false → ReadsOn lines texts line others
    → ReadsOn ((front ++ c ∷ cs) ∷ lines) ((c ∷ cs) ∷ texts) line others
goes_on front c cs lines texts line others blank h later column b cells bs more before e are =
    let words = at column (b ∷ bs) ∷ more in
    let found = gone_on front c cells cs blank h in
    let text = at found.0 (c ∷ cs) in
    let counted = cell_count (c ∷ cs) in
    ap (map spelled) (line_read (inside_of [] false words) ParagraphLeaf ParagraphLeaf cells counted GoesOn text (front ++ c ∷ cs) (lines ++ line ∷ others) found.1)
    ∙ ap (λ (g : Gathering). map spelled (ended g (events_from (state_with ParagraphLeaf counted) (lines ++ line ∷ others)))) (words_after_inside [] false words text)
    ∙ later column b counted bs (more ++ text ∷ []) (before ++ (c ∷ cs) ∷ []) e (lines_more words before found.0 c cs are)
    ∙ ap (λ (ls : List (List ℕ)). paragraph false ls ∷ map spelled (told_here (line ∷ others))) (append_assoc before ((c ∷ cs) ∷ []) texts)

reads_on : (lines texts : List (List ℕ)) (line : List ℕ) (others : List (List ℕ)) → AreWords false lines texts → EndsWords line → ReadsOn lines texts line others
reads_on [] [] line others h i = ends_here line others i
reads_on [] (t ∷ texts) line others h i = absurd h
reads_on (l ∷ lines) [] line others h i = absurd h
reads_on (l ∷ lines) ([] ∷ texts) line others h i = absurd h
reads_on (l ∷ lines) ((c ∷ cs) ∷ texts) line others h i =
    subst (λ (t : List ℕ). ReadsOn (t ∷ lines) ((c ∷ cs) ∷ texts) line others) (sym h.1.whole) (goes_on h.1.front c cs lines texts line others h.1.blank h.0 (reads_on lines texts line others h.2 i))

begins_on : (indent c : ℕ) (cs : List ℕ) (lines texts : List (List ℕ)) (line : List ℕ) (others : List (List ℕ)) → indent < 4 → is_special c ≡ false → ReadsOn lines texts line others
    → map spelled (told_here ((replicate indent 32 ++ c ∷ cs) ∷ (lines ++ line ∷ others))) ≡ paragraph false ((c ∷ cs) ∷ texts) ∷ map spelled (told_here (line ∷ others))
begins_on indent c cs lines texts line others few h later =
    let text = at indent (c ∷ cs) in
    let counted = cell_count (c ∷ cs) in
    ap (map spelled) (line_read nothing_told NothingLeaf ParagraphLeaf 0 counted (Begins ParagraphLeaf) text (replicate indent 32 ++ c ∷ cs) (lines ++ line ∷ others) (begun indent c 0 cs few h))
    ∙ ap (λ (g : Gathering). map spelled (ended g (events_from (state_with ParagraphLeaf counted) (lines ++ line ∷ others)))) (words_after_outside [] false false text)
    ∙ later indent c counted cs [] ((c ∷ cs) ∷ []) (no_sign c 91 refl h) refl

begins_by : (first one : List ℕ) (lines texts : List (List ℕ)) (line : List ℕ) (others : List (List ℕ)) → AreWords true (first ∷ lines) (one ∷ texts) → EndsWords line
    → map spelled (told_here (first ∷ (lines ++ line ∷ others))) ≡ paragraph false (one ∷ texts) ∷ map spelled (told_here (line ∷ others))
begins_by first [] lines texts line others h i = absurd h
begins_by first (c ∷ cs) lines texts line others h i =
    let few = h.1.few refl in
    ap (λ (l : List ℕ). map spelled (told_here (l ∷ (lines ++ line ∷ others)))) (h.1.whole ∙ ap (λ (bs : List ℕ). bs ++ c ∷ cs) few.2)
    ∙ begins_on few.0 c cs lines texts line others few.1 h.0 (reads_on lines texts line others h.2 i)

-- a heading or code between fences ends a paragraph
pub ends_at_mark : ParagraphEndsAtMark
ends_at_mark text after first one mark lines texts others are h here m =
    ap (map spelled) (read_of text ∙ ap (λ (ls : List (List ℕ)). told_here ls) (are ∙ ap (λ (ls : List (List ℕ)). first ∷ (lines ++ ls)) here))
    ∙ begins_by first one lines texts mark others h (mark_ends mark m)
    ∙ ap (λ (ps : List PartContent). paragraph false (one ∷ texts) ∷ map spelled ps) (sym (read_of after ∙ ap (λ (ls : List (List ℕ)). told_here ls) here))
